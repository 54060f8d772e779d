use Rattle.vv_data.specs.Layout.{chunks_at}
use Rattle.std.proofs.Common.{◌≡◌, ℕ, [], ◌∷◌, IfSome, length, option_map, ◌∙◌, ap, subst, arith}
use Rattle.vv_units.specs.declared.geometry.Geometry.{Geometry}
use Rattle.vv_disk.specs.Images.{overwritten, EachImage, ToldWithin}
use Rattle.vv_disk.proofs.Moments.{leaves_weaker, leaves_joined}
use Rattle.vv_journal.specs.Half.{gates_at}
use Rattle.vv_journal.specs.Calls.{ChangedWithin, HoldsEither}
use Rattle.vv_journal.specs.Switches.{SwitchingState, HasTables, switched_log}
use Rattle.vv_journal.proofs.Appended.{Stands}
use Rattle.vv_journal.proofs.Crash.{on_err, told_wider, told_twice}
use Rattle.vv_journal.proofs.Switched.{Ready, other_over, selected, selected_either, shut_either, tables_stand}
use Rattle.vv_journal.proofs.journal.Journal.end_switch.Goals as goal

pub returns-in_err-put_settled-clause-err : goal.returns-in_err-put_settled-clause-err
returns-in_err-put_settled-clause-err g c = on_err c.from_residual.result _ (λ honest log tables switch each was.
    let at_gates : c.gates_start.result ≡ gates_at c.args.switching.geometry c.args.switching.half = c.gates_start.ensures.start ∙ ap (λ (m : Geometry). gates_at m c.target-half.result.1) c.target-half.ensures.geometry ∙ ap (λ (h : ℕ). gates_at c.args.switching.geometry h) c.target-half.ensures.half in
    let over = other_over log (g.D.Disk.is_image c.args.disk.now) each c.args.switching switch c.gates_start.result (length c.shut_gates.result) (omega (arith, at_gates)) (omega (arith, at_gates, c.shut_gates.ensures.size)) in
    λ image left. shut_either log tables (g.D.Disk.is_image c.args.disk.now) image (over image (c.put_settled.ensures.each honest image left)))

pub returns-in_err-put_settled-clause-any_moment : goal.returns-in_err-put_settled-clause-any_moment
returns-in_err-put_settled-clause-any_moment g c = λ honest log tables switch each was.
    let at_gates : c.gates_start.result ≡ gates_at c.args.switching.geometry c.args.switching.half = c.gates_start.ensures.start ∙ ap (λ (m : Geometry). gates_at m c.target-half.result.1) c.target-half.ensures.geometry ∙ ap (λ (h : ℕ). gates_at c.args.switching.geometry h) c.target-half.ensures.half in
    let over = other_over log (g.D.Disk.is_image c.args.disk.now) each c.args.switching switch c.gates_start.result (length c.shut_gates.result) (omega (arith, at_gates)) (omega (arith, at_gates, c.shut_gates.ensures.size)) in
    let shut = leaves_weaker g.D.Disk.moment g.D.Disk.left_since c.args.disk.now c.put_settled.new.disk (ChangedWithin c.gates_start.result (length c.shut_gates.result) (g.D.Disk.is_image c.args.disk.now)) (HoldsEither log (switched_log log tables) (g.D.Disk.is_image c.args.disk.now)) (λ image changed. shut_either log tables (g.D.Disk.is_image c.args.disk.now) image (over image changed)) (c.put_settled.ensures.any_moment honest) in
    shut

pub returns-in_err-put_settled-2-clause-err : goal.returns-in_err-put_settled-2-clause-err
returns-in_err-put_settled-2-clause-err g c = on_err c.from_residual-in_err-put_settled-2.result _ (λ honest log tables switch each was.
    let at_gates : c.gates_start.result ≡ gates_at c.args.switching.geometry c.args.switching.half = c.gates_start.ensures.start ∙ ap (λ (m : Geometry). gates_at m c.target-half.result.1) c.target-half.ensures.geometry ∙ ap (λ (h : ℕ). gates_at c.args.switching.geometry h) c.target-half.ensures.half in
    let over = other_over log (g.D.Disk.is_image c.args.disk.now) each c.args.switching switch c.gates_start.result (length c.shut_gates.result) (omega (arith, at_gates)) (omega (arith, at_gates, c.shut_gates.ensures.size)) in
    let honest_mid = c.put_settled.ensures.honesty.1 honest in
    let told = g.met.D.Disk.content_is_image c.args.disk.now honest in
    let has : HasTables c.args.switching tables told.0 = subst (λ t. IfSome t (HasTables c.args.switching tables)) told.1 was in
    let content = c.in_ok-put_settled.ensures.ok ∙ ap (option_map (λ d. overwritten d c.gates_start.result c.shut_gates.result)) told.1 in
    let stands = tables_stand log c.args.switching tables told.0 c.shut_gates.result c.gates_start.result switch c.requires.whole c.target-half.ensures.fits at_gates has c.shut_gates.ensures.size c.shut_gates.ensures.shut (each told.0 told.2) in
    let ready : EachImage (Ready log tables (g.D.Disk.is_image c.args.disk.now)) (g.D.Disk.is_image c.put_settled.new.disk) = λ image left.
    let kept = over image (c.put_settled.ensures.each honest image left) in
    let is = c.in_ok-put_settled.ensures.only honest image left in
    let same : overwritten told.0 c.gates_start.result c.shut_gates.result ≡ image = cc in
    record { holds = kept.0; stands = subst (λ d. Stands (switched_log log tables) d) same stands; chunks = kept.1 } in
    let either = selected_either log tables (g.D.Disk.is_image c.args.disk.now) (g.D.Disk.is_image c.put_settled.new.disk) ready in
    λ image left. either image (c.put_settled-2.ensures.each honest_mid image left))

pub returns-in_err-put_settled-2-clause-any_moment : goal.returns-in_err-put_settled-2-clause-any_moment
returns-in_err-put_settled-2-clause-any_moment g c = λ honest log tables switch each was.
    let at_gates : c.gates_start.result ≡ gates_at c.args.switching.geometry c.args.switching.half = c.gates_start.ensures.start ∙ ap (λ (m : Geometry). gates_at m c.target-half.result.1) c.target-half.ensures.geometry ∙ ap (λ (h : ℕ). gates_at c.args.switching.geometry h) c.target-half.ensures.half in
    let over = other_over log (g.D.Disk.is_image c.args.disk.now) each c.args.switching switch c.gates_start.result (length c.shut_gates.result) (omega (arith, at_gates)) (omega (arith, at_gates, c.shut_gates.ensures.size)) in
    let shut = leaves_weaker g.D.Disk.moment g.D.Disk.left_since c.args.disk.now c.put_settled.new.disk (ChangedWithin c.gates_start.result (length c.shut_gates.result) (g.D.Disk.is_image c.args.disk.now)) (HoldsEither log (switched_log log tables) (g.D.Disk.is_image c.args.disk.now)) (λ image changed. shut_either log tables (g.D.Disk.is_image c.args.disk.now) image (over image changed)) (c.put_settled.ensures.any_moment honest) in
    let honest_mid = c.put_settled.ensures.honesty.1 honest in
    let told = g.met.D.Disk.content_is_image c.args.disk.now honest in
    let has : HasTables c.args.switching tables told.0 = subst (λ t. IfSome t (HasTables c.args.switching tables)) told.1 was in
    let content = c.in_ok-put_settled.ensures.ok ∙ ap (option_map (λ d. overwritten d c.gates_start.result c.shut_gates.result)) told.1 in
    let stands = tables_stand log c.args.switching tables told.0 c.shut_gates.result c.gates_start.result switch c.requires.whole c.target-half.ensures.fits at_gates has c.shut_gates.ensures.size c.shut_gates.ensures.shut (each told.0 told.2) in
    let ready : EachImage (Ready log tables (g.D.Disk.is_image c.args.disk.now)) (g.D.Disk.is_image c.put_settled.new.disk) = λ image left.
    let kept = over image (c.put_settled.ensures.each honest image left) in
    let is = c.in_ok-put_settled.ensures.only honest image left in
    let same : overwritten told.0 c.gates_start.result c.shut_gates.result ≡ image = cc in
    record { holds = kept.0; stands = subst (λ d. Stands (switched_log log tables) d) same stands; chunks = kept.1 } in
    let either = selected_either log tables (g.D.Disk.is_image c.args.disk.now) (g.D.Disk.is_image c.put_settled.new.disk) ready in
    let then = leaves_weaker g.D.Disk.moment g.D.Disk.left_since c.put_settled.new.disk c.put_settled-2.new.disk (ChangedWithin 512 1 (g.D.Disk.is_image c.put_settled.new.disk)) (HoldsEither log (switched_log log tables) (g.D.Disk.is_image c.args.disk.now)) either (c.put_settled-2.ensures.any_moment honest_mid) in
    leaves_joined g.D.Disk.moment g.D.Disk.left_since c.args.disk.now c.put_settled.new.disk c.put_settled-2.new.disk (HoldsEither log (switched_log log tables) (g.D.Disk.is_image c.args.disk.now)) shut then

pub returns-clause-any_moment : goal.returns-clause-any_moment
returns-clause-any_moment g c = λ honest log tables switch each was.
    let at_gates : c.gates_start.result ≡ gates_at c.args.switching.geometry c.args.switching.half = c.gates_start.ensures.start ∙ ap (λ (m : Geometry). gates_at m c.target-half.result.1) c.target-half.ensures.geometry ∙ ap (λ (h : ℕ). gates_at c.args.switching.geometry h) c.target-half.ensures.half in
    let over = other_over log (g.D.Disk.is_image c.args.disk.now) each c.args.switching switch c.gates_start.result (length c.shut_gates.result) (omega (arith, at_gates)) (omega (arith, at_gates, c.shut_gates.ensures.size)) in
    let shut = leaves_weaker g.D.Disk.moment g.D.Disk.left_since c.args.disk.now c.put_settled.new.disk (ChangedWithin c.gates_start.result (length c.shut_gates.result) (g.D.Disk.is_image c.args.disk.now)) (HoldsEither log (switched_log log tables) (g.D.Disk.is_image c.args.disk.now)) (λ image changed. shut_either log tables (g.D.Disk.is_image c.args.disk.now) image (over image changed)) (c.put_settled.ensures.any_moment honest) in
    let honest_mid = c.put_settled.ensures.honesty.1 honest in
    let told = g.met.D.Disk.content_is_image c.args.disk.now honest in
    let has : HasTables c.args.switching tables told.0 = subst (λ t. IfSome t (HasTables c.args.switching tables)) told.1 was in
    let content = c.in_ok-put_settled.ensures.ok ∙ ap (option_map (λ d. overwritten d c.gates_start.result c.shut_gates.result)) told.1 in
    let stands = tables_stand log c.args.switching tables told.0 c.shut_gates.result c.gates_start.result switch c.requires.whole c.target-half.ensures.fits at_gates has c.shut_gates.ensures.size c.shut_gates.ensures.shut (each told.0 told.2) in
    let ready : EachImage (Ready log tables (g.D.Disk.is_image c.args.disk.now)) (g.D.Disk.is_image c.put_settled.new.disk) = λ image left.
    let kept = over image (c.put_settled.ensures.each honest image left) in
    let is = c.in_ok-put_settled.ensures.only honest image left in
    let same : overwritten told.0 c.gates_start.result c.shut_gates.result ≡ image = cc in
    record { holds = kept.0; stands = subst (λ d. Stands (switched_log log tables) d) same stands; chunks = kept.1 } in
    let either = selected_either log tables (g.D.Disk.is_image c.args.disk.now) (g.D.Disk.is_image c.put_settled.new.disk) ready in
    let then = leaves_weaker g.D.Disk.moment g.D.Disk.left_since c.put_settled.new.disk c.put_settled-2.new.disk (ChangedWithin 512 1 (g.D.Disk.is_image c.put_settled.new.disk)) (HoldsEither log (switched_log log tables) (g.D.Disk.is_image c.args.disk.now)) either (c.put_settled-2.ensures.any_moment honest_mid) in
    leaves_joined g.D.Disk.moment g.D.Disk.left_since c.args.disk.now c.put_settled.new.disk c.put_settled-2.new.disk (HoldsEither log (switched_log log tables) (g.D.Disk.is_image c.args.disk.now)) shut then

pub returns-clause-ok : goal.returns-clause-ok
returns-clause-ok g c = λ honest log tables switch each was.
    let at_gates : c.gates_start.result ≡ gates_at c.args.switching.geometry c.args.switching.half = c.gates_start.ensures.start ∙ ap (λ (m : Geometry). gates_at m c.target-half.result.1) c.target-half.ensures.geometry ∙ ap (λ (h : ℕ). gates_at c.args.switching.geometry h) c.target-half.ensures.half in
    let over = other_over log (g.D.Disk.is_image c.args.disk.now) each c.args.switching switch c.gates_start.result (length c.shut_gates.result) (omega (arith, at_gates)) (omega (arith, at_gates, c.shut_gates.ensures.size)) in
    let honest_mid = c.put_settled.ensures.honesty.1 honest in
    let told = g.met.D.Disk.content_is_image c.args.disk.now honest in
    let has : HasTables c.args.switching tables told.0 = subst (λ t. IfSome t (HasTables c.args.switching tables)) told.1 was in
    let content = c.in_ok-put_settled.ensures.ok ∙ ap (option_map (λ d. overwritten d c.gates_start.result c.shut_gates.result)) told.1 in
    let stands = tables_stand log c.args.switching tables told.0 c.shut_gates.result c.gates_start.result switch c.requires.whole c.target-half.ensures.fits at_gates has c.shut_gates.ensures.size c.shut_gates.ensures.shut (each told.0 told.2) in
    let ready : EachImage (Ready log tables (g.D.Disk.is_image c.args.disk.now)) (g.D.Disk.is_image c.put_settled.new.disk) = λ image left.
    let kept = over image (c.put_settled.ensures.each honest image left) in
    let is = c.in_ok-put_settled.ensures.only honest image left in
    let same : overwritten told.0 c.gates_start.result c.shut_gates.result ≡ image = cc in
    record { holds = kept.0; stands = subst (λ d. Stands (switched_log log tables) d) same stands; chunks = kept.1 } in
    let either = selected_either log tables (g.D.Disk.is_image c.args.disk.now) (g.D.Disk.is_image c.put_settled.new.disk) ready in
    let mids = g.met.D.Disk.content_is_image c.put_settled.new.disk honest_mid in
    let half = c.target-half.ensures.half ∙ ap (λ (s : SwitchingState). s.half) switch in
    selected log tables (g.D.Disk.is_image c.args.disk.now) c.target-half.result.1 mids.0 (g.D.Disk.content c.put_settled-2.new.disk) (g.D.Disk.is_image c.put_settled-2.new.disk) half (ready mids.0 mids.2)
    (c.in_ok-put_settled-2.ensures.ok ∙ ap (option_map (λ d. overwritten d 512 (c.target-half.result.1 ∷ []))) mids.1)
    (c.in_ok-put_settled-2.ensures.only honest_mid)

pub returns-in_err-put_settled-clause-told : goal.returns-in_err-put_settled-clause-told
returns-in_err-put_settled-clause-told g c =
    let first = subst (λ (m : Geometry). ToldWithin 0 (chunks_at m) (g.D.Disk.content c.args.disk.now) (g.D.Disk.content c.put_settled.new.disk)) c.target-half.ensures.geometry
    (told_wider c.gates_start.result (length c.shut_gates.result) 0 (chunks_at c.target-half.result.0) (g.D.Disk.content c.args.disk.now) (g.D.Disk.content c.put_settled.new.disk) (omega arith) (omega (arith, c.gates_start.ensures.fits, c.shut_gates.ensures.size)) c.put_settled.ensures.told) in
    first

pub returns-in_err-put_settled-2-clause-told : goal.returns-in_err-put_settled-2-clause-told
returns-in_err-put_settled-2-clause-told g c =
    let first = subst (λ (m : Geometry). ToldWithin 0 (chunks_at m) (g.D.Disk.content c.args.disk.now) (g.D.Disk.content c.put_settled.new.disk)) c.target-half.ensures.geometry
    (told_wider c.gates_start.result (length c.shut_gates.result) 0 (chunks_at c.target-half.result.0) (g.D.Disk.content c.args.disk.now) (g.D.Disk.content c.put_settled.new.disk) (omega arith) (omega (arith, c.gates_start.ensures.fits, c.shut_gates.ensures.size)) c.put_settled.ensures.told) in
    let second = told_wider 512 1 0 (chunks_at c.args.switching.geometry) (g.D.Disk.content c.put_settled.new.disk) (g.D.Disk.content c.put_settled-2.new.disk) (omega arith) (omega arith) c.put_settled-2.ensures.told in
    told_twice 0 (chunks_at c.args.switching.geometry) (g.D.Disk.content c.args.disk.now) (g.D.Disk.content c.put_settled.new.disk) (g.D.Disk.content c.put_settled-2.new.disk) first second

pub returns-clause-told : goal.returns-clause-told
returns-clause-told g c =
    let first = subst (λ (m : Geometry). ToldWithin 0 (chunks_at m) (g.D.Disk.content c.args.disk.now) (g.D.Disk.content c.put_settled.new.disk)) c.target-half.ensures.geometry
    (told_wider c.gates_start.result (length c.shut_gates.result) 0 (chunks_at c.target-half.result.0) (g.D.Disk.content c.args.disk.now) (g.D.Disk.content c.put_settled.new.disk) (omega arith) (omega (arith, c.gates_start.ensures.fits, c.shut_gates.ensures.size)) c.put_settled.ensures.told) in
    let second = told_wider 512 1 0 (chunks_at c.args.switching.geometry) (g.D.Disk.content c.put_settled.new.disk) (g.D.Disk.content c.put_settled-2.new.disk) (omega arith) (omega arith) c.put_settled-2.ensures.told in
    told_twice 0 (chunks_at c.args.switching.geometry) (g.D.Disk.content c.args.disk.now) (g.D.Disk.content c.put_settled.new.disk) (g.D.Disk.content c.put_settled-2.new.disk) first second
