use Rattle.std.proofs.Common.{◌≡◌, ◌-◌, ◌<◌, [], ◌∷◌, length, IfSome, option_map, ◌∙◌, ap, subst, arith}
use Rattle.vv_disk.specs.Images.{EachImage, overwritten}
use Rattle.vv_disk.proofs.Moments.{leaves_weaker, leaves_joined}
use Rattle.vv_data.specs.Layout.{half_at}
use Rattle.vv_journal.specs.Log.{Holds, fresh_log}
use Rattle.vv_journal.specs.Calls.{ChangedWithin, IsBeingMade}
use Rattle.vv_journal.proofs.Crash.{changed_wider, changed_twice, told_wider, told_twice}
use Rattle.vv_journal.proofs.Formatted.{being_cleared, being_filled, being_set}
use Rattle.vv_journal.proofs.fresh.format.Goals as goal

pub returns-in_err-put_settled-clause-any_moment : goal.returns-in_err-put_settled-clause-any_moment
returns-in_err-put_settled-clause-any_moment g c = λ honest.
    let tables = c.args.empty.now in
    let images = g.D.Disk.is_image c.args.disk.now in
    let moment = g.D.Disk.moment in
    let left_since = g.D.Disk.left_since in
    let P = IsBeingMade c.args.geometry tables images in
    let clearing = leaves_weaker moment left_since c.args.disk.now c.put_settled.new.disk (ChangedWithin 0 1 images) P (being_cleared c.args.geometry tables images) (c.put_settled.ensures.any_moment honest) in
    clearing

pub returns-in_err-put_fresh-clause-any_moment : goal.returns-in_err-put_fresh-clause-any_moment
returns-in_err-put_fresh-clause-any_moment g c = λ honest.
    let tables = c.args.empty.now in
    let images = g.D.Disk.is_image c.args.disk.now in
    let moment = g.D.Disk.moment in
    let left_since = g.D.Disk.left_since in
    let P = IsBeingMade c.args.geometry tables images in
    let clearing = leaves_weaker moment left_since c.args.disk.now c.put_settled.new.disk (ChangedWithin 0 1 images) P (being_cleared c.args.geometry tables images) (c.put_settled.ensures.any_moment honest) in
    let half = half_at c.args.geometry 1 in
    let first = c.put_settled.new.disk in
    let told = g.met.D.Disk.content_is_image c.args.disk.now honest in
    let size = g.met.D.Disk.image_fits c.args.disk.now told.0 honest told.2 in
    let long : 0 < length told.0 = omega (arith, size, c.requires.disk) in
    let cleared_told = c.in_ok-put_settled.ensures.ok ∙ ap (option_map (λ d. overwritten d 0 (0 ∷ []))) told.1 in
    let honest_first = c.put_settled.ensures.honesty.1 honest in
    let each : EachImage (ChangedWithin 0 half images) (g.D.Disk.is_image first) = λ image left. changed_wider 0 1 0 half images (omega arith) (omega arith) image (c.put_settled.ensures.each honest image left) in
    let filled = c.put_fresh.ensures.any_moment honest_first in
    let filling = leaves_weaker moment left_since first c.put_fresh.new.disk (ChangedWithin 1 (half - 1) (g.D.Disk.is_image first)) P (being_filled c.args.geometry tables images told.0 (g.D.Disk.content first) (g.D.Disk.is_image first) long cleared_told (c.in_ok-put_settled.ensures.only honest) each) filled in
    let so_far = leaves_joined moment left_since c.args.disk.now first c.put_fresh.new.disk P clearing filling in
    so_far

pub returns-in_err-put_settled-2-clause-any_moment : goal.returns-in_err-put_settled-2-clause-any_moment
returns-in_err-put_settled-2-clause-any_moment g c = λ honest.
    let tables = c.args.empty.now in
    let images = g.D.Disk.is_image c.args.disk.now in
    let moment = g.D.Disk.moment in
    let left_since = g.D.Disk.left_since in
    let P = IsBeingMade c.args.geometry tables images in
    let clearing = leaves_weaker moment left_since c.args.disk.now c.put_settled.new.disk (ChangedWithin 0 1 images) P (being_cleared c.args.geometry tables images) (c.put_settled.ensures.any_moment honest) in
    let half = half_at c.args.geometry 1 in
    let first = c.put_settled.new.disk in
    let told = g.met.D.Disk.content_is_image c.args.disk.now honest in
    let size = g.met.D.Disk.image_fits c.args.disk.now told.0 honest told.2 in
    let long : 0 < length told.0 = omega (arith, size, c.requires.disk) in
    let cleared_told = c.in_ok-put_settled.ensures.ok ∙ ap (option_map (λ d. overwritten d 0 (0 ∷ []))) told.1 in
    let honest_first = c.put_settled.ensures.honesty.1 honest in
    let each : EachImage (ChangedWithin 0 half images) (g.D.Disk.is_image first) = λ image left. changed_wider 0 1 0 half images (omega arith) (omega arith) image (c.put_settled.ensures.each honest image left) in
    let filled = c.put_fresh.ensures.any_moment honest_first in
    let filling = leaves_weaker moment left_since first c.put_fresh.new.disk (ChangedWithin 1 (half - 1) (g.D.Disk.is_image first)) P (being_filled c.args.geometry tables images told.0 (g.D.Disk.content first) (g.D.Disk.is_image first) long cleared_told (c.in_ok-put_settled.ensures.only honest) each) filled in
    let so_far = leaves_joined moment left_since c.args.disk.now first c.put_fresh.new.disk P clearing filling in
    let second = c.put_fresh.new.disk in
    let honest_second = c.put_fresh.ensures.honesty.1 honest_first in
    let last = g.met.D.Disk.content_is_image second honest_second in
    let last_size = g.met.D.Disk.image_fits second last.0 honest_second last.2 in
    let last_long : 0 < length last.0 = omega (arith, last_size, c.put_fresh.ensures.len, c.put_settled.ensures.len, c.requires.disk) in
    let stands : Holds (fresh_log c.args.geometry tables) (overwritten last.0 0 (165 ∷ [])) = subst (λ t. IfSome t (λ d. Holds (fresh_log c.args.geometry tables) (overwritten d 0 (165 ∷ [])))) last.1 c.in_ok-put_fresh.ensures.stands in
    let each_second : EachImage (ChangedWithin 0 half images) (g.D.Disk.is_image second) = λ image left. changed_twice 1 (half - 1) 0 half images (g.D.Disk.is_image first) (omega arith) (omega arith) each image (filled.each image (g.met.D.Disk.counts_now second (moment first) image filled.later left)) in
    let setting = leaves_weaker moment left_since second c.put_settled-2.new.disk (ChangedWithin 0 1 (g.D.Disk.is_image second)) P (being_set c.args.geometry tables images last.0 (g.D.Disk.content second) (g.D.Disk.is_image second) last_long last.1 stands (c.in_ok-put_fresh.ensures.only honest_first) each_second) (c.put_settled-2.ensures.any_moment honest_second) in
    leaves_joined moment left_since c.args.disk.now second c.put_settled-2.new.disk P so_far setting

pub returns-clause-any_moment : goal.returns-clause-any_moment
returns-clause-any_moment g c = λ honest.
    let tables = c.args.empty.now in
    let images = g.D.Disk.is_image c.args.disk.now in
    let moment = g.D.Disk.moment in
    let left_since = g.D.Disk.left_since in
    let P = IsBeingMade c.args.geometry tables images in
    let clearing = leaves_weaker moment left_since c.args.disk.now c.put_settled.new.disk (ChangedWithin 0 1 images) P (being_cleared c.args.geometry tables images) (c.put_settled.ensures.any_moment honest) in
    let half = half_at c.args.geometry 1 in
    let first = c.put_settled.new.disk in
    let told = g.met.D.Disk.content_is_image c.args.disk.now honest in
    let size = g.met.D.Disk.image_fits c.args.disk.now told.0 honest told.2 in
    let long : 0 < length told.0 = omega (arith, size, c.requires.disk) in
    let cleared_told = c.in_ok-put_settled.ensures.ok ∙ ap (option_map (λ d. overwritten d 0 (0 ∷ []))) told.1 in
    let honest_first = c.put_settled.ensures.honesty.1 honest in
    let each : EachImage (ChangedWithin 0 half images) (g.D.Disk.is_image first) = λ image left. changed_wider 0 1 0 half images (omega arith) (omega arith) image (c.put_settled.ensures.each honest image left) in
    let filled = c.put_fresh.ensures.any_moment honest_first in
    let filling = leaves_weaker moment left_since first c.put_fresh.new.disk (ChangedWithin 1 (half - 1) (g.D.Disk.is_image first)) P (being_filled c.args.geometry tables images told.0 (g.D.Disk.content first) (g.D.Disk.is_image first) long cleared_told (c.in_ok-put_settled.ensures.only honest) each) filled in
    let so_far = leaves_joined moment left_since c.args.disk.now first c.put_fresh.new.disk P clearing filling in
    let second = c.put_fresh.new.disk in
    let honest_second = c.put_fresh.ensures.honesty.1 honest_first in
    let last = g.met.D.Disk.content_is_image second honest_second in
    let last_size = g.met.D.Disk.image_fits second last.0 honest_second last.2 in
    let last_long : 0 < length last.0 = omega (arith, last_size, c.put_fresh.ensures.len, c.put_settled.ensures.len, c.requires.disk) in
    let stands : Holds (fresh_log c.args.geometry tables) (overwritten last.0 0 (165 ∷ [])) = subst (λ t. IfSome t (λ d. Holds (fresh_log c.args.geometry tables) (overwritten d 0 (165 ∷ [])))) last.1 c.in_ok-put_fresh.ensures.stands in
    let each_second : EachImage (ChangedWithin 0 half images) (g.D.Disk.is_image second) = λ image left. changed_twice 1 (half - 1) 0 half images (g.D.Disk.is_image first) (omega arith) (omega arith) each image (filled.each image (g.met.D.Disk.counts_now second (moment first) image filled.later left)) in
    let setting = leaves_weaker moment left_since second c.put_settled-2.new.disk (ChangedWithin 0 1 (g.D.Disk.is_image second)) P (being_set c.args.geometry tables images last.0 (g.D.Disk.content second) (g.D.Disk.is_image second) last_long last.1 stands (c.in_ok-put_fresh.ensures.only honest_first) each_second) (c.put_settled-2.ensures.any_moment honest_second) in
    leaves_joined moment left_since c.args.disk.now second c.put_settled-2.new.disk P so_far setting

pub returns-clause-ok : goal.returns-clause-ok
returns-clause-ok g c = λ honest image left.
    let tables = c.args.empty.now in
    let honest_first = c.put_settled.ensures.honesty.1 honest in
    let second = c.put_fresh.new.disk in
    let honest_second = c.put_fresh.ensures.honesty.1 honest_first in
    let last = g.met.D.Disk.content_is_image second honest_second in
    let stands : Holds (fresh_log c.args.geometry tables) (overwritten last.0 0 (165 ∷ [])) = subst (λ t. IfSome t (λ d. Holds (fresh_log c.args.geometry tables) (overwritten d 0 (165 ∷ [])))) last.1 c.in_ok-put_fresh.ensures.stands in
    let set_told = c.in_ok-put_settled-2.ensures.ok ∙ ap (option_map (λ d. overwritten d 0 (165 ∷ []))) last.1 in
    let is = c.in_ok-put_settled-2.ensures.only honest_second image left in
    let same : overwritten last.0 0 (165 ∷ []) ≡ image = cc in
    subst (Holds (fresh_log c.args.geometry tables)) same stands

pub returns-in_err-put_settled-clause-told : goal.returns-in_err-put_settled-clause-told
returns-in_err-put_settled-clause-told g c =
    told_wider 0 1 0 (half_at c.args.geometry 1) (g.D.Disk.content c.args.disk.now) (g.D.Disk.content c.put_settled.new.disk) (omega arith) (omega arith) c.put_settled.ensures.told

pub returns-in_err-put_fresh-clause-told : goal.returns-in_err-put_fresh-clause-told
returns-in_err-put_fresh-clause-told g c =
    let half = half_at c.args.geometry 1 in
    let cleared = told_wider 0 1 0 half (g.D.Disk.content c.args.disk.now) (g.D.Disk.content c.put_settled.new.disk) (omega arith) (omega arith) c.put_settled.ensures.told in
    let filled = told_wider 1 (half - 1) 0 half (g.D.Disk.content c.put_settled.new.disk) (g.D.Disk.content c.put_fresh.new.disk) (omega arith) (omega arith) c.put_fresh.ensures.told in
    let both = told_twice 0 half (g.D.Disk.content c.args.disk.now) (g.D.Disk.content c.put_settled.new.disk) (g.D.Disk.content c.put_fresh.new.disk) cleared filled in
    both

pub returns-in_err-put_settled-2-clause-told : goal.returns-in_err-put_settled-2-clause-told
returns-in_err-put_settled-2-clause-told g c =
    let half = half_at c.args.geometry 1 in
    let cleared = told_wider 0 1 0 half (g.D.Disk.content c.args.disk.now) (g.D.Disk.content c.put_settled.new.disk) (omega arith) (omega arith) c.put_settled.ensures.told in
    let filled = told_wider 1 (half - 1) 0 half (g.D.Disk.content c.put_settled.new.disk) (g.D.Disk.content c.put_fresh.new.disk) (omega arith) (omega arith) c.put_fresh.ensures.told in
    let both = told_twice 0 half (g.D.Disk.content c.args.disk.now) (g.D.Disk.content c.put_settled.new.disk) (g.D.Disk.content c.put_fresh.new.disk) cleared filled in
    let set = told_wider 0 1 0 half (g.D.Disk.content c.put_fresh.new.disk) (g.D.Disk.content c.put_settled-2.new.disk) (omega arith) (omega arith) c.put_settled-2.ensures.told in
    told_twice 0 half (g.D.Disk.content c.args.disk.now) (g.D.Disk.content c.put_fresh.new.disk) (g.D.Disk.content c.put_settled-2.new.disk) both set

pub returns-clause-told : goal.returns-clause-told
returns-clause-told g c =
    let half = half_at c.args.geometry 1 in
    let cleared = told_wider 0 1 0 half (g.D.Disk.content c.args.disk.now) (g.D.Disk.content c.put_settled.new.disk) (omega arith) (omega arith) c.put_settled.ensures.told in
    let filled = told_wider 1 (half - 1) 0 half (g.D.Disk.content c.put_settled.new.disk) (g.D.Disk.content c.put_fresh.new.disk) (omega arith) (omega arith) c.put_fresh.ensures.told in
    let both = told_twice 0 half (g.D.Disk.content c.args.disk.now) (g.D.Disk.content c.put_settled.new.disk) (g.D.Disk.content c.put_fresh.new.disk) cleared filled in
    let set = told_wider 0 1 0 half (g.D.Disk.content c.put_fresh.new.disk) (g.D.Disk.content c.put_settled-2.new.disk) (omega arith) (omega arith) c.put_settled-2.ensures.told in
    told_twice 0 half (g.D.Disk.content c.args.disk.now) (g.D.Disk.content c.put_fresh.new.disk) (g.D.Disk.content c.put_settled-2.new.disk) both set
