use Rattle.vv_units.specs.declared.geometry.Geometry.{Geometry}
use Rattle.vv_journal.proofs.Crash.{told_wider}
use Rattle.std.proofs.Common.{[], length, ap, arith, subst}
use Rattle.vv_disk.specs.Images.{overwritten, ToldWithin}
use Rattle.vv_disk.proofs.Moments.{leaves_weaker}
use Rattle.vv_data.specs.Layout.{disk_len, chunks_at}
use Rattle.vv_journal.specs.Calls.{ChangedWithin, HoldsOver}
use Rattle.vv_journal.specs.Switches.{SwitchingState, HasTables}
use Rattle.vv_journal.proofs.Switched.{begun_from, has_begun, other_over, told_any, told_then}
use Rattle.vv_journal.proofs.journal.Journal.begin_switch.Goals as goal

pub returns-in-Ok-clause-each : goal.returns-in-Ok-clause-each
returns-in-Ok-clause-each g c = λ honest log continues each.
    let switch = begun_from log c.args.self.now c.new_switch-switching.result c.args.len continues c.new_switch-switching.ensures in
    let size = c.length_field.ensures.size in
    let over = other_over log (g.D.Disk.is_image c.args.disk.now) each c.new_switch-switching.result switch c.start.result (length c.length_field.result) (omega (arith, c.start.ensures.start)) (omega (arith, c.start.ensures.start, size)) in
    λ image left. over image (c.put.ensures.each honest image left)

pub returns-in-Ok-clause-any_moment : goal.returns-in-Ok-clause-any_moment
returns-in-Ok-clause-any_moment g c = λ honest log continues each.
    let switch = begun_from log c.args.self.now c.new_switch-switching.result c.args.len continues c.new_switch-switching.ensures in
    let size = c.length_field.ensures.size in
    let over = other_over log (g.D.Disk.is_image c.args.disk.now) each c.new_switch-switching.result switch c.start.result (length c.length_field.result) (omega (arith, c.start.ensures.start)) (omega (arith, c.start.ensures.start, size)) in
    leaves_weaker g.D.Disk.moment g.D.Disk.left_since c.args.disk.now c.put.new.disk (ChangedWithin c.start.result (length c.length_field.result) (g.D.Disk.is_image c.args.disk.now)) (HoldsOver log (g.D.Disk.is_image c.args.disk.now)) over (c.put.ensures.any_moment honest)

pub returns-in-Err-clause-each : goal.returns-in-Err-clause-each
returns-in-Err-clause-each g c = λ honest log continues each.
    let switch = begun_from log c.args.self.now c.new_switch-switching.result c.args.len continues c.new_switch-switching.ensures in
    let size = c.length_field.ensures.size in
    let over = other_over log (g.D.Disk.is_image c.args.disk.now) each c.new_switch-switching.result switch c.start.result (length c.length_field.result) (omega (arith, c.start.ensures.start)) (omega (arith, c.start.ensures.start, size)) in
    λ image left. over image (c.put.ensures.each honest image left)

pub returns-in-Err-clause-any_moment : goal.returns-in-Err-clause-any_moment
returns-in-Err-clause-any_moment g c = λ honest log continues each.
    let switch = begun_from log c.args.self.now c.new_switch-switching.result c.args.len continues c.new_switch-switching.ensures in
    let size = c.length_field.ensures.size in
    let over = other_over log (g.D.Disk.is_image c.args.disk.now) each c.new_switch-switching.result switch c.start.result (length c.length_field.result) (omega (arith, c.start.ensures.start)) (omega (arith, c.start.ensures.start, size)) in
    leaves_weaker g.D.Disk.moment g.D.Disk.left_since c.args.disk.now c.put.new.disk (ChangedWithin c.start.result (length c.length_field.result) (g.D.Disk.is_image c.args.disk.now)) (HoldsOver log (g.D.Disk.is_image c.args.disk.now)) over (c.put.ensures.any_moment honest)

pub returns-in-Ok-clause-tables : goal.returns-in-Ok-clause-tables
returns-in-Ok-clause-tables g c =
    let is = c.new_switch-switching.ensures in
    let none = ap (λ (s : SwitchingState). s.done) is in
    let len = ap (λ (s : SwitchingState). s.len) is in
    let place = ap (λ (s : SwitchingState). s.geometry) is in
    let same_len = ap disk_len place in
    told_then (g.D.Disk.content c.args.disk.now) (g.D.Disk.content c.put.new.disk) (λ d. overwritten d c.start.result c.length_field.result) (g.D.Disk.size c.args.disk.now) (λ d. Unit {0}) (HasTables c.new_switch-switching.result [])
    (λ d told. g.met.D.Disk.content_fits c.args.disk.now d told)
    c.in-Ok.ensures.ok
    (λ d size was. has_begun c.new_switch-switching.result c.start.result d c.length_field.result c.start.ensures.start none (omega (arith, size, c.requires.disk, c.start.ensures.fits, same_len)) c.length_field.ensures.size (omega (arith, c.length_field.ensures.number, len)))
    (told_any (g.D.Disk.content c.args.disk.now) (λ d. Unit {0}) (λ d. tt))

pub returns-in-Ok-clause-told : goal.returns-in-Ok-clause-told
returns-in-Ok-clause-told g c =
    let place = ap (λ (s : SwitchingState). s.geometry) c.new_switch-switching.ensures in
    subst (λ (m : Geometry). ToldWithin 0 (chunks_at m) (g.D.Disk.content c.args.disk.now) (g.D.Disk.content c.put.new.disk)) place
    (told_wider c.start.result (length c.length_field.result) 0 (chunks_at c.new_switch-switching.result.geometry) (g.D.Disk.content c.args.disk.now) (g.D.Disk.content c.put.new.disk) (omega arith) (omega (arith, c.start.ensures.fits, c.length_field.ensures.size)) c.put.ensures.told)

pub returns-in-Err-clause-told : goal.returns-in-Err-clause-told
returns-in-Err-clause-told g c =
    let place = ap (λ (s : SwitchingState). s.geometry) c.new_switch-switching.ensures in
    subst (λ (m : Geometry). ToldWithin 0 (chunks_at m) (g.D.Disk.content c.args.disk.now) (g.D.Disk.content c.put.new.disk)) place
    (told_wider c.start.result (length c.length_field.result) 0 (chunks_at c.new_switch-switching.result.geometry) (g.D.Disk.content c.args.disk.now) (g.D.Disk.content c.put.new.disk) (omega arith) (omega (arith, c.start.ensures.fits, c.length_field.ensures.size)) c.put.ensures.told)
