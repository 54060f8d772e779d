use Rattle.std.proofs.Common.{ℕ, List, option_map, length, arith, ◌∙◌, ap}
use Rattle.vv_disk.specs.Images.{overwritten}
use Rattle.vv_journal.proofs.Bytes.{slot_told}
use Rattle.vv_journal.proofs.Crash.{changed_wider, told_wider, leaves_within}
use Rattle.vv_journal.proofs.Opened.{on_ok_then}
use Rattle.vv_journal.proofs.slot.write_slot.Goals as goal

pub returns-clause-stands : goal.returns-clause-stands
returns-clause-stands g c =
    let slot = c.slot_with-slot.result in
    let payload = c.args.payload.now in
    on_ok_then c.put_settled.result _ _
    (λ is. slot_told slot payload c.slot_with-slot.ensures.size c.requires.payload c.slot_with-slot.ensures.len c.slot_with-slot.ensures.zeros c.slot_with-slot.ensures.payload
    (g.D.Disk.content c.args.disk.now) (g.D.Disk.content c.put_settled.new.disk) (g.D.Disk.size c.args.disk.now) c.args.at
    (λ t told. g.met.D.Disk.content_fits c.args.disk.now t told)
    (is ∙ ap (λ (bytes : List ℕ). option_map (λ (x : List ℕ). overwritten x c.args.at bytes) (g.D.Disk.content c.args.disk.now)) c.split_at.ensures.front)
    c.requires.disk)
    c.put_settled.ensures.ok

pub returns-clause-told : goal.returns-clause-told
returns-clause-told g c =
    told_wider c.args.at (length c.split_at.result.0.now) c.args.at 4096 (g.D.Disk.content c.args.disk.now) (g.D.Disk.content c.put_settled.new.disk) (omega arith) (omega (arith, c.split_at.ensures.front_len, c.requires.payload)) c.put_settled.ensures.told

pub returns-clause-each : goal.returns-clause-each
returns-clause-each g c = λ honest image left.
    changed_wider c.args.at (length c.split_at.result.0.now) c.args.at 4096 (g.D.Disk.is_image c.args.disk.now) (omega arith) (omega (arith, c.split_at.ensures.front_len, c.requires.payload)) image (c.put_settled.ensures.each honest image left)

pub returns-clause-any_moment : goal.returns-clause-any_moment
returns-clause-any_moment g c = λ honest.
    leaves_within g.D.Disk.moment g.D.Disk.left_since c.args.disk.now c.put_settled.new.disk c.args.at (length c.split_at.result.0.now) c.args.at 4096 (g.D.Disk.is_image c.args.disk.now)
    (record { from = omega arith; to = omega (arith, c.split_at.ensures.front_len, c.requires.payload) })
    (c.put_settled.ensures.any_moment honest)
