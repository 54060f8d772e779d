use Rattle.std.proofs.Common.{◌+◌, ◌<◌, ◌≤◌, [], ◌∷◌, length, option_map, ◌∙◌, ap, subst, arith}
use Rattle.vv_disk.specs.Images.{overwritten}
use Rattle.vv_disk.proofs.Moments.{leaves_weaker, leaves_joined}
use Rattle.vv_data.specs.Layout.{chunks_at, disk_len}
use Rattle.vv_journal.specs.Calls.{JournalState, ChangedWithin, HoldsAppended}
use Rattle.vv_journal.proofs.Crash.{on_err, next_slot, next_gate, slot_either, slot_staged, gate_written_either, gate_opened, told_wider, told_twice}
use Rattle.vv_journal.proofs.journal.Journal.append.Goals as goal

pub returns-in_err-write_slot-clause-err : goal.returns-in_err-write_slot-clause-err
returns-in_err-write_slot-clause-err g c = on_err c.from_residual.result _ (λ honest log continues each.
    let told0 = g.met.D.Disk.content_is_image c.args.disk.now honest in
    let was = g.D.Disk.content c.args.disk.now in
    let images = g.D.Disk.is_image c.args.disk.now in
    let at_slot = c.next_slot-slot.ensures.start ∙ ap (λ (j : JournalState). next_slot j) continues in
    let slot_fits = subst (λ (j : JournalState). c.next_slot-slot.result + 4096 ≤ chunks_at j.geometry) continues c.next_slot-slot.ensures.before_chunks in
    let either = slot_either log c.args.payload.now was told0.0 images told0.1 told0.2 each c.next_slot-slot.result at_slot slot_fits in
    λ image left. either image (c.write_slot.ensures.each honest image left))

pub returns-in_err-write_slot-clause-any_moment : goal.returns-in_err-write_slot-clause-any_moment
returns-in_err-write_slot-clause-any_moment g c = λ honest log continues each.
    let told0 = g.met.D.Disk.content_is_image c.args.disk.now honest in
    let was = g.D.Disk.content c.args.disk.now in
    let images = g.D.Disk.is_image c.args.disk.now in
    let at_slot = c.next_slot-slot.ensures.start ∙ ap (λ (j : JournalState). next_slot j) continues in
    let slot_fits = subst (λ (j : JournalState). c.next_slot-slot.result + 4096 ≤ chunks_at j.geometry) continues c.next_slot-slot.ensures.before_chunks in
    let either = slot_either log c.args.payload.now was told0.0 images told0.1 told0.2 each c.next_slot-slot.result at_slot slot_fits in
    let leaves = leaves_weaker g.D.Disk.moment g.D.Disk.left_since c.args.disk.now c.write_slot.new.disk (ChangedWithin c.next_slot-slot.result 4096 (g.D.Disk.is_image c.args.disk.now)) (HoldsAppended log c.args.payload.now was images) either (c.write_slot.ensures.any_moment honest) in
    leaves

pub returns-in_err-put_settled-clause-err : goal.returns-in_err-put_settled-clause-err
returns-in_err-put_settled-clause-err g c = on_err c.from_residual-in_err-put_settled.result _ (λ honest log continues each.
    let told0 = g.met.D.Disk.content_is_image c.args.disk.now honest in
    let was = g.D.Disk.content c.args.disk.now in
    let images = g.D.Disk.is_image c.args.disk.now in
    let at_slot = c.next_slot-slot.ensures.start ∙ ap (λ (j : JournalState). next_slot j) continues in
    let slot_fits = subst (λ (j : JournalState). c.next_slot-slot.result + 4096 ≤ chunks_at j.geometry) continues c.next_slot-slot.ensures.before_chunks in
    let either = slot_either log c.args.payload.now was told0.0 images told0.1 told0.2 each c.next_slot-slot.result at_slot slot_fits in
    let honest_mid = c.write_slot.ensures.honesty.1 honest in
    let at_gate = c.next_gate-gate.ensures.start ∙ ap (λ (j : JournalState). next_gate j) continues in
    let gate_fits = subst (λ (j : JournalState). c.next_gate-gate.result + 1 ≤ chunks_at j.geometry) continues c.next_gate-gate.ensures.before_chunks in
    let room : length log.records < 256 = subst (λ (j : JournalState). j.records < 256) continues c.requires.room in
    let staged = slot_staged log c.args.payload.now was told0.0 images told0.1 told0.2 each c.next_slot-slot.result (g.D.Disk.content c.write_slot.new.disk) (g.D.Disk.is_image c.write_slot.new.disk) at_slot slot_fits (c.write_slot.ensures.each honest) c.write_slot.ensures.told (c.in_ok-write_slot.ensures.only honest) c.in_ok-write_slot.ensures.stands in
    let gate_either = gate_written_either log c.args.payload.now was told0.0 images told0.1 told0.2 each c.next_gate-gate.result (g.D.Disk.is_image c.write_slot.new.disk) at_gate gate_fits room staged in
    λ image left. gate_either image (c.put_settled.ensures.each honest_mid image left))

pub returns-in_err-put_settled-clause-any_moment : goal.returns-in_err-put_settled-clause-any_moment
returns-in_err-put_settled-clause-any_moment g c = λ honest log continues each.
    let told0 = g.met.D.Disk.content_is_image c.args.disk.now honest in
    let was = g.D.Disk.content c.args.disk.now in
    let images = g.D.Disk.is_image c.args.disk.now in
    let at_slot = c.next_slot-slot.ensures.start ∙ ap (λ (j : JournalState). next_slot j) continues in
    let slot_fits = subst (λ (j : JournalState). c.next_slot-slot.result + 4096 ≤ chunks_at j.geometry) continues c.next_slot-slot.ensures.before_chunks in
    let either = slot_either log c.args.payload.now was told0.0 images told0.1 told0.2 each c.next_slot-slot.result at_slot slot_fits in
    let leaves = leaves_weaker g.D.Disk.moment g.D.Disk.left_since c.args.disk.now c.write_slot.new.disk (ChangedWithin c.next_slot-slot.result 4096 (g.D.Disk.is_image c.args.disk.now)) (HoldsAppended log c.args.payload.now was images) either (c.write_slot.ensures.any_moment honest) in
    let honest_mid = c.write_slot.ensures.honesty.1 honest in
    let at_gate = c.next_gate-gate.ensures.start ∙ ap (λ (j : JournalState). next_gate j) continues in
    let gate_fits = subst (λ (j : JournalState). c.next_gate-gate.result + 1 ≤ chunks_at j.geometry) continues c.next_gate-gate.ensures.before_chunks in
    let room : length log.records < 256 = subst (λ (j : JournalState). j.records < 256) continues c.requires.room in
    let staged = slot_staged log c.args.payload.now was told0.0 images told0.1 told0.2 each c.next_slot-slot.result (g.D.Disk.content c.write_slot.new.disk) (g.D.Disk.is_image c.write_slot.new.disk) at_slot slot_fits (c.write_slot.ensures.each honest) c.write_slot.ensures.told (c.in_ok-write_slot.ensures.only honest) c.in_ok-write_slot.ensures.stands in
    let gate_either = gate_written_either log c.args.payload.now was told0.0 images told0.1 told0.2 each c.next_gate-gate.result (g.D.Disk.is_image c.write_slot.new.disk) at_gate gate_fits room staged in
    let then = leaves_weaker g.D.Disk.moment g.D.Disk.left_since c.write_slot.new.disk c.put_settled.new.disk (ChangedWithin c.next_gate-gate.result 1 (g.D.Disk.is_image c.write_slot.new.disk)) (HoldsAppended log c.args.payload.now was images) gate_either (c.put_settled.ensures.any_moment honest_mid) in
    leaves_joined g.D.Disk.moment g.D.Disk.left_since c.args.disk.now c.write_slot.new.disk c.put_settled.new.disk (HoldsAppended log c.args.payload.now was images) leaves then

pub returns-clause-any_moment : goal.returns-clause-any_moment
returns-clause-any_moment g c = λ honest log continues each.
    let told0 = g.met.D.Disk.content_is_image c.args.disk.now honest in
    let was = g.D.Disk.content c.args.disk.now in
    let images = g.D.Disk.is_image c.args.disk.now in
    let at_slot = c.next_slot-slot.ensures.start ∙ ap (λ (j : JournalState). next_slot j) continues in
    let slot_fits = subst (λ (j : JournalState). c.next_slot-slot.result + 4096 ≤ chunks_at j.geometry) continues c.next_slot-slot.ensures.before_chunks in
    let either = slot_either log c.args.payload.now was told0.0 images told0.1 told0.2 each c.next_slot-slot.result at_slot slot_fits in
    let leaves = leaves_weaker g.D.Disk.moment g.D.Disk.left_since c.args.disk.now c.write_slot.new.disk (ChangedWithin c.next_slot-slot.result 4096 (g.D.Disk.is_image c.args.disk.now)) (HoldsAppended log c.args.payload.now was images) either (c.write_slot.ensures.any_moment honest) in
    let honest_mid = c.write_slot.ensures.honesty.1 honest in
    let at_gate = c.next_gate-gate.ensures.start ∙ ap (λ (j : JournalState). next_gate j) continues in
    let gate_fits = subst (λ (j : JournalState). c.next_gate-gate.result + 1 ≤ chunks_at j.geometry) continues c.next_gate-gate.ensures.before_chunks in
    let room : length log.records < 256 = subst (λ (j : JournalState). j.records < 256) continues c.requires.room in
    let staged = slot_staged log c.args.payload.now was told0.0 images told0.1 told0.2 each c.next_slot-slot.result (g.D.Disk.content c.write_slot.new.disk) (g.D.Disk.is_image c.write_slot.new.disk) at_slot slot_fits (c.write_slot.ensures.each honest) c.write_slot.ensures.told (c.in_ok-write_slot.ensures.only honest) c.in_ok-write_slot.ensures.stands in
    let gate_either = gate_written_either log c.args.payload.now was told0.0 images told0.1 told0.2 each c.next_gate-gate.result (g.D.Disk.is_image c.write_slot.new.disk) at_gate gate_fits room staged in
    let then = leaves_weaker g.D.Disk.moment g.D.Disk.left_since c.write_slot.new.disk c.put_settled.new.disk (ChangedWithin c.next_gate-gate.result 1 (g.D.Disk.is_image c.write_slot.new.disk)) (HoldsAppended log c.args.payload.now was images) gate_either (c.put_settled.ensures.any_moment honest_mid) in
    leaves_joined g.D.Disk.moment g.D.Disk.left_since c.args.disk.now c.write_slot.new.disk c.put_settled.new.disk (HoldsAppended log c.args.payload.now was images) leaves then

pub returns-clause-ok : goal.returns-clause-ok
returns-clause-ok g c = λ honest log continues each.
    let told0 = g.met.D.Disk.content_is_image c.args.disk.now honest in
    let was = g.D.Disk.content c.args.disk.now in
    let images = g.D.Disk.is_image c.args.disk.now in
    let at_slot = c.next_slot-slot.ensures.start ∙ ap (λ (j : JournalState). next_slot j) continues in
    let slot_fits = subst (λ (j : JournalState). c.next_slot-slot.result + 4096 ≤ chunks_at j.geometry) continues c.next_slot-slot.ensures.before_chunks in
    let either = slot_either log c.args.payload.now was told0.0 images told0.1 told0.2 each c.next_slot-slot.result at_slot slot_fits in
    let honest_mid = c.write_slot.ensures.honesty.1 honest in
    let at_gate = c.next_gate-gate.ensures.start ∙ ap (λ (j : JournalState). next_gate j) continues in
    let gate_fits = subst (λ (j : JournalState). c.next_gate-gate.result + 1 ≤ chunks_at j.geometry) continues c.next_gate-gate.ensures.before_chunks in
    let room : length log.records < 256 = subst (λ (j : JournalState). j.records < 256) continues c.requires.room in
    let staged = slot_staged log c.args.payload.now was told0.0 images told0.1 told0.2 each c.next_slot-slot.result (g.D.Disk.content c.write_slot.new.disk) (g.D.Disk.is_image c.write_slot.new.disk) at_slot slot_fits (c.write_slot.ensures.each honest) c.write_slot.ensures.told (c.in_ok-write_slot.ensures.only honest) c.in_ok-write_slot.ensures.stands in
    let gate_either = gate_written_either log c.args.payload.now was told0.0 images told0.1 told0.2 each c.next_gate-gate.result (g.D.Disk.is_image c.write_slot.new.disk) at_gate gate_fits room staged in
    let told = g.met.D.Disk.content_is_image c.write_slot.new.disk honest_mid in
    let size = g.met.D.Disk.image_fits c.write_slot.new.disk told.0 honest_mid told.2 in
    let geometry_fits = subst (λ (j : JournalState). c.next_gate-gate.result + 1 ≤ disk_len j.geometry) continues c.next_gate-gate.ensures.fits in
    let fits : c.next_gate-gate.result + 1 ≤ length told.0 = omega (arith, size, c.write_slot.ensures.len, c.requires.disk, c.next_gate-gate.ensures.fits) in
    gate_opened log c.args.payload.now was told0.0 images told0.1 told0.2 each c.next_gate-gate.result (g.D.Disk.is_image c.write_slot.new.disk) (g.D.Disk.is_image c.put_settled.new.disk) told.0 (g.D.Disk.content c.put_settled.new.disk) at_gate gate_fits fits room (staged told.0 told.2)
    (c.in_ok-put_settled.ensures.ok ∙ ap (option_map (λ t. overwritten t c.next_gate-gate.result (1 ∷ []))) told.1)
    (c.in_ok-put_settled.ensures.only honest_mid)

pub returns-in_err-write_slot-clause-told : goal.returns-in_err-write_slot-clause-told
returns-in_err-write_slot-clause-told g c =
    let first = told_wider c.next_slot-slot.result 4096 0 (chunks_at c.args.self.now.geometry) (g.D.Disk.content c.args.disk.now) (g.D.Disk.content c.write_slot.new.disk) (omega arith) (omega (arith, c.next_slot-slot.ensures.before_chunks)) c.write_slot.ensures.told in
    first

pub returns-in_err-put_settled-clause-told : goal.returns-in_err-put_settled-clause-told
returns-in_err-put_settled-clause-told g c =
    let first = told_wider c.next_slot-slot.result 4096 0 (chunks_at c.args.self.now.geometry) (g.D.Disk.content c.args.disk.now) (g.D.Disk.content c.write_slot.new.disk) (omega arith) (omega (arith, c.next_slot-slot.ensures.before_chunks)) c.write_slot.ensures.told in
    let second = told_wider c.next_gate-gate.result 1 0 (chunks_at c.args.self.now.geometry) (g.D.Disk.content c.write_slot.new.disk) (g.D.Disk.content c.put_settled.new.disk) (omega arith) (omega (arith, c.next_gate-gate.ensures.before_chunks)) c.put_settled.ensures.told in
    told_twice 0 (chunks_at c.args.self.now.geometry) (g.D.Disk.content c.args.disk.now) (g.D.Disk.content c.write_slot.new.disk) (g.D.Disk.content c.put_settled.new.disk) first second

pub returns-clause-told : goal.returns-clause-told
returns-clause-told g c =
    let first = told_wider c.next_slot-slot.result 4096 0 (chunks_at c.args.self.now.geometry) (g.D.Disk.content c.args.disk.now) (g.D.Disk.content c.write_slot.new.disk) (omega arith) (omega (arith, c.next_slot-slot.ensures.before_chunks)) c.write_slot.ensures.told in
    let second = told_wider c.next_gate-gate.result 1 0 (chunks_at c.args.self.now.geometry) (g.D.Disk.content c.write_slot.new.disk) (g.D.Disk.content c.put_settled.new.disk) (omega arith) (omega (arith, c.next_gate-gate.ensures.before_chunks)) c.put_settled.ensures.told in
    told_twice 0 (chunks_at c.args.self.now.geometry) (g.D.Disk.content c.args.disk.now) (g.D.Disk.content c.write_slot.new.disk) (g.D.Disk.content c.put_settled.new.disk) first second
