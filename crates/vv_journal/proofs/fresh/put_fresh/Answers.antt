use Rattle.std.proofs.Common.{◌+◌, ◌-◌, length, arith, ◌∙◌}
use Rattle.vv_disk.specs.Images.{EachImage}
use Rattle.vv_data.specs.Layout.{half_at}
use Rattle.vv_journal.specs.Calls.{ChangedWithin, LiesIn}
use Rattle.vv_journal.proofs.Crash.{told_wider, told_twice, then_within}
use Rattle.vv_journal.proofs.Made.{made_holds, told_some}
use Rattle.vv_journal.proofs.fresh.put_fresh.Goals as goal

pub returns-in_err-put_both-clause-any_moment : goal.returns-in_err-put_both-clause-any_moment
returns-in_err-put_both-clause-any_moment g c = λ honest.
    let range = half_at c.args.geometry 1 - 1 in
    let fields : LiesIn 8 (length c.header_fields.result) 1 range = record { from = omega arith; to = omega (arith, c.header_fields.ensures.size) } in
    let selector : LiesIn 512 1 1 range = record { from = omega arith; to = omega arith } in
    c.put_both.ensures.any_moment honest 1 range fields selector

pub returns-in_err-put_both-2-clause-any_moment : goal.returns-in_err-put_both-2-clause-any_moment
returns-in_err-put_both-2-clause-any_moment g c = λ honest.
    let range = half_at c.args.geometry 1 - 1 in
    let fields : LiesIn 8 (length c.header_fields.result) 1 range = record { from = omega arith; to = omega (arith, c.header_fields.ensures.size) } in
    let selector : LiesIn 512 1 1 range = record { from = omega arith; to = omega arith } in
    let field : LiesIn c.half_start-start.result (length c.length_field-field.result) 1 range = record { from = omega (arith, c.half_start-start.ensures.start); to = omega (arith, c.half_start-start.ensures.start, c.length_field-field.ensures.size) } in
    let tables : LiesIn (c.half_start-start.result + 8) (length c.args.empty.now) 1 range = record { from = omega arith; to = omega (arith, c.half_start-start.ensures.start, c.requires.empty) } in
    let images = g.D.Disk.is_image c.args.disk.now in
    let moment = g.D.Disk.moment in
    let left_since = g.D.Disk.left_since in
    let headed = c.put_both.ensures.any_moment honest 1 range fields selector in
    let second = c.put_both.ensures.honesty.1 honest in
    let each : EachImage (ChangedWithin 1 range images) (g.D.Disk.is_image c.put_both.new.disk) = λ image left. headed.each image (g.met.D.Disk.counts_now c.put_both.new.disk (moment c.args.disk.now) image headed.later left) in
    let written = c.put_both-2.ensures.any_moment second 1 range field tables in
    let tabled = then_within moment left_since c.args.disk.now c.put_both.new.disk c.put_both-2.new.disk 1 range 1 range images (g.D.Disk.is_image c.put_both.new.disk) (record { from = omega arith; to = omega arith }) headed each written in
    tabled

pub returns-in_err-put_settled-clause-any_moment : goal.returns-in_err-put_settled-clause-any_moment
returns-in_err-put_settled-clause-any_moment g c = λ honest.
    let range = half_at c.args.geometry 1 - 1 in
    let fields : LiesIn 8 (length c.header_fields.result) 1 range = record { from = omega arith; to = omega (arith, c.header_fields.ensures.size) } in
    let selector : LiesIn 512 1 1 range = record { from = omega arith; to = omega arith } in
    let field : LiesIn c.half_start-start.result (length c.length_field-field.result) 1 range = record { from = omega (arith, c.half_start-start.ensures.start); to = omega (arith, c.half_start-start.ensures.start, c.length_field-field.ensures.size) } in
    let tables : LiesIn (c.half_start-start.result + 8) (length c.args.empty.now) 1 range = record { from = omega arith; to = omega (arith, c.half_start-start.ensures.start, c.requires.empty) } in
    let images = g.D.Disk.is_image c.args.disk.now in
    let moment = g.D.Disk.moment in
    let left_since = g.D.Disk.left_since in
    let headed = c.put_both.ensures.any_moment honest 1 range fields selector in
    let second = c.put_both.ensures.honesty.1 honest in
    let each : EachImage (ChangedWithin 1 range images) (g.D.Disk.is_image c.put_both.new.disk) = λ image left. headed.each image (g.met.D.Disk.counts_now c.put_both.new.disk (moment c.args.disk.now) image headed.later left) in
    let written = c.put_both-2.ensures.any_moment second 1 range field tables in
    let tabled = then_within moment left_since c.args.disk.now c.put_both.new.disk c.put_both-2.new.disk 1 range 1 range images (g.D.Disk.is_image c.put_both.new.disk) (record { from = omega arith; to = omega arith }) headed each written in
    let third = c.put_both-2.ensures.honesty.1 second in
    let both : EachImage (ChangedWithin 1 range images) (g.D.Disk.is_image c.put_both-2.new.disk) = λ image left. tabled.each image (g.met.D.Disk.counts_now c.put_both-2.new.disk (moment c.args.disk.now) image tabled.later left) in
    let gates : LiesIn c.gates_start.result (length c.shut_gates.result) 1 range = record { from = omega (arith, c.gates_start.ensures.start); to = omega (arith, c.gates_start.ensures.start, c.shut_gates.ensures.size) } in
    then_within moment left_since c.args.disk.now c.put_both-2.new.disk c.put_settled.new.disk c.gates_start.result (length c.shut_gates.result) 1 range images (g.D.Disk.is_image c.put_both-2.new.disk) gates tabled both (c.put_settled.ensures.any_moment third)

pub returns-clause-any_moment : goal.returns-clause-any_moment
returns-clause-any_moment g c = λ honest.
    let range = half_at c.args.geometry 1 - 1 in
    let fields : LiesIn 8 (length c.header_fields.result) 1 range = record { from = omega arith; to = omega (arith, c.header_fields.ensures.size) } in
    let selector : LiesIn 512 1 1 range = record { from = omega arith; to = omega arith } in
    let field : LiesIn c.half_start-start.result (length c.length_field-field.result) 1 range = record { from = omega (arith, c.half_start-start.ensures.start); to = omega (arith, c.half_start-start.ensures.start, c.length_field-field.ensures.size) } in
    let tables : LiesIn (c.half_start-start.result + 8) (length c.args.empty.now) 1 range = record { from = omega arith; to = omega (arith, c.half_start-start.ensures.start, c.requires.empty) } in
    let images = g.D.Disk.is_image c.args.disk.now in
    let moment = g.D.Disk.moment in
    let left_since = g.D.Disk.left_since in
    let headed = c.put_both.ensures.any_moment honest 1 range fields selector in
    let second = c.put_both.ensures.honesty.1 honest in
    let each : EachImage (ChangedWithin 1 range images) (g.D.Disk.is_image c.put_both.new.disk) = λ image left. headed.each image (g.met.D.Disk.counts_now c.put_both.new.disk (moment c.args.disk.now) image headed.later left) in
    let written = c.put_both-2.ensures.any_moment second 1 range field tables in
    let tabled = then_within moment left_since c.args.disk.now c.put_both.new.disk c.put_both-2.new.disk 1 range 1 range images (g.D.Disk.is_image c.put_both.new.disk) (record { from = omega arith; to = omega arith }) headed each written in
    let third = c.put_both-2.ensures.honesty.1 second in
    let both : EachImage (ChangedWithin 1 range images) (g.D.Disk.is_image c.put_both-2.new.disk) = λ image left. tabled.each image (g.met.D.Disk.counts_now c.put_both-2.new.disk (moment c.args.disk.now) image tabled.later left) in
    let gates : LiesIn c.gates_start.result (length c.shut_gates.result) 1 range = record { from = omega (arith, c.gates_start.ensures.start); to = omega (arith, c.gates_start.ensures.start, c.shut_gates.ensures.size) } in
    then_within moment left_since c.args.disk.now c.put_both-2.new.disk c.put_settled.new.disk c.gates_start.result (length c.shut_gates.result) 1 range images (g.D.Disk.is_image c.put_both-2.new.disk) gates tabled both (c.put_settled.ensures.any_moment third)

pub returns-in_err-put_both-2-clause-told : goal.returns-in_err-put_both-2-clause-told
returns-in_err-put_both-2-clause-told g c =
    let range = half_at c.args.geometry 1 - 1 in
    let fields : LiesIn 8 (length c.header_fields.result) 1 range = record { from = omega arith; to = omega (arith, c.header_fields.ensures.size) } in
    let selector : LiesIn 512 1 1 range = record { from = omega arith; to = omega arith } in
    let field : LiesIn c.half_start-start.result (length c.length_field-field.result) 1 range = record { from = omega (arith, c.half_start-start.ensures.start); to = omega (arith, c.half_start-start.ensures.start, c.length_field-field.ensures.size) } in
    let tables : LiesIn (c.half_start-start.result + 8) (length c.args.empty.now) 1 range = record { from = omega arith; to = omega (arith, c.half_start-start.ensures.start, c.requires.empty) } in
    let headed = c.put_both.ensures.told 1 range fields selector in
    let tabled = told_twice 1 range (g.D.Disk.content c.args.disk.now) (g.D.Disk.content c.put_both.new.disk) (g.D.Disk.content c.put_both-2.new.disk) headed (c.put_both-2.ensures.told 1 range field tables) in
    tabled

pub returns-in_err-put_settled-clause-told : goal.returns-in_err-put_settled-clause-told
returns-in_err-put_settled-clause-told g c =
    let range = half_at c.args.geometry 1 - 1 in
    let fields : LiesIn 8 (length c.header_fields.result) 1 range = record { from = omega arith; to = omega (arith, c.header_fields.ensures.size) } in
    let selector : LiesIn 512 1 1 range = record { from = omega arith; to = omega arith } in
    let field : LiesIn c.half_start-start.result (length c.length_field-field.result) 1 range = record { from = omega (arith, c.half_start-start.ensures.start); to = omega (arith, c.half_start-start.ensures.start, c.length_field-field.ensures.size) } in
    let tables : LiesIn (c.half_start-start.result + 8) (length c.args.empty.now) 1 range = record { from = omega arith; to = omega (arith, c.half_start-start.ensures.start, c.requires.empty) } in
    let headed = c.put_both.ensures.told 1 range fields selector in
    let tabled = told_twice 1 range (g.D.Disk.content c.args.disk.now) (g.D.Disk.content c.put_both.new.disk) (g.D.Disk.content c.put_both-2.new.disk) headed (c.put_both-2.ensures.told 1 range field tables) in
    let gated = told_wider c.gates_start.result (length c.shut_gates.result) 1 range (g.D.Disk.content c.put_both-2.new.disk) (g.D.Disk.content c.put_settled.new.disk) (omega (arith, c.gates_start.ensures.start)) (omega (arith, c.gates_start.ensures.start, c.shut_gates.ensures.size)) c.put_settled.ensures.told in
    told_twice 1 range (g.D.Disk.content c.args.disk.now) (g.D.Disk.content c.put_both-2.new.disk) (g.D.Disk.content c.put_settled.new.disk) tabled gated

pub returns-clause-told : goal.returns-clause-told
returns-clause-told g c =
    let range = half_at c.args.geometry 1 - 1 in
    let fields : LiesIn 8 (length c.header_fields.result) 1 range = record { from = omega arith; to = omega (arith, c.header_fields.ensures.size) } in
    let selector : LiesIn 512 1 1 range = record { from = omega arith; to = omega arith } in
    let field : LiesIn c.half_start-start.result (length c.length_field-field.result) 1 range = record { from = omega (arith, c.half_start-start.ensures.start); to = omega (arith, c.half_start-start.ensures.start, c.length_field-field.ensures.size) } in
    let tables : LiesIn (c.half_start-start.result + 8) (length c.args.empty.now) 1 range = record { from = omega arith; to = omega (arith, c.half_start-start.ensures.start, c.requires.empty) } in
    let headed = c.put_both.ensures.told 1 range fields selector in
    let tabled = told_twice 1 range (g.D.Disk.content c.args.disk.now) (g.D.Disk.content c.put_both.new.disk) (g.D.Disk.content c.put_both-2.new.disk) headed (c.put_both-2.ensures.told 1 range field tables) in
    let gated = told_wider c.gates_start.result (length c.shut_gates.result) 1 range (g.D.Disk.content c.put_both-2.new.disk) (g.D.Disk.content c.put_settled.new.disk) (omega (arith, c.gates_start.ensures.start)) (omega (arith, c.gates_start.ensures.start, c.shut_gates.ensures.size)) c.put_settled.ensures.told in
    told_twice 1 range (g.D.Disk.content c.args.disk.now) (g.D.Disk.content c.put_both-2.new.disk) (g.D.Disk.content c.put_settled.new.disk) tabled gated

pub returns-clause-stands : goal.returns-clause-stands
returns-clause-stands g c =
    let head = c.header_fields.result in
    let field = c.length_field-field.result in
    let tables = c.args.empty.now in
    let shut = c.shut_gates.result in
    told_some (g.D.Disk.content c.args.disk.now) (g.D.Disk.content c.put_both.new.disk) (g.D.Disk.content c.put_both-2.new.disk) (g.D.Disk.content c.put_settled.new.disk) head field tables shut c.args.geometry c.half_start-start.result c.gates_start.result (g.D.Disk.size c.args.disk.now)
    (λ d is. g.met.D.Disk.content_fits c.args.disk.now d is) c.half_start-start.ensures.start c.gates_start.ensures.start c.in_ok-put_both.ensures.ok c.in_ok-put_both-2.ensures.ok c.in_ok-put_settled.ensures.ok
    (λ d long. made_holds c.args.geometry d head field tables shut (long ∙ c.requires.disk) c.requires.empty
    c.header_fields.ensures.size c.header_fields.ensures.words c.header_fields.ensures.version c.header_fields.ensures.chunk_blocks c.header_fields.ensures.pool_chunks c.header_fields.ensures.map_chunks
    c.length_field-field.ensures.size c.length_field-field.ensures.number c.shut_gates.ensures.size c.shut_gates.ensures.shut)
