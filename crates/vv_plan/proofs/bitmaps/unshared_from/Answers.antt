use Rattle.std.proofs.Common.{ap, sym, ◌∙◌}
use Rattle.vv_flat.specs.Chunks.{shape_of_tables}
use Rattle.vv_flat.specs.Bits.{unshared_bits}
use Rattle.vv_flat.specs.Changes.{stamps_of}
use Rattle.vv_reply.specs.declared.reply.Answer.TheVariants.{Bits}
use Rattle.vv_reply.specs.declared.reply.Reply.TheVariants.{Done}
use Rattle.vv_plan.proofs.AskedBits.{range_told, range_is, length-unshared}
use Rattle.vv_plan.proofs.bitmaps.unshared_from.Goals as goal

pub returns-in_ok-bits-in-Ok : goal.returns-in_ok-bits-in-Ok
returns-in_ok-bits-in-Ok c =
    let d = shape_of_tables c.args.tables.now.durable in
    let bits = unshared_bits (stamps_of d c.args.id.0) (stamps_of d c.args.base.0) in
    ap (λ b. Done (Bits b)) c.in_ok-bits-in-Ok.ensures
    ∙ ap (range_told bits) (sym c.in-Ok.is ∙ c.range_asked.ensures)
    ∙ range_is bits c.size.result c.args.first c.args.count (length-unshared (stamps_of d c.args.id.0) (stamps_of d c.args.base.0) ∙ sym c.size.ensures)

pub returns-in-Err : goal.returns-in-Err
returns-in-Err c =
    let d = shape_of_tables c.args.tables.now.durable in
    let bits = unshared_bits (stamps_of d c.args.id.0) (stamps_of d c.args.base.0) in
    c.invalid.ensures
    ∙ ap (range_told bits) (sym c.in-Err.is ∙ c.range_asked.ensures)
    ∙ range_is bits c.size.result c.args.first c.args.count (length-unshared (stamps_of d c.args.id.0) (stamps_of d c.args.base.0) ∙ sym c.size.ensures)
