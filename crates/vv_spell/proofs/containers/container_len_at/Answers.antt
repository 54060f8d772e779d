use Rattle.std.proofs.Common.{◌≡◌, sym, ap, arith}
use Rattle.vv_area.specs.Lengths.{offers_length}
use Rattle.vv_container.specs.Table.{numbered}
use Rattle.vv_spell.proofs.Fits.{container_within}
use Rattle.vv_spell.proofs.containers.container_len_at.Goals as goal

pub offers_len-requires : goal.offers_len-requires
offers_len-requires c =
    let same : offers_length c.items.result.now ≡ offers_length c.in-Some.container.now.offered = ap offers_length c.items.ensures in
    let within = container_within c.args.tables.now.durable c.args.i (numbered c.in-Some.field-0-0.0 c.in-Some.container.now) (sym c.in-Some.ensures) in
    omega (arith, c.requires.fits, same, within)

pub overflow_add-result : goal.overflow_add-result
overflow_add-result c =
    let same : offers_length c.items.result.now ≡ offers_length c.in-Some.container.now.offered = ap offers_length c.items.ensures in
    let within = container_within c.args.tables.now.durable c.args.i (numbered c.in-Some.field-0-0.0 c.in-Some.container.now) (sym c.in-Some.ensures) in
    omega (arith, c.requires.fits, c.offers_len.ensures, same, within)
