use Rattle.std.proofs.Common.{◌≡◌, subst, sym, ap, ◌∙◌}
use Rattle.vv_units.specs.Sizes.{is_chunk_size}
use Rattle.vv_flat.specs.Chunks.{shape_of_tables}
use Rattle.vv_flat.specs.Changes.{size_of}
use Rattle.vv_plan.proofs.UnitSizes.{UnitSize, bound_size, product_some, product_few}
use Rattle.vv_plan.proofs.units.bound_blocks.Goals as goal

pub returns-clause-some : goal.returns-clause-some
returns-clause-some c =
    let d = c.args.tables.now.durable in
    let from : c.from.result ≡ size_of (shape_of_tables d) c.args.binding.now.volume = c.from.ensures ∙ c.size.ensures ∙ ap (size_of (shape_of_tables d)) c.volume.ensures in
    product_some c.from.result c.from-2.result (subst UnitSize (sym from) (bound_size c.args.tables.now c.args.binding.now c.lsn-lsn.ensures.well c.requires))
    (ap is_chunk_size c.from-2.ensures ∙ c.geometry.result.chunk_size)

pub returns-clause-few : goal.returns-clause-few
returns-clause-few c =
    let d = c.args.tables.now.durable in
    let from : c.from.result ≡ size_of (shape_of_tables d) c.args.binding.now.volume = c.from.ensures ∙ c.size.ensures ∙ ap (size_of (shape_of_tables d)) c.volume.ensures in
    product_few c.from.result c.from-2.result (subst UnitSize (sym from) (bound_size c.args.tables.now c.args.binding.now c.lsn-lsn.ensures.well c.requires))
    (ap is_chunk_size c.from-2.ensures ∙ c.geometry.result.chunk_size)
