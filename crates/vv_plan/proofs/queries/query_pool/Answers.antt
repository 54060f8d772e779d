use Rattle.std.proofs.Common.{ap}
use Rattle.vv_units.specs.declared.geometry.Geometry.{Geometry}
use Rattle.vv_plan.proofs.ShapeTold.{pool_is}
use Rattle.vv_plan.proofs.queries.query_pool.Goals as goal

pub returns : goal.returns
returns c =
    pool_is c.args.tables.now.durable c.geometry.result.pool_chunks c.entries.result c.free.result c.reserved.result c.used.result
    (ap (λ (g : Geometry). g.pool_chunks) c.geometry.ensures) c.entries.ensures c.free.ensures c.reserved.ensures c.used.ensures
