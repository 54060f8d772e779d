use Rattle.std.proofs.Common.{List, sym, subst, arith}
use Rattle.vv_pool.specs.declared.place_use.PlaceUse.{PlaceUse}
use Rattle.vv_pool.specs.Pool.{IsKept}
use Rattle.vv_pool.proofs.PoolLemmas.{kept-new}
use Rattle.vv_pool.proofs.pool.Pool.new.Goals as goal

pub invariant_of-result : goal.invariant_of-result
invariant_of-result c =
    subst (λ (places : List PlaceUse). IsKept places c.in-Ok-filled.vacant 0 0) (sym c.in-Ok.ensures)
    (kept-new c.args.chunks c.in-Ok-filled.vacant c.in-Ok-filled.ensures (omega arith))
