use Rattle.std.proofs.Common.{[], ◌∷◌, sym, subst, arith}
use Rattle.vv_pool.specs.Pool.{PoolState}
use Rattle.vv_entries.specs.Changes.{Lowers}
use Rattle.vv_entries.proofs.PlaceCounts.{named_here, lowers_none, lowers_one}
use Rattle.vv_entries.proofs.places.lower_entry.Goals as goal

pub lower-requires : goal.lower-requires
lower-requires c =
    let here = named_here c.args.entry c.in-Some.place c.in-Some.is in
    c.requires c.in-Some.place.0 (omega arith)

pub returns-in-Some : goal.returns-in-Some
returns-in-Some c =
    subst (λ (pool : PoolState). Lowers c.args.pool.now pool (c.args.entry ∷ [])) (sym c.lower.ensures)
    (lowers_one c.args.pool.now c.args.entry c.in-Some.place c.in-Some.is c.requires)

pub returns-in-None : goal.returns-in-None
returns-in-None c = lowers_none c.args.pool.now c.args.entry c.in-None.is
