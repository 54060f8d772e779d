use Rattle.std.proofs.Common.{[], ◌∷◌, sym, subst, arith}
use Rattle.vv_pool.specs.Pool.{PoolState}
use Rattle.vv_entries.specs.Changes.{Raises}
use Rattle.vv_entries.proofs.PlaceCounts.{named_here, raises_none, raises_one}
use Rattle.vv_entries.proofs.places.raise_entry.Goals as goal

pub raise-requires-clause-counted : goal.raise-requires-clause-counted
raise-requires-clause-counted g c =
    let here = named_here c.args.entry c.in-Some.place c.in-Some.is in
    c.requires.counted c.in-Some.place.0 (omega arith)

pub returns-in-Some-clause-raised : goal.returns-in-Some-clause-raised
returns-in-Some-clause-raised g c =
    subst (λ (pool : PoolState). Raises c.args.pool.now pool (c.args.entry ∷ [])) (sym c.raise.ensures.counted)
    (raises_one c.args.pool.now c.args.entry c.in-Some.place c.in-Some.is c.requires.counted)

pub returns-in-None-clause-raised : goal.returns-in-None-clause-raised
returns-in-None-clause-raised g c = raises_none c.args.pool.now c.args.entry c.in-None.is
