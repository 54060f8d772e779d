use Rattle.std.proofs.Common.{◌≤◌, ◌∷◌, ap, ◌∙◌, sym, subst, length, arith}
use Rattle.vv_pool.specs.Pool.{free_of, free_places, with_use, PoolState}
use Rattle.vv_pool.specs.declared.place_use.PlaceUse.TheVariants.{Fresh}
use Rattle.vv_pool.proofs.PoolLemmas.{none_by_bits, first_by_bits, length-free_from}
use Rattle.vv_pool.proofs.pool.Pool.take_first.Goals as goal

pub unreachable-requires : goal.unreachable-requires
unreachable-requires c =
    let inside = c.self.inside in
    let places = inside.places.items in
    let empty = ap length (none_by_bits places inside.vacant c.self.invariant.tells (λ k. c.in-None.ensures.none k (omega arith))) in
    let all = length-free_from 0 places in
    let some = subst (λ (pool : PoolState). 1 ≤ free_of pool) (sym c.self.view_is) c.requires in
    omega (arith, empty, all, some)

-- the list of free places before, and what is left of it
pub returns-clause-lowest : goal.returns-clause-lowest
returns-clause-lowest c =
    let inside = c.self.inside in
    let at = c.in-Some.at in
    ap free_places (sym c.self.view_is)
    ∙ first_by_bits inside.places.items inside.vacant c.self.invariant.tells at c.in-Some.ensures.some
    ∙ ap (λ pool. at ∷ free_places (with_use pool at Fresh)) c.self.view_is
    ∙ ap (λ pool. at ∷ free_places pool) (sym c.put.ensures)
    ∙ ap (λ n. n ∷ free_places c.put.new.self) (sym c.of.ensures)
