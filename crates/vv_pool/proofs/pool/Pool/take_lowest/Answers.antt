use Rattle.std.proofs.Common.{ℕ, ◌≡◌, List, [], ◌∷◌, ◌++◌, take, ap, ◌∙◌, sym, arith}
use Rattle.std.proofs.lemmas.List.{append_assoc, length-take-le}
use Rattle.vv_pool.specs.declared.place_use.PlaceUse.{PlaceUse}
use Rattle.vv_pool.specs.declared.place_use.PlaceUse.TheVariants.{Fresh}
use Rattle.vv_pool.specs.FreshPlaces.{FreshPlaces, appended}
use Rattle.vv_pool.specs.Pool.{PoolState, free_places, with_fresh, with_use}
use Rattle.vv_pool.proofs.PoolLemmas.{taken_more, made_fresh_more, length-free_from}
use Rattle.vv_pool.proofs.pool.Pool.take_lowest.Goals as goal

with_fresh_more : (pool : PoolState) (ks : List ℕ) (k : ℕ) → with_use (with_fresh pool ks) k Fresh ≡ with_fresh pool (ks ++ k ∷ [])
with_fresh_more pool ks k = ap (λ (uses : List PlaceUse). let now : PoolState = record { places = uses; reserved = pool.reserved } in now) (sym (made_fresh_more pool.places ks k))

appended_more : (out : FreshPlaces) (ks : List ℕ) (k : ℕ) → appended (appended out ks) (k ∷ []) ≡ appended out (ks ++ k ∷ [])
appended_more out ks k = ap (λ (places : List ℕ). let now : FreshPlaces = record { places = places; capacity = out.capacity } in now) (append_assoc out.places ks (k ∷ []))

pub loop-taken-preserved : goal.loop-taken-preserved
loop-taken-preserved c =
    let pool = c.args.self.now in
    let i = c.loop-taken._taken in
    let k : ℕ = c.take_first.result in
    let more = taken_more (free_places pool) (free_places c.take_first.new.self) i k (sym c.loop-taken.invariant.rest ∙ c.take_first.ensures.lowest) in
    record {
      taken = c.take_first.ensures.taken ∙ ap (λ p. with_use p k Fresh) c.loop-taken.invariant.taken
          ∙ with_fresh_more pool (take i (free_places pool)) k ∙ ap (with_fresh pool) (sym more.0);
      out = c.push.ensures ∙ ap (λ o. appended o (k ∷ [])) c.loop-taken.invariant.out
          ∙ appended_more c.args.out.now (take i (free_places pool)) k ∙ ap (appended c.args.out.now) (sym more.0);
      rest = sym more.1;
      free = omega (arith, c.take_first.ensures.free, c.loop-taken.invariant.free);
    }

pub returns-clause-count : goal.returns-clause-count
returns-clause-count c =
    let all = length-free_from 0 c.args.self.now.places in
    length-take-le c.args.n (free_places c.args.self.now) (omega (arith, c.requires.free))
