-- The pool when entries more, or less, name their places.
use Rattle.std.proofs.Common.{ℕ, ◌≡◌, ◌≢◌, ◌+◌, ◌-◌, ◌<◌, ◌≤◌, cond, List, [], ◌∷◌, length, get_or, take, Some, None, refl, sym, ap, ◌∙◌, ⊎_elim, arith, length-set}
use Rattle.std.proofs.lemmas.Bool.{cases_eq, cond-true, cond-false, eq-eqb, ne_eqb}
use Rattle.vv_units.specs.declared.numbers.Place.{Place}
use Rattle.vv_pool.specs.declared.place_use.PlaceUse.TheVariants.{Counted, Fresh}
use Rattle.vv_pool.specs.Pool.{PoolState, use_of, count_of, with_count}
use Rattle.vv_pool.proofs.PoolLaws.{use_of-with_use_same, use_of-with_use_other, count_of-with_count_same, count_of-with_count_other, within_from_count, count_of-fresh}
use Rattle.vv_entries.specs.declared.entry.Entry.{Entry}
use Rattle.vv_entries.specs.Entries.{named, is_place}
use Rattle.vv_entries.specs.Changes.{KeepsFresh, Raises, Lowers, AreCounted}
use Rattle.vv_entries.proofs.Named.{name_bit, named-nil, named-cons, named_more}

pub keeps-same : (pool : PoolState) → KeepsFresh pool pool
keeps-same pool = record { reserved = refl; size = refl; fresh = λ p h. h; only = λ p h. h }

pub keeps-joined : (a b c : PoolState) → KeepsFresh a b → KeepsFresh b c → KeepsFresh a c
keeps-joined a b c ab bc = record {
  reserved = bc.reserved ∙ ab.reserved;
  size = bc.size ∙ ab.size;
  fresh = λ p h. bc.fresh p (ab.fresh p h);
  only = λ p h. ab.only p (bc.only p h);
}

-- a place that is counted gets another count
keeps-counted : (pool : PoolState) (q n : ℕ) → 1 ≤ count_of pool q → KeepsFresh pool (with_count pool q n)
keeps-counted pool q n some = record {
  reserved = refl;
  size = length-set pool.places q (Counted n);
  fresh = λ p h. ⊎_elim
      (λ e. absurd (let none = count_of-fresh pool p h in let same : count_of pool p ≡ count_of pool q = ap (count_of pool) e in omega arith))
      (λ ne. use_of-with_use_other pool q p (Counted n) ne ∙ h)
      (cases_eq p q);
  only = λ p h. ⊎_elim
      (λ e. absurd (let now = use_of-with_use_same pool q (Counted n) (within_from_count pool q some) in let was : use_of (with_count pool q n) q ≡ Fresh = ap (use_of (with_count pool q n)) (sym e) ∙ h in cc))
      (λ ne. sym (use_of-with_use_other pool q p (Counted n) ne) ∙ h)
      (cases_eq p q);
}

-- the names of one entry
pub named_one : (p : ℕ) (e : Entry) → named p (e ∷ []) ≡ name_bit p e
named_one p e = let none = named-nil p in omega (arith, named-cons p e [])

pub named_none : (p : ℕ) (e : Entry) → e.place ≡ None → named p (e ∷ []) ≡ 0
named_none p e none = named_one p e ∙ ap (λ o. cond (is_place p o) 1 0) none

pub named_here : (e : Entry) (q : Place) → e.place ≡ Some q → named q.0 (e ∷ []) ≡ 1
named_here e q is = named_one q.0 e ∙ ap (λ o. cond (is_place q.0 o) 1 0) is ∙ cond-true _ 1 0 (eq-eqb q.0 q.0 refl)

pub named_elsewhere : (p : ℕ) (e : Entry) (q : Place) → e.place ≡ Some q → p ≢ q.0 → named p (e ∷ []) ≡ 0
named_elsewhere p e q is ne = named_one p e ∙ ap (λ o. cond (is_place p o) 1 0) is ∙ cond-false _ 1 0 (ne_eqb q.0 p (λ s. ne (sym s)))

-- ---- one entry
pub raises_none : (pool : PoolState) (e : Entry) → e.place ≡ None → Raises pool pool (e ∷ [])
raises_none pool e none = record { counts = λ p. let zero_there = named_none p e none in omega arith; kept = keeps-same pool }

pub raises_one : (pool : PoolState) (e : Entry) (q : Place) → e.place ≡ Some q → AreCounted pool (e ∷ []) → Raises pool (with_count pool q.0 (count_of pool q.0 + 1)) (e ∷ [])
raises_one pool e q is counted =
    let here = named_here e q is in
    let some = counted q.0 (omega arith) in
    record {
      counts = λ p. ⊎_elim
          (λ s. let now : count_of (with_count pool q.0 (count_of pool q.0 + 1)) p ≡ count_of pool q.0 + 1 = ap (count_of (with_count pool q.0 (count_of pool q.0 + 1))) s ∙ count_of-with_count_same pool q.0 (count_of pool q.0 + 1) (within_from_count pool q.0 some) in
          let was : count_of pool p ≡ count_of pool q.0 = ap (count_of pool) s in
          let name : named p (e ∷ []) ≡ 1 = ap (λ k. named k (e ∷ [])) s ∙ here in omega arith)
          (λ ne. let none = named_elsewhere p e q is ne in let same = count_of-with_count_other pool q.0 p (count_of pool q.0 + 1) ne in omega arith)
          (cases_eq p q.0);
      kept = keeps-counted pool q.0 (count_of pool q.0 + 1) some;
    }

pub lowers_none : (pool : PoolState) (e : Entry) → e.place ≡ None → Lowers pool pool (e ∷ [])
lowers_none pool e none = record { counts = λ p. let zero_there = named_none p e none in omega arith; kept = keeps-same pool }

pub lowers_one : (pool : PoolState) (e : Entry) (q : Place) → e.place ≡ Some q → AreCounted pool (e ∷ []) → Lowers pool (with_count pool q.0 (count_of pool q.0 - 1)) (e ∷ [])
lowers_one pool e q is counted =
    let here = named_here e q is in
    let some = counted q.0 (omega arith) in
    record {
      counts = λ p. ⊎_elim
          (λ s. let now : count_of (with_count pool q.0 (count_of pool q.0 - 1)) p ≡ count_of pool q.0 - 1 = ap (count_of (with_count pool q.0 (count_of pool q.0 - 1))) s ∙ count_of-with_count_same pool q.0 (count_of pool q.0 - 1) (within_from_count pool q.0 some) in
          let was : count_of pool p ≡ count_of pool q.0 = ap (count_of pool) s in
          let name : named p (e ∷ []) ≡ 1 = ap (λ k. named k (e ∷ [])) s ∙ here in omega arith)
          (λ ne. let none = named_elsewhere p e q is ne in let same = count_of-with_count_other pool q.0 p (count_of pool q.0 - 1) ne in omega arith)
          (cases_eq p q.0);
      kept = keeps-counted pool q.0 (count_of pool q.0 - 1) some;
    }

-- ---- entries one after another
pub raises_start : (pool : PoolState) → Raises pool pool []
raises_start pool = record { counts = λ p. omega (arith, named-nil p); kept = keeps-same pool }

pub raises_more : (a b c : PoolState) (es : List Entry) (i : ℕ) (d : Entry) → i < length es → Raises a b (take i es) → Raises b c (get_or es i d ∷ []) → Raises a c (take (i + 1) es)
raises_more a b c es i d h ab bc = record {
  counts = λ p. let one = ab.counts p in let two = bc.counts p in
      let more = named_more p es i d h in let bit = named_one p (get_or es i d) in omega arith;
  kept = keeps-joined a b c ab.kept bc.kept;
}
