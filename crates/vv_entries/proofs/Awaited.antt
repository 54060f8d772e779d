-- The pool while an entry that stands in no page yet is counted, and when places are taken.
use Rattle.std.proofs.Common.{ℕ, ◌≡◌, [], ◌∷◌, Result, Ok, Err, refl, sym, ap, ◌∙◌, subst, ⊎_elim, arith}
use Rattle.std.specs.Prelude.{OnOk, OnErr}
use Rattle.std.proofs.lemmas.Bool.{cases_eq}
use Rattle.vv_map.specs.Pages.{StoreState}
use Rattle.vv_pool.specs.declared.full.Full.{Full}
use Rattle.vv_pool.specs.Pool.{PoolState, IsFresh, count_of, with_count, with_fresh, lowest_places}
use Rattle.vv_pool.proofs.PoolLaws.{count_of-with_count_same, count_of-with_count_other, within_from_fresh, count_of-fresh, count_of-with_lowest}
use Rattle.vv_entries.specs.declared.entry.Entry.{Entry}
use Rattle.vv_entries.specs.Entries.{named, placed, unmapped, IsCounted}
use Rattle.vv_entries.specs.Changes.{IsAwaiting}
use Rattle.vv_entries.proofs.PlaceCounts.{named_none, named_here, named_elsewhere}

pub awaiting_fresh : (store : StoreState Entry) (pool : PoolState) (f stamp : ℕ) → IsCounted store pool → IsFresh pool f → IsAwaiting store (with_count pool f 1) (placed f stamp)
awaiting_fresh store pool f stamp kept fresh = record {
  tidy = kept.tidy;
  counted = λ p.
      let was = kept.counted p in
      ⊎_elim
      (λ e. let now : count_of (with_count pool f 1) p ≡ 1 = ap (count_of (with_count pool f 1)) e ∙ count_of-with_count_same pool f 1 (within_from_fresh pool f fresh) in
      let none : count_of pool p ≡ 0 = ap (count_of pool) e ∙ count_of-fresh pool f fresh in
      let name : named p (placed f stamp ∷ []) ≡ 1 = ap (λ k. named k (placed f stamp ∷ [])) e ∙ named_here (placed f stamp) (record { 0 = f }) refl in
      omega arith)
      (λ ne. let same = count_of-with_count_other pool f p 1 ne in
      let name = named_elsewhere p (placed f stamp) (record { 0 = f }) refl ne in
      omega arith)
      (cases_eq p f);
}

pub awaiting_unmapped : (store : StoreState Entry) (pool : PoolState) → IsCounted store pool → IsAwaiting store pool unmapped
awaiting_unmapped store pool kept = record {
  tidy = kept.tidy;
  counted = λ p. let was = kept.counted p in let none = named_none p unmapped refl in omega arith;
}

pub counted_lowest : (store : StoreState Entry) (pool : PoolState) (n : ℕ) → IsCounted store pool → IsCounted store (with_fresh pool (lowest_places pool n))
counted_lowest store pool n kept = record { tidy = kept.tidy; counted = λ p. count_of-with_lowest pool n p ∙ kept.counted p }

pub counted_taken : (store : StoreState Entry) (pool new : PoolState) (n : ℕ) (r : Result (Unit {0}) Full) → IsCounted store pool → OnOk r (new ≡ with_fresh pool (lowest_places pool n)) → OnErr r (new ≡ pool) → IsCounted store new
counted_taken store pool new n (Ok u) kept ok err = subst (IsCounted store) (sym ok) (counted_lowest store pool n kept)
counted_taken store pool new n (Err e) kept ok err = subst (IsCounted store) (sym err) kept
