-- What the end of a list takes from the counts of places: the names in the pages that end with it.
use Rattle.std.proofs.Common.{ℕ, suc, ◌≡◌, ◌+◌, ◌<◌, ◌≤◌, ◌==◌, Bool, true, false, cond, List, [], ◌∷◌, length, slice_index, set, filter, refl, sym, ap, ◌∙◌, ⊎_elim, arith}
use Rattle.std.specs.List.{flat_map}
use Rattle.std.proofs.lemmas.Bool.{cases_eq, cond-true, cond-false, eq-eqb, ne_eqb}
use Rattle.vv_map.specs.Rooms.{MapState}
use Rattle.vv_map.specs.Pages.{StoreState, page_at, count_at, with_page, lowered, all_lowered, ending_entries, IsMapOf}
use Rattle.vv_map.proofs.MapLemmas.{count_at-all_lowered_out}
use Rattle.vv_entries.specs.declared.entry.Entry.{Entry}
use Rattle.vv_entries.specs.Entries.{named, named_in, IsTidy}
use Rattle.vv_entries.proofs.Times.{Apart, apart_rest, times_counted}
use Rattle.vv_entries.proofs.Named.{named-nil, named-append, named_in-set, named_in-same}
use Rattle.vv_entries.proofs.Shared.{lowered_last, lowered_more, within_counts, Covers, covers_first, covers_rest, tidy-lowered}

-- the names of a place in a page that ends
abbrev ending_bit : StoreState Entry → ℕ → ℕ → ℕ
ending_bit store k p = cond (count_at store k == 1) (named p (page_at store k)) 0

ending-cons : (store : StoreState Entry) (k : ℕ) (ns : List ℕ) (p : ℕ) → named p (ending_entries store (k ∷ ns)) ≡ ending_bit store k p + named p (ending_entries store ns)
ending-cons store k ns p = go (count_at store k == 1)
  where
    test : ℕ → Bool
    test n = count_at store n == 1

    go : (b : Bool) → named p (flat_map (page_at store) (cond b (k ∷ filter (λ n. count_at store n == 1) ns) (filter (λ n. count_at store n == 1) ns))) ≡ cond b (named p (page_at store k)) 0 + named p (ending_entries store ns)
    go true = named-append p (page_at store k) (ending_entries store ns)
    go false = omega arith

-- pages that keep their counts and entries end as before
ending-kept : (old new : StoreState Entry) (ns : List ℕ) (p : ℕ)
    → ((i : ℕ) → i < length ns → (count_at new (slice_index ns i) ≡ count_at old (slice_index ns i)) × (page_at new (slice_index ns i) ≡ page_at old (slice_index ns i)))
    → named p (ending_entries new ns) ≡ named p (ending_entries old ns)
ending-kept old new [] p same = refl
ending-kept old new (k ∷ ns) p same =
    let here = same 0 (omega arith) in
    let first : ending_bit new k p ≡ ending_bit old k p = ap (λ c. cond (c == 1) (named p (page_at new k)) 0) here.0 ∙ ap (λ page. cond (count_at old k == 1) (named p page) 0) here.1 in
    let rest = ending-kept old new ns p (λ i lt. same (suc i) (omega arith)) in
    omega (arith, ending-cons new k ns p, ending-cons old k ns p)

-- one page is lowered
named-lowered : (store : StoreState Entry) (k p : ℕ) → length store.counts ≡ length store.pages → 1 ≤ count_at store k → named_in (lowered store k) p + ending_bit store k p ≡ named_in store p
named-lowered store k p same some = ⊎_elim
    (λ one. let now : named_in (lowered store k) p ≡ named_in (with_page store k [] 0) p = ap (λ s. named_in s p) (lowered_last store k one) in
    let bit : ending_bit store k p ≡ named p (page_at store k) = cond-true _ _ _ (eq-eqb (count_at store k) 1 one) in
    let within = within_counts store k some in
    let all : named_in (with_page store k [] 0) p + named p (page_at store k) ≡ named_in store p + named p [] = named_in-set store (set store.counts k 0) k [] p (omega arith) in
    let none = named-nil p in
    omega arith)
    (λ more. let bit : ending_bit store k p ≡ 0 = cond-false _ _ _ (ne_eqb (count_at store k) 1 more) in
    let pages : named_in (lowered store k) p ≡ named_in store p = named_in-same store (lowered store k) p (ap (λ s. length s.pages) (lowered_more store k more)) (λ n. ap (λ s. named p (page_at s n)) (lowered_more store k more)) in
    omega arith)
    (cases_eq (count_at store k) 1)

-- a list ends
pub named-all_lowered : (store : StoreState Entry) (ns : List ℕ) (p : ℕ) → IsTidy store → Apart ns → Covers store ns
    → named_in (all_lowered store ns) p + named p (ending_entries store ns) ≡ named_in store p
named-all_lowered store [] p tidy apart covers = omega (arith, named-nil p)
named-all_lowered store (k ∷ ns) p tidy apart covers =
    let some = covers_first store k ns covers in
    let first = named-lowered store k p tidy.same some in
    let rest = named-all_lowered (lowered store k) ns p (tidy-lowered store k some tidy) (apart_rest k ns apart) (covers_rest store k ns covers) in
    let kept = ending-kept store (lowered store k) ns p (λ i lt.
    count_at-all_lowered_out store (k ∷ []) (slice_index ns i) (λ j low e. apart 0 (suc i) (omega arith) (omega arith) (let z : j ≡ 0 = omega arith in sym (ap (slice_index (k ∷ [])) z) ∙ e))) in
    omega (arith, ending-cons store k ns p)

-- a list's pages are counted as often as they stand in it
pub covers-map : (store : StoreState Entry) (map : MapState) → IsMapOf store map → Covers store map.numbers
covers-map store map of n = times_counted (count_at store) n map.numbers of.apart of.counted
