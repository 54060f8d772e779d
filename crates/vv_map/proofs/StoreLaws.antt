-- What a layer that owns all lists of a store wants to know: a list stays as it is where its pages keep their entries and
-- still count it, and each call leaves the entries of every page that it doesn't name or that others name too.
use Rattle.std.proofs.Common.{ℕ, zero, suc, ◌≡◌, ◌≢◌, ◌+◌, ◌-◌, ◌<◌, ◌≤◌, List, [], ◌∷◌, length, slice_index, get_or, set, sym, ap, ◌∙◌, subst, ⊎_elim, arith, get_or-set_same, get_or-set_other}
use Rattle.std.proofs.lemmas.Bool.{cases_lt, cond-false, ne_eqb}
use Rattle.std.proofs.lemmas.List.{get_or_past}
use Rattle.vv_map.specs.Rooms.{MapState}
use Rattle.vv_map.specs.Pages.{StoreState, page_at, count_at, list_of, with_entries, with_count, with_page, raised, lowered, all_raised, all_lowered, Unshares, IsMapOf}
use Rattle.vv_map.proofs.MapLemmas.{flat_map_same, count_at-all_lowered_out, count_at-all_raised_out, pages-all_raised}

-- a list whose pages keep their entries and still count it
module _ {E : Type 0} (old new : StoreState E) (map : MapState)
    (pages : (i : ℕ) → i < length map.numbers → page_at new (slice_index map.numbers i) ≡ page_at old (slice_index map.numbers i)) where
  pub list_of-kept : list_of new map ≡ list_of old map
  list_of-kept = flat_map_same (page_at old) (page_at new) map.numbers pages

  pub is_map-kept : IsMapOf old map → ((i : ℕ) → i < length map.numbers → 1 ≤ count_at new (slice_index map.numbers i)) → IsMapOf new map
  is_map-kept of counted = record {
    counted = counted;
    apart = of.apart;
    sizes = λ i h. ap length (pages i h) ∙ of.sizes i h;
    size = of.size;
  }

-- ---- a write to another page
pub page_at-with_entries_other : {E : Type 0} (store : StoreState E) (number p : ℕ) (entries : List E) → p ≢ number → page_at (with_entries store number entries) p ≡ page_at store p
page_at-with_entries_other store number p entries ne = get_or-set_other store.pages number p entries [] ne

-- ---- a page that is lowered
pub lowered_named : {E : Type 0} (store : StoreState E) (p : ℕ) → 2 ≤ count_at store p → lowered store p ≡ with_count store p (count_at store p - 1)
lowered_named store p h = cond-false _ _ _ (ne_eqb (count_at store p) 1 (λ e. omega arith))

within_from_count : {E : Type 0} (store : StoreState E) (p : ℕ) → 1 ≤ count_at store p → p < length store.counts
within_from_count store p h = ⊎_elim (λ lt. lt) (λ ge. let z = get_or_past store.counts p 0 ge in absurd (omega arith)) (cases_lt p (length store.counts))

-- a page that others name too keeps its entries when a list that names it ends
pub at-all_lowered_in : {E : Type 0} (store : StoreState E) (ks : List ℕ) (i : ℕ) → i < length ks → ((j k : ℕ) → j < k → k < length ks → slice_index ks j ≢ slice_index ks k) → 2 ≤ count_at store (slice_index ks i)
    → (count_at (all_lowered store ks) (slice_index ks i) + 1 ≡ count_at store (slice_index ks i)) × (page_at (all_lowered store ks) (slice_index ks i) ≡ page_at store (slice_index ks i))
at-all_lowered_in store [] i h apart two = absurd (omega arith)
at-all_lowered_in store (k ∷ ks) zero h apart two =
    let rest = count_at-all_lowered_out (lowered store k) ks k (λ j lt e. apart 0 (suc j) (omega arith) (omega arith) (sym e)) in
    let one : count_at (lowered store k) k ≡ count_at store k - 1 = ap (λ s. count_at s k) (lowered_named store k two) ∙ get_or-set_same store.counts k (count_at store k - 1) 0 (within_from_count store k (omega arith)) in
    let page : page_at (lowered store k) k ≡ page_at store k = ap (λ s. page_at s k) (lowered_named store k two) in
    let same = rest.0 in
    (omega arith, rest.1 ∙ page)
at-all_lowered_in store (k ∷ ks) (suc i) h apart two =
    let p = slice_index ks i in
    let ne : p ≢ k = λ e. apart 0 (suc i) (omega arith) h (sym e) in
    let one = count_at-all_lowered_out store (k ∷ []) p (λ j lt e. ne (let z : j ≡ 0 = omega arith in sym (subst (λ m. slice_index (k ∷ []) m ≡ p) z e))) in
    let rest = at-all_lowered_in (lowered store k) ks i (omega arith) (λ j m lt hm. apart (suc j) (suc m) (omega arith) (omega arith)) (let same = one.0 in omega arith) in
    let same = one.0 in
    let more = rest.0 in
    (omega arith, rest.1 ∙ one.1)

-- ---- a page that is copied for one list: a page that another list names keeps its entries and counts that list
module _ {E : Type 0} (old new : StoreState E) (map map' : MapState) (i : ℕ) (un : Unshares old new map map' i) (two : 2 ≤ count_at old (slice_index map.numbers i)) (p : ℕ) (one : 1 ≤ count_at old p) where
  after : new ≡ with_page (with_count old (slice_index map.numbers i) (count_at old (slice_index map.numbers i) - 1)) (slice_index map'.numbers i) (page_at old (slice_index map.numbers i)) 1
  after = un.copied ∙ ap (λ s. with_page s (slice_index map'.numbers i) (page_at old (slice_index map.numbers i)) 1) (lowered_named old (slice_index map.numbers i) two)

  not_own : p ≢ slice_index map'.numbers i
  not_own e = let z = un.unused in let same : count_at old p ≡ count_at old (slice_index map'.numbers i) = ap (count_at old) e in absurd (omega arith)

  pub page_at-unshared : page_at new p ≡ page_at old p
  page_at-unshared = ap (λ s. page_at s p) after ∙ get_or-set_other old.pages (slice_index map'.numbers i) p (page_at old (slice_index map.numbers i)) [] not_own

  count_first : count_at new p ≡ count_at (with_count old (slice_index map.numbers i) (count_at old (slice_index map.numbers i) - 1)) p
  count_first = ap (λ s. count_at s p) after ∙ get_or-set_other (set old.counts (slice_index map.numbers i) (count_at old (slice_index map.numbers i) - 1)) (slice_index map'.numbers i) p 1 0 not_own

  pub count_at-unshared_other : p ≢ slice_index map.numbers i → count_at new p ≡ count_at old p
  count_at-unshared_other ne = count_first ∙ get_or-set_other old.counts (slice_index map.numbers i) p (count_at old (slice_index map.numbers i) - 1) 0 ne

  pub count_at-unshared_same : p ≡ slice_index map.numbers i → count_at new p + 1 ≡ count_at old p
  count_at-unshared_same e =
      let n = slice_index map.numbers i in
      let set_there : count_at (with_count old n (count_at old n - 1)) p ≡ count_at old n - 1 = ap (count_at (with_count old n (count_at old n - 1))) e ∙ get_or-set_same old.counts n (count_at old n - 1) 0 (within_from_count old n (omega arith)) in
      let whole : count_at old p ≡ count_at old n = ap (count_at old) e in
      let first = count_first in
      omega arith

-- ---- a page that is raised with a list
pub count_at-all_raised_in : {E : Type 0} (store : StoreState E) (ks : List ℕ) (i : ℕ) → i < length ks → ((j k : ℕ) → j < k → k < length ks → slice_index ks j ≢ slice_index ks k) → 1 ≤ count_at store (slice_index ks i)
    → count_at (all_raised store ks) (slice_index ks i) ≡ count_at store (slice_index ks i) + 1
count_at-all_raised_in store [] i h apart one = absurd (omega arith)
count_at-all_raised_in store (k ∷ ks) zero h apart one =
    count_at-all_raised_out (raised store k) ks k (λ j lt e. apart 0 (suc j) (omega arith) (omega arith) (sym e))
    ∙ get_or-set_same store.counts k (count_at store k + 1) 0 (within_from_count store k one)
count_at-all_raised_in store (k ∷ ks) (suc i) h apart one =
    let p = slice_index ks i in
    let ne : p ≢ k = λ e. apart 0 (suc i) (omega arith) h (sym e) in
    let same : count_at (raised store k) p ≡ count_at store p = get_or-set_other store.counts k p (count_at store k + 1) 0 ne in
    count_at-all_raised_in (raised store k) ks i (omega arith) (λ j m lt hm. apart (suc j) (suc m) (omega arith) (omega arith)) (omega arith)
    ∙ ap (λ n. n + 1) same

-- of two equal lists one may end: the other stays
pub is_map-half_released : {E : Type 0} (store : StoreState E) (map : MapState) → IsMapOf store map → IsMapOf (all_lowered (all_raised store map.numbers) map.numbers) map
is_map-half_released store map of =
    let facts = λ (i : ℕ) (h : i < length map.numbers).
    let up = count_at-all_raised_in store map.numbers i h of.apart (of.counted i h) in
    let one = of.counted i h in
    at-all_lowered_in (all_raised store map.numbers) map.numbers i h of.apart (omega arith) in
    is_map-kept store (all_lowered (all_raised store map.numbers) map.numbers) map
    (λ i h. (facts i h).1 ∙ ap (λ pages. get_or pages (slice_index map.numbers i) []) (pages-all_raised store map.numbers))
    of
    (λ i h. let up = count_at-all_raised_in store map.numbers i h of.apart (of.counted i h) in
    let one = of.counted i h in let down = (facts i h).0 in omega arith)
