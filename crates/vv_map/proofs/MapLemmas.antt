-- Lists over pages: where an entry stands, and what a write to one page changes.
use Rattle.std.proofs.Common.{ℕ, zero, suc, ◌≡◌, ◌≢◌, ◌+◌, ◌-◌, ◌*◌, ◌/◌, ◌%◌, ◌<◌, ◌≤◌, min, List, [], ◌∷◌, ◌++◌, length, get_or, slice_get, slice_index, set, take, replicate, refl, sym, ap, ◌∙◌, subst, ⊎_elim, arith, get_or-set_same, get_or-set_other, length-set, length-take, get_or-take, filter, ◌==◌}
use Rattle.std.specs.List.{flat_map}
use Rattle.std.proofs.lemmas.Bool.{cases_eq, cases_lt, cond-true, cond-false, eq-eqb, ne_eqb}
use Rattle.std.proofs.lemmas.List.{get_or_past, set-append_left, set-append_right, append-nil, get_or_append_left, get_or_push, length_push, take_all, take-append-le, length-replicate, replicate-append-replicate}
use Rattle.std.proofs.lemmas.List.Elements.{filter_more}
use Rattle.std.proofs.lemmas.List.Concat.{flat_map-append}
use Rattle.vv_map.specs.Rooms.{MapState}
use Rattle.vv_map.specs.Pages.{StoreState, page_at, count_at, list_of, pages_for, with_entries, with_count, with_page, lowered, raised, all_raised, all_lowered, ending_entries, Unshares, Appends, unused_pages, IsMapOf}

slice_get-append_left : {E : Type 0} (xs ys : List E) (i : ℕ) → i < length xs → slice_get (xs ++ ys) i ≡ slice_get xs i
slice_get-append_left [] ys i h = absurd (omega arith)
slice_get-append_left (x ∷ xs) ys zero h = refl
slice_get-append_left (x ∷ xs) ys (suc i) h = slice_get-append_left xs ys i (omega arith)

slice_get-append_right : {E : Type 0} (xs ys : List E) (n i : ℕ) → n ≡ length xs + i → slice_get (xs ++ ys) n ≡ slice_get ys i
slice_get-append_right [] ys n i e = ap (slice_get ys) (e ∙ omega arith)
slice_get-append_right (x ∷ xs) ys zero i e = absurd (omega arith)
slice_get-append_right (x ∷ xs) ys (suc n) i e = slice_get-append_right xs ys n i (omega arith)

-- the entry at place j of page i, where the pages before are full
pub list_at : {E : Type 0} (f : ℕ → List E) (numbers : List ℕ) (i j n : ℕ) → n ≡ 64 * i + j → ((k : ℕ) → k < i → length (f (slice_index numbers k)) ≡ 64) → i < length numbers → j < length (f (slice_index numbers i)) → slice_get (flat_map f numbers) n ≡ slice_get (f (slice_index numbers i)) j
list_at f [] i j n e full h within = absurd (omega arith)
list_at f (p ∷ ps) zero j n e full h within =
    ap (slice_get (f p ++ flat_map f ps)) (e ∙ omega arith) ∙ slice_get-append_left (f p) (flat_map f ps) j within
list_at f (p ∷ ps) (suc i) j n e full h within =
    let first : length (f p) ≡ 64 = full 0 (omega arith) in
    slice_get-append_right (f p) (flat_map f ps) n (64 * i + j) (omega arith)
    ∙ list_at f ps i j (64 * i + j) refl (λ k lt. full (suc k) (omega arith)) (omega arith) within

-- lists over the same pages
pub flat_map_same : {E : Type 0} (f f' : ℕ → List E) (numbers : List ℕ) → ((k : ℕ) → k < length numbers → f' (slice_index numbers k) ≡ f (slice_index numbers k)) → flat_map f' numbers ≡ flat_map f numbers
flat_map_same f f' [] same = refl
flat_map_same f f' (p ∷ ps) same =
    ap (λ xs. xs ++ flat_map f' ps) (same 0 (omega arith)) ∙ ap (λ ys. f p ++ ys) (flat_map_same f f' ps (λ k lt. same (suc k) (omega arith)))

-- a write to place j of page i
pub list_set : {E : Type 0} (f f' : ℕ → List E) (numbers : List ℕ) (i j n : ℕ) (e : E) → n ≡ 64 * i + j → ((k : ℕ) → k < i → length (f (slice_index numbers k)) ≡ 64) → i < length numbers → j < length (f (slice_index numbers i))
    → f' (slice_index numbers i) ≡ set (f (slice_index numbers i)) j e → ((k : ℕ) → k < length numbers → k ≢ i → f' (slice_index numbers k) ≡ f (slice_index numbers k)) → flat_map f' numbers ≡ set (flat_map f numbers) n e
list_set f f' [] i j n e at full h within here others = absurd (omega arith)
list_set f f' (p ∷ ps) zero j n e at full h within here others =
    ap (λ xs. xs ++ flat_map f' ps) here
    ∙ ap (λ ys. set (f p) j e ++ ys) (flat_map_same f f' ps (λ k lt. others (suc k) (omega arith) (omega arith)))
    ∙ sym (set-append_left (f p) (flat_map f ps) j e within)
    ∙ ap (λ m. set (f p ++ flat_map f ps) m e) (sym (at ∙ omega arith))
list_set f f' (p ∷ ps) (suc i) j n e at full h within here others =
    let first : length (f p) ≡ 64 = full 0 (omega arith) in
    let place : n - 64 ≡ 64 * i + j = omega arith in
    ap (λ xs. xs ++ flat_map f' ps) (others 0 (omega arith) (omega arith))
    ∙ ap (λ ys. f p ++ ys) (list_set f f' ps i j (64 * i + j) e refl (λ k lt. full (suc k) (omega arith)) (omega arith) within here (λ k lt ne. others (suc k) (omega arith) (λ s. ne (omega arith))))
    ∙ sym (set-append_right (f p) (flat_map f ps) 64 n e first (omega arith) ∙ ap (λ m. f p ++ set (flat_map f ps) m e) place)

-- ---- one list of a store
module _ {E : Type 0} (store : StoreState E) (map : MapState) (of : IsMapOf store map) where
  -- the page of an entry
  pub page_within : (at : ℕ) → at < map.len → at / 64 < length map.numbers
  page_within at h = let e = of.size in omega arith

  pub place_within : (at : ℕ) → at < map.len → at % 64 < length (page_at store (slice_index map.numbers (at / 64)))
  place_within at h = let e = of.sizes (at / 64) (page_within at h) in omega arith

  full_before : (at : ℕ) → at < map.len → (k : ℕ) → k < at / 64 → length (page_at store (slice_index map.numbers k)) ≡ 64
  full_before at h k lt = let e = of.sizes k (omega (arith, page_within at h)) in omega arith

  pub entry_at : (at : ℕ) → at < map.len → slice_get (list_of store map) at ≡ slice_get (page_at store (slice_index map.numbers (at / 64))) (at % 64)
  entry_at at h = list_at (page_at store) map.numbers (at / 64) (at % 64) at (omega arith) (full_before at h) (page_within at h) (place_within at h)

  pub number_within : (i : ℕ) → i < length map.numbers → slice_index map.numbers i < length store.counts
  number_within i h = ⊎_elim (λ lt. lt) (λ ge. let z = get_or_past store.counts (slice_index map.numbers i) 0 ge in let o = of.counted i h in absurd (omega arith)) (cases_lt (slice_index map.numbers i) (length store.counts))

  pub numbers_differ : (i k : ℕ) → i < length map.numbers → k < length map.numbers → k ≢ i → slice_index map.numbers k ≢ slice_index map.numbers i
  numbers_differ i k hi hk ne e = ⊎_elim (λ lt. of.apart k i lt hi e) (λ ge. of.apart i k (omega arith) hk (sym e)) (cases_lt k i)

  -- the list after a write to one entry of a page
  pub list_of-written : (at : ℕ) (e : E) → at < map.len → slice_index map.numbers (at / 64) < length store.pages → list_of (with_entries store (slice_index map.numbers (at / 64)) (set (page_at store (slice_index map.numbers (at / 64))) (at % 64) e)) map ≡ set (list_of store map) at e
  list_of-written at e h within =
      let number = slice_index map.numbers (at / 64) in
      let entries = set (page_at store number) (at % 64) e in
      list_set (page_at store) (page_at (with_entries store number entries)) map.numbers (at / 64) (at % 64) at e (omega arith) (full_before at h) (page_within at h) (place_within at h)
      (get_or-set_same store.pages number entries [] within)
      (λ k lt ne. get_or-set_other store.pages number (slice_index map.numbers k) entries [] (numbers_differ (at / 64) k (page_within at h) lt ne))

-- .. which is a list of the store still
pub is_map-written : {E : Type 0} (store : StoreState E) (map : MapState) (number j : ℕ) (e : E) → IsMapOf store map → number < length store.pages → IsMapOf (with_entries store number (set (page_at store number) j e)) map
is_map-written store map number j e of within = record {
  counted = of.counted;
  apart = of.apart;
  sizes = λ i h. ⊎_elim
      (λ same. ap (λ p. length (page_at (with_entries store number (set (page_at store number) j e)) p)) same
      ∙ ap length (get_or-set_same store.pages number (set (page_at store number) j e) [] within)
      ∙ length-set (page_at store number) j e
      ∙ ap (λ p. length (page_at store p)) (sym same) ∙ of.sizes i h)
      (λ ne. ap length (get_or-set_other store.pages number (slice_index map.numbers i) (set (page_at store number) j e) [] ne) ∙ of.sizes i h)
      (cases_eq (slice_index map.numbers i) number);
  size = of.size;
}

-- .. and so is a list with the same pages
pub is_map-same : {E : Type 0} (store : StoreState E) (map map' : MapState) → map'.numbers ≡ map.numbers → map'.len ≡ map.len → IsMapOf store map → IsMapOf store map'
is_map-same store map map' numbers len of = record {
  counted = λ i h. subst (λ ns. 1 ≤ count_at store (slice_index ns i)) (sym numbers) (of.counted i (let s = ap length numbers in omega arith));
  apart = λ i j lt h. subst (λ ns. slice_index ns i ≢ slice_index ns j) (sym numbers) (of.apart i j lt (let s = ap length numbers in omega arith));
  sizes = λ i h. ap (λ ns. length (page_at store (slice_index ns i))) numbers ∙ of.sizes i (let s = ap length numbers in omega arith) ∙ ap (λ n. min 64 (n - 64 * i)) (sym len);
  size = ap length numbers ∙ of.size ∙ ap pages_for (sym len);
}

-- equal pages under other numbers
pub flat_map_like : {E : Type 0} (f f' : ℕ → List E) (numbers numbers' : List ℕ) → length numbers' ≡ length numbers → ((k : ℕ) → k < length numbers → f' (slice_index numbers' k) ≡ f (slice_index numbers k)) → flat_map f' numbers' ≡ flat_map f numbers
flat_map_like f f' [] [] size same = refl
flat_map_like f f' [] (q ∷ qs) size same = absurd (omega arith)
flat_map_like f f' (p ∷ ps) [] size same = absurd (omega arith)
flat_map_like f f' (p ∷ ps) (q ∷ qs) size same =
    ap (λ xs. xs ++ flat_map f' qs) (same 0 (omega arith))
    ∙ ap (λ ys. f p ++ ys) (flat_map_like f f' ps qs (omega arith) (λ k lt. same (suc k) (omega arith)))

-- ---- a page of one's own
lowered_shared : {E : Type 0} (store : StoreState E) (p : ℕ) → 2 ≤ count_at store p → lowered store p ≡ with_count store p (count_at store p - 1)
lowered_shared store p h = cond-false _ _ _ (ne_eqb (count_at store p) 1 (λ e. omega arith))

module _ {E : Type 0} (old new : StoreState E) (map map' : MapState) (i : ℕ) (of : IsMapOf old map) (un : Unshares old new map map' i) (two : 2 ≤ count_at old (slice_index map.numbers i)) (within : i < length map.numbers) where
  own : ℕ
  own = slice_index map'.numbers i

  after : new ≡ with_page (with_count old (slice_index map.numbers i) (count_at old (slice_index map.numbers i) - 1)) (slice_index map'.numbers i) (page_at old (slice_index map.numbers i)) 1
  after = un.copied ∙ ap (λ s. with_page s (slice_index map'.numbers i) (page_at old (slice_index map.numbers i)) 1) (lowered_shared old (slice_index map.numbers i) two)

  size_same : length map'.numbers ≡ length map.numbers
  size_same = ap length un.numbers ∙ length-set map.numbers i (slice_index map'.numbers i)

  other_number : (k : ℕ) → k ≢ i → slice_index map'.numbers k ≡ slice_index map.numbers k
  other_number k ne = ap (λ ns. slice_index ns k) un.numbers ∙ get_or-set_other map.numbers i k (slice_index map'.numbers i) 0 ne

  -- a page that is counted isn't the new one
  counted_other : (p : ℕ) → 1 ≤ count_at old p → p ≢ slice_index map'.numbers i
  counted_other p one e = let z = un.unused in let same : count_at old p ≡ count_at old (slice_index map'.numbers i) = ap (count_at old) e in omega arith

  page_own : page_at new (slice_index map'.numbers i) ≡ page_at old (slice_index map.numbers i)
  page_own = ap (λ s. page_at s (slice_index map'.numbers i)) after ∙ get_or-set_same old.pages (slice_index map'.numbers i) (page_at old (slice_index map.numbers i)) [] un.page

  page_other : (p : ℕ) → 1 ≤ count_at old p → page_at new p ≡ page_at old p
  page_other p one = ap (λ s. page_at s p) after ∙ get_or-set_other old.pages (slice_index map'.numbers i) p (page_at old (slice_index map.numbers i)) [] (counted_other p one)

  pages_same : (k : ℕ) → k < length map.numbers → page_at new (slice_index map'.numbers k) ≡ page_at old (slice_index map.numbers k)
  pages_same k lt = ⊎_elim
      (λ e. ap (λ j. page_at new (slice_index map'.numbers j)) e ∙ page_own ∙ ap (λ j. page_at old (slice_index map.numbers j)) (sym e))
      (λ ne. ap (page_at new) (other_number k ne) ∙ page_other (slice_index map.numbers k) (of.counted k lt))
      (cases_eq k i)

  pub list_of-unshared : list_of new map' ≡ list_of old map
  list_of-unshared = flat_map_like (page_at old) (page_at new) map.numbers map'.numbers size_same pages_same

  pub alone_unshared : count_at new (slice_index map'.numbers i) ≡ 1
  alone_unshared =
      let n = length-set old.counts (slice_index map.numbers i) (count_at old (slice_index map.numbers i) - 1) in
      ap (λ s. count_at s (slice_index map'.numbers i)) after
      ∙ get_or-set_same (set old.counts (slice_index map.numbers i) (count_at old (slice_index map.numbers i) - 1)) (slice_index map'.numbers i) 1 0 (omega (arith, un.within))

  count_other : (k : ℕ) → k < length map.numbers → k ≢ i → count_at new (slice_index map.numbers k) ≡ count_at old (slice_index map.numbers k)
  count_other k lt ne =
      ap (λ s. count_at s (slice_index map.numbers k)) after
      ∙ get_or-set_other (set old.counts (slice_index map.numbers i) (count_at old (slice_index map.numbers i) - 1)) (slice_index map'.numbers i) (slice_index map.numbers k) 1 0 (counted_other (slice_index map.numbers k) (of.counted k lt))
      ∙ get_or-set_other old.counts (slice_index map.numbers i) (slice_index map.numbers k) (count_at old (slice_index map.numbers i) - 1) 0 (numbers_differ old map of i k within lt ne)

  apart_unshared : (k j : ℕ) → k < j → j < length map'.numbers → slice_index map'.numbers k ≢ slice_index map'.numbers j
  apart_unshared k j lt h e = ⊎_elim
      (λ ki. let other : j ≢ i = omega arith in
      counted_other (slice_index map.numbers j) (of.counted j (omega (arith, size_same))) (sym (other_number j other) ∙ sym e ∙ ap (slice_index map'.numbers) ki))
      (λ kn. ⊎_elim
      (λ ji. counted_other (slice_index map.numbers k) (of.counted k (omega (arith, size_same))) (sym (other_number k kn) ∙ e ∙ ap (slice_index map'.numbers) ji))
      (λ jn. of.apart k j lt (omega (arith, size_same)) (sym (other_number k kn) ∙ e ∙ other_number j jn))
      (cases_eq j i))
      (cases_eq k i)

  pub is_map-unshared : IsMapOf new map'
  is_map-unshared = record {
    counted = λ k lt. ⊎_elim
        (λ e. let one : count_at new (slice_index map'.numbers k) ≡ 1 = ap (λ j. count_at new (slice_index map'.numbers j)) e ∙ alone_unshared in omega arith)
        (λ ne. let kept = of.counted k (omega (arith, size_same)) in
        let same : count_at new (slice_index map'.numbers k) ≡ count_at old (slice_index map.numbers k) = ap (count_at new) (other_number k ne) ∙ count_other k (omega (arith, size_same)) ne in omega arith)
        (cases_eq k i);
    apart = apart_unshared;
    sizes = λ k lt. ap length (pages_same k (omega (arith, size_same))) ∙ of.sizes k (omega (arith, size_same)) ∙ ap (λ n. min 64 (n - 64 * k)) (sym un.len);
    size = size_same ∙ of.size ∙ ap pages_for (sym un.len);
  }

-- ---- counts of several pages
pub pages-all_raised : {E : Type 0} (store : StoreState E) (ks : List ℕ) → (all_raised store ks).pages ≡ store.pages
pages-all_raised store [] = refl
pages-all_raised store (k ∷ ks) = pages-all_raised (raised store k) ks

pub count_at-all_raised_out : {E : Type 0} (store : StoreState E) (ks : List ℕ) (p : ℕ) → ((k : ℕ) → k < length ks → slice_index ks k ≢ p) → count_at (all_raised store ks) p ≡ count_at store p
count_at-all_raised_out store [] p out = refl
count_at-all_raised_out store (k ∷ ks) p out =
    count_at-all_raised_out (raised store k) ks p (λ j lt. out (suc j) (omega arith))
    ∙ get_or-set_other store.counts k p (count_at store k + 1) 0 (λ e. out 0 (omega arith) (sym e))

-- counts don't fall
pub count_at-all_raised_le : {E : Type 0} (store : StoreState E) (ks : List ℕ) (p : ℕ) → count_at store p ≤ count_at (all_raised store ks) p
count_at-all_raised_le store [] p = omega arith
count_at-all_raised_le store (k ∷ ks) p =
    let one : count_at store p ≤ count_at (raised store k) p = ⊎_elim
    (λ e. ⊎_elim
    (λ lt. let up : count_at (raised store k) k ≡ count_at store k + 1 = get_or-set_same store.counts k (count_at store k + 1) 0 lt in
    subst (λ q. count_at store q ≤ count_at (raised store k) q) (sym e) (omega arith))
    (λ ge. let z : count_at store p ≡ 0 = ap (count_at store) e ∙ get_or_past store.counts k 0 ge in omega arith)
    (cases_lt k (length store.counts)))
    (λ ne. let same : count_at (raised store k) p ≡ count_at store p = get_or-set_other store.counts k p (count_at store k + 1) 0 ne in omega arith)
    (cases_eq p k) in
    omega (arith, one, count_at-all_raised_le (raised store k) ks p)

pub list_of-all_raised : {E : Type 0} (store : StoreState E) (ks : List ℕ) (map : MapState) → list_of (all_raised store ks) map ≡ list_of store map
list_of-all_raised store ks map = flat_map_same (page_at store) (page_at (all_raised store ks)) map.numbers (λ k lt. ap (λ pages. get_or pages (slice_index map.numbers k) []) (pages-all_raised store ks))

pub is_map-all_raised : {E : Type 0} (store : StoreState E) (ks : List ℕ) (map : MapState) → IsMapOf store map → IsMapOf (all_raised store ks) map
is_map-all_raised store ks map of = record {
  counted = λ i lt. let more = count_at-all_raised_le store ks (slice_index map.numbers i) in let one = of.counted i lt in omega arith;
  apart = of.apart;
  sizes = λ i lt. ap (λ pages. length (get_or pages (slice_index map.numbers i) [])) (pages-all_raised store ks) ∙ of.sizes i lt;
  size = of.size;
}

pub count_at-all_lowered_out : {E : Type 0} (store : StoreState E) (ks : List ℕ) (p : ℕ) → ((k : ℕ) → k < length ks → slice_index ks k ≢ p) → (count_at (all_lowered store ks) p ≡ count_at store p) × (page_at (all_lowered store ks) p ≡ page_at store p)
count_at-all_lowered_out store [] p out = (refl, refl)
count_at-all_lowered_out store (k ∷ ks) p out =
    let rest = count_at-all_lowered_out (lowered store k) ks p (λ j lt. out (suc j) (omega arith)) in
    let ne : p ≢ k = λ e. out 0 (omega arith) (sym e) in
    let one = ⊎_elim {A = count_at store k ≡ 1} {C = (count_at (lowered store k) p ≡ count_at store p) × (page_at (lowered store k) p ≡ page_at store p)}
    (λ e. let same : lowered store k ≡ with_page store k [] 0 = cond-true _ _ _ (eq-eqb (count_at store k) 1 e) in
    (ap (λ s. count_at s p) same ∙ get_or-set_other store.counts k p 0 0 ne, ap (λ s. page_at s p) same ∙ get_or-set_other store.pages k p [] [] ne))
    (λ n. let same : lowered store k ≡ with_count store k (count_at store k - 1) = cond-false _ _ _ (ne_eqb (count_at store k) 1 n) in
    (ap (λ s. count_at s p) same ∙ get_or-set_other store.counts k p (count_at store k - 1) 0 ne, ap (λ s. page_at s p) same))
    (cases_eq (count_at store k) 1) in
    (rest.0 ∙ one.0, rest.1 ∙ one.1)

-- ---- the pages of one list, one after another
module _ {E : Type 0} (store : StoreState E) (map : MapState) (of : IsMapOf store map) (i : ℕ) (within : i < length map.numbers) where
  not_before : (k : ℕ) → k < length (take i map.numbers) → slice_index (take i map.numbers) k ≢ slice_index map.numbers i
  not_before k lt e =
      let low : k < i = omega (arith, length-take i map.numbers) in
      of.apart k i low within (sym (get_or-take i map.numbers k 0 low) ∙ e)

  pub raised_before : count_at (all_raised store (take i map.numbers)) (slice_index map.numbers i) ≡ count_at store (slice_index map.numbers i)
  raised_before = count_at-all_raised_out store (take i map.numbers) (slice_index map.numbers i) not_before

  pub lowered_before : (count_at (all_lowered store (take i map.numbers)) (slice_index map.numbers i) ≡ count_at store (slice_index map.numbers i)) × (page_at (all_lowered store (take i map.numbers)) (slice_index map.numbers i) ≡ page_at store (slice_index map.numbers i))
  lowered_before = count_at-all_lowered_out store (take i map.numbers) (slice_index map.numbers i) not_before

  pub page_some : 0 < length (page_at store (slice_index map.numbers i))
  page_some = let e = of.sizes i within in let n = of.size in omega arith

-- the entries that end, with one page more
pub ending_more_yes : {E : Type 0} (store : StoreState E) (ns : List ℕ) (i : ℕ) → i < length ns → count_at store (slice_index ns i) ≡ 1 → ending_entries store (take (i + 1) ns) ≡ ending_entries store (take i ns) ++ page_at store (slice_index ns i)
ending_more_yes store ns i h one =
    ap (flat_map (page_at store)) (filter_more (λ number. count_at store number == 1) ns i 0 h ∙ ap (λ ks. filter (λ number. count_at store number == 1) (take i ns) ++ ks) (cond-true _ (slice_index ns i ∷ []) [] (eq-eqb (count_at store (slice_index ns i)) 1 one)))
    ∙ flat_map-append (page_at store) (filter (λ number. count_at store number == 1) (take i ns)) (slice_index ns i ∷ [])
    ∙ ap (λ es. ending_entries store (take i ns) ++ es) (append-nil (page_at store (slice_index ns i)))

pub ending_more_no : {E : Type 0} (store : StoreState E) (ns : List ℕ) (i : ℕ) → i < length ns → count_at store (slice_index ns i) ≢ 1 → ending_entries store (take (i + 1) ns) ≡ ending_entries store (take i ns)
ending_more_no store ns i h more =
    ap (flat_map (page_at store)) (filter_more (λ number. count_at store number == 1) ns i 0 h ∙ ap (λ ks. filter (λ number. count_at store number == 1) (take i ns) ++ ks) (cond-false _ (slice_index ns i ∷ []) [] (ne_eqb (count_at store (slice_index ns i)) 1 more)) ∙ append-nil (filter (λ number. count_at store number == 1) (take i ns)))

-- pages joined, with one more
pub joined_more : {E : Type 0} (pages : List (List E)) (page : List E) → flat_map (λ (p : List E). p) (pages ++ page ∷ []) ≡ flat_map (λ (p : List E). p) pages ++ page
joined_more pages page = flat_map-append (λ p. p) pages (page ∷ []) ∙ ap (λ es. flat_map (λ p. p) pages ++ es) (append-nil page)

-- ---- pages that are added
pub appends-none : {E : Type 0} (store : StoreState E) (numbers : List ℕ) (n : ℕ) (entry : E) → Appends store store numbers numbers n entry
appends-none store numbers n entry = record {
  first = take_all (length numbers) numbers (omega arith);
  longer = omega arith;
  unused = λ i low high. absurd (omega arith);
  counted = λ i low high. absurd (omega arith);
  filled = λ i low high. absurd (omega arith);
  apart = λ i j low lt high. absurd (omega arith);
  other_pages = λ p one. refl;
  other_counts = λ p one. refl;
  still_unused = λ p none out. (refl, none);
  pages = refl;
  counts = refl;
  left = refl;
}

-- one page more
module _ {E : Type 0} (old mid new : StoreState E) (numbers ns : List ℕ) (n q : ℕ) (entry : E) (before : Appends old mid numbers ns n entry)
    (in_counts : q < length mid.counts) (in_pages : q < length mid.pages) (is_unused : count_at mid q ≡ 0)
    (placed : new ≡ with_page mid q (replicate (min 64 (n - 64 * length ns)) entry) 1) (one_less : unused_pages new + 1 ≡ unused_pages mid) where
  was_unused : count_at old q ≡ 0
  was_unused = ⊎_elim (λ lt. omega arith) (λ ge. let same = before.other_counts q ge in absurd (omega (arith, same, is_unused))) (cases_lt (count_at old q) 1)

  -- the new page is none of those before
  other_page : (i : ℕ) → length numbers ≤ i → i < length ns → slice_index ns i ≢ q
  other_page i low high e = let one = before.counted i low high in let same : count_at mid (slice_index ns i) ≡ 0 = ap (count_at mid) e ∙ is_unused in absurd (omega arith)

  number_before : (i : ℕ) → i < length ns → slice_index (ns ++ q ∷ []) i ≡ slice_index ns i
  number_before i lt = get_or_append_left ns (q ∷ []) 0 i lt

  number_last : slice_index (ns ++ q ∷ []) (length ns) ≡ q
  number_last = get_or_push ns q 0 (length ns) refl

  longer_by_one : length (ns ++ q ∷ []) ≡ length ns + 1
  longer_by_one = length_push ns q

  page_elsewhere : (p : ℕ) → p ≢ q → page_at new p ≡ page_at mid p
  page_elsewhere p ne = ap (λ s. page_at s p) placed ∙ get_or-set_other mid.pages q p (replicate (min 64 (n - 64 * length ns)) entry) [] ne

  count_elsewhere : (p : ℕ) → p ≢ q → count_at new p ≡ count_at mid p
  count_elsewhere p ne = ap (λ s. count_at s p) placed ∙ get_or-set_other mid.counts q p 1 0 ne

  -- a fact of each place is one of the earlier places and one of the last
  each_place : (P : ℕ → ℕ → Type 0) → ((i : ℕ) → length numbers ≤ i → i < length ns → P i (slice_index ns i)) → P (length ns) q → (i : ℕ) → length numbers ≤ i → i < length (ns ++ q ∷ []) → P i (slice_index (ns ++ q ∷ []) i)
  each_place P early last i low high = ⊎_elim
      (λ lt. subst (λ p. P i p) (sym (number_before i lt)) (early i low lt))
      (λ ge. let e : length ns ≡ i = omega (arith, longer_by_one) in subst (λ k. P k (slice_index (ns ++ q ∷ []) k)) e (subst (λ p. P (length ns) p) (sym number_last) last))
      (cases_lt i (length ns))

  counted_other_than : (p : ℕ) → 1 ≤ count_at old p → p ≢ q
  counted_other_than p one e = let same : count_at old p ≡ 0 = ap (count_at old) e ∙ was_unused in absurd (omega arith)

  pub appends-more : Appends old new numbers (ns ++ q ∷ []) n entry
  appends-more = record {
    first = take-append-le (length numbers) ns (q ∷ []) before.longer ∙ before.first;
    longer = omega (arith, before.longer, longer_by_one);
    unused = each_place (λ i p. count_at old p ≡ 0) before.unused was_unused;
    counted = each_place (λ i p. count_at new p ≡ 1)
        (λ i low high. count_elsewhere (slice_index ns i) (other_page i low high) ∙ before.counted i low high)
        (ap (λ s. count_at s q) placed ∙ get_or-set_same mid.counts q 1 0 in_counts);
    filled = each_place (λ i p. page_at new p ≡ replicate (min 64 (n - 64 * i)) entry)
        (λ i low high. page_elsewhere (slice_index ns i) (other_page i low high) ∙ before.filled i low high)
        (ap (λ s. page_at s q) placed ∙ get_or-set_same mid.pages q (replicate (min 64 (n - 64 * length ns)) entry) [] in_pages);
    apart = λ i j low lt high e. ⊎_elim
        (λ jn. before.apart i j low lt jn (sym (number_before i (omega arith)) ∙ e ∙ number_before j jn))
        (λ ge. let k : j ≡ length ns = omega (arith, longer_by_one) in
        other_page i low (omega arith) (sym (number_before i (omega arith)) ∙ e ∙ ap (slice_index (ns ++ q ∷ [])) k ∙ number_last))
        (cases_lt j (length ns));
    other_pages = λ p one. page_elsewhere p (counted_other_than p one) ∙ before.other_pages p one;
    other_counts = λ p one. count_elsewhere p (counted_other_than p one) ∙ before.other_counts p one;
    still_unused = λ p none out.
        let ne : p ≢ q = λ e. out (length ns) before.longer (omega (arith, longer_by_one)) (number_last ∙ sym e) in
        let kept = before.still_unused p none (λ i low high e. out i low (omega (arith, longer_by_one)) (number_before i high ∙ e)) in
        (page_elsewhere p ne ∙ kept.0, count_elsewhere p ne ∙ kept.1);
    pages = ap (λ s. length s.pages) placed ∙ length-set mid.pages q (replicate (min 64 (n - 64 * length ns)) entry) ∙ before.pages;
    counts = ap (λ s. length s.counts) placed ∙ length-set mid.counts q 1 ∙ before.counts;
    left = omega (arith, before.left, one_less, longer_by_one);
  }

-- ---- a list whose pages are all new
pub replicate_list : {E : Type 0} (f : ℕ → List E) (ns : List ℕ) (n : ℕ) (entry : E) → length ns ≡ pages_for n → ((i : ℕ) → i < length ns → f (slice_index ns i) ≡ replicate (min 64 (n - 64 * i)) entry) → flat_map f ns ≡ replicate n entry
replicate_list f [] n entry size filled = let none : 0 ≡ n = omega arith in ap (λ k. replicate k entry) none
replicate_list f (p ∷ ps) n entry size filled =
    let whole : n - 64 * 0 ≡ n = omega arith in
    let both : min 64 n + (n - 64) ≡ n = omega arith in
    let first : f p ≡ replicate (min 64 n) entry = filled 0 (omega arith) ∙ ap (λ k. replicate (min 64 k) entry) whole in
    let rest : flat_map f ps ≡ replicate (n - 64) entry = replicate_list f ps (n - 64) entry (omega arith) (λ i lt.
    let less : n - 64 * suc i ≡ n - 64 - 64 * i = omega arith in
    filled (suc i) (omega arith) ∙ ap (λ k. replicate (min 64 k) entry) less) in
    ap (λ xs. xs ++ flat_map f ps) first ∙ ap (λ ys. replicate (min 64 n) entry ++ ys) rest
    ∙ replicate-append-replicate (min 64 n) (n - 64) entry ∙ ap (λ k. replicate k entry) both

module _ {E : Type 0} (old new : StoreState E) (ns : List ℕ) (n : ℕ) (entry : E) (added : Appends old new [] ns n entry) (size : length ns ≡ pages_for n) where
  pub list_of-made : flat_map (page_at new) ns ≡ replicate n entry
  list_of-made = replicate_list (page_at new) ns n entry size (λ i lt. added.filled i (omega arith) lt)

  pub is_map-made : (memory : ℕ) → let map : MapState = record { numbers = ns; len = n; memory = memory } in IsMapOf new map
  is_map-made memory = record {
    counted = λ i lt. let one = added.counted i (omega arith) lt in omega arith;
    apart = λ i j lt h. added.apart i j (omega arith) lt h;
    sizes = λ i lt. ap length (added.filled i (omega arith) lt) ∙ length-replicate (min 64 (n - 64 * i)) entry;
    size = size;
  }
