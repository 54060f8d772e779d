-- Lists over pages that grow: first in the last page, then on further pages.
use Rattle.std.proofs.Common.{ℕ, zero, suc, ◌≡◌, ◌≢◌, ◌+◌, ◌-◌, ◌*◌, ◌/◌, ◌%◌, ◌<◌, ◌≤◌, min, List, [], ◌∷◌, ◌++◌, length, slice_index, drop, replicate, sym, ap, ◌∙◌, subst, ⊎_elim, arith, get_or-set_same, get_or-set_other, length-append, length-drop, take-append-drop, get_or-drop, get_or-take}
use Rattle.std.specs.List.{flat_map}
use Rattle.std.proofs.lemmas.Bool.{cases_eq, cases_lt, cond-true, cond-false, eq-eqb, ne_eqb}
use Rattle.std.proofs.lemmas.List.{append-nil, append_assoc, length-replicate}
use Rattle.std.proofs.lemmas.List.Concat.{flat_map-append}
use Rattle.vv_map.specs.Rooms.{MapState}
use Rattle.vv_map.specs.Pages.{StoreState, page_at, count_at, list_of, pages_for, with_entries, last_filled, Appends, IsMapOf}
use Rattle.vv_map.proofs.MapLemmas.{numbers_differ, replicate_list, flat_map_same}

-- the last page has some entries more
list_extended : {E : Type 0} (f f' : ℕ → List E) (ns : List ℕ) (extra : List E) (i : ℕ) → length ns ≡ i + 1 → ((k : ℕ) → k < i → f' (slice_index ns k) ≡ f (slice_index ns k)) → f' (slice_index ns i) ≡ f (slice_index ns i) ++ extra → flat_map f' ns ≡ flat_map f ns ++ extra
list_extended f f' [] extra i size same last = absurd (omega arith)
list_extended f f' (p ∷ []) extra i size same last =
    let first : i ≡ 0 = omega arith in
    let here : f' p ≡ f p ++ extra = subst (λ k. f' (slice_index (p ∷ []) k) ≡ f (slice_index (p ∷ []) k) ++ extra) first last in
    append-nil (f' p) ∙ here ∙ ap (λ xs. xs ++ extra) (sym (append-nil (f p)))
list_extended f f' (p ∷ q ∷ qs) extra zero size same last = absurd (omega arith)
list_extended f f' (p ∷ q ∷ qs) extra (suc i) size same last =
    ap (λ xs. xs ++ flat_map f' (q ∷ qs)) (same 0 (omega arith))
    ∙ ap (λ ys. f p ++ ys) (list_extended f f' (q ∷ qs) extra i (omega arith) (λ k lt. same (suc k) (omega arith)) last)
    ∙ sym (append_assoc (f p) (flat_map f (q ∷ qs)) extra)

-- a list as far as its pages go
abbrev pub filled_map : MapState → ℕ → MapState
filled_map map n = record { numbers = map.numbers; len = min n (64 * length map.numbers); memory = map.memory }

module _ {E : Type 0} (store : StoreState E) (map : MapState) (n : ℕ) (entry : E) (of : IsMapOf store map) (more : map.len ≤ n) where
  -- where the last page is full, nothing changes
  full_same : map.len % 64 ≡ 0 → last_filled store map n entry ≡ store
  full_same e = cond-true _ _ _ (eq-eqb (map.len % 64) 0 e)

  full_len : map.len % 64 ≡ 0 → min n (64 * length map.numbers) ≡ map.len
  full_len e = let s = of.size in omega arith

  module _ (part : map.len % 64 ≢ 0) (within : slice_index map.numbers (map.len / 64) < length store.pages) where
    part_same : last_filled store map n entry ≡ with_entries store (slice_index map.numbers (map.len / 64)) (page_at store (slice_index map.numbers (map.len / 64)) ++ replicate (min 64 (n - 64 * (map.len / 64)) - map.len % 64) entry)
    part_same = cond-false _ _ _ (ne_eqb (map.len % 64) 0 part)

    last_place : length map.numbers ≡ map.len / 64 + 1
    last_place = let s = of.size in omega arith

    last_page : page_at (last_filled store map n entry) (slice_index map.numbers (map.len / 64)) ≡ page_at store (slice_index map.numbers (map.len / 64)) ++ replicate (min 64 (n - 64 * (map.len / 64)) - map.len % 64) entry
    last_page = ap (λ s. page_at s (slice_index map.numbers (map.len / 64))) part_same ∙ get_or-set_same store.pages (slice_index map.numbers (map.len / 64)) _ [] within

    other_page : (k : ℕ) → k < map.len / 64 → page_at (last_filled store map n entry) (slice_index map.numbers k) ≡ page_at store (slice_index map.numbers k)
    other_page k lt = ap (λ s. page_at s (slice_index map.numbers k)) part_same ∙ get_or-set_other store.pages (slice_index map.numbers (map.len / 64)) (slice_index map.numbers k) _ [] (numbers_differ store map of (map.len / 64) k (omega (arith, last_place)) (omega (arith, last_place)) (omega arith))

    part_list : flat_map (page_at (last_filled store map n entry)) map.numbers ≡ list_of store map ++ replicate (min n (64 * length map.numbers) - map.len) entry
    part_list =
        let extra : min 64 (n - 64 * (map.len / 64)) - map.len % 64 ≡ min n (64 * length map.numbers) - map.len = let p = last_place in omega arith in
        list_extended (page_at store) (page_at (last_filled store map n entry)) map.numbers (replicate (min 64 (n - 64 * (map.len / 64)) - map.len % 64) entry) (map.len / 64) last_place other_page last_page
        ∙ ap (λ k. list_of store map ++ replicate k entry) extra

    part_sizes : (i : ℕ) → i < length map.numbers → length (page_at (last_filled store map n entry) (slice_index map.numbers i)) ≡ min 64 (min n (64 * length map.numbers) - 64 * i)
    part_sizes i h = ⊎_elim
        (λ lt. let same = ap length (other_page i lt) in let was = of.sizes i h in let p = last_place in omega arith)
        (λ ge. let e : map.len / 64 ≡ i = let p = last_place in omega arith in
        subst (λ k. length (page_at (last_filled store map n entry) (slice_index map.numbers k)) ≡ min 64 (min n (64 * length map.numbers) - 64 * k)) e
        (let now = ap length last_page ∙ length-append (page_at store (slice_index map.numbers (map.len / 64))) (replicate (min 64 (n - 64 * (map.len / 64)) - map.len % 64) entry) in
        let extra = length-replicate (min 64 (n - 64 * (map.len / 64)) - map.len % 64) entry in
        let was = of.sizes (map.len / 64) (omega (arith, last_place)) in
        let p = last_place in omega arith))
        (cases_lt i (map.len / 64))

    part_counted : (i : ℕ) → i < length map.numbers → 1 ≤ count_at (last_filled store map n entry) (slice_index map.numbers i)
    part_counted i h = subst (λ (s : StoreState E). 1 ≤ count_at s (slice_index map.numbers i)) (sym part_same) (of.counted i h)

  pub list_of-filled : (map.len % 64 ≢ 0 → slice_index map.numbers (map.len / 64) < length store.pages) → flat_map (page_at (last_filled store map n entry)) map.numbers ≡ list_of store map ++ replicate (min n (64 * length map.numbers) - map.len) entry
  list_of-filled within = ⊎_elim
      (λ e. ap (λ s. list_of s map) (full_same e) ∙ sym (append-nil (list_of store map))
      ∙ ap (λ k. list_of store map ++ replicate k entry) (let l = full_len e in let none : 0 ≡ min n (64 * length map.numbers) - map.len = omega arith in none))
      (λ ne. part_list ne (within ne))
      (cases_eq (map.len % 64) 0)

  pub is_map-filled : (map.len % 64 ≢ 0 → slice_index map.numbers (map.len / 64) < length store.pages) → IsMapOf (last_filled store map n entry) (filled_map map n)
  is_map-filled within = ⊎_elim
      (λ e. record {
        counted = λ i h. subst (λ (s : StoreState E). 1 ≤ count_at s (slice_index map.numbers i)) (sym (full_same e)) (of.counted i h);
        apart = of.apart;
        sizes = λ i h. ap (λ s. length (page_at s (slice_index map.numbers i))) (full_same e) ∙ of.sizes i h ∙ ap (λ k. min 64 (k - 64 * i)) (sym (full_len e));
        size = of.size ∙ ap pages_for (sym (full_len e));
      })
      (λ ne. record {
        counted = part_counted ne (within ne);
        apart = of.apart;
        sizes = part_sizes ne (within ne);
        size = let p = last_place ne (within ne) in omega arith;
      })
      (cases_eq (map.len % 64) 0)

-- ---- further pages
module _ {E : Type 0} (mid new : StoreState E) (map : MapState) (ns : List ℕ) (n : ℕ) (entry : E) (of : IsMapOf mid (filled_map map n)) (added : Appends mid new map.numbers ns n entry) (size : length ns ≡ pages_for n) where
  early_number : (i : ℕ) → i < length map.numbers → slice_index ns i ≡ slice_index map.numbers i
  early_number i h = sym (get_or-take (length map.numbers) ns i 0 h) ∙ ap (λ xs. slice_index xs i) added.first

  early_page : (i : ℕ) → i < length map.numbers → page_at new (slice_index map.numbers i) ≡ page_at mid (slice_index map.numbers i)
  early_page i h = added.other_pages (slice_index map.numbers i) (of.counted i h)

  later_number : (i : ℕ) → slice_index (drop (length map.numbers) ns) i ≡ slice_index ns (length map.numbers + i)
  later_number i = get_or-drop (length map.numbers) ns i 0

  rest_size : length (drop (length map.numbers) ns) ≡ length ns - length map.numbers
  rest_size = length-drop (length map.numbers) ns

  pub list_of-grown : flat_map (page_at new) ns ≡ list_of mid (filled_map map n) ++ replicate (n - min n (64 * length map.numbers)) entry
  list_of-grown =
      let k = length map.numbers in
      let split : ns ≡ map.numbers ++ drop k ns = sym (take-append-drop k ns) ∙ ap (λ xs. xs ++ drop k ns) added.first in
      let left : n - 64 * k ≡ n - min n (64 * k) = omega arith in
      let later = replicate_list (page_at new) (drop k ns) (n - 64 * k) entry (let s = size in let r = rest_size in let l = added.longer in omega arith)
      (λ i lt. let high : k + i < length ns = omega (arith, rest_size) in
      let less : n - 64 * (k + i) ≡ n - 64 * k - 64 * i = omega arith in
      ap (page_at new) (later_number i) ∙ added.filled (k + i) (omega arith) high ∙ ap (λ m. replicate (min 64 m) entry) less) in
      ap (flat_map (page_at new)) split
      ∙ flat_map-append (page_at new) map.numbers (drop k ns)
      ∙ ap (λ xs. xs ++ flat_map (page_at new) (drop k ns)) (flat_map_same (page_at mid) (page_at new) map.numbers early_page)
      ∙ ap (λ ys. list_of mid (filled_map map n) ++ ys) (later ∙ ap (λ m. replicate m entry) left)

  pub is_map-grown : (memory : ℕ) → let grown : MapState = record { numbers = ns; len = n; memory = memory } in IsMapOf new grown
  is_map-grown memory = record {
    counted = λ i h. ⊎_elim
        (λ lt. let same : count_at new (slice_index ns i) ≡ count_at mid (slice_index map.numbers i) = ap (count_at new) (early_number i lt) ∙ added.other_counts (slice_index map.numbers i) (of.counted i lt) in
        let one = of.counted i lt in omega arith)
        (λ ge. let one = added.counted i ge h in omega arith)
        (cases_lt i (length map.numbers));
    apart = λ i j lt h e. ⊎_elim
        (λ jn. of.apart i j lt jn (sym (early_number i (omega arith)) ∙ e ∙ early_number j jn))
        (λ ge. ⊎_elim
        (λ il. let one = of.counted i il in
        let none : count_at mid (slice_index map.numbers i) ≡ 0 = ap (count_at mid) (sym (early_number i il) ∙ e) ∙ added.unused j ge h in
        let bad : ⊥ = omega arith in bad)
        (λ ig. added.apart i j ig lt h e)
        (cases_lt i (length map.numbers)))
        (cases_lt j (length map.numbers));
    sizes = λ i h. ⊎_elim
        (λ lt. ap (λ p. length (page_at new p)) (early_number i lt) ∙ ap length (early_page i lt) ∙ of.sizes i lt ∙ (let s = size in let l = added.longer in omega arith))
        (λ ge. ap length (added.filled i ge h) ∙ length-replicate (min 64 (n - 64 * i)) entry)
        (cases_lt i (length map.numbers));
    size = size;
  }
