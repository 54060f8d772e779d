-- A list that gets unmapped entries more: in its last page, and on further pages.
use Rattle.std.proofs.Common.{ℕ, ◌≡◌, ◌≢◌, ◌+◌, ◌-◌, ◌*◌, ◌/◌, ◌%◌, ◌<◌, ◌≤◌, ◌⊎◌, min, List, ◌++◌, length, slice_index, drop, replicate, sym, ap, ◌∙◌, subst, ⊎_elim, arith, take-append-drop, get_or-drop, length-drop, length-append, inl, inr}
use Rattle.std.proofs.lemmas.Bool.{cases_eq, cases_lt, cond-true, cond-false, eq-eqb, ne_eqb}
use Rattle.std.proofs.lemmas.List.{length-replicate}
use Rattle.vv_map.specs.Rooms.{MapState}
use Rattle.vv_map.specs.Pages.{StoreState, page_at, count_at, with_entries, last_filled, Appends, IsMapOf}
use Rattle.vv_entries.specs.declared.entry.Entry.{Entry}
use Rattle.vv_entries.specs.Entries.{named, named_in, unmapped, IsTidy}
use Rattle.vv_entries.specs.Changes.{times, Exchanges, TakesUnused}
use Rattle.vv_entries.proofs.Times.{times-append, times_stands, out_from_times, times_apart}
use Rattle.vv_entries.proofs.Named.{named-nil, named-unmapped, named_filled, named_in-same, named_in-set}
use Rattle.vv_entries.proofs.Shared.{within_counts}
use Rattle.vv_entries.proofs.Written.{exchanges-same, exchanges-written, tidy-written}

-- ---- further pages
module _ (old new : StoreState Entry) (numbers numbers' : List ℕ) (n : ℕ) (added : Appends old new numbers numbers' n unmapped) where
  later : List ℕ
  later = drop (length numbers) numbers'

  split : numbers' ≡ numbers ++ drop (length numbers) numbers'
  split = sym (take-append-drop (length numbers) numbers') ∙ ap (λ ks. ks ++ drop (length numbers) numbers') added.first

  size : length (drop (length numbers) numbers') + length numbers ≡ length numbers'
  size = let l = length-drop (length numbers) numbers' in omega (arith, added.longer)

  later_number : (i : ℕ) → slice_index (drop (length numbers) numbers') i ≡ slice_index numbers' (length numbers + i)
  later_number i = get_or-drop (length numbers) numbers' i 0

  later_apart : (i j : ℕ) → i < j → j < length (drop (length numbers) numbers') → slice_index (drop (length numbers) numbers') i ≢ slice_index (drop (length numbers) numbers') j
  later_apart i j lt h e = added.apart (length numbers + i) (length numbers + j) (omega arith) (omega arith) (omega (arith, size)) (sym (later_number i) ∙ e ∙ later_number j)

  -- a page is one of the further ones, or as it was
  abbrev IsNew : ℕ → Type 0
  IsNew p = (times p (drop (length numbers) numbers') ≡ 1) × (count_at old p ≡ 0) × (count_at new p ≡ 1) × (k : ℕ) × (k ≤ 64) × (page_at new p ≡ replicate k unmapped)

  abbrev IsOld : ℕ → Type 0
  IsOld p = (times p (drop (length numbers) numbers') ≡ 0) × (count_at new p ≡ count_at old p) × (page_at new p ≡ page_at old p)

  new_page : (p : ℕ) → 1 ≤ times p (drop (length numbers) numbers') → IsNew p
  new_page p h =
      let (i, lt, e) = times_stands p (drop (length numbers) numbers') h in
      let number : slice_index numbers' (length numbers + i) ≡ p = sym (later_number i) ∙ e in
      let high : length numbers + i < length numbers' = omega (arith, size) in
      let most = times_apart p (drop (length numbers) numbers') later_apart in (
        omega arith,
        ap (count_at old) (sym number) ∙ added.unused (length numbers + i) (omega arith) high,
        ap (count_at new) (sym number) ∙ added.counted (length numbers + i) (omega arith) high,
        min 64 (n - 64 * (length numbers + i)),
        omega arith,
        ap (page_at new) (sym number) ∙ added.filled (length numbers + i) (omega arith) high,
      )

  old_page : (p : ℕ) → times p (drop (length numbers) numbers') ≡ 0 → IsOld p
  old_page p none = ⊎_elim
      (λ some. (none, added.other_counts p some, added.other_pages p some))
      (λ zero_there.
      let unused : count_at old p ≡ 0 = omega arith in
      let kept = added.still_unused p unused (λ i low high e.
      let place : length numbers + (i - length numbers) ≡ i = omega arith in
      out_from_times p (drop (length numbers) numbers') none (i - length numbers) (omega (arith, size)) (later_number (i - length numbers) ∙ ap (slice_index numbers') place ∙ e)) in
      (none, kept.1 ∙ sym unused, kept.0))
      (cases_lt 0 (count_at old p))

  at_page : (p : ℕ) → IsNew p ⊎ IsOld p
  at_page p = ⊎_elim (λ some. inl (new_page p some)) (λ none. inr (old_page p (omega arith))) (cases_lt 0 (times p (drop (length numbers) numbers')))

  pub exchanges-appended : Exchanges old new numbers numbers'
  exchanges-appended = record {
    counts = λ p.
        let both : times p numbers' ≡ times p numbers + times p (drop (length numbers) numbers') = ap (times p) split ∙ times-append p numbers (drop (length numbers) numbers') in
        ⊎_elim
        (λ (w : IsNew p). let one = w.0 in let was = w.1 in let now = w.2 in omega arith)
        (λ (w : IsOld p). let none = w.0 in let same = w.1 in omega arith)
        (at_page p);
    pages = λ p h. added.other_pages p (omega arith);
    size = added.counts;
  }

  pub takes-appended : TakesUnused old numbers numbers'
  takes-appended p some =
      let both : times p numbers' ≡ times p numbers + times p (drop (length numbers) numbers') = ap (times p) split ∙ times-append p numbers (drop (length numbers) numbers') in
      ⊎_elim
      (λ (w : IsNew p). let was = w.1 in absurd (omega arith))
      (λ (w : IsOld p). let none = w.0 in omega arith)
      (at_page p)

  pub named-appended : (p : ℕ) → IsTidy old → named_in new p ≡ named_in old p
  named-appended p tidy = named_in-same old new p added.pages (λ k. ⊎_elim
      (λ (w : IsNew k). let (one, was, now, m, few, page) = w in
      ap (named p) page ∙ named-unmapped p m ∙ sym (ap (named p) (tidy.blank k was) ∙ named-nil p))
      (λ (w : IsOld k). ap (named p) w.2)
      (at_page k))

  pub tidy-appended : IsTidy old → IsTidy new
  tidy-appended tidy = record {
    small = λ k. ⊎_elim
        (λ (w : IsNew k). let (one, was, now, m, few, page) = w in let all = ap length page ∙ length-replicate m unmapped in omega arith)
        (λ (w : IsOld k). subst (λ es. length es ≤ 64) (sym w.2) (tidy.small k))
        (at_page k);
    blank = λ k none. ⊎_elim
        (λ (w : IsNew k). absurd (let now = w.2 in omega arith))
        (λ (w : IsOld k). w.2 ∙ tidy.blank k (sym w.1 ∙ none))
        (at_page k);
    same = added.counts ∙ tidy.same ∙ sym added.pages;
    few = omega (arith, added.pages, tidy.few);
  }

-- ---- the last page
module _ (store : StoreState Entry) (map : MapState) (n : ℕ) (of : IsMapOf store map) (more : map.len ≤ n)
    (alone : 0 < map.len % 64 → count_at store (slice_index map.numbers (map.len / 64)) ≡ 1) where
  number : ℕ
  number = slice_index map.numbers (map.len / 64)

  extra : ℕ
  extra = min 64 (n - 64 * (map.len / 64)) - map.len % 64

  full_same : map.len % 64 ≡ 0 → last_filled store map n unmapped ≡ store
  full_same e = cond-true _ _ _ (eq-eqb (map.len % 64) 0 e)

  part_same : map.len % 64 ≢ 0 → last_filled store map n unmapped ≡ with_entries store (slice_index map.numbers (map.len / 64)) (page_at store (slice_index map.numbers (map.len / 64)) ++ replicate (min 64 (n - 64 * (map.len / 64)) - map.len % 64) unmapped)
  part_same ne = cond-false _ _ _ (ne_eqb (map.len % 64) 0 ne)

  last_within : map.len % 64 ≢ 0 → map.len / 64 < length map.numbers
  last_within ne = let s = of.size in omega arith

  last_fits : map.len % 64 ≢ 0 → length (page_at store (slice_index map.numbers (map.len / 64)) ++ replicate (min 64 (n - 64 * (map.len / 64)) - map.len % 64) unmapped) ≤ 64
  last_fits ne =
      let s = of.sizes (map.len / 64) (last_within ne) in
      let all = length-append (page_at store (slice_index map.numbers (map.len / 64))) (replicate (min 64 (n - 64 * (map.len / 64)) - map.len % 64) unmapped) in
      let more = length-replicate (min 64 (n - 64 * (map.len / 64)) - map.len % 64) unmapped in
      omega arith

  pub exchanges-filled : Exchanges store (last_filled store map n unmapped) map.numbers map.numbers
  exchanges-filled = ⊎_elim
      (λ e. subst (λ s. Exchanges store s map.numbers map.numbers) (sym (full_same e)) (exchanges-same store map.numbers))
      (λ ne. subst (λ s. Exchanges store s map.numbers map.numbers) (sym (part_same ne)) (exchanges-written store map.numbers (map.len / 64) _ (last_within ne) (alone (omega arith))))
      (cases_eq (map.len % 64) 0)

  pub tidy-filled : IsTidy store → IsTidy (last_filled store map n unmapped)
  tidy-filled tidy = ⊎_elim
      (λ e. subst IsTidy (sym (full_same e)) tidy)
      (λ ne. subst IsTidy (sym (part_same ne)) (tidy-written store map.numbers (map.len / 64) _ (last_within ne) (alone (omega arith)) (last_fits ne) tidy))
      (cases_eq (map.len % 64) 0)

  pub named-filled : (p : ℕ) → IsTidy store → named_in (last_filled store map n unmapped) p ≡ named_in store p
  named-filled p tidy = ⊎_elim
      (λ e. ap (λ s. named_in s p) (full_same e))
      (λ ne. let filled = named_filled p (min 64 (n - 64 * (map.len / 64)) - map.len % 64) (page_at store (slice_index map.numbers (map.len / 64))) in
      let one = alone (omega arith) in
      let within = within_counts store (slice_index map.numbers (map.len / 64)) (omega arith) in
      let all = named_in-set store store.counts (slice_index map.numbers (map.len / 64)) (page_at store (slice_index map.numbers (map.len / 64)) ++ replicate (min 64 (n - 64 * (map.len / 64)) - map.len % 64) unmapped) p (omega (arith, tidy.same)) in
      ap (λ s. named_in s p) (part_same ne) ∙ (omega arith))
      (cases_eq (map.len % 64) 0)
