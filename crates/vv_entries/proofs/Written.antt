-- A page that is copied for one list, and a write to a page that one list names.
use Rattle.std.proofs.Common.{ℕ, zero, suc, ◌≡◌, ◌≢◌, ◌+◌, ◌-◌, ◌<◌, ◌≤◌, List, [], ◌∷◌, Some, length, get_or, slice_get, slice_index, set, refl, sym, ap, ◌∙◌, subst, ⊎_elim, arith, get_or-set_same, get_or-set_other, length-set}
use Rattle.std.proofs.lemmas.Bool.{cases_eq, cases_lt}
use Rattle.std.proofs.lemmas.List.{set_past}
use Rattle.vv_map.specs.Rooms.{MapState}
use Rattle.vv_map.specs.Pages.{StoreState, page_at, count_at, with_page, with_entries, lowered, Unshares}
use Rattle.vv_entries.specs.declared.entry.Entry.{Entry}
use Rattle.vv_entries.specs.Entries.{named, named_in, IsTidy}
use Rattle.vv_entries.specs.Changes.{times, Exchanges, TakesUnused}
use Rattle.vv_entries.proofs.Times.{same_bit, same_bit_yes, same_bit_no, times-set, times_in}
use Rattle.vv_entries.proofs.Named.{name_bit, named-nil, named_in-set, named-set}
use Rattle.vv_entries.proofs.PlaceCounts.{named_one}
use Rattle.vv_entries.proofs.Shared.{lowered_more, lowered_count}

-- changes of one list, one after the other
pub exchanges-joined : (a b c : StoreState Entry) (first second third : List ℕ) → Exchanges a b first second → Exchanges b c second third → Exchanges a c first third
exchanges-joined a b c first second third ab bc = record {
  counts = λ n. let one = ab.counts n in let two = bc.counts n in omega arith;
  pages = λ n h. let one = ab.counts n in bc.pages n (omega arith) ∙ ab.pages n h;
  size = bc.size ∙ ab.size;
}

pub exchanges-same : (store : StoreState Entry) (ns : List ℕ) → Exchanges store store ns ns
exchanges-same store ns = record { counts = λ n. refl; pages = λ n h. refl; size = refl }

-- ---- a copied page
module _ (old new : StoreState Entry) (map map' : MapState) (i : ℕ) (un : Unshares old new map map' i) (two : 2 ≤ count_at old (slice_index map.numbers i)) (within : i < length map.numbers) where
  q : ℕ
  q = slice_index map.numbers i

  own : ℕ
  own = slice_index map'.numbers i

  -- another page than the new one
  counted_other : (n : ℕ) → 1 ≤ count_at old n → n ≢ slice_index map'.numbers i
  counted_other n one e = let z = un.unused in let same : count_at old n ≡ count_at old (slice_index map'.numbers i) = ap (count_at old) e in omega arith

  copied_count : (n : ℕ) → count_at new n + same_bit (slice_index map.numbers i) n ≡ count_at old n + same_bit (slice_index map'.numbers i) n
  copied_count n =
      let low = lowered_count old (slice_index map.numbers i) n (omega arith) in
      let now : count_at new n ≡ count_at (with_page (lowered old (slice_index map.numbers i)) (slice_index map'.numbers i) (page_at old (slice_index map.numbers i)) 1) n = ap (λ s. count_at s n) un.copied in
      ⊎_elim
      (λ e. let bit = same_bit_yes (slice_index map'.numbers i) n e in
      let z : count_at old n ≡ 0 = ap (count_at old) (sym e) ∙ un.unused in
      let size : slice_index map'.numbers i < length (lowered old (slice_index map.numbers i)).counts = subst (λ s. slice_index map'.numbers i < length s.counts) (sym (lowered_more old (slice_index map.numbers i) (λ one. omega arith))) (omega (arith, un.within, length-set old.counts (slice_index map.numbers i) (count_at old (slice_index map.numbers i) - 1))) in
      let one : count_at (with_page (lowered old (slice_index map.numbers i)) (slice_index map'.numbers i) (page_at old (slice_index map.numbers i)) 1) n ≡ 1 =
      ap (count_at (with_page (lowered old (slice_index map.numbers i)) (slice_index map'.numbers i) (page_at old (slice_index map.numbers i)) 1)) (sym e) ∙ get_or-set_same (lowered old (slice_index map.numbers i)).counts (slice_index map'.numbers i) 1 0 size in
      omega arith)
      (λ ne. let bit = same_bit_no (slice_index map'.numbers i) n ne in
      let there : count_at (with_page (lowered old (slice_index map.numbers i)) (slice_index map'.numbers i) (page_at old (slice_index map.numbers i)) 1) n ≡ count_at (lowered old (slice_index map.numbers i)) n =
      get_or-set_other (lowered old (slice_index map.numbers i)).counts (slice_index map'.numbers i) n 1 0 (λ e. ne (sym e)) in
      omega arith)
      (cases_eq (slice_index map'.numbers i) n)

  -- the pages are the old ones but for the new one
  pages_are : new.pages ≡ set old.pages (slice_index map'.numbers i) (page_at old (slice_index map.numbers i))
  pages_are = ap (λ s. s.pages) un.copied ∙ ap (λ s. set s.pages (slice_index map'.numbers i) (page_at old (slice_index map.numbers i))) (lowered_more old (slice_index map.numbers i) (λ one. omega arith))

  page_other : (n : ℕ) → n ≢ slice_index map'.numbers i → page_at new n ≡ page_at old n
  page_other n ne = ap (λ pages. get_or pages n []) pages_are ∙ get_or-set_other old.pages (slice_index map'.numbers i) n (page_at old (slice_index map.numbers i)) [] ne

  pub page_own : page_at new (slice_index map'.numbers i) ≡ page_at old (slice_index map.numbers i)
  page_own = ap (λ pages. get_or pages (slice_index map'.numbers i) []) pages_are ∙ get_or-set_same old.pages (slice_index map'.numbers i) (page_at old (slice_index map.numbers i)) [] un.page

  pub exchanges-unshared : Exchanges old new map.numbers map'.numbers
  exchanges-unshared = record {
    counts = λ n. let one = copied_count n in
        let stands = times-set n map.numbers i (slice_index map'.numbers i) within in
        let numbers : times n map'.numbers ≡ times n (set map.numbers i (slice_index map'.numbers i)) = ap (times n) un.numbers in
        omega arith;
    pages = λ n h. page_other n (counted_other n (omega arith));
    size = ap (λ s. length s.counts) un.copied ∙ length-set (lowered old (slice_index map.numbers i)).counts (slice_index map'.numbers i) 1
        ∙ ap (λ s. length s.counts) (lowered_more old (slice_index map.numbers i) (λ one. omega arith)) ∙ length-set old.counts (slice_index map.numbers i) (count_at old (slice_index map.numbers i) - 1);
  }

  pub takes-unshared : TakesUnused old map.numbers map'.numbers
  takes-unshared n some =
      let stands = times-set n map.numbers i (slice_index map'.numbers i) within in
      let numbers : times n map'.numbers ≡ times n (set map.numbers i (slice_index map'.numbers i)) = ap (times n) un.numbers in
      let other = same_bit_no (slice_index map'.numbers i) n (λ e. counted_other n some (sym e)) in
      omega arith

  -- the names of the copied page come twice from now on
  pub named-unshared : (p : ℕ) → IsTidy old → named_in new p ≡ named_in old p + named p (page_at old (slice_index map.numbers i))
  named-unshared p tidy =
      let now : named_in new p ≡ named_in (record { pages = set old.pages (slice_index map'.numbers i) (page_at old (slice_index map.numbers i)); counts = new.counts }) p =
      ap (λ (pages : List (List Entry)). named_in (record { pages = pages; counts = new.counts }) p) pages_are in
      let all = named_in-set old new.counts (slice_index map'.numbers i) (page_at old (slice_index map.numbers i)) p un.page in
      let none : named p (page_at old (slice_index map'.numbers i)) ≡ 0 = ap (named p) (tidy.blank (slice_index map'.numbers i) un.unused) ∙ named-nil p in
      omega arith

  pub tidy-unshared : IsTidy old → IsTidy new
  tidy-unshared tidy = record {
    small = λ n. ⊎_elim
        (λ e. subst (λ m. length (page_at new m) ≤ 64) (sym e) (subst (λ page. length page ≤ 64) (sym page_own) (tidy.small (slice_index map.numbers i))))
        (λ ne. subst (λ page. length page ≤ 64) (sym (page_other n ne)) (tidy.small n))
        (cases_eq n (slice_index map'.numbers i));
    blank = λ n none. let counts = copied_count n in ⊎_elim
        (λ e. let bit = same_bit_yes (slice_index map'.numbers i) n (sym e) in
        let other = same_bit_no (slice_index map.numbers i) n (λ s. counted_other n (let was : count_at old (slice_index map.numbers i) ≡ count_at old n = ap (count_at old) s in omega arith) e) in absurd (omega arith))
        (λ ne. let bit = same_bit_no (slice_index map'.numbers i) n (λ e. ne (sym e)) in
        page_other n ne ∙ tidy.blank n (⊎_elim
        (λ s. let yes = same_bit_yes (slice_index map.numbers i) n s in let was : count_at old (slice_index map.numbers i) ≡ count_at old n = ap (count_at old) s in omega arith)
        (λ s. let no = same_bit_no (slice_index map.numbers i) n s in omega arith)
        (cases_eq (slice_index map.numbers i) n)))
        (cases_eq n (slice_index map'.numbers i));
    same = exchanges-unshared.size ∙ tidy.same ∙ sym (ap length pages_are ∙ length-set old.pages (slice_index map'.numbers i) (page_at old (slice_index map.numbers i)));
    few = omega (arith, ap length pages_are, length-set old.pages (slice_index map'.numbers i) (page_at old (slice_index map.numbers i)), tidy.few);
  }

-- ---- a page that one list alone names has other entries
module _ (store : StoreState Entry) (ns : List ℕ) (i : ℕ) (page : List Entry) (within : i < length ns) (alone : count_at store (slice_index ns i) ≡ 1) where
  pub exchanges-written : Exchanges store (with_entries store (slice_index ns i) page) ns ns
  exchanges-written = record {
    counts = λ n. refl;
    pages = λ n h. get_or-set_other store.pages (slice_index ns i) n page [] (λ e.
        let one = times_in n ns i within (sym e) in let was : count_at store n ≡ count_at store (slice_index ns i) = ap (count_at store) e in let bad : ⊥ = omega arith in bad);
    size = refl;
  }

  pub tidy-written : length page ≤ 64 → IsTidy store → IsTidy (with_entries store (slice_index ns i) page)
  tidy-written fits tidy = record {
    small = λ n. ⊎_elim
        (λ e. ⊎_elim
        (λ lt. subst (λ es. length es ≤ 64) (sym (ap (page_at (with_entries store (slice_index ns i) page)) e ∙ get_or-set_same store.pages (slice_index ns i) page [] lt)) fits)
        (λ ge. subst (λ pages. length (get_or pages n []) ≤ 64) (sym (set_past store.pages (slice_index ns i) page ge)) (tidy.small n))
        (cases_lt (slice_index ns i) (length store.pages)))
        (λ ne. subst (λ es. length es ≤ 64) (sym (get_or-set_other store.pages (slice_index ns i) n page [] ne)) (tidy.small n))
        (cases_eq n (slice_index ns i));
    blank = λ n none. get_or-set_other store.pages (slice_index ns i) n page [] (λ e. let was : count_at store n ≡ count_at store (slice_index ns i) = ap (count_at store) e in let bad : ⊥ = omega arith in bad) ∙ tidy.blank n none;
    same = tidy.same ∙ sym (length-set store.pages (slice_index ns i) page);
    few = omega (arith, length-set store.pages (slice_index ns i) page, tidy.few);
  }

-- an entry that was read
pub read_is : (xs : List Entry) (i : ℕ) (x d : Entry) → slice_get xs i ≡ Some x → get_or xs i d ≡ x
read_is [] i x d e = absurd (cc)
read_is (y ∷ ys) zero x d e = cc
read_is (y ∷ ys) (suc i) x d e = read_is ys i x d e

pub named-written : (store : StoreState Entry) (q j p : ℕ) (e before : Entry) → q < length store.pages → j < length (page_at store q) → slice_get (page_at store q) j ≡ Some before
    → named_in (with_entries store q (set (page_at store q) j e)) p + named p (before ∷ []) ≡ named_in store p + named p (e ∷ [])
named-written store q j p e before within inside was =
    let all = named_in-set store store.counts q (set (page_at store q) j e) p within in
    let page = named-set p (page_at store q) j e e inside in
    let bit : name_bit p (get_or (page_at store q) j e) ≡ name_bit p before = ap (name_bit p) (read_is (page_at store q) j before e was) in
    omega (arith, named_one p before, named_one p e)
