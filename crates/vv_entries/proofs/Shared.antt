-- One list more, or less, names some pages: their counts, and what the pages have.
use Rattle.std.proofs.Common.{ℕ, suc, ◌≡◌, ◌≢◌, ◌+◌, ◌-◌, ◌<◌, ◌≤◌, List, [], ◌∷◌, length, get_or, slice_index, set, refl, sym, ap, ◌∙◌, subst, ⊎_elim, arith, get_or-set_same, get_or-set_other, length-set}
use Rattle.std.proofs.lemmas.Bool.{cases_eq, cases_lt, cond-true, cond-false, eq-eqb, ne_eqb}
use Rattle.std.proofs.lemmas.List.{get_or_past}
use Rattle.vv_map.specs.Pages.{StoreState, page_at, count_at, with_page, with_count, raised, lowered, all_raised, all_lowered}
use Rattle.vv_map.proofs.MapLemmas.{pages-all_raised}
use Rattle.vv_entries.specs.declared.entry.Entry.{Entry}
use Rattle.vv_entries.specs.Entries.{IsTidy}
use Rattle.vv_entries.specs.Changes.{times, Exchanges}
use Rattle.vv_entries.proofs.Times.{same_bit, same_bit_yes, same_bit_no, times-nil, times-cons}

-- ---- raised
raised_count : (store : StoreState Entry) (k n : ℕ) → k < length store.counts → count_at (raised store k) n ≡ count_at store n + same_bit k n
raised_count store k n within = ⊎_elim
    (λ e. let one = same_bit_yes k n e in
    let same : count_at (raised store k) n ≡ count_at store k + 1 = ap (count_at (raised store k)) (sym e) ∙ get_or-set_same store.counts k (count_at store k + 1) 0 within in
    let was : count_at store k ≡ count_at store n = ap (count_at store) e in
    omega arith)
    (λ ne. let none = same_bit_no k n ne in
    let same : count_at (raised store k) n ≡ count_at store n = get_or-set_other store.counts k n (count_at store k + 1) 0 (λ e. ne (sym e)) in
    omega arith)
    (cases_eq k n)

raised_counts : (store : StoreState Entry) (ns : List ℕ) (n : ℕ) → ((i : ℕ) → i < length ns → slice_index ns i < length store.counts) → count_at (all_raised store ns) n ≡ count_at store n + times n ns
raised_counts store [] n within = omega (arith, times-nil n)
raised_counts store (k ∷ ns) n within =
    let size = length-set store.counts k (count_at store k + 1) in
    let rest = raised_counts (raised store k) ns n (λ i lt. let h = within (suc i) (omega arith) in omega arith) in
    let first = raised_count store k n (within 0 (omega arith)) in
    omega (arith, times-cons n k ns)

raised_size : (store : StoreState Entry) (ns : List ℕ) → length (all_raised store ns).counts ≡ length store.counts
raised_size store [] = refl
raised_size store (k ∷ ns) = raised_size (raised store k) ns ∙ length-set store.counts k (count_at store k + 1)

page-all_raised : (store : StoreState Entry) (ns : List ℕ) (n : ℕ) → page_at (all_raised store ns) n ≡ page_at store n
page-all_raised store ns n = ap (λ pages. get_or pages n []) (pages-all_raised store ns)

pub exchanges-raised : (store : StoreState Entry) (ns : List ℕ) → ((i : ℕ) → i < length ns → slice_index ns i < length store.counts) → Exchanges store (all_raised store ns) [] ns
exchanges-raised store ns within = record {
  counts = λ n. let all = raised_counts store ns n within in omega (arith, times-nil n);
  pages = λ n h. page-all_raised store ns n;
  size = raised_size store ns;
}

pub tidy-raised : (store : StoreState Entry) (ns : List ℕ) → ((i : ℕ) → i < length ns → slice_index ns i < length store.counts) → IsTidy store → IsTidy (all_raised store ns)
tidy-raised store ns within tidy = record {
  small = λ n. subst (λ page. length page ≤ 64) (sym (page-all_raised store ns n)) (tidy.small n);
  blank = λ n none. page-all_raised store ns n ∙ tidy.blank n (let all = raised_counts store ns n within in omega arith);
  same = omega (arith, raised_size store ns, ap length (pages-all_raised store ns), tidy.same);
  few = omega (arith, ap length (pages-all_raised store ns), tidy.few);
}

-- ---- lowered
pub lowered_last : (store : StoreState Entry) (k : ℕ) → count_at store k ≡ 1 → lowered store k ≡ with_page store k [] 0
lowered_last store k one = cond-true _ _ _ (eq-eqb (count_at store k) 1 one)

pub lowered_more : (store : StoreState Entry) (k : ℕ) → count_at store k ≢ 1 → lowered store k ≡ with_count store k (count_at store k - 1)
lowered_more store k more = cond-false _ _ _ (ne_eqb (count_at store k) 1 more)

pub within_counts : (store : StoreState Entry) (k : ℕ) → 1 ≤ count_at store k → k < length store.counts
within_counts store k h = ⊎_elim (λ lt. lt) (λ ge. let z = get_or_past store.counts k 0 ge in absurd (omega arith)) (cases_lt k (length store.counts))

lowered_counts_are : (store : StoreState Entry) (k : ℕ) → 1 ≤ count_at store k → (lowered store k).counts ≡ set store.counts k (count_at store k - 1)
lowered_counts_are store k some = ⊎_elim
    (λ e. ap (λ s. s.counts) (lowered_last store k e) ∙ ap (set store.counts k) (let none : 0 ≡ count_at store k - 1 = omega arith in none))
    (λ ne. ap (λ s. s.counts) (lowered_more store k ne))
    (cases_eq (count_at store k) 1)

pub lowered_count : (store : StoreState Entry) (k n : ℕ) → 1 ≤ count_at store k → count_at (lowered store k) n + same_bit k n ≡ count_at store n
lowered_count store k n some =
    let now : count_at (lowered store k) n ≡ get_or (set store.counts k (count_at store k - 1)) n 0 = ap (λ counts. get_or counts n 0) (lowered_counts_are store k some) in
    ⊎_elim
    (λ e. let one = same_bit_yes k n e in
    let there : get_or (set store.counts k (count_at store k - 1)) n 0 ≡ count_at store k - 1 = ap (λ m. get_or (set store.counts k (count_at store k - 1)) m 0) (sym e) ∙ get_or-set_same store.counts k (count_at store k - 1) 0 (within_counts store k some) in
    let was : count_at store k ≡ count_at store n = ap (count_at store) e in
    omega arith)
    (λ ne. let none = same_bit_no k n ne in
    let there : get_or (set store.counts k (count_at store k - 1)) n 0 ≡ count_at store n = get_or-set_other store.counts k n (count_at store k - 1) 0 (λ e. ne (sym e)) in
    omega arith)
    (cases_eq k n)

-- a page keeps its entries but where its count ends
pub lowered_page : (store : StoreState Entry) (k n : ℕ) → same_bit k n < count_at store n → page_at (lowered store k) n ≡ page_at store n
lowered_page store k n h = ⊎_elim
    (λ one. ap (λ s. page_at s n) (lowered_last store k one)
    ∙ get_or-set_other store.pages k n [] [] (λ e. let bit = same_bit_yes k n (sym e) in let was : count_at store n ≡ count_at store k = ap (count_at store) e in let bad : ⊥ = omega arith in bad))
    (λ more. ap (λ s. page_at s n) (lowered_more store k more))
    (cases_eq (count_at store k) 1)

lowered_size : (store : StoreState Entry) (k : ℕ) → (length (lowered store k).counts ≡ length store.counts) × (length (lowered store k).pages ≡ length store.pages)
lowered_size store k = ⊎_elim {C = (length (lowered store k).counts ≡ length store.counts) × (length (lowered store k).pages ≡ length store.pages)}
    (λ one. (ap (λ s. length s.counts) (lowered_last store k one) ∙ length-set store.counts k 0, ap (λ s. length s.pages) (lowered_last store k one) ∙ length-set store.pages k []))
    (λ more. (ap (λ s. length s.counts) (lowered_more store k more) ∙ length-set store.counts k (count_at store k - 1), ap (λ s. length s.pages) (lowered_more store k more)))
    (cases_eq (count_at store k) 1)

-- a page whose count ends is empty then
pub lowered_blank : (store : StoreState Entry) (k : ℕ) → length store.counts ≡ length store.pages → count_at store k ≡ 1 → page_at (lowered store k) k ≡ []
lowered_blank store k same one =
    let within = within_counts store k (omega arith) in
    ap (λ s. page_at s k) (lowered_last store k one) ∙ get_or-set_same store.pages k [] [] (omega arith)

pub tidy-lowered : (store : StoreState Entry) (k : ℕ) → 1 ≤ count_at store k → IsTidy store → IsTidy (lowered store k)
tidy-lowered store k some tidy =
    let size = lowered_size store k in
    record {
      small = λ n. ⊎_elim
          (λ lt. subst (λ page. length page ≤ 64) (sym (lowered_page store k n lt)) (tidy.small n))
          (λ ge. let left = lowered_count store k n some in
          ⊎_elim
          (λ e. let one : count_at store k ≡ 1 = let bit = same_bit_yes k n e in let was : count_at store k ≡ count_at store n = ap (count_at store) e in omega arith in
          let none : length (page_at (lowered store k) n) ≡ 0 = ap (λ m. length (page_at (lowered store k) m)) (sym e) ∙ ap length (lowered_blank store k tidy.same one) in omega arith)
          (λ ne. let bit = same_bit_no k n ne in
          let page : page_at (lowered store k) n ≡ page_at store n = ⊎_elim
          (λ one. ap (λ s. page_at s n) (lowered_last store k one) ∙ get_or-set_other store.pages k n [] [] (λ e. ne (sym e)))
          (λ more. ap (λ s. page_at s n) (lowered_more store k more))
          (cases_eq (count_at store k) 1) in
          subst (λ page. length page ≤ 64) (sym page) (tidy.small n))
          (cases_eq k n))
          (cases_lt (same_bit k n) (count_at store n));
      blank = λ n none. let left = lowered_count store k n some in
          ⊎_elim
          (λ e. let one : count_at store k ≡ 1 = let bit = same_bit_yes k n e in let was : count_at store k ≡ count_at store n = ap (count_at store) e in omega arith in
          ap (page_at (lowered store k)) (sym e) ∙ lowered_blank store k tidy.same one)
          (λ ne. let bit = same_bit_no k n ne in
          ⊎_elim
          (λ one. ap (λ s. page_at s n) (lowered_last store k one) ∙ get_or-set_other store.pages k n [] [] (λ e. ne (sym e)))
          (λ more. ap (λ s. page_at s n) (lowered_more store k more))
          (cases_eq (count_at store k) 1) ∙ tidy.blank n (omega arith))
          (cases_eq k n);
      same = omega (arith, size.0, size.1, tidy.same);
      few = omega (arith, size.1, tidy.few);
    }

-- each of these pages is counted as often as it stands here
abbrev pub Covers : StoreState Entry → List ℕ → Type 0
Covers store ns = (m : ℕ) → times m ns ≤ count_at store m

pub covers_first : (store : StoreState Entry) (k : ℕ) (ns : List ℕ) → Covers store (k ∷ ns) → 1 ≤ count_at store k
covers_first store k ns covers =
    let at = covers k in let bit = same_bit_yes k k refl in omega (arith, times-cons k k ns)

pub covers_rest : (store : StoreState Entry) (k : ℕ) (ns : List ℕ) → Covers store (k ∷ ns) → Covers (lowered store k) ns
covers_rest store k ns covers m =
    let at = covers m in
    let left = lowered_count store k m (covers_first store k ns covers) in
    omega (arith, times-cons m k ns)

all_lowered_counts : (store : StoreState Entry) (ns : List ℕ) (n : ℕ) → Covers store ns → count_at (all_lowered store ns) n + times n ns ≡ count_at store n
all_lowered_counts store [] n covers = omega (arith, times-nil n)
all_lowered_counts store (k ∷ ns) n covers =
    let rest = all_lowered_counts (lowered store k) ns n (covers_rest store k ns covers) in
    let first = lowered_count store k n (covers_first store k ns covers) in
    omega (arith, times-cons n k ns)

all_lowered_pages : (store : StoreState Entry) (ns : List ℕ) (n : ℕ) → Covers store ns → times n ns < count_at store n → page_at (all_lowered store ns) n ≡ page_at store n
all_lowered_pages store [] n covers h = refl
all_lowered_pages store (k ∷ ns) n covers h =
    let first = lowered_count store k n (covers_first store k ns covers) in
    let stands = times-cons n k ns in
    all_lowered_pages (lowered store k) ns n (covers_rest store k ns covers) (omega arith) ∙ lowered_page store k n (omega arith)

all_lowered_size : (store : StoreState Entry) (ns : List ℕ) → length (all_lowered store ns).counts ≡ length store.counts
all_lowered_size store [] = refl
all_lowered_size store (k ∷ ns) = all_lowered_size (lowered store k) ns ∙ (lowered_size store k).0

pub exchanges-lowered : (store : StoreState Entry) (ns : List ℕ) → Covers store ns → Exchanges store (all_lowered store ns) ns []
exchanges-lowered store ns covers = record {
  counts = λ n. let all = all_lowered_counts store ns n covers in omega (arith, times-nil n);
  pages = λ n h. all_lowered_pages store ns n covers h;
  size = all_lowered_size store ns;
}

pub tidy-all_lowered : (store : StoreState Entry) (ns : List ℕ) → Covers store ns → IsTidy store → IsTidy (all_lowered store ns)
tidy-all_lowered store [] covers tidy = tidy
tidy-all_lowered store (k ∷ ns) covers tidy =
    tidy-all_lowered (lowered store k) ns (covers_rest store k ns covers) (tidy-lowered store k (covers_first store k ns covers) tidy)
