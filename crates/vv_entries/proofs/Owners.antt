-- What a layer that owns all lists of a store wants to know: what a call on one list leaves of the others, that there are
-- unused pages where the lists' entries are few, and that a place is counted exactly where an entry of a list names it.
use Rattle.std.proofs.Common.{ℕ, zero, suc, ◌≡◌, ◌+◌, ◌-◌, ◌<◌, ◌≤◌, sum_by, List, [], ◌∷◌, ◌++◌, length, get_or, slice_index, set, refl, sym, ap, ◌∙◌, ⊎_elim, arith, get_or-set_same, get_or-set_other, length-append}
use Rattle.std.specs.List.{All, flat_map}
use Rattle.std.proofs.lemmas.Bool.{cases_eq, cases_lt}
use Rattle.std.proofs.lemmas.List.{get_or_past}
use Rattle.std.proofs.lemmas.List.Elements.{All-nil, All-cons, All-head, All-tail, All-append, All-weaker}
use Rattle.std.proofs.lemmas.List.Concat.{flat_map-append}
use Rattle.std.proofs.lemmas.List.Sums.{sum_by-cons, sum_by-set}
use Rattle.vv_map.specs.Rooms.{MapState}
use Rattle.vv_map.specs.Pages.{StoreState, page_at, count_at, list_of, pages_for, unused_pages, IsMapOf}
use Rattle.vv_map.proofs.StoreLemmas.{zeros, zero_bit, zero_bit_yes}
use Rattle.vv_map.proofs.StoreLaws.{list_of-kept, is_map-kept}
use Rattle.vv_entries.specs.declared.entry.Entry.{Entry}
use Rattle.vv_entries.specs.Entries.{named, named_in, IsTidy}
use Rattle.vv_entries.specs.Changes.{times, Exchanges}
use Rattle.vv_entries.specs.Owners.{all_numbers, all_entries, AreAllLists, IsLeft}
use Rattle.vv_entries.proofs.Times.{same_bit_yes, same_bit_no, times-nil, times-cons, times-append, times_in}
use Rattle.vv_entries.proofs.Named.{named-nil, named-append, named-le-named_in, named_some}

pub numbers-append : (n : ℕ) (ls ms : List MapState) → times n (all_numbers (ls ++ ms)) ≡ times n (all_numbers ls) + times n (all_numbers ms)
numbers-append n ls ms = ap (times n) (flat_map-append (λ (map : MapState). map.numbers) ls ms) ∙ times-append n (all_numbers ls) (all_numbers ms)

-- what holds of all items of two lists holds of those of each
pub All-front : (P : MapState → Type 0) (ls ms : List MapState) → All P (ls ++ ms) → All P ls
All-front P [] ms all = All-nil P
All-front P (l ∷ ls) ms all = All-cons P l ls (All-head P l (ls ++ ms) all) (All-front P ls ms (All-tail P l (ls ++ ms) all))

pub All-back : (P : MapState → Type 0) (ls ms : List MapState) → All P (ls ++ ms) → All P ms
All-back P [] ms all = all
All-back P (l ∷ ls) ms all = All-back P ls ms (All-tail P l (ls ++ ms) all)

-- ---- the other lists
module _ (old new : StoreState Entry) (before after : List ℕ) (ex : Exchanges old new before after) where
  pub left_one : (map : MapState) → IsMapOf old map → ((n : ℕ) → times n map.numbers + times n before ≤ count_at old n) → IsLeft old new map
  left_one map of named =
      let pages = λ (i : ℕ) (h : i < length map.numbers).
      ex.pages (slice_index map.numbers i) (let one = times_in (slice_index map.numbers i) map.numbers i h refl in let all = named (slice_index map.numbers i) in omega arith) in
      record {
        of = is_map-kept old new map pages of (λ i h.
            let one = times_in (slice_index map.numbers i) map.numbers i h refl in
            let all = named (slice_index map.numbers i) in
            let counts = ex.counts (slice_index map.numbers i) in omega arith);
        same = list_of-kept old new map pages;
      }

  left_all : (ls : List MapState) → All (λ (map : MapState). IsMapOf old map) ls → ((n : ℕ) → times n (all_numbers ls) + times n before ≤ count_at old n) → All (IsLeft old new) ls
  left_all [] maps named = All-nil (IsLeft old new)
  left_all (m ∷ ms) maps named =
      let each = λ (n : ℕ). times-append n m.numbers (all_numbers ms) in
      All-cons (IsLeft old new) m ms
      (left_one m (All-head (λ (map : MapState). IsMapOf old map) m ms maps) (λ n. let all = named n in let parts = each n in omega arith))
      (left_all ms (All-tail (λ (map : MapState). IsMapOf old map) m ms maps) (λ n. let all = named n in let parts = each n in omega arith))

  -- one call changed some of the lists (none or one, to none or one): all lists are known again, and the others stay
  module _ (ahead behind changed now : List MapState) (lists : AreAllLists old (ahead ++ (changed ++ behind))) (was : all_numbers changed ≡ before) (is : all_numbers now ≡ after) where
    old_counts : (n : ℕ) → count_at old n ≡ times n (all_numbers ahead) + (times n before + times n (all_numbers behind))
    old_counts n =
        let first = lists.counts n in
        let outer = numbers-append n ahead (changed ++ behind) in
        let inner = numbers-append n changed behind in
        let same = ap (times n) was in
        omega arith

    new_counts : (n : ℕ) → count_at new n ≡ times n (all_numbers ahead) + (times n after + times n (all_numbers behind))
    new_counts n = let all = old_counts n in let moved = ex.counts n in omega arith

    maps_ahead : All (λ (map : MapState). IsMapOf old map) ahead
    maps_ahead = All-front (λ (map : MapState). IsMapOf old map) ahead (changed ++ behind) lists.maps

    maps_behind : All (λ (map : MapState). IsMapOf old map) behind
    maps_behind = All-back (λ (map : MapState). IsMapOf old map) changed behind (All-back (λ (map : MapState). IsMapOf old map) ahead (changed ++ behind) lists.maps)

    pub left_ahead : All (IsLeft old new) ahead
    left_ahead = left_all ahead maps_ahead (λ n. let all = old_counts n in omega arith)

    pub left_behind : All (IsLeft old new) behind
    left_behind = left_all behind maps_behind (λ n. let all = old_counts n in omega arith)

    pub lists_known : All (λ (map : MapState). IsMapOf new map) now → AreAllLists new (ahead ++ (now ++ behind))
    lists_known of = record {
      counts = λ n.
          let all = new_counts n in
          let outer = numbers-append n ahead (now ++ behind) in
          let inner = numbers-append n now behind in
          let same = ap (times n) is in
          omega arith;
      maps = All-append (λ (map : MapState). IsMapOf new map) ahead (now ++ behind) (All-weaker (IsLeft old new) (λ (map : MapState). IsMapOf new map) (λ m h. h.of) ahead left_ahead)
          (All-append (λ (map : MapState). IsMapOf new map) now behind of (All-weaker (IsLeft old new) (λ (map : MapState). IsMapOf new map) (λ m h. h.of) behind left_behind));
    }

-- ---- unused pages
-- a store whose counts come from so many names has all its other pages unused
sum_below : (counts ns : List ℕ) → ((n : ℕ) → get_or counts n 0 ≤ times n ns) → sum_by (λ c. c) counts ≤ length ns
sum_below counts [] few = all_zero counts (λ n. let le = few n in omega (arith, times-nil n))
  where
    all_zero : (cs : List ℕ) → ((n : ℕ) → get_or cs n 0 ≤ 0) → sum_by (λ c. c) cs ≤ 0
    all_zero [] h = omega arith
    all_zero (c ∷ cs) h = let first : c ≤ 0 = h 0 in let rest = all_zero cs (λ n. h (suc n)) in omega (arith, sum_by-cons (λ c. c) c cs)
sum_below counts (m ∷ ms) few = ⊎_elim
    (λ lt.
    let less = sum_by-set (λ c. c) counts m (get_or counts m 0 - 1) 0 lt in
    let rest = sum_below (set counts m (get_or counts m 0 - 1)) ms (λ n. ⊎_elim
    (λ e. let bit = same_bit_yes m n e in let le = few n in
    let there : get_or (set counts m (get_or counts m 0 - 1)) n 0 ≡ get_or counts m 0 - 1 = ap (λ k. get_or (set counts m (get_or counts m 0 - 1)) k 0) (sym e) ∙ get_or-set_same counts m (get_or counts m 0 - 1) 0 lt in
    let here : get_or counts m 0 ≡ get_or counts n 0 = ap (λ k. get_or counts k 0) e in
    omega (arith, times-cons n m ms))
    (λ ne. let bit = same_bit_no m n ne in let le = few n in
    let there : get_or (set counts m (get_or counts m 0 - 1)) n 0 ≡ get_or counts n 0 = get_or-set_other counts m n (get_or counts m 0 - 1) 0 (λ e. ne (sym e)) in
    omega (arith, times-cons n m ms))
    (cases_eq m n)) in
    omega arith)
    (λ ge.
    let rest = sum_below counts ms (λ n. ⊎_elim
    (λ e. let past : get_or counts n 0 ≡ 0 = get_or_past counts n 0 (omega arith) in omega arith)
    (λ ne. let bit = same_bit_no m n ne in let le = few n in omega (arith, times-cons n m ms))
    (cases_eq m n)) in
    omega arith)
    (cases_lt m (length counts))

-- each page is unused or counted
unused_or_counted : (counts : List ℕ) → length counts ≤ zeros counts + sum_by (λ c. c) counts
unused_or_counted [] = omega arith
unused_or_counted (c ∷ cs) =
    let rest = unused_or_counted cs in
    let first : zeros (c ∷ cs) ≡ zero_bit c + zeros cs = sum_by-cons zero_bit c cs in
    let sums : sum_by (λ k. k) (c ∷ cs) ≡ c + sum_by (λ k. k) cs = sum_by-cons (λ k. k) c cs in
    ⊎_elim
    (λ e. let one = zero_bit_yes c e in omega arith)
    (λ ne. omega arith)
    (cases_eq c 0)

pub numbers_few : (store : StoreState Entry) (lists : List MapState) → All (λ (map : MapState). IsMapOf store map) lists → length (all_numbers lists) ≤ sum_by (λ (map : MapState). pages_for map.len) lists
numbers_few store [] maps = omega arith
numbers_few store (m ∷ ms) maps =
    let of = All-head (λ (map : MapState). IsMapOf store map) m ms maps in
    let rest = numbers_few store ms (All-tail (λ (map : MapState). IsMapOf store map) m ms maps) in
    let both = length-append m.numbers (all_numbers ms) in
    let sums = sum_by-cons (λ (map : MapState). pages_for map.len) m ms in
    let size = of.size in
    omega arith

-- so there are at least ahead many unused pages ahead the lists leave
pub unused_left : (store : StoreState Entry) (lists : List MapState) → AreAllLists store lists → length store.counts ≤ unused_pages store + sum_by (λ (map : MapState). pages_for map.len) lists
unused_left store lists all =
    let sums = sum_below store.counts (all_numbers lists) (λ n. let e = all.counts n in omega arith) in
    let each = unused_or_counted store.counts in
    let few = numbers_few store lists all.maps in
    omega arith

-- ---- names
named_page : (store : StoreState Entry) (p n : ℕ) (ns : List ℕ) → 1 ≤ times n ns → named p (page_at store n) ≤ named p (flat_map (page_at store) ns)
named_page store p n [] h = absurd (omega (arith, times-nil n))
named_page store p n (m ∷ ms) h =
    let both = named-append p (page_at store m) (flat_map (page_at store) ms) in
    ⊎_elim
    (λ e. let same : named p (page_at store m) ≡ named p (page_at store n) = ap (λ k. named p (page_at store k)) e in omega arith)
    (λ ne. let bit = same_bit_no m n ne in let rest = named_page store p n ms (omega (arith, times-cons n m ms)) in omega arith)
    (cases_eq m n)

named_pages_none : (store : StoreState Entry) (p : ℕ) (ns : List ℕ) → named_in store p ≡ 0 → named p (flat_map (page_at store) ns) ≡ 0
named_pages_none store p [] none = named-nil p
named_pages_none store p (m ∷ ms) none =
    let both = named-append p (page_at store m) (flat_map (page_at store) ms) in
    let rest = named_pages_none store p ms none in
    let first = named-le-named_in store m p in
    omega arith

entries_of_pages : (store : StoreState Entry) (lists : List MapState) → all_entries store lists ≡ flat_map (page_at store) (all_numbers lists)
entries_of_pages store [] = refl
entries_of_pages store (m ∷ ms) =
    ap (λ es. list_of store m ++ es) (entries_of_pages store ms) ∙ sym (flat_map-append (page_at store) m.numbers (all_numbers ms))

-- a place is named by an entry of a page exactly where one of a list names it
pub named_by_lists : (store : StoreState Entry) (lists : List MapState) (p : ℕ) → IsTidy store → AreAllLists store lists → 1 ≤ named_in store p → 1 ≤ named p (all_entries store lists)
named_by_lists store lists p tidy all h =
    let (n, some) = named_some store p h in
    let counted : 1 ≤ count_at store n = ⊎_elim
    (λ lt. lt)
    (λ ge. let empty = ap (named p) (tidy.blank n (omega arith)) in absurd (omega (arith, named-nil p)))
    (cases_lt 0 (count_at store n)) in
    let e = all.counts n in
    let le = named_page store p n (all_numbers lists) (omega arith) in
    let same = ap (named p) (entries_of_pages store lists) in
    omega arith

pub none_by_lists : (store : StoreState Entry) (lists : List MapState) (p : ℕ) → named_in store p ≡ 0 → named p (all_entries store lists) ≡ 0
none_by_lists store lists p none = ap (named p) (entries_of_pages store lists) ∙ named_pages_none store p (all_numbers lists) none

-- where some page is named twice, one page more is unused
one_more_unused : (counts : List ℕ) (k : ℕ) → 2 ≤ get_or counts k 0 → length counts + 1 ≤ zeros counts + sum_by (λ c. c) counts
one_more_unused [] k two = absurd (omega arith)
one_more_unused (c ∷ cs) zero two =
    let rest = unused_or_counted cs in
    let first : zeros (c ∷ cs) ≡ zero_bit c + zeros cs = sum_by-cons zero_bit c cs in
    let sums : sum_by (λ k. k) (c ∷ cs) ≡ c + sum_by (λ k. k) cs = sum_by-cons (λ k. k) c cs in
    omega arith
one_more_unused (c ∷ cs) (suc k) two =
    let rest = one_more_unused cs k two in
    let first : zeros (c ∷ cs) ≡ zero_bit c + zeros cs = sum_by-cons zero_bit c cs in
    let sums : sum_by (λ k. k) (c ∷ cs) ≡ c + sum_by (λ k. k) cs = sum_by-cons (λ k. k) c cs in
    ⊎_elim
    (λ e. let one = zero_bit_yes c e in omega arith)
    (λ ne. omega arith)
    (cases_eq c 0)

pub unused_shared : (store : StoreState Entry) (lists : List MapState) (k : ℕ) → AreAllLists store lists → 2 ≤ count_at store k → length store.counts + 1 ≤ unused_pages store + sum_by (λ (map : MapState). pages_for map.len) lists
unused_shared store lists k all two =
    let sums = sum_below store.counts (all_numbers lists) (λ n. let e = all.counts n in omega arith) in
    let each = one_more_unused store.counts k two in
    let few = numbers_few store lists all.maps in
    omega arith
