-- Running clones and copies still hold each list of a shelf once: where no held list changes, where one is held more, and
-- where one is held less.
use Rattle.std.proofs.Common.{ℕ, ◌≡◌, ◌==◌, not, Bool, true, false, List, [], ◌∷◌, ◌++◌, map, Some, refl, sym, ap, subst, ◌∙◌}
use Rattle.std.specs.List.{find, flat_map, list_all, All}
use Rattle.std.specs.List.Sorted.{IsPermutation}
use Rattle.std.proofs.lemmas.List.Elements.{All-nil, All-cons, All-head, All-tail}
use Rattle.std.proofs.lemmas.List.Sorted.{IsPermutation-trans, IsPermutation-sym, IsPermutation-cons, IsPermutation-middle, All-permutation}
use Rattle.vv_flat.specs.Lists.{all_rising, first_removed}
use Rattle.vv_flat.proofs.Shares.{and_left, and_right}
use Rattle.vv_flat.proofs.Lookups.{none-left}
use Rattle.vv_flat.proofs.NewEntries.{eq_turn}
use Rattle.vv_vols.specs.Shelf.{HeldList, ShelfState, held_in, is_held}
use Rattle.vv_flat.specs.State.{Piece}
use Rattle.vv_flat.specs.Chunks.{Entry}
use Rattle.vv_vols.specs.Calls.{with_held, without_held, with_pieces}
use Rattle.vv_tables.specs.declared.rows.CloneRow.{CloneRow}
use Rattle.vv_tables.specs.declared.rows.CopyRow.{CopyRow}
use Rattle.vv_tables.specs.Kept.{numbers_held, clone_lists, lists_of, AreHeld}
use Rattle.vv_tables.proofs.Permuted.{without_first}
use Rattle.vv_tables.proofs.HeldChanges.{added_other, added_numbers, left_other, left_numbers, changed_other, IsSameHeld, clones_stay, copies_stay}

-- what holds of every number holds of each
each : (P : ℕ → Type 0) → ((n : ℕ) → P n) → (ns : List ℕ) → All P ns
each P all [] = All-nil P
each P all (n ∷ ns) = All-cons P n ns (all n) (each P all ns)

each_follows : (P Q : ℕ → Type 0) → ((n : ℕ) → P n → Q n) → (ns : List ℕ) → All P ns → All Q ns
each_follows P Q follows [] all = All-nil Q
each_follows P Q follows (n ∷ ns) all = All-cons Q n ns (follows n (All-head P n ns all)) (each_follows P Q follows ns (All-tail P n ns all))

-- the lists of running copies
abbrev pub pieces_of : List CopyRow → List ℕ
pieces_of copies = map (λ (row : CopyRow). row.pieces.number) copies

-- ---- parts of lists
pub front_part : (P : ℕ → Type 0) (ms ns : List ℕ) → All P (ms ++ ns) → All P ms
front_part P [] ns all = All-nil P
front_part P (m ∷ ms) ns all = All-cons P m ms (All-head P m (ms ++ ns) all) (front_part P ms ns (All-tail P m (ms ++ ns) all))

pub back_part : (P : ℕ → Type 0) (ms ns : List ℕ) → All P (ms ++ ns) → All P ns
back_part P [] ns all = all
back_part P (m ∷ ms) ns all = back_part P ms ns (All-tail P m (ms ++ ns) all)

-- held as before by two calls in a row
pub both_same : (s t u : ShelfState) (ns : List ℕ) → All (IsSameHeld s t) ns → All (IsSameHeld t u) ns → All (IsSameHeld s u) ns
both_same s t u [] first second = All-nil (IsSameHeld s u)
both_same s t u (n ∷ ns) first second =
    All-cons (IsSameHeld s u) n ns (All-head (IsSameHeld t u) n ns second ∙ All-head (IsSameHeld s t) n ns first)
    (both_same s t u ns (All-tail (IsSameHeld s t) n ns first) (All-tail (IsSameHeld t u) n ns second))

-- no held list changes
pub same_held : (s s' : ShelfState) (clones : List CloneRow) (copies : List CopyRow) → s'.held ≡ s.held → AreHeld s clones copies → AreHeld s' clones copies
same_held s s' clones copies same held =
    let as_before : (n : ℕ) → IsSameHeld s s' n = λ n. ap (λ (hs : List HeldList). find (is_held n) hs) same in
    let numbers : numbers_held s' ≡ numbers_held s = ap (λ (hs : List HeldList). map (λ (h : HeldList). h.number) hs) same in
    record {
      rising = ap all_rising numbers ∙ held.rising;
      each_once = subst (λ ns. IsPermutation ns (lists_of clones copies)) (sym numbers) held.each_once;
      images = clones_stay s s' clones (each (IsSameHeld s s') as_before (flat_map clone_lists clones)) held.images;
      pieces = copies_stay s s' copies (each (IsSameHeld s s') as_before (map (λ (row : CopyRow). row.pieces.number) copies)) held.pieces;
    }

-- ---- numbers that aren't one
numbers_apart : (n : ℕ) (hs : List HeldList) → list_all (λ (k : HeldList). not (k.number == n)) hs ≡ true
    → All (λ m. (m == n) ≡ false) (map (λ (h : HeldList). h.number) hs)
numbers_apart n [] e = All-nil (λ m. (m == n) ≡ false)
numbers_apart n (h ∷ hs) e =
    All-cons (λ m. (m == n) ≡ false) h.number (map (λ (k : HeldList). k.number) hs)
    (isnt (h.number == n) (and_left (not (h.number == n)) (list_all (λ (k : HeldList). not (k.number == n)) hs) e))
    (numbers_apart n hs (and_right (not (h.number == n)) (list_all (λ (k : HeldList). not (k.number == n)) hs) e))
  where
    isnt : (b : Bool) → not b ≡ true → b ≡ false
    isnt true e = cc
    isnt false e = refl

-- ---- one list more
module _ (s : ShelfState) (h : HeldList) (lists : List ℕ) (new : list_all (λ (k : HeldList). not (k.number == h.number)) s.held ≡ true)
    (once : IsPermutation (numbers_held s) lists) where
  -- the others are held as before
  pub added_others : All (IsSameHeld s (with_held s h)) lists
  added_others =
      each_follows (λ m. (m == h.number) ≡ false) (IsSameHeld s (with_held s h)) (λ m apart. added_other s h m (eq_turn h.number m ∙ apart)) lists
      (All-permutation (λ m. (m == h.number) ≡ false) (numbers_held s) lists once (numbers_apart h.number s.held new))

  -- and all once
  pub added_once : IsPermutation (numbers_held (with_held s h)) (h.number ∷ lists)
  added_once =
      IsPermutation-trans (numbers_held (with_held s h)) (h.number ∷ numbers_held s) (h.number ∷ lists)
      (IsPermutation-sym (h.number ∷ numbers_held s) (numbers_held (with_held s h)) (added_numbers s h))
      (IsPermutation-cons h.number (numbers_held s) lists once)

-- ---- one list less
module _ (s : ShelfState) (h : HeldList) (n : ℕ) (front back : List ℕ) (rising : all_rising (numbers_held s) ≡ true)
    (once : IsPermutation (numbers_held s) (front ++ n ∷ back)) (found : held_in s n ≡ Some h) where
  -- all others once
  pub left_once : IsPermutation (numbers_held (without_held s n)) (front ++ back)
  left_once =
      without_first n (numbers_held (without_held s n)) (front ++ back)
      (IsPermutation-trans (n ∷ numbers_held (without_held s n)) (numbers_held s) (n ∷ (front ++ back))
      (IsPermutation-sym (numbers_held s) (n ∷ numbers_held (without_held s n)) (left_numbers s n h found))
      (IsPermutation-trans (numbers_held s) (front ++ n ∷ back) (n ∷ (front ++ back)) once (IsPermutation-middle front n back)))

  -- none of them is that one
  pub others_apart : All (λ m. (m == n) ≡ false) (front ++ back)
  others_apart =
      All-permutation (λ m. (m == n) ≡ false) (numbers_held (without_held s n)) (front ++ back) left_once
      (numbers_apart n (first_removed (is_held n) s.held) (none-left (λ (k : HeldList). k.number) n s.held rising))

  -- and they are held as before, also where the one gets other pieces
  pub left_others : All (IsSameHeld s (without_held s n)) (front ++ back)
  left_others = each_follows (λ m. (m == n) ≡ false) (IsSameHeld s (without_held s n)) (λ m apart. left_other s n m apart) (front ++ back) others_apart

  pub changed_others : (f : List (Piece Entry) → List (Piece Entry)) → All (IsSameHeld s (with_pieces s n f)) (front ++ back)
  changed_others f =
      each_follows (λ m. (m == n) ≡ false) (IsSameHeld s (with_pieces s n f)) (λ m apart. changed_other s n f m apart) (front ++ back) others_apart
