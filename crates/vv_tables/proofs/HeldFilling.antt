-- Places that are put into a held list one after another.
use Rattle.std.proofs.Common.{ℕ, zero, suc, ◌≡◌, ◌+◌, ◌-◌, ◌≤◌, ◌<◌, ◌==◌, ◌&&◌, not, Bool, true, false, cond, List, [], ◌∷◌, length, set, Option, Some, None, option_map, slice_get, refl, sym, ap, subst, ◌∙◌, arith}
use Rattle.std.specs.Prelude.{IsSome, nat_lt}
use Rattle.std.specs.List.{list_all, list_any, All}
use Rattle.std.proofs.lemmas.Bool.{ne_eqb, ltb-true}
use Rattle.std.proofs.lemmas.List.Elements.{All-nil, All-cons, All-head, All-tail}
use Rattle.vv_flat.specs.Lists.{if_found, first_changed, all_different, all_above, all_rising, mapped_from}
use Rattle.vv_flat.specs.State.{Piece, indexed}
use Rattle.vv_flat.specs.Chunks.{Entry, unmapped_entry, placed_entries}
use Rattle.vv_flat.specs.NamedPlaces.{is_named}
use Rattle.vv_flat.proofs.Shares.{and_left, and_right, and_both, list_all-both}
use Rattle.vv_flat.proofs.NewEntries.{eq_turn}
use Rattle.vv_vols.specs.Shelf.{HeldList, ShelfState, is_held, held_in, is_image_in, is_shelf_free, shelf_pieces, shelf_used, pieces_in, piece_at, entry_at, index_at}
use Rattle.vv_vols.specs.Calls.{placed_at, piece_set, piece_chunks}
use Rattle.vv_vols.specs.Conditions.{is_new_stamp}
use Rattle.vv_vols.proofs.Kept.{none_all, not_false}
use Rattle.vv_tables.specs.Kept.{image_in, IsIndexed}
use Rattle.vv_tables.specs.Seen.{held_chunks}
use Rattle.vv_tables.specs.Filling.{pieces_filled, with_filled, IsUnmappedAt, MayFill}
use Rattle.vv_tables.proofs.HeldChanges.{changed_found}
use Rattle.vv_tables.proofs.HeldEnds.{held_list}
use Rattle.vv_tables.proofs.HeldPuts.{piece_passes, unnamed_stays, filled_one}
use Rattle.vv_tables.proofs.HeldTargets.{set_indexed, chunks_indexed}

-- ---- lists with the indexes from 0 on
abbrev pub numbered : ℕ → Entry → Piece Entry
numbered j x = record { index = j; chunk = x }

from_at : (first i : ℕ) (xs : List Entry) → slice_get (mapped_from numbered first xs) i ≡ option_map (numbered (first + i)) (slice_get xs i)
from_at first i [] = refl
from_at first zero (x ∷ xs) = let same : first ≡ first + 0 = omega arith in ap (λ j. Some (numbered j x)) same
from_at first (suc i) (x ∷ xs) =
    let same : first + 1 + i ≡ first + suc i = omega arith in
    from_at (first + 1) i xs ∙ ap (λ j. option_map (numbered j) (slice_get xs i)) same

pub indexed_at : (i : ℕ) (xs : List Entry) → slice_get (indexed xs) i ≡ option_map (numbered i) (slice_get xs i)
indexed_at i xs = let same : 0 + i ≡ i = omega arith in from_at 0 i xs ∙ ap (λ j. option_map (numbered j) (slice_get xs i)) same

-- the index of the entry at a position
pub own_index : (ps : List (Piece Entry)) (i : ℕ) (a : Piece Entry) → ps ≡ indexed (piece_chunks ps) → slice_get ps i ≡ Some a → a.index ≡ i
own_index ps i a whole at = go (slice_get (piece_chunks ps) i) (sym (indexed_at i (piece_chunks ps)) ∙ ap (λ qs. slice_get qs i) (sym whole) ∙ at)
  where
    go : (o : Option Entry) → option_map (numbered i) o ≡ Some a → a.index ≡ i
    go None e = absurd (cc)
    go (Some x) e = let is : numbered i x ≡ a = cc in ap (λ (b : Piece Entry). b.index) (sym is)

-- another entry stays
set_other : (i j : ℕ) (e : Entry) (ps : List (Piece Entry)) → i < j → slice_get (piece_set i e ps) j ≡ slice_get ps j
set_other i j e [] lt = refl
set_other zero zero e (a ∷ ps) lt = absurd (omega arith)
set_other zero (suc j) e (a ∷ ps) lt = refl
set_other (suc i) zero e (a ∷ ps) lt = absurd (omega arith)
set_other (suc i) (suc j) e (a ∷ ps) lt = set_other i j e ps (omega arith)

module _ (s : ShelfState) (n : ℕ) (f g h : List (Piece Entry) → List (Piece Entry)) where
  -- two changes of a held list
  twice : ((ps : List (Piece Entry)) → g (f ps) ≡ h ps) → (hs : List HeldList)
      → first_changed (is_held n) (λ (l : HeldList). record l { pieces = g l.pieces }) (first_changed (is_held n) (λ (l : HeldList). record l { pieces = f l.pieces }) hs)
      ≡ first_changed (is_held n) (λ (l : HeldList). record l { pieces = h l.pieces }) hs
  twice is [] = refl
  twice is (l ∷ ls) = go (l.number == n) refl (twice is ls)
    where
      go : (b : Bool) → (l.number == n) ≡ b
          → first_changed (is_held n) (λ (l : HeldList). record l { pieces = g l.pieces }) (first_changed (is_held n) (λ (l : HeldList). record l { pieces = f l.pieces }) ls)
          ≡ first_changed (is_held n) (λ (l : HeldList). record l { pieces = h l.pieces }) ls
          → first_changed (is_held n) (λ (l : HeldList). record l { pieces = g l.pieces }) (cond b (record l { pieces = f l.pieces } ∷ ls) (l ∷ first_changed (is_held n) (λ (l : HeldList). record l { pieces = f l.pieces }) ls))
          ≡ cond b (record l { pieces = h l.pieces } ∷ ls) (l ∷ first_changed (is_held n) (λ (l : HeldList). record l { pieces = h l.pieces }) ls)
      go true at rest =
          ap (λ b. cond b (record l { pieces = g (f l.pieces) } ∷ ls) (record l { pieces = f l.pieces } ∷ first_changed (is_held n) (λ (l : HeldList). record l { pieces = g l.pieces }) ls)) at
          ∙ ap (λ ps. record l { pieces = ps } ∷ ls) (is l.pieces)
      go false at rest =
          ap (λ b. cond b (record l { pieces = g l.pieces } ∷ first_changed (is_held n) (λ (l : HeldList). record l { pieces = f l.pieces }) ls)
          (l ∷ first_changed (is_held n) (λ (l : HeldList). record l { pieces = g l.pieces }) (first_changed (is_held n) (λ (l : HeldList). record l { pieces = f l.pieces }) ls))) at
          ∙ ap (λ zs. l ∷ zs) rest

same_pieces : (n : ℕ) (hs : List HeldList) → first_changed (is_held n) (λ (l : HeldList). record l { pieces = l.pieces }) hs ≡ hs
same_pieces n [] = refl
same_pieces n (l ∷ ls) = go (l.number == n) (same_pieces n ls)
  where
    go : (b : Bool) → first_changed (is_held n) (λ (l : HeldList). record l { pieces = l.pieces }) ls ≡ ls
        → cond b (l ∷ ls) (l ∷ first_changed (is_held n) (λ (l : HeldList). record l { pieces = l.pieces }) ls) ≡ l ∷ ls
    go true rest = refl
    go false rest = ap (λ zs. l ∷ zs) rest

pub filled_none : (s : ShelfState) (n stamp : ℕ) → with_filled s n stamp [] [] ≡ s
filled_none s n stamp =
    let none : s.reserved - 0 ≡ s.reserved = omega arith in
    ap (λ (hs : List HeldList). record s { held = hs; reserved = s.reserved - 0 }) (same_pieces n s.held)
    ∙ ap (λ r. record s { reserved = r }) none

module _ (s : ShelfState) (n stamp i p : ℕ) where
  abbrev pub next : ShelfState
  next = filled_one s n i stamp p

  -- a place ahead of the others
  pub filled_first : (is ps : List ℕ) → with_filled next n stamp is ps ≡ with_filled s n stamp (i ∷ is) (p ∷ ps)
  filled_first is ps =
      let left : s.reserved - 1 - length ps ≡ s.reserved - length (p ∷ ps) = omega arith in
      ap (λ (hs : List HeldList). record s { held = hs; reserved = s.reserved - 1 - length ps })
      (twice s n (piece_set i (placed_at p stamp)) (pieces_filled is (placed_entries ps stamp)) (pieces_filled (i ∷ is) (placed_entries (p ∷ ps) stamp)) (λ qs. refl) s.held)
      ∙ ap (λ r. record s { held = first_changed (is_held n) (λ (l : HeldList). record l { pieces = pieces_filled (i ∷ is) (placed_entries (p ∷ ps) stamp) l.pieces }) s.held; reserved = r }) left

  free_stays : (q : ℕ) → is_shelf_free s q ≡ true → not (q == p) ≡ true → is_shelf_free next q ≡ true
  free_stays q free apart =
      let here : (nat_lt q s.geometry.pool_chunks && not (is_named (shelf_pieces s) q)) ≡ true = and_left _ (list_all (λ r. not (r == q)) s.fresh) free in
      let unnamed : is_named (shelf_pieces next) q ≡ false =
      unnamed_stays s n i p stamp q (eq_turn p q ∙ not_false (q == p) apart) (not_false (is_named (shelf_pieces s) q) (and_right (nat_lt q s.geometry.pool_chunks) _ here)) in
      and_both (nat_lt q s.geometry.pool_chunks && not (is_named (shelf_pieces next) q)) (list_all (λ r. not (r == q)) s.fresh)
      (and_both (nat_lt q s.geometry.pool_chunks) (not (is_named (shelf_pieces next) q)) (and_left (nat_lt q s.geometry.pool_chunks) _ here) (ap not unnamed))
      (and_right _ (list_all (λ r. not (r == q)) s.fresh) free)

  module _ (is ps : List ℕ) (may : MayFill s n stamp (i ∷ is) (p ∷ ps)) where
    the_list : (h : HeldList) × (held_in s n ≡ Some h)
    the_list = held_list s n false may.target

    pub filled_standing : IsSome (held_in s n)
    filled_standing = subst (λ o. IsSome o) (sym the_list.1) refl

    pub filled_target : is_image_in s n ≡ false
    filled_target =
        let kind : Some the_list.0.is_image ≡ Some false = ap (option_map (λ (h : HeldList). h.is_image)) (sym the_list.1) ∙ may.target in
        let is : the_list.0.is_image ≡ false = cc in
        ap (λ (o : Option HeldList). if_found o (λ (h : HeldList). h.is_image) true) the_list.1 ∙ is

    pub filled_unmapped : entry_at s n i ≡ Some unmapped_entry
    filled_unmapped = All-head (IsUnmappedAt s n) i is may.unmapped

    pub filled_free : is_shelf_free s p ≡ true
    filled_free = and_left (is_shelf_free s p) (list_all (is_shelf_free s) ps) may.free

    pub filled_some : 1 ≤ s.reserved
    filled_some = let most : length (p ∷ ps) ≤ s.reserved = may.reserve in omega (arith, most)

    -- the index at a position
    index_there : index_at s n i ≡ i
    index_there = go (piece_at s n i) refl filled_unmapped
      where
        go : (o : Option (Piece Entry)) → piece_at s n i ≡ o → option_map (λ (a : Piece Entry). a.chunk) o ≡ Some unmapped_entry → if_found o (λ (a : Piece Entry). a.index) 0 ≡ i
        go None at e = absurd (cc)
        go (Some a) at e = own_index (pieces_in s n) i a may.indexed at

    pub filled_stamp : is_new_stamp s (index_at s n i) stamp ≡ true
    filled_stamp =
        ap (λ k. is_new_stamp s k stamp) index_there
        ∙ and_left (is_new_stamp s i stamp) (list_all (λ k. is_new_stamp s k stamp) is) may.stamps

    -- the list afterwards
    found_next : held_in next n ≡ option_map (λ (h : HeldList). record h { pieces = piece_set i (placed_at p stamp) h.pieces }) (held_in s n)
    found_next = changed_found s n (piece_set i (placed_at p stamp))

    pieces_next : pieces_in next n ≡ piece_set i (placed_at p stamp) (pieces_in s n)
    pieces_next =
        ap (λ (o : Option HeldList). if_found o (λ (h : HeldList). h.pieces) []) (found_next ∙ ap (option_map (λ (h : HeldList). record h { pieces = piece_set i (placed_at p stamp) h.pieces })) the_list.1)
        ∙ ap (λ (o : Option HeldList). piece_set i (placed_at p stamp) (if_found o (λ (h : HeldList). h.pieces) [])) (sym the_list.1)

    target_next : image_in next n ≡ Some false
    target_next =
        ap (option_map (λ (h : HeldList). h.is_image)) (found_next ∙ ap (option_map (λ (h : HeldList). record h { pieces = piece_set i (placed_at p stamp) h.pieces })) the_list.1)
        ∙ ap (option_map (λ (h : HeldList). h.is_image)) (sym the_list.1) ∙ may.target

    indexed_next : IsIndexed next n
    indexed_next =
        let chunks : List Entry = set (held_chunks s n) i (placed_at p stamp) in
        let is_chunks : pieces_in next n ≡ indexed chunks = pieces_next ∙ ap (piece_set i (placed_at p stamp)) may.indexed ∙ set_indexed i (placed_at p stamp) (held_chunks s n) in
        is_chunks ∙ ap indexed (sym (chunks_indexed chunks)) ∙ ap (λ qs. indexed (piece_chunks qs)) (sym is_chunks)

    above_next : (from : ℕ) (js : List ℕ) → i ≤ from → all_above from js ≡ true → All (IsUnmappedAt s n) js → All (IsUnmappedAt next n) js
    above_next from [] low above all = All-nil (IsUnmappedAt next n)
    above_next from (j ∷ js) low above all =
        let lt : from < j = ltb-true from j (and_left (nat_lt from j) (all_above j js) above) in
        All-cons (IsUnmappedAt next n) j js
        (ap (λ qs. option_map (λ (a : Piece Entry). a.chunk) (slice_get qs j)) pieces_next
        ∙ ap (option_map (λ (a : Piece Entry). a.chunk)) (set_other i j (placed_at p stamp) (pieces_in s n) (omega (arith, low, lt)))
        ∙ All-head (IsUnmappedAt s n) j js all)
        (above_next j js (omega (arith, low, lt)) (and_right (nat_lt from j) (all_above j js) above) (All-tail (IsUnmappedAt s n) j js all))

    stamp_next : (k : ℕ) → i < k → is_new_stamp s k stamp ≡ true → is_new_stamp next k stamp ≡ true
    stamp_next k lt new =
        and_both (not (stamp == 0)) _ (and_left (not (stamp == 0)) _ new)
        (piece_passes (λ (a : Piece Entry). not ((a.index == k) && (a.chunk.stamp == stamp))) s n i (placed_at p stamp) (and_right (not (stamp == 0)) _ new)
        (λ h found a at.
        let here : a.index ≡ i = own_index (pieces_in s n) i a may.indexed (ap (λ (o : Option HeldList). slice_get (if_found o (λ (l : HeldList). l.pieces) []) i) found ∙ at) in
        ap (λ b. not (b && (stamp == stamp))) (ne_eqb a.index k (λ e. omega (arith, here, lt, e)))))

    stamps_next : (from : ℕ) (js : List ℕ) → i ≤ from → all_above from js ≡ true → list_all (λ k. is_new_stamp s k stamp) js ≡ true → list_all (λ k. is_new_stamp next k stamp) js ≡ true
    stamps_next from [] low above all = refl
    stamps_next from (j ∷ js) low above all =
        let lt : from < j = ltb-true from j (and_left (nat_lt from j) (all_above j js) above) in
        and_both (is_new_stamp next j stamp) _ (stamp_next j (omega (arith, low, lt)) (and_left (is_new_stamp s j stamp) _ all))
        (stamps_next j js (omega (arith, low, lt)) (and_right (nat_lt from j) (all_above j js) above) (and_right (is_new_stamp s j stamp) _ all))

    rising_rest : (js : List ℕ) (from : ℕ) → all_above from js ≡ true → all_rising js ≡ true
    rising_rest [] from above = refl
    rising_rest (j ∷ js) from above = and_right (nat_lt from j) (all_above j js) above

    pub may_next : shelf_used next + next.reserved ≤ next.geometry.pool_chunks → MayFill next n stamp is ps
    may_next within = record {
      target = target_next;
      indexed = indexed_next;
      rise = rising_rest is i may.rise;
      unmapped = above_next i is (omega arith) may.rise (All-tail (IsUnmappedAt s n) i is may.unmapped);
      as_many = let both : length (i ∷ is) ≡ length (p ∷ ps) = may.as_many in omega (arith, both);
      free = list_all-both (is_shelf_free s) (λ q. not (q == p)) (is_shelf_free next) (λ q free apart. free_stays q free apart) ps
          (and_right (is_shelf_free s p) (list_all (is_shelf_free s) ps) may.free)
          (none_all (λ q. q == p) ps (and_left (not (list_any (λ m. m == p) ps)) (all_different ps) may.different));
      different = and_right (not (list_any (λ m. m == p) ps)) (all_different ps) may.different;
      reserve = let most : length (p ∷ ps) ≤ s.reserved = may.reserve in omega (arith, most);
      within = within;
      fresh = may.fresh;
      stamps = stamps_next i is (omega arith) may.rise (and_right (is_new_stamp s i stamp) (list_all (λ k. is_new_stamp s k stamp) is) may.stamps);
    }
