-- Running clones and copies hold each list of a shelf once, where the target of a clone gets other entries.
use Rattle.std.proofs.Common.{ℕ, zero, suc, ◌≡◌, ◌+◌, false, List, [], ◌∷◌, ◌++◌, map, set, Option, Some, None, option_map, refl, sym, ap, subst, ◌∙◌}
use Rattle.std.specs.List.{flat_map, All}
use Rattle.std.specs.List.Sorted.{IsPermutation}
use Rattle.std.proofs.lemmas.List.{append_assoc, map-append}
use Rattle.std.proofs.lemmas.List.Concat.{flat_map-append}
use Rattle.std.proofs.lemmas.List.Elements.{All-nil, All-cons, All-head, All-tail, All-append}
use Rattle.vv_flat.specs.Lists.{if_found, all_rising, mapped_from}
use Rattle.vv_flat.specs.State.{Piece, RunningClone, indexed}
use Rattle.vv_flat.specs.Chunks.{Entry}
use Rattle.vv_vols.specs.Shelf.{HeldList, ShelfState, held_in, pieces_in}
use Rattle.vv_vols.specs.Calls.{with_pieces, piece_set, piece_chunks}
use Rattle.vv_tables.specs.declared.rows.CloneRow.{CloneRow}
use Rattle.vv_tables.specs.declared.rows.CopyRow.{CopyRow}
use Rattle.vv_tables.specs.Seen.{seen_clone, seen_copy}
use Rattle.vv_tables.specs.Kept.{numbers_held, clone_lists, lists_of, image_in, IsCloneHeld, AreHeld}
use Rattle.vv_tables.proofs.HeldChanges.{changed_found, changed_numbers, IsSameHeld, clones_seen, copies_seen, clones_stay, copies_stay}
use Rattle.vv_tables.proofs.HeldKept.{pieces_of, front_part, back_part, changed_others}
use Rattle.vv_tables.proofs.HeldEnds.{the_one, held_list}

-- an entry of a list with the indexes from 0 on is another one
set_from : (first at : ℕ) (e : Entry) (xs : List Entry)
    → piece_set at e (mapped_from (λ i x. record { index = i; chunk = x }) first xs) ≡ mapped_from (λ i x. record { index = i; chunk = x }) first (set xs at e)
set_from first at e [] = refl
set_from first zero e (x ∷ xs) = refl
set_from first (suc at) e (x ∷ xs) = ap (λ ps. record { index = first; chunk = x } ∷ ps) (set_from (first + 1) at e xs)

pub set_indexed : (at : ℕ) (e : Entry) (xs : List Entry) → piece_set at e (indexed xs) ≡ indexed (set xs at e)
set_indexed at e xs = set_from 0 at e xs

chunks_from : (first : ℕ) (xs : List Entry) → piece_chunks (mapped_from (λ i x. record { index = i; chunk = x }) first xs) ≡ xs
chunks_from first [] = refl
chunks_from first (x ∷ xs) = ap (λ ys. x ∷ ys) (chunks_from (first + 1) xs)

pub chunks_indexed : (xs : List Entry) → piece_chunks (indexed xs) ≡ xs
chunks_indexed xs = chunks_from 0 xs

module _ (s : ShelfState) (front : List CloneRow) (row : CloneRow) (back : List CloneRow) (copies : List CopyRow) (held : AreHeld s (front ++ row ∷ back) copies)
    (f : List (Piece Entry) → List (Piece Entry)) where
  abbrev pub filled : ShelfState
  filled = with_pieces s row.target.number f

  abbrev ahead : List ℕ
  ahead = flat_map clone_lists front

  abbrev behind : List ℕ
  behind = flat_map clone_lists back ++ pieces_of copies

  lists_are : lists_of (front ++ row ∷ back) copies ≡ (ahead ++ row.image.number ∷ []) ++ row.target.number ∷ behind
  lists_are =
      ap (λ ns. ns ++ pieces_of copies) (flat_map-append clone_lists front (row ∷ back))
      ∙ append_assoc ahead (row.image.number ∷ row.target.number ∷ flat_map clone_lists back) (pieces_of copies)
      ∙ sym (append_assoc ahead (row.image.number ∷ []) (row.target.number ∷ behind))

  row_held : IsCloneHeld s row
  row_held = the_one (IsCloneHeld s) front row back held.images

  target_stands : (h : HeldList) × (held_in s row.target.number ≡ Some h)
  target_stands = held_list s row.target.number false row_held.target

  others : All (IsSameHeld s filled) ((ahead ++ row.image.number ∷ []) ++ behind)
  others =
      changed_others s target_stands.0 row.target.number (ahead ++ row.image.number ∷ []) behind held.rising
      (subst (λ ns. IsPermutation (numbers_held s) ns) lists_are held.each_once) target_stands.1 f

  before : All (IsSameHeld s filled) (ahead ++ row.image.number ∷ [])
  before = front_part (IsSameHeld s filled) (ahead ++ row.image.number ∷ []) behind others

  after : All (IsSameHeld s filled) behind
  after = back_part (IsSameHeld s filled) (ahead ++ row.image.number ∷ []) behind others

  image_same : IsSameHeld s filled row.image.number
  image_same = All-head (IsSameHeld s filled) row.image.number [] (back_part (IsSameHeld s filled) ahead (row.image.number ∷ []) before)

  -- the pieces of the target
  pub target_pieces : pieces_in filled row.target.number ≡ f (pieces_in s row.target.number)
  target_pieces = ap (λ (o : Option HeldList). if_found o (λ (h : HeldList). h.pieces) []) (changed_found s row.target.number f) ∙ go (held_in s row.target.number) target_stands.1
    where
      go : (o : Option HeldList) → o ≡ Some target_stands.0
          → if_found (option_map (λ (h : HeldList). record h { pieces = f h.pieces }) o) (λ (h : HeldList). h.pieces) [] ≡ f (if_found o (λ (h : HeldList). h.pieces) [])
      go None e = absurd (cc)
      go (Some h) e = refl

  target_kind : image_in filled row.target.number ≡ Some false
  target_kind = ap (option_map (λ (h : HeldList). h.is_image)) (changed_found s row.target.number f) ∙ go (held_in s row.target.number) ∙ row_held.target
    where
      go : (o : Option HeldList)
          → option_map (λ (h : HeldList). h.is_image) (option_map (λ (h : HeldList). record h { pieces = f h.pieces }) o) ≡ option_map (λ (h : HeldList). h.is_image) o
      go None = refl
      go (Some h) = refl

  row_filled : f (pieces_in s row.target.number) ≡ indexed (piece_chunks (f (pieces_in s row.target.number))) → IsCloneHeld filled row
  row_filled whole =
      let ps : pieces_in filled row.image.number ≡ pieces_in s row.image.number = ap (λ (o : Option HeldList). if_found o (λ (h : HeldList). h.pieces) []) image_same in
      record {
        image = ap (option_map (λ (h : HeldList). h.is_image)) image_same ∙ row_held.image;
        image_indexed = ps ∙ row_held.image_indexed ∙ ap (λ qs. indexed (piece_chunks qs)) (sym ps);
        target = target_kind;
        target_indexed = target_pieces ∙ whole ∙ ap (λ qs. indexed (piece_chunks qs)) (sym target_pieces);
      }

  front_held : All (IsCloneHeld s) front
  front_held = rows_front front held.images
    where
      rows_front : (rows : List CloneRow) → All (IsCloneHeld s) (rows ++ row ∷ back) → All (IsCloneHeld s) rows
      rows_front [] all = All-nil (IsCloneHeld s)
      rows_front (r ∷ rs) all = All-cons (IsCloneHeld s) r rs (All-head (IsCloneHeld s) r (rs ++ row ∷ back) all) (rows_front rs (All-tail (IsCloneHeld s) r (rs ++ row ∷ back) all))

  back_held : All (IsCloneHeld s) back
  back_held = rows_back front held.images
    where
      rows_back : (rows : List CloneRow) → All (IsCloneHeld s) (rows ++ row ∷ back) → All (IsCloneHeld s) back
      rows_back [] all = All-tail (IsCloneHeld s) row back all
      rows_back (r ∷ rs) all = rows_back rs (All-tail (IsCloneHeld s) r (rs ++ row ∷ back) all)

  pub target_filled : f (pieces_in s row.target.number) ≡ indexed (piece_chunks (f (pieces_in s row.target.number))) → AreHeld filled (front ++ row ∷ back) copies
  target_filled whole = record {
    rising = ap all_rising (changed_numbers s row.target.number f) ∙ held.rising;
    each_once = subst (λ ns. IsPermutation ns (lists_of (front ++ row ∷ back) copies)) (sym (changed_numbers s row.target.number f)) held.each_once;
    images = All-append (IsCloneHeld filled) front (row ∷ back)
        (clones_stay s filled front (front_part (IsSameHeld s filled) ahead (row.image.number ∷ []) before) front_held)
        (All-cons (IsCloneHeld filled) row back (row_filled whole)
        (clones_stay s filled back (front_part (IsSameHeld s filled) (flat_map clone_lists back) (pieces_of copies) after) back_held));
    pieces = copies_stay s filled copies (back_part (IsSameHeld s filled) (flat_map clone_lists back) (pieces_of copies) after) held.pieces;
  }

  -- how the clones and the copies are seen then
  pub clones_filled : map (seen_clone filled) (front ++ row ∷ back)
      ≡ map (seen_clone s) front ++ (record (seen_clone s row) { target = piece_chunks (f (pieces_in s row.target.number)) }) ∷ map (seen_clone s) back
  clones_filled =
      map-append (seen_clone filled) front (row ∷ back)
      ∙ ap (λ (cs : List (RunningClone Entry)). cs ++ seen_clone filled row ∷ map (seen_clone filled) back)
      (clones_seen s filled front (front_part (IsSameHeld s filled) ahead (row.image.number ∷ []) before))
      ∙ ap (λ (cs : List (RunningClone Entry)). map (seen_clone s) front ++ seen_clone filled row ∷ cs)
      (clones_seen s filled back (front_part (IsSameHeld s filled) (flat_map clone_lists back) (pieces_of copies) after))
      ∙ ap (λ (o : Option HeldList). map (seen_clone s) front ++ (record (seen_clone filled row) { image = piece_chunks (if_found o (λ (h : HeldList). h.pieces) []) }) ∷ map (seen_clone s) back) image_same
      ∙ ap (λ ps. map (seen_clone s) front ++ (record (seen_clone s row) { target = piece_chunks ps }) ∷ map (seen_clone s) back) target_pieces

  pub copies_filled : map (seen_copy filled) copies ≡ map (seen_copy s) copies
  copies_filled = copies_seen s filled copies (back_part (IsSameHeld s filled) (flat_map clone_lists back) (pieces_of copies) after)
