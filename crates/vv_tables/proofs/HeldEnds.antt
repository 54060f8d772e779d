-- Running clones and copies hold each list of a shelf once, where one of them has ended, and where a target is filled.
use Rattle.std.proofs.Common.{ℕ, ◌≡◌, Bool, true, false, List, [], ◌∷◌, ◌++◌, Option, Some, None, option_map, refl, sym, ap, subst, ◌∙◌}
use Rattle.std.specs.List.{flat_map, All}
use Rattle.std.specs.List.Sorted.{IsPermutation}
use Rattle.std.proofs.lemmas.List.{map-append, append_assoc}
use Rattle.std.proofs.lemmas.List.Concat.{flat_map-append}
use Rattle.std.proofs.lemmas.List.Elements.{All-cons, All-head, All-tail}
use Rattle.vv_flat.specs.Lists.{all_rising}
use Rattle.vv_vols.specs.Shelf.{HeldList, ShelfState, held_in}
use Rattle.vv_vols.specs.Calls.{without_held}
use Rattle.vv_tables.specs.declared.rows.CloneRow.{CloneRow}
use Rattle.vv_tables.specs.declared.rows.CopyRow.{CopyRow}
use Rattle.vv_tables.specs.Kept.{numbers_held, clone_lists, lists_of, image_in, IsCloneHeld, IsCopyHeld, AreHeld}
use Rattle.vv_tables.proofs.HeldChanges.{left_rising, IsSameHeld, clones_stay, copies_stay}
use Rattle.vv_tables.proofs.HeldKept.{pieces_of, front_part, back_part, both_same, left_once, left_others}

-- what holds of all rows holds of all but one, and of the one
module _ {A : Type 0} (P : A → Type 0) where
  pub all_but : (front : List A) (x : A) (back : List A) → All P (front ++ x ∷ back) → All P (front ++ back)
  all_but [] x back all = All-tail P x back all
  all_but (y ∷ ys) x back all =
      All-cons P y (ys ++ back) (All-head P y (ys ++ x ∷ back) all) (all_but ys x back (All-tail P y (ys ++ x ∷ back) all))

  pub the_one : (front : List A) (x : A) (back : List A) → All P (front ++ x ∷ back) → P x
  the_one [] x back all = All-head P x back all
  the_one (y ∷ ys) x back all = the_one ys x back (All-tail P y (ys ++ x ∷ back) all)

-- a list that is an image or not stands
pub held_list : (s : ShelfState) (n : ℕ) (b : Bool) → image_in s n ≡ Some b → (h : HeldList) × (held_in s n ≡ Some h)
held_list s n b e = go (held_in s n) refl e
  where
    go : (o : Option HeldList) → held_in s n ≡ o → option_map (λ (h : HeldList). h.is_image) o ≡ Some b → (h : HeldList) × (held_in s n ≡ Some h)
    go None found e = absurd (cc)
    go (Some h) found e = (h, found)

-- ---- a copy ends
module _ (s : ShelfState) (clones : List CloneRow) (front : List CopyRow) (row : CopyRow) (back : List CopyRow) (held : AreHeld s clones (front ++ row ∷ back)) where
  copy_lists : lists_of clones (front ++ row ∷ back) ≡ (flat_map clone_lists clones ++ pieces_of front) ++ row.pieces.number ∷ pieces_of back
  copy_lists =
      ap (λ ns. flat_map clone_lists clones ++ ns) (map-append (λ (r : CopyRow). r.pieces.number) front (row ∷ back))
      ∙ sym (append_assoc (flat_map clone_lists clones) (pieces_of front) (row.pieces.number ∷ pieces_of back))

  copies_left : lists_of clones (front ++ back) ≡ (flat_map clone_lists clones ++ pieces_of front) ++ pieces_of back
  copies_left =
      ap (λ ns. flat_map clone_lists clones ++ ns) (map-append (λ (r : CopyRow). r.pieces.number) front back)
      ∙ sym (append_assoc (flat_map clone_lists clones) (pieces_of front) (pieces_of back))

  copy_once : IsPermutation (numbers_held s) ((flat_map clone_lists clones ++ pieces_of front) ++ row.pieces.number ∷ pieces_of back)
  copy_once = subst (λ ns. IsPermutation (numbers_held s) ns) copy_lists held.each_once

  copy_stands : (h : HeldList) × (held_in s row.pieces.number ≡ Some h)
  copy_stands = held_list s row.pieces.number false (the_one (IsCopyHeld s) front row back held.pieces)

  pub copy_left_same : All (IsSameHeld s (without_held s row.pieces.number)) (lists_of clones (front ++ back))
  copy_left_same =
      subst (λ ns. All (IsSameHeld s (without_held s row.pieces.number)) ns) (sym copies_left)
      (left_others s copy_stands.0 row.pieces.number (flat_map clone_lists clones ++ pieces_of front) (pieces_of back) held.rising copy_once copy_stands.1)

  pub copy_left : AreHeld (without_held s row.pieces.number) clones (front ++ back)
  copy_left = record {
    rising = left_rising s row.pieces.number held.rising;
    each_once = subst (λ ns. IsPermutation (numbers_held (without_held s row.pieces.number)) ns) (sym copies_left)
        (left_once s copy_stands.0 row.pieces.number (flat_map clone_lists clones ++ pieces_of front) (pieces_of back) held.rising copy_once copy_stands.1);
    images = clones_stay s (without_held s row.pieces.number) clones
        (front_part (IsSameHeld s (without_held s row.pieces.number)) (flat_map clone_lists clones) (pieces_of (front ++ back)) copy_left_same) held.images;
    pieces = copies_stay s (without_held s row.pieces.number) (front ++ back)
        (back_part (IsSameHeld s (without_held s row.pieces.number)) (flat_map clone_lists clones) (pieces_of (front ++ back)) copy_left_same)
        (all_but (IsCopyHeld s) front row back held.pieces);
  }

-- ---- a clone ends
module _ (s : ShelfState) (front : List CloneRow) (row : CloneRow) (back : List CloneRow) (copies : List CopyRow) (held : AreHeld s (front ++ row ∷ back) copies) where
  abbrev ahead : List ℕ
  ahead = flat_map clone_lists front

  abbrev behind : List ℕ
  behind = flat_map clone_lists back ++ pieces_of copies

  clone_lists_are : lists_of (front ++ row ∷ back) copies ≡ ahead ++ row.image.number ∷ row.target.number ∷ behind
  clone_lists_are =
      ap (λ ns. ns ++ pieces_of copies) (flat_map-append clone_lists front (row ∷ back))
      ∙ append_assoc ahead (row.image.number ∷ row.target.number ∷ flat_map clone_lists back) (pieces_of copies)

  clones_left : lists_of (front ++ back) copies ≡ ahead ++ behind
  clones_left =
      ap (λ ns. ns ++ pieces_of copies) (flat_map-append clone_lists front back)
      ∙ append_assoc ahead (flat_map clone_lists back) (pieces_of copies)

  clone_held : IsCloneHeld s row
  clone_held = the_one (IsCloneHeld s) front row back held.images

  image_stands : (h : HeldList) × (held_in s row.image.number ≡ Some h)
  image_stands = held_list s row.image.number true clone_held.image

  clone_once : IsPermutation (numbers_held s) (ahead ++ row.image.number ∷ row.target.number ∷ behind)
  clone_once = subst (λ ns. IsPermutation (numbers_held s) ns) clone_lists_are held.each_once

  image_once : IsPermutation (numbers_held (without_held s row.image.number)) (ahead ++ row.target.number ∷ behind)
  image_once = left_once s image_stands.0 row.image.number ahead (row.target.number ∷ behind) held.rising clone_once image_stands.1

  image_others : All (IsSameHeld s (without_held s row.image.number)) (ahead ++ row.target.number ∷ behind)
  image_others = left_others s image_stands.0 row.image.number ahead (row.target.number ∷ behind) held.rising clone_once image_stands.1

  -- the target is held as before once the image is dropped
  pub target_stays : held_in (without_held s row.image.number) row.target.number ≡ held_in s row.target.number
  target_stays = the_one (IsSameHeld s (without_held s row.image.number)) ahead row.target.number behind image_others

  target_stands : (h : HeldList) × (held_in (without_held s row.image.number) row.target.number ≡ Some h)
  target_stands = held_list (without_held s row.image.number) row.target.number false (ap (option_map (λ (h : HeldList). h.is_image)) target_stays ∙ clone_held.target)

  image_rising : all_rising (numbers_held (without_held s row.image.number)) ≡ true
  image_rising = left_rising s row.image.number held.rising

  abbrev pub after_clone : ShelfState
  after_clone = without_held (without_held s row.image.number) row.target.number

  both_others : All (IsSameHeld s after_clone) (ahead ++ behind)
  both_others =
      both_same s (without_held s row.image.number) after_clone (ahead ++ behind)
      (all_but (IsSameHeld s (without_held s row.image.number)) ahead row.target.number behind image_others)
      (left_others (without_held s row.image.number) target_stands.0 row.target.number ahead behind image_rising image_once target_stands.1)

  pub clone_left_same : All (IsSameHeld s after_clone) (lists_of (front ++ back) copies)
  clone_left_same = subst (λ ns. All (IsSameHeld s after_clone) ns) (sym clones_left) both_others

  pub clone_left : AreHeld after_clone (front ++ back) copies
  clone_left = record {
    rising = left_rising (without_held s row.image.number) row.target.number image_rising;
    each_once = subst (λ ns. IsPermutation (numbers_held after_clone) ns) (sym clones_left)
        (left_once (without_held s row.image.number) target_stands.0 row.target.number ahead behind image_rising image_once target_stands.1);
    images = clones_stay s after_clone (front ++ back)
        (front_part (IsSameHeld s after_clone) (flat_map clone_lists (front ++ back)) (pieces_of copies) clone_left_same)
        (all_but (IsCloneHeld s) front row back held.images);
    pieces = copies_stay s after_clone copies
        (back_part (IsSameHeld s after_clone) (flat_map clone_lists (front ++ back)) (pieces_of copies) clone_left_same) held.pieces;
  }
