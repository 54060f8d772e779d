-- Running clones and copies hold each list of a shelf once, where one of them begins and where one ends.
use Rattle.std.proofs.Common.{ℕ, ◌≡◌, ◌+◌, ◌==◌, not, Bool, true, false, cond, List, [], ◌∷◌, ◌++◌, Option, Some, option_map, sym, ap, subst, ◌∙◌, arith}
use Rattle.std.specs.List.{flat_map, list_all, All}
use Rattle.std.specs.List.Sorted.{IsPermutation}
use Rattle.std.proofs.lemmas.List.{map-append, append_assoc, append-nil}
use Rattle.std.proofs.lemmas.List.Sums.{sum_by-cons, sum_by-append}
use Rattle.std.proofs.lemmas.List.Elements.{All-head, All-tail, All-push}
use Rattle.std.proofs.lemmas.List.Sorted.{IsPermutation-trans}
use Rattle.vv_flat.specs.Lists.{if_found, all_rising}
use Rattle.vv_flat.specs.State.{indexed}
use Rattle.vv_vols.specs.Shelf.{HeldList, ShelfState, held_in, pieces_in, next_held}
use Rattle.vv_vols.specs.Calls.{with_held, piece_chunks}
use Rattle.vv_tables.specs.declared.rows.CloneRow.{CloneRow}
use Rattle.vv_tables.specs.declared.rows.CopyRow.{CopyRow}
use Rattle.vv_tables.specs.Kept.{numbers_held, clone_lists, lists_of, image_in, IsIndexed, IsCloneHeld, IsCopyHeld, AreHeld}
use Rattle.vv_tables.proofs.Drops.{times, last_clone}
use Rattle.vv_tables.proofs.Permuted.{counts_permute}
use Rattle.vv_tables.proofs.HeldChanges.{added_found, added_rising, next_new, IsSameHeld, clones_stay, copies_stay}
use Rattle.vv_tables.proofs.HeldKept.{pieces_of, front_part, back_part, both_same, added_others, added_once}

-- a number goes to another place
times-append : (k : ℕ) (ms ns : List ℕ) → times k (ms ++ ns) ≡ times k ms + times k ns
times-append k ms ns = sum_by-append (λ m. cond (m == k) 1 0) ms ns

times-cons : (k m : ℕ) (ms : List ℕ) → times k (m ∷ ms) ≡ cond (m == k) 1 0 + times k ms
times-cons k m ms = sum_by-cons (λ m. cond (m == k) 1 0) m ms

put_inside : (n : ℕ) (front back : List ℕ) → IsPermutation (n ∷ (front ++ back)) (front ++ n ∷ back)
put_inside n front back = counts_permute (n ∷ (front ++ back)) (front ++ n ∷ back) (λ k.
    let a = times-cons k n (front ++ back) in
    let b = times-append k front back in
    let c = times-append k front (n ∷ back) in
    let d = times-cons k n back in
    omega (arith, a, b, c, d))

two_inside : (n m : ℕ) (front back : List ℕ) → IsPermutation (m ∷ n ∷ (front ++ back)) (front ++ n ∷ m ∷ back)
two_inside n m front back = counts_permute (m ∷ n ∷ (front ++ back)) (front ++ n ∷ m ∷ back) (λ k.
    let a = times-cons k m (n ∷ (front ++ back)) in
    let b = times-cons k n (front ++ back) in
    let c = times-append k front back in
    let d = times-append k front (n ∷ m ∷ back) in
    let e = times-cons k n (m ∷ back) in
    let f = times-cons k m back in
    omega (arith, a, b, c, d, e, f))

-- ---- a copy begins
module _ (s : ShelfState) (h : HeldList) (clones : List CloneRow) (copies : List CopyRow) (row : CopyRow)
    (next : h.number ≡ next_held s) (number : row.pieces.number ≡ h.number) (kind : h.is_image ≡ false) (held : AreHeld s clones copies) where
  copy_new : list_all (λ (k : HeldList). not (k.number == h.number)) s.held ≡ true
  copy_new = subst (λ n. list_all (λ (k : HeldList). not (k.number == n)) s.held ≡ true) (sym next) (next_new s held.rising)

  pub copy_added : AreHeld (with_held s h) clones (copies ++ row ∷ [])
  copy_added =
      let others = added_others s h (lists_of clones copies) copy_new held.each_once in
      let lists : lists_of clones (copies ++ row ∷ []) ≡ lists_of clones copies ++ row.pieces.number ∷ [] =
      ap (λ ns. flat_map clone_lists clones ++ ns) (map-append (λ (r : CopyRow). r.pieces.number) copies (row ∷ []))
      ∙ sym (append_assoc (flat_map clone_lists clones) (pieces_of copies) (row.pieces.number ∷ [])) in
      let order : IsPermutation (h.number ∷ lists_of clones copies) (lists_of clones copies ++ h.number ∷ []) =
      subst (λ ns. IsPermutation (h.number ∷ ns) (lists_of clones copies ++ h.number ∷ [])) (append-nil (lists_of clones copies))
      (put_inside h.number (lists_of clones copies) []) in
      record {
        rising = added_rising s h copy_new held.rising;
        each_once = subst (λ ns. IsPermutation (numbers_held (with_held s h)) ns) (sym (lists ∙ ap (λ n. lists_of clones copies ++ n ∷ []) number))
            (IsPermutation-trans (numbers_held (with_held s h)) (h.number ∷ lists_of clones copies) (lists_of clones copies ++ h.number ∷ [])
            (added_once s h (lists_of clones copies) copy_new held.each_once) order);
        images = clones_stay s (with_held s h) clones (front_part (IsSameHeld s (with_held s h)) (flat_map clone_lists clones) (pieces_of copies) others) held.images;
        pieces = All-push (IsCopyHeld (with_held s h)) copies row
            (copies_stay s (with_held s h) copies (back_part (IsSameHeld s (with_held s h)) (flat_map clone_lists clones) (pieces_of copies) others) held.pieces)
            (ap (λ n. image_in (with_held s h) n) number ∙ ap (option_map (λ (k : HeldList). k.is_image)) (added_found s h copy_new) ∙ ap Some kind);
      }

-- ---- a clone begins
-- a list that is held with the indexes from 0 on
abbrev pub StandsWhole : ShelfState → ℕ → Bool → Type 0
StandsWhole s n image = (image_in s n ≡ Some image) × IsIndexed s n

new_list : (s : ShelfState) (h : HeldList) (n : ℕ) (image : Bool) → n ≡ h.number → h.is_image ≡ image → h.pieces ≡ indexed (piece_chunks h.pieces)
    → held_in s h.number ≡ Some h → StandsWhole s n image
new_list s h n image number kind whole found =
    let here : held_in s n ≡ Some h = ap (held_in s) number ∙ found in
    let ps : pieces_in s n ≡ h.pieces = ap (λ (o : Option HeldList). if_found o (λ (k : HeldList). k.pieces) []) here in
    (ap (option_map (λ (k : HeldList). k.is_image)) here ∙ ap Some kind, ps ∙ whole ∙ ap (λ qs. indexed (piece_chunks qs)) (sym ps))

module _ (s : ShelfState) (image target : HeldList) (clones : List CloneRow) (copies : List CopyRow) (row : CloneRow)
    (next_image : image.number ≡ next_held s) (next_target : target.number ≡ next_held (with_held s image))
    (image_number : row.image.number ≡ image.number) (target_number : row.target.number ≡ target.number)
    (is_image : image.is_image ≡ true) (is_target : target.is_image ≡ false)
    (image_whole : image.pieces ≡ indexed (piece_chunks image.pieces)) (target_whole : target.pieces ≡ indexed (piece_chunks target.pieces))
    (held : AreHeld s clones copies) where
  pub image_new : list_all (λ (k : HeldList). not (k.number == image.number)) s.held ≡ true
  image_new = subst (λ n. list_all (λ (k : HeldList). not (k.number == n)) s.held ≡ true) (sym next_image) (next_new s held.rising)

  first_rising : all_rising (numbers_held (with_held s image)) ≡ true
  first_rising = added_rising s image image_new held.rising

  pub target_new : list_all (λ (k : HeldList). not (k.number == target.number)) (with_held s image).held ≡ true
  target_new = subst (λ n. list_all (λ (k : HeldList). not (k.number == n)) (with_held s image).held ≡ true) (sym next_target) (next_new (with_held s image) first_rising)

  first_once : IsPermutation (numbers_held (with_held s image)) (image.number ∷ lists_of clones copies)
  first_once = added_once s image (lists_of clones copies) image_new held.each_once

  pub second_others : All (IsSameHeld (with_held s image) (with_held (with_held s image) target)) (image.number ∷ lists_of clones copies)
  second_others = added_others (with_held s image) target (image.number ∷ lists_of clones copies) target_new first_once

  pub others_same : All (IsSameHeld s (with_held (with_held s image) target)) (lists_of clones copies)
  others_same =
      both_same s (with_held s image) (with_held (with_held s image) target) (lists_of clones copies)
      (added_others s image (lists_of clones copies) image_new held.each_once)
      (All-tail (IsSameHeld (with_held s image) (with_held (with_held s image) target)) image.number (lists_of clones copies) second_others)

  new_clone : IsCloneHeld (with_held (with_held s image) target) row
  new_clone =
      let a = new_list (with_held (with_held s image) target) image row.image.number true image_number is_image image_whole
      (All-head (IsSameHeld (with_held s image) (with_held (with_held s image) target)) image.number (lists_of clones copies) second_others ∙ added_found s image image_new) in
      let b = new_list (with_held (with_held s image) target) target row.target.number false target_number is_target target_whole (added_found (with_held s image) target target_new) in
      record { image = a.0; image_indexed = a.1; target = b.0; target_indexed = b.1 }

  pub clone_added : AreHeld (with_held (with_held s image) target) (clones ++ row ∷ []) copies
  clone_added =
      let lists : lists_of (clones ++ row ∷ []) copies ≡ flat_map clone_lists clones ++ image.number ∷ target.number ∷ pieces_of copies =
      last_clone clones row copies
      ∙ ap (λ n. flat_map clone_lists clones ++ n ∷ row.target.number ∷ pieces_of copies) image_number
      ∙ ap (λ n. flat_map clone_lists clones ++ image.number ∷ n ∷ pieces_of copies) target_number in
      record {
        rising = added_rising (with_held s image) target target_new first_rising;
        each_once = subst (λ ns. IsPermutation (numbers_held (with_held (with_held s image) target)) ns) (sym lists)
            (IsPermutation-trans (numbers_held (with_held (with_held s image) target)) (target.number ∷ image.number ∷ lists_of clones copies)
            (flat_map clone_lists clones ++ image.number ∷ target.number ∷ pieces_of copies)
            (added_once (with_held s image) target (image.number ∷ lists_of clones copies) target_new first_once)
            (two_inside image.number target.number (flat_map clone_lists clones) (pieces_of copies)));
        images = All-push (IsCloneHeld (with_held (with_held s image) target)) clones row
            (clones_stay s (with_held (with_held s image) target) clones
            (front_part (IsSameHeld s (with_held (with_held s image) target)) (flat_map clone_lists clones) (pieces_of copies) others_same) held.images)
            new_clone;
        pieces = copies_stay s (with_held (with_held s image) target) copies
            (back_part (IsSameHeld s (with_held (with_held s image) target)) (flat_map clone_lists clones) (pieces_of copies) others_same) held.pieces;
      }
