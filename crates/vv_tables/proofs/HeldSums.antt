-- Sums over the lists that a shelf holds are sums over the running clones and copies that hold them.
use Rattle.std.proofs.Common.{ℕ, zero, suc, ◌≡◌, ◌+◌, List, [], ◌∷◌, map, sum_by, Option, Some, slice_get, refl, sym, ap, subst, ◌∙◌, arith}
use Rattle.std.specs.List.{flat_map, All}
use Rattle.std.proofs.lemmas.List.Sums.{sum_by-cons, sum_by-append}
use Rattle.std.proofs.lemmas.List.Sorted.{sum_by-IsPermutation}
use Rattle.std.proofs.lemmas.List.Elements.{All-head, All-tail}
use Rattle.vv_flat.specs.Lists.{if_found}
use Rattle.vv_flat.specs.State.{Piece, RunningClone, RunningCopy, indexed}
use Rattle.vv_flat.specs.Chunks.{Entry}
use Rattle.vv_vols.specs.Shelf.{HeldList, ShelfState, pieces_in}
use Rattle.vv_tables.specs.declared.rows.CloneRow.{CloneRow}
use Rattle.vv_tables.specs.declared.rows.CopyRow.{CopyRow}
use Rattle.vv_tables.specs.Seen.{held_chunks, seen_clone, seen_copy}
use Rattle.vv_tables.specs.Kept.{numbers_held, clone_lists, lists_of, IsCloneHeld, AreHeld}
use Rattle.vv_tables.proofs.Walks.{finds_itself}

module _ {A : Type 0} where
  -- sums of equal items
  pub sum_same : (f g : A → ℕ) (xs : List A) → ((i : ℕ) (x : A) → slice_get xs i ≡ Some x → f x ≡ g x) → sum_by f xs ≡ sum_by g xs
  sum_same f g [] same = refl
  sum_same f g (x ∷ xs) same =
      let rest : sum_by f xs ≡ sum_by g xs = sum_same f g xs (λ i y e. same (suc i) y e) in
      let here : f x ≡ g x = same 0 x refl in
      sum_by-cons f x xs ∙ ap (λ n. n + sum_by f xs) here ∙ ap (λ n. g x + n) rest ∙ sym (sum_by-cons g x xs)

  pub sum_mapped : {B : Type 0} (f : B → ℕ) (g : A → B) (xs : List A) → sum_by f (map g xs) ≡ sum_by (λ x. f (g x)) xs
  sum_mapped f g [] = refl
  sum_mapped f g (x ∷ xs) =
      sum_by-cons f (g x) (map g xs) ∙ ap (λ n. f (g x) + n) (sum_mapped f g xs) ∙ sym (sum_by-cons (λ y. f (g y)) x xs)

  pub sum_flat : {B : Type 0} (f : B → ℕ) (g : A → List B) (xs : List A) → sum_by f (flat_map g xs) ≡ sum_by (λ x. sum_by f (g x)) xs
  sum_flat f g [] = refl
  sum_flat f g (x ∷ xs) =
      sum_by-append f (g x) (flat_map g xs) ∙ ap (λ n. sum_by f (g x) + n) (sum_flat f g xs) ∙ sym (sum_by-cons (λ y. sum_by f (g y)) x xs)

  -- what holds of each item, by its place
  pub at_place : (P : A → Type 0) (xs : List A) (i : ℕ) (x : A) → All P xs → slice_get xs i ≡ Some x → P x
  at_place P [] i x all e = absurd (cc)
  at_place P (y ∷ ys) zero x all e = let s : y ≡ x = cc in subst P s (All-head P y ys all)
  at_place P (y ∷ ys) (suc i) x all e = at_place P ys i x (All-tail P y ys all) e

module _ (s : ShelfState) (clones : List CloneRow) (copies : List CopyRow) (held : AreHeld s clones copies) (g : List (Piece Entry) → ℕ) where
  by_number : sum_by (λ (h : HeldList). g h.pieces) s.held ≡ sum_by (λ n. g (pieces_in s n)) (numbers_held s)
  by_number =
      sum_same (λ (h : HeldList). g h.pieces) (λ (h : HeldList). g (pieces_in s h.number)) s.held
      (λ i h e. ap (λ (o : Option HeldList). g (if_found o (λ (k : HeldList). k.pieces) [])) (sym (finds_itself (λ (k : HeldList). k.number) s.held i h held.rising e)))
      ∙ sym (sum_mapped (λ n. g (pieces_in s n)) (λ (h : HeldList). h.number) s.held)

  of_clone : (row : CloneRow) → IsCloneHeld s row
      → sum_by (λ n. g (pieces_in s n)) (clone_lists row) ≡ g (indexed (held_chunks s row.image.number)) + g (indexed (held_chunks s row.target.number))
  of_clone row is =
      sum_by-cons (λ n. g (pieces_in s n)) row.image.number (row.target.number ∷ [])
      ∙ ap (λ n. g (pieces_in s row.image.number) + n) (sum_by-cons (λ n. g (pieces_in s n)) row.target.number [] ∙ omega arith)
      ∙ ap (λ ps. g ps + g (pieces_in s row.target.number)) is.image_indexed
      ∙ ap (λ ps. g (indexed (held_chunks s row.image.number)) + g ps) is.target_indexed

  of_clones : sum_by (λ n. g (pieces_in s n)) (flat_map clone_lists clones)
      ≡ sum_by (λ (c : RunningClone Entry). g (indexed c.image) + g (indexed c.target)) (map (seen_clone s) clones)
  of_clones =
      sum_flat (λ n. g (pieces_in s n)) clone_lists clones
      ∙ sum_same (λ (row : CloneRow). sum_by (λ n. g (pieces_in s n)) (clone_lists row))
      (λ (row : CloneRow). g (indexed (held_chunks s row.image.number)) + g (indexed (held_chunks s row.target.number))) clones
      (λ i row e. of_clone row (at_place (IsCloneHeld s) clones i row held.images e))
      ∙ sym (sum_mapped (λ (c : RunningClone Entry). g (indexed c.image) + g (indexed c.target)) (seen_clone s) clones)

  of_copies : sum_by (λ n. g (pieces_in s n)) (map (λ (row : CopyRow). row.pieces.number) copies)
      ≡ sum_by (λ (c : RunningCopy Entry). g c.pieces) (map (seen_copy s) copies)
  of_copies =
      sum_mapped (λ n. g (pieces_in s n)) (λ (row : CopyRow). row.pieces.number) copies
      ∙ sym (sum_mapped (λ (c : RunningCopy Entry). g c.pieces) (seen_copy s) copies)

  -- any number of the held lists, summed up
  pub held_sum : sum_by (λ (h : HeldList). g h.pieces) s.held
      ≡ sum_by (λ (c : RunningClone Entry). g (indexed c.image) + g (indexed c.target)) (map (seen_clone s) clones)
      + sum_by (λ (c : RunningCopy Entry). g c.pieces) (map (seen_copy s) copies)
  held_sum =
      by_number
      ∙ sym (sum_by-IsPermutation (λ n. g (pieces_in s n)) (numbers_held s) (lists_of clones copies) held.each_once)
      ∙ sum_by-append (λ n. g (pieces_in s n)) (flat_map clone_lists clones) (map (λ (row : CopyRow). row.pieces.number) copies)
      ∙ ap (λ n. n + sum_by (λ n. g (pieces_in s n)) (map (λ (row : CopyRow). row.pieces.number) copies)) of_clones
      ∙ ap (λ n. sum_by (λ (c : RunningClone Entry). g (indexed c.image) + g (indexed c.target)) (map (seen_clone s) clones) + n) of_copies
