-- How many pieces a copy has, by what a bitmap counts.
use Rattle.std.proofs.Common.{ℕ, ◌≡◌, ◌+◌, ◌==◌, Bool, not, cond, List, [], ◌∷◌, map, length, count_by, Option, None, Some, option_map, refl, sym, ap, subst, ◌∙◌}
use Rattle.std.specs.Prelude.{IsSome}
use Rattle.std.specs.List.{find}
use Rattle.std.proofs.lemmas.List.Sums.{sum_by-cons, length-filter}
use Rattle.vv_flat.specs.Lists.{if_found, mapped_from}
use Rattle.vv_flat.specs.State.{Volume, Piece, Durable, volume_of, indexed, map_volume}
use Rattle.vv_flat.specs.Chunks.{Entry, shape_of_tables}
use Rattle.vv_flat.specs.Bits.{is_unshared, unshared_count}
use Rattle.vv_flat.specs.Tasks.{difference}
use Rattle.vv_flat.specs.Changes.{stamps_of}
use Rattle.vv_vols.specs.Shelf.{volume_in}
use Rattle.vv_vols.specs.Rows.{ShelfView}
use Rattle.vv_bitmap.specs.Stamps.{stamps_in}
use Rattle.vv_tables.specs.Seen.{TablesView, IsShelfOf}
use Rattle.vv_tables.specs.Copies.{differing}
use Rattle.vv_tables.proofs.ShapeVolumes.{shaped, shape_found}

counted : (test : ℕ → ℕ → Bool) (k : ℕ) (xs : List ℕ)
    → count_by (λ (p : Piece ℕ). test p.index p.chunk) (mapped_from (λ i x. record { index = i; chunk = x }) k xs) ≡ count_by (λ b. b) (mapped_from test k xs)
counted test k [] = refl
counted test k (x ∷ xs) =
    sum_by-cons (λ (p : Piece ℕ). cond (test p.index p.chunk) 1 0) (record { index = k; chunk = x }) (mapped_from (λ i x. record { index = i; chunk = x }) (k + 1) xs)
    ∙ ap (λ n. cond (test k x) 1 0 + n) (counted test (k + 1) xs)
    ∙ sym (sum_by-cons (λ b. cond b 1 0) (test k x) (mapped_from test (k + 1) xs))

same_stamps : (xs : List ℕ) → map (λ s. s) xs ≡ xs
same_stamps [] = refl
same_stamps (x ∷ xs) = ap (λ ys. x ∷ ys) (same_stamps xs)

-- a piece for each chunk that differs
pieces_counted : (source base : List ℕ) → length (difference (λ s. s) source base) ≡ unshared_count source base
pieces_counted source base =
    length-filter (λ (p : Piece ℕ). is_unshared (map (λ s. s) base) p.index p.chunk) (indexed source)
    ∙ counted (is_unshared (map (λ s. s) base)) 0 source
    ∙ ap (λ stamps. unshared_count source stamps) (same_stamps base)

-- ---- volumes as the shelf of tables has them
module _ (t : TablesView) (view : ShelfView) (is : IsShelfOf t view) where
  volumes_are : (n : ℕ) → volume_in view.shelf n ≡ volume_of t.durable n
  volumes_are n = ap (λ (vs : List (Volume Entry)). find (λ (v : Volume Entry). v.number == n) vs) is.volumes

  pub stands_there : (n : ℕ) → IsSome (volume_of t.durable n) → IsSome (volume_in view.shelf n)
  stands_there n stands = subst (λ (o : Option (Volume Entry)). IsSome o) (sym (volumes_are n)) stands

  stamps_found : (o : Option (Volume Entry)) → map (λ (e : Entry). e.stamp) (if_found o (λ (v : Volume Entry). v.chunks) []) ≡ if_found (option_map shaped o) (λ (v : Volume ℕ). v.chunks) []
  stamps_found None = refl
  stamps_found (Some v) = refl

  stamps_are : (n : ℕ) → stamps_in view.shelf n ≡ stamps_of (shape_of_tables t.durable) n
  stamps_are n =
      ap (λ (o : Option (Volume Entry)). map (λ (e : Entry). e.stamp) (if_found o (λ (v : Volume Entry). v.chunks) [])) (volumes_are n)
      ∙ stamps_found (volume_of t.durable n)
      ∙ ap (λ (o : Option (Volume ℕ)). if_found o (λ (v : Volume ℕ). v.chunks) []) (sym (shape_found t.durable n))

  pub pieces_are : (source base : ℕ) → unshared_count (stamps_in view.shelf source) (stamps_in view.shelf base) ≡ differing t.durable source base
  pieces_are source base =
      ap (λ stamps. unshared_count stamps (stamps_in view.shelf base)) (stamps_are source)
      ∙ ap (λ stamps. unshared_count (stamps_of (shape_of_tables t.durable) source) stamps) (stamps_are base)
      ∙ sym (pieces_counted (stamps_of (shape_of_tables t.durable) source) (stamps_of (shape_of_tables t.durable) base))
