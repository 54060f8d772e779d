-- What the shape of tables has is what the tables have.
use Rattle.std.proofs.Common.{ℕ, ◌≡◌, ◌+◌, ◌==◌, Bool, true, false, cond, List, [], ◌∷◌, map, length, sum_by, Option, Some, None, option_map, is_some, refl, sym, ap, ◌∙◌, ◌<◌, ◌≤◌, ◌*◌, take, drop, slice_get, arith, rules}
use Rattle.std.specs.List.{find}
use Rattle.std.proofs.lemmas.List.Sums.{sum_by-cons}
use Rattle.std.proofs.lemmas.List.{length-map, drop_all}
use Rattle.std.specs.Prelude.{IsSome, slice_index, nat_lt}
use Rattle.std.proofs.lemmas.Bool.Decides.{nat_tests}
use Rattle.std.proofs.lemmas.Option.{slice_get-map, get_or_from_slice_get}
use Rattle.vv_flat.specs.Lists.{if_found}
use Rattle.vv_flat.specs.Changes.{stamps_of, size_of}
use Rattle.vv_entries.specs.declared.entry.Entry.{Entry as PlacedEntry}
use Rattle.vv_vols.specs.Shelf.{ShelfState, is_volume, volume_in, size_in, chunks_in}
use Rattle.vv_vols.specs.Rows.{seen_entry}
use Rattle.vv_vols.specs.Pages.{page_in}
use Rattle.vv_bitmap.specs.Stamps.{stamps_of as stamps_on}
use Rattle.vv_bitmap.proofs.BitLists.{page_stamps, pages_stamps}
use Rattle.vv_flat.specs.State.{Volume, RunningClone, RunningCopy, Durable, volume_of, map_volume, map_clone, map_copy, map_piece}
use Rattle.vv_flat.specs.Chunks.{Entry, shape_of_tables}
use Rattle.vv_flat.specs.Space.{entries}

abbrev stamp : Entry → ℕ
stamp e = e.stamp

-- a sum over mapped items
sum_mapped : {A B : Type 0} (f : B → ℕ) (h : A → ℕ) (g : A → B) → ((x : A) → f (g x) ≡ h x) → (xs : List A) → sum_by f (map g xs) ≡ sum_by h xs
sum_mapped f h g same [] = refl
sum_mapped f h g same (x ∷ xs) =
    sum_by-cons f (g x) (map g xs)
    ∙ ap (λ n. n + sum_by f (map g xs)) (same x)
    ∙ ap (λ n. h x + n) (sum_mapped f h g same xs)
    ∙ sym (sum_by-cons h x xs)

pub shape_entries : (d : Durable Entry) → entries (shape_of_tables d) ≡ entries d
unfolding entries
shape_entries d =
    let volumes : sum_by (λ (v : Volume ℕ). length v.chunks) (map (map_volume stamp) d.volumes) ≡ sum_by (λ (v : Volume Entry). length v.chunks) d.volumes =
    sum_mapped (λ (v : Volume ℕ). length v.chunks) (λ (v : Volume Entry). length v.chunks) (map_volume stamp) (λ v. length-map v.chunks stamp) d.volumes in
    let clones : sum_by (λ (c : RunningClone ℕ). length c.image + length c.target) (map (map_clone stamp) d.clones) ≡ sum_by (λ (c : RunningClone Entry). length c.image + length c.target) d.clones =
    sum_mapped (λ (c : RunningClone ℕ). length c.image + length c.target) (λ (c : RunningClone Entry). length c.image + length c.target) (map_clone stamp)
    (λ c. ap (λ n. n + length (map stamp c.target)) (length-map c.image stamp) ∙ ap (λ n. length c.image + n) (length-map c.target stamp)) d.clones in
    let copies : sum_by (λ (c : RunningCopy ℕ). length c.pieces) (map (map_copy stamp) d.copies) ≡ sum_by (λ (c : RunningCopy Entry). length c.pieces) d.copies =
    sum_mapped (λ (c : RunningCopy ℕ). length c.pieces) (λ (c : RunningCopy Entry). length c.pieces) (map_copy stamp) (λ c. length-map c.pieces (map_piece stamp)) d.copies in
    omega (arith, volumes, clones, copies)

abbrev shaped : Volume Entry → Volume ℕ
shaped v = map_volume stamp v

find_shaped : (n : ℕ) (vs : List (Volume Entry))
    → find (λ (v : Volume ℕ). v.number == n) (map shaped vs) ≡ option_map shaped (find (λ (v : Volume Entry). v.number == n) vs)
find_shaped n [] = refl
find_shaped n (v ∷ vs) = go (v.number == n) (find_shaped n vs)
  where
    go : (b : Bool) → find (λ (v : Volume ℕ). v.number == n) (map shaped vs) ≡ option_map shaped (find (λ (v : Volume Entry). v.number == n) vs)
        → cond b (Some (shaped v)) (find (λ (v : Volume ℕ). v.number == n) (map shaped vs))
        ≡ option_map shaped (cond b (Some v) (find (λ (v : Volume Entry). v.number == n) vs))
    go true e = refl
    go false e = e

pub shape_volume : (d : Durable Entry) (n : ℕ) → volume_of (shape_of_tables d) n ≡ option_map shaped (volume_of d n)
shape_volume d n = find_shaped n d.volumes

-- what is lent of a volume is lent exactly where the volume stands
lent_stands : {A B : Type 0} (f : A → B) (g : Volume Entry → B) (answer : Option A) (o : Option (Volume Entry))
    → option_map f answer ≡ option_map g o → is_some answer ≡ is_some (option_map shaped o)
lent_stands f g None None e = refl
lent_stands f g None (Some v) e = absurd (cc)
lent_stands f g (Some head) None e = absurd (cc)
lent_stands f g (Some head) (Some v) e = refl

pub stands_where_lent : {A B : Type 0} (f : A → B) (g : Volume Entry → B) (d : Durable Entry) (n : ℕ) (answer : Option A)
    → option_map f answer ≡ option_map g (volume_of d n) → is_some answer ≡ is_some (volume_of (shape_of_tables d) n)
stands_where_lent f g d n answer e = lent_stands f g answer (volume_of d n) e ∙ sym (ap is_some (shape_volume d n))

-- ---- the stamps of chunks
shaped_chunks : (o : Option (Volume Entry)) → if_found (option_map shaped o) (λ v. v.chunks) [] ≡ map stamp (if_found o (λ v. v.chunks) [])
shaped_chunks None = refl
shaped_chunks (Some v) = refl

-- the stamps of a volume are those of the chunks that the shelf has
pub shelf_stamps : (s : ShelfState) (d : Durable Entry) (n : ℕ) → s.volumes ≡ d.volumes
    → map stamp (chunks_in s n) ≡ stamps_of (shape_of_tables d) n
shelf_stamps s d n e =
    ap (λ (vs : List (Volume Entry)). map stamp (if_found (find (is_volume n) vs) (λ v. v.chunks) [])) e
    ∙ sym (shaped_chunks (volume_of d n))
    ∙ sym (ap (λ (o : Option (Volume ℕ)). if_found o (λ v. v.chunks) []) (shape_volume d n))

found_size : (o : Option (Volume Entry)) → if_found o (λ (v : Volume Entry). length v.chunks) 0 ≡ length (if_found o (λ (v : Volume Entry). v.chunks) [])
found_size None = refl
found_size (Some v) = refl

pub shelf_size : (s : ShelfState) (d : Durable Entry) (n : ℕ) → s.volumes ≡ d.volumes → size_in s n ≡ size_of (shape_of_tables d) n
shelf_size s d n e =
    found_size (find (is_volume n) s.volumes)
    ∙ sym (length-map (chunks_in s n) stamp)
    ∙ ap length (shelf_stamps s d n e)

some_found : (o : Option (Volume Entry)) (i : ℕ) → i < if_found o (λ (v : Volume Entry). length v.chunks) 0 → IsSome o
some_found None i h = absurd (omega arith)
some_found (Some v) i h = search rules

-- a volume with a chunk stands
pub stands_with_chunks : (s : ShelfState) (n i : ℕ) → i < size_in s n → IsSome (volume_in s n)
stands_with_chunks s n i h = some_found (volume_in s n) i h

pub shelf_stamp : (s : ShelfState) (d : Durable Entry) (n i : ℕ) (x : PlacedEntry) → s.volumes ≡ d.volumes
    → slice_get (chunks_in s n) i ≡ Some (seen_entry x) → x.stamp ≡ slice_index (stamps_of (shape_of_tables d) n) i
shelf_stamp s d n i x e at =
    let mapped : slice_get (map stamp (chunks_in s n)) i ≡ Some x.stamp =
    slice_get-map stamp (chunks_in s n) i ∙ ap (option_map stamp) at in
    sym (get_or_from_slice_get (map stamp (chunks_in s n)) i x.stamp 0 mapped)
    ∙ ap (λ (l : List ℕ). slice_index l i) (shelf_stamps s d n e)

-- ---- pages
pub page_within : (s : ShelfState) (d : Durable Entry) (n k : ℕ) → s.volumes ≡ d.volumes → nat_lt (64 * k) (size_of (shape_of_tables d) n) ≡ true → 64 * k < size_in s n
page_within s d n k e h =
    let same : size_in s n ≡ size_of (shape_of_tables d) n = shelf_size s d n e in
    let inside : 64 * k < size_of (shape_of_tables d) n = grind (arith, nat_tests) in
    omega arith

-- the stamps of a page that was read
pub read_page : (s : ShelfState) (d : Durable Entry) (n k : ℕ) (es : List PlacedEntry) → s.volumes ≡ d.volumes → map seen_entry es ≡ page_in s n k
    → stamps_on es ≡ take 64 (drop (64 * k) (stamps_of (shape_of_tables d) n))
read_page s d n k es e is = page_stamps s n k es is ∙ ap (λ l. take 64 (drop (64 * k) l)) (shelf_stamps s d n e)

-- a volume has no chunks behind its last page
pub no_page : (stamps : List ℕ) (k : ℕ) → nat_lt (64 * k) (length stamps) ≡ false → [] ≡ take 64 (drop (64 * k) stamps)
no_page stamps k h =
    let past : length stamps ≤ 64 * k = grind (arith, nat_tests) in
    sym (ap (take 64) (drop_all (64 * k) stamps past))

-- pages that the shelf shares are equal
pub shared_page : (s : ShelfState) (d : Durable Entry) (n m k : ℕ) → s.volumes ≡ d.volumes → page_in s n k ≡ page_in s m k
    → take 64 (drop (64 * k) (stamps_of (shape_of_tables d) n)) ≡ take 64 (drop (64 * k) (stamps_of (shape_of_tables d) m))
shared_page s d n m k e is =
    sym (ap (λ l. take 64 (drop (64 * k) l)) (shelf_stamps s d n e)) ∙ pages_stamps s n m k is ∙ ap (λ l. take 64 (drop (64 * k) l)) (shelf_stamps s d m e)
