-- What tables keep: their durable part is well-formed, the numbers that are kept are those that the definitions count
-- afresh, no place is taken that no entry names, and the shelf holds the lists of the running clones and copies and no
-- others.
use Rattle.std.specs.Prelude.{ℕ, ◌≡◌, ◌≤◌, ◌==◌, Bool, true, false, List, [], ◌∷◌, ◌++◌, map, Option, Some, option_map, count_by}
use Rattle.std.specs.List.{All, flat_map}
use Rattle.std.specs.List.Sorted.{IsPermutation}
use Rattle.vv_units.specs.declared.geometry.Geometry.{Geometry}
use Rattle.vv_flat.specs.State.{Task, Durable, indexed}
use Rattle.vv_flat.specs.Chunks.{Entry, shape_of_tables}
use Rattle.vv_flat.specs.Space.{charge, reserved}
use Rattle.vv_flat.specs.WellFormed.{is_well_formed}
use Rattle.vv_container.specs.Table.{ChargedContainer}
use Rattle.vv_bind.specs.Table.{BindState}
use Rattle.vv_vols.specs.Shelf.{HeldList, ShelfState, held_in, pieces_in}
use Rattle.vv_vols.specs.Rows.{ShelfView, rises}
use Rattle.vv_tables.specs.declared.rows.CloneRow.{CloneRow}
use Rattle.vv_tables.specs.declared.rows.CopyRow.{CopyRow}
use Rattle.vv_tables.specs.Seen.{held_chunks, seen_durable}

-- the numbers of the lists that a shelf holds
abbrev pub numbers_held : ShelfState → List ℕ
numbers_held s = map (λ (h : HeldList). h.number) s.held

-- the numbers of the lists of running clones and copies
abbrev pub clone_lists : CloneRow → List ℕ
clone_lists row = row.image.number ∷ row.target.number ∷ []

abbrev pub lists_of : List CloneRow → List CopyRow → List ℕ
lists_of clones copies = flat_map clone_lists clones ++ map (λ (row : CopyRow). row.pieces.number) copies

-- whether a held list is an image
abbrev pub image_in : ShelfState → ℕ → Option Bool
image_in s n = option_map (λ (h : HeldList). h.is_image) (held_in s n)

-- the entries of a held list have the indexes from 0 on
abbrev pub IsIndexed : ShelfState → ℕ → Type 0
IsIndexed s n = pieces_in s n ≡ indexed (held_chunks s n)

-- The shelf holds the image of a running clone, and its target, which isn't an image. Both have the indexes from 0 on.
pub record IsCloneHeld (s : ShelfState) (row : CloneRow) : Type 0 where
  pub image : image_in s row.image.number ≡ Some true
  pub image_indexed : IsIndexed s row.image.number
  pub target : image_in s row.target.number ≡ Some false
  pub target_indexed : IsIndexed s row.target.number

-- It holds the pieces of a running copy, which aren't an image.
abbrev pub IsCopyHeld : ShelfState → CopyRow → Type 0
IsCopyHeld s row = image_in s row.pieces.number ≡ Some false

-- a shelf holds a list for each of these numbers
abbrev pub HoldsEach : ShelfState → List ℕ → Type 0
HoldsEach s lists = (n : ℕ) → count_by (λ m. m == n) lists ≤ count_by (λ m. m == n) (numbers_held s)

-- what each container is charged for is kept
abbrev pub AreCharged : Durable Entry → List ChargedContainer → Type 0
AreCharged d rows = All (λ (r : ChargedContainer). r.charged ≡ charge (shape_of_tables d) r.container.number) rows

-- Each list that the shelf holds is the image or the target of one running clone or the pieces of one running copy.
pub record AreHeld (s : ShelfState) (clones : List CloneRow) (copies : List CopyRow) : Type 0 where
  pub rising : rises (numbers_held s) ≡ true
  pub each_once : IsPermutation (numbers_held s) (lists_of clones copies)
  pub images : All (IsCloneHeld s) clones
  pub pieces : All (IsCopyHeld s) copies

-- .. of tables as they are seen
pub record AreWell (s : ShelfState) (containers : List ChargedContainer) (d : Durable Entry) : Type 0 where
  pub well : is_well_formed d ≡ true
  pub charges : AreCharged d containers
  pub reserved : s.reserved ≡ reserved (shape_of_tables d)
  pub fresh : s.fresh ≡ []

-- All that tables keep. There is memory for 16 running clones and as many running copies.
pub record IsTables (geometry : Geometry) (lsn : ℕ) (view : ShelfView) (containers : List ChargedContainer) (bindings : BindState) (tasks : List Task) (clones : List CloneRow) (copies : List CopyRow) (clone_memory copy_memory : ℕ) : Type 0 where
  pub geometry_is : geometry ≡ view.shelf.geometry
  pub kept : AreWell view.shelf containers (seen_durable lsn view.shelf containers bindings tasks clones copies)
  pub held : AreHeld view.shelf clones copies
  pub clone_rows : 16 ≤ clone_memory
  pub copy_rows : 16 ≤ copy_memory
