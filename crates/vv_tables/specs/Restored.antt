-- What tables keep that are put together again: no rule yet, but that the shelf holds the lists of the running clones and copies
-- and no others, and that no place is fresh or reserved.
use Rattle.std.specs.Prelude.{ℕ, ◌≡◌, ◌≤◌, true, false, List, []}
use Rattle.vv_units.specs.declared.geometry.Geometry.{Geometry}
use Rattle.vv_pool.specs.FreshPlaces.{FreshPlaces}
use Rattle.vv_flat.specs.State.{Piece, RunningClone, RunningCopy, indexed}
use Rattle.vv_flat.specs.Chunks.{Entry}
use Rattle.vv_vols.specs.declared.head.Head.{Head}
use Rattle.vv_vols.specs.Shelf.{ShelfState}
use Rattle.vv_vols.specs.Calls.{with_held, new_held}
use Rattle.vv_vols.specs.Rows.{ShelfView}
use Rattle.vv_tables.specs.declared.rows.CloneRow.{CloneRow}
use Rattle.vv_tables.specs.declared.rows.CopyRow.{CopyRow}
use Rattle.vv_tables.specs.Kept.{AreHeld}

pub record IsRestored (geometry : Geometry) (view : ShelfView) (clones : List CloneRow) (copies : List CopyRow) (clone_memory copy_memory : ℕ) (taken : FreshPlaces) : Type 0 where
  pub geometry_is : geometry ≡ view.shelf.geometry
  pub fresh : view.shelf.fresh ≡ []
  pub reserved : view.shelf.reserved ≡ 0
  pub held : AreHeld view.shelf clones copies
  pub clone_rows : 16 ≤ clone_memory
  pub copy_rows : 16 ≤ copy_memory
  pub empty : taken.places ≡ []
  pub memory : 1 ≤ taken.capacity

-- a shelf that holds an image of these entries more, and a target
abbrev pub with_image : ShelfState → List Entry → ShelfState
with_image s image = with_held s (new_held s (indexed image) true 0)

abbrev pub with_clone : ShelfState → List Entry → List Entry → ShelfState
with_clone s image target = with_held (with_image s image) (new_held (with_image s image) (indexed target) false 0)

-- a running clone with these entries
abbrev pub given_clone : ℕ → Head → List Entry → List Entry → RunningClone Entry
given_clone n head image target = record {
  number = n;
  container = head.container.0;
  vtype = head.vtype;
  needs = head.needs;
  metadata = head.metadata;
  image = image;
  target = target;
}

-- a running copy with these pieces
abbrev pub given_copy : ℕ → List (Piece Entry) → RunningCopy Entry
given_copy n pieces = record { number = n; pieces = pieces }
