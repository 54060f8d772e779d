-- How the tables of an array are seen: the durable part, as the definitions of the whole array have it, with entries for
-- chunks. Volumes stand in the shelf; the lists of running clones and copies are those that the shelf holds for them.
use Rattle.std.specs.Prelude.{ℕ, ◌≡◌, List, [], map}
use Rattle.vv_flat.specs.State.{Container, Task, RunningClone, RunningCopy, Durable}
use Rattle.vv_flat.specs.Chunks.{Entry, shape_of_tables}
use Rattle.vv_flat.specs.Space.{used, reserved, entries}
use Rattle.vv_container.specs.Table.{ChargedContainer}
use Rattle.vv_bind.specs.Table.{BindState}
use Rattle.vv_vols.specs.Shelf.{ShelfState, pieces_in, shelf_entries, shelf_used}
use Rattle.vv_vols.specs.Calls.{piece_chunks}
use Rattle.vv_vols.specs.Rows.{OwnPages, ShelfView}
use Rattle.vv_tables.specs.declared.rows.CloneRow.{CloneRow}
use Rattle.vv_tables.specs.declared.rows.CopyRow.{CopyRow}

-- What callers see of tables: their durable part; and of the shelf which pages of volumes are their own, and for how many
-- further lists it has the memory of a row.
pub record TablesView : Type 0 where
  pub durable : Durable Entry
  pub pages : List OwnPages
  pub rooms : ℕ

-- the containers, without what they are charged for
abbrev pub plain_containers : List ChargedContainer → List Container
plain_containers rows = map (λ (r : ChargedContainer). r.container) rows

-- the entries of a held list
abbrev pub held_chunks : ShelfState → ℕ → List Entry
held_chunks s n = piece_chunks (pieces_in s n)

-- a running clone: its head is what its volume will have, and the shelf holds its image and its target
abbrev pub seen_clone : ShelfState → CloneRow → RunningClone Entry
seen_clone s row = record {
  number = row.id.0;
  container = row.head.container.0;
  vtype = row.head.vtype;
  needs = row.head.needs;
  metadata = row.head.metadata;
  image = held_chunks s row.image.number;
  target = held_chunks s row.target.number;
}

-- a running copy: the shelf holds its pieces
abbrev pub seen_copy : ShelfState → CopyRow → RunningCopy Entry
seen_copy s row = record { number = row.id.0; pieces = pieces_in s row.pieces.number }

abbrev pub seen_durable : ℕ → ShelfState → List ChargedContainer → BindState → List Task → List CloneRow → List CopyRow → Durable Entry
seen_durable lsn s containers bindings tasks clones copies = record {
  geometry = s.geometry;
  lsn = lsn;
  containers = plain_containers containers;
  volumes = s.volumes;
  contexts = bindings.contexts;
  bindings = bindings.bindings;
  tasks = tasks;
  clones = map (seen_clone s) clones;
  copies = map (seen_copy s) copies;
}

abbrev pub seen_tables : ℕ → ShelfView → List ChargedContainer → BindState → List Task → List CloneRow → List CopyRow → TablesView
seen_tables lsn view containers bindings tasks clones copies = record {
  durable = seen_durable lsn view.shelf containers bindings tasks clones copies;
  pages = view.pages;
  rooms = view.rooms;
}

-- What the shelf of tables is: it has their volumes, no place is fresh, and its counts are theirs.
pub record IsShelfOf (t : TablesView) (view : ShelfView) : Type 0 where
  pub geometry : view.shelf.geometry ≡ t.durable.geometry
  pub volumes : view.shelf.volumes ≡ t.durable.volumes
  pub fresh : view.shelf.fresh ≡ []
  pub reserved : view.shelf.reserved ≡ reserved (shape_of_tables t.durable)
  pub pages : view.pages ≡ t.pages
  pub rooms : view.rooms ≡ t.rooms
  pub entries : shelf_entries view.shelf ≡ entries t.durable
  pub used : shelf_used view.shelf ≡ used (shape_of_tables t.durable)
