-- Tables by their fields.
use Rattle.std.specs.Prelude.{vec_capacity}
use Rattle.vv_flat.specs.State.{Durable}
use Rattle.vv_flat.specs.Chunks.{Entry}
use Rattle.vv_tables.specs.declared.tables.Tables.TheInside.{Inside}
use Rattle.vv_tables.specs.Seen.{TablesView, seen_durable, seen_tables}
use Rattle.vv_tables.specs.Kept.{AreWell, AreHeld, IsTables}

-- the durable part that is seen
abbrev pub durable_of : Inside → Durable Entry
durable_of i = seen_durable i.lsn i.shelf.shelf i.containers i.bindings i.tasks i.clones.items i.copies.items

abbrev pub IsWell : Inside → Type 0
IsWell i = AreWell i.shelf.shelf i.containers (durable_of i)

abbrev pub IsHeld : Inside → Type 0
IsHeld i = AreHeld i.shelf.shelf i.clones.items i.copies.items

-- all that tables keep
abbrev pub KeepsAll : Inside → Type 0
KeepsAll i = IsTables i.geometry i.lsn i.shelf i.containers i.bindings i.tasks i.clones.items i.copies.items (vec_capacity i.clones) (vec_capacity i.copies)

-- what is seen of them
abbrev pub seen_of : Inside → TablesView
seen_of i = seen_tables i.lsn i.shelf i.containers i.bindings i.tasks i.clones.items i.copies.items
