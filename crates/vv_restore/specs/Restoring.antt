-- Which part of tables stands while they are put together again, item by item, and what is told of raw tables in the end.
use Rattle.std.specs.Prelude.{◌≡◌, [], Result, Ok, Err, None}
use Rattle.vv_flat.specs.State.{Durable}
use Rattle.vv_flat.specs.Chunks.{Entry}
use Rattle.vv_flat.specs.Rules.{first_fault}
use Rattle.vv_area.specs.Ruled.{IsRuleOf}
use Rattle.vv_area.specs.declared.fault.AreaFault.{AreaFault}
use Rattle.vv_tables.specs.Seen.{TablesView}

-- A call returned the tables in memory whose durable part these are, which keep all rules, or the first rule that fails, with
-- what was found, unless there was no memory. A place is never told.
abbrev pub TellsTables : Result TablesView AreaFault → Durable Entry → Type 0
TellsTables (Ok tables) d = (first_fault d ≡ None) × (tables.durable ≡ d)
TellsTables (Err fault) d = IsRuleOf fault (first_fault d)

-- The parts of tables in the order in which they are added. First there is none.
abbrev pub nothing_of : Durable Entry → Durable Entry
nothing_of d = record {
  geometry = d.geometry;
  lsn = d.lsn;
  containers = [];
  volumes = [];
  contexts = [];
  bindings = [];
  tasks = [];
  clones = [];
  copies = [];
}

-- then the containers
abbrev pub containers_of : Durable Entry → Durable Entry
containers_of d = record (nothing_of d) { containers = d.containers }

-- with them the contexts
abbrev pub contexts_of : Durable Entry → Durable Entry
contexts_of d = record (containers_of d) { contexts = d.contexts }

-- with them the bindings
abbrev pub bindings_of : Durable Entry → Durable Entry
bindings_of d = record (contexts_of d) { bindings = d.bindings }

-- with them the tasks: all but the volumes, the running clones and the running copies
abbrev pub tasks_of : Durable Entry → Durable Entry
tasks_of d = record (bindings_of d) { tasks = d.tasks }
