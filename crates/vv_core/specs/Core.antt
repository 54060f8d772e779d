-- How the core of an array is seen: the whole array with entries for chunks. And what a call leaves of it.
use Rattle.std.specs.Prelude.{ℕ, List}
use Rattle.vv_flat.specs.State.{Volatile, Array}
use Rattle.vv_flat.specs.Chunks.{Entry, shape_of_tables}
use Rattle.vv_flat.specs.Changes.{attentions_after}
use Rattle.vv_flat.specs.Replay.{replayed}
use Rattle.vv_vols.specs.Rows.{OwnPages}
use Rattle.vv_tables.specs.Seen.{TablesView}
use Rattle.vv_calls.specs.declared.call.Call.{Call}
use Rattle.vv_record.specs.declared.record.Event.{Event}
use Rattle.vv_event.specs.Events.{change_of, places_of}
use Rattle.vv_meaning.specs.Calls.{asked}

-- What a core has of memory beside its array: which pages of volumes are their own, and for how many further lists there is
-- the memory of a row. Callers hand it on and never look at it.
pub record CoreMemory : Type 0 where
  pub pages : List OwnPages
  pub rooms : ℕ

-- a core: the array of its tables, queues and attentions, and its memory
pub record CoreState : Type 0 where
  pub array : Array Entry
  pub memory : CoreMemory

-- a core by its tables, and by its queues and attentions
abbrev pub seen_core : TablesView → Volatile → CoreState
seen_core t v = record {
  array = record { durable = t.durable; volatile = v };
  memory = record { pages = t.pages; rooms = t.rooms };
}

-- the tables of a core
abbrev pub tables_in : CoreState → TablesView
tables_in core = record { durable = core.array.durable; pages = core.memory.pages; rooms = core.memory.rooms }

-- the shape of an array of entries, with its queues and attentions
abbrev pub entry_shape : Array Entry → Array ℕ
entry_shape a = record { durable = shape_of_tables a.durable; volatile = a.volatile }

-- a call that is not journaled: queues and attentions go on, and all else stays
unfoldable pub passed : Array Entry → Call → Array Entry
passed a c = record a { volatile = (asked (entry_shape a) c).volatile }

-- a call with its event
unfoldable pub applied : Array Entry → Call → Event → Array Entry
unfolding passed
applied a c e = record {
  durable = replayed a.durable (change_of e) (places_of e);
  volatile = record (passed a c).volatile {
    attentions = attentions_after a.durable (change_of e) (passed a c).volatile.attentions;
  };
}
