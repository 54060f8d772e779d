-- A whole log over tables: its records, one after the other, or the first that doesn't fit. This is this project's own.
use Rattle.std.specs.Prelude.{ℕ, ◌+◌, ◌&&◌, Bool, true, List, [], ◌∷◌, Result, Ok, Err, if◌then◌else◌}
use Rattle.std.specs.List.{list_all}
use Rattle.vv_flat.specs.Lists.{numbers_eq}
use Rattle.vv_flat.specs.State.{Durable}
use Rattle.vv_flat.specs.Chunks.{Entry}
use Rattle.vv_flat.specs.Restart.{interrupted_durable}
use Rattle.vv_flat.specs.Changes.{Change, Turn, changed_indexes}
use Rattle.vv_flat.specs.Replay.{fits, replayed}
use Rattle.vv_flat.specs.Fields.{change_has_forms}

-- A record of a log: its change, and the places of its new chunks in rising order of their indexes. A record of a turn
-- says these indexes too; for a change of another kind they don't count. A record with the mark, which older images
-- have, asks for an interruption ahead of it.
pub record LogRecord : Type 0 where
  pub marked : Bool
  pub change : Change
  pub indexes : List ℕ
  pub places : List ℕ

-- a record that doesn't fit: its number in the log from 0, and the log number that it would have
pub record Unfit : Type 0 where
  pub at : ℕ
  pub lsn : ℕ

-- the tables to which a record is applied
abbrev pub before_record : Durable Entry → LogRecord → Durable Entry
before_record tables r = if r.marked then interrupted_durable tables else tables

-- the indexes that a record of a turn says are those that the turn copies
abbrev pub has_turn_indexes : Durable Entry → Change → List ℕ → Bool
has_turn_indexes tables (Turn n) indexes = numbers_eq indexes (changed_indexes (λ (e : Entry). e.stamp) tables (Turn n))
has_turn_indexes tables _ indexes = true

-- the change with these places fits, and a turn's indexes are its own
unfoldable pub record_fits : Durable Entry → LogRecord → Bool
record_fits tables r =
    fits (before_record tables r) r.change r.places
    && has_turn_indexes (before_record tables r) r.change r.indexes

-- the tables after a record
unfoldable pub after_record : Durable Entry → LogRecord → Durable Entry
after_record tables r = replayed (before_record tables r) r.change r.places

-- the records of a log from this number on
unfoldable pub replay_from : ℕ → Durable Entry → List LogRecord → Result (Durable Entry) Unfit
unfolding record_fits after_record
replay_from at tables [] = Ok tables
replay_from at tables (r ∷ rest) =
    if record_fits tables r then replay_from (at + 1) (after_record tables r) rest
    else Err (record { at = at; lsn = tables.lsn + 1 })

-- The tables for which an area and the records behind it stand, or the first record that doesn't fit.
abbrev pub replay : Durable Entry → List LogRecord → Result (Durable Entry) Unfit
replay tables records = replay_from 0 tables records

-- the fields of each record have their forms
abbrev pub records_have_forms : List LogRecord → Bool
records_have_forms records = list_all (λ (r : LogRecord). change_has_forms r.change) records
