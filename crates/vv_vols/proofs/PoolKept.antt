-- Calls on the pool that change no list: what a shelf keeps.
use Rattle.std.proofs.Common.{ℕ, ◌≡◌, List, length, ◌∙◌}
use Rattle.vv_units.specs.declared.geometry.Geometry.{Geometry}
use Rattle.vv_pool.specs.Pool.{PoolState}
use Rattle.vv_entries.specs.Entries.{EntriesState, with_pool}
use Rattle.vv_vols.specs.declared.row.VolumeRow.{VolumeRow}
use Rattle.vv_vols.specs.declared.row.HeldRow.{HeldRow}
use Rattle.vv_vols.specs.Rows.{IsShelf}

pub pool_kept : (geometry : Geometry) (entries : EntriesState) (pool : PoolState) (volumes : List VolumeRow) (held : List HeldRow) (total rooms volume_memory held_memory : ℕ)
    → length pool.places ≡ length entries.pool.places → IsShelf geometry entries volumes held total rooms volume_memory held_memory
    → IsShelf geometry (with_pool entries pool) volumes held total rooms volume_memory held_memory
pool_kept geometry entries pool volumes held total rooms volume_memory held_memory size kept = record {
  lists = record {
    lists = kept.lists.lists;
    places = size ∙ kept.lists.places;
    pages = kept.lists.pages;
    shares = kept.lists.shares;
    summed = kept.lists.summed;
    few = kept.lists.few;
    allocated = kept.lists.allocated;
  };
  rising = kept.rising;
  held_rising = kept.held_rising;
  indexed = kept.indexed;
  filled = kept.filled;
  volume_rows = kept.volume_rows;
  held_rows = kept.held_rows;
  held_counts = kept.held_counts;
  held_room = kept.held_room;
}
