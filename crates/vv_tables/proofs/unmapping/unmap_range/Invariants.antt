use Rattle.std.proofs.Common.{◌≡◌, ◌+◌, ◌-◌, ◌*◌, ◌≤◌, [], ◌∷◌}
use Rattle.std.specs.Prelude.{IsSome}
use Rattle.vv_vols.specs.Shelf.{volume_in, size_in, chunks_in, allocated_of}
use Rattle.vv_vols.specs.Rows.{KeepsOwn}
use Rattle.vv_vols.specs.Rooms.{AreGood, for_change}
use Rattle.vv_tables.specs.Unmapping.{with_unmapped}
use Rattle.vv_tables.proofs.unmapping.unmap_range.Given as goal

abbrev pub invariant-loop-index : goal.invariant-loop-index
invariant-loop-index g l = record {
  standing : IsSome (volume_in l.shelf.shelf l.fn.volume.0);
  size : size_in l.shelf.shelf l.fn.volume.0 ≡ size_in l.fn.shelf.shelf l.fn.volume.0;
  leads : with_unmapped l.shelf.shelf l.fn.volume.0 ((l.index, l.fn.range.first_chunk + l.fn.range.chunks - l.index) ∷ []) ≡ with_unmapped l.fn.shelf.shelf l.fn.volume.0 ((l.fn.range.first_chunk, l.fn.range.chunks) ∷ []);
  room : AreGood l.shelf (for_change l.fn.volume.0 0 (size_in l.fn.shelf.shelf l.fn.volume.0) l.room ∷ []);
  rooms : l.shelf.rooms ≡ l.fn.shelf.rooms;
  kept : KeepsOwn l.fn.shelf l.shelf;
  steps : l.steps + 64 * allocated_of (chunks_in l.shelf.shelf l.fn.volume.0) ≤ l.fn.steps + 64 * allocated_of (chunks_in l.fn.shelf.shelf l.fn.volume.0);
}
