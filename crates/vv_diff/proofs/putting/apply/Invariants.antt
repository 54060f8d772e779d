use Rattle.std.proofs.Common.{◌≡◌, ◌+◌, ◌*◌, ◌≤◌}
use Rattle.vv_vols.specs.Shelf.{size_in}
use Rattle.vv_vols.specs.Rows.{KeepsOwn, IsChangeRoom}
use Rattle.vv_diff.proofs.PutPieces.{put_state}
use Rattle.vv_diff.proofs.putting.apply.Given as goal

abbrev pub invariant-loop-at : goal.invariant-loop-at
invariant-loop-at g l = record {
  shelf : l.shelf.shelf ≡ put_state l.fn.shelf.shelf l.fn.dst.0 l.fn.pieces.number l.at;
  room : IsChangeRoom l.shelf l.fn.dst.0 0 (size_in l.fn.shelf.shelf l.fn.dst.0) l.room;
  rooms : l.shelf.rooms ≡ l.fn.shelf.rooms;
  kept : KeepsOwn l.fn.shelf l.shelf;
  rise : l.fn.steps ≤ l.steps;
  steps : l.steps ≤ l.fn.steps + 65 * l.at;
}
