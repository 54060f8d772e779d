use Rattle.std.proofs.Common.{◌≡◌, ◌+◌, ◌<◌, ◌≤◌}
use Rattle.vv_snap.proofs.Filling.{Fills}
use Rattle.vv_snap.proofs.tests.fill.Given as goal

abbrev pub invariant-loop-index : goal.invariant-loop-index
invariant-loop-index g l = record {
  fills : Fills l.fn.shelf.shelf l.shelf.shelf l.index;
  rooms : l.shelf.rooms ≡ l.fn.shelf.rooms;
  out : l.out ≡ l.fn.out;
  room : l.chunks < l.room.pages + l.index;
  within : l.index ≤ l.chunks;
}
