use Rattle.std.proofs.Common.{ℕ, ◌≡◌, ◌+◌, ◌*◌, ◌≤◌, None}
use Rattle.std.specs.Prelude.{IsSome}
use Rattle.vv_vols.specs.Shelf.{volume_in, size_in, shelf_entries}
use Rattle.vv_snap.proofs.tests.copy_often.Given as goal

abbrev pub invariant-loop-number : goal.invariant-loop-number
invariant-loop-number g l = record {
  standing : IsSome (volume_in l.shelf.shelf 1);
  size : size_in l.shelf.shelf 1 ≡ 8;
  unused : (m : ℕ) → l.number ≤ m → volume_in l.shelf.shelf m ≡ None;
  entries : shelf_entries l.shelf.shelf + 8 ≡ 8 * l.number;
  sized : 1024 ≤ l.shelf.shelf.geometry.map_chunks;
  from : 2 ≤ l.number;
  to : l.number ≤ 12;
}
