use Rattle.std.proofs.Common.{length, ◌-◌, ◌≡◌, ◌≤◌, take, drop}
use Rattle.vv_bitmap.specs.Stamps.{bits_in}
use Rattle.vv_bitmap.proofs.bits.bits_against.Given as goal

abbrev pub invariant-loop-done : goal.invariant-loop-done
invariant-loop-done l = record {
  within : l.done ≤ length l.out;
  put : take l.done l.out ≡ take l.done (drop l.first (bits_in l.shelf.shelf l.volume.0 l.base));
}

abbrev pub decreases-loop-done : goal.decreases-loop-done
decreases-loop-done l = length l.initial.out - l.done
