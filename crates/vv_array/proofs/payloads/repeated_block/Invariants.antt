use Rattle.std.proofs.Common.{◌≡◌}
use Rattle.vv_flat.specs.Chunks.{same_blocks}
use Rattle.vv_array.proofs.payloads.repeated_block.Given as goal

abbrev pub invariant-repeats : goal.invariant-repeats
invariant-repeats l = l.bytes.items ≡ same_blocks l.block l.counter
