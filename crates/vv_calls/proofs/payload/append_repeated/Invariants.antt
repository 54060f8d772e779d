use Rattle.std.proofs.Common.{◌≡◌, ◌++◌, replicate}
use Rattle.std.specs.List.{concat}
use Rattle.vv_calls.proofs.payload.append_repeated.Given as goal

abbrev pub invariant-repeats : goal.invariant-repeats
invariant-repeats l = l.payload.items ≡ l.initial.payload.items ++ concat (replicate l.counter l.bytes)
