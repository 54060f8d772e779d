use Rattle.std.proofs.Common.{◌≡◌, List, [], ◌++◌, map, take, drop}
use Rattle.vv_calls.specs.declared.call.ScsiCall.{ScsiCall}
use Rattle.vv_waiting.proofs.waiting.clear_all.Given as goal

abbrev pub invariant-loop-queue : goal.invariant-loop-queue
invariant-loop-queue l = l.queue-items ≡ map (λ (q : List ScsiCall). let none : List ScsiCall = [] in none) (take l.queue-index l.initial.queue-items) ++ drop l.queue-index l.initial.queue-items
