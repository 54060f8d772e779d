use Rattle.std.proofs.Common.{List, [], set, ap, ◌∙◌}
use Rattle.std.proofs.lemmas.List.Edits.{map_over_more}
use Rattle.vv_calls.specs.declared.call.ScsiCall.{ScsiCall}
use Rattle.vv_waiting.proofs.waiting.clear_all.Goals as goal

pub loop-queue-preserved : goal.loop-queue-preserved
loop-queue-preserved c =
    ap (λ q. set c.loop-queue.queue-items c.loop-queue.queue-index q) c.clear.ensures
    ∙ map_over_more (λ (q : List ScsiCall). let none : List ScsiCall = [] in none) c.deref_mut-queue-items.result.now c.loop-queue.queue-items c.loop-queue.queue-index c.queue-item.result
    c.loop-queue-test.true c.loop-queue.invariant c.queue-item.is
