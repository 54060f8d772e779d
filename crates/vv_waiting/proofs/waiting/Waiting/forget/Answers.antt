use Rattle.std.proofs.Common.{List, [], map, replicate, ap, ◌∙◌}
use Rattle.vv_flat.specs.State.{Address, Volatile}
use Rattle.vv_calls.specs.declared.call.ScsiCall.{ScsiCall}
use Rattle.vv_waiting.specs.Seen.{seen_queue, seen_waiting}
use Rattle.vv_waiting.proofs.Queues.{cleared_seen}
use Rattle.vv_waiting.proofs.waiting.Waiting.forget.Goals as goal

pub returns : goal.returns
returns c =
    ap (λ (qs : List (List ScsiCall)). seen_waiting qs c.clear_all-2.new.self) c.clear_all.ensures
    ∙ ap (λ (as' : List Address). seen_waiting (map (λ (q : List ScsiCall). let none : List ScsiCall = [] in none) c.self.inside.queues.items) as') c.clear_all-2.ensures
    ∙ ap (λ qs. let v : Volatile = record { queues = qs; attentions = [] } in v) (cleared_seen c.self.inside.queues.items 64 c.self.invariant)
