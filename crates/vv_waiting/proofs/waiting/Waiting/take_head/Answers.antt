use Rattle.std.proofs.Common.{ap, ◌∙◌}
use Rattle.vv_flat.specs.State.{Volatile}
use Rattle.vv_flat.specs.Volatile.{head_taken}
use Rattle.vv_waiting.proofs.Queues.{taken_seen}
use Rattle.vv_waiting.proofs.waiting.Waiting.take_head.Goals as goal

pub returns : goal.returns
returns c =
    let inside = c.self.inside in
    taken_seen inside.queues.items inside.attentions c.args.host.0 c.place_of.result c.index_mut-queue.result.now _ c.self.invariant
    c.requires.from_one c.requires.within c.place_of.ensures c.index_mut-queue.ensures.value c.pop.new.self c.pop.ensures.rest
    ∙ ap (λ (v : Volatile). head_taken v c.args.host.0) c.self.view_is
