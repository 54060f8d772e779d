use Rattle.std.proofs.Common.{refl, ap, ◌∙◌}
use Rattle.vv_flat.specs.State.{Volatile}
use Rattle.vv_flat.specs.Volatile.{submitted}
use Rattle.vv_meaning.specs.Commands.{command_of}
use Rattle.vv_waiting.proofs.Queues.{submitted_seen}
use Rattle.vv_waiting.proofs.waiting.Waiting.submit.Goals as goal

pub returns : goal.returns
returns c =
    let inside = c.self.inside in
    submitted_seen inside.queues.items inside.attentions c.args.command.host.0 c.place_of.result c.index_mut-queue.result.now _ c.self.invariant
    c.requires.host.from_one c.requires.host.within c.place_of.ensures c.index_mut-queue.ensures.value c.submit_to.new.queue c.args.command refl c.submit_to.ensures
    ∙ ap (λ (v : Volatile). submitted v (command_of c.args.command)) c.self.view_is
