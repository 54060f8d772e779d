use Rattle.vv_event.specs.Events.{log_record}
use Rattle.vv_array.proofs.OpenedSlots.{applied_sized}
use Rattle.vv_array.proofs.slots.replay_record.Goals as goal

pub returns-in-Applied-clause-sizes : goal.returns-in-Applied-clause-sizes
returns-in-Applied-clause-sizes c =
    applied_sized c.in_ok-replayed.replayed c.args.core.now.array.durable c.replay.new.self.array.durable (log_record c.args.read.now) c.in-Applied.is c.in_ok-replayed.ensures.replayed
