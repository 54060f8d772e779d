use Rattle.vv_core.proofs.ReplayedRecords.{nothing_waits, tables_before, marked_replayed}
use Rattle.vv_core.proofs.array_core.Core.replay.Goals as goal

pub replay_event-requires-clause-waiting : goal.replay_event-requires-clause-waiting
replay_event-requires-clause-waiting c =
    nothing_waits c.args.self.now.array c.restart.new.self.array c.interrupt_if.new.self.array c.args.record.now.first_after_open c.restart.ensures c.interrupt_if.ensures

pub returns-clause-replayed : goal.returns-clause-replayed
returns-clause-replayed c =
    marked_replayed c.replay_event.result c.args.self.now.array.durable c.interrupt_if.new.self.array.durable c.replay_event.new.self.array.durable
    c.args.record.now.first_after_open c.args.record.now.event
    (tables_before c.args.self.now.array c.restart.new.self.array c.interrupt_if.new.self.array c.args.record.now.first_after_open c.restart.ensures c.interrupt_if.ensures)
    c.replay_event.ensures.replayed
