use Rattle.std.proofs.Common.{refl, sym}
use Rattle.vv_flat.specs.Chunks.{shape_of_tables}
use Rattle.vv_flat.specs.Changes.{Write}
use Rattle.vv_event.specs.Events.{change_of}
use Rattle.vv_judge.specs.Seen.{seen_refusal}
use Rattle.vv_meaning.specs.Commands.{writes}
use Rattle.vv_profile.specs.Known.{all_known}
use Rattle.vv_core.specs.Plans.{bytes_filled, blocks_compared}
use Rattle.vv_core.proofs.CommandPlans.{told_sense, told_good}
use Rattle.vv_core.proofs.DeedPlans.{accepted_alone, fault_deed}
use Rattle.vv_core.proofs.UnmapPlans.{write_wanted}
use Rattle.vv_core.proofs.planning_commands.plan_write.Goals as goal

pub verdict_on-requires : goal.verdict_on-requires
unfolding change_of
verdict_on-requires g c = refl

pub returns-in-Refuse-clause-planned : goal.returns-in-Refuse-clause-planned
unfolding change_of
returns-in-Refuse-clause-planned g c payload =
    let write = c.args.write in
    told_sense (all_known c.args.capabilities.now) c.args.tables.now.durable
    (write_wanted write.volume.0 write.first write.blocks (bytes_filled write.fill write.compare write.blocks payload) (blocks_compared write.compare write.blocks payload))
    c.told_to_command.result (seen_refusal c.in-Refuse.refusal) refl c.in-Refuse.ensures.verdict c.told_to_command.ensures

pub returns-in-Nothing-clause-planned : goal.returns-in-Nothing-clause-planned
unfolding change_of
returns-in-Nothing-clause-planned g c payload =
    let write = c.args.write in
    told_good (all_known c.args.capabilities.now) c.args.tables.now.durable
    (write_wanted write.volume.0 write.first write.blocks (bytes_filled write.fill write.compare write.blocks payload) (blocks_compared write.compare write.blocks payload))
    c.good.result refl c.in-Nothing.ensures.verdict c.good.ensures

pub journal_write-requires-clause-accepted : goal.journal_write-requires-clause-accepted
unfolding change_of
journal_write-requires-clause-accepted g c =
    accepted_alone (all_known c.args.capabilities.now) (shape_of_tables c.args.tables.now.durable) (Write c.args.write.volume.0 c.args.write.first c.args.write.blocks) c.in-Accept.ensures.verdict

pub returns-clause-planned : goal.returns-clause-planned
unfolding change_of
returns-clause-planned g c payload = c.journal_write.ensures.planned (all_known c.args.capabilities.now) payload (sym c.in-Accept.ensures.verdict)

pub returns-clause-refused : goal.returns-clause-refused
returns-clause-refused g c payload =
    let write = c.args.write in
    fault_deed (all_known c.args.capabilities.now) c.args.tables.now.durable
    (writes write.volume.0 write.first write.blocks (bytes_filled write.fill write.compare write.blocks payload) (blocks_compared write.compare write.blocks payload))
    c.journal_write.result c.journal_write.ensures.refused
