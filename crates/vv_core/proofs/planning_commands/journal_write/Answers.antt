use Rattle.std.proofs.Common.{sym}
use Rattle.vv_core.proofs.UnmapPlans.{write_journaled}
use Rattle.vv_core.proofs.planning_commands.journal_write.Goals as goal

pub returns-clause-planned : goal.returns-clause-planned
returns-clause-planned c capabilities payload accepted =
    let write = c.args.write in
    write_journaled capabilities c.args.tables.now.durable c.good.result payload c.in-Ok.event c.good.ensures write.volume.0 write.first write.blocks write.fill write.compare
    c.requires.image c.in-Ok.ensures (sym accepted)
