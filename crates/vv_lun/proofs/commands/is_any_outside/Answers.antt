use Rattle.std.proofs.Common.{◌<◌, length, arith}
use Rattle.vv_lun.specs.Commands.{is_outside}
use Rattle.vv_lun.proofs.Ranges.{passes_here, fails_here}
use Rattle.vv_lun.proofs.commands.is_any_outside.Goals as goal

pub returns-then-is_outside_at : goal.returns-then-is_outside_at
returns-then-is_outside_at c =
    let within : c.loop-i.i < length c.args.unmaps.now = omega arith in
    passes_here (is_outside c.args.blocks) c.args.unmaps.now c.loop-i.i (0, 0) within c.is_outside_at.result c.is_outside_at.ensures c.if-is_outside_at.true

pub loop-i-preserved : goal.loop-i-preserved
loop-i-preserved c =
    let within : c.loop-i.i < length c.args.unmaps.now = omega arith in
    fails_here (is_outside c.args.blocks) c.args.unmaps.now c.loop-i.i (0, 0) within c.is_outside_at.result c.is_outside_at.ensures c.if-is_outside_at.false c.loop-i.invariant
