use Rattle.std.proofs.Common.{arith, ◌∙◌}
use Rattle.vv_disk.proofs.Keeping.{filled_more}
use Rattle.vv_disk.proofs.mem_disk.fill_all.Goals as goal

pub fill-requires : goal.fill-requires
fill-requires c = omega (arith, c.requires c.loop-span.span-index)

pub loop-span-preserved : goal.loop-span-preserved
loop-span-preserved c =
    c.fill.ensures ∙ filled_more c.args.byte c.args.disk.now c.loop-span.disk c.args.spans.now c.loop-span.span-index _ c.loop-span-test.true c.loop-span.invariant
