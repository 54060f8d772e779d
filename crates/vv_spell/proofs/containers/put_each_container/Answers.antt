use Rattle.std.proofs.Common.{rules}
use Rattle.vv_area.specs.Spelling.{container_spelling}
use Rattle.vv_spell.specs.Window.{seen}
use Rattle.vv_spell.proofs.WindowLemmas.{put_none, put_placed}
use Rattle.vv_spell.proofs.containers.put_each_container.Goals as goal

pub loop-i-init : goal.loop-i-init
loop-i-init c = put_none (seen c.args.window.now c.args.into.now)

pub loop-i-preserved : goal.loop-i-preserved
loop-i-preserved c = put_placed (seen c.args.window.now c.args.into.now) (seen c.loop-i.window c.loop-i.into) (seen c.put_container_at.new.window c.put_container_at.new.into)
    container_spelling c.args.tables.now.durable.containers c.loop-i.i (search rules) c.loop-i.invariant c.put_container_at.ensures
