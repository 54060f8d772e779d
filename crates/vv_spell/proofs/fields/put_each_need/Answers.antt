use Rattle.std.proofs.Common.{rules}
use Rattle.vv_record.specs.Spelling.{need_spelling}
use Rattle.vv_spell.specs.Window.{seen}
use Rattle.vv_spell.proofs.WindowLemmas.{put_none, put_next}
use Rattle.vv_spell.proofs.fields.put_each_need.Goals as goal

pub loop-need-init : goal.loop-need-init
loop-need-init c = put_none (seen c.args.window.now c.args.into.now)

pub loop-need-preserved : goal.loop-need-preserved
loop-need-preserved c = put_next (seen c.args.window.now c.args.into.now) (seen c.loop-need.window c.loop-need.into) (seen c.put_need.new.window c.put_need.new.into)
    need_spelling c.args.needs.now c.loop-need.need-index c.need-item.result (search rules) c.loop-need.invariant c.need-item.is c.put_need.ensures
