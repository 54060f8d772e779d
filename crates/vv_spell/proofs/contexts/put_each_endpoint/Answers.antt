use Rattle.std.proofs.Common.{rules}
use Rattle.vv_record.specs.Spelling.{endpoint_spelling}
use Rattle.vv_spell.specs.Window.{seen}
use Rattle.vv_spell.proofs.WindowLemmas.{put_none, put_got}
use Rattle.vv_spell.proofs.contexts.put_each_endpoint.Goals as goal

pub loop-endpoint-init : goal.loop-endpoint-init
loop-endpoint-init c = put_none (seen c.args.window.now c.args.into.now)

pub loop-endpoint-preserved : goal.loop-endpoint-preserved
loop-endpoint-preserved c = put_got (seen c.args.window.now c.args.into.now) (seen c.loop-endpoint.window c.loop-endpoint.into) (seen c.put_endpoint.new.window c.put_endpoint.new.into)
    endpoint_spelling c.args.endpoints.now c.loop-endpoint.endpoint-index (record { 0 = 0 }) (search rules) c.loop-endpoint.invariant c.put_endpoint.ensures
