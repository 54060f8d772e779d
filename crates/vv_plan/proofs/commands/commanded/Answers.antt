use Rattle.std.proofs.Common.{[], ap, ◌∙◌}
use Rattle.vv_units.specs.declared.geometry.Geometry.{Geometry}
use Rattle.vv_lun.specs.Units.{state_of}
use Rattle.vv_meaning.specs.Commands.{command_of}
use Rattle.vv_plan.specs.CommandAsks.{is_low}
use Rattle.vv_plan.specs.SeenArrays.{seen_array}
use Rattle.vv_plan.proofs.FitActions.{result_fits}
use Rattle.vv_plan.proofs.LowActions.{decided_low}
use Rattle.vv_plan.proofs.commands.commanded.Goals as goal

pub ask_for-requires : goal.ask_for-requires
ask_for-requires c = ap is_low c.decide-action.ensures ∙ decided_low _ _ _ c.unit_at-unit.ensures.unit

pub returns-clause-fits : goal.returns-clause-fits
returns-clause-fits c =
    result_fits (seen_array c.args.tables.now [] c.args.attentions.now) (command_of c.args.command.now).address (state_of c.unit_at-unit.result) c.volume_in-volume.result.0
    c.geometry.result.chunk_blocks c.read_command-read.result c.items-payload.result.now c.decide-action.result (c.unit_at-unit.ensures.state []) c.volume_in-volume.ensures
    (ap (λ (g : Geometry). g.chunk_blocks) c.geometry.ensures) c.read_command-read.ensures.fields c.decide-action.ensures c.ask_for.result c.ask_for.ensures.deed
