use Rattle.std.proofs.Common.{sym, ap, ◌∙◌, take_all}
use Rattle.std.specs.List.{list_all}
use Rattle.vv_core.specs.TypedEvents.{is_typed_need}
use Rattle.vv_core.proofs.event_forms.are_typed_needs.Goals as goal

pub returns : goal.returns
returns c = ap (list_all is_typed_need) (sym (take_all c.loop-need.need-index c.args.needs.now c.loop-need-test.false)) ∙ c.loop-need.invariant
