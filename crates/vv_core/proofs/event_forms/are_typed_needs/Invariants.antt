use Rattle.std.proofs.Common.{◌≡◌, true, take}
use Rattle.std.specs.List.{list_all}
use Rattle.vv_core.specs.TypedEvents.{is_typed_need}
use Rattle.vv_core.proofs.event_forms.are_typed_needs.Given as goal

abbrev pub invariant-loop-need : goal.invariant-loop-need
invariant-loop-need l = list_all is_typed_need (take l.need-index l.needs) ≡ true
