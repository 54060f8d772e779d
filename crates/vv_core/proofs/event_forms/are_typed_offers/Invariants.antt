use Rattle.std.proofs.Common.{◌≡◌, true, take}
use Rattle.std.specs.List.{list_all}
use Rattle.vv_core.specs.TypedEvents.{is_typed_offer}
use Rattle.vv_core.proofs.event_forms.are_typed_offers.Given as goal

abbrev pub invariant-loop-offer : goal.invariant-loop-offer
invariant-loop-offer l = list_all is_typed_offer (take l.offer-index l.offers) ≡ true
