use Rattle.std.proofs.Common.{sym, ap, ◌∙◌, take_all}
use Rattle.std.specs.List.{list_all}
use Rattle.vv_core.specs.TypedEvents.{is_typed_offer}
use Rattle.vv_core.proofs.event_forms.are_typed_offers.Goals as goal

pub returns : goal.returns
returns c = ap (list_all is_typed_offer) (sym (take_all c.loop-offer.offer-index c.args.offers.now c.loop-offer-test.false)) ∙ c.loop-offer.invariant
