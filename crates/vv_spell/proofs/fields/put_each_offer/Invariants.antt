use Rattle.std.proofs.Common.{◌≡◌, take}
use Rattle.std.specs.List.{flat_map}
use Rattle.vv_record.specs.Spelling.{offer_spelling}
use Rattle.vv_spell.specs.Window.{seen, behind}
use Rattle.vv_spell.proofs.fields.put_each_offer.Given as goal

abbrev pub invariant-loop-offer : goal.invariant-loop-offer
invariant-loop-offer l = seen l.window l.into ≡ behind (seen l.fn.window l.fn.into) (flat_map offer_spelling (take l.offer-index l.offers))
