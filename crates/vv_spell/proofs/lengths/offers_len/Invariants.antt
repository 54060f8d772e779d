use Rattle.std.proofs.Common.{◌≡◌, take}
use Rattle.vv_area.specs.Lengths.{offers_length}
use Rattle.vv_spell.proofs.lengths.offers_len.Given as goal

abbrev pub invariant-loop-offer : goal.invariant-loop-offer
invariant-loop-offer l = l.bytes ≡ offers_length (take l.offer-index l.offers)
