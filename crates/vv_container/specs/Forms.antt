-- Which quota and which offers a container may have: those that lines, records and areas can spell.
use Rattle.std.specs.Prelude.{ℕ, ◌&&◌, Bool, List, length, nat_le}
use Rattle.vv_units.specs.declared.volume.Offer.{Offer}
use Rattle.vv_flat.specs.Rules.{offer_limit}
use Rattle.vv_flat.specs.Fields.{is_number, are_offers}

abbrev pub have_forms : ℕ → List Offer → Bool
have_forms quota offers = is_number 32 quota && nat_le (length offers) offer_limit && are_offers offers
