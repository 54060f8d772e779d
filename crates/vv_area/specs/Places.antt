-- The place of an entry as a number.
use Rattle.std.specs.Prelude.{ℕ, Option}
use Rattle.std.specs.Option.{option_map}
use Rattle.vv_units.specs.declared.numbers.Place.{Place}

abbrev pub place_number : Option Place → Option ℕ
place_number place = option_map (λ (p : Place). p.0) place
