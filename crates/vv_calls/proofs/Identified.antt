-- The numbers of identifiers are below their limit. It serves the readers of identifiers.
use Rattle.std.proofs.Common.{◌≡◌, ℕ, ◌+◌, ◌-◌, ◌<◌, List, Option, Some, None, IfSome, arith}
use Rattle.std.specs.Prelude.{nat_le, nat_lt, ◌&&◌, option_and_then}
use Rattle.std.specs.Int.{w128, from_be_bytes}
use Rattle.std.proofs.Math.Bool.{cond}
use Rattle.std.proofs.lemmas.Bool.Decides.{nat_tests}
use Rattle.vv_units.specs.Identifiers.{identifier_limit, first_uuid, uuid_in, number_in, identifier_of}

below : (value number : ℕ) → cond (nat_le first_uuid value && nat_lt value (first_uuid + identifier_limit)) (Some (value - first_uuid)) None ≡ Some number
    → number < identifier_limit
below value number is = grind (arith, nat_tests)

number_below : (uuid : Option (List ℕ)) (number : ℕ) → option_and_then number_in uuid ≡ Some number → number < identifier_limit
unfolding number_in
number_below None number is = cc
number_below (Some uuid) number is = below (from_be_bytes w128 uuid) number is

pub identified_below : (text : List ℕ) (number : ℕ) → identifier_of text ≡ Some number → number < identifier_limit
identified_below text number is = number_below (uuid_in text) number is

pub identified : (text : List ℕ) (read : Option ℕ) → read ≡ identifier_of text → IfSome read (λ number. number < identifier_limit)
identified text None is = tt
identified text (Some number) is = identified_below text number (cc)
