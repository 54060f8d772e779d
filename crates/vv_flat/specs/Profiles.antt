-- Capability profiles, after those of VASA 2.0: a container offers capabilities with values, and a volume's profile
-- needs some. The kinds of capability and their tests are this project's own.
use Rattle.std.specs.Prelude.{ℕ, ◌+◌, ◌==◌, ◌&&◌, Bool, List, [], ◌∷◌, Option, Some, None, nat_le, nat_lt, if◌then◌else◌}
use Rattle.std.specs.List.{find}
use Rattle.std.specs.Str.{bytes_eq}
use Rattle.std.specs.Int.{bit_at}
use Rattle.vv_units.specs.declared.volume.Offer.{Offer}
use Rattle.vv_units.specs.declared.volume.Need.{Need}
use Rattle.vv_units.specs.declared.volume.Why.{Why}
use Rattle.vv_units.specs.declared.volume.Why.TheVariants.{Unknown, NotOffered, TooLittle}
use Rattle.vv_flat.specs.Lists.{if_found}

-- how a capability's two values are compared
pub data CapabilityKind : Type 0 where
  AtLeast : CapabilityKind
  AtMost : CapabilityKind
  Equal : CapabilityKind
  OneOf : CapabilityKind

-- a capability that the array knows
pub record Capability : Type 0 where
  pub name : List ℕ
  pub kind : CapabilityKind

-- the first need that is not met, by its place from 0, and why
pub record Misfit : Type 0 where
  pub at : ℕ
  pub why : Why

-- whether what is offered is enough for what is asked; for the last kind the bits of the offer are the numbers that
-- may be asked for
abbrev pub admits : CapabilityKind → ℕ → ℕ → Bool
admits AtLeast offered asked = nat_le asked offered
admits AtMost offered asked = nat_le offered asked
admits Equal offered asked = offered == asked
admits OneOf offered asked = nat_lt asked 64 && (bit_at offered asked == 1)

-- why a need is not met, if it isn't; of two capabilities or two offers of one name the first counts
abbrev pub unmet : List Capability → List Offer → Need → Option Why
unmet capabilities offers need =
    if_found (find (λ (c : Capability). bytes_eq c.name need.name) capabilities)
    (λ c. if_found (find (λ (o : Offer). bytes_eq o.name need.name) offers)
    (λ o. if admits c.kind o.value need.value then None else Some TooLittle)
    (Some NotOffered))
    (Some Unknown)

abbrev pub first_misfit_from : ℕ → List Capability → List Offer → List Need → Option Misfit
first_misfit_from at capabilities offers [] = None
first_misfit_from at capabilities offers (need ∷ needs) =
    if_found (unmet capabilities offers need) (λ why. Some (record { at = at; why = why }))
    (first_misfit_from (at + 1) capabilities offers needs)

-- A profile complies where there is no misfit.
unfoldable pub first_misfit : List Capability → List Offer → List Need → Option Misfit
first_misfit capabilities offers needs = first_misfit_from 0 capabilities offers needs
