-- The capabilities that the array knows, and misfits, as the flat array's definitions see them.
use Rattle.std.specs.Prelude.{List, map, Option, Some, None, Result, Ok, Err, if◌then◌else◌}
use Rattle.std.specs.List.{find}
use Rattle.std.specs.Str.{bytes_eq}
use Rattle.vv_units.specs.declared.volume.Offer.{Offer}
use Rattle.vv_units.specs.declared.volume.Need.{Need}
use Rattle.vv_units.specs.declared.volume.Why.{Why}
use Rattle.vv_units.specs.declared.volume.Why.TheVariants.{NotOffered, TooLittle}
use Rattle.vv_flat.specs.Lists.{if_found}
use Rattle.vv_flat.specs.Profiles.{CapabilityKind, admits}
use Rattle.vv_flat.specs.Profiles as flat
use Rattle.vv_profile.specs.declared.capability.Capability.{Capability}
use Rattle.vv_profile.specs.declared.misfit.Misfit.{Misfit}
use Rattle.vv_profile.specs.Kinds.{kind_of}

-- a capability without its test
abbrev pub known : {V : _} {F : _} {g : _} → Capability V F g → flat.Capability
known c = record { name = c.name; kind = kind_of c.kind }

-- the capabilities without their tests
abbrev pub all_known : {V : _} {F : _} {g : _} → List (Capability V F g) → List flat.Capability
all_known capabilities = map known capabilities

-- why a need is not met, if it isn't, by a capability of this kind
abbrev pub unmet_by : CapabilityKind → List Offer → Need → Option Why
unmet_by kind offers need =
    if_found (find (λ (o : Offer). bytes_eq o.name need.name) offers)
    (λ o. if admits kind o.value need.value then None else Some TooLittle)
    (Some NotOffered)

-- the misfit of an answer, if it is one
abbrev pub misfit_in : {A : Type 0} → Result A Misfit → Option flat.Misfit
misfit_in (Ok _) = None
misfit_in (Err m) = Some (record { at = m.at; why = m.why })
