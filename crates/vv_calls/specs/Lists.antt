-- Fields that are lists. Each item is read behind those before it, which it must differ from, and of which there are
-- only so many.
use Rattle.std.specs.Prelude.{ℕ, ◌==◌, ◌&&◌, Bool, not, List, [], ◌∷◌, ◌++◌, length, nat_lt, if◌then◌else◌, Option, Some, None}
use Rattle.std.specs.List.{list_any}
use Rattle.std.specs.Str.{bytes_eq}
use Rattle.serde_json.specs.Data.{Data, Items, no_items, item}
use Rattle.serde_json.specs.Find.{as_array, as_str}
use Rattle.vv_units.specs.Names.{is_name}
use Rattle.vv_units.specs.declared.volume.Offer.{Offer}
use Rattle.vv_units.specs.declared.volume.Need.{Need}
use Rattle.vv_units.specs.declared.numbers.EndpointId.{EndpointId}
use Rattle.vv_calls.specs.Steps.{◌>>=◌}
use Rattle.vv_calls.specs.Forms.{number_of, endpoint_of}

-- the items behind those before them
unfoldable pub each_behind : {A : Type 0} → (List A → Data → Option A) → List A → Items → Option (List A)
each_behind form before no_items = Some before
each_behind form before (item value values) = form before value >>= λ next. each_behind form (before ++ next ∷ []) values

abbrev pub each : {A : Type 0} → (List A → Data → Option A) → Data → Option (List A)
each form value = as_array value >>= each_behind form []

-- two items: the name of a capability, and a number

abbrev pub text_and_number_in : Items → Option (List ℕ × ℕ)
text_and_number_in (item text (item value no_items)) = do
  characters ← as_str text
  number ← number_of value
  Some (characters, number)
text_and_number_in items = None

abbrev pub text_and_number : Data → Option (List ℕ × ℕ)
text_and_number value = as_array value >>= text_and_number_in

abbrev pub if_named : List ℕ × ℕ → Option (List ℕ × ℕ)
if_named pair = if is_name pair.0 then Some pair else None

abbrev pub named_number : Data → Option (List ℕ × ℕ)
named_number value = text_and_number value >>= if_named

-- what a container offers: at most 16 capabilities

abbrev pub offers_have : List Offer → List ℕ → Bool
offers_have offers name = list_any (λ (offer : Offer). bytes_eq offer.name name) offers

abbrev pub next_offer : List Offer → List ℕ × ℕ → Option Offer
next_offer before pair =
    if nat_lt (length before) 16 && not (offers_have before pair.0) then Some (record { name = pair.0; value = pair.1 }) else None

abbrev pub offer_behind : List Offer → Data → Option Offer
offer_behind before value = named_number value >>= next_offer before

abbrev pub offers_of : Data → Option (List Offer)
offers_of value = each offer_behind value

-- what a profile asks for: at most 8 capabilities

abbrev pub needs_have : List Need → List ℕ → Bool
needs_have needs name = list_any (λ (need : Need). bytes_eq need.name name) needs

abbrev pub next_need : List Need → List ℕ × ℕ → Option Need
next_need before pair =
    if nat_lt (length before) 8 && not (needs_have before pair.0) then Some (record { name = pair.0; value = pair.1 }) else None

abbrev pub need_behind : List Need → Data → Option Need
need_behind before value = named_number value >>= next_need before

abbrev pub needs_of : Data → Option (List Need)
needs_of value = each need_behind value

-- the endpoints of a host: at most 8

abbrev pub endpoints_have : List EndpointId → EndpointId → Bool
endpoints_have endpoints endpoint = list_any (λ (other : EndpointId). other.0 == endpoint.0) endpoints

abbrev pub next_endpoint : List EndpointId → EndpointId → Option EndpointId
next_endpoint before endpoint =
    if nat_lt (length before) 8 && not (endpoints_have before endpoint) then Some endpoint else None

abbrev pub endpoint_behind : List EndpointId → Data → Option EndpointId
endpoint_behind before value = endpoint_of value >>= next_endpoint before

abbrev pub endpoints_of : Data → Option (List EndpointId)
endpoints_of value = each endpoint_behind value
