-- Fields of durable parts and of changes that have their forms: numbers inside their widths, and names, keys and notes
-- as lines, records and areas spell them. What a rule keeps of a field isn't said again here. The forms are this
-- project's own.
use Rattle.std.specs.Prelude.{ℕ, ◌^◌, ◌&&◌, Bool, true, not, List, [], ◌∷◌, map, length, Option, Some, None, nat_le, nat_lt}
use Rattle.std.specs.List.{list_all, list_any}
use Rattle.std.specs.Str.{bytes_eq}
use Rattle.vv_units.specs.Names.{is_name, is_key, is_note}
use Rattle.vv_units.specs.declared.volume.Offer.{Offer}
use Rattle.vv_units.specs.declared.volume.Need.{Need}
use Rattle.vv_flat.specs.Lists.{all_different}
use Rattle.vv_flat.specs.State.{Container, Volume, Context, Binding, Job, Clone, Copy, Task, RunningClone, Durable}
use Rattle.vv_flat.specs.Rules.{is_host, offer_limit, need_limit, endpoint_limit}
use Rattle.vv_flat.specs.Changes.{Change, MakeContainer, MakeVolume, SetMetadata, SetEndpoints, Bind, Unbind, UnbindAll}

-- a number of so many bits
abbrev pub is_number : ℕ → ℕ → Bool
is_number bits n = nat_lt n (2 ^ bits)

-- whether no text comes twice
abbrev pub texts_differ : List (List ℕ) → Bool
texts_differ [] = true
texts_differ (text ∷ texts) = not (list_any (bytes_eq text) texts) && texts_differ texts

abbrev pub are_offers : List Offer → Bool
are_offers offers =
    list_all (λ (o : Offer). is_name o.name && is_number 64 o.value) offers && texts_differ (map (λ (o : Offer). o.name) offers)

abbrev pub are_needs : List Need → Bool
are_needs needs =
    list_all (λ (n : Need). is_name n.name && is_number 64 n.value) needs && texts_differ (map (λ (n : Need). n.name) needs)

abbrev pub are_pairs : List (List ℕ × List ℕ) → Bool
are_pairs pairs =
    list_all (λ (p : List ℕ × List ℕ). is_key p.0 && is_note p.1) pairs && texts_differ (map (λ (p : List ℕ × List ℕ). p.0) pairs)

-- endpoints of a list are all different, and none is 0
abbrev pub are_endpoints : List ℕ → Bool
are_endpoints endpoints = list_all (λ e. is_number 16 e && nat_le 1 e) endpoints && all_different endpoints

abbrev pub is_job : Job → Bool
is_job (Clone volume) = is_number 64 volume
is_job (Copy source base target) = is_number 64 source && is_number 64 base && is_number 64 target

-- each field of the tables has its form
unfoldable pub have_forms : {X : Type 0} → Durable X → Bool
have_forms {X} d =
    list_all (λ (k : Container). is_number 32 k.quota && are_offers k.offers) d.containers
    && list_all (λ (v : Volume X). are_needs v.needs && are_pairs v.metadata) d.volumes
    && list_all (λ (c : Context). are_endpoints c.endpoints) d.contexts
    && list_all (λ (b : Binding). is_number 16 b.address.endpoint && is_number 16 b.address.secondary) d.bindings
    && list_all (λ (t : Task). is_job t.job && is_number 32 t.done && is_number 32 t.total) d.tasks
    && list_all (λ (c : RunningClone X). are_needs c.needs && are_pairs c.metadata) d.clones

abbrev pub is_optional_note : Option (List ℕ) → Bool
is_optional_note None = true
is_optional_note (Some note) = is_note note

-- and so has each field of a change, which is inside the limits that no refusal names
unfoldable pub change_has_forms : Change → Bool
change_has_forms (MakeContainer quota offers) = is_number 32 quota && nat_le (length offers) offer_limit && are_offers offers
change_has_forms (MakeVolume k vtype chunks needs) = nat_le (length needs) need_limit && are_needs needs
change_has_forms (SetMetadata n key text) = is_key key && is_optional_note text
change_has_forms (SetEndpoints host endpoints) = is_host host && nat_le (length endpoints) endpoint_limit && are_endpoints endpoints
change_has_forms (Bind host volume) = is_host host
change_has_forms (Unbind host endpoint secondary) = is_host host && is_number 16 endpoint && is_number 16 secondary
change_has_forms (UnbindAll host) = is_host host
change_has_forms _ = true
