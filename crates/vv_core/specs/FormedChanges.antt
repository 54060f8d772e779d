-- What the form of a call says of the change that it asks for: lists are short and name nothing twice, and hosts have numbers
-- of hosts. The ranges of an UNMAP are few, and none is empty. A change that takes places isn't meant here.
use Rattle.std.specs.Prelude.{ℕ, ◌≤◌, ◌<◌, ◌^◌, ◌==◌, Bool, true, not, ⊤, IsTrue, List, length, nat_le}
use Rattle.std.specs.List.{list_any}
use Rattle.vv_flat.specs.Changes.{Change, MakeContainer, MakeVolume, SetEndpoints, Bind, Unbind, UnbindAll, Write, Unmap, Turn}
use Rattle.vv_calls.specs.Formed.{AreOffers, AreNeeds, numbers_differ}
use Rattle.vv_plan.specs.FitDeeds.{is_fit_change}

abbrev pub IsHostNumber : ℕ → Type 0
IsHostNumber host = (1 ≤ host) × (host ≤ 64)

-- the numbers of the endpoints of a host
pub record AreEndpointNumbers (endpoints : List ℕ) : Type 0 where
  pub few : length endpoints ≤ 8
  pub differ : IsTrue (numbers_differ endpoints)
  pub none_is_0 : IsTrue (not (list_any (λ n. n == 0) endpoints))

abbrev pub IsFormedChange : Change → Type 0
IsFormedChange (MakeContainer quota offers) = (quota < 2 ^ 32) × AreOffers offers
IsFormedChange (MakeVolume container vtype chunks needs) = AreNeeds needs
IsFormedChange (SetEndpoints host endpoints) = IsHostNumber host × AreEndpointNumbers endpoints
IsFormedChange (Bind host volume) = IsHostNumber host
IsFormedChange (Unbind host endpoint secondary) = IsHostNumber host
IsFormedChange (UnbindAll host) = IsHostNumber host
IsFormedChange (Unmap volume ranges) = IsTrue (is_fit_change (Unmap volume ranges))
IsFormedChange (Write volume first_block blocks) = ⊥
IsFormedChange (Turn task) = ⊥
IsFormedChange _ = ⊤

-- the profile of a new volume has few needs
abbrev pub has_few_needs : Change → Bool
has_few_needs (MakeVolume container vtype chunks needs) = nat_le (length needs) 8
has_few_needs _ = true
