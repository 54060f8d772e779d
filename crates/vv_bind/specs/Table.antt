-- The table of contexts and bindings, and when a bind may not be done. That a table holds 1024 bindings, and a binding
-- counts up to 65,535, is this project's own choice.
use Rattle.std.specs.Prelude.{ℕ, ◌≤◌, ◌==◌, ◌&&◌, Bool, IsTrue, List, length, map, Option, Some, None, nat_le, nat_lt, if◌then◌else◌}
use Rattle.std.specs.List.{list_all}
use Rattle.vv_units.specs.declared.numbers.EndpointId.{EndpointId}
use Rattle.vv_flat.specs.Lists.{if_found, put_before, all_different, all_rise}
use Rattle.vv_flat.specs.State.{Context, Address, Binding}
use Rattle.vv_flat.specs.Bindings.{endpoints_of, binding_of, is_below}
use Rattle.vv_bind.specs.declared.fault.BindFault.{BindFault}
use Rattle.vv_bind.specs.declared.fault.BindFault.TheVariants.{NoEndpoint, TooManyCount, TooManyBindings}

-- the contexts that were set, in rising order of hosts, and the bindings, in rising order of addresses
pub record BindState : Type 0 where
  pub contexts : List Context
  pub bindings : List Binding

abbrev pub address : ℕ → ℕ → ℕ → Address
address host endpoint secondary = record { host = host; endpoint = endpoint; secondary = secondary }

-- the numbers of endpoints
abbrev pub numbers : List EndpointId → List ℕ
numbers endpoints = map (λ (e : EndpointId). e.0) endpoints

-- a host's number is from 1 to 64
pub record IsHost (host : ℕ) : Type 0 where
  pub from_one : 1 ≤ host
  pub within : host ≤ 64

-- why a host may not bind a volume, if it may not
abbrev pub bind_fault : BindState → ℕ → ℕ → Option BindFault
bind_fault t host volume =
    if length (endpoints_of t.contexts host) == 0 then Some NoEndpoint
    else if_found (binding_of t.bindings host volume)
    (λ b. if b.count == 65535 then Some TooManyCount else None)
    (if length t.bindings == 1024 then Some TooManyBindings else None)

-- one more binding, at its place in the order
abbrev pub with_one_more : List Binding → Binding → List Binding
with_one_more bindings binding = put_before (λ (b : Binding). is_below binding.address b.address) binding bindings

-- a host below another one, and a binding below another one, in the order of a table
abbrev pub context_below : Context → Context → Bool
context_below c d = nat_lt c.host d.host

abbrev pub binding_below : Binding → Binding → Bool
binding_below b c = is_below b.address c.address

abbrev pub is_host_number : ℕ → Bool
is_host_number host = nat_le 1 host && nat_le host 64

abbrev pub has_host_number : Context → Bool
has_host_number c = is_host_number c.host

-- at most 8 endpoints, all different, and none is 0
abbrev pub are_endpoints : List ℕ → Bool
are_endpoints endpoints = nat_le (length endpoints) 8 && all_different endpoints && list_all (λ e. nat_lt 0 e) endpoints

abbrev pub has_endpoints : Context → Bool
has_endpoints c = are_endpoints c.endpoints

abbrev pub is_of_a_host : Binding → Bool
is_of_a_host b = is_host_number b.address.host

-- What a table keeps: few bindings, both lists in order, the hosts from 1 to 64, endpoints as a host may have them, and
-- room for all.
pub record IsKept (contexts : List Context) (bindings : List Binding) (context_room binding_room : ℕ) : Type 0 where
  pub few : length bindings ≤ 1024
  pub fits : 1024 ≤ binding_room
  pub bindings_rise : IsTrue (all_rise binding_below bindings)
  pub contexts_fit : 64 ≤ context_room
  pub contexts_rise : IsTrue (all_rise context_below contexts)
  pub hosts : IsTrue (list_all has_host_number contexts)
  pub lists : IsTrue (list_all has_endpoints contexts)
  pub bound_hosts : IsTrue (list_all is_of_a_host bindings)
