-- Contexts of hosts and bindings of volumes, after `setPEContext`, `bindVirtualVolume`, `unbindVirtualVolume` and
-- `unbindAllVirtualVolumesFromHost` of VASA 2.0. The default endpoint, the counts and the choice of the secondary
-- identifier are this project's own.
use Rattle.std.specs.Prelude.{ℕ, ◌+◌, ◌-◌, ◌==◌, ◌&&◌, ◌||◌, Bool, false, not, List, [], ◌∷◌, length, slice_index, filter, count_by, Option, is_some, is_none, unwrap_or, nat_lt, if◌then◌else◌}
use Rattle.std.specs.List.{find, list_any, list_all}
use Rattle.vv_flat.specs.Lists.{if_found, first_changed, put_before, first_removed, numbers_from, numbers_eq}
use Rattle.vv_flat.specs.State.{Context, Address, Binding}

abbrev pub is_address : Address → Address → Bool
is_address a b = (a.host == b.host) && (a.endpoint == b.endpoint) && (a.secondary == b.secondary)

-- addresses rise by host, then by endpoint, then by secondary identifier
abbrev pub is_below : Address → Address → Bool
is_below a b =
    nat_lt a.host b.host
    || ((a.host == b.host) && (nat_lt a.endpoint b.endpoint
    || ((a.endpoint == b.endpoint) && nat_lt a.secondary b.secondary)))

abbrev pub context_of : List Context → ℕ → Option Context
context_of contexts host = find (λ (c : Context). c.host == host) contexts

abbrev pub was_set : List Context → ℕ → Bool
was_set contexts host = is_some (context_of contexts host)

-- the endpoints of a host: those that were set, and else endpoint 1 alone
abbrev pub endpoints_of : List Context → ℕ → List ℕ
endpoints_of contexts host = if_found (context_of contexts host) (λ c. c.endpoints) (1 ∷ [])

-- whether this list was the last that was set, in this order
abbrev pub is_set_to : List Context → ℕ → List ℕ → Bool
is_set_to contexts host endpoints =
    if_found (context_of contexts host) (λ c. numbers_eq c.endpoints endpoints) false

abbrev pub with_context : List Context → ℕ → List ℕ → List Context
with_context contexts host endpoints =
    if was_set contexts host
    then first_changed (λ (c : Context). c.host == host) (λ c. record c { endpoints = endpoints }) contexts
    else put_before (λ (c : Context). nat_lt host c.host) (record { host = host; endpoints = endpoints }) contexts

-- whether each binding of the host is at one of these endpoints
abbrev pub keeps_bindings : List Binding → ℕ → List ℕ → Bool
keeps_bindings bindings host endpoints =
    list_all (λ (b : Binding). not (b.address.host == host)
    || list_any (λ e. e == b.address.endpoint) endpoints) bindings

-- the binding at an address
abbrev pub binding_at : List Binding → Address → Option Binding
binding_at bindings address = find (λ (b : Binding). is_address b.address address) bindings

-- the binding of a volume for a host
abbrev pub is_binding_of : ℕ → ℕ → Binding → Bool
is_binding_of host volume b = (b.address.host == host) && (b.volume == volume)

abbrev pub binding_of : List Binding → ℕ → ℕ → Option Binding
binding_of bindings host volume = find (is_binding_of host volume) bindings

abbrev pub is_bound : List Binding → ℕ → Bool
is_bound bindings volume = list_any (λ (b : Binding). b.volume == volume) bindings

-- The least secondary identifier from 1 on that is free at an endpoint of a host. One of the first numbers is free,
-- where there is one more of them than bindings.
abbrev pub free_secondary : List Binding → ℕ → ℕ → ℕ
free_secondary bindings host endpoint =
    unwrap_or (find (λ s. is_none (binding_at bindings (record { host = host; endpoint = endpoint; secondary = s })))
    (numbers_from 1 (length bindings + 1))) 0

-- where a volume is bound anew: at the first endpoint of the host
abbrev pub new_address : List Context → List Binding → ℕ → Address
new_address contexts bindings host =
    let endpoint = slice_index (endpoints_of contexts host) 0 in
    record { host = host; endpoint = endpoint; secondary = free_secondary bindings host endpoint }

-- where a bind is answered: where the volume is bound for the host already, and else anew
abbrev pub bound_address : List Context → List Binding → ℕ → ℕ → Address
bound_address contexts bindings host volume =
    if_found (binding_of bindings host volume) (λ b. b.address) (new_address contexts bindings host)

-- the bindings after a bind: the count rises, or there is one more binding
unfoldable pub with_binding : List Context → List Binding → ℕ → ℕ → List Binding
with_binding contexts bindings host volume =
    let address = new_address contexts bindings host in
    if is_some (binding_of bindings host volume)
    then first_changed (is_binding_of host volume) (λ b. record b { count = b.count + 1 }) bindings
    else put_before (λ (b : Binding). is_below address b.address)
    (record { address = address; volume = volume; count = 1 }) bindings

-- the count that an unbind leaves at an address
abbrev pub count_left : List Binding → Address → ℕ
count_left bindings address = if_found (binding_at bindings address) (λ b. b.count - 1) 0

-- the bindings after an unbind: the count falls, and a binding whose count is then 0 is gone
unfoldable pub without_binding : List Binding → Address → List Binding
without_binding bindings address =
    if count_left bindings address == 0
    then first_removed (λ (b : Binding). is_address b.address address) bindings
    else first_changed (λ (b : Binding). is_address b.address address) (λ b. record b { count = b.count - 1 }) bindings

-- the bindings after an unbind of all volumes from a host
abbrev pub is_of_host : ℕ → Binding → Bool
is_of_host host b = b.address.host == host

abbrev pub without_host : List Binding → ℕ → List Binding
without_host bindings host = filter (λ b. not (is_of_host host b)) bindings

-- how many bindings a host has
abbrev pub host_bindings : List Binding → ℕ → ℕ
host_bindings bindings host = count_by (is_of_host host) bindings
