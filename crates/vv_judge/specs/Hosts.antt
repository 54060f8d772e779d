-- Words on bindings.
use Rattle.std.specs.Prelude.{ℕ, ◌==◌, ◌||◌, Bool, not, List}
use Rattle.std.specs.List.{list_any}
use Rattle.vv_flat.specs.State.{Address, Binding}
use Rattle.vv_flat.specs.Bindings.{is_address}

-- whether a binding isn't of this host, or is at one of these endpoints
abbrev pub keeps_binding : ℕ → List ℕ → Binding → Bool
keeps_binding host endpoints b = not (b.address.host == host) || list_any (λ e. e == b.address.endpoint) endpoints

-- whether a binding is at an address
abbrev pub is_there : Address → Binding → Bool
is_there address b = is_address b.address address
