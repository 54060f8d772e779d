-- The contexts of hosts, host after host.
use Rattle.std.specs.Prelude.{ℕ, List, [], ◌∷◌, Option, Some, None, nat_lt}
use Rattle.std.specs.List.{filter}
use Rattle.vv_flat.specs.State.{Context}

-- those of the hosts below a number
abbrev pub contexts_below : ℕ → List Context → List Context
contexts_below n contexts = filter (λ (c : Context). nat_lt c.host n) contexts

-- the one that is found, if one is
abbrev pub found_in : Option Context → List Context
found_in None = []
found_in (Some c) = c ∷ []
