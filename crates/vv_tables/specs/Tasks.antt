-- Words on tasks.
use Rattle.std.specs.Prelude.{ℕ, ◌==◌, Bool, false}
use Rattle.vv_flat.specs.Lists.{if_found}
use Rattle.vv_flat.specs.State.{Task}
use Rattle.vv_flat.specs.Space.{running_target}

-- whether a running copy is to change a volume
abbrev pub is_to_change : ℕ → Task → Bool
is_to_change n t = if_found (running_target t) (λ m. m == n) false
