-- The container of a volume, and what a container is charged for, as the shelf and the table of containers have them.
use Rattle.std.specs.Prelude.{ℕ, List}
use Rattle.vv_flat.specs.Lists.{if_found}
use Rattle.vv_flat.specs.State.{Volume}
use Rattle.vv_flat.specs.Chunks.{Entry}
use Rattle.vv_container.specs.Table.{ChargedContainer, row_of}
use Rattle.vv_vols.specs.Shelf.{ShelfState, volume_in}

-- the container of a volume; 0 where there is no such volume
abbrev pub home_in : ShelfState → ℕ → ℕ
home_in s n = if_found (volume_in s n) (λ (v : Volume Entry). v.container) 0

-- what a container is charged for; 0 where there is no such container
abbrev pub charge_in : List ChargedContainer → ℕ → ℕ
charge_in rows n = if_found (row_of rows n) (λ (r : ChargedContainer). r.charged) 0
