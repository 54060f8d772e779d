-- Counts over volumes and rows.
use Rattle.std.specs.Prelude.{ℕ, ◌≡◌, ◌==◌, List, length, sum_by, if◌then◌else◌}
use Rattle.std.specs.List.{All}
use Rattle.vv_flat.specs.State.{Volume}
use Rattle.vv_flat.specs.Chunks.{Entry}
use Rattle.vv_container.specs.Table.{ChargedContainer}
use Rattle.vv_vols.specs.Shelf.{allocated_of}
use Rattle.vv_tables.specs.declared.rows.CloneRow.{CloneRow}

-- the metadata pairs of volumes
abbrev pub volume_pairs : List (Volume Entry) → ℕ
volume_pairs volumes = sum_by (λ (v : Volume Entry). length v.metadata) volumes

-- and those of running clones
abbrev pub clone_pairs : List CloneRow → ℕ
clone_pairs clones = sum_by (λ (row : CloneRow). length row.head.metadata) clones

-- for how many chunks of a volume a container is charged
abbrev pub charged_for : ℕ → Volume Entry → ℕ
charged_for k v = if v.container == k then allocated_of v.chunks else 0

-- the allocated chunks of the volumes of a container
abbrev pub allocated_for : List (Volume Entry) → ℕ → ℕ
allocated_for volumes k = sum_by (charged_for k) volumes

-- each container is charged for the allocated chunks of its volumes
abbrev pub AreChargedFor : List (Volume Entry) → List ChargedContainer → Type 0
AreChargedFor volumes rows = All (λ (r : ChargedContainer). r.charged ≡ allocated_for volumes r.container.number) rows
