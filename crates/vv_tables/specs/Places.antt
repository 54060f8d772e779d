-- What stands at a place of a table.
use Rattle.std.specs.Prelude.{ℕ, List, [], slice_get}
use Rattle.vv_flat.specs.Lists.{if_found}
use Rattle.vv_flat.specs.State.{Volume, RunningClone, Durable}
use Rattle.vv_flat.specs.Chunks.{Entry}
use Rattle.vv_vols.specs.declared.head.Head.{Head}

-- the chunks of the volume at a place, and none past the last
abbrev pub chunks_at : Durable Entry → ℕ → List Entry
chunks_at d i = if_found (slice_get d.volumes i) (λ (v : Volume Entry). v.chunks) []

-- a running clone with this head, and no entries yet
abbrev pub clone_with : ℕ → Head → RunningClone Entry
clone_with n head = record {
  number = n;
  container = head.container.0;
  vtype = head.vtype;
  needs = head.needs;
  metadata = head.metadata;
  image = [];
  target = [];
}
