-- Where the bytes of a chunk are.
use Rattle.std.specs.Prelude.{ℕ, List, Option, None, slice_get, option_and_then}
use Rattle.vv_flat.specs.Lists.{if_found}
use Rattle.vv_flat.specs.State.{Volume, RunningClone, Durable, volume_of, clone_of}
use Rattle.vv_flat.specs.Chunks.{Entry}

-- the place of the entry at an index of a list, if there is one and it has one
abbrev pub place_at : List Entry → ℕ → Option ℕ
place_at entries index = option_and_then (λ (e : Entry). e.place) (slice_get entries index)

-- of a volume
unfoldable pub place_in_volume : Durable Entry → ℕ → ℕ → Option ℕ
place_in_volume d n index = if_found (volume_of d n) (λ (v : Volume Entry). place_at v.chunks index) None

-- of the image of a running clone
unfoldable pub place_in_image : Durable Entry → ℕ → ℕ → Option ℕ
place_in_image d n index = if_found (clone_of d n) (λ (c : RunningClone Entry). place_at c.image index) None
