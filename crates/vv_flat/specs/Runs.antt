-- A run of a flat array: changes that are asked for one after the other, each with its bytes. This is this project's own.
use Rattle.std.specs.Prelude.{ℕ, ◌&&◌, Bool, List, [], ◌∷◌}
use Rattle.vv_flat.specs.State.{Array}
use Rattle.vv_flat.specs.Chunks.{ChunkValue}
use Rattle.vv_flat.specs.Profiles.{Capability}
use Rattle.vv_flat.specs.Changes.{Change}
use Rattle.vv_flat.specs.Flat.{has_its_bytes}
use Rattle.vv_flat.specs.Fields.{change_has_forms}
use Rattle.vv_flat.specs.Answers.{next}

-- a change that is asked for, with the bytes of a write
pub record Asked : Type 0 where
  pub change : Change
  pub bytes : List ℕ

-- its fields have their forms, and a write has the bytes of its blocks
abbrev pub is_asked_rightly : Asked → Bool
is_asked_rightly asked = change_has_forms asked.change && has_its_bytes asked.change asked.bytes

-- the array after a run
unfoldable pub after_run : List Capability → Array ChunkValue → List Asked → Array ChunkValue
after_run capabilities a [] = a
after_run capabilities a (asked ∷ rest) = after_run capabilities (next capabilities a asked.change asked.bytes) rest
