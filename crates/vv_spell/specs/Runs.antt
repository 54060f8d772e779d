-- What stands at a place of the running clones and copies, and what is still to be spelled of them.
use Rattle.std.specs.Prelude.{ℕ, List, [], slice_get, drop}
use Rattle.vv_flat.specs.Lists.{if_found}
use Rattle.vv_flat.specs.State.{RunningClone, Piece, RunningCopy, Durable}
use Rattle.vv_flat.specs.Chunks.{Entry}
use Rattle.vv_vols.specs.declared.head.Head.{Head}
use Rattle.vv_tables.specs.Places.{clone_with}
use Rattle.vv_area.specs.Spelling.{runs_spelling}
use Rattle.vv_spell.specs.declared.runs.Next.{Next}

-- the entries of the image and of the target of the running clone at a place, and none past the last
abbrev pub image_at : Durable Entry → ℕ → List Entry
image_at d i = if_found (slice_get d.clones i) (λ (c : RunningClone Entry). c.image) []

abbrev pub target_at : Durable Entry → ℕ → List Entry
target_at d i = if_found (slice_get d.clones i) (λ (c : RunningClone Entry). c.target) []

-- the pieces of the running copy at a place
abbrev pub pieces_at : Durable Entry → ℕ → List (Piece Entry)
pieces_at d i = if_found (slice_get d.copies i) (λ (c : RunningCopy Entry). c.pieces) []

-- a running clone with this head, and with the entries of the one at a place
abbrev pub full_clone : Durable Entry → ℕ → ℕ → Head → RunningClone Entry
full_clone d i n head = record (clone_with n head) { image = image_at d i; target = target_at d i }

-- what is still to be spelled from a task on
abbrev pub rest_from : Durable Entry → ℕ → Next → List ℕ
rest_from d i next = runs_spelling (drop i d.tasks) (drop next.clones d.clones) (drop next.copies d.copies)
