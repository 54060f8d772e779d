-- How a change is answered over an array whose kinds of capability are known, and the array after it. This is this
-- project's own.
use Rattle.std.specs.Prelude.{ℕ, List, if◌then◌else◌}
use Rattle.vv_flat.specs.State.{Durable, Array, map_durable}
use Rattle.vv_flat.specs.Chunks.{ChunkValue, Entry}
use Rattle.vv_flat.specs.Profiles.{Capability}
use Rattle.vv_flat.specs.Refusals.{Verdict}
use Rattle.vv_flat.specs.Changes.{Change, judge, misfit_in}
use Rattle.vv_flat.specs.Replay.{is_accepted}
use Rattle.vv_flat.specs.Flat.{array_after}

-- A change is judged over the shape, with what the profile of a new volume lacks.
abbrev pub answer_over : {X : Type 0} → (X → ℕ) → List Capability → Durable X → Change → Verdict
answer_over stamp_of capabilities d change = judge (misfit_in capabilities d change) (map_durable stamp_of d) change

-- over a flat array, and over tables
unfoldable pub answer : List Capability → Array ChunkValue → Change → Verdict
answer capabilities a change = answer_over (λ (x : ChunkValue). x.stamp) capabilities a.durable change

unfoldable pub answer_of_tables : List Capability → Durable Entry → Change → Verdict
answer_of_tables capabilities tables change = answer_over (λ (e : Entry). e.stamp) capabilities tables change

-- The array after a change that was asked for: where it is accepted it is done with its bytes, and else all stays.
unfoldable pub next : List Capability → Array ChunkValue → Change → List ℕ → Array ChunkValue
unfolding answer
next capabilities a change bytes =
    if is_accepted (answer capabilities a change) then array_after a change bytes else a
