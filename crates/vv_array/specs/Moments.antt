-- What a crash may leave while a call is served: the array before the call, or the one after it where the call is journaled.
use Rattle.std.specs.Prelude.{ℕ, List, IsTrue, ◌⊎◌}
use Rattle.vv_flat.specs.State.{Array}
use Rattle.vv_flat.specs.Chunks.{ChunkValue}
use Rattle.vv_flat.specs.Restart.{restarted}
use Rattle.vv_flat.specs.Profiles.{Capability}
use Rattle.vv_calls.specs.declared.call.Call.{Call}
use Rattle.vv_meaning.specs.Meaning.{next}
use Rattle.vv_meaning.specs.Steps.{State, Up, Down, is_journaled}
use Rattle.vv_array.specs.Standing.{StandsKept}

-- from an array that is up
abbrev pub LeftBy : List Capability → Array ChunkValue → Call → List ℕ → Type 0
LeftBy capabilities m c image =
    StandsKept m image ⊎ (IsTrue (is_journaled capabilities m c) × StandsKept (next capabilities m c) image)

-- from a state: an array that is down is opened again first, which restarts it
abbrev pub LeftFrom : List Capability → State → Call → List ℕ → Type 0
LeftFrom capabilities (Up m) c image = LeftBy capabilities m c image
LeftFrom capabilities (Down before after) c image =
    LeftBy capabilities (restarted before) c image ⊎ LeftBy capabilities (restarted after) c image

-- an image stands for the array of a state, or for one of the two
abbrev pub StandsForOne : State → List ℕ → Type 0
StandsForOne (Up m) image = StandsKept m image
StandsForOne (Down before after) image = StandsKept before image ⊎ StandsKept after image

-- .. of the state before a step or the one after it
abbrev pub StandsBetween : State → State → List ℕ → Type 0
StandsBetween before after image = StandsForOne before image ⊎ StandsForOne after image
