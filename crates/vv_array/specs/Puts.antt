-- What putting an event on the disk leaves, by how it went.
use Rattle.std.specs.Prelude.{List, ℕ, Bool, ◌||◌, Result, Ok, Err, ⊤, ◌⊎◌}
use Rattle.vv_units.specs.declared.damage.DiskFault.{DiskFault}
use Rattle.vv_units.specs.declared.damage.DiskFault.TheVariants as fault
use Rattle.vv_flat.specs.State.{Durable, Array}
use Rattle.vv_flat.specs.Chunks.{Entry, ChunkValue, shape_of_tables}
use Rattle.vv_flat.specs.Changes.{Change}
use Rattle.vv_meaning.specs.Steps.{is_write, is_copying}
use Rattle.vv_array.specs.Standing.{StandsKept}

-- unless a write failed
abbrev pub UnlessWrite : {T : Type 0} → Result T DiskFault → Type 0 → Type 0
UnlessWrite (Ok x) P = P
UnlessWrite (Err fault.Read) P = P
UnlessWrite (Err fault.Write) P = ⊤

-- where a read failed
abbrev pub OnRead : {T : Type 0} → Result T DiskFault → Type 0 → Type 0
OnRead (Ok x) P = ⊤
OnRead (Err fault.Read) P = P
OnRead (Err fault.Write) P = ⊤

-- the array before it, or the one after it unless a read failed
abbrev pub LeftWhen : {T : Type 0} → Result T DiskFault → Array ChunkValue → Array ChunkValue → List ℕ → Type 0
LeftWhen (Ok x) before after image = StandsKept before image ⊎ StandsKept after image
LeftWhen (Err fault.Read) before after image = StandsKept before image
LeftWhen (Err fault.Write) before after image = StandsKept before image ⊎ StandsKept after image

-- an accepted change moves blocks between the disk and memory
abbrev pub moves_chunks : Durable Entry → Change → Bool
moves_chunks d change = is_write change || is_copying (shape_of_tables d) change
