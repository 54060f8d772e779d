-- What a command asks for, as the program names it.
use Rattle.std.specs.Prelude.{ℕ, ◌+◌, ◌^◌, ◌==◌, Bool, true, false, nat_le, List, [], ◌∷◌, map, Some, None, if◌then◌else◌}
use Rattle.std.specs.List.{list_all}
use Rattle.vv_flat.specs.State.{Address, Volatile}
use Rattle.vv_flat.specs.Chunks.{compared_half, written_half}
use Rattle.vv_flat.specs.Changes as change
use Rattle.vv_record.specs.declared.record.ChunkRange.{ChunkRange}
use Rattle.vv_lun.specs.declared.unit.Action.{Action}
use Rattle.vv_lun.specs.declared.unit.Action.TheVariants as action
use Rattle.vv_meaning.specs.Asks.{Without, These, Repeated, AsSense, Deed, Answered, Reads, Changes, Ask}
use Rattle.vv_meaning.specs.Told.{good}
use Rattle.vv_meaning.specs.Commands.{writes, cleared}
use Rattle.vv_plan.specs.declared.asks.CommandAsk.{CommandAsk}
use Rattle.vv_plan.specs.declared.asks.CommandAsk.TheVariants.{Answer, Read, Write, Same, Compare, Unmap}

-- a range of chunks as a pair
abbrev pub pair_of : ChunkRange → ℕ × ℕ
pair_of r = (r.first_chunk, r.chunks)

-- a range, where it isn't empty
abbrev pub unless_empty : ChunkRange → List ChunkRange
unless_empty r = if r.chunks == 0 then [] else (r ∷ [])

-- UNMAP of ranges of whole chunks
abbrev pub unmaps_ranges : ℕ → List (ℕ × ℕ) → Deed
unmaps_ranges volume ranges = Changes (record {
  change = change.Unmap volume ranges;
  bytes = Without;
  compared = None;
  form = AsSense;
  accepted = good [];
  nothing = good [];
})

-- what is done, where these bytes came with the command
abbrev pub deed_asked : List ℕ → CommandAsk → Deed
deed_asked payload (Answer reply clears) = Answered reply
deed_asked payload (Read volume first blocks) = Reads volume.0 first blocks
deed_asked payload (Write volume first blocks) = writes volume.0 first blocks (These payload) None
deed_asked payload (Same volume first blocks) = writes volume.0 first blocks (Repeated payload blocks) None
deed_asked payload (Compare volume first blocks) =
    writes volume.0 first blocks (These (written_half blocks payload)) (Some (compared_half blocks payload))
deed_asked payload (Unmap volume ranges) = unmaps_ranges volume.0 (map pair_of ranges)

-- whether the unit attention at the command's address is cleared
abbrev pub clears_asked : CommandAsk → Bool
clears_asked (Answer reply clears) = clears
clears_asked (Read volume first blocks) = false
clears_asked (Write volume first blocks) = false
clears_asked (Same volume first blocks) = false
clears_asked (Compare volume first blocks) = false
clears_asked (Unmap volume ranges) = false

-- .. of a command at an address
abbrev pub ask_at : Address → List ℕ → Volatile → CommandAsk → Ask
ask_at address payload volatile ask = record {
  volatile = cleared (clears_asked ask) address volatile;
  deed = deed_asked payload ask;
}

-- ranges of blocks that end by 2^31
abbrev pub are_low : List (ℕ × ℕ) → Bool
are_low ranges = list_all (λ (r : ℕ × ℕ). nat_le (r.0 + r.1) (2 ^ 31)) ranges

abbrev pub is_low : Action → Bool
is_low (action.Unmap ranges) = are_low ranges
is_low (action.Reply bytes sense clears) = true
is_low (action.Read first blocks) = true
is_low (action.Write first blocks) = true
is_low (action.Same first blocks) = true
is_low (action.Compare first blocks) = true
