-- For plans of commands that write or unmap blocks.
use Rattle.std.proofs.Common.{ℕ, ◌≡◌, Bool, List, [], false, refl, ap}
use Rattle.std.specs.Prelude.{Option, None}
use Rattle.vv_flat.specs.State.{Durable}
use Rattle.vv_flat.specs.Chunks.{Entry, shape_of_tables}
use Rattle.vv_flat.specs.Changes as change
use Rattle.vv_flat.specs.Profiles.{Capability}
use Rattle.vv_flat.specs.Refusals.{Accept}
use Rattle.vv_record.specs.declared.record.Event.{Event}
use Rattle.vv_reply.specs.declared.reply.Reply.{Reply}
use Rattle.vv_meaning.specs.Asks.{Without, AsSense, NewBytes, Wanted, Deed}
use Rattle.vv_meaning.specs.Told.{good}
use Rattle.vv_meaning.specs.Commands.{writes}
use Rattle.vv_meaning.specs.Meaning.{verdict_on}
use Rattle.vv_plan.specs.CommandAsks.{unmaps_ranges}
use Rattle.vv_core.specs.Placed.{IsPlacedEvent}
use Rattle.vv_core.specs.declared.planning_commands.BlockWrite.{BlockWrite}
use Rattle.vv_core.specs.declared.planned.Fill.{Fill}
use Rattle.vv_core.specs.declared.planned.Fill.TheVariants as fill
use Rattle.vv_core.specs.Plans.{blocks_written, bytes_filled, image_filling, blocks_compared}
use Rattle.vv_core.specs.PlannedDeeds.{IsDeedJournaled}
use Rattle.vv_core.proofs.DeedPlans.{placed_journal}
use Rattle.vv_core.proofs.CommandPlans.{written_are}

-- what is wanted of a write
abbrev pub write_wanted : (volume first blocks : ℕ) → NewBytes → Option (List ℕ) → Wanted
write_wanted volume first blocks bytes compared = record {
  change = change.Write volume first blocks;
  bytes = bytes;
  compared = compared;
  form = AsSense;
  accepted = good [];
  nothing = good [];
}

-- what a write as the program names it asks for, where these bytes came with it
abbrev pub write_deed : List ℕ → BlockWrite → Deed
write_deed payload write =
    writes write.volume.0 write.first write.blocks (bytes_filled write.fill write.compare write.blocks payload) (blocks_compared write.compare write.blocks payload)

-- what is wanted of an UNMAP
abbrev pub unmap_wanted : ℕ → List (ℕ × ℕ) → Wanted
unmap_wanted volume ranges = record {
  change = change.Unmap volume ranges;
  bytes = Without;
  compared = None;
  form = AsSense;
  accepted = good [];
  nothing = good [];
}

module _ (capabilities : List Capability) (d : Durable Entry) (answer : Reply) (payload : List ℕ) (e : Event) (is : answer ≡ good []) where
  pub write_journaled : (volume first blocks : ℕ) (filled : Fill) (compare : Bool) → image_filling filled ≡ None → IsPlacedEvent d (change.Write volume first blocks) e
      → Accept ≡ verdict_on capabilities (shape_of_tables d) (change.Write volume first blocks)
      → IsDeedJournaled capabilities d (writes volume first blocks (bytes_filled filled compare blocks payload) (blocks_compared compare blocks payload)) payload e filled compare answer
  write_journaled volume first blocks filled compare image placed accepted =
      let same : blocks_written e ≡ blocks = written_are e volume first blocks placed.change_is in
      placed_journal capabilities d (write_wanted volume first blocks (bytes_filled filled compare blocks payload) (blocks_compared compare blocks payload)) answer payload e filled compare
      placed accepted is (ap (λ n. bytes_filled filled compare n payload) same) image (ap (λ n. blocks_compared compare n payload) same)

  pub unmap_journaled : (volume : ℕ) (ranges : List (ℕ × ℕ)) → IsPlacedEvent d (change.Unmap volume ranges) e
      → Accept ≡ verdict_on capabilities (shape_of_tables d) (change.Unmap volume ranges)
      → IsDeedJournaled capabilities d (unmaps_ranges volume ranges) payload e fill.Nothing false answer
  unmap_journaled volume ranges placed accepted =
      placed_journal capabilities d (unmap_wanted volume ranges) answer payload e fill.Nothing false placed accepted is refl refl refl
