-- What a planned event comes to where its blocks are found to be others than those to compare with, and what a call leaves that
-- only reads. It serves `journaled`.
use Rattle.std.proofs.Common.{◌≡◌, ◌↔◌, ℕ, ◌||◌, Bool, true, false, List, Option, Some, IfSome, refl, sym, ap, ◌∙◌, subst}
use Rattle.vv_disk.specs.Images.{EachImage}
use Rattle.vv_flat.specs.State.{Array, Durable}
use Rattle.vv_flat.specs.Chunks.{Entry, ChunkValue, filled_tables, shape_of_tables}
use Rattle.vv_flat.specs.Profiles.{Capability}
use Rattle.vv_flat.specs.Changes.{Change}
use Rattle.vv_flat.specs.Logs.{record_fits}
use Rattle.vv_journal.specs.Calls.{JournalState}
use Rattle.vv_calls.specs.declared.call.Call.{Call}
use Rattle.vv_reply.specs.declared.reply.Reply.{Reply}
use Rattle.vv_record.specs.declared.record.Event.{Event}
use Rattle.vv_record.specs.declared.record.Record.{Record}
use Rattle.vv_record.specs.Spelling.{is_spellable}
use Rattle.vv_event.specs.Events.{change_of, log_record}
use Rattle.vv_image.specs.Standing.{bytes_at_place}
use Rattle.vv_meaning.specs.Told.{miscompared}
use Rattle.vv_meaning.specs.Meaning.{blocks_at, differs, reply, next}
use Rattle.vv_meaning.specs.Steps.{is_write, is_copying}
use Rattle.vv_core.specs.Core.{passed}
use Rattle.vv_core.specs.declared.planned.Fill.{Fill}
use Rattle.vv_core.specs.Plans.{IsJournalPlan, blocks_compared, blocks_written, payload_of}
use Rattle.vv_array.specs.Standing.{flat_over, StandsKept, UpOn}
use Rattle.vv_array.specs.Puts.{moves_chunks}
use Rattle.vv_array.proofs.Stands.{told_has, up_fewer}
use Rattle.vv_array.proofs.ServedCalls.{up_passed}
use Rattle.vv_array.proofs.PlannedCalls.{waits, change_is, change_next}

-- the record of a plan, which isn't marked, fits and can be spelled
pub unmarked_fits : (d : Durable Entry) (r : Record) → r.first_after_open ≡ false → record_fits d (log_record (record { first_after_open = false; event = r.event })) ≡ true
    → record_fits d (log_record r) ≡ true
unmarked_fits d r unmarked fit = subst (λ (b : Bool). record_fits d (log_record (record { first_after_open = b; event = r.event })) ≡ true) (sym unmarked) fit

pub unmarked_spellable : (r : Record) → r.first_after_open ≡ false → is_spellable (record { first_after_open = false; event = r.event }) ≡ true → is_spellable r ≡ true
unmarked_spellable r unmarked spells = subst (λ (b : Bool). is_spellable (record { first_after_open = b; event = r.event }) ≡ true) (sym unmarked) spells

-- a write moves chunks
pub write_chunks : (d : Durable Entry) (k : Change) → is_write k ≡ true → moves_chunks d k ≡ true
write_chunks d k e = ap (λ (b : Bool). b || is_copying (shape_of_tables d) k) e

-- the array stands where the disk was only read
pub up_read : (journal : JournalState) (a : Array Entry) (told later : Option (List ℕ)) (images now : List ℕ → Type 0) (m : Array ChunkValue)
    → later ≡ told → ((image : List ℕ) → now image ↔ images image) → UpOn journal a told images m → UpOn journal a later now m
up_read journal a told later images now m same each up =
    subst (λ (t : Option (List ℕ)). UpOn journal a t now m) (sym same) (up_fewer journal a told images now m (λ image is. (each image).0 is) up)

-- whether the blocks of the flat array differ, by what is told of the content
pub differs_told : (told : Option (List ℕ)) (a : Array Entry) (content : List ℕ) (m : Array ChunkValue) (k : Change) (expected : Option (List ℕ)) (b : Bool) → told ≡ Some content → flat_over content a ≡ m
    → IfSome told (λ c. b ≡ differs (blocks_at (filled_tables (bytes_at_place a.durable.geometry c) a.durable)) k expected) → differs (blocks_at m.durable) k expected ≡ b
differs_told told a content m k expected b e is has =
    sym (told_has told (λ c. b ≡ differs (blocks_at (filled_tables (bytes_at_place a.durable.geometry c) a.durable)) k expected) content e has
    ∙ ap (λ (x : Array ChunkValue). differs (blocks_at x.durable) k expected) is)

module _ (capabilities : List Capability) (a : Array Entry) (content : List ℕ) (m : Array ChunkValue) (c : Call) (is : flat_over content a ≡ m)
    (e : Event) (filled : Fill) (compare : Bool) (answer : Reply) (plan : IsJournalPlan capabilities a c e filled compare answer)
    (other : differs (blocks_at m.durable) (change_of e) (blocks_compared compare (blocks_written e) (payload_of a.volatile c)) ≡ true) where
  differing : differs (blocks_at m.durable) plan.wanted.change plan.wanted.compared ≡ true
  differing =
      ap (λ (k : Change). differs (blocks_at m.durable) k plan.wanted.compared) (sym plan.change)
      ∙ ap (λ (o : Option (List ℕ)). differs (blocks_at m.durable) (change_of e) o) (sym plan.compared)
      ∙ other

  pub differing_reply : reply capabilities m c ≡ miscompared
  differing_reply = change_is capabilities a content m c is plan.wanted true plan.asks plan.accepted differing

  pub differing_next : next capabilities m c ≡ waits a m c
  differing_next = change_next capabilities a content m c is plan.wanted true plan.asks plan.accepted differing

  pub differing_up : (journal : JournalState) (told : Option (List ℕ)) (images : List ℕ → Type 0) → UpOn journal a told images m → UpOn journal (passed a c) told images (next capabilities m c)
  differing_up journal told images up = subst (λ (x : Array ChunkValue). UpOn journal (passed a c) told images x) (sym differing_next) (up_passed journal a told images m c up)

-- the sizes stay where only what waits goes on
pub passed_sizes : (a : Array Entry) (c : Call) → (passed a c).durable.geometry ≡ a.durable.geometry
unfolding passed
passed_sizes a c = refl

-- .. where the tables were made ready for an event, and are as they were
pub differs_prepared : (told : Option (List ℕ)) (prepared a : Array Entry) (content : List ℕ) (m : Array ChunkValue) (c : Call) (e : Event) (compare b : Bool) → prepared ≡ a → told ≡ Some content → flat_over content a ≡ m
    → IfSome told (λ x. b ≡ differs (blocks_at (filled_tables (bytes_at_place prepared.durable.geometry x) prepared.durable)) (change_of e) (blocks_compared compare (blocks_written e) (payload_of prepared.volatile c)))
    → differs (blocks_at m.durable) (change_of e) (blocks_compared compare (blocks_written e) (payload_of a.volatile c)) ≡ b
differs_prepared told prepared a content m c e compare b same is stands has =
    differs_told told a content m (change_of e) (blocks_compared compare (blocks_written e) (payload_of a.volatile c)) b is stands
    (subst (λ (y : Array Entry). IfSome told (λ x. b ≡ differs (blocks_at (filled_tables (bytes_at_place y.durable.geometry x) y.durable)) (change_of e) (blocks_compared compare (blocks_written e) (payload_of y.volatile c)))) same has)
