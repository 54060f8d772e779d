-- What calls of an array that is up leave, by how they ended. It serves the calls of an array that is up.
use Rattle.std.proofs.Common.{◌≡◌, ◌≢◌, ◌↔◌, ◌==◌, ◌⊎◌, inl, inr, ℕ, Bool, true, false, not, List, Option, None, Some, IfSome, refl, sym, ap, ◌∙◌, subst, lit≤}
use Rattle.std.proofs.lemmas.Bool.{ne_eqb}
use Rattle.vv_reply.specs.Replies.{FitsReply}
use Rattle.vv_disk.specs.Images.{EachImage, LeavesOnly}
use Rattle.vv_disk.proofs.Moments.{leaves_weaker}
use Rattle.vv_flat.specs.State.{Array, Durable}
use Rattle.vv_flat.specs.Chunks.{Entry, ChunkValue, filled_tables}
use Rattle.vv_flat.specs.Profiles.{Capability}
use Rattle.vv_journal.specs.Calls.{JournalState}
use Rattle.vv_calls.specs.declared.call.Call.{Call}
use Rattle.vv_reply.specs.declared.reply.Reply.{Reply}
use Rattle.vv_reply.specs.declared.reply.Reply.TheVariants.{Refused}
use Rattle.vv_reply.specs.declared.reply.Refusal.{Refusal}
use Rattle.vv_reply.specs.declared.reply.Refusal.TheVariants as fault
use Rattle.vv_image.specs.Standing.{bytes_at_place}
use Rattle.vv_meaning.specs.Asks.{Form, Reads, AsFault, AsSense}
use Rattle.vv_meaning.specs.Told.{good, read_failed_as, write_failed_as}
use Rattle.vv_meaning.specs.Calls.{asked}
use Rattle.vv_meaning.specs.Meaning.{next, blocks_at}
use Rattle.vv_core.specs.Core.{CoreState, passed, entry_shape}
use Rattle.vv_record.specs.declared.record.Event.{Event}
use Rattle.vv_core.specs.declared.planned.Fill.{Fill}
use Rattle.vv_core.specs.Plans.{IsRefusedFor, IsJournalPlan}
use Rattle.vv_array.specs.Standing.{flat_over, StandsKept, UpOn}
use Rattle.vv_array.specs.declared.ended.Ended.{Ended}
use Rattle.vv_array.specs.declared.ended.Ended.TheVariants as ended
use Rattle.vv_array.specs.Served.{IsServed, IsSettled, LeftIn, HasStayed, IsWithoutMemory, IsCaused}
use Rattle.vv_array.specs.Faults.{cause_of}
use Rattle.vv_array.specs.FaultsTold.{TellsNoFailure, TellsItsFailure}
use Rattle.vv_array.proofs.Stands.{up_stands, up_fewer}
use Rattle.vv_array.proofs.PlainReplies.{settled_plain, accepted_plain}
use Rattle.vv_array.proofs.PlannedCalls.{waits, settled_is, settled_next, read_is, read_next, form_by, moves_by}

-- an image of the array before a call is one that a crash may leave
pub left_before : (capabilities : List Capability) (m : Array ChunkValue) (c : Call) (e : Ended) → EachImage (LeftIn capabilities m c e) (StandsKept m)
left_before capabilities m c (ended.Replied answer) image stands = inl stands
left_before capabilities m c (ended.ReadFailed answer) image stands = stands
left_before capabilities m c (ended.WriteFailed answer) image stands = inl stands
left_before capabilities m c ended.NoMemory image stands = stands

-- what waits goes on, and the array stands so
pub up_passed : (journal : JournalState) (a : Array Entry) (told : Option (List ℕ)) (images : List ℕ → Type 0) (m : Array ChunkValue) (c : Call)
    → UpOn journal a told images m → UpOn journal (passed a c) told images (waits a m c)
unfolding passed waits
up_passed journal a told images m c up = record {
  log = up.log;
  continues = up.continues;
  holds = up.holds;
  tables = up.tables;
  content = up.content;
  told_is = up.told_is;
  named = up.named;
  array_is = ap (λ (x : Array ChunkValue). record x { volatile = (passed a c).volatile }) up.array_is;
}

-- a call that needs no disk
pub settled_served : (capabilities : List Capability) (journal : JournalState) (a new : Array Entry) (told : Option (List ℕ)) (images : List ℕ → Type 0) (m : Array ChunkValue) (c : Call) (e : Ended)
    → UpOn journal a told images m → IsSettled capabilities a new c e → IsServed capabilities m c journal new told images e
settled_served capabilities journal a new told images m c (ended.Replied answer) up is = (
  sym (settled_is capabilities a up.content m c up.array_is answer is.0),
  subst (λ (x : Array Entry). UpOn journal x told images (next capabilities m c)) (sym is.1)
      (subst (λ (x : Array ChunkValue). UpOn journal (passed a c) told images x) (sym (settled_next capabilities a up.content m c up.array_is answer is.0))
      (up_passed journal a told images m c up)),
)
settled_served capabilities journal a new told images m c (ended.ReadFailed answer) up is = absurd is
settled_served capabilities journal a new told images m c (ended.WriteFailed answer) up is = absurd is
settled_served capabilities journal a new told images m c ended.NoMemory up is = subst (λ (x : Array Entry). UpOn journal x told images m) (sym is) up

-- .. and what it left as it was

pub settled_stayed : (journal : JournalState) (core new : CoreState) (told : Option (List ℕ)) (e : Ended) → (IsWithoutMemory e → new ≡ core)
    → HasStayed e journal journal core new told told
settled_stayed journal core new told (ended.Replied answer) is = tt
settled_stayed journal core new told (ended.ReadFailed answer) is = tt
settled_stayed journal core new told (ended.WriteFailed answer) is = tt
settled_stayed journal core new told ended.NoMemory is = (refl, (is tt, refl))

pub settled_caused : (capabilities : List Capability) (a new : Array Entry) (reads_before reads_now writes_before writes_now : ℕ) (c : Call) (e : Ended)
    → IsSettled capabilities a new c e → IsCaused reads_before reads_now writes_before writes_now e
settled_caused capabilities a new reads_before reads_now writes_before writes_now c (ended.Replied answer) is = tt
settled_caused capabilities a new reads_before reads_now writes_before writes_now c (ended.ReadFailed answer) is = absurd is
settled_caused capabilities a new reads_before reads_now writes_before writes_now c (ended.WriteFailed answer) is = absurd is
settled_caused capabilities a new reads_before reads_now writes_before writes_now c ended.NoMemory is = tt

-- .. and no fault is told by its reply

pub settled_tells : (capabilities : List Capability) (a new : Array Entry) (c : Call) (e : Ended) → IsSettled capabilities a new c e → TellsItsFailure e
settled_tells capabilities a new c (ended.Replied answer) is = settled_plain capabilities a c answer is.0
settled_tells capabilities a new c (ended.ReadFailed answer) is = absurd is
settled_tells capabilities a new c (ended.WriteFailed answer) is = absurd is
settled_tells capabilities a new c ended.NoMemory is = tt

-- nor by a refusal, but that there was no memory
pub refusal_plain : (capabilities : List Capability) (a : Array Entry) (c : Call) (refusal : Refusal) → refusal ≢ fault.NoMemory → IsRefusedFor capabilities a c refusal → TellsNoFailure (Refused refusal)
refusal_plain capabilities a c refusal other (inl none) = absurd (other none)
refusal_plain capabilities a c refusal other (inr is) = settled_plain capabilities a c (Refused refusal) is

-- nor by the reply to a change that is journaled
pub plan_tells : (capabilities : List Capability) (a : Array Entry) (c : Call) (e : Event) (filled : Fill) (compare : Bool) (answer : Reply)
    → IsJournalPlan capabilities a c e filled compare answer → TellsNoFailure answer
plan_tells capabilities a c e filled compare answer plan =
    subst (λ (r : Reply). TellsNoFailure r) (sym plan.reply_is) (accepted_plain a c plan.wanted plan.asks)

-- a fault of the disk is told in either form
pub read_told : (form : Form) → cause_of (read_failed_as form) ≡ Some fault.ReadFault
read_told AsFault = refl
read_told AsSense = refl

pub write_told : (form : Form) → cause_of (write_failed_as form) ≡ Some fault.WriteFault
write_told AsFault = refl
write_told AsSense = refl

-- .. and a failed read has a text
pub read_fits : (form : Form) → FitsReply (read_failed_as form)
read_fits AsFault = tt
read_fits AsSense = lit≤ tt

pub passed_durable : (a : Array Entry) (c : Call) → (passed a c).durable ≡ a.durable
unfolding passed
passed_durable a c = refl

pub settled_tables : (capabilities : List Capability) (a new : Array Entry) (c : Call) (e : Ended) → IsSettled capabilities a new c e → new.durable.geometry ≡ a.durable.geometry
settled_tables capabilities a new c (ended.Replied answer) is = ap (λ (x : Array Entry). x.durable.geometry) is.1 ∙ ap (λ (d : Durable Entry). d.geometry) (passed_durable a c)
settled_tables capabilities a new c (ended.ReadFailed answer) is = absurd is
settled_tables capabilities a new c (ended.WriteFailed answer) is = absurd is
settled_tables capabilities a new c ended.NoMemory is = ap (λ (x : Array Entry). x.durable.geometry) is

-- a call that writes nothing leaves the array before it at any moment
module _ {D : Type 0} (moment : D → ℕ) (left_since : D → ℕ → List ℕ → Type 0) where
  pub still_left : (old new : D) (capabilities : List Capability) (journal : JournalState) (a : Array Entry) (told : Option (List ℕ)) (images : List ℕ → Type 0) (m : Array ChunkValue) (c : Call) (e : Ended)
      → UpOn journal a told images m → LeavesOnly moment left_since old new images → LeavesOnly moment left_since old new (LeftIn capabilities m c e)
  still_left old new capabilities journal a told images m c e up leaves =
      leaves_weaker moment left_since old new images (LeftIn capabilities m c e)
      (λ image is. left_before capabilities m c e image (up_stands journal a told images m up image is)) leaves

-- ---- a call that reads blocks

-- the disk is read, and the array stands as it did
pub up_read : (journal : JournalState) (a : Array Entry) (told later : Option (List ℕ)) (images laters : List ℕ → Type 0) (m : Array ChunkValue)
    → later ≡ told → ((image : List ℕ) → laters image ↔ images image) → UpOn journal a told images m → UpOn journal a later laters m
up_read journal a told later images laters m same each up =
    subst (λ (t : Option (List ℕ)). UpOn journal a t laters m) (sym same) (up_fewer journal a told images laters m (λ image is. (each image).0 is) up)

not_none : (n : ℕ) → n ≢ 0 → not (n == 0) ≡ true
not_none n some = ap (λ (b : Bool). not b) (ne_eqb n 0 some)

blocks_found : (told : Option (List ℕ)) (content bytes : List ℕ) (a : Array Entry) (volume first blocks : ℕ) → told ≡ Some content
    → IfSome told (λ c. bytes ≡ blocks_at (filled_tables (bytes_at_place a.durable.geometry c) a.durable) volume first blocks)
    → bytes ≡ blocks_at (filled_tables (bytes_at_place a.durable.geometry content) a.durable) volume first blocks
blocks_found told content bytes a volume first blocks is read =
    subst (λ (t : Option (List ℕ)). IfSome t (λ c. bytes ≡ blocks_at (filled_tables (bytes_at_place a.durable.geometry c) a.durable) volume first blocks)) is read

module _ (capabilities : List Capability) (journal : JournalState) (a new : Array Entry) (told later : Option (List ℕ)) (images laters : List ℕ → Type 0) (m : Array ChunkValue) (c : Call)
    (volume first blocks : ℕ) (up : UpOn journal a told images m) (asks : (asked (entry_shape a) c).deed ≡ Reads volume first blocks)
    (same : later ≡ told) (each : (image : List ℕ) → laters image ↔ images image) where
  pub read_served : (bytes : List ℕ) (answer : Reply) → IfSome told (λ content. bytes ≡ blocks_at (filled_tables (bytes_at_place a.durable.geometry content) a.durable) volume first blocks)
      → answer ≡ good bytes → new ≡ passed a c → IsServed capabilities m c journal new later laters (ended.Replied answer)
  read_served bytes answer read told_so stands = (
    told_so
        ∙ ap good (blocks_found told up.content bytes a volume first blocks up.told_is read)
        ∙ ap (λ (x : Array ChunkValue). good (blocks_at x.durable volume first blocks)) up.array_is
        ∙ sym (read_is capabilities a up.content m c up.array_is volume first blocks asks),
    subst (λ (x : Array Entry). UpOn journal x later laters (next capabilities m c)) (sym stands)
        (subst (λ (x : Array ChunkValue). UpOn journal (passed a c) later laters x) (sym (read_next capabilities a up.content m c up.array_is volume first blocks asks))
        (up_passed journal a later laters m c (up_read journal a told later images laters m same each up))),
  )

  pub unread_served : (answer : Reply) → blocks ≢ 0 → answer ≡ read_failed_as AsSense → new ≡ a → IsServed capabilities m c journal new later laters (ended.ReadFailed answer)
  unread_served answer some told_so stands = (
    moves_by capabilities a up.content m c up.array_is (Reads volume first blocks) asks ∙ not_none blocks some,
    told_so ∙ ap read_failed_as (sym (form_by capabilities a up.content m c up.array_is (Reads volume first blocks) asks)),
    subst (λ (x : Array Entry). UpOn journal x later laters m) (sym stands) (up_read journal a told later images laters m same each up),
  )
