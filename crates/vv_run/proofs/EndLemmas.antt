-- How a run ends whose image was made or opened. It serves the top call.
use Rattle.std.proofs.Common.{◌≡◌, ◌<◌, ◌≤◌, ◌⊎◌, inl, inr, ℕ, Bool, true, false, List, length, Option, None, Some, IfSome, refl, sym, ap, ◌∙◌, subst, arith}
use Rattle.vv_journal.specs.declared.opening.OpenFault.{OpenFault}
use Rattle.vv_image.specs.Opening.{opened}
use Rattle.vv_io.specs.Reading.{script_limit}
use Rattle.vv_run.specs.declared.words.Command.{Command}
use Rattle.vv_run.specs.declared.words.Command.TheVariants.{Run}
use Rattle.vv_run.specs.declared.status.Status.{Status}
use Rattle.vv_run.specs.declared.status.Status.TheVariants.{Done, BadWords, SourceFault, SinkFault, NotFormatted, Damaged, DeviceFault, NoMemory, TooMuch, WrongSize}
use Rattle.vv_run.specs.Status.{is_unserved, IsFit, IsOpenable, EndsAsFound}

same_command : (asked : Option Command) (k : Command) → asked ≡ Some k → asked ≡ Some Run → k ≡ Run
same_command asked k is run = cc

-- an image that can be opened has no fault that a run could tell
no_fault : (told : Option (List ℕ)) (status : Status) → IfSome told IsOpenable → IfSome told (EndsAsFound status)
no_fault None status openable = tt
no_fault (Some image) status openable = λ fault is. absurd (openable fault is)

pub fit_as_found : (asked : Option Command) (k : Command) (size : ℕ) (told : Option (List ℕ)) (status : Status) → asked ≡ Some k → asked ≡ Some Run → IsFit k size told → IfSome told (EndsAsFound status)
fit_as_found asked k size told status is run fit =
    no_fault told status (subst (λ (c : Command). IsFit c size told) (same_command asked k is run) fit)

true_false : {A : Type 0} → true ≡ false → A
true_false e = absurd (cc)

served_done : (status : Status) (told : List ℕ) (Source Sink : Type 0) → is_unserved status ≡ false → (status ≡ SourceFault → Source) → (status ≡ SinkFault → Sink)
    → (status ≡ TooMuch → script_limit < length told) → length told ≤ script_limit → ¬ Source → ¬ Sink → (status ≡ Done) ⊎ (status ≡ NoMemory)
served_done Done told Source Sink served source sink past within no_source no_sink = inl refl
served_done BadWords told Source Sink served source sink past within no_source no_sink = true_false served
served_done SourceFault told Source Sink served source sink past within no_source no_sink = absurd (no_source (source refl))
served_done SinkFault told Source Sink served source sink past within no_source no_sink = absurd (no_sink (sink refl))
served_done NotFormatted told Source Sink served source sink past within no_source no_sink = true_false served
served_done (Damaged damage) told Source Sink served source sink past within no_source no_sink = true_false served
served_done DeviceFault told Source Sink served source sink past within no_source no_sink = true_false served
served_done NoMemory told Source Sink served source sink past within no_source no_sink = true_false served
served_done TooMuch told Source Sink served source sink past within no_source no_sink = absurd (omega (arith, past refl, within))
served_done (WrongSize needed found) told Source Sink served source sink past within no_source no_sink = true_false served

-- a script within the limit is served to its end, where nothing failed
pub served_whole : (status : Status) (left : Option (List ℕ)) (Rest : List ℕ → Type 0) (Source Sink Reads Writes : Type 0) → is_unserved status ≡ false
    → (status ≡ SourceFault → Source) → (status ≡ SinkFault → Sink) → (status ≡ TooMuch → IfSome left (λ told. (script_limit < length told) × Rest told))
    → IfSome left (λ told. length told ≤ script_limit → ¬ Source → ¬ Sink → ¬ Reads → ¬ Writes → (status ≡ Done) ⊎ (status ≡ NoMemory))
served_whole status None Rest Source Sink Reads Writes served source sink past = tt
served_whole status (Some told) Rest Source Sink Reads Writes served source sink past = λ within no_source no_sink no_read no_write.
    served_done status told Source Sink served source sink (λ is. (past is).0) within no_source no_sink
