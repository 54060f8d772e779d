-- A line that is no call is a step that changes nothing: for the function that serves a line.
use Rattle.std.proofs.Common.{◌≡◌, inl, inr, ℕ, List, Some, None, Err, refl, ap, ◌∙◌}
use Rattle.std.specs.Prelude.{Option, Result}
use Rattle.vv_disk.specs.Images.{LeavesOnly}
use Rattle.vv_flat.specs.Profiles.{Capability}
use Rattle.vv_calls.specs.Lines.{line_reading}
use Rattle.vv_calls.specs.Steps.{Fails}
use Rattle.vv_calls.specs.declared.call.Call.{Call}
use Rattle.vv_calls.specs.declared.call.LineFault.{LineFault}
use Rattle.vv_calls.specs.declared.call.LineFault.TheVariants as fault
use Rattle.vv_reply.specs.declared.reply.Reply.{Reply}
use Rattle.vv_reply.specs.declared.reply.Reply.TheVariants.{Line}
use Rattle.vv_meaning.specs.Steps.{State, Faulty, NoMemory}
use Rattle.vv_array.specs.Seen.{ArrayView}
use Rattle.vv_array.specs.Standing.{StandsFor}
use Rattle.vv_array.specs.Moments.{StandsBetween}
use Rattle.vv_array.proofs.StateImages.{left_alone}
use Rattle.vv_run.specs.Replies.{reply_to_fault, IsLineFault}
use Rattle.vv_run.specs.Steps.{LineStep}

a_step : (capabilities : List Capability) (old : State) (line : List ℕ) (cause : LineFault) (answer : Reply)
    → Fails cause (line_reading line) → answer ≡ reply_to_fault cause → LineStep capabilities old (Some line) None answer old
a_step capabilities old line fault.NotJson answer fails is = Faulty fault.NotJson fails refl is refl
a_step capabilities old line fault.UnknownCall answer fails is = Faulty fault.UnknownCall fails refl is refl
a_step capabilities old line (fault.MissingField name) answer fails is = Faulty (fault.MissingField name) fails refl is refl
a_step capabilities old line (fault.BadField name) answer fails is = Faulty (fault.BadField name) fails refl is refl
a_step capabilities old line fault.LineTooLong answer fails is = Faulty fault.LineTooLong fails refl is refl
a_step capabilities old line fault.NoMemory answer fails is = NoMemory refl is refl

module _ {D : Type 0} (moment : D → ℕ) (left_since : D → ℕ → List ℕ → Type 0) (is_image : D → List ℕ → Type 0) where
  pub fault_step : ((disk : D) (image : List ℕ) → left_since disk (moment disk) image → is_image disk image)
      → (capabilities : List Capability) (view : ArrayView) (told : Option (List ℕ)) (disk : D) (before : State) (line : List ℕ) (cause : LineFault) (answer : Reply)
      → Fails cause (line_reading line) → answer ≡ reply_to_fault cause → StandsFor view told (is_image disk) before
      → (after : State) × StandsFor view told (is_image disk) after × LineStep capabilities before (Some line) None answer after
      × LeavesOnly moment left_since disk disk (StandsBetween before after)
  fault_step only_now capabilities view told disk before line cause answer fails is stands = (
    before,
    stands,
    a_step capabilities before line cause answer fails is,
    left_alone moment left_since is_image only_now disk view told before before stands,
  )

err_same : (r : Result Call LineFault) (a b : LineFault) → r ≡ Err a → r ≡ Err b → a ≡ b
err_same r a b e f = cc

same_fault : (line : List ℕ) (cause seen : LineFault) → line_reading line ≡ Err seen → line_reading line ≡ Err cause → seen ≡ cause
same_fault line cause seen e f = err_same (line_reading line) seen cause e f

pub fault_told : (line : List ℕ) (cause seen : LineFault) (answer : Reply) → Fails seen (line_reading line) → line_reading line ≡ Err cause
    → answer ≡ reply_to_fault seen → IsLineFault cause None answer
fault_told line cause fault.NotJson answer fails is told = (refl, inl (told ∙ ap Line (same_fault line cause fault.NotJson fails is)))
fault_told line cause fault.UnknownCall answer fails is told = (refl, inl (told ∙ ap Line (same_fault line cause fault.UnknownCall fails is)))
fault_told line cause (fault.MissingField name) answer fails is told = (refl, inl (told ∙ ap Line (same_fault line cause (fault.MissingField name) fails is)))
fault_told line cause (fault.BadField name) answer fails is told = (refl, inl (told ∙ ap Line (same_fault line cause (fault.BadField name) fails is)))
fault_told line cause fault.LineTooLong answer fails is told = (refl, inl (told ∙ ap Line (same_fault line cause fault.LineTooLong fails is)))
fault_told line cause fault.NoMemory answer fails is told = (refl, inr told)
