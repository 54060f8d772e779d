-- Replies that tell a fault of the disk, or that there was no memory, and their causes.
use Rattle.std.specs.Prelude.{◌≡◌, ℕ, Bool, true, false, Option, Some, None, IsTrue}
use Rattle.vv_units.specs.Causes.{Rose}
use Rattle.vv_reply.specs.declared.reply.Reply.{Reply}
use Rattle.vv_reply.specs.declared.reply.Reply.TheVariants as reply
use Rattle.vv_reply.specs.declared.reply.Refusal.{Refusal}
use Rattle.vv_reply.specs.declared.reply.Refusal.TheVariants as fault

-- the fault that a reply tells: as a refusal, or as the cause of a sense
abbrev pub cause_of : Reply → Option Refusal
cause_of (reply.Refused refusal) = Some refusal
cause_of (reply.Scsi scsi) = scsi.cause
cause_of (reply.Done answer) = None
cause_of (reply.Line fault) = None

-- A fault of the disk is told only where its count rose in the call.
pub record HasItsCause (reads_before reads_now writes_before writes_now : ℕ) (answer : Reply) : Type 0 where
  pub reads : cause_of answer ≡ Some fault.ReadFault → Rose reads_before reads_now
  pub writes : cause_of answer ≡ Some fault.WriteFault → Rose writes_before writes_now
