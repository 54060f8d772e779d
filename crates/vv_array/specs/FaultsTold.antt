-- Which replies tell a fault of the disk, of the image or of memory, and with which end of a call.
use Rattle.std.specs.Prelude.{◌≡◌, Bool, true, false, Some, ⊤}
use Rattle.vv_flat.specs.Lists.{if_found}
use Rattle.vv_reply.specs.declared.reply.Reply.{Reply}
use Rattle.vv_reply.specs.declared.reply.Refusal.{Refusal}
use Rattle.vv_reply.specs.declared.reply.Refusal.TheVariants as fault
use Rattle.vv_array.specs.Faults.{cause_of}
use Rattle.vv_array.specs.declared.ended.Ended.{Ended}
use Rattle.vv_array.specs.declared.ended.Ended.TheVariants as ended

-- whether a refusal tells a fault of the disk, of the image or of memory, and no rule of the array
abbrev pub is_failure : Refusal → Bool
is_failure fault.ReadFault = true
is_failure fault.WriteFault = true
is_failure (fault.Damaged damage) = true
is_failure fault.NoMemory = true
is_failure _ = false

-- no such fault is told by a reply
abbrev pub TellsNoFailure : Reply → Type 0
TellsNoFailure answer = if_found (cause_of answer) is_failure false ≡ false

-- A fault is told where the call ended by it, and no other.
abbrev pub TellsItsFailure : Ended → Type 0
TellsItsFailure (ended.Replied answer) = TellsNoFailure answer
TellsItsFailure (ended.ReadFailed answer) = cause_of answer ≡ Some fault.ReadFault
TellsItsFailure (ended.WriteFailed answer) = cause_of answer ≡ Some fault.WriteFault
TellsItsFailure ended.NoMemory = ⊤
