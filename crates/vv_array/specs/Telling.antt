-- How a fault of the disk is told to a call, by the reply that it would get.
use Rattle.std.specs.Prelude.{Bool, true, false, if◌then◌else◌}
use Rattle.vv_reply.specs.declared.reply.Reply.{Reply}
use Rattle.vv_reply.specs.declared.reply.Reply.TheVariants as reply
use Rattle.vv_meaning.specs.Asks.{Form, AsFault, AsSense}

-- whether a reply is that of a command to a logical unit
abbrev pub ends_command : Reply → Bool
ends_command (reply.Done answer) = false
ends_command (reply.Refused refusal) = false
ends_command (reply.Scsi scsi) = true
ends_command (reply.Line fault) = false

-- to a command with its sense, and else as a fault alone
abbrev pub form_when : Bool → Form
form_when is_command = if is_command then AsSense else AsFault
