-- What is answered to a line that is no call, and what is written ahead of a reply.
use Rattle.std.specs.Prelude.{◌≡◌, ◌⊎◌, ℕ, List, [], Option, None}
use Rattle.vv_flat.specs.Lists.{if_found}
use Rattle.vv_calls.specs.declared.call.LineFault.{LineFault}
use Rattle.vv_calls.specs.declared.call.LineFault.TheVariants as fault
use Rattle.vv_reply.specs.Replies.{recovered_text}
use Rattle.vv_reply.specs.declared.reply.Reply.{Reply}
use Rattle.vv_reply.specs.declared.reply.Reply.TheVariants.{Line}
use Rattle.vv_meaning.specs.Steps.{no_memory}

-- the reply to a line with this fault: want of memory is none of the line
abbrev pub reply_to_fault : LineFault → Reply
reply_to_fault fault.NotJson = Line fault.NotJson
reply_to_fault fault.UnknownCall = Line fault.UnknownCall
reply_to_fault (fault.MissingField name) = Line (fault.MissingField name)
reply_to_fault (fault.BadField name) = Line (fault.BadField name)
reply_to_fault fault.LineTooLong = Line fault.LineTooLong
reply_to_fault fault.NoMemory = no_memory

-- the line of the log number that was recovered, where one was
abbrev pub recovered_line : Option ℕ → List ℕ
recovered_line recovered = if_found recovered recovered_text []

-- a line that is no call is told so, unless there was no memory, and nothing is recovered
abbrev pub IsLineFault : LineFault → Option ℕ → Reply → Type 0
IsLineFault cause recovered answer = (recovered ≡ None) × ((answer ≡ Line cause) ⊎ (answer ≡ no_memory))
