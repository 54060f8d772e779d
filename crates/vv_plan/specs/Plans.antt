-- What of the row of a call is planned.
use Rattle.std.specs.Prelude.{ℕ, Bool, true, Option, Some, None, if◌then◌else◌}
use Rattle.vv_flat.specs.State.{Volatile, Durable, Array}
use Rattle.vv_flat.specs.Changes.{Change}
use Rattle.vv_calls.specs.declared.call.Call.{Call}
use Rattle.vv_calls.specs.declared.call.Call.TheVariants as call
use Rattle.vv_reply.specs.declared.reply.Reply.{Reply}
use Rattle.vv_meaning.specs.Asks.{Deed, Answered, Reads, Changes}
use Rattle.vv_meaning.specs.Calls.{asked}
use Rattle.vv_meaning.specs.Forms.{is_command_call}

-- the change that is asked for, if one is
abbrev pub change_in : Deed → Option Change
change_in (Answered reply) = None
change_in (Reads volume first blocks) = None
change_in (Changes wanted) = Some wanted.change

-- The change of a command, or of a turn of a clone, takes places.
abbrev pub may_take_places : Call → Bool
may_take_places (call.Turn task) = true
may_take_places c = is_command_call c

-- the change that a call asks for that never takes a place, if it asks for one
unfoldable pub plain_change : Array ℕ → Call → Option Change
unfolding asked
plain_change a c = if may_take_places c then None else change_in (asked a c).deed

-- The replies to a change that is asked for, if one is: where it is accepted, and where it would change nothing.

abbrev pub accepted_in : Deed → Option Reply
accepted_in (Answered reply) = None
accepted_in (Reads volume first blocks) = None
accepted_in (Changes wanted) = Some wanted.accepted

abbrev pub nothing_in : Deed → Option Reply
nothing_in (Answered reply) = None
nothing_in (Reads volume first blocks) = None
nothing_in (Changes wanted) = Some wanted.nothing

-- the reply of what is answered at once
abbrev pub answer_in : Deed → Option Reply
answer_in (Answered reply) = Some reply
answer_in (Reads volume first blocks) = None
answer_in (Changes wanted) = None

unfoldable pub answered_reply : Array ℕ → Call → Option Reply
unfolding asked
answered_reply a c = if is_command_call c then None else answer_in (asked a c).deed

-- those of the change that a call asks for which is no command

unfoldable pub accepted_reply : Array ℕ → Call → Option Reply
unfolding asked
accepted_reply a c = if is_command_call c then None else accepted_in (asked a c).deed

unfoldable pub nothing_reply : Array ℕ → Call → Option Reply
unfolding asked
nothing_reply a c = if is_command_call c then None else nothing_in (asked a c).deed

-- an array of this shape
abbrev pub with_volatile : Durable ℕ → Volatile → Array ℕ
with_volatile d v = record { durable = d; volatile = v }
