-- The queues of hosts as the definitions of the whole array see them, and what is asked for by their commands.
use Rattle.std.specs.Prelude.{ℕ, ◌-◌, List, [], map, slice_index_or, Option, Some, None, if◌then◌else◌}
use Rattle.vv_flat.specs.Lists.{if_found}
use Rattle.vv_flat.specs.State.{QueuedCommand, Volatile}
use Rattle.vv_flat.specs.Volatile.{queue_head, head_taken, submitted}
use Rattle.vv_calls.specs.declared.call.ScsiCall.{ScsiCall}
use Rattle.vv_reply.specs.declared.reply.Answer.TheVariants.{NothingServed}
use Rattle.vv_reply.specs.declared.reply.Reply.TheVariants.{Done}
use Rattle.vv_meaning.specs.Asks.{Answered, Ask, answered}
use Rattle.vv_meaning.specs.Commands.{command_of}
use Rattle.vv_plan.specs.declared.asks.CommandAsk.{CommandAsk}
use Rattle.vv_plan.specs.declared.queues.Submission.{Submission}
use Rattle.vv_plan.specs.CommandAsks.{ask_at}

-- a queue
abbrev pub seen_queue : List ScsiCall → List QueuedCommand
seen_queue queue = map command_of queue

-- that of each host
abbrev pub seen_queues : List (List ScsiCall) → List (List QueuedCommand)
seen_queues queues = map seen_queue queues

-- the commands of a host
abbrev pub commands_of : List (List ScsiCall) → ℕ → List ScsiCall
commands_of queues host = slice_index_or queues (host - 1) []

-- A command that is submitted: it is answered, and goes into its host's queue or not.
abbrev pub submission_ask : Volatile → QueuedCommand → Submission → Ask
submission_ask v c s = record { volatile = (if s.is_taken then submitted v c else v); deed = Answered s.reply }

-- The first command of a host is taken off its queue and asks for this, if there is one.
abbrev pub served_ask : Volatile → ℕ → Option CommandAsk → Ask
served_ask v host None = answered v (Done NothingServed)
served_ask v host (Some ask) =
    if_found (queue_head v host) (λ (c : QueuedCommand). ask_at c.address c.payload (head_taken v host) ask)
    (answered v (Done NothingServed))
