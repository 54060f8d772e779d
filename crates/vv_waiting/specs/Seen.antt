-- How what waits is seen: the queue of each host, that of host 1 first, and the addresses with an attention, as the
-- definitions of the whole array have them.
use Rattle.std.specs.Prelude.{List, map}
use Rattle.vv_flat.specs.State.{Address, QueuedCommand, Volatile}
use Rattle.vv_calls.specs.declared.call.ScsiCall.{ScsiCall}
use Rattle.vv_meaning.specs.Commands.{command_of}

abbrev pub seen_queue : List ScsiCall → List QueuedCommand
seen_queue queue = map command_of queue

abbrev pub seen_waiting : List (List ScsiCall) → List Address → Volatile
seen_waiting queues attentions = record { queues = map seen_queue queues; attentions = attentions }
