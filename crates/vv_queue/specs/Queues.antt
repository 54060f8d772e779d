-- A host's queue as the list of its commands, the first one first.
use Rattle.std.specs.Prelude.{ℕ, List, [], ◌∷◌, ◌++◌, length, nat_lt, if◌then◌else◌, Result, Ok, Err}
use Rattle.vv_calls.specs.declared.call.ScsiCall.{ScsiCall}
use Rattle.vv_queue.specs.declared.queue.QueueFull.{QueueFull}

-- the most commands
abbrev pub places : ℕ
places = 32

-- a command is taken while there is a place, and handed back else
abbrev pub answer_at : List ScsiCall → ScsiCall → Result (Unit {0}) QueueFull
answer_at queue command = if nat_lt (length queue) places then Ok tt else Err (record { command = command })

-- the queue afterwards
abbrev pub after_submit : List ScsiCall → ScsiCall → List ScsiCall
after_submit queue command = if nat_lt (length queue) places then queue ++ command ∷ [] else queue
