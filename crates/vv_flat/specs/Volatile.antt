-- What a restart forgets: the queues of the hosts, and the addresses at which a unit attention of SAM-5 waits.
use Rattle.std.specs.Prelude.{ℕ, ◌-◌, ◌==◌, Bool, not, List, [], ◌∷◌, ◌++◌, drop, length, filter, slice_set, slice_index_or, Option, slice_get, nat_le, if◌then◌else◌}
use Rattle.std.specs.List.{list_any}
use Rattle.vv_flat.specs.Lists.{put_before}
use Rattle.vv_flat.specs.State.{Address, QueuedCommand, Volatile}
use Rattle.vv_flat.specs.Bindings.{is_address, is_below}

-- the most commands that wait for one host
abbrev pub queue_limit : ℕ
queue_limit = 32

abbrev pub is_queue_full : List QueuedCommand → Bool
is_queue_full queue = nat_le queue_limit (length queue)

abbrev pub queue_of : Volatile → ℕ → List QueuedCommand
queue_of v host = slice_index_or v.queues (host - 1) []

-- the command of a host that is served next, if there is one
abbrev pub queue_head : Volatile → ℕ → Option QueuedCommand
queue_head v host = slice_get (queue_of v host) 0

abbrev pub with_queue : Volatile → ℕ → List QueuedCommand → Volatile
with_queue v host queue = record v { queues = slice_set v.queues (host - 1) queue }

-- a command goes last in the queue of its host
abbrev pub submitted : Volatile → QueuedCommand → Volatile
submitted v c = with_queue v c.address.host (queue_of v c.address.host ++ c ∷ [])

-- the head is taken off
abbrev pub head_taken : Volatile → ℕ → Volatile
head_taken v host = with_queue v host (drop 1 (queue_of v host))

-- Attentions are a set: each address once, in rising order.
abbrev pub has_attention : List Address → Address → Bool
has_attention attentions a = list_any (λ b. is_address b a) attentions

abbrev pub with_attention : List Address → Address → List Address
with_attention attentions a =
    if has_attention attentions a then attentions else put_before (λ b. is_below a b) a attentions

abbrev pub without_attention : List Address → Address → List Address
without_attention attentions a = filter (λ b. not (is_address b a)) attentions

-- one more at each of some addresses
abbrev pub with_attentions : List Address → List Address → List Address
with_attentions attentions [] = attentions
with_attentions attentions (a ∷ rest) = with_attentions (with_attention attentions a) rest

-- none for a host any more
abbrev pub without_attentions_of : List Address → ℕ → List Address
without_attentions_of attentions host = filter (λ (b : Address). not (b.host == host)) attentions
