-- The form of what a restart forgets: a queue for each host, and unit attentions at bound addresses. This is this
-- project's own.
use Rattle.std.specs.Prelude.{ℕ, ◌+◌, ◌==◌, ◌&&◌, Bool, true, List, [], ◌∷◌, length, is_some, nat_le}
use Rattle.std.specs.List.{list_all}
use Rattle.vv_flat.specs.Lists.{all_rise}
use Rattle.vv_flat.specs.State.{Address, Binding, QueuedCommand, Array, host_limit}
use Rattle.vv_flat.specs.Bindings.{is_below, binding_at}
use Rattle.vv_flat.specs.Volatile.{queue_limit}

-- at most 32 commands, all of this host
abbrev pub is_queue_of : ℕ → List QueuedCommand → Bool
is_queue_of host queue =
    nat_le (length queue) queue_limit && list_all (λ (c : QueuedCommand). c.address.host == host) queue

-- the queues of the hosts from this one on
abbrev pub are_queues : ℕ → List (List QueuedCommand) → Bool
are_queues host [] = true
are_queues host (queue ∷ queues) = is_queue_of host queue && are_queues (host + 1) queues

-- attentions rise, and each is at an address where a volume is bound
abbrev pub are_attentions : List Binding → List Address → Bool
are_attentions bindings attentions =
    all_rise is_below attentions && list_all (λ a. is_some (binding_at bindings a)) attentions

unfoldable pub has_volatile_form : {X : Type 0} → Array X → Bool
has_volatile_form a =
    (length a.volatile.queues == host_limit) && are_queues 1 a.volatile.queues
    && are_attentions a.durable.bindings a.volatile.attentions
