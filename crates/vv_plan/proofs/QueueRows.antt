-- The queues of hosts: where there is none, and what the first command of one asks for.
use Rattle.std.proofs.Common.{ℕ, zero, suc, ◌≡◌, ◌-◌, List, [], ◌∷◌, map, Option, None, Some, slice_index_or, refl, sym, ap, ◌∙◌}
use Rattle.std.specs.List.{slice_get}
use Rattle.vv_flat.specs.Lists.{if_found}
use Rattle.vv_flat.specs.State.{Address, QueuedCommand, Array}
use Rattle.vv_flat.specs.Volatile.{queue_head, head_taken}
use Rattle.vv_calls.specs.declared.call.ScsiCall.{ScsiCall}
use Rattle.vv_reply.specs.declared.reply.Answer.TheVariants.{NothingServed}
use Rattle.vv_reply.specs.declared.reply.Reply.TheVariants.{Done}
use Rattle.vv_meaning.specs.Asks.{answered}
use Rattle.vv_meaning.specs.Commands.{commanded, served}
use Rattle.vv_plan.specs.declared.asks.CommandAsk.{CommandAsk}
use Rattle.vv_plan.specs.CommandAsks.{ask_at}
use Rattle.vv_plan.specs.SeenArrays.{seen_volatile}
use Rattle.vv_plan.specs.SeenQueues.{seen_queues, commands_of, served_ask}

none_at : {A : Type 0} (xs : List (List A)) (i : ℕ) → None ≡ slice_get xs i → [] ≡ slice_index_or xs i []
none_at [] i e = refl
none_at (x ∷ xs) zero e = absurd (cc)
none_at (x ∷ xs) (suc i) e = none_at xs i e

none_mapped : {A B : Type 0} (f : A → B) (xs : List A) (i : ℕ) → None ≡ slice_get xs i → None ≡ slice_get (map f xs) i
none_mapped f [] i e = refl
none_mapped f (x ∷ xs) zero e = absurd (cc)
none_mapped f (x ∷ xs) (suc i) e = none_mapped f xs i e

-- where a host has no queue it has no command
pub no_commands : (queues : List (List ScsiCall)) (host : ℕ) → None ≡ slice_get queues (host - 1) → [] ≡ commands_of queues host
no_commands queues host e = none_at queues (host - 1) e

pub no_head : (queues : List (List ScsiCall)) (host : ℕ) (attentions : List Address) → None ≡ slice_get queues (host - 1)
    → None ≡ queue_head (seen_volatile (seen_queues queues) attentions) host
no_head queues host attentions e = ap (λ (q : List QueuedCommand). slice_get q 0) (none_at (seen_queues queues) (host - 1) (none_mapped _ queues (host - 1) e))

pub served_some : (a : Array ℕ) (host : ℕ) (c : QueuedCommand) (ask : CommandAsk) → Some c ≡ queue_head a.volatile host
    → commanded (record a { volatile = head_taken a.volatile host }) c ≡ ask_at c.address c.payload (head_taken a.volatile host) ask
    → served a host ≡ served_ask a.volatile host (Some ask)
unfolding served
served_some a host c ask e h =
    ap (λ (o : Option QueuedCommand). if_found o (commanded (record a { volatile = head_taken a.volatile host })) (answered a.volatile (Done NothingServed))) (sym e)
    ∙ h
    ∙ ap (λ (o : Option QueuedCommand). if_found o (λ (c : QueuedCommand). ask_at c.address c.payload (head_taken a.volatile host) ask) (answered a.volatile (Done NothingServed))) e

pub served_none : (a : Array ℕ) (host : ℕ) → None ≡ queue_head a.volatile host → served a host ≡ served_ask a.volatile host None
unfolding served
served_none a host e =
    ap (λ (o : Option QueuedCommand). if_found o (commanded (record a { volatile = head_taken a.volatile host })) (answered a.volatile (Done NothingServed))) (sym e)
