-- The queues of hosts, where one of them changes.
use Rattle.std.proofs.Common.{ℕ, zero, suc, ◌≡◌, ◌+◌, ◌-◌, ◌<◌, ◌≤◌, List, [], ◌∷◌, ◌++◌, map, length, take, drop, replicate, slice_index_or, slice_set, refl, sym, ap, ◌∙◌, arith}
use Rattle.std.proofs.lemmas.List.{map-set, map-append, get_or-map, replicate-append-replicate}
use Rattle.vv_flat.specs.State.{Address, QueuedCommand, Volatile}
use Rattle.vv_flat.specs.Volatile.{queue_of, submitted, head_taken}
use Rattle.vv_calls.specs.declared.call.ScsiCall.{ScsiCall}
use Rattle.vv_meaning.specs.Commands.{command_of}
use Rattle.vv_waiting.specs.Seen.{seen_queue, seen_waiting}

-- the queue at a place is seen there
pub queue_seen : (queues : List (List ScsiCall)) (i : ℕ) (d : List ScsiCall) → i < length queues
    → slice_index_or (map seen_queue queues) i [] ≡ seen_queue (slice_index_or queues i d)
queue_seen queues i d within = get_or-map seen_queue queues i d [] within

-- another one there
pub other_queue : (queues : List (List ScsiCall)) (attentions : List Address) (i : ℕ) (q : List ScsiCall)
    → seen_waiting (slice_set queues i q) attentions ≡ record (seen_waiting queues attentions) { queues = slice_set (map seen_queue queues) i (seen_queue q) }
other_queue queues attentions i q = ap (λ (qs : List (List QueuedCommand)). let v : Volatile = record { queues = qs; attentions = attentions } in v) (map-set seen_queue queues i q)

pub seen_more : (q : List ScsiCall) (c : ScsiCall) → seen_queue (q ++ c ∷ []) ≡ seen_queue q ++ command_of c ∷ []
seen_more q c = map-append command_of q (c ∷ [])

pub seen_less : (q : List ScsiCall) → seen_queue (drop 1 q) ≡ drop 1 (seen_queue q)
seen_less [] = refl
seen_less (c ∷ q) = refl

-- all are empty
pub seen_none : (n : ℕ) → map seen_queue (replicate n []) ≡ replicate n []
seen_none zero = refl
seen_none (suc n) = ap (λ (qs : List (List QueuedCommand)). [] ∷ qs) (seen_none n)

-- ---- one queue changes
module _ (queues : List (List ScsiCall)) (attentions : List Address) (host at : ℕ) (q d : List ScsiCall) (many : length queues ≡ 64) (from_one : 1 ≤ host) (few : host ≤ 64)
    (place : at ≡ host - 1) (found : q ≡ slice_index_or queues at d) where
  abbrev with_queue_at : ℕ → List QueuedCommand → Volatile
  with_queue_at i cs = record { queues = slice_set (map seen_queue queues) i cs; attentions = attentions }

  now : seen_queue q ≡ queue_of (seen_waiting queues attentions) host
  now =
      ap seen_queue found ∙ sym (queue_seen queues at d (omega (arith, many, from_one, few, place)))
      ∙ ap (λ i. slice_index_or (map seen_queue queues) i []) place

  pub submitted_seen : (next : List ScsiCall) (c : ScsiCall) → c.host.0 ≡ host → next ≡ q ++ c ∷ []
      → seen_waiting (slice_set queues at next) attentions ≡ submitted (seen_waiting queues attentions) (command_of c)
  submitted_seen next c of_host is =
      let queue : seen_queue next ≡ queue_of (seen_waiting queues attentions) host ++ command_of c ∷ [] =
      ap seen_queue is ∙ seen_more q c ∙ ap (λ (cs : List QueuedCommand). cs ++ command_of c ∷ []) now in
      other_queue queues attentions at next
      ∙ ap (λ (cs : List QueuedCommand). with_queue_at at cs) queue
      ∙ ap (λ i. with_queue_at i (queue_of (seen_waiting queues attentions) host ++ command_of c ∷ [])) place
      ∙ ap (λ h. with_queue_at (h - 1) (queue_of (seen_waiting queues attentions) h ++ command_of c ∷ [])) (sym of_host)

  pub taken_seen : (next : List ScsiCall) → next ≡ drop 1 q → seen_waiting (slice_set queues at next) attentions ≡ head_taken (seen_waiting queues attentions) host
  taken_seen next is =
      let queue : seen_queue next ≡ drop 1 (queue_of (seen_waiting queues attentions) host) = ap seen_queue is ∙ seen_less q ∙ ap (λ (cs : List QueuedCommand). drop 1 cs) now in
      other_queue queues attentions at next
      ∙ ap (λ (cs : List QueuedCommand). let v : Volatile = record { queues = slice_set (map seen_queue queues) at cs; attentions = attentions } in v) queue
      ∙ ap (λ i. let v : Volatile = record { queues = slice_set (map seen_queue queues) i (drop 1 (queue_of (seen_waiting queues attentions) host)); attentions = attentions } in v) place

-- one empty queue more
pub one_more : {A : Type 0} (n : ℕ) (x : A) → replicate n x ++ x ∷ [] ≡ replicate (n + 1) x
one_more n x = replicate-append-replicate n 1 x

-- cleared ones are seen as empty
pub cleared_seen : (queues : List (List ScsiCall)) (n : ℕ) → length queues ≡ n → map seen_queue (map (λ (q : List ScsiCall). let none : List ScsiCall = [] in none) queues) ≡ replicate n []
cleared_seen [] zero long = refl
cleared_seen [] (suc n) long = absurd (cc)
cleared_seen (q ∷ queues) zero long = absurd (cc)
cleared_seen (q ∷ queues) (suc n) long =
    let rest : length queues ≡ n = cc in
    ap (λ (qs : List (List QueuedCommand)). [] ∷ qs) (cleared_seen queues n rest)
