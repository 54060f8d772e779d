-- The meaning of each call over a flat array: its reply, and the array after it. Both are decided by the shape, the queues
-- and the attentions, but for the data of a READ, the comparison of a COMPARE AND WRITE, and the new bytes of chunks.
use Rattle.std.specs.Prelude.{ℕ, ◌&&◌, Bool, false, not, List, [], Option, Some, if◌then◌else◌}
use Rattle.std.specs.Str.{bytes_eq}
use Rattle.vv_flat.specs.Lists.{if_found}
use Rattle.vv_flat.specs.State.{Volume, Durable, Array, volume_of}
use Rattle.vv_flat.specs.Chunks.{ChunkValue, shape, blocks_read, same_blocks}
use Rattle.vv_flat.specs.Profiles.{Capability}
use Rattle.vv_flat.specs.Refusals.{Verdict, Refuse, Nothing, Accept}
use Rattle.vv_flat.specs.Changes.{Change, Write, judge, misfit_in, apply_shape, attentions_after}
use Rattle.vv_flat.specs.Replay.{is_accepted}
use Rattle.vv_flat.specs.Flat.{array_after}
use Rattle.vv_calls.specs.declared.call.Call.{Call}
use Rattle.vv_reply.specs.declared.reply.Reply.{Reply}
use Rattle.vv_meaning.specs.Asks.{NewBytes, Without, These, Repeated, OfImage, Wanted, Deed, Answered, Reads, Changes, Ask}
use Rattle.vv_meaning.specs.Told.{good, miscompared, refused_as}
use Rattle.vv_meaning.specs.Calls.{asked}

-- the shape of a flat array, with its queues and attentions
abbrev pub array_shape : Array ChunkValue → Array ℕ
array_shape a = record { durable = shape a.durable; volatile = a.volatile }

-- What some blocks of a volume have: a volume, its first block, and how many blocks.
abbrev pub BlocksAt : Type 0
BlocksAt = ℕ → ℕ → ℕ → List ℕ

-- those of a flat array
abbrev pub blocks_at : Durable ChunkValue → BlocksAt
blocks_at d n first blocks = if_found (volume_of d n) (λ (v : Volume ChunkValue). blocks_read v.chunks first blocks) []

-- How a change is answered over a shape by an array that knows these capabilities.
unfoldable pub verdict_on : List Capability → Durable ℕ → Change → Verdict
verdict_on capabilities d change = judge (misfit_in capabilities d change) d change

-- Whether the blocks where a write is to be aren't those with which it is to compare them.
abbrev pub differs : BlocksAt → Change → Option (List ℕ) → Bool
differs blocks (Write volume first n) (Some expected) = not (bytes_eq (blocks volume first n) expected)
differs blocks _ _ = false

-- The reply to a change, by how it is answered. A miscompare comes after every refusal.
abbrev pub told : BlocksAt → Wanted → Verdict → Reply
told blocks w (Refuse refusal) = refused_as w.form refusal
told blocks w Nothing = w.nothing
told blocks w Accept = if differs blocks w.change w.compared then miscompared else w.accepted

abbrev pub reply_to : BlocksAt → List Capability → Durable ℕ → Deed → Reply
reply_to blocks capabilities d (Answered reply) = reply
reply_to blocks capabilities d (Reads volume first n) = good (blocks volume first n)
reply_to blocks capabilities d (Changes w) = told blocks w (verdict_on capabilities d w.change)

-- The reply to a call of an array with this shape whose blocks are these.
unfoldable pub reply_over : BlocksAt → List Capability → Array ℕ → Call → Reply
unfolding asked verdict_on
reply_over blocks capabilities a c = reply_to blocks capabilities a.durable (asked a c).deed

-- The reply to a call of a flat array.
unfoldable pub reply : List Capability → Array ChunkValue → Call → Reply
unfolding reply_over
reply capabilities a c = reply_over (blocks_at a.durable) capabilities (array_shape a) c

-- whether a change that is asked for is done: it is accepted, and no miscompare is found
abbrev pub is_done : BlocksAt → List Capability → Durable ℕ → Wanted → Bool
is_done blocks capabilities d w =
    is_accepted (verdict_on capabilities d w.change) && not (differs blocks w.change w.compared)

-- the bytes that a change is handed
abbrev pub bytes_for : NewBytes → List ℕ
bytes_for Without = []
bytes_for (These bytes) = bytes
bytes_for (Repeated block blocks) = same_blocks block blocks
bytes_for OfImage = []

-- The array after a deed: a change that is done is done with its bytes, and else all stays.
abbrev pub after_deed : List Capability → Array ChunkValue → Deed → Array ChunkValue
after_deed capabilities a (Answered reply) = a
after_deed capabilities a (Reads volume first n) = a
after_deed capabilities a (Changes w) =
    if is_done (blocks_at a.durable) capabilities (shape a.durable) w then array_after a w.change (bytes_for w.bytes) else a

abbrev pub after_ask : List Capability → Array ChunkValue → Ask → Array ChunkValue
after_ask capabilities a ask = after_deed capabilities (record a { volatile = ask.volatile }) ask.deed

-- The flat array after a call.
unfoldable pub next : List Capability → Array ChunkValue → Call → Array ChunkValue
unfolding asked verdict_on
next capabilities a c = after_ask capabilities a (asked (array_shape a) c)

-- The shape after a call, where the blocks are these: it goes the same way, without the bytes.

abbrev pub shape_after : Array ℕ → Change → Array ℕ
shape_after a change = record {
  durable = apply_shape a.durable change;
  volatile = record a.volatile { attentions = attentions_after a.durable change a.volatile.attentions };
}

abbrev pub shape_after_deed : BlocksAt → List Capability → Array ℕ → Deed → Array ℕ
shape_after_deed blocks capabilities a (Answered reply) = a
shape_after_deed blocks capabilities a (Reads volume first n) = a
shape_after_deed blocks capabilities a (Changes w) =
    if is_done blocks capabilities a.durable w then shape_after a w.change else a

abbrev pub shape_after_ask : BlocksAt → List Capability → Array ℕ → Ask → Array ℕ
shape_after_ask blocks capabilities a ask =
    shape_after_deed blocks capabilities (record a { volatile = ask.volatile }) ask.deed

unfoldable pub next_shape : BlocksAt → List Capability → Array ℕ → Call → Array ℕ
unfolding asked verdict_on
next_shape blocks capabilities a c = shape_after_ask blocks capabilities a (asked a c)
