-- What a call asks of an array. It is decided by the shape of the array, its queues and its attentions alone: no byte of
-- a chunk is looked at. This is this project's own.
use Rattle.std.specs.Prelude.{ℕ, List, Option}
use Rattle.vv_flat.specs.State.{Volatile}
use Rattle.vv_flat.specs.Changes.{Change}
use Rattle.vv_reply.specs.declared.reply.Reply.{Reply}

-- The bytes that a change brings: none, those that came with a command, one block as often as there are blocks, or
-- those of the image that a turn of a clone copies, which the array has itself.
pub data NewBytes : Type 0 where
  Without : NewBytes
  These : (bytes : List ℕ) → NewBytes
  Repeated : (block : List ℕ) (blocks : ℕ) → NewBytes
  OfImage : NewBytes

-- How a refusal and a fault of the disk are told: as a fault of a call, or as the sense of a command, with the fault
-- beside it.
pub data Form : Type 0 where
  AsFault : Form
  AsSense : Form

-- A change that is asked for, with the bytes that it brings. A write may ask for a comparison ahead of it, with the blocks
-- that are to stand where it writes. The reply is one where the change is accepted, and one where it would change nothing.
pub record Wanted : Type 0 where
  pub change : Change
  pub bytes : NewBytes
  pub compared : Option (List ℕ)
  pub form : Form
  pub accepted : Reply
  pub nothing : Reply

-- A call is answered at once, with this reply; or blocks of a volume are read, and are the data of the reply; or a
-- change is asked for, and the reply goes by how it is answered.
pub data Deed : Type 0 where
  Answered : (reply : Reply) → Deed
  Reads : (volume first blocks : ℕ) → Deed
  Changes : (wanted : Wanted) → Deed

-- What is asked, and the queues and attentions once it was asked. An accepted change may change the attentions further.
pub record Ask : Type 0 where
  pub volatile : Volatile
  pub deed : Deed

abbrev pub answered : Volatile → Reply → Ask
answered volatile reply = record { volatile = volatile; deed = Answered reply }

abbrev pub wants : Volatile → Wanted → Ask
wants volatile wanted = record { volatile = volatile; deed = Changes wanted }
