-- Fields of bytes, big endian: the bytes of a number and the number of bytes, whether so many bytes are left at a
-- place, the bytes and the field at a place, and what writers and readers are seen as.
use Rattle.std.specs.Prelude.{ℕ, ◌+◌, ◌*◌, ◌^◌, ◌<◌, Bool, nat_le, List, [], ◌∷◌, length, slice_index, take, drop, Option, Some, None, if◌then◌else◌}
use Rattle.std.specs.Option.{option_map}
use Rattle.std.specs.Int.{bytes_high_first}

-- A writer: the bytes written so far, and how many bytes are left of its capacity.
pub record WriterState : Type 0 where
  pub bytes : List ℕ
  pub left : ℕ

-- A reader: all the bytes, and the place of the next one.
pub record ReaderState : Type 0 where
  pub bytes : List ℕ
  pub at : ℕ

-- the lowest n bytes of a number, the highest of them first
unfoldable pub be_bytes : ℕ → ℕ → List ℕ
be_bytes n number = bytes_high_first n number

-- the number of bytes, the highest first: a byte is worth 256 times as much for each byte after it
unfoldable pub be_number : List ℕ → ℕ
be_number [] = 0
be_number (byte ∷ bytes) = byte * 256 ^ length bytes + be_number bytes

-- Each number of a list is a byte.
abbrev pub AreBytes : List ℕ → Type 0
AreBytes bytes = (i : ℕ) → slice_index bytes i < 256

-- whether n bytes are left at a place
abbrev pub is_left : List ℕ → ℕ → ℕ → Bool
is_left bytes at n = nat_le (at + n) (length bytes)

-- the n bytes at a place, and None where too few are left
unfoldable pub taken_at : ℕ → List ℕ → ℕ → Option (List ℕ)
taken_at n bytes at = if is_left bytes at n then Some (take n (drop at bytes)) else None

-- the number of the n bytes at a place, and None where too few are left
unfoldable pub field_at : ℕ → List ℕ → ℕ → Option ℕ
field_at n bytes at = option_map be_number (taken_at n bytes at)

-- A reader moves on by n bytes where something was read, and stays where nothing was.
abbrev pub moved_on : {A : Type 0} → ℕ → Option A → ReaderState → ReaderState
moved_on n (Some value) reader = record { bytes = reader.bytes; at = reader.at + n }
moved_on n None reader = reader
