-- Reading fields of bytes, one after the other. A form says what is read of a reader, which is the bytes and the place
-- of the next one: a value and the reader behind it, or the place of the fault. A field fails at its first byte where
-- its value isn't allowed, and at the end of the bytes where they end before or within it.
use Rattle.std.specs.Prelude.{◌≡◌, ℕ, zero, suc, ◌+◌, ◌&&◌, Bool, List, [], ◌∷◌, ◌++◌, length, Option, Some, None, Result, Ok, Err, ⊤, nat_le, if◌then◌else◌}
use Rattle.vv_fields.specs.Fields.{ReaderState, field_at, taken_at}
use Rattle.vv_record.specs.declared.record.RecordFault.{RecordFault}
use Rattle.vv_record.specs.declared.record.RecordFault.TheVariants as fault

pub data Reading (A : Type 0) : Type 0 where
  Read : (value : A) (behind : ReaderState) → Reading A
  Fault : (at : ℕ) → Reading A

abbrev pub Form : Type 0 → Type 0
Form A = ReaderState → Reading A

-- Forms one after the other: the next is read behind the one before it, and may look at its value.

abbrev pub then_read : {A B : Type 0} → Reading A → (A → Form B) → Reading B
then_read (Read value behind) next = next value behind
then_read (Fault at) next = Fault at

infixl 10 ◌>>=◌
abbrev pub ◌>>=◌ : {A B : Type 0} → Form A → (A → Form B) → Form B
(form >>= next) reader = then_read (form reader) next

-- nothing more is read
abbrev pub done : {A : Type 0} → A → Form A
done value reader = Read value reader

-- n bytes were found at the reader's place, or the bytes ended
abbrev pub found : {A : Type 0} → ℕ → Option A → Form A
found n (Some value) reader = Read value (record { bytes = reader.bytes; at = reader.at + n })
found n None reader = Fault (length reader.bytes)

-- a number of n bytes
unfoldable pub number : ℕ → Form ℕ
number n reader = found n (field_at n reader.bytes reader.at) reader

-- n bytes
unfoldable pub bytes : ℕ → Form (List ℕ)
bytes n reader = found n (taken_at n reader.bytes reader.at) reader

-- a field whose value is allowed
abbrev pub checked : {A : Type 0} → (A → Bool) → ℕ → Reading A → Reading A
checked is_allowed at (Read value behind) = if is_allowed value then Read value behind else Fault at
checked is_allowed at (Fault place) = Fault place

unfoldable pub allowed : {A : Type 0} → (A → Bool) → Form A → Form A
allowed is_allowed form reader = checked is_allowed reader.at (form reader)

-- whether a number is from low to high
abbrev pub is_within : ℕ → ℕ → ℕ → Bool
is_within low high value = nat_le low value && nat_le value high

-- a number of n bytes from low to high
unfoldable pub number_within : ℕ → ℕ → ℕ → Form ℕ
number_within n low high = allowed (is_within low high) (number n)

-- n more items, each read behind those before it, which it may look at
unfoldable pub items : {A : Type 0} → (List A → Form A) → ℕ → List A → Form (List A)
items item zero before = done before
items item (suc n) before = do
  next ← item before
  items item n (before ++ next ∷ [])

-- What a call returned, seen by view, is what is read, unless there was no memory.

abbrev pub Fails : {A : Type 0} → RecordFault → Reading A → Type 0
Fails (fault.Bad at) reading = reading ≡ Fault at
Fails fault.NoMemory reading = ⊤

abbrev pub GivesSeen : {A B : Type 0} → (A → B) → Result A RecordFault → ReaderState → Reading B → Type 0
GivesSeen view (Ok value) behind reading = reading ≡ Read (view value) behind
GivesSeen view (Err e) behind reading = Fails e reading

abbrev pub Gives : {A : Type 0} → Result A RecordFault → ReaderState → Reading A → Type 0
Gives result behind reading = GivesSeen (λ value. value) result behind reading
