-- A half of an image: its area, which is a length and the bytes of the tables, 256 gates of one byte, and 256 slots of
-- 4096 bytes, each for one record.
use Rattle.std.specs.Prelude.{◌≢◌, ℕ, zero, suc, ◌+◌, ◌-◌, ◌*◌, ◌^◌, ◌≤◌, ◌==◌, ◌&&◌, ◌||◌, Bool, nat_le, List, [], ◌∷◌, ◌++◌, slice_index, Option, Some, None, option_and_then, if◌then◌else◌}
use Rattle.std.specs.Option.{option_map}
use Rattle.vv_units.specs.declared.geometry.Geometry.{Geometry}
use Rattle.vv_disk.specs.Images.{bytes_at}
use Rattle.vv_data.specs.Layout.{area_bytes, half_at}
use Rattle.vv_journal.specs.Header.{Header, number_at}

-- ---- the area

-- A length field of 8 bytes from here on says spelling 2, and below it spelling 1.
abbrev pub second_spelling : ℕ
second_spelling = 2 ^ 63

-- the spelling of the tables that a length field says
abbrev pub spelling_in : ℕ → ℕ
spelling_in field = if nat_le second_spelling field then 2 else 1

-- the length of the tables that a length field says: the field without its top bit
abbrev pub length_in : ℕ → ℕ
length_in field = if nat_le second_spelling field then field - second_spelling else field

-- The field and the tables fit the area, and spelling 1 is in version 1 only.
abbrev pub is_area : Header → ℕ → Bool
is_area header field = nat_le (8 + length_in field) (area_bytes header.geometry) && (nat_le second_spelling field || (header.version == 1))

-- an area: how its tables are spelled, and their bytes
pub record Area : Type 0 where
  pub spelling : ℕ
  pub tables : List ℕ

-- the length field of a half
abbrev pub length_field : Geometry → ℕ → List ℕ → ℕ
length_field geometry half image = number_at 8 (half_at geometry half) image

-- the bytes of a half's tables, so many of them
abbrev pub tables_at : Geometry → ℕ → ℕ → List ℕ → List ℕ
tables_at geometry half n image = bytes_at (half_at geometry half + 8) n image

-- the area of a half, if it is none that can't be
abbrev pub area_of : Header → ℕ → List ℕ → Option Area
area_of header half image =
    let field = length_field header.geometry half image in
    if is_area header field
    then Some (record { spelling = spelling_in field; tables = tables_at header.geometry half (length_in field) image })
    else None

-- ---- gates

-- where the gates of a half stand
abbrev pub gates_at : Geometry → ℕ → ℕ
gates_at geometry half = half_at geometry half + area_bytes geometry

abbrev pub gates_of : Geometry → ℕ → List ℕ → List ℕ
gates_of geometry half image = bytes_at (gates_at geometry half) 256 image

-- how many gates stand before the first that is not open; a gate is open where its byte is 1
abbrev pub open_count : List ℕ → ℕ
open_count [] = zero
open_count (gate ∷ gates) = if gate == 1 then suc (open_count gates) else zero

-- no gate behind the first that is not open is open
abbrev pub IsShutBehind : List ℕ → Type 0
IsShutBehind gates = (i : ℕ) → open_count gates ≤ i → slice_index gates i ≢ 1

-- ---- slots

-- the most bytes of a record
abbrev pub payload_limit : ℕ
payload_limit = 4088

-- where a slot of a half stands
abbrev pub slot_at : Geometry → ℕ → ℕ → ℕ
slot_at geometry half index = gates_at geometry half + 256 + 4096 * index

-- The payload of the slot at a place: 4 bytes of its length, 4 zero bytes, and the payload. None where the length is
-- above the limit or the zeros aren't zero.
abbrev pub payload_at : ℕ → List ℕ → Option (List ℕ)
payload_at at image =
    if nat_le (number_at 4 at image) payload_limit && (number_at 4 (at + 4) image == 0)
    then Some (bytes_at (at + 8) (number_at 4 at image) image)
    else None

-- what is given for 0 to n - 1, if something is for each
abbrev pub all_given : {X : Type 0} → (ℕ → Option X) → ℕ → Option (List X)
all_given given zero = Some []
all_given given (suc n) = option_and_then (λ items. option_map (λ item. items ++ item ∷ []) (given n)) (all_given given n)

-- the payloads of the slots before the first gate that is not open, if each of them is one
abbrev pub records_of : Geometry → ℕ → List ℕ → Option (List (List ℕ))
records_of geometry half image = all_given (λ index. payload_at (slot_at geometry half index) image) (open_count (gates_of geometry half image))
