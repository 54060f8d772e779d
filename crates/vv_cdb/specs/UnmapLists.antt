-- The parameter list of UNMAP (SBC-4): eight bytes of a head, of which bytes 2 to 3 say how many bytes of descriptors
-- follow, and descriptors of 16 bytes, each the logical block address (8 bytes), the number of blocks (4 bytes) and 4
-- bytes that count for nothing. The other bytes of the head are ignored, and so is an incomplete last descriptor. That
-- there are at most 64 descriptors is this project's own choice.
use Rattle.std.specs.Prelude.{ℕ, zero, suc, ◌-◌, ◌/◌, ◌==◌, List, [], ◌∷◌, length, drop, min, Result, Ok, Err, nat_lt, if◌then◌else◌}
use Rattle.vv_cdb.specs.declared.sense.Sense.{Sense}
use Rattle.vv_cdb.specs.Senses.{parameter_list_length_error, invalid_field_in_parameter_list}
use Rattle.vv_cdb.specs.Numbers.{number_at}

-- how many whole descriptors there are among the bytes that the head announces and the list has
abbrev pub descriptor_count : List ℕ → ℕ
descriptor_count list = min (number_at 2 2 list) (length list - 8) / 16

-- the first n descriptors: address and number of blocks of each
abbrev pub descriptors : ℕ → List ℕ → List (ℕ × ℕ)
descriptors zero bytes = []
descriptors (suc n) bytes = (number_at 0 8 bytes, number_at 8 4 bytes) ∷ descriptors n (drop 16 bytes)

abbrev pub descriptor_limit : ℕ
descriptor_limit = 64

-- the ranges of a list, or the sense that refuses it; a list of no byte has no range
unfoldable pub ranges_in : List ℕ → Result (List (ℕ × ℕ)) Sense
ranges_in list =
    if length list == 0 then Ok []
    else if nat_lt (length list) 8 then Err parameter_list_length_error
    else if nat_lt descriptor_limit (descriptor_count list) then Err invalid_field_in_parameter_list
    else Ok (descriptors (descriptor_count list) (drop 8 list))
