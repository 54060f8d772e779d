-- Sense data of SPC-5 in its fixed format, and the senses that answer a command descriptor block or a parameter list.
-- Which sense answers which fault is this project's own choice.
use Rattle.std.specs.Prelude.{ℕ, List, [], ◌∷◌}
use Rattle.vv_cdb.specs.declared.sense.Sense.{Sense}

-- Eighteen bytes: byte 0 is 70h, byte 2 the sense key, byte 7 the number of bytes that follow it, bytes 12 and 13 the
-- additional sense code and its qualifier. All others are 0.
abbrev pub sense_data : Sense → List ℕ
sense_data s =
    0x70 ∷ 0 ∷ s.key ∷ 0 ∷ 0 ∷ 0 ∷ 0 ∷ 0x0a ∷ 0 ∷ 0 ∷ 0 ∷ 0 ∷ s.asc ∷ s.ascq ∷ 0 ∷ 0 ∷ 0 ∷ 0 ∷ []

abbrev pub illegal_request : ℕ → Sense
illegal_request asc = record { key = 5; asc = asc; ascq = 0 }

abbrev pub parameter_list_length_error : Sense
parameter_list_length_error = illegal_request 0x1a

abbrev pub invalid_operation_code : Sense
invalid_operation_code = illegal_request 0x20

abbrev pub invalid_field_in_cdb : Sense
invalid_field_in_cdb = illegal_request 0x24

abbrev pub invalid_field_in_parameter_list : Sense
invalid_field_in_parameter_list = illegal_request 0x26
