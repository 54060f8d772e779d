-- The text of an identifier: `rfc4122.` and a UUID of version 8 (RFC 9562, section 5.8) in hyphenated form.
-- Of its own fields custom_a is 1, custom_b is 0, and custom_c is the number, which is below 2^62.
use Rattle.std.specs.Prelude.{ℕ, ◌+◌, ◌-◌, ◌*◌, ◌^◌, ◌&&◌, List, ◌++◌, drop, codes, Option, Some, None, option_and_then, nat_eq, nat_le, nat_lt, if◌then◌else◌}
use Rattle.std.specs.List.{starts_with}
use Rattle.std.specs.Int.{w128, to_be_bytes, from_be_bytes}
use Rattle.uuid.specs.Text.{lower, hyphenated_text, parsed_hyphenated}

-- the numbers that an identifier may have are those below
abbrev pub identifier_limit : ℕ
identifier_limit = 2 ^ 62

abbrev pub identifier_prefix : List ℕ
identifier_prefix = codes "rfc4122."

-- The UUID of number 0, as a number: custom_a is 1, the version 8, custom_b 0, and the variant 2.
abbrev pub first_uuid : ℕ
first_uuid = 1 * 2 ^ 80 + 8 * 2 ^ 76 + 0 * 2 ^ 64 + 2 * 2 ^ 62

-- the sixteen bytes of a number's UUID
unfoldable pub uuid_of : ℕ → List ℕ
uuid_of number = to_be_bytes w128 (first_uuid + number)

-- the one text that is written for a number
abbrev pub identifier_text : ℕ → List ℕ
identifier_text number = identifier_prefix ++ hyphenated_text lower (uuid_of number)

-- the bytes of the UUID in a text: the prefix, and 36 characters in hyphenated form with digits of either case
unfoldable pub uuid_in : List ℕ → Option (List ℕ)
uuid_in text = if starts_with nat_eq text identifier_prefix then parsed_hyphenated (drop 8 text) else None

-- the number that the bytes of a UUID stand for, if the other fields are those of an identifier
unfoldable pub number_in : List ℕ → Option ℕ
number_in uuid =
    let value = from_be_bytes w128 uuid in
    if nat_le first_uuid value && nat_lt value (first_uuid + identifier_limit) then Some (value - first_uuid) else None

-- the number that a text names
abbrev pub identifier_of : List ℕ → Option ℕ
identifier_of text = option_and_then number_in (uuid_in text)
