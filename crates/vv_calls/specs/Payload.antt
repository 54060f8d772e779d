-- The bytes that a line carries: a list of pairs `[hex, n]`, where the bytes that hex spells stand n times, pair
-- after pair. The spelled bytes are at least one, n is from 1 to 1,048,576, and so many are all bytes at most.
use Rattle.std.specs.Prelude.{ℕ, List, [], ◌++◌, length, replicate, nat_le, if◌then◌else◌, Option, Some, None}
use Rattle.std.specs.List.{concat}
use Rattle.serde_json.specs.Data.{Data, Items, no_items, item}
use Rattle.serde_json.specs.Find.{as_array, as_str}
use Rattle.vv_calls.specs.Steps.{◌>>=◌}
use Rattle.vv_calls.specs.Hexadecimal.{hex_bytes}
use Rattle.vv_calls.specs.Forms.{number_within}

-- the most bytes of one line
abbrev pub payload_limit : ℕ
payload_limit = 1048576

-- two items, of which the first is a text and the second says how often its bytes stand
abbrev pub pair_of : Items → Option (List ℕ × ℕ)
pair_of (item text (item times no_items)) = do
  digits ← as_str text
  count ← number_within 1 payload_limit times
  Some (digits, count)
pair_of items = None

-- at least one byte
abbrev pub spelled_bytes : List ℕ → Option (List ℕ)
spelled_bytes digits = do
  bytes ← hex_bytes digits
  if nat_le 1 (length bytes) then Some bytes else None

abbrev pub pair_in : Data → Option (List ℕ × ℕ)
pair_in value = as_array value >>= pair_of

-- the bytes of a text, so many times
abbrev pub repeated_bytes : List ℕ × ℕ → Option (List ℕ)
repeated_bytes pair = do
  bytes ← spelled_bytes pair.0
  Some (concat (replicate pair.1 bytes))

abbrev pub pair_bytes : Data → Option (List ℕ)
pair_bytes value = pair_in value >>= repeated_bytes

abbrev pub pairs_bytes : Items → Option (List ℕ)
pairs_bytes no_items = Some []
pairs_bytes (item pair pairs) = do
  front ← pair_bytes pair
  back ← pairs_bytes pairs
  Some (front ++ back)

-- no more than the limit
abbrev pub within_limit : List ℕ → Option (List ℕ)
within_limit bytes = if nat_le (length bytes) payload_limit then Some bytes else None

-- these bytes, and those of the pairs behind them
abbrev pub joined_onto : List ℕ → Items → Option (List ℕ)
joined_onto front pairs = do
  back ← pairs_bytes pairs
  within_limit (front ++ back)

abbrev pub payload_of : Data → Option (List ℕ)
payload_of value = as_array value >>= joined_onto []

-- a field that is absent or null carries no bytes
abbrev pub optional_payload : Option Data → Option (List ℕ)
optional_payload None = Some []
optional_payload (Some value) = payload_of value
