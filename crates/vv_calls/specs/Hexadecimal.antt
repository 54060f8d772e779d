-- Bytes written as hexadecimal digits of either case: two digits a byte, the high one first.
use Rattle.std.specs.Prelude.{ℕ, ◌+◌, ◌*◌, List, [], ◌∷◌, Option, Some, None}
use Rattle.hex.specs.Hex.{hex_digit_value}
use Rattle.vv_calls.specs.Steps.{◌>>=◌}

-- the byte of two digits
abbrev pub byte_of : ℕ → ℕ → Option ℕ
byte_of high low = do
  h ← hex_digit_value high
  l ← hex_digit_value low
  Some (h * 16 + l)

-- the bytes of an even number of digits
abbrev pub hex_bytes : List ℕ → Option (List ℕ)
hex_bytes [] = Some []
hex_bytes (high ∷ []) = None
hex_bytes (high ∷ low ∷ rest) = do
  byte ← byte_of high low
  bytes ← hex_bytes rest
  Some (byte ∷ bytes)
