-- Numbers in command descriptor blocks and parameter lists. All are big endian.
use Rattle.std.specs.Prelude.{ℕ, List, drop}
use Rattle.byteorder.specs.Endian.{big_number}

-- the number in the n bytes from a place on
abbrev pub number_at : ℕ → ℕ → List ℕ → ℕ
number_at at n bytes = big_number n (drop at bytes)
