-- Numbers that look like chance: a linear congruential generator over 64 bits, with the multiplier and the increment of
-- Knuth's MMIX. A number is taken from the upper bits of a state.
use Rattle.std.specs.Prelude.{ℕ, ◌+◌, ◌*◌, ◌/◌, ◌%◌, ◌^◌}

-- the state after this one
abbrev pub after : ℕ → ℕ
after state = (state * 6364136223846793005 + 1442695040888963407) % 2 ^ 64

-- the number below n that a state gives
abbrev pub number_below : ℕ → ℕ → ℕ
number_below n state = state / 2 ^ 33 % n
