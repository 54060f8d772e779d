-- What a logical unit lets through of the commands about its blocks.
use Rattle.std.specs.Prelude.{ℕ, ◌+◌, ◌||◌, Bool, nat_le, nat_lt}

-- a range of blocks begins at the end of a volume of so many blocks or past it, or ends past it
abbrev pub is_outside : ℕ → ℕ × ℕ → Bool
is_outside blocks range = nat_le blocks range.0 || nat_lt blocks (range.0 + range.1)
