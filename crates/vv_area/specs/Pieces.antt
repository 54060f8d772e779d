-- Pieces of a spelling.
use Rattle.std.specs.Prelude.{ℕ, List, take, drop}

-- the n bytes from a place on, or as many of them as there are
abbrev pub bytes_within : ℕ → ℕ → List ℕ → List ℕ
bytes_within at n text = take n (drop at text)
