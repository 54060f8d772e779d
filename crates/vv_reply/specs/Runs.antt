-- Bytes as their runs of equal bytes, and in hexadecimal.
use Rattle.std.specs.Prelude.{ℕ, ◌+◌, ◌/◌, ◌%◌, ◌==◌, List, [], ◌∷◌, ◌++◌, codes, decimal, if◌then◌else◌, nat_lt}
use Rattle.std.specs.List.{flat_map}

-- b goes onto the front of runs of equal bytes
abbrev pub onto_run : ℕ → List (ℕ × ℕ) → List (ℕ × ℕ)
onto_run b [] = (b, 1) ∷ []
onto_run b (run ∷ runs) = if b == run.0 then (run.0, run.1 + 1) ∷ runs else (b, 1) ∷ run ∷ runs

-- the maximal runs of equal bytes, each with its length
abbrev pub runs_of : List ℕ → List (ℕ × ℕ)
runs_of [] = []
runs_of (b ∷ bytes) = onto_run b (runs_of bytes)

-- a hexadecimal digit, in lower case
abbrev pub hex_digit : ℕ → ℕ
hex_digit d = if nat_lt d 10 then 48 + d else 87 + d

abbrev pub hex_text : ℕ → List ℕ
hex_text b = hex_digit (b / 16) ∷ hex_digit (b % 16) ∷ []

-- bytes one behind the other
abbrev pub hex_texts : List ℕ → List ℕ
hex_texts bytes = flat_map hex_text bytes

-- a run as `["hh",n]`
abbrev pub run_text : ℕ × ℕ → List ℕ
run_text run = codes "[\"" ++ hex_text run.0 ++ codes "\"," ++ decimal run.1 ++ codes "]"

-- runs with commas between them
abbrev pub runs_text : List (ℕ × ℕ) → List ℕ
runs_text [] = []
runs_text (run ∷ []) = run_text run
runs_text (run ∷ next ∷ runs) = run_text run ++ codes "," ++ runs_text (next ∷ runs)
