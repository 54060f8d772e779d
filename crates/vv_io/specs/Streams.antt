-- What a read does to the bytes that a source has left, and a write to those that a sink has taken, where they are told.
use Rattle.std.specs.Prelude.{◌≡◌, ℕ, ◌<◌, List, ◌++◌, take, length, Option, Some, None, Result, MatchResult, ⊤}
use Rattle.std.specs.Io.KnownBytes.{Appends, Consumes, IsAtEnd}

-- told bytes stay as they were, or are no longer told
abbrev pub KeepsOrForgets : Option (List ℕ) → Option (List ℕ) → Type 0
KeepsOrForgets None new = ⊤
KeepsOrForgets (Some xs) None = ⊤
KeepsOrForgets (Some xs) (Some ys) = ys ≡ xs

-- A read takes as many bytes from the front as it answers. None of a room that isn't empty is the end. A failed one takes none.
abbrev pub ReadTakes : {E : Type 0} → Option (List ℕ) → Option (List ℕ) → Result ℕ E → List ℕ → Type 0
ReadTakes old new result into =
    MatchResult result (λ n. Consumes old new (take n into) × (n ≡ 0 → 0 < length into → IsAtEnd new)) (λ _. KeepsOrForgets old new)

-- A write appends as many bytes of the piece as it answers, at least one of a piece that isn't empty. A failed one appends none.
abbrev pub WriteGives : {E : Type 0} → Option (List ℕ) → Option (List ℕ) → Result ℕ E → List ℕ → Type 0
WriteGives old new result piece =
    MatchResult result (λ n. Appends old new (take n piece) × (0 < length piece → 0 < n)) (λ _. KeepsOrForgets old new)

-- these bytes stood at the front, and the source has the others left, unless it no longer tells
abbrev pub ConsumesOrForgets : Option (List ℕ) → Option (List ℕ) → List ℕ → Type 0
ConsumesOrForgets None new bytes = ⊤
ConsumesOrForgets (Some xs) None bytes = (rest : List ℕ) × (xs ≡ bytes ++ rest)
ConsumesOrForgets (Some xs) (Some ys) bytes = xs ≡ bytes ++ ys
