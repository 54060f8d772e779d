-- Metadata pairs of a volume: keys and notes in order, the keys all different.
use Rattle.std.specs.Prelude.{ℕ, List, [], ◌∷◌, map, Bool, Option, Some, None, if◌then◌else◌, nat_eq}
use Rattle.std.specs.Cmp.Lexicographic.{pointwise}
use Rattle.std.specs.List.{IsDistinct}

abbrev pub same_key : List ℕ → List ℕ → Bool
same_key = pointwise nat_eq

-- the note at a key
abbrev pub note_of : List (List ℕ × List ℕ) → List ℕ → Option (List ℕ)
note_of [] key = None
note_of (pair ∷ pairs) key = if same_key key pair.0 then Some pair.1 else note_of pairs key

-- An old key keeps its place, and a new one goes last.
abbrev pub with_pair : List (List ℕ × List ℕ) → List ℕ → List ℕ → List (List ℕ × List ℕ)
with_pair [] key note = (key, note) ∷ []
with_pair (pair ∷ pairs) key note =
    if same_key key pair.0 then (pair.0, note) ∷ pairs else pair ∷ with_pair pairs key note

-- the others close up
abbrev pub without_pair : List (List ℕ × List ℕ) → List ℕ → List (List ℕ × List ℕ)
without_pair [] key = []
without_pair (pair ∷ pairs) key = if same_key key pair.0 then pairs else pair ∷ without_pair pairs key

-- the pairs after a note is set at a key, or removed there
abbrev pub after_set : List (List ℕ × List ℕ) → List ℕ → Option (List ℕ) → List (List ℕ × List ℕ)
after_set pairs key (Some note) = with_pair pairs key note
after_set pairs key None = without_pair pairs key

-- the keys are all different
abbrev pub HaveOwnKeys : List (List ℕ × List ℕ) → Type 0
HaveOwnKeys pairs = IsDistinct same_key (map (λ pair. pair.0) pairs)
