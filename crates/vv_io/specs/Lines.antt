-- The lines of bytes. A line ends by LF, and the last may lack it.
use Rattle.std.specs.Prelude.{ℕ, ◌==◌, ◌||◌, List, [], ◌∷◌, ◌++◌, length, nat_lt, Bool, not, Option, Some, None, if◌then◌else◌}
use Rattle.std.specs.List.{list_any}

abbrev pub line_feed : ℕ
line_feed = 10

-- a blank: space, tab or CR
abbrev pub is_blank : ℕ → Bool
is_blank c = (c == 32) || (c == 9) || (c == 13)

-- more than blanks
abbrev pub has_more : List ℕ → Bool
has_more line = list_any (λ c. not (is_blank c)) line

-- What is given for a line: None if it is above the limit, whatever its bytes, and nothing if it is passed over, since
-- it has no more than blanks.
unfoldable pub given_for : ℕ → List ℕ → List (Option (List ℕ))
given_for limit line = if nat_lt limit (length line) then None ∷ [] else if has_more line then Some line ∷ [] else []

-- what is given for the lines of bytes that come behind a line begun
abbrev pub lines_from : ℕ → List ℕ → List ℕ → List (Option (List ℕ))
lines_from limit begun [] = given_for limit begun
lines_from limit begun (c ∷ bytes) =
    if c == line_feed then given_for limit begun ++ lines_from limit [] bytes else lines_from limit (begun ++ c ∷ []) bytes

-- what is given for the lines of bytes
abbrev pub lines_in : ℕ → List ℕ → List (Option (List ℕ))
lines_in limit bytes = lines_from limit [] bytes

-- what is given for those of the lines that end by LF, behind a line begun
abbrev pub ended_from : ℕ → List ℕ → List ℕ → List (Option (List ℕ))
ended_from limit begun [] = []
ended_from limit begun (c ∷ bytes) =
    if c == line_feed then given_for limit begun ++ ended_from limit [] bytes else ended_from limit (begun ++ c ∷ []) bytes

-- what is given for those of the lines that end by LF
abbrev pub ended_in : ℕ → List ℕ → List (Option (List ℕ))
ended_in limit bytes = ended_from limit [] bytes
