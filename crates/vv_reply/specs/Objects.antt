-- Compact JSON: an object of named members in the order given, and lists. A value is given as its text.
use Rattle.std.specs.Prelude.{ℕ, ◌==◌, ◌&&◌, List, [], ◌∷◌, ◌++◌, Bool, true, false, codes, decimal, if◌then◌else◌}
use Rattle.std.specs.Cmp.Lexicographic.{slice_cmp}
use Rattle.std.specs.Ordering.{nat_cmp, is_lt}
use Rattle.vv_units.specs.Identifiers.{identifier_text}

-- the most bytes of a line
abbrev pub buffer_limit : ℕ
buffer_limit = 10485760

abbrev pub quoted : List ℕ → List ℕ
quoted text = codes "\"" ++ text ++ codes "\""

abbrev pub number : ℕ → List ℕ
number n = decimal n

abbrev pub flag : Bool → List ℕ
flag true = codes "true"
flag false = codes "false"

abbrev pub identifier : ℕ → List ℕ
identifier n = quoted (identifier_text n)

-- texts with commas between them
abbrev pub separated : List (List ℕ) → List ℕ
separated [] = []
separated (text ∷ []) = text
separated (text ∷ next ∷ texts) = text ++ codes "," ++ separated (next ∷ texts)

-- a comma behind so many texts, if there is one
abbrev pub comma_behind : ℕ → List ℕ
comma_behind count = if count == 0 then [] else codes ","

abbrev pub list : List (List ℕ) → List ℕ
list texts = codes "[" ++ separated texts ++ codes "]"

-- a member's name, before its value
abbrev pub key : List ℕ → List ℕ
key name = codes "\"" ++ name ++ codes "\":"

-- members behind a text, each behind a comma
abbrev pub behind : List ℕ → List (List ℕ × List ℕ) → List ℕ
behind text [] = text
behind text (member ∷ members) = behind (text ++ codes "," ++ key member.0 ++ member.1) members

-- the members of an object behind its brace
abbrev pub opened : List (List ℕ × List ℕ) → List ℕ
opened [] = codes "{"
opened (member ∷ members) = behind (codes "{" ++ key member.0 ++ member.1) members

-- an object as a line
abbrev pub object : List (List ℕ × List ℕ) → List ℕ
object members = opened members ++ codes "}\n"

-- whether the names of members stand in the order of their bytes, each once
abbrev pub names_rise : List (List ℕ × List ℕ) → Bool
names_rise [] = true
names_rise (member ∷ []) = true
names_rise (member ∷ next ∷ members) = is_lt (slice_cmp nat_cmp member.0 next.0) && names_rise (next ∷ members)
