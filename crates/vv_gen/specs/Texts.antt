-- The texts of a script's parts.
use Rattle.std.specs.Prelude.{ℕ, List, [], ◌∷◌, ◌++◌}
use Rattle.hex.specs.Hex.{encode_lower}
use Rattle.vv_units.specs.Identifiers.{identifier_text}

-- bytes as hexadecimal digits in lower case
abbrev pub hexadecimal : List ℕ → List ℕ
hexadecimal bytes = encode_lower bytes

-- a text between quotes
abbrev pub quoted : List ℕ → List ℕ
quoted text = 34 ∷ text ++ 34 ∷ []

-- the name of a volume, between quotes
abbrev pub volume_name : ℕ → List ℕ
volume_name volume = quoted (identifier_text volume)
