-- What was written to a sink, as far as it tells.
use Rattle.std.specs.Prelude.{◌≡◌, ℕ, ◌<◌, List, ◌++◌, length, Option, Some, None, ⊤}

-- the sink took these bytes, unless it no longer tells
abbrev pub AppendsOrForgets : Option (List ℕ) → Option (List ℕ) → List ℕ → Type 0
AppendsOrForgets None new bytes = ⊤
AppendsOrForgets (Some xs) None bytes = ⊤
AppendsOrForgets (Some xs) (Some ys) bytes = ys ≡ xs ++ bytes

-- The sink took some of the front of these bytes and not all, unless it no longer tells.
pub record StopsWithin (old new : Option (List ℕ)) (bytes : List ℕ) : Type 0 where
  pub part : List ℕ
  pub more : List ℕ
  pub whole : part ++ more ≡ bytes
  pub proper : 0 < length more
  pub taken : AppendsOrForgets old new part
