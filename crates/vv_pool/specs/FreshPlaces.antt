-- Fresh places in order.
use Rattle.std.specs.Prelude.{ℕ, List, ◌++◌}

-- The places that a list of fresh places has, and how many it has memory for.
pub record FreshPlaces : Type 0 where
  pub places : List ℕ
  pub capacity : ℕ

-- the same with further places at its end
abbrev pub appended : FreshPlaces → List ℕ → FreshPlaces
appended out places = record { places = out.places ++ places; capacity = out.capacity }
