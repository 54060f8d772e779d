-- What tests of lists and numbers say.
use Rattle.std.proofs.Common.{◌≡◌, ℕ, ◌≤◌, ◌&&◌, Bool, true, List, [], ◌∷◌, ◌++◌, refl, ap}
use Rattle.std.specs.List.{list_all}
use Rattle.std.proofs.lemmas.Bool.{and_parts, leb-true}
use Rattle.vv_record.specs.Reading.{is_within}
use Rattle.vv_record.specs.Spelling.{each_behind}

-- a test that looks at no earlier item
pub each_behind-alone : {A : Type 0} (is_item : A → Bool) (before items : List A) → each_behind (λ before. is_item) before items ≡ list_all is_item items
each_behind-alone is_item before [] = refl
each_behind-alone is_item before (next ∷ items) = ap (λ (rest : Bool). is_item next && rest) (each_behind-alone is_item (before ++ next ∷ []) items)

pub record IsBetween (low high value : ℕ) : Type 0 where
  pub from : low ≤ value
  pub to : value ≤ high

pub between : (low high value : ℕ) → is_within low high value ≡ true → IsBetween low high value
between low high value h =
    let both = and_parts _ _ h in
    record { from = leb-true low value both.0; to = leb-true value high both.1 }
