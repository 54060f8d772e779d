-- What is found in a list that is made of another, item by item.
use Rattle.std.proofs.Common.{Bool, List, [], ◌∷◌, map, find, option_map, ◌≡◌, refl, arith}
use Rattle.std.proofs.lemmas.Grind.{common_steps}

pub find-map : {A B : Type 0} (f : A → B) (p : B → Bool) (xs : List A) → find p (map f xs) ≡ option_map f (find (λ x. p (f x)) xs)
find-map f p [] = refl
find-map f p (x ∷ xs) = grind (arith, common_steps, find-map f p xs)
