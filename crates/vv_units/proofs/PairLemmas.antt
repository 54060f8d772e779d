-- Pairs as the entries of a map: for the calls of a list of pairs.
use Rattle.std.proofs.Common.{◌≡◌, ℕ, List, [], ◌∷◌, cond, refl, ap}
use Rattle.std.specs.Prelude.{Some}
use Rattle.std.specs.Map.{lookup, remove_entry}
use Rattle.indexmap.specs.IndexMap.{insert_entry}
use Rattle.vv_units.specs.Pairs.{same_key, note_of, with_pair, without_pair}

pub note_found : (pairs : List (List ℕ × List ℕ)) (key : List ℕ) → lookup (same_key key) pairs ≡ note_of pairs key
note_found [] key = refl
note_found (pair ∷ pairs) key = ap (cond (same_key key pair.0) (Some pair.1)) (note_found pairs key)

pub pair_removed : (pairs : List (List ℕ × List ℕ)) (key : List ℕ) → remove_entry (same_key key) pairs ≡ without_pair pairs key
pair_removed [] key = refl
pair_removed (pair ∷ pairs) key = ap (λ (rest : List (List ℕ × List ℕ)). cond (same_key key pair.0) pairs (pair ∷ rest)) (pair_removed pairs key)

pub pair_set : (pairs : List (List ℕ × List ℕ)) (key note : List ℕ) → insert_entry same_key pairs key note ≡ with_pair pairs key note
pair_set [] key note = refl
pair_set (pair ∷ pairs) key note =
    ap (λ (rest : List (List ℕ × List ℕ)). cond (same_key key pair.0) ((pair.0, note) ∷ pairs) (pair ∷ rest)) (pair_set pairs key note)
