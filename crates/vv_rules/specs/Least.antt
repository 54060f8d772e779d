-- The least place of the items of a list that fail a test.
use Rattle.std.specs.Prelude.{ℕ, Bool, List, [], ◌∷◌, map, min, Option, Some, None, unwrap_or, if◌then◌else◌}
use Rattle.std.specs.List.{list_all}
use Rattle.vv_flat.specs.Sharing.{Standing, agrees, no_place}

-- the lesser of two numbers that may be missing
abbrev pub sooner : Option ℕ → Option ℕ → Option ℕ
sooner None o = o
sooner (Some a) None = Some a
sooner (Some a) (Some b) = Some (min a b)

-- the least number of the items that fail the test
abbrev pub least_failing : {A : Type 0} → (A → Bool) → (A → ℕ) → List A → Option ℕ
least_failing test number_of [] = None
least_failing test number_of (x ∷ xs) =
    sooner (if test x then None else Some (number_of x)) (least_failing test number_of xs)

-- the place of an entry, or the number by which one without a place counts
abbrev pub place_of : Standing → ℕ
place_of a = unwrap_or a.piece.chunk.place no_place

-- the least place of the entries that don't agree with all
unfoldable pub least_apart : List Standing → Option ℕ
least_apart standings =
    least_failing (λ a. list_all (agrees a.piece) (map (λ (b : Standing). b.piece) standings)) place_of standings
