-- What places are in use for. A place is fresh, or it is counted: so many entries name it. It is free where none does.
use Rattle.std.specs.Prelude.{ℕ, ◌+◌, ◌==◌, Bool, false, not, List, [], ◌∷◌, fold, slice_set, if◌then◌else◌}
use Rattle.vv_pool.specs.declared.place_use.PlaceUse.{PlaceUse}
use Rattle.vv_pool.specs.declared.place_use.PlaceUse.TheVariants.{Counted, Fresh}

abbrev pub is_free : PlaceUse → Bool
is_free (Counted count) = count == 0
is_free Fresh = false

-- counted or fresh
abbrev pub is_used : PlaceUse → Bool
is_used use_now = not (is_free use_now)

-- how many entries name a place of this use
abbrev pub count_in : PlaceUse → ℕ
count_in (Counted count) = count
count_in Fresh = 0

-- The free places of a list of uses, in rising order. The first has the number `at`.
abbrev pub free_from : ℕ → List PlaceUse → List ℕ
free_from at [] = []
free_from at (use_now ∷ uses) = if is_free use_now then at ∷ free_from (at + 1) uses else free_from (at + 1) uses

-- the uses after these places became fresh
abbrev pub made_fresh : List PlaceUse → List ℕ → List PlaceUse
made_fresh uses places = fold (λ now place. slice_set now place Fresh) uses places
