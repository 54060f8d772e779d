-- When places may be put into a volume, one after another.
use Rattle.std.specs.Prelude.{ℕ, ◌≡◌, ◌+◌, ◌≤◌, List, [], IsSome, IsTrue, length, map}
use Rattle.std.specs.List.{list_all}
use Rattle.vv_units.specs.declared.numbers.Place.{Place}
use Rattle.vv_flat.specs.Lists.{all_different, numbers_from}
use Rattle.vv_vols.specs.Shelf.{ShelfState, volume_in, size_in, is_shelf_free}
use Rattle.vv_vols.specs.Conditions.{is_new_stamp}
use Rattle.vv_vols.specs.Places.{shelf_free}

-- the numbers of places
abbrev pub place_numbers : List Place → List ℕ
place_numbers places = map (λ (p : Place). p.0) places

-- Places may be put into a volume from an index on, with a stamp: the volume has these indexes; the places are free, different,
-- and no more than the pool hands out; no place is fresh; and no entry has the stamp at one of the indexes.
pub record MayPut (s : ShelfState) (n first stamp : ℕ) (places : List ℕ) : Type 0 where
  pub standing : IsSome (volume_in s n)
  pub within : first + length places ≤ size_in s n
  pub free : IsTrue (list_all (is_shelf_free s) places)
  pub different : IsTrue (all_different places)
  pub enough : length places ≤ shelf_free s
  pub fresh : s.fresh ≡ []
  pub stamps : IsTrue (list_all (λ i. is_new_stamp s i stamp) (numbers_from first (length places)))
