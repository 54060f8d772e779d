-- A volume that a shelf has.
use Rattle.std.proofs.Common.{ℕ, ◌≡◌, false, Option, Some, None, refl}
use Rattle.std.specs.Prelude.{is_none}
use Rattle.vv_flat.specs.State.{Volume}
use Rattle.vv_flat.specs.Chunks.{Entry}
use Rattle.vv_vols.specs.Shelf.{ShelfState, volume_in}

pub record Found (n : ℕ) (s : ShelfState) : Type 0 where
  pub volume : Volume Entry
  pub is : volume_in s n ≡ Some volume

pub some_found : (n : ℕ) (s : ShelfState) → is_none (volume_in s n) ≡ false → Found n s
some_found n s e = go (volume_in s n) refl e
  where
    go : (o : Option (Volume Entry)) → volume_in s n ≡ o → is_none o ≡ false → Found n s
    go None is e = absurd (cc)
    go (Some v) is e = record { volume = v; is = is }
