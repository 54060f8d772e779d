-- Each image of a disk on which an array stands is one of its state. This serves calls that leave the disk as it is.
use Rattle.std.proofs.Common.{inl, ℕ, List}
use Rattle.std.specs.Prelude.{Option}
use Rattle.vv_disk.specs.Images.{EachImage, LeavesOnly}
use Rattle.vv_disk.proofs.Moments.{started}
use Rattle.vv_meaning.specs.Steps.{State, Up, Down}
use Rattle.vv_array.specs.Seen.{ArrayView, IsUp, IsDown}
use Rattle.vv_array.specs.Standing.{StandsFor}
use Rattle.vv_array.specs.Moments.{StandsForOne, StandsBetween}
use Rattle.vv_array.proofs.Stands.{up_stands}

pub stands_each : (view : ArrayView) (told : Option (List ℕ)) (images : List ℕ → Type 0) (state : State) → StandsFor view told images state
    → EachImage (StandsForOne state) images
stands_each (IsUp journal core) told images (Up m) stands = up_stands journal core.array told images m stands
stands_each (IsDown geometry) told images (Down before after) stands = stands
stands_each (IsUp journal core) told images (Down before after) stands = absurd stands
stands_each (IsDown geometry) told images (Up m) stands = absurd stands

module _ {D : Type 0} (moment : D → ℕ) (left_since : D → ℕ → List ℕ → Type 0) (is_image : D → List ℕ → Type 0) where
  pub left_alone : ((disk : D) (image : List ℕ) → left_since disk (moment disk) image → is_image disk image)
      → (disk : D) (view : ArrayView) (told : Option (List ℕ)) (before after : State) → StandsFor view told (is_image disk) before
      → LeavesOnly moment left_since disk disk (StandsBetween before after)
  left_alone only_now disk view told before after stands =
      started moment left_since disk (StandsBetween before after)
      (λ image left. inl (stands_each view told (is_image disk) before stands image (only_now disk image left)))
