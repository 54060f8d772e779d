-- A disk that is read at most, over calls in a row, and the causes of what is told then. They serve opening an image.
use Rattle.std.proofs.Common.{ℕ, ◌≤◌, List, Option, Result, Ok, Err, IsErrAnd, IfErr, refl, ◌∙◌, arith}
use Rattle.vv_units.specs.Causes.{Rose}
use Rattle.vv_units.specs.declared.damage.DiskFault.TheVariants.{Read, Write}
use Rattle.vv_disk.specs.Images.{OnlyTold}
use Rattle.vv_disk.proofs.Moments.{started, leaves_joined, leaves_weaker}
use Rattle.vv_array.specs.OpeningSteps.{OnlyReads, HasReadCause}
use Rattle.vv_array.specs.declared.fault.ArrayFault.{ArrayFault}
use Rattle.vv_array.specs.declared.fault.ArrayFault.TheVariants.{NotFormatted, Damaged, Disk, NoMemory}

-- ---- causes

-- what an error that is handed on says
pub err_then : {T E : Type 0} (r : Result T E) (P Q : E → Type 0) → ((e : E) → P e → Q e) → IsErrAnd r P → IfErr r Q
err_then (Ok x) P Q next p = tt
err_then (Err e) P Q next p = next e p

rose_later : (first before now : ℕ) → first ≤ before → Rose before now → Rose first now
rose_later first before now le rose = omega (arith, le, rose)

-- a cause in a later part of a call is one in the whole
pub read_later : (first before now : ℕ) (fault : ArrayFault) → first ≤ before → HasReadCause before now fault → HasReadCause first now fault
read_later first before now (NotFormatted n) le cause = tt
read_later first before now (Damaged damage) le cause = tt
read_later first before now (Disk Read) le cause = rose_later first before now le cause
read_later first before now (Disk Write) le cause = cause
read_later first before now NoMemory le cause = tt

-- ---- the disk

module _ {D : Type 0} (size : D → ℕ) (content : D → Option (List ℕ)) (is_image : D → List ℕ → Type 0) (is_honest : D → Type 0) (moment : D → ℕ) (left_since : D → ℕ → List ℕ → Type 0) (read_faults write_faults : D → ℕ) where
  -- before the first call
  pub not_read : (disk : D) → ((image : List ℕ) → left_since disk (moment disk) image → is_image disk image) → OnlyReads size content is_image is_honest moment left_since read_faults write_faults disk disk
  not_read disk only_now = record {
    len = refl;
    told = refl;
    images = λ image. (λ is. is, λ is. is);
    any_moment = started moment left_since disk (is_image disk) only_now;
    honesty = (λ h. h, λ h. h);
    reads = omega arith;
    writes = refl;
  }

  -- calls in a row
  pub reads_joined : (old mid new : D) → OnlyReads size content is_image is_honest moment left_since read_faults write_faults old mid → OnlyReads size content is_image is_honest moment left_since read_faults write_faults mid new
      → OnlyReads size content is_image is_honest moment left_since read_faults write_faults old new
  reads_joined old mid new first second = record {
    len = second.len ∙ first.len;
    told = second.told ∙ first.told;
    images = λ image. (λ is. (first.images image).0 ((second.images image).0 is), λ is. (second.images image).1 ((first.images image).1 is));
    any_moment = leaves_joined moment left_since old mid new (is_image old) first.any_moment
        (leaves_weaker moment left_since mid new (is_image mid) (is_image old) (λ image is. (first.images image).0 is) second.any_moment);
    honesty = (λ h. first.honesty.0 (second.honesty.0 h), λ h. second.honesty.1 (first.honesty.1 h));
    reads = omega (arith, first.reads, second.reads);
    writes = second.writes ∙ first.writes;
  }

  -- the one image behind a sync is still what is told
  pub only_still : (mid new : D) → OnlyTold (content mid) (is_image mid) → OnlyReads size content is_image is_honest moment left_since read_faults write_faults mid new → OnlyTold (content new) (is_image new)
  only_still mid new only second image left = second.told ∙ only image ((second.images image).0 left)
