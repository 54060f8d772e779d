-- What the words on images say of one another. The laws of disks rest on these.
use Rattle.std.specs.Prelude.{◌≡◌, ℕ, zero, suc, List, [], ◌∷◌, length, take, drop, refl}
use Rattle.std.proofs.Common.{ap}
use Rattle.vv_disk.specs.Images.{overwritten, DiffersWithin}

pub length-overwritten : (disk : List ℕ) (at : ℕ) (bytes : List ℕ) → length (overwritten disk at bytes) ≡ length disk
length-overwritten [] at bytes = refl
length-overwritten (x ∷ disk) zero [] = refl
length-overwritten (x ∷ disk) zero (b ∷ bytes) = ap suc (length-overwritten disk zero bytes)
length-overwritten (x ∷ disk) (suc at) bytes = ap suc (length-overwritten disk at bytes)

pub take-overwritten : (disk : List ℕ) (at : ℕ) (bytes : List ℕ) → take at (overwritten disk at bytes) ≡ take at disk
take-overwritten [] at bytes = refl
take-overwritten (x ∷ disk) zero bytes = refl
take-overwritten (x ∷ disk) (suc at) bytes = ap (λ (l : List ℕ). x ∷ l) (take-overwritten disk at bytes)

pub drop-overwritten : (disk : List ℕ) (at : ℕ) (bytes : List ℕ) → drop (length bytes) (drop at (overwritten disk at bytes)) ≡ drop (length bytes) (drop at disk)
drop-overwritten [] at bytes = refl
drop-overwritten (x ∷ disk) zero [] = refl
drop-overwritten (x ∷ disk) zero (b ∷ bytes) = drop-overwritten disk zero bytes
drop-overwritten (x ∷ disk) (suc at) bytes = drop-overwritten disk at bytes

-- a write changes its own range at most
pub overwritten_within : (disk : List ℕ) (at : ℕ) (bytes : List ℕ) → DiffersWithin at (length bytes) disk (overwritten disk at bytes)
overwritten_within disk at bytes = record {
  size = length-overwritten disk at bytes;
  before = take-overwritten disk at bytes;
  behind = drop-overwritten disk at bytes;
}

pub DiffersWithin-same : (at n : ℕ) (disk : List ℕ) → DiffersWithin at n disk disk
DiffersWithin-same at n disk = record { size = refl; before = refl; behind = refl }
