-- The bytes of a disk, what calls do to them, and its images: what a crash may leave of them.
use Rattle.std.specs.Prelude.{◌≡◌, ◌⊎◌, ℕ, zero, suc, ◌≤◌, List, [], ◌∷◌, length, take, drop, Option, None, Some, IsSomeAnd}

-- n bytes from a place on
abbrev pub bytes_at : ℕ → ℕ → List ℕ → List ℕ
bytes_at at n disk = take n (drop at disk)

-- The disk with these bytes put over what stands from a place on. What would go past the end is left out.
abbrev pub overwritten : List ℕ → ℕ → List ℕ → List ℕ
overwritten [] at bytes = []
overwritten (x ∷ disk) zero [] = x ∷ disk
overwritten (x ∷ disk) zero (b ∷ bytes) = b ∷ overwritten disk zero bytes
overwritten (x ∷ disk) (suc at) bytes = x ∷ overwritten disk at bytes

-- new is old but for the n bytes from a place on, which may be any
pub record DiffersWithin (at n : ℕ) (old new : List ℕ) : Type 0 where
  pub size : length new ≡ length old
  pub before : take at new ≡ take at old
  pub behind : drop n (drop at new) ≡ drop n (drop at old)

-- What is told of a content after a write that may have stopped anywhere: it differs within the range at most.
abbrev pub ToldWithin : ℕ → ℕ → Option (List ℕ) → Option (List ℕ) → Type 0
ToldWithin at n None new = new ≡ None
ToldWithin at n (Some old) new = IsSomeAnd new (DiffersWithin at n old)

-- each new image is an old one after a step
abbrev pub Follows : (List ℕ → List ℕ → Type 0) → (List ℕ → Type 0) → (List ℕ → Type 0) → Type 0
Follows step old new = (image : List ℕ) → new image → (earlier : List ℕ) × old earlier × step earlier image

-- each image has P
abbrev pub EachImage : (List ℕ → Type 0) → (List ℕ → Type 0) → Type 0
EachImage P images = (image : List ℕ) → images image → P image

-- the images are this content and no other
abbrev pub OnlyTold : Option (List ℕ) → (List ℕ → Type 0) → Type 0
OnlyTold told images = EachImage (λ image. told ≡ Some image) images

-- Time goes on: a crash since t might have left what it might have left before, or what it may leave now.
pub record Elapses (before now : ℕ) (past since : ℕ → List ℕ → Type 0) (images : List ℕ → Type 0) : Type 0 where
  pub later : before ≤ now
  pub nothing_else : (t : ℕ) (image : List ℕ) → t ≤ before → since t image → past t image ⊎ images image
  pub keeps : (t : ℕ) (image : List ℕ) → t ≤ before → past t image → since t image

-- A crash at any moment since old leaves an image that has P.
pub record LeavesOnly {D : Type 0} (moment : D → ℕ) (left_since : D → ℕ → List ℕ → Type 0) (old new : D) (P : List ℕ → Type 0) : Type 0 where
  pub later : moment old ≤ moment new
  pub each : (image : List ℕ) → left_since new (moment old) image → P image
  -- for a run that began earlier
  pub before : (t : ℕ) (image : List ℕ) → t ≤ moment old → left_since new t image → left_since old t image ⊎ P image
