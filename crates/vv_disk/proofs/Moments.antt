-- How what is known of the images of a disk goes on from one call to the next. For all crates above disks: in a
-- proof over D, moment is `g.D.Disk.moment`, and a call's facts are its clauses `images` and `time`.
use Rattle.std.proofs.Common.{◌≡◌, ◌↔◌, inl, inr, ⊎_elim, ℕ, List, Option, Some, arith, ◌∙◌, sym}
use Rattle.vv_disk.specs.Images.{DiffersWithin, Follows, EachImage, OnlyTold, Elapses, LeavesOnly}

-- each image after a read, failed or not
pub each_after_read : (P old new : List ℕ → Type 0) → ((image : List ℕ) → new image ↔ old image) → EachImage P old → EachImage P new
each_after_read P old new same each image is = each image ((same image).0 is)

-- each image after a write, failed or not
pub each_after_write : (P Q old new : List ℕ → Type 0) (at n : ℕ) → Follows (DiffersWithin at n) old new → ((earlier image : List ℕ) → P earlier → DiffersWithin at n earlier image → Q image) → EachImage P old → EachImage Q new
each_after_write P Q old new at n follows step each image is =
    let from = follows image is in
    step from.0 image (each from.0 from.1) from.2

-- each image after a sync, failed or not
pub each_after_sync : (P old new : List ℕ → Type 0) → ((image : List ℕ) → new image → old image) → EachImage P old → EachImage P new
each_after_sync P old new fewer each image is = each image (fewer image is)

some_same : (c d : List ℕ) → Some c ≡ Some d → d ≡ c
some_same c d same = cc

-- after a sync that succeeded each image is the content
pub each_synced : (told : Option (List ℕ)) (c : List ℕ) (images : List ℕ → Type 0) → told ≡ Some c → OnlyTold told images → EachImage (λ image. image ≡ c) images
each_synced told c images is only image left = some_same c image (sym is ∙ only image left)

module _ {D : Type 0} (moment : D → ℕ) (left_since : D → ℕ → List ℕ → Type 0) where
  -- before the first call
  pub started : (disk : D) (P : List ℕ → Type 0) → EachImage P (left_since disk (moment disk)) → LeavesOnly moment left_since disk disk P
  started disk P here = record { later = omega arith; each = here; before = λ t image le left. inl left }

  -- one call more, after which each image has P
  pub goes_on : (old mid new : D) (P images : List ℕ → Type 0) → LeavesOnly moment left_since old mid P → Elapses (moment mid) (moment new) (left_since mid) (left_since new) images → EachImage P images → LeavesOnly moment left_since old new P
  goes_on old mid new P images so_far time here = record {
    later = omega (arith, so_far.later, time.later);
    each = λ image left. ⊎_elim (so_far.each image) (here image) (time.nothing_else (moment old) image so_far.later left);
    before = λ t image le left. ⊎_elim (so_far.before t image le) (λ now. inr (here image now)) (time.nothing_else t image (omega (arith, le, so_far.later)) left);
  }

  -- what has P has Q
  pub leaves_weaker : (old new : D) (P Q : List ℕ → Type 0) → EachImage Q P → LeavesOnly moment left_since old new P → LeavesOnly moment left_since old new Q
  leaves_weaker old new P Q weaker leaves = record {
    later = leaves.later;
    each = λ image left. weaker image (leaves.each image left);
    before = λ t image le left. ⊎_elim (λ was. inl was) (λ p. inr (weaker image p)) (leaves.before t image le left);
  }

  -- two runs, one after the other
  pub leaves_joined : (old mid new : D) (P : List ℕ → Type 0) → LeavesOnly moment left_since old mid P → LeavesOnly moment left_since mid new P → LeavesOnly moment left_since old new P
  leaves_joined old mid new P first second = record {
    later = omega (arith, first.later, second.later);
    each = λ image left. ⊎_elim (first.each image) (λ p. p) (second.before (moment old) image first.later left);
    before = λ t image le left. ⊎_elim (first.before t image le) (λ p. inr p) (second.before t image (omega (arith, le, first.later)) left);
  }

  -- a read, failed or not
  pub read_goes_on : (old mid new : D) (P before after : List ℕ → Type 0) → LeavesOnly moment left_since old mid P → Elapses (moment mid) (moment new) (left_since mid) (left_since new) after
      → ((image : List ℕ) → after image ↔ before image) → EachImage P before → LeavesOnly moment left_since old new P
  read_goes_on old mid new P before after so_far time same each = goes_on old mid new P after so_far time (each_after_read P before after same each)

  -- a write, failed or not: what it may tear an image into has P
  pub write_goes_on : (old mid new : D) (P Q before after : List ℕ → Type 0) (at n : ℕ) → LeavesOnly moment left_since old mid P → Elapses (moment mid) (moment new) (left_since mid) (left_since new) after
      → Follows (DiffersWithin at n) before after → EachImage Q before → ((earlier image : List ℕ) → Q earlier → DiffersWithin at n earlier image → P image) → LeavesOnly moment left_since old new P
  write_goes_on old mid new P Q before after at n so_far time follows each step = goes_on old mid new P after so_far time (each_after_write Q P before after at n follows step each)

  -- a sync, failed or not
  pub sync_goes_on : (old mid new : D) (P before after : List ℕ → Type 0) → LeavesOnly moment left_since old mid P → Elapses (moment mid) (moment new) (left_since mid) (left_since new) after
      → ((image : List ℕ) → after image → before image) → EachImage P before → LeavesOnly moment left_since old new P
  sync_goes_on old mid new P before after so_far time fewer each = goes_on old mid new P after so_far time (each_after_sync P before after fewer each)
