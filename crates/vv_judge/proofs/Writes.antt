-- What is known of a write with which nothing is wrong and that has a block.
use Rattle.std.proofs.Common.{ℕ, ◌≡◌, ◌+◌, ◌≤◌, ◌==◌, ◌||◌, Bool, true, false, List, [], ◌∷◌, Option, Some, None, refl, arith}
use Rattle.std.specs.Prelude.{nat_le, nat_lt}
use Rattle.std.proofs.lemmas.Bool.Decides.{nat_tests}
use Rattle.vv_units.specs.declared.field.Field.TheVariants.{Vvol as in_vvol}
use Rattle.vv_flat.specs.State.{Durable}
use Rattle.vv_flat.specs.Chunks.{volume_blocks}
use Rattle.vv_flat.specs.Refusals.{Refusal, OutOfRange, WriteProtected, first_refusal, refuse_if, missing_volume}
use Rattle.vv_flat.specs.Changes.{Write, state_checks, changes_nothing, stamps_of, is_snapshot, busy}
use Rattle.vv_judge.specs.Seen.{refused_by}

pub write_has_blocks : (d : Durable ℕ) (n first blocks : ℕ) → changes_nothing d (Write n first blocks) ≡ false → 1 ≤ blocks
unfolding changes_nothing
write_has_blocks d n first blocks e = some blocks e
  where
    some : (b : ℕ) → (b == 0) ≡ false → 1 ≤ b
    some b e = grind (arith, nat_tests)

second_passes : (a b : Option Refusal) (rest : List (Option Refusal)) → first_refusal (a ∷ b ∷ rest) ≡ None → b ≡ None
second_passes None None rest e = refl
second_passes None (Some r) rest e = absurd (cc)
second_passes (Some r) b rest e = absurd (cc)

not_so : (b : Bool) (r : Refusal) → refuse_if b r ≡ None → b ≡ false
not_so true r e = absurd (cc)
not_so false r e = refl

inside : (size first blocks : ℕ) → (nat_le size first || nat_lt size (first + blocks)) ≡ false → first + blocks ≤ size
inside size first blocks e = grind (arith, nat_tests)

pub write_fits : (d : Durable ℕ) (n first blocks : ℕ) → refused_by (state_checks d (Write n first blocks)) ≡ None
    → first + blocks ≤ volume_blocks d.geometry.chunk_blocks (stamps_of d n)
unfolding refused_by state_checks
write_fits d n first blocks e =
    let size : ℕ = volume_blocks d.geometry.chunk_blocks (stamps_of d n) in
    let past : Bool = nat_le size first || nat_lt size (first + blocks) in
    inside size first blocks (not_so past OutOfRange
    (second_passes (missing_volume d n in_vvol) (refuse_if past OutOfRange) (refuse_if (is_snapshot d n) WriteProtected ∷ busy d n ∷ []) e))
