-- What the checks of an accepted write say, and the sizes of volumes.
use Rattle.std.proofs.Common.{ℕ, ◌≡◌, ◌+◌, ◌-◌, ◌*◌, ◌/◌, ◌≤◌, ◌<◌, ◌||◌, Bool, true, false, cond, [], length, Some, None, Option, refl, ap, arith}
use Rattle.std.specs.Prelude.{IsSome, is_none, nat_le}
use Rattle.std.proofs.lemmas.Bool.{leb-true, ltb-false, eqb-false, ne_eqb}
use Rattle.std.proofs.lemmas.Bool.Decides.{nat_tests}
use Rattle.std.proofs.lemmas.Nat.{div_below, le-div}
use Rattle.std.proofs.Math.Nat.{mul-le-mul_left, div-mul-le_self}
use Rattle.vv_units.specs.Sizes.{is_chunk_size}
use Rattle.vv_flat.proofs.Kept.{Kept, kept}
use Rattle.vv_flat.proofs.KeepSteps.{volume_sized}
use Rattle.vv_flat.specs.Lists.{if_found, numbers_from}
use Rattle.vv_flat.specs.State.{Volume, Durable, volume_of}
use Rattle.vv_flat.specs.Chunks.{touched_first, touched_count, touched_indexes}
use Rattle.vv_flat.specs.Space.{free}
use Rattle.vv_flat.specs.Refusals.{Refusal, Refuse, Nothing, Accept, OutOfRange, first_refusal}
use Rattle.vv_flat.specs.Changes.{Change, Write, judge, state_checks, changes_nothing, room_checks, size_of}
use Rattle.vv_flat.proofs.Shares.{and_left, and_right}
use Rattle.vv_flat.proofs.Verdicts.{passed_state, passed_room, not_refused, within_pool}

-- ---- what the checks of a write say
nothing_left : (state : Option Refusal) (n : Bool) (room : Option Refusal)
    → if_found state Refuse (cond n Nothing (if_found room Refuse Accept)) ≡ Accept → n ≡ false
nothing_left None true room e = cc
nothing_left None false room e = refl
nothing_left (Some r) n room e = cc

-- an accepted change changes something
pub something : (d : Durable ℕ) (c : Change) → judge None d c ≡ Accept → changes_nothing d c ≡ false
unfolding judge
something d c e = nothing_left (first_refusal (state_checks d c)) (changes_nothing d c) (first_refusal (room_checks None d c)) e

pub is_there : {A : Type 0} (o : Option A) → is_none o ≡ false → IsSome o
is_there None e = absurd (cc)
is_there (Some x) e = refl

or_right_false : (a b : Bool) → (a || b) ≡ false → b ≡ false
or_right_false true b e = cc
or_right_false false b e = e

module _ (d : Durable ℕ) (n first blocks : ℕ) (accepted : judge None d (Write n first blocks) ≡ Accept) where
  pub some_blocks : 1 ≤ blocks
  unfolding changes_nothing
  some_blocks = let apart : blocks ≡ 0 → ⊥ = eqb-false blocks 0 (something d (Write n first blocks) accepted) in omega (arith, apart)

  pub volume_stands : IsSome (volume_of d n)
  unfolding state_checks
  volume_stands = is_there (volume_of d n) (not_refused (is_none (volume_of d n)) _ (passed_state None d (Write n first blocks) accepted 0))

  pub blocks_inside : first + blocks ≤ size_of d n * d.geometry.chunk_blocks
  unfolding state_checks
  blocks_inside =
      ltb-false (size_of d n * d.geometry.chunk_blocks) (first + blocks)
      (or_right_false (nat_le (size_of d n * d.geometry.chunk_blocks) first) _ (not_refused _ OutOfRange (passed_state None d (Write n first blocks) accepted 1)))

  pub enough_free : length (touched_indexes d.geometry.chunk_blocks first blocks) ≤ free d
  unfolding room_checks
  enough_free = within_pool d (length (touched_indexes d.geometry.chunk_blocks first blocks)) (passed_room None d (Write n first blocks) accepted 2)

-- the touched chunks, one behind the other
pub touched_are : (B first blocks : ℕ) → 1 ≤ blocks → touched_indexes B first blocks ≡ numbers_from (touched_first B first) (touched_count B first blocks)
touched_are B first blocks some = ap (λ b. cond b [] (numbers_from (touched_first B first) (touched_count B first blocks))) (ne_eqb blocks 0 (λ e. absurd (omega arith)))

-- ---- sizes
two_thousand : (B : ℕ) → is_chunk_size B ≡ true → B ≤ 2048
two_thousand B e = grind (arith, nat_tests)

pub blocks_few : (B size : ℕ) → is_chunk_size B ≡ true → size ≤ 1048576 → size * B ≤ 2147483648
blocks_few B size e few =
    let most : B ≤ 2048 = two_thousand B e in
    let one : size * B ≤ size * 2048 = mul-le-mul_left size most in
    omega (arith, one, few)

-- no volume has more chunks than one may have
pub size_few : (d : Durable ℕ) → Kept d → (n : ℕ) → size_of d n ≤ 1048576
size_few d kept n = go (volume_of d n) refl
  where
    go : (o : Option (Volume ℕ)) → volume_of d n ≡ o → length (if_found o (λ (v : Volume ℕ). v.chunks) []) ≤ 1048576
    go None e = omega arith
    go (Some v) e = leb-true (length v.chunks) 1048576 (and_right (nat_le 1 (length v.chunks)) _ (and_left _ _ (volume_sized d kept n v e)))

-- the touched chunks are chunks of the volume
pub touched_end : (B size first blocks : ℕ) → 0 < B → 1 ≤ blocks → first + blocks ≤ size * B → touched_first B first + touched_count B first blocks ≤ size
touched_end B size first blocks some least inside =
    let last : (first + blocks - 1) / B < size = div_below (first + blocks - 1) B size some (omega (arith, least, inside)) in
    let front : first / B * B ≤ first = div-mul-le_self first B in
    let order : first / B ≤ (first + blocks - 1) / B = le-div (first / B) (first + blocks - 1) B some (omega (arith, front, least)) in
    omega (arith, last, order)
