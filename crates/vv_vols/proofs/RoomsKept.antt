-- A room that is good stays good: for the range that is written, and for every other.
use Rattle.std.proofs.Common.{ℕ, zero, suc, ◌≡◌, ◌≢◌, ◌+◌, ◌-◌, ◌/◌, ◌<◌, ◌≤◌, Bool, true, false, cond, not, count_by, refl, ap, ◌∙◌, ⊎_elim, arith}
use Rattle.std.proofs.lemmas.Bool.{cases_Bool, cases_eq, ne_eqb}
use Rattle.std.proofs.lemmas.List.Sums.{sum_by-cons}
use Rattle.vv_flat.specs.Lists.{numbers_from}
use Rattle.vv_vols.specs.Rows.{ShelfView, RoomView, is_own, KeepsOwn, KeepsOwnBut, IsChangeRoom, pages_touched}

abbrev bit : Bool → ℕ
bit b = cond (not b) 1 0

bit_less : (a b : Bool) → (a ≡ true → b ≡ true) → bit b ≤ bit a
bit_less true b h = let e = ap bit (h refl) in omega arith
bit_less false true h = omega arith
bit_less false false h = omega arith

module _ (old new : ℕ → Bool) (kept : (k : ℕ) → old k ≡ true → new k ≡ true) where
  pub fewer : (a n : ℕ) → count_by (λ k. not (new k)) (numbers_from a n) ≤ count_by (λ k. not (old k)) (numbers_from a n)
  fewer a zero = omega arith
  fewer a (suc n) =
      let now = sum_by-cons (λ k. cond (not (new k)) 1 0) a (numbers_from (a + 1) n) in
      let before = sum_by-cons (λ k. cond (not (old k)) 1 0) a (numbers_from (a + 1) n) in
      let first = bit_less (old a) (new a) (kept a) in
      let rest = fewer (a + 1) n in
      omega arith

  pub one_fewer : (a n j : ℕ) → a ≤ j → j < a + n → old j ≡ false → new j ≡ true → count_by (λ k. not (new k)) (numbers_from a n) + 1 ≤ count_by (λ k. not (old k)) (numbers_from a n)
  one_fewer a zero j low high was is = absurd (omega arith)
  one_fewer a (suc n) j low high was is =
      let now = sum_by-cons (λ k. cond (not (new k)) 1 0) a (numbers_from (a + 1) n) in
      let before = sum_by-cons (λ k. cond (not (old k)) 1 0) a (numbers_from (a + 1) n) in
      ⊎_elim
      (λ e.
      let first : bit (new a) ≡ 0 = ap (λ k. bit (new k)) e ∙ ap bit is in
      let second : bit (old a) ≡ 1 = ap (λ k. bit (old k)) e ∙ ap bit was in
      let rest = fewer (a + 1) n in omega arith)
      (λ ne. let first = bit_less (old a) (new a) (kept a) in let rest = one_fewer (a + 1) n j (omega arith) (omega arith) was is in omega arith)
      (cases_eq a j)

-- every other room
pub other_room : (old new : ShelfView) (n first count : ℕ) (room : RoomView) → KeepsOwn old new → IsChangeRoom old n first count room → IsChangeRoom new n first count room
other_room old new n first count room kept good =
    let less = fewer (is_own old n) (is_own new n) (kept n) (first / 64) (pages_touched first count) in
    omega arith

-- .. of a volume that isn't the one whose pages may be shared from now on
pub room_of_other : (old new : ShelfView) (m n first count : ℕ) (room : RoomView) → KeepsOwnBut m old new → n ≢ m → IsChangeRoom old n first count room → IsChangeRoom new n first count room
room_of_other old new m n first count room kept apart good =
    let less = fewer (is_own old n) (is_own new n) (λ k own. kept n k apart own) (first / 64) (pages_touched first count) in
    omega arith

pub touched_some : (first count : ℕ) → 1 ≤ count → pages_touched first count ≡ (first + count - 1) / 64 + 1 - first / 64
touched_some first count some = ap (λ b. cond b 0 ((first + count - 1) / 64 + 1 - first / 64)) (ne_eqb count 0 (λ e. absurd (omega arith)))

-- the room of a write inside its range
pub written_room : (old new : ShelfView) (n first count index : ℕ) (room room' : RoomView) → KeepsOwn old new → is_own new n (index / 64) ≡ true
    → (is_own old n (index / 64) ≡ true → room'.pages ≡ room.pages) → room.pages ≤ room'.pages + 1
    → first ≤ index → index < first + count → IsChangeRoom old n first count room → IsChangeRoom new n first count room'
written_room old new n first count index room room' kept own same left low high good = ⊎_elim
    (λ was.
    let less = fewer (is_own old n) (is_own new n) (kept n) (first / 64) (pages_touched first count) in
    let e = same was in omega arith)
    (λ was.
    let size = touched_some first count (omega arith) in
    let less = one_fewer (is_own old n) (is_own new n) (kept n) (first / 64) (pages_touched first count) (index / 64) (omega arith) (omega arith) was own in
    omega arith)
    (cases_Bool (is_own old n (index / 64)))
