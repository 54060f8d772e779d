-- A place that an entry is to have beside entries with which it agrees: where it is free the entry's stamp is new at its index,
-- and else the entry stands already. No place is free where all are used.
use Rattle.std.proofs.Common.{ℕ, zero, suc, ◌≡◌, ◌≢◌, ◌+◌, ◌≤◌, ◌<◌, ◌==◌, ◌&&◌, ◌||◌, not, Bool, true, false, cond, List, [], ◌∷◌, length, count_by, Option, Some, None, refl, sym, ap, ◌∙◌, subst, arith}
use Rattle.std.specs.Prelude.{nat_lt}
use Rattle.std.specs.List.{Contains, list_all}
use Rattle.std.proofs.lemmas.Bool.{eqb-true, eq-eqb, ltb-true}
use Rattle.std.proofs.lemmas.List.Sums.{sum_by-cons}
use Rattle.vv_flat.specs.Lists.{if_found, numbers_from}
use Rattle.vv_flat.specs.State.{Piece}
use Rattle.vv_flat.specs.Chunks.{Entry}
use Rattle.vv_flat.specs.Sharing.{is_placed, both_or_neither, agrees, names_place, shares_places}
use Rattle.vv_flat.specs.NamedPlaces.{is_named, named_count}
use Rattle.vv_flat.proofs.Shares.{and_left, and_right, and_both, list_all-follows}
use Rattle.vv_vols.specs.Shelf.{ShelfState, shelf_pieces, shelf_used, index_at, is_shelf_free, shares_rightly}
use Rattle.vv_vols.specs.Calls.{placed_at}
use Rattle.vv_vols.specs.Places.{shelf_free}
use Rattle.vv_vols.specs.Conditions.{is_new_stamp, Stands}
use Rattle.vv_vols.proofs.Kept.{not_false, used_are_named}
use Rattle.vv_vols.proofs.Members.{here, there}
use Rattle.vv_tables.specs.Giving.{MayGiveOne}

-- ---- where all numbers pass
few_pass : (f : ℕ → Bool) (from count : ℕ) → count_by f (numbers_from from count) ≤ count
few_pass f from zero = omega arith
few_pass f from (suc count) =
    let step : count_by f (from ∷ numbers_from (from + 1) count) ≡ cond (f from) 1 0 + count_by f (numbers_from (from + 1) count) = sum_by-cons (λ q. cond (f q) 1 0) from (numbers_from (from + 1) count) in
    let rest : count_by f (numbers_from (from + 1) count) ≤ count = few_pass f (from + 1) count in
    let bit : cond (f from) 1 0 ≤ 1 = one (f from) in
    omega (arith, step, rest, bit)
  where
    one : (b : Bool) → cond b 1 0 ≤ 1
    one true = omega arith
    one false = omega arith

all_pass : (f : ℕ → Bool) (from count p : ℕ) → count ≤ count_by f (numbers_from from count) → from ≤ p → p < from + count → f p ≡ true
all_pass f from zero p all low high = absurd (omega arith)
all_pass f from (suc count) p all low high =
    go (f from) refl (p == from) refl (λ enough above. all_pass f (from + 1) count p enough above (omega (arith, high)))
  where
    step : count_by f (from ∷ numbers_from (from + 1) count) ≡ cond (f from) 1 0 + count_by f (numbers_from (from + 1) count)
    step = sum_by-cons (λ q. cond (f q) 1 0) from (numbers_from (from + 1) count)

    rest : count_by f (numbers_from (from + 1) count) ≤ count
    rest = few_pass f (from + 1) count

    go : (b : Bool) → f from ≡ b → (c : Bool) → (p == from) ≡ c → (count ≤ count_by f (numbers_from (from + 1) count) → from + 1 ≤ p → f p ≡ true) → f p ≡ true
    go true is true same later = ap f (eqb-true p from same) ∙ is
    go true is false apart later =
        let bit : ◌≡◌ {A = ℕ} (cond (f from) 1 0) 1 = ap (λ b. cond b 1 0) is in
        let other : p ≢ from = λ e. let s : (p == from) ≡ true = eq-eqb p from e in absurd (cc) in
        later (omega (arith, step, bit, all)) (omega (arith, low, other))
    go false is c told later =
        let bit : ◌≡◌ {A = ℕ} (cond (f from) 1 0) 0 = ap (λ b. cond b 1 0) is in
        absurd (omega (arith, step, rest, bit, all))

-- no place is free where all are used
pub none_free : (s : ShelfState) (p : ℕ) → shares_rightly s ≡ true → s.fresh ≡ [] → s.reserved ≡ 0 → shelf_free s ≡ 0 → is_shelf_free s p ≡ false
unfolding named_count
none_free s p shares fresh reserved none =
    go (nat_lt p s.geometry.pool_chunks) refl
  where
    used : shelf_used s ≡ count_by (is_named (shelf_pieces s)) (numbers_from 0 s.geometry.pool_chunks) + length s.fresh
    used = used_are_named s shares

    no_fresh : length s.fresh ≡ 0
    no_fresh = ap (λ (ps : List ℕ). length ps) fresh

    go : (b : Bool) → nat_lt p s.geometry.pool_chunks ≡ b → ((b && not (is_named (shelf_pieces s) p)) && list_all (λ q. not (q == p)) s.fresh) ≡ false
    go false is = refl
    go true is =
        let below : p < s.geometry.pool_chunks = ltb-true p s.geometry.pool_chunks is in
        let named : is_named (shelf_pieces s) p ≡ true =
        all_pass (is_named (shelf_pieces s)) 0 s.geometry.pool_chunks p (omega (arith, used, no_fresh, reserved, none)) (omega arith) (omega (arith, below)) in
        ap (λ b. (true && not b) && list_all (λ q. not (q == p)) s.fresh) named

-- ---- beside entries with which it agrees
abbrev new_piece : ℕ → ℕ → ℕ → Piece Entry
new_piece i p stamp = record { index = i; chunk = placed_at p stamp }

module _ (i p stamp : ℕ) where
  -- one that names the place is the same
  same_piece : (a : Piece Entry) → agrees a (new_piece i p stamp) ≡ true → names_place p a ≡ true → a ≡ new_piece i p stamp
  same_piece a agree named = go a.chunk.place agree named
    where
      both : (b c : Bool) → both_or_neither b c ≡ true → b ≡ true → c ≡ true
      both true c e is = e
      both false c e is = absurd (cc)

      go : (o : Option ℕ) → if_found o (λ q. both_or_neither (q == p) ((a.index == i) && (a.chunk.stamp == stamp))) true ≡ true → if_found o (λ q. q == p) false ≡ true
          → record { index = a.index; chunk = record { place = o; stamp = a.chunk.stamp } } ≡ new_piece i p stamp
      go None agree named = absurd (cc)
      go (Some q) agree named =
          let tells : ((a.index == i) && (a.chunk.stamp == stamp)) ≡ true = both (q == p) ((a.index == i) && (a.chunk.stamp == stamp)) agree named in
          let index : a.index ≡ i = eqb-true a.index i (and_left (a.index == i) (a.chunk.stamp == stamp) tells) in
          let stamps : a.chunk.stamp ≡ stamp = eqb-true a.chunk.stamp stamp (and_right (a.index == i) (a.chunk.stamp == stamp) tells) in
          let place : q ≡ p = eqb-true q p named in
          ap (λ k. record { index = k; chunk = record { place = Some q; stamp = a.chunk.stamp } }) index
          ∙ ap (λ k. record { index = i; chunk = record { place = Some k; stamp = a.chunk.stamp } }) place
          ∙ ap (λ k. record { index = i; chunk = record { place = Some p; stamp = k } }) stamps

  pub stands_named : (ps : List (Piece Entry)) → list_all (λ (a : Piece Entry). agrees a (new_piece i p stamp)) ps ≡ true → is_named ps p ≡ true
      → Contains ps (new_piece i p stamp)
  stands_named [] agree named = absurd (cc)
  stands_named (a ∷ ps) agree named =
      go (names_place p a) refl named
      (stands_named ps (and_right (agrees a (new_piece i p stamp)) (list_all (λ (b : Piece Entry). agrees b (new_piece i p stamp)) ps) agree))
    where
      go : (b : Bool) → names_place p a ≡ b → (b || is_named ps p) ≡ true → (is_named ps p ≡ true → Contains ps (new_piece i p stamp)) → Contains (a ∷ ps) (new_piece i p stamp)
      go true is some later =
          subst (λ b. Contains (a ∷ ps) b)
          (same_piece a (and_left (agrees a (new_piece i p stamp)) (list_all (λ (b : Piece Entry). agrees b (new_piece i p stamp)) ps) agree) is) (here a ps)
      go false is some later = there a ps (new_piece i p stamp) (later some)

  -- where none names the place, none has the stamp at the index
  other_stamp : (pool : ℕ) (a : Piece Entry) → (stamp == 0) ≡ false → is_placed pool a.chunk ≡ true → agrees a (new_piece i p stamp) ≡ true → names_place p a ≡ false
      → not ((a.index == i) && (a.chunk.stamp == stamp)) ≡ true
  other_stamp pool a some placed agree unnamed = go ((a.index == i) && (a.chunk.stamp == stamp)) refl
    where
      neither : (b : Bool) → both_or_neither b true ≡ true → b ≡ true
      neither true e = refl
      neither false e = e

      no_place : (o : Option ℕ) → if_found o (λ q. not (a.chunk.stamp == 0) && nat_lt q pool) (a.chunk.stamp == 0) ≡ true
          → if_found o (λ q. both_or_neither (q == p) true) true ≡ true → if_found o (λ q. q == p) false ≡ false → (a.chunk.stamp == 0) ≡ true
      no_place None placed agree unnamed = placed
      no_place (Some q) placed agree unnamed = let is : (q == p) ≡ true = neither (q == p) agree in absurd (cc)

      go : (b : Bool) → ((a.index == i) && (a.chunk.stamp == stamp)) ≡ b → not ((a.index == i) && (a.chunk.stamp == stamp)) ≡ true
      go false is = ap not is
      go true is =
          let stamps : a.chunk.stamp ≡ stamp = eqb-true a.chunk.stamp stamp (and_right (a.index == i) (a.chunk.stamp == stamp) is) in
          let none : (a.chunk.stamp == 0) ≡ true =
          no_place a.chunk.place placed (sym (ap (λ b. if_found a.chunk.place (λ q. both_or_neither (q == p) b) true) is) ∙ agree) unnamed in
          let wrong : (stamp == 0) ≡ true = sym (ap (λ k. k == 0) stamps) ∙ none in
          absurd (cc)

  stamp_new : (pool : ℕ) (ps : List (Piece Entry)) → (stamp == 0) ≡ false → list_all (λ (a : Piece Entry). is_placed pool a.chunk) ps ≡ true
      → list_all (λ (a : Piece Entry). agrees a (new_piece i p stamp)) ps ≡ true → is_named ps p ≡ false
      → list_all (λ (a : Piece Entry). not ((a.index == i) && (a.chunk.stamp == stamp))) ps ≡ true
  stamp_new pool [] some placed agree unnamed = refl
  stamp_new pool (a ∷ ps) some placed agree unnamed =
      let here_agrees = and_left (agrees a (new_piece i p stamp)) (list_all (λ (b : Piece Entry). agrees b (new_piece i p stamp)) ps) agree in
      let others_agree = and_right (agrees a (new_piece i p stamp)) (list_all (λ (b : Piece Entry). agrees b (new_piece i p stamp)) ps) agree in
      let here_placed = and_left (is_placed pool a.chunk) (list_all (λ (b : Piece Entry). is_placed pool b.chunk) ps) placed in
      let others_placed = and_right (is_placed pool a.chunk) (list_all (λ (b : Piece Entry). is_placed pool b.chunk) ps) placed in
      and_both (not ((a.index == i) && (a.chunk.stamp == stamp))) (list_all (λ (b : Piece Entry). not ((b.index == i) && (b.chunk.stamp == stamp))) ps)
      (other_stamp pool a some here_placed here_agrees (first (names_place p a) (is_named ps p) unnamed))
      (stamp_new pool ps some others_placed others_agree (second (names_place p a) (is_named ps p) unnamed))
    where
      first : (b c : Bool) → (b || c) ≡ false → b ≡ false
      first true c e = e
      first false c e = refl

      second : (b c : Bool) → (b || c) ≡ false → c ≡ false
      second true c e = absurd (cc)
      second false c e = e

all_placed : (pool : ℕ) (all : List (Piece Entry)) → shares_places pool all ≡ true → list_all (λ (a : Piece Entry). is_placed pool a.chunk) all ≡ true
unfolding shares_places
all_placed pool all shares =
    list_all-follows (λ (a : Piece Entry). is_placed pool a.chunk && list_all (agrees a) all) (λ (a : Piece Entry). is_placed pool a.chunk)
    (λ a e. and_left (is_placed pool a.chunk) (list_all (agrees a) all) e) all shares

module _ (s : ShelfState) (n at p stamp : ℕ) (may : MayGiveOne s n at (placed_at p stamp)) (shares : shares_rightly s ≡ true) where
  stamped : (stamp == 0) ≡ false
  stamped = not_false (stamp == 0) (and_left (not (stamp == 0)) (nat_lt p s.geometry.pool_chunks) may.placed)

  -- a free place has a stamp that is new at its index
  pub given_stamp : is_shelf_free s p ≡ true → is_new_stamp s (index_at s n at) stamp ≡ true
  given_stamp free =
      let unnamed : is_named (shelf_pieces s) p ≡ false =
      not_false (is_named (shelf_pieces s) p)
      (and_right (nat_lt p s.geometry.pool_chunks) (not (is_named (shelf_pieces s) p))
      (and_left (nat_lt p s.geometry.pool_chunks && not (is_named (shelf_pieces s) p)) (list_all (λ q. not (q == p)) s.fresh) free)) in
      and_both (not (stamp == 0)) (list_all (λ (a : Piece Entry). not ((a.index == index_at s n at) && (a.chunk.stamp == stamp))) (shelf_pieces s))
      (ap not stamped)
      (stamp_new (index_at s n at) p stamp s.geometry.pool_chunks (shelf_pieces s) stamped (all_placed s.geometry.pool_chunks (shelf_pieces s) shares) may.agree unnamed)

  -- the entry of another place stands
  pub given_stands : is_shelf_free s p ≡ false → Stands s (record { index = index_at s n at; chunk = placed_at p stamp })
  given_stands taken = stands_named (index_at s n at) p stamp (shelf_pieces s) may.agree (go (is_named (shelf_pieces s) p) refl)
    where
      go : (b : Bool) → is_named (shelf_pieces s) p ≡ b → is_named (shelf_pieces s) p ≡ true
      go true is = is
      go false is =
          let free : is_shelf_free s p ≡ true =
          and_both (nat_lt p s.geometry.pool_chunks && not (is_named (shelf_pieces s) p)) (list_all (λ q. not (q == p)) s.fresh)
          (and_both (nat_lt p s.geometry.pool_chunks) (not (is_named (shelf_pieces s) p)) (and_right (not (stamp == 0)) (nat_lt p s.geometry.pool_chunks) may.placed) (ap not is))
          (ap (λ (ps : List ℕ). list_all (λ q. not (q == p)) ps) may.fresh) in
          absurd (cc)
