-- A shelf in which an entry of a held list was put at a free place: what all its entries pass, which places it names, and how
-- many it has used.
use Rattle.std.proofs.Common.{ℕ, zero, suc, ◌≡◌, ◌+◌, ◌-◌, ◌≤◌, ◌<◌, ◌==◌, ◌&&◌, not, Bool, true, false, cond, List, [], ◌∷◌, length, count_by, Some, slice_get, refl, sym, ap, ◌∙◌, arith}
use Rattle.std.specs.Prelude.{nat_lt, filter, fold}
use Rattle.std.specs.List.{list_all, flat_map}
use Rattle.std.proofs.lemmas.Bool.{eqb-true, eq-eqb, ne_eqb}
use Rattle.std.proofs.lemmas.List.Folds.{list_all-append}
use Rattle.std.proofs.lemmas.List.Sums.{sum_by-cons}
use Rattle.vv_flat.specs.Lists.{first_changed, put_before, numbers_from}
use Rattle.vv_flat.specs.State.{Volume, Piece, indexed}
use Rattle.vv_flat.specs.Chunks.{Entry}
use Rattle.vv_flat.specs.Sharing.{names_place}
use Rattle.vv_flat.specs.NamedPlaces.{is_named, named_count}
use Rattle.vv_flat.proofs.Shares.{and_left, and_right, and_both}
use Rattle.vv_flat.proofs.Known.{all-flat_map, all-changed}
use Rattle.vv_flat.proofs.KeepTasks.{any_none}
use Rattle.vv_vols.specs.Shelf.{HeldList, ShelfState, shelf_pieces, shelf_used, is_held, held_in, shares_rightly}
use Rattle.vv_vols.specs.Calls.{placed_at, with_piece, with_reserve, without_fresh, piece_set}
use Rattle.vv_vols.specs.Places.{with_taken}
use Rattle.vv_vols.proofs.Kept.{none_all, used_are_named}

-- ---- what all entries pass
module _ (t : Piece Entry → Bool) where
  set_passes : (at : ℕ) (e : Entry) (ps : List (Piece Entry)) → ((a : Piece Entry) → slice_get ps at ≡ Some a → t (record a { chunk = e }) ≡ true)
      → list_all t ps ≡ true → list_all t (piece_set at e ps) ≡ true
  set_passes at e [] new old = refl
  set_passes zero e (a ∷ ps) new old = and_both (t (record a { chunk = e })) (list_all t ps) (new a refl) (and_right (t a) (list_all t ps) old)
  set_passes (suc at) e (a ∷ ps) new old =
      and_both (t a) (list_all t (piece_set at e ps)) (and_left (t a) (list_all t ps) old)
      (set_passes at e ps (λ b found. new b found) (and_right (t a) (list_all t ps) old))

  -- those of a shelf with another entry in a held list
  pub piece_passes : (s : ShelfState) (n index : ℕ) (e : Entry) → list_all t (shelf_pieces s) ≡ true
      → ((h : HeldList) → held_in s n ≡ Some h → (a : Piece Entry) → slice_get h.pieces index ≡ Some a → t (record a { chunk = e }) ≡ true)
      → list_all t (shelf_pieces (with_piece s n index e)) ≡ true
  piece_passes s n index e old new =
      let put : HeldList → HeldList = λ h. record h { pieces = piece_set index e h.pieces } in
      let volumes : List (Piece Entry) = flat_map (λ (v : Volume Entry). indexed v.chunks) s.volumes in
      let both : (list_all t volumes && list_all t (flat_map (λ (h : HeldList). h.pieces) s.held)) ≡ true =
      sym (list_all-append t volumes (flat_map (λ (h : HeldList). h.pieces) s.held)) ∙ old in
      let held : list_all (λ (h : HeldList). list_all t h.pieces) s.held ≡ true =
      sym (all-flat_map t (λ (h : HeldList). h.pieces) s.held) ∙ and_right (list_all t volumes) _ both in
      let changed : list_all (λ (h : HeldList). list_all t h.pieces) (first_changed (is_held n) put s.held) ≡ true =
      all-changed (λ (h : HeldList). list_all t h.pieces) (is_held n) put s.held held
      (λ h found passes. set_passes index e h.pieces (new h found) passes) in
      list_all-append t volumes (flat_map (λ (h : HeldList). h.pieces) (first_changed (is_held n) put s.held))
      ∙ and_both (list_all t volumes) (list_all t (flat_map (λ (h : HeldList). h.pieces) (first_changed (is_held n) put s.held)))
      (and_left (list_all t volumes) _ both)
      (all-flat_map t (λ (h : HeldList). h.pieces) (first_changed (is_held n) put s.held) ∙ changed)

-- ---- the places that are named
module _ (s : ShelfState) (n index p stamp : ℕ) where
  -- a place that none named, and that isn't the new one, is named by none
  pub unnamed_stays : (q : ℕ) → (p == q) ≡ false → is_named (shelf_pieces s) q ≡ false → is_named (shelf_pieces (with_piece s n index (placed_at p stamp))) q ≡ false
  unnamed_stays q apart none =
      any_none (names_place q) (shelf_pieces (with_piece s n index (placed_at p stamp)))
      (piece_passes (λ a. not (names_place q a)) s n index (placed_at p stamp) (none_all (names_place q) (shelf_pieces s) (ap not none)) (λ h found a at. ap not apart))

-- ---- how many places are named
none_ahead : (p from count : ℕ) → p < from → count_by (λ q. p == q) (numbers_from from count) ≡ 0
none_ahead p from zero lt = refl
none_ahead p from (suc count) lt =
    let step : count_by (λ q. p == q) (from ∷ numbers_from (from + 1) count) ≡ cond (p == from) 1 0 + count_by (λ q. p == q) (numbers_from (from + 1) count) =
    sum_by-cons (λ q. cond (p == q) 1 0) from (numbers_from (from + 1) count) in
    let here : ◌≡◌ {A = ℕ} (cond (p == from) 1 0) 0 = ap (λ b. cond b 1 0) (ne_eqb p from (λ e. omega arith)) in
    let rest : count_by (λ q. p == q) (numbers_from (from + 1) count) ≡ 0 = none_ahead p (from + 1) count (omega arith) in
    omega (arith, step, here, rest)

once : (p from count : ℕ) → count_by (λ q. p == q) (numbers_from from count) ≤ 1
once p from zero = omega arith
once p from (suc count) = go (p == from) refl (once p (from + 1) count)
  where
    step : count_by (λ q. p == q) (from ∷ numbers_from (from + 1) count) ≡ cond (p == from) 1 0 + count_by (λ q. p == q) (numbers_from (from + 1) count)
    step = sum_by-cons (λ q. cond (p == q) 1 0) from (numbers_from (from + 1) count)

    go : (b : Bool) → (p == from) ≡ b → count_by (λ q. p == q) (numbers_from (from + 1) count) ≤ 1 → count_by (λ q. p == q) (numbers_from from (suc count)) ≤ 1
    go true is rest =
        let same : p ≡ from = eqb-true p from is in
        let here : ◌≡◌ {A = ℕ} (cond (p == from) 1 0) 1 = ap (λ b. cond b 1 0) is in
        let none : count_by (λ q. p == q) (numbers_from (from + 1) count) ≡ 0 = none_ahead p (from + 1) count (omega arith) in
        omega (arith, step, here, none)
    go false is rest =
        let here : ◌≡◌ {A = ℕ} (cond (p == from) 1 0) 0 = ap (λ b. cond b 1 0) is in
        omega (arith, step, here, rest)

bits : (now old one : Bool) → (one ≡ false → old ≡ false → now ≡ false) → cond now 1 0 ≤ cond old 1 0 + cond one 1 0
bits true true one e = omega arith
bits true false true e = omega arith
bits true false false e = absurd (let f : true ≡ false = e refl refl in cc)
bits false old one e = omega arith

one_more : (P Q : ℕ → Bool) (p : ℕ) → ((q : ℕ) → (p == q) ≡ false → P q ≡ false → Q q ≡ false) → (ns : List ℕ)
    → count_by Q ns ≤ count_by P ns + count_by (λ q. p == q) ns
one_more P Q p none [] = omega arith
one_more P Q p none (n ∷ ns) =
    let now : count_by Q (n ∷ ns) ≡ cond (Q n) 1 0 + count_by Q ns = sum_by-cons (λ q. cond (Q q) 1 0) n ns in
    let old : count_by P (n ∷ ns) ≡ cond (P n) 1 0 + count_by P ns = sum_by-cons (λ q. cond (P q) 1 0) n ns in
    let one : count_by (λ q. p == q) (n ∷ ns) ≡ cond (p == n) 1 0 + count_by (λ q. p == q) ns = sum_by-cons (λ q. cond (p == q) 1 0) n ns in
    let rest : count_by Q ns ≤ count_by P ns + count_by (λ q. p == q) ns = one_more P Q p none ns in
    let here : cond (Q n) 1 0 ≤ cond (P n) 1 0 + cond (p == n) 1 0 = bits (Q n) (P n) (p == n) (none n) in
    omega (arith, now, old, one, rest, here)

named_more : (s : ShelfState) (n index p stamp : ℕ)
    → named_count s.geometry.pool_chunks (shelf_pieces (with_piece s n index (placed_at p stamp))) ≤ named_count s.geometry.pool_chunks (shelf_pieces s) + 1
unfolding named_count
named_more s n index p stamp =
    let more : count_by (is_named (shelf_pieces (with_piece s n index (placed_at p stamp)))) (numbers_from 0 s.geometry.pool_chunks)
    ≤ count_by (is_named (shelf_pieces s)) (numbers_from 0 s.geometry.pool_chunks) + count_by (λ q. p == q) (numbers_from 0 s.geometry.pool_chunks) =
    one_more (is_named (shelf_pieces s)) (is_named (shelf_pieces (with_piece s n index (placed_at p stamp)))) p
    (λ q apart none. unnamed_stays s n index p stamp q apart none) (numbers_from 0 s.geometry.pool_chunks) in
    let one : count_by (λ q. p == q) (numbers_from 0 s.geometry.pool_chunks) ≤ 1 = once p 0 s.geometry.pool_chunks in
    omega (arith, more, one)

-- a place was taken, and put
fresh_again : (p : ℕ) (fresh : List ℕ) → fresh ≡ [] → filter (λ q. not (q == p)) (fold (λ now r. put_before (λ q. nat_lt r q) r now) fresh (p ∷ [])) ≡ fresh
fresh_again p fresh is =
    ap (λ (ps : List ℕ). filter (λ q. not (q == p)) (fold (λ now r. put_before (λ q. nat_lt r q) r now) ps (p ∷ []))) is
    ∙ ap (λ b. cond (not b) (p ∷ []) []) (eq-eqb p p refl)
    ∙ sym is

-- the shelf with one more place put, in place of a reserved one
abbrev pub filled_one : ShelfState → ℕ → ℕ → ℕ → ℕ → ShelfState
filled_one s n index stamp p = with_reserve (with_piece s n index (placed_at p stamp)) (s.reserved - 1)

pub filled_is : (s : ShelfState) (n index stamp p : ℕ) → s.fresh ≡ []
    → with_piece (without_fresh (with_taken (with_reserve s (s.reserved - 1)) (p ∷ [])) p) n index (placed_at p stamp) ≡ filled_one s n index stamp p
filled_is s n index stamp p fresh = ap (λ (ps : List ℕ). record (filled_one s n index stamp p) { fresh = ps }) (fresh_again p s.fresh fresh)

pub filled_within : (s s' : ShelfState) (n index stamp p : ℕ) → s.fresh ≡ [] → s' ≡ filled_one s n index stamp p → shares_rightly s ≡ true → shares_rightly s' ≡ true
    → 1 ≤ s.reserved → shelf_used s + s.reserved ≤ s.geometry.pool_chunks → shelf_used s' + s'.reserved ≤ s'.geometry.pool_chunks
filled_within s s' n index stamp p fresh is shares shares' some within =
    let before : shelf_used s ≡ named_count s.geometry.pool_chunks (shelf_pieces s) + length s.fresh = used_are_named s shares in
    let after : shelf_used s' ≡ named_count s'.geometry.pool_chunks (shelf_pieces s') + length s'.fresh = used_are_named s' shares' in
    let named : named_count s'.geometry.pool_chunks (shelf_pieces s') ≡ named_count s.geometry.pool_chunks (shelf_pieces (with_piece s n index (placed_at p stamp))) =
    ap (λ (t : ShelfState). named_count t.geometry.pool_chunks (shelf_pieces t)) is in
    let more : named_count s.geometry.pool_chunks (shelf_pieces (with_piece s n index (placed_at p stamp))) ≤ named_count s.geometry.pool_chunks (shelf_pieces s) + 1 = named_more s n index p stamp in
    let none : length s'.fresh ≡ length s.fresh = ap (λ (t : ShelfState). length t.fresh) is in
    let pool : s'.geometry.pool_chunks ≡ s.geometry.pool_chunks = ap (λ (t : ShelfState). t.geometry.pool_chunks) is in
    let reserve : s'.reserved ≡ s.reserved - 1 = ap (λ (t : ShelfState). t.reserved) is in
    omega (arith, before, after, named, more, none, pool, reserve, some, within)
