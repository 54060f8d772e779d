-- A shelf in which an entry of a volume was put at a free place: what all its entries pass, which places it names, and how
-- many it has free.
use Rattle.std.proofs.Common.{ℕ, zero, suc, ◌≡◌, ◌+◌, ◌≤◌, ◌<◌, ◌==◌, ◌&&◌, not, Bool, true, false, cond, List, [], ◌∷◌, length, set, count_by, refl, sym, ap, ◌∙◌, arith}
use Rattle.std.specs.Prelude.{nat_lt, filter, fold}
use Rattle.std.specs.List.{list_all, flat_map}
use Rattle.std.proofs.lemmas.Bool.{eqb-true, eq-eqb, ne_eqb}
use Rattle.std.proofs.lemmas.List.Folds.{list_all-append}
use Rattle.std.proofs.lemmas.List.Sums.{sum_by-cons}
use Rattle.vv_flat.specs.Lists.{first_changed, put_before, mapped_from, numbers_from}
use Rattle.vv_flat.specs.State.{Volume, Piece, indexed}
use Rattle.vv_flat.specs.Chunks.{Entry}
use Rattle.vv_flat.specs.Sharing.{names_place}
use Rattle.vv_flat.specs.NamedPlaces.{is_named, named_count}
use Rattle.vv_flat.proofs.Shares.{and_left, and_right, and_both}
use Rattle.vv_flat.proofs.Known.{all-flat_map, all-changed}
use Rattle.vv_flat.proofs.KeepTasks.{any_none}
use Rattle.vv_vols.specs.Shelf.{HeldList, ShelfState, shelf_pieces, shelf_used, is_volume, shares_rightly}
use Rattle.vv_vols.specs.Calls.{placed_at, with_entry, with_put}
use Rattle.vv_vols.specs.Places.{shelf_free, with_taken}
use Rattle.vv_vols.proofs.Kept.{none_all, used_are_named}

-- ---- what all entries pass
module _ (t : Piece Entry → Bool) where
  abbrev passing : ℕ → List Entry → Bool
  passing j xs = list_all t (mapped_from (λ i x. record { index = i; chunk = x }) j xs)

  set_passes : (j i k : ℕ) (e : Entry) (xs : List Entry) → j + i ≡ k → t (record { index = k; chunk = e }) ≡ true → passing j xs ≡ true → passing j (set xs i e) ≡ true
  set_passes j i k e [] is new old = refl
  set_passes j zero k e (x ∷ xs) is new old =
      let same : k ≡ j = omega arith in
      and_both (t (record { index = j; chunk = e })) _ (ap (λ n. t (record { index = n; chunk = e })) (sym same) ∙ new) (and_right (t (record { index = j; chunk = x })) _ old)
  set_passes j (suc i) k e (x ∷ xs) is new old =
      and_both (t (record { index = j; chunk = x })) _ (and_left (t (record { index = j; chunk = x })) _ old)
      (set_passes (j + 1) i k e xs (omega arith) new (and_right (t (record { index = j; chunk = x })) _ old))

  -- those of a shelf with one more, in a volume
  pub entry_passes : (s : ShelfState) (n index : ℕ) (e : Entry) → list_all t (shelf_pieces s) ≡ true → t (record { index = index; chunk = e }) ≡ true
      → list_all t (shelf_pieces (with_entry s n index e)) ≡ true
  entry_passes s n index e old new =
      let put : Volume Entry → Volume Entry = λ v. record v { chunks = set v.chunks index e } in
      let held : List (Piece Entry) = flat_map (λ (h : HeldList). h.pieces) s.held in
      let both : (list_all t (flat_map (λ (v : Volume Entry). indexed v.chunks) s.volumes) && list_all t held) ≡ true =
      sym (list_all-append t (flat_map (λ (v : Volume Entry). indexed v.chunks) s.volumes) held) ∙ old in
      let volumes : list_all (λ (v : Volume Entry). list_all t (indexed v.chunks)) s.volumes ≡ true =
      sym (all-flat_map t (λ (v : Volume Entry). indexed v.chunks) s.volumes) ∙ and_left _ (list_all t held) both in
      let changed : list_all (λ (v : Volume Entry). list_all t (indexed v.chunks)) (first_changed (is_volume n) put s.volumes) ≡ true =
      all-changed (λ (v : Volume Entry). list_all t (indexed v.chunks)) (is_volume n) put s.volumes volumes
      (λ v found passes. set_passes 0 index index e v.chunks (omega arith) new passes) in
      list_all-append t (flat_map (λ (v : Volume Entry). indexed v.chunks) (first_changed (is_volume n) put s.volumes)) held
      ∙ and_both (list_all t (flat_map (λ (v : Volume Entry). indexed v.chunks) (first_changed (is_volume n) put s.volumes))) (list_all t held)
      (all-flat_map t (λ (v : Volume Entry). indexed v.chunks) (first_changed (is_volume n) put s.volumes) ∙ changed)
      (and_right _ (list_all t held) both)

-- ---- the places that are named
module _ (s : ShelfState) (n index p stamp : ℕ) where
  -- a place that none named, and that isn't the new one, is named by none
  pub unnamed_stays : (q : ℕ) → (p == q) ≡ false → is_named (shelf_pieces s) q ≡ false → is_named (shelf_pieces (with_entry s n index (placed_at p stamp))) q ≡ false
  unnamed_stays q apart none =
      any_none (names_place q) (shelf_pieces (with_entry s n index (placed_at p stamp)))
      (entry_passes (λ a. not (names_place q a)) s n index (placed_at p stamp) (none_all (names_place q) (shelf_pieces s) (ap not none)) (ap not apart))

-- ---- how many places are named
none_ahead : (p from count : ℕ) → p < from → count_by (λ q. p == q) (numbers_from from count) ≡ 0
none_ahead p from zero lt = refl
none_ahead p from (suc count) lt =
    let step : count_by (λ q. p == q) (from ∷ numbers_from (from + 1) count) ≡ cond (p == from) 1 0 + count_by (λ q. p == q) (numbers_from (from + 1) count) =
    sum_by-cons (λ q. cond (p == q) 1 0) from (numbers_from (from + 1) count) in
    let here : ◌≡◌ {A = ℕ} (cond (p == from) 1 0) 0 = ap (λ b. cond b 1 0) (ne_eqb p from (λ e. omega arith)) in
    let rest : count_by (λ q. p == q) (numbers_from (from + 1) count) ≡ 0 = none_ahead p (from + 1) count (omega arith) in
    omega (arith, step, here, rest)

once : (p from count : ℕ) → count_by (λ q. p == q) (numbers_from from count) ≤ 1
once p from zero = omega arith
once p from (suc count) = go (p == from) refl (once p (from + 1) count)
  where
    step : count_by (λ q. p == q) (from ∷ numbers_from (from + 1) count) ≡ cond (p == from) 1 0 + count_by (λ q. p == q) (numbers_from (from + 1) count)
    step = sum_by-cons (λ q. cond (p == q) 1 0) from (numbers_from (from + 1) count)

    go : (b : Bool) → (p == from) ≡ b → count_by (λ q. p == q) (numbers_from (from + 1) count) ≤ 1 → count_by (λ q. p == q) (numbers_from from (suc count)) ≤ 1
    go true is rest =
        let same : p ≡ from = eqb-true p from is in
        let here : ◌≡◌ {A = ℕ} (cond (p == from) 1 0) 1 = ap (λ b. cond b 1 0) is in
        let none : count_by (λ q. p == q) (numbers_from (from + 1) count) ≡ 0 = none_ahead p (from + 1) count (omega arith) in
        omega (arith, step, here, none)
    go false is rest =
        let here : ◌≡◌ {A = ℕ} (cond (p == from) 1 0) 0 = ap (λ b. cond b 1 0) is in
        omega (arith, step, here, rest)

bits : (now old one : Bool) → (one ≡ false → old ≡ false → now ≡ false) → cond now 1 0 ≤ cond old 1 0 + cond one 1 0
bits true true one e = omega arith
bits true false true e = omega arith
bits true false false e = absurd (let f : true ≡ false = e refl refl in cc)
bits false old one e = omega arith

one_more : (P Q : ℕ → Bool) (p : ℕ) → ((q : ℕ) → (p == q) ≡ false → P q ≡ false → Q q ≡ false) → (ns : List ℕ)
    → count_by Q ns ≤ count_by P ns + count_by (λ q. p == q) ns
one_more P Q p none [] = omega arith
one_more P Q p none (n ∷ ns) =
    let now : count_by Q (n ∷ ns) ≡ cond (Q n) 1 0 + count_by Q ns = sum_by-cons (λ q. cond (Q q) 1 0) n ns in
    let old : count_by P (n ∷ ns) ≡ cond (P n) 1 0 + count_by P ns = sum_by-cons (λ q. cond (P q) 1 0) n ns in
    let one : count_by (λ q. p == q) (n ∷ ns) ≡ cond (p == n) 1 0 + count_by (λ q. p == q) ns = sum_by-cons (λ q. cond (p == q) 1 0) n ns in
    let rest : count_by Q ns ≤ count_by P ns + count_by (λ q. p == q) ns = one_more P Q p none ns in
    let here : cond (Q n) 1 0 ≤ cond (P n) 1 0 + cond (p == n) 1 0 = bits (Q n) (P n) (p == n) (none n) in
    omega (arith, now, old, one, rest, here)

named_more : (s : ShelfState) (n index p stamp : ℕ)
    → named_count s.geometry.pool_chunks (shelf_pieces (with_entry s n index (placed_at p stamp))) ≤ named_count s.geometry.pool_chunks (shelf_pieces s) + 1
unfolding named_count
named_more s n index p stamp =
    let more : count_by (is_named (shelf_pieces (with_entry s n index (placed_at p stamp)))) (numbers_from 0 s.geometry.pool_chunks)
    ≤ count_by (is_named (shelf_pieces s)) (numbers_from 0 s.geometry.pool_chunks) + count_by (λ q. p == q) (numbers_from 0 s.geometry.pool_chunks) =
    one_more (is_named (shelf_pieces s)) (is_named (shelf_pieces (with_entry s n index (placed_at p stamp)))) p
    (λ q apart none. unnamed_stays s n index p stamp q apart none) (numbers_from 0 s.geometry.pool_chunks) in
    let one : count_by (λ q. p == q) (numbers_from 0 s.geometry.pool_chunks) ≤ 1 = once p 0 s.geometry.pool_chunks in
    omega (arith, more, one)

-- a place was taken, and put: one place less is free, at most
none_left : (p : ℕ) (fresh : List ℕ) → fresh ≡ [] → length (filter (λ q. not (q == p)) (fold (λ now r. put_before (λ q. nat_lt r q) r now) fresh (p ∷ []))) ≡ 0
none_left p fresh is =
    ap (λ (ps : List ℕ). length (filter (λ q. not (q == p)) (fold (λ now r. put_before (λ q. nat_lt r q) r now) ps (p ∷ [])))) is
    ∙ ap (λ b. length (cond (not b) (p ∷ []) [])) (eq-eqb p p refl)

pub put_enough : (s s' : ShelfState) (n index p stamp : ℕ) → s.fresh ≡ [] → s' ≡ with_put (with_taken s (p ∷ [])) n index p stamp → shares_rightly s ≡ true → shares_rightly s' ≡ true
    → shelf_free s ≤ shelf_free s' + 1
put_enough s s' n index p stamp fresh is shares shares' =
    let before : shelf_used s ≡ named_count s.geometry.pool_chunks (shelf_pieces s) + length s.fresh = used_are_named s shares in
    let after : shelf_used s' ≡ named_count s'.geometry.pool_chunks (shelf_pieces s') + length s'.fresh = used_are_named s' shares' in
    let named : named_count s'.geometry.pool_chunks (shelf_pieces s') ≡ named_count s.geometry.pool_chunks (shelf_pieces (with_entry s n index (placed_at p stamp))) =
    ap (λ (t : ShelfState). named_count t.geometry.pool_chunks (shelf_pieces t)) is in
    let more : named_count s.geometry.pool_chunks (shelf_pieces (with_entry s n index (placed_at p stamp))) ≤ named_count s.geometry.pool_chunks (shelf_pieces s) + 1 = named_more s n index p stamp in
    let none : length s'.fresh ≡ 0 = ap (λ (t : ShelfState). length t.fresh) is ∙ none_left p s.fresh fresh in
    let pool : s'.geometry.pool_chunks ≡ s.geometry.pool_chunks = ap (λ (t : ShelfState). t.geometry.pool_chunks) is in
    let reserve : s'.reserved ≡ s.reserved = ap (λ (t : ShelfState). t.reserved) is in
    omega (arith, before, after, named, more, none, pool, reserve)
