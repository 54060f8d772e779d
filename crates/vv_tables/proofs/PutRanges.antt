-- Places that are put into a volume one after another.
use Rattle.std.proofs.Common.{ℕ, zero, suc, ◌≡◌, ◌+◌, ◌≤◌, ◌<◌, ◌==◌, ◌&&◌, not, true, false, List, [], ◌∷◌, length, set, refl, ap, ◌∙◌, arith}
use Rattle.std.specs.Prelude.{nat_lt}
use Rattle.std.specs.List.{list_all, list_any}
use Rattle.std.proofs.lemmas.Bool.{ne_eqb}
use Rattle.vv_flat.specs.Lists.{all_different, numbers_from, put_at}
use Rattle.vv_flat.specs.State.{Volume, Piece}
use Rattle.vv_flat.specs.Chunks.{Entry, placed_entries}
use Rattle.vv_flat.specs.NamedPlaces.{is_named}
use Rattle.vv_flat.proofs.Shares.{and_left, and_right, and_both, list_all-both}
use Rattle.vv_flat.proofs.NewEntries.{eq_turn}
use Rattle.vv_vols.specs.Shelf.{ShelfState, size_in, is_shelf_free, shelf_pieces}
use Rattle.vv_vols.specs.Calls.{placed_at, with_chunks, with_entry}
use Rattle.vv_vols.specs.Conditions.{is_new_stamp}
use Rattle.vv_vols.specs.Places.{shelf_free}
use Rattle.vv_vols.proofs.Kept.{none_all, not_false}
use Rattle.vv_vols.proofs.TakenPlaces.{changed_stands}
use Rattle.vv_tables.specs.Putting.{MayPut}
use Rattle.vv_tables.proofs.ChangedChunks.{chunks_twice, same_chunks, size_stays}
use Rattle.vv_tables.proofs.PutEntries.{entry_passes, unnamed_stays}

-- what is still to be put
abbrev pub put_from : ShelfState → ℕ → ℕ → ℕ → List ℕ → ShelfState
put_from s n index stamp places = with_chunks s n (put_at (numbers_from index (length places)) (placed_entries places stamp))

pub put_none : (s : ShelfState) (n index stamp : ℕ) → put_from s n index stamp [] ≡ s
put_none s n index stamp = same_chunks s n

module _ (s : ShelfState) (n index stamp p : ℕ) where
  abbrev pub put_one : ShelfState
  put_one = with_entry s n index (placed_at p stamp)

  -- a place ahead of the others
  pub put_first : (ps : List ℕ) → put_from put_one n (index + 1) stamp ps ≡ put_from s n index stamp (p ∷ ps)
  put_first ps =
      chunks_twice n (λ chunks. set chunks index (placed_at p stamp)) (put_at (numbers_from (index + 1) (length ps)) (placed_entries ps stamp))
      (put_at (numbers_from index (length (p ∷ ps))) (placed_entries (p ∷ ps) stamp)) (λ chunks. refl) s

  free_stays : (q : ℕ) → is_shelf_free s q ≡ true → not (q == p) ≡ true → is_shelf_free put_one q ≡ true
  free_stays q free apart =
      let here : (nat_lt q s.geometry.pool_chunks && not (is_named (shelf_pieces s) q)) ≡ true = and_left _ (list_all (λ r. not (r == q)) s.fresh) free in
      let unnamed : is_named (shelf_pieces put_one) q ≡ false =
      unnamed_stays s n index p stamp q (eq_turn p q ∙ not_false (q == p) apart) (not_false (is_named (shelf_pieces s) q) (and_right (nat_lt q s.geometry.pool_chunks) _ here)) in
      and_both (nat_lt q s.geometry.pool_chunks && not (is_named (shelf_pieces put_one) q)) (list_all (λ r. not (r == q)) s.fresh)
      (and_both (nat_lt q s.geometry.pool_chunks) (not (is_named (shelf_pieces put_one) q)) (and_left (nat_lt q s.geometry.pool_chunks) _ here) (ap not unnamed))
      (and_right _ (list_all (λ r. not (r == q)) s.fresh) free)

  stamp_stays : (k : ℕ) → index < k → is_new_stamp s k stamp ≡ true → is_new_stamp put_one k stamp ≡ true
  stamp_stays k lt new =
      and_both (not (stamp == 0)) _ (and_left (not (stamp == 0)) _ new)
      (entry_passes (λ (a : Piece Entry). not ((a.index == k) && (a.chunk.stamp == stamp))) s n index (placed_at p stamp) (and_right (not (stamp == 0)) _ new)
      (ap (λ b. not (b && (stamp == stamp))) (ne_eqb index k (λ e. omega arith))))

  stamps_stay : (from count : ℕ) → index < from → list_all (λ k. is_new_stamp s k stamp) (numbers_from from count) ≡ true → list_all (λ k. is_new_stamp put_one k stamp) (numbers_from from count) ≡ true
  stamps_stay from zero lt all = refl
  stamps_stay from (suc count) lt all =
      and_both (is_new_stamp put_one from stamp) _
      (stamp_stays from lt (and_left (is_new_stamp s from stamp) (list_all (λ k. is_new_stamp s k stamp) (numbers_from (from + 1) count)) all))
      (stamps_stay (from + 1) count (omega arith) (and_right (is_new_stamp s from stamp) (list_all (λ k. is_new_stamp s k stamp) (numbers_from (from + 1) count)) all))

  module _ (ps : List ℕ) (may : MayPut s n index stamp (p ∷ ps)) where
    pub first_inside : index < size_in s n
    first_inside = let within : index + length (p ∷ ps) ≤ size_in s n = may.within in omega (arith, within)

    pub some_free : 1 ≤ shelf_free s
    some_free = let enough : length (p ∷ ps) ≤ shelf_free s = may.enough in omega (arith, enough)

    pub first_stamp : is_new_stamp s index stamp ≡ true
    first_stamp = and_left (is_new_stamp s index stamp) (list_all (λ k. is_new_stamp s k stamp) (numbers_from (index + 1) (length ps))) may.stamps

    -- once it is put
    pub may_next : shelf_free s ≤ shelf_free put_one + 1 → MayPut put_one n (index + 1) stamp ps
    may_next one_less = record {
      standing = changed_stands n (λ (v : Volume Entry). record v { chunks = set v.chunks index (placed_at p stamp) }) s.volumes (λ v. refl) may.standing;
      within =
          let within : index + length (p ∷ ps) ≤ size_in s n = may.within in
          let same : size_in put_one n ≡ size_in s n = size_stays s n index (placed_at p stamp) in
          omega (arith, within, same);
      free = list_all-both (is_shelf_free s) (λ q. not (q == p)) (is_shelf_free put_one) (λ q free apart. free_stays q free apart) ps
          (and_right (is_shelf_free s p) (list_all (is_shelf_free s) ps) may.free)
          (none_all (λ q. q == p) ps (and_left (not (list_any (λ m. m == p) ps)) (all_different ps) may.different));
      different = and_right (not (list_any (λ m. m == p) ps)) (all_different ps) may.different;
      enough = let enough : length (p ∷ ps) ≤ shelf_free s = may.enough in omega (arith, enough, one_less);
      fresh = may.fresh;
      stamps = stamps_stay (index + 1) (length ps) (omega arith)
          (and_right (is_new_stamp s index stamp) (list_all (λ k. is_new_stamp s k stamp) (numbers_from (index + 1) (length ps))) may.stamps);
    }
