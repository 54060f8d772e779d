-- What all entries of tables pass all entries of their shelf pass: so a fresh place of the tables is free in the shelf, and a
-- stamp above the log number is new there.
use Rattle.std.proofs.Common.{ℕ, ◌≡◌, ◌+◌, ◌-◌, ◌≤◌, ◌==◌, ◌&&◌, not, Bool, true, false, cond, List, [], ◌∷◌, count_by, refl, sym, ap, ◌∙◌, arith}
use Rattle.std.specs.Prelude.{nat_le, nat_lt}
use Rattle.std.specs.List.{list_all}
use Rattle.std.proofs.lemmas.Bool.{leb-true, ne_eqb, and_right as and_false}
use Rattle.std.proofs.lemmas.List.Folds.{list_all-map}
use Rattle.std.proofs.lemmas.List.Sums.{sum_by-cons}
use Rattle.vv_flat.specs.State.{Piece, Task, Durable, all_pieces}
use Rattle.vv_flat.specs.Chunks.{Entry, shape_of_tables}
use Rattle.vv_flat.specs.Space.{used, reserved, free}
use Rattle.vv_flat.specs.Sharing.{Standing, standings, is_placed, is_own_stamp, agrees, is_shared_rightly, shares, names_place, place_count}
use Rattle.vv_flat.specs.NamedPlaces.{is_named}
use Rattle.vv_flat.specs.Replay.{is_fresh}
use Rattle.vv_flat.specs.WellFormed.{is_well_formed}
use Rattle.vv_flat.proofs.Shares.{and_left, and_right, and_both, list_all-follows, pieces_of_standings}
use Rattle.vv_flat.proofs.NamedPlaces.{any-counted, named-counted}
use Rattle.vv_laws.proofs.WellFormed.{well_formed_sharing}
use Rattle.vv_container.specs.Table.{ChargedContainer}
use Rattle.vv_bind.specs.Table.{BindState}
use Rattle.vv_vols.specs.Shelf.{ShelfState, shelf_pieces, is_shelf_free}
use Rattle.vv_vols.specs.Conditions.{is_new_stamp}
use Rattle.vv_vols.specs.Places.{shelf_free}
use Rattle.vv_tables.specs.declared.rows.CloneRow.{CloneRow}
use Rattle.vv_tables.specs.declared.rows.CopyRow.{CopyRow}
use Rattle.vv_tables.specs.Seen.{seen_durable}
use Rattle.vv_tables.specs.Kept.{AreHeld, AreWell}
use Rattle.vv_tables.proofs.ShelfCounts.{shelf_sum, shelf_used_all}

-- all pass where none is counted that doesn't
all_counted : {A : Type 0} (t : A → Bool) (xs : List A) → list_all t xs ≡ (count_by (λ x. not (t x)) xs == 0)
all_counted t [] = refl
all_counted t (x ∷ xs) = go (t x) (all_counted t xs) ∙ ap (λ n. n == 0) (sym (sum_by-cons (λ y. cond (not (t y)) 1 0) x xs))
  where
    go : (b : Bool) → list_all t xs ≡ (count_by (λ y. not (t y)) xs == 0)
        → (b && list_all t xs) ≡ ((cond (not b) 1 0 + count_by (λ y. not (t y)) xs) == 0)
    go true e = e ∙ ap (λ n. n == 0) (omega arith)
    go false e = sym (ne_eqb (1 + count_by (λ y. not (t y)) xs) 0 (λ g. omega arith))

-- the stamps of tables are up to the log number
pub stamps_within : (d : Durable Entry) → is_well_formed d ≡ true → list_all (λ (a : Piece Entry). nat_le a.chunk.stamp d.lsn) (all_pieces d) ≡ true
unfolding shares
stamps_within d well =
    ap (list_all (λ (a : Piece Entry). nat_le a.chunk.stamp d.lsn)) (sym (pieces_of_standings d))
    ∙ list_all-map (λ (a : Piece Entry). nat_le a.chunk.stamp d.lsn) (λ (a : Standing). a.piece) (standings d)
    ∙ list_all-follows (is_shared_rightly d) (λ (a : Standing). nat_le a.piece.chunk.stamp d.lsn)
    (λ a e. and_right (is_placed d.geometry.pool_chunks a.piece.chunk) (nat_le a.piece.chunk.stamp d.lsn) (and_left _ (is_own_stamp d.clones a) (and_left _ (list_all (agrees a.piece) (all_pieces d)) e)))
    (standings d) (well_formed_sharing d well)

free_of : (d : Durable Entry) → d.geometry.pool_chunks - used (shape_of_tables d) - reserved (shape_of_tables d) ≡ free (shape_of_tables d)
unfolding used reserved free
free_of d = refl

module _ (lsn : ℕ) (s : ShelfState) (containers : List ChargedContainer) (bindings : BindState) (tasks : List Task) (clones : List CloneRow) (copies : List CopyRow) (held : AreHeld s clones copies) where
  pub shelf_all : (t : Piece Entry → Bool) → list_all t (shelf_pieces s) ≡ list_all t (all_pieces (seen_durable lsn s containers bindings tasks clones copies))
  shelf_all t =
      let d : Durable Entry = seen_durable lsn s containers bindings tasks clones copies in
      all_counted t (shelf_pieces s)
      ∙ ap (λ n. n == 0) (shelf_sum lsn s containers bindings tasks clones copies held (λ a. cond (not (t a)) 1 0))
      ∙ sym (all_counted t (all_pieces d))

  pub shelf_named : (p : ℕ) → is_named (shelf_pieces s) p ≡ is_named (all_pieces (seen_durable lsn s containers bindings tasks clones copies)) p
  shelf_named p =
      let d : Durable Entry = seen_durable lsn s containers bindings tasks clones copies in
      any-counted (names_place p) (shelf_pieces s)
      ∙ ap (λ n. not (n == 0)) (shelf_sum lsn s containers bindings tasks clones copies held (λ a. cond (names_place p a) 1 0))
      ∙ sym (any-counted (names_place p) (all_pieces d))

  -- a fresh place of the tables
  pub place_free : (p : ℕ) → s.fresh ≡ [] → is_fresh (seen_durable lsn s containers bindings tasks clones copies) p ≡ true → is_shelf_free s p ≡ true
  place_free p none fresh =
      let d : Durable Entry = seen_durable lsn s containers bindings tasks clones copies in
      let unnamed : is_named (shelf_pieces s) p ≡ false =
      shelf_named p ∙ named-counted (all_pieces d) p ∙ ap not (and_right (nat_lt p s.geometry.pool_chunks) (place_count (all_pieces d) p == 0) fresh) in
      and_both (nat_lt p s.geometry.pool_chunks && not (is_named (shelf_pieces s) p)) (list_all (λ q. not (q == p)) s.fresh)
      (and_both (nat_lt p s.geometry.pool_chunks) (not (is_named (shelf_pieces s) p)) (and_left (nat_lt p s.geometry.pool_chunks) _ fresh) (ap not unnamed))
      (ap (list_all (λ q. not (q == p))) none)

  module _ (well : AreWell s containers (seen_durable lsn s containers bindings tasks clones copies)) where
    -- how many places are free
    pub free_number : shelf_free s ≡ free (shape_of_tables (seen_durable lsn s containers bindings tasks clones copies))
    free_number =
        let d : Durable Entry = seen_durable lsn s containers bindings tasks clones copies in
        ap (λ n. s.geometry.pool_chunks - n - s.reserved) (shelf_used_all lsn s containers bindings tasks clones copies held well.well well.fresh)
        ∙ ap (λ n. s.geometry.pool_chunks - used (shape_of_tables d) - n) well.reserved
        ∙ free_of d

    -- the next log number stands nowhere
    pub next_stamp : (index : ℕ) → is_new_stamp s index (lsn + 1) ≡ true
    next_stamp index =
        let d : Durable Entry = seen_durable lsn s containers bindings tasks clones copies in
        and_both (not (lsn + 1 == 0)) (list_all (λ (a : Piece Entry). not ((a.index == index) && (a.chunk.stamp == lsn + 1))) (shelf_pieces s))
        (ap not (ne_eqb (lsn + 1) 0 (λ e. omega arith)))
        (shelf_all (λ a. not ((a.index == index) && (a.chunk.stamp == lsn + 1)))
        ∙ list_all-follows (λ (a : Piece Entry). nat_le a.chunk.stamp lsn) (λ a. not ((a.index == index) && (a.chunk.stamp == lsn + 1)))
        (λ a e. let le : a.chunk.stamp ≤ lsn = leb-true a.chunk.stamp lsn e in
        ap not (and_false (a.index == index) (a.chunk.stamp == lsn + 1) (ne_eqb a.chunk.stamp (lsn + 1) (λ f. omega arith)))) (all_pieces d) (stamps_within d well.well))
