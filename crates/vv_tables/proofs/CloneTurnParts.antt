-- What is known of the turn of a running clone: its row, the indexes and the places of its copies, and that the places may be
-- put into its target.
use Rattle.std.proofs.Common.{ℕ, ◌≡◌, ◌+◌, ◌<◌, ◌≤◌, ◌==◌, ◌&&◌, ◌||◌, not, Bool, true, false, cond, List, [], ◌∷◌, map, set, length, Option, Some, None, option_map, slice_get, refl, sym, ap, ◌∙◌, arith}
use Rattle.std.specs.Prelude.{IsSome, nat_le, nat_lt}
use Rattle.std.specs.List.{find, list_all, All}
use Rattle.std.proofs.lemmas.Bool.{eq-eqb, eqb-true, leb-true, ltb-true}
use Rattle.std.proofs.lemmas.List.{length-map}
use Rattle.std.proofs.lemmas.List.Folds.{list_all-map}
use Rattle.std.proofs.lemmas.List.Elements.{All-nil, All-cons}
use Rattle.vv_units.specs.declared.geometry.Geometry.{Geometry}
use Rattle.vv_flat.specs.Lists.{if_found, all_different, all_rising, put_at}
use Rattle.vv_flat.specs.State.{Task, Piece, RunningClone, Durable, task_of, clone_of, map_clone, all_pieces, indexed}
use Rattle.vv_flat.specs.Chunks.{Entry, shape_of_tables, unmapped_entry}
use Rattle.vv_flat.specs.Space.{is_running, is_clone, used, reserved}
use Rattle.vv_flat.specs.Sharing.{Standing, standings, is_placed, is_own_stamp, agrees, is_shared_rightly, shares}
use Rattle.vv_flat.specs.FlatForm.{is_given}
use Rattle.vv_flat.specs.Rules.{space_rule, charges_fit, is_clone_kept}
use Rattle.vv_flat.specs.Tasks.{turn_indexes, turned_indexes, job_indexes}
use Rattle.vv_flat.specs.Changes.{Turn, changed_indexes}
use Rattle.vv_flat.specs.Replay.{fits, replayed, is_fresh}
use Rattle.vv_flat.specs.WellFormed.{is_well_formed}
use Rattle.vv_flat.proofs.KeepForm.{clones_are}
use Rattle.vv_flat.proofs.Known.{all-found}
use Rattle.vv_flat.proofs.MapDurable.{same-changed_indexes}
use Rattle.vv_flat.proofs.MapLists.{map-after}
use Rattle.vv_flat.proofs.NewEntries.{all-swap, all-always}
use Rattle.vv_flat.proofs.Pool.{is_kept}
use Rattle.vv_flat.proofs.Shares.{and_both, and_left, and_right, list_all-both, list_all-follows, pieces_of_standings}
use Rattle.vv_flat.proofs.Standings.{by_kind}
use Rattle.vv_flat.proofs.Steps.{find-passes}
use Rattle.std.proofs.lemmas.Option.{slice_get-map}
use Rattle.vv_tables.proofs.Walks.{past_end}
use Rattle.vv_laws.specs.Counts.{reserved_taken, reserved_added}
use Rattle.vv_laws.proofs.NewStamps.{Clones, clones_of, new_of, pass_pieces}
use Rattle.vv_laws.proofs.Standing.{AllPass}
use Rattle.vv_laws.proofs.UsedCounts.{turn_within}
use Rattle.vv_laws.proofs.WellFormed.{well_formed_sharing}
use Rattle.vv_container.specs.Table.{ChargedContainer}
use Rattle.vv_bind.specs.Table.{BindState}
use Rattle.vv_vols.specs.Shelf.{shelf_pieces, shelf_used, is_shelf_free}
use Rattle.vv_vols.specs.Conditions.{is_new_stamp}
use Rattle.vv_vols.specs.Rows.{ShelfView}
use Rattle.vv_vols.proofs.FoundSplit.{found_mapped, all_found}
use Rattle.vv_tables.specs.declared.rows.CloneRow.{CloneRow}
use Rattle.vv_tables.specs.declared.rows.CopyRow.{CopyRow}
use Rattle.vv_tables.specs.Rows.{is_clone_row}
use Rattle.vv_tables.specs.Seen.{seen_clone, seen_durable}
use Rattle.vv_tables.specs.Kept.{IsCloneHeld, IsTables}
use Rattle.vv_tables.specs.Filling.{pieces_filled, IsUnmappedAt, MayFill}
use Rattle.vv_tables.proofs.Accepted.{rules}
use Rattle.vv_tables.proofs.HeldFilling.{numbered, indexed_at}
use Rattle.vv_tables.proofs.HeldSums.{at_place}
use Rattle.vv_tables.proofs.HeldTargets.{set_indexed}
use Rattle.vv_tables.proofs.ShelfCounts.{shelf_used_all}
use Rattle.vv_tables.proofs.ShelfPieces.{shelf_all, place_free}
use Rattle.vv_tables.proofs.Stepped.{stepped_reserved}
use Rattle.vv_tables.proofs.TaskRows.{CloneTask, row_of_task}

abbrev stamp : Entry → ℕ
stamp e = e.stamp

-- what a record that fits says of its places
pub record Fitting (d : Durable Entry) (n : ℕ) (places : List ℕ) : Type 0 where
  pub as_many : length places ≡ length (changed_indexes stamp d (Turn n))
  pub different : all_different places ≡ true
  pub fresh : list_all (is_fresh d) places ≡ true

pub fitting : (d : Durable Entry) (n : ℕ) (places : List ℕ) → fits d (Turn n) places ≡ true → Fitting d n places
unfolding fits
fitting d n places e = record {
  as_many = eqb-true (length places) (length (changed_indexes stamp d (Turn n))) (and_right _ _ (and_left _ _ (and_left _ _ e)));
  different = and_right _ _ (and_left _ _ e);
  fresh = and_right _ _ e;
}

-- what a test tells of all items of a list
all_of : {A : Type 0} (p : A → Bool) (xs : List A) → list_all p xs ≡ true → All (λ x. p x ≡ true) xs
all_of p [] e = All-nil (λ x. p x ≡ true)
all_of p (x ∷ xs) e = All-cons (λ x. p x ≡ true) x xs (and_left (p x) (list_all p xs) e) (all_of p xs (and_right (p x) (list_all p xs) e))

-- a list with the indexes from 0 on, filled
pub filled_indexed : (is : List ℕ) (es xs : List Entry) → pieces_filled is es (indexed xs) ≡ indexed (put_at is es xs)
filled_indexed [] es xs = refl
filled_indexed (i ∷ is) [] xs = refl
filled_indexed (i ∷ is) (e ∷ es) xs = ap (pieces_filled is es) (set_indexed i e xs) ∙ filled_indexed is es (set xs i e)

-- an entry without a stamp has no place
no_stamp : (pool : ℕ) (e : Entry) → is_placed pool e ≡ true → e.stamp ≡ 0 → e ≡ unmapped_entry
no_stamp pool e placed none = go e.place refl placed
  where
    go : (o : Option ℕ) → e.place ≡ o → if_found o (λ p. not (e.stamp == 0) && nat_lt p pool) (e.stamp == 0) ≡ true → e ≡ unmapped_entry
    go None at placed = ap {B = Entry} (λ p. record { place = p; stamp = e.stamp }) at ∙ ap {B = Entry} (λ k. record { place = None; stamp = k }) none
    go (Some p) at placed =
        let zero : (e.stamp == 0) ≡ true = eq-eqb e.stamp 0 none in
        let no : (not true && nat_lt p pool) ≡ true = ap (λ b. not b && nat_lt p pool) (sym zero) ∙ placed in
        absurd (cc)

space_of : (d : Durable ℕ) → space_rule d ≡ true → used d + reserved d ≤ d.geometry.pool_chunks
unfolding space_rule
space_of d e = leb-true (used d + reserved d) d.geometry.pool_chunks (and_left _ (charges_fit d) e)

-- the entries of tables: each is placed, and has a stamp that was given where it stands
module _ (d : Durable Entry) (well : is_well_formed d ≡ true) where
  abbrev given : Standing → Bool
  given a = is_given d.lsn d.clones a.target_of a.piece.chunk.stamp

  all_given : list_all given (standings d) ≡ true
  unfolding shares
  all_given =
      list_all-follows (is_shared_rightly d) given
      (λ a e. and_both (nat_le a.piece.chunk.stamp d.lsn) (is_own_stamp d.clones a)
      (and_right (is_placed d.geometry.pool_chunks a.piece.chunk) (nat_le a.piece.chunk.stamp d.lsn) (and_left _ (is_own_stamp d.clones a) (and_left _ (list_all (agrees a.piece) (all_pieces d)) e)))
      (and_right _ (is_own_stamp d.clones a) (and_left _ (list_all (agrees a.piece) (all_pieces d)) e)))
      (standings d) (well_formed_sharing d well)

  stands_given : AllPass Entry (λ o p. is_given d.lsn d.clones o (stamp p.chunk)) (λ _. true) d
  stands_given =
      let k = by_kind given (λ _. true) d all_given (all-always (λ (c : RunningClone Entry). true) (λ c. refl) d.clones) in
      record { volumes = k.volumes; clones = k.clones; copies = k.copies; numbers = k.numbers }

  pub all_placed : list_all (λ (a : Piece Entry). is_placed d.geometry.pool_chunks a.chunk) (all_pieces d) ≡ true
  unfolding shares
  all_placed =
      ap (list_all (λ (a : Piece Entry). is_placed d.geometry.pool_chunks a.chunk)) (sym (pieces_of_standings d))
      ∙ list_all-map (λ (a : Piece Entry). is_placed d.geometry.pool_chunks a.chunk) (λ (a : Standing). a.piece) (standings d)
      ∙ list_all-follows (is_shared_rightly d) (λ (a : Standing). is_placed d.geometry.pool_chunks a.piece.chunk)
      (λ a e. and_left (is_placed d.geometry.pool_chunks a.piece.chunk) _ (and_left _ (is_own_stamp d.clones a) (and_left _ (list_all (agrees a.piece) (all_pieces d)) e)))
      (standings d) (well_formed_sharing d well)

  -- the new stamps of a turn
  pub turn_new : (n : ℕ) → (all_rising (changed_indexes stamp d (Turn n)) ≡ true)
      × ((list_all (λ _. not (n == 0) && nat_le n (d.lsn + 1)) (changed_indexes stamp d (Turn n)) ≡ true)
      × (list_all (λ (a : Piece Entry). list_all (λ i. not ((a.index == i) && (a.chunk.stamp == n))) (changed_indexes stamp d (Turn n))) (all_pieces d) ≡ true))
  turn_new n =
      let clones : Clones Entry stamp d = clones_of stamp d (rules d well).form (rules d well).numbers (rules d well).clones in
      let new = new_of stamp unmapped_entry d clones stands_given [] (Turn n) in
      (new.rises, (new.given, new.misses_old))

module _ (geometry : Geometry) (lsn : ℕ) (view : ShelfView) (containers : List ChargedContainer) (bindings : BindState) (tasks : List Task)
    (clones : List CloneRow) (copies : List CopyRow) (clone_memory copy_memory : ℕ)
    (kept : IsTables geometry lsn view containers bindings tasks clones copies clone_memory copy_memory)
    (n source : ℕ) (cloning : CloneTask tasks n source) (is places : List ℕ)
    (fit : fits (seen_durable lsn view.shelf containers bindings tasks clones copies) (Turn n) places ≡ true)
    (at_is : is ≡ changed_indexes stamp (seen_durable lsn view.shelf containers bindings tasks clones copies) (Turn n)) where
  abbrev pub d : Durable Entry
  d = seen_durable lsn view.shelf containers bindings tasks clones copies

  abbrev pub task : Task
  task = cloning.task

  parts : Fitting d n places
  parts = fitting d n places fit

  -- its row stands
  pub clone_row : IsSome (find (is_clone_row n) clones)
  clone_row =
      row_of_task (λ (row : CloneRow). row.id.0) (λ (t : Task). is_running t && is_clone t.job) clones tasks n task
      (sym (map-after (seen_clone view.shelf) (λ (c : RunningClone Entry). c.number) (λ (row : CloneRow). row.id.0) (λ row. refl) clones)
      ∙ sym (map-after (map_clone stamp) (λ (c : RunningClone ℕ). c.number) (λ (c : RunningClone Entry). c.number) (λ c. refl) d.clones)
      ∙ clones_are (shape_of_tables d) (rules d kept.kept.well))
      cloning.found (and_both (is_running task) (is_clone task.job) cloning.running (ap is_clone cloning.job))

  pub as_many : length is ≡ length places
  as_many = ap length at_is ∙ sym parts.as_many

  -- so many places are reserved for it
  pub taken_is : reserved_taken (shape_of_tables d) (Turn n) ≡ length places
  taken_is = ap length (same-changed_indexes stamp stamp (λ k. k) (λ e. refl) d (Turn n)) ∙ sym parts.as_many

  pub reserve_enough : length places ≤ view.shelf.reserved
  reserve_enough =
      let go : reserved (shape_of_tables (replayed d (Turn n) places)) + reserved_taken (shape_of_tables d) (Turn n) ≡ reserved (shape_of_tables d) + reserved_added (shape_of_tables d) (Turn n) =
      stepped_reserved d (replayed d (Turn n) places) (Turn n) places kept.kept.well fit refl in
      let none : reserved_added (shape_of_tables d) (Turn n) ≡ 0 = refl in
      let here : view.shelf.reserved ≡ reserved (shape_of_tables d) = kept.kept.reserved in
      omega (arith, go, none, here, taken_is)

  stamps_new : list_all (λ i. is_new_stamp view.shelf i n) is ≡ true
  stamps_new =
      let new = turn_new d kept.kept.well n in
      let in_shelf : list_all (λ (a : Piece Entry). list_all (λ i. not ((a.index == i) && (a.chunk.stamp == n))) (changed_indexes stamp d (Turn n))) (shelf_pieces view.shelf) ≡ true =
      shelf_all lsn view.shelf containers bindings tasks clones copies kept.held (λ (a : Piece Entry). list_all (λ i. not ((a.index == i) && (a.chunk.stamp == n))) (changed_indexes stamp d (Turn n))) ∙ new.1.1 in
      ap (list_all (λ i. is_new_stamp view.shelf i n)) at_is
      ∙ list_all-both (λ i. not (n == 0) && nat_le n (d.lsn + 1)) (λ i. list_all (λ (a : Piece Entry). not ((a.index == i) && (a.chunk.stamp == n))) (shelf_pieces view.shelf))
      (λ i. is_new_stamp view.shelf i n)
      (λ i g h. and_both (not (n == 0)) _ (and_left (not (n == 0)) (nat_le n (d.lsn + 1)) g) h)
      (changed_indexes stamp d (Turn n)) new.1.0
      (all-swap (λ (a : Piece Entry) i. not ((a.index == i) && (a.chunk.stamp == n))) (shelf_pieces view.shelf) (changed_indexes stamp d (Turn n)) in_shelf)

  module _ (row : CloneRow) (at : find (is_clone_row n) clones ≡ Some row) where
    abbrev pub clone : RunningClone Entry
    clone = seen_clone view.shelf row

    pub row_held : IsCloneHeld view.shelf row
    row_held = all_found (is_clone_row n) (IsCloneHeld view.shelf) clones row kept.held.images at

    clone_here : clone_of d n ≡ Some clone
    clone_here = found_mapped (is_clone_row n) (seen_clone view.shelf) (λ (c : RunningClone Entry). c.number == n) (λ row. refl) clones row at

    pub clone_own : clone_of d task.number ≡ Some clone
    clone_own = ap (clone_of d) cloning.number ∙ clone_here

    task_own : task_of d task.number ≡ Some task
    task_own = ap (task_of d) cloning.number ∙ cloning.found

    shape_own : clone_of (shape_of_tables d) task.number ≡ Some (map_clone stamp clone)
    shape_own = found_mapped (λ (c : RunningClone Entry). c.number == task.number) (map_clone stamp) (λ (c : RunningClone ℕ). c.number == task.number) (λ c. refl) d.clones clone clone_own

    pub clone_kept : is_clone_kept (map_clone stamp clone) task ≡ true
    clone_kept = is_kept (shape_of_tables d) task (map_clone stamp clone) (rules d kept.kept.well).clones task_own shape_own

    -- the indexes of the turn
    pub turn_is : changed_indexes stamp d (Turn n) ≡ turn_indexes (map stamp clone.image) task.done
    unfolding changed_indexes turned_indexes
    turn_is =
        ap (λ (o : Option Task). if_found o (λ t. cond (is_running t) (job_indexes stamp d t t.job) []) []) cloning.found
        ∙ ap (λ b. cond b (job_indexes stamp d task task.job) []) cloning.running
        ∙ ap (job_indexes stamp d task) cloning.job
        ∙ ap (λ (o : Option (RunningClone Entry)). if_found o (λ (c : RunningClone Entry). turn_indexes (map stamp c.image) task.done) []) clone_own

    -- what all entries pass the target passes
    in_target : (t : Piece Entry → Bool) → list_all t (all_pieces d) ≡ true → list_all t (indexed clone.target) ≡ true
    in_target t all =
        and_right (list_all t (indexed clone.image)) (list_all t (indexed clone.target))
        (all-found (λ (c : RunningClone Entry). list_all t (indexed c.image) && list_all t (indexed c.target)) (λ (c : RunningClone Entry). c.number == task.number) clone d.clones (pass_pieces t d all).clones clone_own)

    target_stamps : list_all (λ s. (s == 0) || (s == row.id.0)) (map stamp clone.target) ≡ true
    target_stamps = and_right _ _ clone_kept

    stamps : list_all (λ s. (s == 0) || (s == n)) (map stamp clone.target) ≡ true
    stamps = ap (λ m. list_all (λ s. (s == 0) || (s == m)) (map stamp clone.target)) (sym (eqb-true row.id.0 n (find-passes (is_clone_row n) clones row at))) ∙ target_stamps

    -- the target is unmapped at an index at which the stamp is new
    unmapped_one : (i : ℕ) → i < length clone.target → is_new_stamp view.shelf i n ≡ true → IsUnmappedAt view.shelf row.target.number i
    unmapped_one i lt new = go (slice_get clone.target i) refl
      where
        fresh_here : list_all (λ (a : Piece Entry). not ((a.index == i) && (a.chunk.stamp == n))) (indexed clone.target) ≡ true
        fresh_here =
            in_target (λ (a : Piece Entry). not ((a.index == i) && (a.chunk.stamp == n)))
            (sym (shelf_all lsn view.shelf containers bindings tasks clones copies kept.held (λ (a : Piece Entry). not ((a.index == i) && (a.chunk.stamp == n)))) ∙ and_right (not (n == 0)) _ new)

        zero_of : (a b : Bool) → (a || b) ≡ true → b ≡ false → a ≡ true
        zero_of true b e f = refl
        zero_of false b e f = absurd (cc)

        not_both : (a b : Bool) → a ≡ true → not (a && b) ≡ true → b ≡ false
        not_both true true e f = absurd (cc)
        not_both true false e f = refl
        not_both false b e f = absurd (cc)

        go : (o : Option Entry) → slice_get clone.target i ≡ o → IsUnmappedAt view.shelf row.target.number i
        go None e = absurd (let past : length clone.target ≤ i = past_end clone.target i e in omega (arith, past, lt))
        go (Some e) found =
            let piece : slice_get (indexed clone.target) i ≡ Some (numbered i e) = indexed_at i clone.target ∙ ap (option_map (numbered i)) found in
            let placed : is_placed d.geometry.pool_chunks e ≡ true =
            at_place (λ (a : Piece Entry). is_placed d.geometry.pool_chunks a.chunk ≡ true) (indexed clone.target) i (numbered i e)
            (all_of (λ (a : Piece Entry). is_placed d.geometry.pool_chunks a.chunk) (indexed clone.target) (in_target (λ (a : Piece Entry). is_placed d.geometry.pool_chunks a.chunk) (all_placed d kept.kept.well))) piece in
            let fresh : not ((i == i) && (e.stamp == n)) ≡ true =
            at_place (λ (a : Piece Entry). not ((a.index == i) && (a.chunk.stamp == n)) ≡ true) (indexed clone.target) i (numbered i e)
            (all_of (λ (a : Piece Entry). not ((a.index == i) && (a.chunk.stamp == n))) (indexed clone.target) fresh_here) piece in
            let either : ((e.stamp == 0) || (e.stamp == n)) ≡ true =
            at_place (λ s. ((s == 0) || (s == n)) ≡ true) (map stamp clone.target) i e.stamp (all_of (λ s. (s == 0) || (s == n)) (map stamp clone.target) stamps)
            (slice_get-map stamp clone.target i ∙ ap (option_map stamp) found) in
            let none : e.stamp ≡ 0 = eqb-true e.stamp 0 (zero_of (e.stamp == 0) (e.stamp == n) either (not_both (i == i) (e.stamp == n) (eq-eqb i i refl) fresh)) in
            ap (λ ps. option_map (λ (a : Piece Entry). a.chunk) (slice_get ps i)) row_held.target_indexed
            ∙ ap (option_map (λ (a : Piece Entry). a.chunk)) piece
            ∙ ap Some (no_stamp d.geometry.pool_chunks e placed none)

    unmapped_each : (js : List ℕ) → list_all (λ i. nat_lt i (length clone.target)) js ≡ true → list_all (λ i. is_new_stamp view.shelf i n) js ≡ true → All (IsUnmappedAt view.shelf row.target.number) js
    unmapped_each [] inside new = All-nil (IsUnmappedAt view.shelf row.target.number)
    unmapped_each (j ∷ js) inside new =
        All-cons (IsUnmappedAt view.shelf row.target.number) j js
        (unmapped_one j (ltb-true j (length clone.target) (and_left (nat_lt j (length clone.target)) _ inside)) (and_left (is_new_stamp view.shelf j n) _ new))
        (unmapped_each js (and_right (nat_lt j (length clone.target)) _ inside) (and_right (is_new_stamp view.shelf j n) _ new))

    all_inside : list_all (λ i. nat_lt i (length clone.target)) is ≡ true
    all_inside =
        let same : length (map stamp clone.target) ≡ length (map stamp clone.image) = eqb-true (length (map stamp clone.target)) (length (map stamp clone.image)) (and_right _ _ (and_left _ _ (and_left _ _ clone_kept))) in
        let long : length clone.target ≡ length (map stamp clone.image) = sym (length-map clone.target stamp) ∙ same in
        ap (list_all (λ i. nat_lt i (length clone.target))) (at_is ∙ turn_is)
        ∙ ap (λ k. list_all (λ i. nat_lt i k) (turn_indexes (map stamp clone.image) task.done)) long
        ∙ turn_within (map stamp clone.image) task.done

    -- the places may be put into the target
    pub may_fill : MayFill view.shelf row.target.number n is places
    may_fill = record {
      target = row_held.target;
      indexed = row_held.target_indexed;
      rise = ap all_rising at_is ∙ (turn_new d kept.kept.well n).0;
      unmapped = unmapped_each is all_inside stamps_new;
      as_many = as_many;
      free = list_all-follows (is_fresh d) (is_shelf_free view.shelf) (λ p e. place_free lsn view.shelf containers bindings tasks clones copies kept.held p kept.kept.fresh e) places parts.fresh;
      different = parts.different;
      reserve = reserve_enough;
      within =
          let all : used (shape_of_tables d) + reserved (shape_of_tables d) ≤ view.shelf.geometry.pool_chunks = space_of (shape_of_tables d) (rules d kept.kept.well).space in
          let same : shelf_used view.shelf ≡ used (shape_of_tables d) = shelf_used_all lsn view.shelf containers bindings tasks clones copies kept.held kept.kept.well kept.kept.fresh in
          let here : view.shelf.reserved ≡ reserved (shape_of_tables d) = kept.kept.reserved in
          omega (arith, all, same, here);
      fresh = kept.kept.fresh;
      stamps = stamps_new;
    }
