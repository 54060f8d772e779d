-- Tables in memory after the start of a difference copy: how they are seen, and that they keep all that tables keep.
use Rattle.std.proofs.Common.{ℕ, ◌≡◌, ◌+◌, ◌≤◌, ◌==◌, not, true, false, cond, List, [], ◌∷◌, ◌++◌, map, Option, Some, refl, sym, ap, subst, ◌∙◌, arith}
use Rattle.std.specs.Prelude.{IsSome}
use Rattle.std.specs.List.{list_all, All}
use Rattle.std.proofs.lemmas.Bool.{eq-eqb}
use Rattle.vv_units.specs.declared.geometry.Geometry.{Geometry}
use Rattle.vv_flat.specs.Lists.{if_found}
use Rattle.vv_flat.specs.State.{Task, RunningCopy, Durable, container_of}
use Rattle.vv_flat.specs.Chunks.{Entry, shape_of_tables}
use Rattle.vv_flat.specs.Space.{charge, allocating_pieces}
use Rattle.vv_flat.specs.Tasks.{difference, started}
use Rattle.vv_flat.specs.Changes.{StartCopy, stamps_of, home_of}
use Rattle.vv_flat.specs.Replay.{fits, replayed}
use Rattle.vv_flat.specs.Fields.{change_has_forms}
use Rattle.vv_flat.proofs.NewEntries.{eq_turn}
use Rattle.vv_laws.specs.Counts.{charge_added}
use Rattle.vv_container.specs.Table.{ChargedContainer, with_charge}
use Rattle.vv_bind.specs.Table.{BindState}
use Rattle.vv_vols.specs.Shelf.{HeldList, ShelfState, held_in, pieces_in, next_held}
use Rattle.vv_vols.specs.Calls.{with_held, new_held}
use Rattle.vv_vols.specs.Rows.{ShelfView}
use Rattle.vv_tables.specs.declared.rows.CloneRow.{CloneRow}
use Rattle.vv_tables.specs.declared.rows.CopyRow.{CopyRow}
use Rattle.vv_tables.specs.Seen.{plain_containers, seen_copy, seen_durable}
use Rattle.vv_tables.specs.Kept.{lists_of, AreHeld, IsTables}
use Rattle.vv_tables.specs.Copies.{stamps_in, shaped_pieces}
use Rattle.vv_tables.proofs.Accepted.{charge_room}
use Rattle.vv_tables.proofs.Containers.{plain_charged}
use Rattle.vv_tables.proofs.HeldChanges.{IsSameHeld, added_found, next_new}
use Rattle.vv_tables.proofs.HeldKept.{added_others}
use Rattle.vv_tables.proofs.HeldRows.{copy_added}
use Rattle.vv_tables.proofs.SeenChanges.{copy_seen_last}
use Rattle.vv_tables.proofs.StandingVolumes.{home_stands, rows_rise}
use Rattle.vv_tables.proofs.StartedCopies.{new_pieces, shaped_are, stamps_are, target_stands, new_task, copy_replayed}
use Rattle.vv_tables.proofs.Stepped.{recharged, stepped_well, same_reserved}

pub copy_forms : (source base target : ℕ) → change_has_forms (StartCopy source base target) ≡ true
unfolding change_has_forms
copy_forms source base target = refl

module _ (geometry : Geometry) (lsn : ℕ) (view : ShelfView) (containers : List ChargedContainer) (bindings : BindState) (tasks : List Task)
    (clones : List CloneRow) (copies : List CopyRow) (clone_memory copy_memory : ℕ)
    (kept : IsTables geometry lsn view containers bindings tasks clones copies clone_memory copy_memory)
    (source base target : ℕ)
    (fit : fits (seen_durable lsn view.shelf containers bindings tasks clones copies) (StartCopy source base target) [] ≡ true) where
  abbrev pub d : Durable Entry
  d = seen_durable lsn view.shelf containers bindings tasks clones copies

  abbrev pub home : ℕ
  home = home_of (shape_of_tables d) target

  -- the list that is held more
  abbrev pub begun : ℕ → HeldList
  begun left = new_held view.shelf (new_pieces d source base target kept.kept.well fit) false left

  abbrev pub held_more : ℕ → ShelfState
  held_more left = with_held view.shelf (begun left)

  number_new : (left : ℕ) → list_all (λ (k : HeldList). not (k.number == (begun left).number)) view.shelf.held ≡ true
  number_new left = next_new view.shelf kept.held.rising

  pub begun_found : (left : ℕ) → held_in (held_more left) (next_held view.shelf) ≡ Some (begun left)
  begun_found left = added_found view.shelf (begun left) (number_new left)

  pub begun_pieces : (left : ℕ) → pieces_in (held_more left) (next_held view.shelf) ≡ new_pieces d source base target kept.kept.well fit
  begun_pieces left = ap (λ (o : Option HeldList). if_found o (λ (h : HeldList). h.pieces) []) (begun_found left)

  -- the pieces that will allocate a chunk
  abbrev pub added : ℕ
  added = allocating_pieces (stamps_of (shape_of_tables d) target) (difference (λ s. s) (stamps_of (shape_of_tables d) source) (stamps_of (shape_of_tables d) base))

  pub more_is : (left : ℕ) (s : ShelfState) (n : ℕ) → s ≡ held_more left → n ≡ next_held view.shelf
      → allocating_pieces (stamps_in s target) (shaped_pieces (pieces_in s n)) ≡ added
  more_is left s n shelf number =
      ap (λ (t : ShelfState). allocating_pieces (stamps_in t target) (shaped_pieces (pieces_in t n))) shelf
      ∙ ap (λ m. allocating_pieces (stamps_in (held_more left) target) (shaped_pieces (pieces_in (held_more left) m))) number
      ∙ ap (λ ps. allocating_pieces (stamps_in (held_more left) target) (shaped_pieces ps)) (begun_pieces left)
      ∙ ap (λ ps. allocating_pieces (stamps_in (held_more left) target) ps) (shaped_are d source base target kept.kept.well fit)
      ∙ ap (λ ss. allocating_pieces ss (difference (λ s. s) (stamps_of (shape_of_tables d) source) (stamps_of (shape_of_tables d) base))) (sym (stamps_are d target))

  added_here : charge_added (shape_of_tables d) (StartCopy source base target) home ≡ added
  added_here = ap (λ b. cond b added 0) (eq-eqb home home refl)

  added_elsewhere : (k : ℕ) → (k == home) ≡ false → charge_added (shape_of_tables d) (StartCopy source base target) k ≡ 0
  added_elsewhere k apart = ap (λ b. cond b added 0) (eq_turn home k ∙ apart)

  -- the charge of the target's container
  pub home_row : IsSome (container_of d home)
  home_row = home_stands d target kept.kept.well (target_stands d source base target kept.kept.well fit)

  pub charge_fits : charge (shape_of_tables d) home + added ≤ 4294967296
  charge_fits =
      let stands : IsSome (container_of (replayed d (StartCopy source base target) []) home) =
      subst (λ (e : Durable Entry). IsSome (container_of e home)) (sym (copy_replayed d source base target kept.kept.well fit)) home_row in
      omega (arith, charge_room d (StartCopy source base target) [] kept.kept.well (copy_forms source base target) fit home stands, added_here)

  -- ---- afterwards
  module _ (left : ℕ) (view' : ShelfView) (charged : ℕ) (tasks' : List Task) (row : CopyRow) (copies' : List CopyRow) (copy_memory' : ℕ)
      (shelf : view'.shelf ≡ held_more left) (number : row.pieces.number ≡ next_held view.shelf) (id : row.id.0 ≡ lsn + 1)
      (tasks_are : tasks' ≡ started tasks (new_task d source base target kept.kept.well fit))
      (copies_are : copies' ≡ copies ++ row ∷ []) where
    abbrev rows : List ChargedContainer
    rows = with_charge containers home charged

    same : All (IsSameHeld view.shelf (held_more left)) (lists_of clones copies)
    same = added_others view.shelf (begun left) (lists_of clones copies) (number_new left) kept.held.each_once

    row_seen : seen_copy (held_more left) row ≡ record { number = lsn + 1; pieces = new_pieces d source base target kept.kept.well fit }
    row_seen =
        ap {B = RunningCopy Entry} (λ n. record { number = n; pieces = pieces_in (held_more left) row.pieces.number }) id
        ∙ ap {B = RunningCopy Entry} (λ n. record { number = lsn + 1; pieces = pieces_in (held_more left) n }) number
        ∙ ap {B = RunningCopy Entry} (λ ps. record { number = lsn + 1; pieces = ps }) (begun_pieces left)

    pub copy_started_seen : seen_durable (lsn + 1) view'.shelf rows bindings tasks' clones copies' ≡ replayed d (StartCopy source base target) []
    copy_started_seen =
        ap (λ (s : ShelfState). seen_durable (lsn + 1) s rows bindings tasks' clones copies') shelf
        ∙ ap (λ ts. seen_durable (lsn + 1) (held_more left) rows bindings ts clones copies') tasks_are
        ∙ ap (λ cs. seen_durable (lsn + 1) (held_more left) rows bindings (started tasks (new_task d source base target kept.kept.well fit)) clones cs) copies_are
        ∙ copy_seen_last (lsn + 1) view.shelf rows bindings (started tasks (new_task d source base target kept.kept.well fit)) clones copies (held_more left) same row
        ∙ ap (λ (c : RunningCopy Entry). record d { lsn = lsn + 1; containers = plain_containers rows; tasks = started tasks (new_task d source base target kept.kept.well fit); copies = map (seen_copy view.shelf) copies ++ c ∷ [] }) row_seen
        ∙ ap (λ ks. record d { lsn = lsn + 1; containers = ks; tasks = started tasks (new_task d source base target kept.kept.well fit); copies = map (seen_copy view.shelf) copies ++ (record { number = lsn + 1; pieces = new_pieces d source base target kept.kept.well fit }) ∷ [] })
        (plain_charged containers home charged)
        ∙ sym (copy_replayed d source base target kept.kept.well fit)

    pub copy_started_kept : charged ≡ charge (shape_of_tables d) home + added → copy_memory ≤ copy_memory'
        → IsTables geometry (lsn + 1) view' rows bindings tasks' clones copies' clone_memory copy_memory'
    copy_started_kept exact memory =
        let d' : Durable Entry = seen_durable (lsn + 1) view'.shelf rows bindings tasks' clones copies' in
        let here : charge_added (shape_of_tables d) (StartCopy source base target) home ≡ added = added_here in
        record {
          geometry_is = kept.geometry_is ∙ sym (ap (λ (s : ShelfState). s.geometry) shelf);
          kept = stepped_well d d' (StartCopy source base target) [] kept.kept.well fit copy_started_seen view'.shelf rows (copy_forms source base target)
              (recharged d d' (StartCopy source base target) [] kept.kept.well fit copy_started_seen containers home charged
              (rows_rise d containers refl kept.kept.well) (omega (arith, exact, here)) added_elsewhere kept.kept.charges)
              (same_reserved d d' (StartCopy source base target) [] kept.kept.well fit copy_started_seen view'.shelf refl
              (ap (λ (s : ShelfState). s.reserved) shelf ∙ kept.kept.reserved))
              (ap (λ (s : ShelfState). s.fresh) shelf ∙ kept.kept.fresh);
          held = subst (λ cs. AreHeld view'.shelf clones cs) (sym copies_are)
              (subst (λ (s : ShelfState). AreHeld s clones (copies ++ row ∷ [])) (sym shelf)
              (copy_added view.shelf (begun left) clones copies row refl number refl kept.held));
          clone_rows = kept.clone_rows;
          copy_rows = let was = kept.copy_rows in omega (arith, was, memory);
        }
