-- A running copy is put together again: its pieces are held, and its row comes last.
use Rattle.std.proofs.Common.{ℕ, ◌≡◌, ◌≤◌, false, List, [], ◌∷◌, ◌++◌, map, Option, Some, refl, sym, ap, subst, ◌∙◌, arith}
use Rattle.std.specs.List.{All}
use Rattle.vv_units.specs.declared.geometry.Geometry.{Geometry}
use Rattle.vv_pool.specs.FreshPlaces.{FreshPlaces}
use Rattle.vv_flat.specs.Lists.{if_found}
use Rattle.vv_flat.specs.State.{Task, Piece, RunningCopy}
use Rattle.vv_flat.specs.Chunks.{Entry}
use Rattle.vv_container.specs.Table.{ChargedContainer}
use Rattle.vv_bind.specs.Table.{BindState}
use Rattle.vv_vols.specs.Shelf.{HeldList, ShelfState, held_in, next_held}
use Rattle.vv_vols.specs.Calls.{new_held}
use Rattle.vv_vols.specs.Rows.{ShelfView}
use Rattle.vv_tables.specs.declared.rows.CloneRow.{CloneRow}
use Rattle.vv_tables.specs.declared.rows.CopyRow.{CopyRow}
use Rattle.vv_tables.specs.Seen.{seen_copy, seen_durable}
use Rattle.vv_tables.specs.Kept.{lists_of, AreHeld}
use Rattle.vv_tables.specs.Giving.{with_some}
use Rattle.vv_tables.specs.Restored.{IsRestored, given_copy}
use Rattle.vv_tables.proofs.HeldChanges.{added_found, next_new, IsSameHeld}
use Rattle.vv_tables.proofs.HeldKept.{added_others}
use Rattle.vv_tables.proofs.HeldRows.{copy_added}
use Rattle.vv_tables.proofs.SeenChanges.{copy_seen_last}

module _ (s : ShelfState) (clones : List CloneRow) (copies : List CopyRow) (row : CopyRow) (pieces : List (Piece Entry)) (held : AreHeld s clones copies)
    (number : row.pieces.number ≡ next_held s) where
  abbrev list : HeldList
  list = new_held s pieces false 0

  pub copy_held : AreHeld (with_some s pieces 0) clones (copies ++ row ∷ [])
  copy_held = copy_added s list clones copies row refl number refl held

  others : All (IsSameHeld s (with_some s pieces 0)) (lists_of clones copies)
  others = added_others s list (lists_of clones copies) (next_new s held.rising) held.each_once

  found : held_in (with_some s pieces 0) row.pieces.number ≡ Some list
  found = ap (held_in (with_some s pieces 0)) number ∙ added_found s list (next_new s held.rising)

  row_seen : seen_copy (with_some s pieces 0) row ≡ given_copy row.id.0 pieces
  row_seen = ap (λ (o : Option HeldList). given_copy row.id.0 (if_found o (λ (h : HeldList). h.pieces) [])) found

  pub copy_last : (lsn : ℕ) (containers : List ChargedContainer) (bindings : BindState) (tasks : List Task)
      → seen_durable lsn (with_some s pieces 0) containers bindings tasks clones (copies ++ row ∷ [])
      ≡ record (seen_durable lsn s containers bindings tasks clones copies) { copies = map (seen_copy s) copies ++ given_copy row.id.0 pieces ∷ [] }
  copy_last lsn containers bindings tasks =
      copy_seen_last lsn s containers bindings tasks clones copies (with_some s pieces 0) others row
      ∙ ap (λ (c : RunningCopy Entry). record (seen_durable lsn s containers bindings tasks clones copies) { copies = map (seen_copy s) copies ++ c ∷ [] }) row_seen

-- the parts with a copy more
pub copy_restored : (geometry : Geometry) (view view' : ShelfView) (clones : List CloneRow) (copies copies' : List CopyRow) (clone_memory copy_memory copy_memory' : ℕ) (taken taken' : FreshPlaces)
    (row : CopyRow) (pieces : List (Piece Entry)) → IsRestored geometry view clones copies clone_memory copy_memory taken
    → row.pieces.number ≡ next_held view.shelf → view'.shelf ≡ with_some view.shelf pieces 0 → copies' ≡ copies ++ row ∷ [] → copy_memory ≤ copy_memory' → taken' ≡ taken
    → IsRestored geometry view' clones copies' clone_memory copy_memory' taken'
copy_restored geometry view view' clones copies copies' clone_memory copy_memory copy_memory' taken taken' row pieces r number shelf rows more same = record {
  geometry_is = r.geometry_is ∙ sym (ap (λ (s : ShelfState). s.geometry) shelf);
  fresh = ap (λ (s : ShelfState). s.fresh) shelf ∙ r.fresh;
  reserved = ap (λ (s : ShelfState). s.reserved) shelf ∙ r.reserved;
  held = subst (λ (s : ShelfState). AreHeld s clones copies') (sym shelf)
      (subst (λ (rs : List CopyRow). AreHeld (with_some view.shelf pieces 0) clones rs) (sym rows) (copy_held view.shelf clones copies row pieces r.held number));
  clone_rows = r.clone_rows;
  copy_rows = let enough = r.copy_rows in omega (arith, enough, more);
  empty = ap (λ (t : FreshPlaces). t.places) same ∙ r.empty;
  memory = subst (λ (t : FreshPlaces). 1 ≤ t.capacity) (sym same) r.memory;
}
