-- A running clone is put together again: its image and its target are held, and its row comes last.
use Rattle.std.proofs.Common.{ℕ, ◌≡◌, ◌+◌, ◌≤◌, inl, true, false, List, [], ◌∷◌, ◌++◌, map, length, sum_by, Option, Some, refl, sym, ap, subst, ◌∙◌, ⊎_elim, arith}
use Rattle.std.specs.Prelude.{nat_lt}
use Rattle.std.proofs.lemmas.List.Elements.{All-head, Contains-append_left, Contains-append_right, Contains-append_cases}
use Rattle.vv_units.specs.declared.geometry.Geometry.{Geometry}
use Rattle.vv_pool.specs.FreshPlaces.{FreshPlaces}
use Rattle.vv_flat.specs.Lists.{if_found}
use Rattle.vv_flat.specs.State.{Task, Piece, RunningClone, indexed}
use Rattle.vv_flat.specs.Chunks.{Entry}
use Rattle.vv_flat.specs.Sharing.{shares_places}
use Rattle.vv_flat.proofs.Sums.{sum-put}
use Rattle.vv_container.specs.Table.{ChargedContainer}
use Rattle.vv_bind.specs.Table.{BindState}
use Rattle.vv_vols.specs.Shelf.{HeldList, ShelfState, held_in, next_held, shelf_entries, shelf_pieces}
use Rattle.vv_vols.specs.Calls.{with_held, new_held, piece_chunks}
use Rattle.vv_vols.specs.Rows.{ShelfView}
use Rattle.vv_vols.proofs.Sharing.{shares_of_old}
use Rattle.vv_tables.specs.declared.rows.CloneRow.{CloneRow}
use Rattle.vv_tables.specs.declared.rows.CopyRow.{CopyRow}
use Rattle.vv_tables.specs.Seen.{held_chunks, seen_clone, seen_durable}
use Rattle.vv_tables.specs.Kept.{lists_of, AreHeld}
use Rattle.vv_tables.specs.Restored.{IsRestored, with_image, with_clone, given_clone}
use Rattle.vv_tables.proofs.HeldChanges.{added_found, IsSameHeld}
use Rattle.vv_tables.proofs.HeldKept.{same_held}
use Rattle.vv_tables.proofs.HeldTargets.{chunks_indexed}
use Rattle.vv_tables.proofs.HeldRows.{image_new, target_new, second_others, others_same, clone_added}
use Rattle.vv_tables.proofs.SeenChanges.{clone_seen_last}
use Rattle.vv_tables.proofs.GivenLists.{in_added}

-- the same shelf, whatever memory it has
pub restored_same : (geometry : Geometry) (view view' : ShelfView) (clones : List CloneRow) (copies : List CopyRow) (clone_memory copy_memory : ℕ) (taken : FreshPlaces)
    → view'.shelf ≡ view.shelf → IsRestored geometry view clones copies clone_memory copy_memory taken → IsRestored geometry view' clones copies clone_memory copy_memory taken
restored_same geometry view view' clones copies clone_memory copy_memory taken same r = record {
  geometry_is = r.geometry_is ∙ sym (ap (λ (s : ShelfState). s.geometry) same);
  fresh = ap (λ (s : ShelfState). s.fresh) same ∙ r.fresh;
  reserved = ap (λ (s : ShelfState). s.reserved) same ∙ r.reserved;
  held = same_held view.shelf view'.shelf clones copies (ap (λ (s : ShelfState). s.held) same) r.held;
  clone_rows = r.clone_rows;
  copy_rows = r.copy_rows;
  empty = r.empty;
  memory = r.memory;
}

-- how many entries there are with one more held list
pub added_entries : (s : ShelfState) (h : HeldList) → shelf_entries (with_held s h) ≡ shelf_entries s + length h.pieces
added_entries s h =
    let more : sum_by (λ (k : HeldList). length k.pieces) (with_held s h).held ≡ length h.pieces + sum_by (λ (k : HeldList). length k.pieces) s.held =
    sum-put (λ (k : HeldList). length k.pieces) (λ (k : HeldList). nat_lt h.number k.number) h s.held in
    omega (arith, more)

-- entries that share places with two new lists share them with the first, and with the second behind it
pub front_shares : (pool : ℕ) (xs ys zs : List (Piece Entry)) → shares_places pool (xs ++ (ys ++ zs)) ≡ true → shares_places pool (xs ++ ys) ≡ true
front_shares pool xs ys zs shares =
    shares_of_old pool (xs ++ (ys ++ zs)) (xs ++ ys) shares (λ a at. inl (⊎_elim
    (λ front. Contains-append_left xs (ys ++ zs) a front)
    (λ back. Contains-append_right xs (ys ++ zs) a (Contains-append_left ys zs a back))
    (Contains-append_cases xs ys a at)))

pub second_shares : (s : ShelfState) (h : HeldList) (zs : List (Piece Entry)) → shares_places s.geometry.pool_chunks (shelf_pieces s ++ (h.pieces ++ zs)) ≡ true
    → shares_places s.geometry.pool_chunks (shelf_pieces (with_held s h) ++ zs) ≡ true
second_shares s h zs shares =
    shares_of_old s.geometry.pool_chunks (shelf_pieces s ++ (h.pieces ++ zs)) (shelf_pieces (with_held s h) ++ zs) shares (λ a at. inl (⊎_elim
    (λ front. ⊎_elim
    (λ old. Contains-append_left (shelf_pieces s) (h.pieces ++ zs) a old)
    (λ new. Contains-append_right (shelf_pieces s) (h.pieces ++ zs) a (Contains-append_left h.pieces zs a new))
    (in_added s h a front))
    (λ back. Contains-append_right (shelf_pieces s) (h.pieces ++ zs) a (Contains-append_right h.pieces zs a back))
    (Contains-append_cases (shelf_pieces (with_held s h)) zs a at)))

module _ (s : ShelfState) (clones : List CloneRow) (copies : List CopyRow) (row : CloneRow) (image target : List Entry) (held : AreHeld s clones copies)
    (image_number : row.image.number ≡ next_held s) (target_number : row.target.number ≡ next_held (with_image s image)) where
  abbrev first : HeldList
  first = new_held s (indexed image) true 0

  abbrev second : HeldList
  second = new_held (with_image s image) (indexed target) false 0

  whole : (es : List Entry) → indexed es ≡ indexed (piece_chunks (indexed es))
  whole es = ap (λ (xs : List Entry). indexed xs) (sym (chunks_indexed es))

  pub clone_held : AreHeld (with_clone s image target) (clones ++ row ∷ []) copies
  clone_held = clone_added s first second clones copies row refl refl image_number target_number refl refl (whole image) (whole target) held

  first_found : held_in (with_clone s image target) (next_held s) ≡ Some first
  first_found =
      All-head (IsSameHeld (with_image s image) (with_clone s image target)) first.number (lists_of clones copies)
      (second_others s first second clones copies row refl refl image_number target_number refl refl (whole image) (whole target) held)
      ∙ added_found s first (image_new s first second clones copies row refl refl image_number target_number refl refl (whole image) (whole target) held)

  second_found : held_in (with_clone s image target) (next_held (with_image s image)) ≡ Some second
  second_found = added_found (with_image s image) second (target_new s first second clones copies row refl refl image_number target_number refl refl (whole image) (whole target) held)

  image_chunks : held_chunks (with_clone s image target) row.image.number ≡ image
  image_chunks =
      ap (held_chunks (with_clone s image target)) image_number
      ∙ ap (λ (o : Option HeldList). piece_chunks (if_found o (λ (h : HeldList). h.pieces) [])) first_found ∙ chunks_indexed image

  target_chunks : held_chunks (with_clone s image target) row.target.number ≡ target
  target_chunks =
      ap (held_chunks (with_clone s image target)) target_number
      ∙ ap (λ (o : Option HeldList). piece_chunks (if_found o (λ (h : HeldList). h.pieces) [])) second_found ∙ chunks_indexed target

  row_seen : seen_clone (with_clone s image target) row ≡ given_clone row.id.0 row.head image target
  row_seen =
      ap (λ es. record (seen_clone (with_clone s image target) row) { image = es }) image_chunks
      ∙ ap (λ es. record (given_clone row.id.0 row.head image target) { target = es }) target_chunks

  pub clone_last : (lsn : ℕ) (containers : List ChargedContainer) (bindings : BindState) (tasks : List Task)
      → seen_durable lsn (with_clone s image target) containers bindings tasks (clones ++ row ∷ []) copies
      ≡ record (seen_durable lsn s containers bindings tasks clones copies) { clones = map (seen_clone s) clones ++ given_clone row.id.0 row.head image target ∷ [] }
  clone_last lsn containers bindings tasks =
      clone_seen_last lsn s containers bindings tasks clones copies (with_clone s image target)
      (others_same s first second clones copies row refl refl image_number target_number refl refl (whole image) (whole target) held) row
      ∙ ap (λ (c : RunningClone Entry). record (seen_durable lsn s containers bindings tasks clones copies) { clones = map (seen_clone s) clones ++ c ∷ [] }) row_seen

-- the parts with a clone more
pub clone_restored : (geometry : Geometry) (view view' : ShelfView) (clones clones' : List CloneRow) (copies : List CopyRow) (clone_memory clone_memory' copy_memory : ℕ) (taken taken' : FreshPlaces)
    (row : CloneRow) (image target : List Entry) → IsRestored geometry view clones copies clone_memory copy_memory taken
    → row.image.number ≡ next_held view.shelf → row.target.number ≡ next_held (with_image view.shelf image)
    → view'.shelf ≡ with_clone view.shelf image target → clones' ≡ clones ++ row ∷ [] → clone_memory ≤ clone_memory' → taken' ≡ taken
    → IsRestored geometry view' clones' copies clone_memory' copy_memory taken'
clone_restored geometry view view' clones clones' copies clone_memory clone_memory' copy_memory taken taken' row image target r image_number target_number shelf rows more same = record {
  geometry_is = r.geometry_is ∙ sym (ap (λ (s : ShelfState). s.geometry) shelf);
  fresh = ap (λ (s : ShelfState). s.fresh) shelf ∙ r.fresh;
  reserved = ap (λ (s : ShelfState). s.reserved) shelf ∙ r.reserved;
  held = subst (λ (s : ShelfState). AreHeld s clones' copies) (sym shelf)
      (subst (λ (rs : List CloneRow). AreHeld (with_clone view.shelf image target) rs copies) (sym rows)
      (clone_held view.shelf clones copies row image target r.held image_number target_number));
  clone_rows = let enough = r.clone_rows in omega (arith, enough, more);
  copy_rows = r.copy_rows;
  empty = ap (λ (t : FreshPlaces). t.places) same ∙ r.empty;
  memory = subst (λ (t : FreshPlaces). 1 ≤ t.capacity) (sym same) r.memory;
}
