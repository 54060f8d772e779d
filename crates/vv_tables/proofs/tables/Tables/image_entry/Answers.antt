use Rattle.std.proofs.Common.{ℕ, ◌≡◌, ◌==◌, true, map, List, Option, Some, None, option_map, slice_get, refl, sym, ap, ◌∙◌}
use Rattle.std.specs.Prelude.{IsSome, option_and_then}
use Rattle.std.specs.List.{find}
use Rattle.vv_flat.specs.State.{RunningClone, clone_of}
use Rattle.vv_flat.specs.Chunks.{Entry}
use Rattle.vv_vols.specs.Shelf.{HeldList, ShelfState, held_in}
use Rattle.vv_vols.proofs.FoundSplit.{all_found}
use Rattle.vv_tables.specs.declared.rows.CloneRow.{CloneRow}
use Rattle.vv_tables.specs.Rows.{is_clone_row}
use Rattle.vv_tables.specs.Seen.{TablesView, seen_clone}
use Rattle.vv_tables.specs.Kept.{image_in, IsCloneHeld}
use Rattle.vv_tables.proofs.Walks.{find_mapped}
use Rattle.vv_tables.proofs.tables.Tables.image_entry.Goals as goal

-- the clone that is seen where a row is found
clone_found : (s : ShelfState) (rows : List CloneRow) (n : ℕ)
    → find (λ (c : RunningClone Entry). c.number == n) (map (seen_clone s) rows) ≡ option_map (seen_clone s) (find (is_clone_row n) rows)
clone_found s rows n = find_mapped (seen_clone s) (is_clone_row n) (λ (c : RunningClone Entry). c.number == n) (λ row. refl) rows

image_stands : (s : ShelfState) (n : ℕ) → image_in s n ≡ Some true → IsSome (held_in s n)
image_stands s n e = go (held_in s n) e
  where
    go : (o : Option HeldList) → option_map (λ (h : HeldList). h.is_image) o ≡ Some true → IsSome o
    go None e = absurd (cc)
    go (Some h) e = refl

-- the clone of a task, as it was found
of_task : (s : ShelfState) (rows lent : List CloneRow) (n : ℕ) (o : Option CloneRow) → lent ≡ rows → o ≡ find (is_clone_row n) lent
    → find (is_clone_row n) rows ≡ o
of_task s rows lent n o same e = ap (find (is_clone_row n)) (sym same) ∙ sym e

pub held_at-requires : goal.held_at-requires
held_at-requires c =
    let i = c.self.inside in
    let row = c.in-Some.row.now in
    let found : find (is_clone_row c.args.task.0) i.clones.items ≡ Some row =
    of_task i.shelf.shelf i.clones.items c.deref.result.now c.args.task.0 (Some row) c.deref.ensures.value c.in-Some.ensures in
    image_stands i.shelf.shelf row.image.number (all_found (is_clone_row c.args.task.0) (IsCloneHeld i.shelf.shelf) i.clones.items row c.self.invariant.held.images found).image

pub returns-in-Some : goal.returns-in-Some
returns-in-Some c =
    let i = c.self.inside in
    let row = c.in-Some.row.now in
    let found : find (is_clone_row c.args.task.0) i.clones.items ≡ Some row =
    of_task i.shelf.shelf i.clones.items c.deref.result.now c.args.task.0 (Some row) c.deref.ensures.value c.in-Some.ensures in
    c.held_at.ensures
    ∙ ap (λ (o : Option (RunningClone Entry)). option_and_then (λ (k : RunningClone Entry). slice_get k.image c.args.index) o)
    (sym (clone_found i.shelf.shelf i.clones.items c.args.task.0 ∙ ap (option_map (seen_clone i.shelf.shelf)) found))
    ∙ ap (λ (t : TablesView). option_and_then (λ (k : RunningClone Entry). slice_get k.image c.args.index) (clone_of t.durable c.args.task.0)) c.self.view_is

pub returns-in-None : goal.returns-in-None
returns-in-None c =
    let i = c.self.inside in
    let none : find (is_clone_row c.args.task.0) i.clones.items ≡ None =
    of_task i.shelf.shelf i.clones.items c.deref.result.now c.args.task.0 None c.deref.ensures.value c.in-None.ensures in
    ap (λ (o : Option (RunningClone Entry)). option_and_then (λ (k : RunningClone Entry). slice_get k.image c.args.index) o)
    (sym (clone_found i.shelf.shelf i.clones.items c.args.task.0 ∙ ap (option_map (seen_clone i.shelf.shelf)) none))
    ∙ ap (λ (t : TablesView). option_and_then (λ (k : RunningClone Entry). slice_get k.image c.args.index) (clone_of t.durable c.args.task.0)) c.self.view_is
