-- The entries of the shape of tables are those of their shelf, so what a change has passed says that the map of the shelf
-- has room. For every change that adds entries.
use Rattle.std.proofs.Common.{ℕ, ◌≡◌, ◌+◌, ◌≤◌, List, map, length, sum_by, None, ap, ◌∙◌, arith}
use Rattle.std.proofs.lemmas.List.{length-map}
use Rattle.vv_flat.specs.State.{Volume, Task, RunningClone, RunningCopy, Durable, map_volume, map_clone, map_copy}
use Rattle.vv_flat.specs.Chunks.{Entry, shape_of_tables}
use Rattle.vv_flat.specs.Space.{entries}
use Rattle.vv_flat.specs.Refusals.{map_full}
use Rattle.vv_flat.proofs.Verdicts.{within_map}
use Rattle.vv_container.specs.Table.{ChargedContainer}
use Rattle.vv_bind.specs.Table.{BindState}
use Rattle.vv_vols.specs.Shelf.{ShelfState, shelf_entries}
use Rattle.vv_tables.specs.declared.rows.CloneRow.{CloneRow}
use Rattle.vv_tables.specs.declared.rows.CopyRow.{CopyRow}
use Rattle.vv_tables.specs.Seen.{seen_durable}
use Rattle.vv_tables.specs.Kept.{AreHeld}
use Rattle.vv_tables.proofs.HeldSums.{sum_same, sum_mapped}
use Rattle.vv_tables.proofs.ShelfCounts.{shelf_entries_are}

abbrev stamp : Entry → ℕ
stamp e = e.stamp

pub shape_entries : (d : Durable Entry) → entries (shape_of_tables d) ≡ entries d
unfolding entries
shape_entries d =
    let v : sum_by (λ (v : Volume ℕ). length v.chunks) (map (map_volume stamp) d.volumes) ≡ sum_by (λ (v : Volume Entry). length v.chunks) d.volumes =
    sum_mapped (λ (v : Volume ℕ). length v.chunks) (map_volume stamp) d.volumes
    ∙ sum_same (λ (v : Volume Entry). length (map stamp v.chunks)) (λ (v : Volume Entry). length v.chunks) d.volumes (λ i v e. length-map v.chunks stamp) in
    let c : sum_by (λ (c : RunningClone ℕ). length c.image + length c.target) (map (map_clone stamp) d.clones)
    ≡ sum_by (λ (c : RunningClone Entry). length c.image + length c.target) d.clones =
    sum_mapped (λ (c : RunningClone ℕ). length c.image + length c.target) (map_clone stamp) d.clones
    ∙ sum_same (λ (c : RunningClone Entry). length (map stamp c.image) + length (map stamp c.target)) (λ (c : RunningClone Entry). length c.image + length c.target) d.clones
    (λ i c e. ap (λ n. n + length (map stamp c.target)) (length-map c.image stamp) ∙ ap (λ n. length c.image + n) (length-map c.target stamp)) in
    let p : sum_by (λ (c : RunningCopy ℕ). length c.pieces) (map (map_copy stamp) d.copies) ≡ sum_by (λ (c : RunningCopy Entry). length c.pieces) d.copies =
    sum_mapped (λ (c : RunningCopy ℕ). length c.pieces) (map_copy stamp) d.copies
    ∙ sum_same (λ (c : RunningCopy Entry). length (map_copy stamp c).pieces) (λ (c : RunningCopy Entry). length c.pieces) d.copies (λ i c e. length-map c.pieces _) in
    omega (arith, v, c, p)

-- as many entries more have room in the map of the shelf
pub shelf_has_room : (lsn : ℕ) (s : ShelfState) (containers : List ChargedContainer) (bindings : BindState) (tasks : List Task) (clones : List CloneRow) (copies : List CopyRow)
    → AreHeld s clones copies → (asked : ℕ) → map_full (shape_of_tables (seen_durable lsn s containers bindings tasks clones copies)) asked ≡ None
    → shelf_entries s + asked ≤ s.geometry.map_chunks
shelf_has_room lsn s containers bindings tasks clones copies held asked passed =
    let d : Durable Entry = seen_durable lsn s containers bindings tasks clones copies in
    let within : entries (shape_of_tables d) + asked ≤ s.geometry.map_chunks = within_map (shape_of_tables d) asked passed in
    let same : shelf_entries s ≡ entries d = shelf_entries_are lsn s containers bindings tasks clones copies held in
    omega (arith, within, same, shape_entries d)
