use Rattle.std.proofs.Common.{ℕ, ◌≡◌, ◌+◌, Option, length, sym, ap, ◌∙◌, arith}
use Rattle.std.specs.Prelude.{is_some}
use Rattle.vv_units.specs.declared.volume.VolumeKind.TheVariants.{SnapshotOf}
use Rattle.vv_flat.specs.Lists.{if_found}
use Rattle.vv_flat.specs.State.{Volume}
use Rattle.vv_flat.specs.Chunks.{Entry}
use Rattle.vv_vols.specs.Shelf.{ShelfState, volume_in, shelf_entries}
use Rattle.vv_vols.specs.Rows.{ShelfView}
use Rattle.vv_snap.specs.Copies.{with_copy}
use Rattle.vv_snap.proofs.Copied.{copy_is, copied_other, copied_entries}
use Rattle.vv_snap.proofs.Filling.{volume_of}
use Rattle.vv_snap.proofs.tests.copy_often.Goals as goal

pub loop-number-preserved : goal.loop-number-preserved
loop-number-preserved g c =
    let s : ShelfState = c.loop-number.shelf.shelf in
    let number : ℕ = c.loop-number.number in
    let begun = c.loop-number.invariant in
    let some = volume_of (volume_in s 1) begun.standing in
    let kind = SnapshotOf (record { 0 = 1 }) in
    let copied : c.snapshot.new.shelf.shelf ≡ with_copy s 1 number kind =
    c.snapshot.ensures.shelf ∙ ap (λ (v : ShelfView). with_copy v.shelf 1 number (SnapshotOf (record { 0 = 1 }))) c.in_ok-room.ensures.ok in
    let from = begun.from in
    let one : volume_in c.snapshot.new.shelf.shelf 1 ≡ volume_in s 1 =
    ap (λ (t : ShelfState). volume_in t 1) copied ∙ copied_other s 1 number kind some.0 some.1 1 (λ e. absurd (omega arith)) in
    let length_is : length some.0.chunks ≡ 8 =
    sym (ap (λ (o : Option (Volume Entry)). if_found o (λ (w : Volume Entry). length w.chunks) 0) some.1) ∙ begun.size in
    let all : shelf_entries c.snapshot.new.shelf.shelf ≡ length some.0.chunks + shelf_entries s =
    ap shelf_entries copied ∙ copied_entries s 1 number kind some.0 some.1 in
    let before = begun.entries in
    let geometry : c.snapshot.new.shelf.shelf.geometry.map_chunks ≡ s.geometry.map_chunks =
    ap (λ (t : ShelfState). t.geometry.map_chunks) (copied ∙ copy_is s 1 number kind some.0 some.1) in
    let sized = begun.sized in
    record {
      standing = ap (λ (o : Option (Volume Entry)). is_some o) one ∙ begun.standing;
      size = ap (λ (o : Option (Volume Entry)). if_found o (λ (w : Volume Entry). length w.chunks) 0) one ∙ begun.size;
      unused = λ m above. ap (λ (t : ShelfState). volume_in t m) copied
          ∙ copied_other s 1 number kind some.0 some.1 m (λ e. absurd (omega arith)) ∙ begun.unused m (omega arith);
      entries = omega arith;
      sized = omega arith;
      from = omega arith;
      to = omega arith;
    }
