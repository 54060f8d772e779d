use Rattle.std.proofs.Common.{◌≡◌, ℕ, ◌≤◌, ◌||◌, true, List, [], Some, map, length, OnOk, refl, sym, ap, ◌∙◌, subst, arith}
use Rattle.vv_disk.specs.Images.{Follows, LeavesOnly}
use Rattle.vv_units.specs.declared.numbers.Place.{Place}
use Rattle.vv_record.specs.declared.record.ChunkCopy.{ChunkCopy}
use Rattle.vv_disk.proofs.Moments.{started}
use Rattle.vv_flat.specs.Chunks.{filled, filled_tables, placed_entries}
use Rattle.vv_flat.specs.Changes.{new_stamp}
use Rattle.vv_array.proofs.Stands.{told_at_same, differs_same}
use Rattle.vv_array.proofs.PlainEvents.{plain_places, plain_values}
use Rattle.vv_flat.specs.Changes.{Change, Write, Turn}
use Rattle.vv_flat.specs.Flat.{new_values}
use Rattle.vv_change.proofs.Standing.{write_some}
use Rattle.vv_event.specs.Events.{change_of, places_of}
use Rattle.vv_image.specs.Standing.{bytes_at_place}
use Rattle.vv_array.specs.Chunks.{DiffersAt, ToldAt, HasNew}
use Rattle.vv_array.specs.ChunkBytes.{ChangedAt}
use Rattle.vv_array.specs.Puts.{OnRead, moves_chunks}
use Rattle.vv_array.specs.EventMemory.{buffer_bytes}
use Rattle.vv_array.proofs.MovingTurns.{fit_parts, write_known, some_write}
use Rattle.vv_array.proofs.PlainEvents.{written_fits, written_change, written_places, written_bytes, touched_places, turned_fits, turned_right, turned_change, turned_places, turned_values}
use Rattle.vv_array.proofs.PutParts.{on_read}
use Rattle.vv_array.proofs.putting.put_chunks.Goals as goal

pub write_blocks-requires-clause-bytes : goal.write_blocks-requires-clause-bytes
write_blocks-requires-clause-bytes g c =
    written_bytes c.args.event.now c.in-Write.volume c.in-Write.first_block c.in-Write.blocks c.in-Write.places c.args.bytes.now c.in-Write.is c.requires.bytes

pub write_blocks-requires-clause-some : goal.write_blocks-requires-clause-some
write_blocks-requires-clause-some g c =
    let d = c.args.core.now.array.durable in
    let w = c.in-Write in
    write_some d w.volume.0 w.first_block w.blocks (map (λ (p : Place). p.0) c.items.result.now)
    (written_fits d c.args.event.now w.volume w.first_block w.blocks w.places c.items.result.now w.is c.items.ensures c.requires.fits)

pub write_blocks-requires-clause-stands : goal.write_blocks-requires-clause-stands
write_blocks-requires-clause-stands g c =
    let d = c.args.core.now.array.durable in
    let w = c.in-Write in
    write_known d w.volume.0 w.first_block w.blocks (map (λ (p : Place). p.0) c.items.result.now)
    (written_fits d c.args.event.now w.volume w.first_block w.blocks w.places c.items.result.now w.is c.items.ensures c.requires.fits)

pub write_blocks-requires-clause-count : goal.write_blocks-requires-clause-count
write_blocks-requires-clause-count g c =
    let d = c.args.core.now.array.durable in
    let w = c.in-Write in
    touched_places d w.volume.0 w.first_block w.blocks c.items.result.now
    (written_fits d c.args.event.now w.volume w.first_block w.blocks w.places c.items.result.now w.is c.items.ensures c.requires.fits)

pub write_blocks-requires-clause-different : goal.write_blocks-requires-clause-different
write_blocks-requires-clause-different g c =
    let d = c.args.core.now.array.durable in
    let w = c.in-Write in
    (fit_parts d (Write w.volume.0 w.first_block w.blocks) (map (λ (p : Place). p.0) c.items.result.now)
    (written_fits d c.args.event.now w.volume w.first_block w.blocks w.places c.items.result.now w.is c.items.ensures c.requires.fits)).different

pub write_blocks-requires-clause-fresh : goal.write_blocks-requires-clause-fresh
write_blocks-requires-clause-fresh g c =
    let d = c.args.core.now.array.durable in
    let w = c.in-Write in
    (fit_parts d (Write w.volume.0 w.first_block w.blocks) (map (λ (p : Place). p.0) c.items.result.now)
    (written_fits d c.args.event.now w.volume w.first_block w.blocks w.places c.items.result.now w.is c.items.ensures c.requires.fits)).fresh

pub write_blocks-requires-clause-buffer : goal.write_blocks-requires-clause-buffer
write_blocks-requires-clause-buffer g c =
    c.requires.buffer ∙ ap (buffer_bytes c.args.core.now.array.durable.geometry) c.in-Write.is

pub copy_some-requires-clause-buffer : goal.copy_some-requires-clause-buffer
copy_some-requires-clause-buffer g c =
    c.requires.buffer ∙ ap (buffer_bytes c.args.core.now.array.durable.geometry) c.in-Turn.is

pub copy_some-requires-clause-fits : goal.copy_some-requires-clause-fits
copy_some-requires-clause-fits g c =
    turned_fits c.args.core.now.array.durable c.args.event.now c.in-Turn.task c.in-Turn.copies c.items-in-Turn.result.now c.in-Turn.is c.items-in-Turn.ensures c.requires.fits

pub copy_some-requires-clause-indexes : goal.copy_some-requires-clause-indexes
copy_some-requires-clause-indexes g c =
    turned_right c.args.core.now.array.durable c.args.event.now c.in-Turn.task c.in-Turn.copies c.items-in-Turn.result.now c.in-Turn.is c.items-in-Turn.ensures c.requires.fits

-- ---- a write

pub returns-in-Write-clause-new : goal.returns-in-Write-clause-new
returns-in-Write-clause-new g c =
    let d = c.args.core.now.array.durable in
    let w = c.in-Write in
    let e = c.args.event.now in
    let change = written_change e w.volume w.first_block w.blocks w.places w.is in
    let places = written_places e w.volume w.first_block w.blocks w.places c.items.result.now w.is c.items.ensures in
    subst (λ (k : Change). OnOk c.write_blocks.result ((one two : List ℕ) → g.D.Disk.content c.args.disk.now ≡ Some one → g.D.Disk.content c.write_blocks.new.disk ≡ Some two
    → HasNew d k (places_of e) (new_values (filled_tables (bytes_at_place d.geometry one) d) k c.args.bytes.now) two)) (sym change)
    (subst (λ (l : List ℕ). OnOk c.write_blocks.result ((one two : List ℕ) → g.D.Disk.content c.args.disk.now ≡ Some one → g.D.Disk.content c.write_blocks.new.disk ≡ Some two
    → HasNew d (Write w.volume.0 w.first_block w.blocks) l (new_values (filled_tables (bytes_at_place d.geometry one) d) (Write w.volume.0 w.first_block w.blocks) c.args.bytes.now) two)) (sym places)
    c.write_blocks.ensures.new)

pub returns-in-Write-clause-moves : goal.returns-in-Write-clause-moves
returns-in-Write-clause-moves g c =
    let d = c.args.core.now.array.durable in
    let w = c.in-Write in
    on_read c.write_blocks.result _
    (ap (λ (k : Change). moves_chunks d k) (written_change c.args.event.now w.volume w.first_block w.blocks w.places w.is)
    ∙ some_write d w.volume.0 w.first_block w.blocks
    (write_some d w.volume.0 w.first_block w.blocks (map (λ (p : Place). p.0) c.items.result.now)
    (written_fits d c.args.event.now w.volume w.first_block w.blocks w.places c.items.result.now w.is c.items.ensures c.requires.fits)))

pub returns-in-Write-clause-told : goal.returns-in-Write-clause-told
returns-in-Write-clause-told g c =
    let w = c.in-Write in
    subst (λ (l : List ℕ). ToldAt c.args.core.now.array.durable.geometry l (g.D.Disk.content c.args.disk.now) (g.D.Disk.content c.write_blocks.new.disk))
    (sym (written_places c.args.event.now w.volume w.first_block w.blocks w.places c.items.result.now w.is c.items.ensures)) c.write_blocks.ensures.told

pub returns-in-Write-clause-each : goal.returns-in-Write-clause-each
returns-in-Write-clause-each g c = λ honest.
    let w = c.in-Write in
    subst (λ (l : List ℕ). Follows (DiffersAt c.args.core.now.array.durable.geometry l) (g.D.Disk.is_image c.args.disk.now) (g.D.Disk.is_image c.write_blocks.new.disk))
    (sym (written_places c.args.event.now w.volume w.first_block w.blocks w.places c.items.result.now w.is c.items.ensures)) (c.write_blocks.ensures.each honest)

pub returns-in-Write-clause-any_moment : goal.returns-in-Write-clause-any_moment
returns-in-Write-clause-any_moment g c = λ honest.
    let w = c.in-Write in
    subst (λ (l : List ℕ). LeavesOnly g.D.Disk.moment g.D.Disk.left_since c.args.disk.now c.write_blocks.new.disk (ChangedAt c.args.core.now.array.durable.geometry l (g.D.Disk.is_image c.args.disk.now)))
    (sym (written_places c.args.event.now w.volume w.first_block w.blocks w.places c.items.result.now w.is c.items.ensures)) (c.write_blocks.ensures.any_moment honest)

-- ---- a turn

pub returns-in-Turn-clause-new : goal.returns-in-Turn-clause-new
returns-in-Turn-clause-new g c =
    let d = c.args.core.now.array.durable in
    let t = c.in-Turn in
    let e = c.args.event.now in
    let change = turned_change e t.task t.copies t.is in
    let places = turned_places e t.task t.copies c.items-in-Turn.result.now t.is c.items-in-Turn.ensures in
    subst (λ (k : Change). OnOk c.copy_some.result ((one two : List ℕ) → g.D.Disk.content c.args.disk.now ≡ Some one → g.D.Disk.content c.copy_some.new.disk ≡ Some two
    → HasNew d k (places_of e) (new_values (filled_tables (bytes_at_place d.geometry one) d) k c.args.bytes.now) two)) (sym change)
    (subst (λ (l : List ℕ). OnOk c.copy_some.result ((one two : List ℕ) → g.D.Disk.content c.args.disk.now ≡ Some one → g.D.Disk.content c.copy_some.new.disk ≡ Some two
    → HasNew d (Turn t.task.0) l (new_values (filled_tables (bytes_at_place d.geometry one) d) (Turn t.task.0) c.args.bytes.now) two)) (sym places)
    (turned_values c.copy_some.result (g.D.Disk.content c.args.disk.now) (g.D.Disk.content c.copy_some.new.disk) d t.task.0 (map (λ (x : ChunkCopy). x.place.0) c.items-in-Turn.result.now) c.args.bytes.now c.copy_some.ensures.new))

pub returns-in-Turn-clause-moves : goal.returns-in-Turn-clause-moves
returns-in-Turn-clause-moves g c =
    let d = c.args.core.now.array.durable in
    subst (λ (k : Change). OnRead c.copy_some.result (moves_chunks d k ≡ true)) (sym (turned_change c.args.event.now c.in-Turn.task c.in-Turn.copies c.in-Turn.is)) c.copy_some.ensures.moves

pub returns-in-Turn-clause-told : goal.returns-in-Turn-clause-told
returns-in-Turn-clause-told g c =
    let t = c.in-Turn in
    subst (λ (l : List ℕ). ToldAt c.args.core.now.array.durable.geometry l (g.D.Disk.content c.args.disk.now) (g.D.Disk.content c.copy_some.new.disk))
    (sym (turned_places c.args.event.now t.task t.copies c.items-in-Turn.result.now t.is c.items-in-Turn.ensures)) c.copy_some.ensures.told

pub returns-in-Turn-clause-each : goal.returns-in-Turn-clause-each
returns-in-Turn-clause-each g c = λ honest.
    let t = c.in-Turn in
    subst (λ (l : List ℕ). Follows (DiffersAt c.args.core.now.array.durable.geometry l) (g.D.Disk.is_image c.args.disk.now) (g.D.Disk.is_image c.copy_some.new.disk))
    (sym (turned_places c.args.event.now t.task t.copies c.items-in-Turn.result.now t.is c.items-in-Turn.ensures)) (c.copy_some.ensures.each honest)

pub returns-in-Turn-clause-any_moment : goal.returns-in-Turn-clause-any_moment
returns-in-Turn-clause-any_moment g c = λ honest.
    let t = c.in-Turn in
    subst (λ (l : List ℕ). LeavesOnly g.D.Disk.moment g.D.Disk.left_since c.args.disk.now c.copy_some.new.disk (ChangedAt c.args.core.now.array.durable.geometry l (g.D.Disk.is_image c.args.disk.now)))
    (sym (turned_places c.args.event.now t.task t.copies c.items-in-Turn.result.now t.is c.items-in-Turn.ensures)) (c.copy_some.ensures.any_moment honest)

-- ---- another event, which has no chunk

pub returns-in_default : goal.returns-in_default
returns-in_default g c =
    let d = c.args.core.now.array.durable in
    let e = c.args.event.now in
    let disk = c.args.disk.now in record {
      new = λ one two told again.
          ap (λ (l : List ℕ). map (filled d.geometry.chunk_blocks (bytes_at_place d.geometry two)) (placed_entries l (new_stamp d (change_of e)))) (plain_places e c.in_default.not-Write c.in_default.not-Turn)
          ∙ sym (plain_values e c.in_default.not-Write c.in_default.not-Turn (filled_tables (bytes_at_place d.geometry one) d) c.args.bytes.now);
      moves = tt;
      told = told_at_same d.geometry (places_of e) (g.D.Disk.content disk);
      each = λ honest image is. (image, is, differs_same d.geometry (places_of e) image);
      any_moment = λ honest. started g.D.Disk.moment g.D.Disk.left_since disk (ChangedAt d.geometry (places_of e) (g.D.Disk.is_image disk))
          (λ image left. (image, g.met.D.Disk.only_now disk image left, differs_same d.geometry (places_of e) image));
      cause = record { reads = omega arith; writes = omega arith; read = tt; write = tt; kept = (refl, refl) };
      len = refl;
      honesty = (λ h. h, λ h. h);
    }
