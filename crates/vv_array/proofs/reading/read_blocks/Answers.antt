use Rattle.std.proofs.Common.{◌≡◌, ◌+◌, ◌-◌, ◌*◌, ◌/◌, ◌%◌, ◌≤◌, ℕ, List, length, take, drop, IfSome, ap, ◌∙◌, subst, refl, arith}
use Rattle.std.proofs.Math.Nat.{mod-add-div'}
use Rattle.std.proofs.lemmas.List.{length-take, length-drop}
use Rattle.vv_units.specs.declared.geometry.Geometry.{Geometry}
use Rattle.vv_disk.specs.Images.{bytes_at}
use Rattle.vv_disk.proofs.Moments.{leaves_joined, leaves_weaker}
use Rattle.vv_flat.specs.State.{Durable}
use Rattle.vv_flat.specs.Chunks.{Entry, filled_tables}
use Rattle.vv_laws.proofs.ChunkBytes.{some_blocks}
use Rattle.vv_image.specs.Standing.{bytes_at_place}
use Rattle.vv_array.specs.ChunkBytes.{volume_chunk}
use Rattle.vv_array.proofs.ReadChunks.{blocks_low, told_read_more}
use Rattle.vv_array.proofs.reading.read_blocks.Goals as goal

pub overflow_add-first : goal.overflow_add-first
overflow_add-first g c =
    let low = blocks_low c.args.core.now.array.durable c.lsn-well_formed.ensures.well c.args.volume.0 c.requires.stands.0 c.requires.stands.1 in
    let within = c.loop-done.invariant.within in
    omega (arith, low, within, c.requires.stands.2)

pub first_part-part-requires-clause-low : goal.first_part-part-requires-clause-low
first_part-part-requires-clause-low g c =
    let low = blocks_low c.args.core.now.array.durable c.lsn-well_formed.ensures.well c.args.volume.0 c.requires.stands.0 c.requires.stands.1 in
    omega (arith, low, c.loop-done-test.true, c.requires.stands.2)

pub loop-done-preserved : goal.loop-done-preserved
loop-done-preserved g c =
    let d : Durable Entry = c.args.core.now.array.durable in
    let n : ℕ = c.args.volume.0 in
    let first : ℕ = c.args.first in
    let done : ℕ = c.loop-done.done in
    let part = c.first_part-part.result in
    let B : ℕ = d.geometry.chunk_blocks in
    let told = g.D.Disk.content c.args.disk.now in
    let before = c.loop-done.invariant in
    let into : List ℕ = c.loop-done.into in
    let piece : List ℕ = c.read_piece.new.into in
    let start : ℕ = done * 512 in
    let end : ℕ = start + part.blocks * 512 in
    let count : ℕ = length (take (end - start) (drop start into)) in
    let sizes : c.geometry-geometry.result.chunk_blocks ≡ B = ap (λ (h : Geometry). h.chunk_blocks) c.geometry-geometry.ensures in
    let some = some_blocks B d.geometry.chunk_size in
    let block : ℕ = first + c.from.result in
    let w_is : part.first ≡ block % B = c.first_part-part.ensures.first ∙ ap (λ m. block % m) sizes in
    let i_is : part.index ≡ block / B = c.first_part-part.ensures.index ∙ ap (λ m. block / m) sizes in
    let whole : block % B + block / B * B ≡ block = mod-add-div' block B in
    let times : part.index * B ≡ block / B * B = ap (λ m. m * B) i_is in
    let from : part.index * B + part.first ≡ first + done = omega (arith, whole, times, w_is, c.from.ensures) in
    let within : part.first + part.blocks ≤ B = omega (arith, w_is, sizes, some, c.first_part-part.ensures.blocks) in
    let few : done + part.blocks ≤ c.args.blocks = omega (arith, c.first_part-part.ensures.blocks, c.loop-done-test.true) in
    let long : length into ≡ c.args.blocks * 512 = omega (arith, c.loop-done.auto.into, c.requires.buffer) in
    let fits : end ≤ length into = omega (arith, long, few) in
    let counts : count ≡ part.blocks * 512 = length-take (end - start) (drop start into) ∙ omega (arith, length-drop start into, fits) in
    let now : IfSome (g.D.Disk.content c.loop-done.disk) (λ content. piece ≡ bytes_at (part.first * 512) count (volume_chunk (filled_tables (bytes_at_place d.geometry content) d) n part.index)) = c.in_ok-read_piece.ensures.bytes in
    let got = subst (λ t. IfSome t (λ content. piece ≡ bytes_at (part.first * 512) count (volume_chunk (filled_tables (bytes_at_place d.geometry content) d) n part.index))) before.content now in
    record {
      within = few;
      read = told_read_more d c.lsn-well_formed.ensures.well n c.requires.stands.0 c.requires.stands.1 told into piece first done part.blocks part.index part.first count start end
          (λ content is. g.met.D.Disk.content_fits c.args.disk.now content is ∙ c.requires.disk) from within refl refl fits counts c.read_piece.auto.into before.read got;
      len = c.read_piece.ensures.len ∙ before.len;
      content = c.read_piece.ensures.content ∙ before.content;
      reads = c.in_ok-read_piece.ensures.cause.kept ∙ before.reads;
      writes = c.read_piece.ensures.write_faults ∙ before.writes;
      images = λ image. (λ is. (before.images image).0 ((c.read_piece.ensures.images image).0 is), λ is. (c.read_piece.ensures.images image).1 ((before.images image).1 is));
      any_moment = leaves_joined g.D.Disk.moment g.D.Disk.left_since c.args.disk.now c.loop-done.disk c.read_piece.new.disk (g.D.Disk.is_image c.args.disk.now) before.any_moment
          (leaves_weaker g.D.Disk.moment g.D.Disk.left_since c.loop-done.disk c.read_piece.new.disk (g.D.Disk.is_image c.loop-done.disk) (g.D.Disk.is_image c.args.disk.now) (λ image is. (before.images image).0 is) c.read_piece.ensures.any_moment);
      honesty = (λ h. before.honesty.0 (c.read_piece.ensures.honesty.0 h), λ h. c.read_piece.ensures.honesty.1 (before.honesty.1 h));
    }
