use Rattle.std.proofs.Common.{◌≡◌, ℕ, List, true, refl, arith}
use Rattle.vv_disk.proofs.Moments.{started}
use Rattle.vv_flat.specs.Chunks.{filled_tables}
use Rattle.vv_image.specs.Standing.{bytes_at_place}
use Rattle.vv_event.specs.Events.{change_of}
use Rattle.vv_meaning.specs.Meaning.{blocks_at}
use Rattle.vv_meaning.specs.Steps.{is_write}
use Rattle.vv_core.specs.Plans.{blocks_compared, blocks_written, payload_of}
use Rattle.vv_units.specs.declared.numbers.Place.{Place}
use Rattle.std.specs.Prelude.{map}
use Rattle.vv_array.proofs.MovingTurns.{write_known}
use Rattle.vv_array.proofs.PlainEvents.{written_fits}
use Rattle.vv_array.proofs.Compared.{plain_told, compare_found, fits_unmarked, write_moves, on_err}
use Rattle.vv_array.proofs.journaling.is_miscompare.Goals as goal

pub returns-in_default : goal.returns-in_default
returns-in_default g c =
    let a = c.args.core.now.array in
    let p = c.args.planned.now in
    let disk = c.args.disk.now in record {
      told = plain_told p.record.event c.in_default.not-Write (g.D.Disk.content disk) (λ content. blocks_at (filled_tables (bytes_at_place a.durable.geometry content) a.durable))
          (blocks_compared p.compare (blocks_written p.record.event) (payload_of a.volatile c.args.call.now));
      moves = tt;
      cause = record { later = omega arith; failed = tt; kept = refl };
      len = refl;
      content = refl;
      write_faults = refl;
      images = λ image. (λ h. h, λ h. h);
      any_moment = started g.D.Disk.moment g.D.Disk.left_since disk (g.D.Disk.is_image disk) (λ image left. g.met.D.Disk.only_now disk image left);
      honesty = (λ h. h, λ h. h);
    }

pub read_some-requires-clause-stands : goal.read_some-requires-clause-stands
read_some-requires-clause-stands g c =
    let d = c.args.core.now.array.durable in
    let r = c.args.planned.now.record in
    let w = c.in-Write in
    write_known d w.volume.0 w.first_block w.blocks (map (λ (p : Place). p.0) w.places)
    (written_fits d r.event w.volume w.first_block w.blocks w.places w.places w.is refl (fits_unmarked d r c.requires.unmarked c.requires.fits))

pub returns-in_err-read_some-clause-moves : goal.returns-in_err-read_some-clause-moves
returns-in_err-read_some-clause-moves g c =
    let w = c.in-Write in
    let e = c.args.planned.now.record.event in
    on_err c.from_residual.result (is_write (change_of e) ≡ true) (write_moves e w.volume w.first_block w.blocks w.places w.is c.in_err-read_some.ensures.some)

pub returns-clause-told : goal.returns-clause-told
returns-clause-told g c =
    let a = c.args.core.now.array in
    let p = c.args.planned.now in
    let w = c.in-Write in
    compare_found p.record.event w.volume w.first_block w.blocks w.places w.is p.compare c.if-not-planned.false c.read_some.new.into c.compared_half.result.now c.payload_of.result.now
    (payload_of a.volatile c.args.call.now) c.are_same.result c.are_same.ensures c.compared_half.ensures c.payload_of.ensures (g.D.Disk.content c.args.disk.now)
    (λ content. blocks_at (filled_tables (bytes_at_place a.durable.geometry content) a.durable)) c.in_ok-read_some.ensures.read
