use Rattle.std.proofs.Common.{◌≡◌, ℕ, List, Some, OnOk, ◌∙◌}
use Rattle.vv_disk.proofs.Moments.{leaves_weaker, leaves_joined}
use Rattle.vv_flat.specs.Chunks.{filled_tables}
use Rattle.vv_flat.specs.Flat.{new_values}
use Rattle.vv_event.specs.Events.{change_of, places_of}
use Rattle.vv_image.specs.Standing.{bytes_at_place}
use Rattle.vv_array.specs.Standing.{StandsKept}
use Rattle.vv_array.specs.Chunks.{HasNew}
use Rattle.vv_array.specs.ChunkBytes.{ChangedAt}
use Rattle.vv_array.proofs.Stands.{up_written, written_left, written_new}
use Rattle.vv_array.proofs.MovingTurns.{fit_parts}
use Rattle.vv_array.proofs.PlainEvents.{fits_event}
use Rattle.vv_array.proofs.PutParts.{unless_write, ok_then}
use Rattle.vv_array.proofs.putting.put_ahead.Goals as goal

pub returns-clause-stands : goal.returns-clause-stands
returns-clause-stands g c = unless_write c.put_chunks.result _ (λ honest m up.
    let a = c.args.core.now.array in
    let e = c.args.event.now in
    let honest1 = c.make_room.ensures.honesty.1 honest in
    up_written c.make_room.new.journal a (g.D.Disk.content c.make_room.new.disk) (g.D.Disk.content c.put_chunks.new.disk) (g.D.Disk.is_image c.make_room.new.disk) (g.D.Disk.is_image c.put_chunks.new.disk) m (places_of e)
    (c.make_room.ensures.sizes ∙ c.requires.sizes) (fit_parts a.durable (change_of e) (places_of e) (fits_event a.durable e c.requires.fits)).fresh
    (g.met.D.Disk.content_is_image c.make_room.new.disk honest1) c.put_chunks.ensures.told (c.put_chunks.ensures.each honest1)
    (c.in_ok-make_room.ensures.stands honest m up))

pub returns-clause-new : goal.returns-clause-new
returns-clause-new g c =
    let a = c.args.core.now.array in
    let e = c.args.event.now in
    let New : Type 0 = (c' d' : List ℕ) → g.D.Disk.content c.make_room.new.disk ≡ Some c' → g.D.Disk.content c.put_chunks.new.disk ≡ Some d'
    → HasNew a.durable (change_of e) (places_of e) (new_values (filled_tables (bytes_at_place a.durable.geometry c') a.durable) (change_of e) c.args.bytes.now) d' in
    ok_then c.put_chunks.result New _ c.put_chunks.ensures.new (λ new honest m up.
    written_new c.make_room.new.journal a (g.D.Disk.content c.make_room.new.disk) (g.D.Disk.content c.put_chunks.new.disk) (g.D.Disk.is_image c.make_room.new.disk) m e c.args.bytes.now
    c.put_chunks.ensures.told new (c.in_ok-make_room.ensures.stands honest m up))

pub returns-clause-left : goal.returns-clause-left
returns-clause-left g c = λ honest m up.
    let a = c.args.core.now.array in
    let e = c.args.event.now in
    let honest1 = c.make_room.ensures.honesty.1 honest in
    leaves_joined g.D.Disk.moment g.D.Disk.left_since c.args.disk.now c.make_room.new.disk c.put_chunks.new.disk (StandsKept m)
    (c.make_room.ensures.left honest m up)
    (leaves_weaker g.D.Disk.moment g.D.Disk.left_since c.make_room.new.disk c.put_chunks.new.disk
    (ChangedAt a.durable.geometry (places_of e) (g.D.Disk.is_image c.make_room.new.disk)) (StandsKept m)
    (written_left c.make_room.new.journal a (g.D.Disk.content c.make_room.new.disk) (g.D.Disk.is_image c.make_room.new.disk) m (places_of e)
    (c.make_room.ensures.sizes ∙ c.requires.sizes) (fit_parts a.durable (change_of e) (places_of e) (fits_event a.durable e c.requires.fits)).fresh
    (g.met.D.Disk.content_is_image c.make_room.new.disk honest1) (c.in_ok-make_room.ensures.stands honest m up))
    (c.put_chunks.ensures.any_moment honest1))
