use Rattle.std.proofs.Common.{length}
use Rattle.vv_array.proofs.ReadChunks.{copied_new}
use Rattle.vv_array.proofs.copying.copy_chunk.Goals as goal

pub returns-clause-new : goal.returns-clause-new
returns-clause-new g c =
    copied_new c.write_place.result c.args.core.now.array.durable c.geometry-geometry.result c.geometry-geometry.ensures c.args.task.0 c.args.copy.index c.args.copy.place.0 (g.D.Disk.content c.args.disk.now) (g.D.Disk.content c.write_place.new.disk)
    c.place_in_image-from.result c.read_stored.new.into (length c.args.buffer.now) c.requires.buffer c.requires.index c.place_in_image-from.ensures.place c.in_ok-read_stored.ensures.bytes c.write_place.ensures.new
