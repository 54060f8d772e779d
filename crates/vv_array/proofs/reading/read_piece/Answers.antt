use Rattle.std.proofs.Common.{length}
use Rattle.vv_array.proofs.ReadChunks.{piece_told}
use Rattle.vv_array.proofs.reading.read_piece.Goals as goal

pub returns-clause-bytes : goal.returns-clause-bytes
returns-clause-bytes g c =
    piece_told c.read_stored.result c.args.core.now.array.durable c.geometry.result c.args.volume.0 c.args.index c.args.at (length c.args.into.now) c.place_in_volume.result (g.D.Disk.content c.args.disk.now) c.read_stored.new.into
    c.geometry.ensures c.requires.index c.place_in_volume.ensures.place c.read_stored.ensures.bytes
