use Rattle.std.proofs.Common.{length, arith}
use Rattle.vv_data.specs.Layout.{chunk_bytes, place_range}
use Rattle.vv_data.proofs.Places.{told_part}
use Rattle.vv_data.proofs.chunk.read_part.Goals as goal

pub returns-in-Ok-clause-bytes : goal.returns-in-Ok-clause-bytes
returns-in-Ok-clause-bytes g c =
    told_part (g.D.Disk.content c.args.disk.now) c.read.new.into _ (place_range c.args.geometry c.args.place).at c.args.at (length c.args.into.now) (chunk_bytes c.args.geometry)
    (omega (arith, c.place_start.ensures.start, c.from.ensures)) c.requires.part c.in-Ok.ensures.bytes
