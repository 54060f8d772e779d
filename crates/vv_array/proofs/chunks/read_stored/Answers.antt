use Rattle.std.proofs.Common.{length}
use Rattle.vv_array.proofs.WrittenChunks.{zeros_stored}
use Rattle.vv_array.proofs.chunks.read_stored.Goals as goal

pub returns-in-None-clause-bytes : goal.returns-in-None-clause-bytes
returns-in-None-clause-bytes g c =
    zeros_stored c.args.geometry c.args.place (g.D.Disk.content c.args.disk.now) c.fill.new.self c.args.at (length c.args.into.now) c.in-None.is c.requires.part (c.fill.ensures.after (λ y is. is))
