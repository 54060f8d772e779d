use Rattle.std.proofs.Common.{◌++◌}
use Rattle.vv_restore.proofs.tests.read_parts.Goals as goal

pub finish-requires : goal.finish-requires
finish-requires c = record { set = (c.args.geometry, 2, c.args.front.now ++ c.args.back.now, c.in_ok-reader.ensures) }
