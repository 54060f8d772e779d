use Rattle.std.proofs.Common.{[]}
use Rattle.vv_restore.proofs.tests.fed_reader.Goals as goal

pub returns : goal.returns
returns c =
    c.in_ok-feed-2.ensures.ok c.args.geometry 2 c.args.front.now
    (c.in_ok-feed.ensures.ok c.args.geometry 2 [] c.in-Ok.ensures)
