use Rattle.std.proofs.Common.{sym, ◌∙◌}
use Rattle.vv_tables.proofs.GivenPlaces.{none_free}
use Rattle.vv_tables.proofs.giving.take_free.Goals as goal

pub returns-then-free-eq0-clause-free : goal.returns-then-free-eq0-clause-free
returns-then-free-eq0-clause-free c =
    let s = c.args.shelf.now.shelf in
    sym (none_free s c.args.place.0 c.keeps_sharing.ensures c.requires.fresh c.requires.reserved (sym c.free.ensures ∙ c.if-free-eq0.true))
