use Rattle.std.proofs.Common.{sym, ap, ◌∙◌}
use Rattle.std.proofs.Common.{Some}
use Rattle.vv_tables.proofs.GivenEntries.{piece_same, bare_entry}
use Rattle.vv_tables.proofs.giving.give_entry.Goals as goal

pub returns-in_default-clause-shelf : goal.returns-in_default-clause-shelf
returns-in_default-clause-shelf g c =
    let s = c.args.shelf.now.shelf in
    sym (piece_same s c.args.held.now.number c.args.at _
    (c.requires.may.unmapped ∙ ap Some (bare_entry s.geometry.pool_chunks c.args.entry c.in_default.is c.requires.may.placed)))
