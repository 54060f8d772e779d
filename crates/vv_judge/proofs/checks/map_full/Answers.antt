use Rattle.std.proofs.Common.{◌≡◌, ◌∙◌, sym, rules}
use Rattle.vv_flat.specs.Chunks.{shape_of_tables}
use Rattle.vv_flat.specs.Space.{entries}
use Rattle.vv_judge.proofs.Shapes.{shape_entries}
use Rattle.vv_judge.proofs.checks.map_full.Goals as goal

pub returns : goal.returns
returns c =
    let e : c.entries-entries.result ≡ entries (shape_of_tables c.args.tables.now.durable) =
    c.entries-entries.ensures ∙ sym (shape_entries c.args.tables.now.durable) in
    rw (← e) (search rules)
