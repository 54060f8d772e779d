use Rattle.std.proofs.Common.{rules, ◌≡◌, true}
use Rattle.std.specs.Option.{is_some}
use Rattle.vv_bind.specs.Table.{numbers}
use Rattle.vv_flat.specs.Bindings.{context_of}
use Rattle.vv_tables.proofs.RowPlaces.{context_found}
use Rattle.vv_tables.proofs.questions_for_spelling.context_row.Goals as goal

pub returns-then-was_set : goal.returns-then-was_set
returns-then-was_set c =
    let set : is_some (context_of c.args.bindings.now.contexts c.args.host.0) ≡ true = search rules in
    context_found c.args.bindings.now.contexts c.args.host.0 (numbers c.endpoints.result.now) set c.endpoints.ensures.endpoints
