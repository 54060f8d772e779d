use Rattle.std.proofs.Common.{sym, ap, ◌∙◌}
use Rattle.vv_flat.specs.Lists.{numbers_eq}
use Rattle.vv_flat.specs.Bindings.{context_of}
use Rattle.vv_bind.specs.Table.{numbers}
use Rattle.vv_tables.proofs.HostLists.{set_before, never_set}
use Rattle.vv_tables.proofs.questions_for_judge.was_last_set.Goals as goal

pub returns-then-not-was_set : goal.returns-then-not-was_set
returns-then-not-was_set c =
    never_set (context_of c.args.bindings.now.contexts c.args.host.0) (numbers c.args.endpoints.now) (sym c.was_set.ensures ∙ c.if-not-was_set.true)

pub returns : goal.returns
returns c =
    c.are_same.ensures
    ∙ ap (λ l. numbers_eq l (numbers c.args.endpoints.now)) c.endpoints.ensures.endpoints
    ∙ set_before (context_of c.args.bindings.now.contexts c.args.host.0) (numbers c.args.endpoints.now) (sym c.was_set.ensures ∙ c.if-not-was_set.false)
