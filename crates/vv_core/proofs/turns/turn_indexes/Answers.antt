use Rattle.std.proofs.Common.{◌≤◌, List, ℕ, length, sym, ◌∙◌, subst}
use Rattle.vv_core.proofs.TurnWalk.{turn_of_running, turn_of_none, few_indexes, if_ok}
use Rattle.vv_core.proofs.turns.turn_indexes.Goals as goal

pub returns-in-Some-clause-indexes : goal.returns-in-Some-clause-indexes
returns-in-Some-clause-indexes c =
    if_ok c.next_indexes.result (λ x p. p ∙ turn_of_running c.args.tables.now.durable c.args.task.0 c.in-Some.copied c.in-Some.ensures) c.next_indexes.ensures

pub returns-in-Some-clause-few : goal.returns-in-Some-clause-few
returns-in-Some-clause-few c =
    if_ok c.next_indexes.result (λ x p. subst (λ (xs : List ℕ). length xs ≤ 16) (sym p) (few_indexes c.args.tables.now.durable c.args.task.0 c.in-Some.copied)) c.next_indexes.ensures

pub returns-in-None-clause-indexes : goal.returns-in-None-clause-indexes
returns-in-None-clause-indexes c = c.new.ensures.items ∙ turn_of_none c.args.tables.now.durable c.args.task.0 c.in-None.ensures
