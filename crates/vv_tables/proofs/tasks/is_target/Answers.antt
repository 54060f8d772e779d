use Rattle.std.proofs.Common.{◌<◌, ◌≤◌, length, sym, ap, ◌∙◌, arith}
use Rattle.std.specs.List.{list_any}
use Rattle.std.proofs.lemmas.List.{take_all}
use Rattle.std.proofs.lemmas.Option.{slice_get_within}
use Rattle.vv_task.specs.Table.{record_of}
use Rattle.vv_tables.specs.Tasks.{is_to_change}
use Rattle.vv_tables.proofs.Walks.{past_end, any_at, none_more}
use Rattle.vv_tables.proofs.tasks.is_target.Goals as goal

pub returns-then-is_to_change : goal.returns-then-is_to_change
returns-then-is_to_change c =
    sym (any_at (is_to_change c.args.id.0) c.args.tasks.now c.loop-task.i (record_of c.in-Some.task) (sym c.in-Some.ensures.item) (sym c.is_to_change.ensures ∙ c.if-is_to_change.true))

pub loop-task-smaller : goal.loop-task-smaller
loop-task-smaller c =
    let within : c.loop-task.i < length c.args.tasks.now = slice_get_within c.args.tasks.now c.loop-task.i (record_of c.in-Some.task) (sym c.in-Some.ensures.item) in
    omega arith

pub loop-task-preserved : goal.loop-task-preserved
loop-task-preserved c =
    let within : c.loop-task.i < length c.args.tasks.now = slice_get_within c.args.tasks.now c.loop-task.i (record_of c.in-Some.task) (sym c.in-Some.ensures.item) in
    record {
      within = omega arith;
      none = none_more (is_to_change c.args.id.0) c.args.tasks.now c.loop-task.i (record_of c.in-Some.task) c.loop-task.invariant.none (sym c.in-Some.ensures.item) (sym c.is_to_change.ensures ∙ c.if-is_to_change.false);
    }

pub returns : goal.returns
returns c =
    let whole : length c.args.tasks.now ≤ c.loop-task.i = past_end c.args.tasks.now c.loop-task.i (sym c.in_default.ensures.item) in
    sym (ap (list_any (is_to_change c.args.id.0)) (sym (take_all c.loop-task.i c.args.tasks.now whole)) ∙ c.loop-task.invariant.none)
