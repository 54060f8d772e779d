use Rattle.std.proofs.Common.{ℕ, ◌≡◌, ◌+◌, ◌<◌, ◌≤◌, List, length, take, get_or, Some, slice_get, sym, ap, ◌∙◌, arith}
use Rattle.std.proofs.lemmas.List.{take_all}
use Rattle.std.proofs.lemmas.List.Sums.{sum_by_more, sum_by_more_le}
use Rattle.std.proofs.lemmas.Option.{slice_get_within, get_or_from_slice_get}
use Rattle.vv_flat.specs.State.{Task}
use Rattle.vv_task.specs.Table.{record_of}
use Rattle.vv_tables.specs.Charges.{left_to_copy, all_left}
use Rattle.vv_tables.proofs.Walks.{past_end}
use Rattle.vv_tables.proofs.charges.all_left.Goals as goal

record Next (tasks : List Task) (at sum one : ℕ) : Type 0 where
  within : at < length tasks
  least : sum + one ≤ all_left tasks
  next : sum + one ≡ all_left (take (at + 1) tasks)

-- one task more
next : (tasks : List Task) (at sum one : ℕ) (t : Task) → slice_get tasks at ≡ Some t → sum ≡ all_left (take at tasks) → one ≡ left_to_copy t → Next tasks at sum one
next tasks at sum one t found so_far is =
    let within : at < length tasks = slice_get_within tasks at t found in
    let here : get_or tasks at t ≡ t = get_or_from_slice_get tasks at t t found in
    let is_one : one ≡ left_to_copy (get_or tasks at t) = is ∙ ap left_to_copy (sym here) in
    let more : all_left (take (at + 1) tasks) ≡ all_left (take at tasks) + left_to_copy (get_or tasks at t) = sum_by_more left_to_copy tasks at t within in
    let least : all_left (take at tasks) + left_to_copy (get_or tasks at t) ≤ all_left tasks = sum_by_more_le left_to_copy tasks at t within in
    record { within = within; least = omega (arith, so_far, is_one, least); next = omega (arith, so_far, is_one, more) }

pub overflow_add-left : goal.overflow_add-left
overflow_add-left c =
    let n = next c.args.tasks.now c.loop-task.i c.loop-task.left c.left_to_copy-left.result (record_of c.in-Some.task) (sym c.in-Some.ensures.item) c.loop-task.invariant.counted c.left_to_copy-left.ensures in
    omega (arith, n.least, c.requires)

pub loop-task-smaller : goal.loop-task-smaller
loop-task-smaller c =
    let within : c.loop-task.i < length c.args.tasks.now = slice_get_within c.args.tasks.now c.loop-task.i (record_of c.in-Some.task) (sym c.in-Some.ensures.item) in
    omega arith

pub loop-task-preserved : goal.loop-task-preserved
loop-task-preserved c =
    let n = next c.args.tasks.now c.loop-task.i c.loop-task.left c.left_to_copy-left.result (record_of c.in-Some.task) (sym c.in-Some.ensures.item) c.loop-task.invariant.counted c.left_to_copy-left.ensures in
    record { within = omega (arith, n.within); counted = n.next }

pub returns : goal.returns
returns c =
    let whole : length c.args.tasks.now ≤ c.loop-task.i = past_end c.args.tasks.now c.loop-task.i (sym c.in_default.ensures.item) in
    c.loop-task.invariant.counted ∙ ap all_left (take_all c.loop-task.i c.args.tasks.now whole)
