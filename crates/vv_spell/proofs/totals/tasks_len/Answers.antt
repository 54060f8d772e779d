use Rattle.std.proofs.Common.{rules, ◌≤◌, length, arith}
use Rattle.vv_area.specs.Lengths.{task_length}
use Rattle.vv_spell.proofs.Sums.{sum_more, sum_within, sum_all}
use Rattle.vv_spell.proofs.Fits.{sections_within}
use Rattle.vv_spell.proofs.totals.tasks_len.Goals as goal

pub overflow_add-bytes : goal.overflow_add-bytes
overflow_add-bytes c =
    let d = c.args.tables.now.durable in
    let within = sum_within (task_length) d.tasks c.loop-i.i in
    let section = (sections_within d).tasks in
    omega (arith, within, section, c.loop-i.invariant, c.task_len_at-bytes.ensures, c.requires.fits)

pub loop-i-preserved : goal.loop-i-preserved
loop-i-preserved c =
    let more = sum_more (task_length) c.args.tables.now.durable.tasks c.loop-i.i in
    omega (arith, more, c.loop-i.invariant, c.task_len_at-bytes.ensures)

pub returns : goal.returns
returns c =
    let d = c.args.tables.now.durable in
    let past : length d.tasks ≤ c.loop-i.i = search rules in
    let all = sum_all (task_length) d.tasks c.loop-i.i past in
    omega (arith, all, c.loop-i.invariant)
