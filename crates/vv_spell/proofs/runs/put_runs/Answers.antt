use Rattle.std.proofs.Common.{rules, ◌≤◌, length}
use Rattle.vv_area.specs.Spelling.{runs_spelling}
use Rattle.vv_spell.specs.Window.{seen}
use Rattle.vv_spell.proofs.Running.{run_done}
use Rattle.vv_spell.proofs.runs.put_runs.Goals as goal

pub returns : goal.returns
returns c =
    let d = c.args.tables.now.durable in
    let all : length d.tasks ≤ c.loop-i.i = search rules in
    run_done (seen c.args.window.now c.args.into.now) (seen c.loop-i.window c.loop-i.into) d c.loop-i.i c.loop-i.next (runs_spelling d.tasks d.clones d.copies) all c.loop-i.invariant.text
