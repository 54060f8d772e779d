use Rattle.std.proofs.Common.{rules, ◌≡◌, ap, true, false, sym, arith}
use Rattle.vv_flat.specs.State.{Task}
use Rattle.vv_flat.specs.Space.{is_running, is_clone}
use Rattle.vv_task.specs.Table.{record_of}
use Rattle.vv_spell.specs.Window.{seen, behind}
use Rattle.vv_spell.proofs.Running.{run_other, run_clone, run_copy}
use Rattle.vv_spell.proofs.runs.put_run.Goals as goal

pub returns-then-ne-clause-text : goal.returns-then-ne-clause-text
returns-then-ne-clause-text c =
    let t : Task = record_of c.in-Some.task in
    let runs : is_running t ≡ false = search rules in
    ap (behind (seen c.args.window.now c.args.into.now)) (run_other c.args.tables.now.durable c.args.i c.args.next t (sym c.in-Some.ensures) runs)

pub overflow_add-result : goal.overflow_add-result
overflow_add-result c = omega (arith, c.requires.few, c.requires.clones)

pub overflow_add-result-in-Copy : goal.overflow_add-result-in-Copy
overflow_add-result-in-Copy c = omega (arith, c.requires.few, c.requires.copies)

pub returns-in-Clone-clause-text : goal.returns-in-Clone-clause-text
returns-in-Clone-clause-text c =
    let t : Task = record_of c.in-Some.task in
    let runs : is_running t ≡ true = search rules in
    let is_one : is_clone t.job ≡ true = search rules in
    run_clone (seen c.args.window.now c.args.into.now) (seen c.put_clone_at.new.window c.put_clone_at.new.into) c.args.tables.now.durable c.args.i c.args.next t (sym c.in-Some.ensures) runs is_one c.put_clone_at.ensures

pub returns-in-Copy-clause-text : goal.returns-in-Copy-clause-text
returns-in-Copy-clause-text c =
    let t : Task = record_of c.in-Some.task in
    let runs : is_running t ≡ true = search rules in
    let is_one : is_clone t.job ≡ false = search rules in
    run_copy (seen c.args.window.now c.args.into.now) (seen c.put_copy_at.new.window c.put_copy_at.new.into) c.args.tables.now.durable c.args.i c.args.next t (sym c.in-Some.ensures) runs is_one c.put_copy_at.ensures
