use Rattle.std.proofs.Common.{rules, ◌≤◌, ◌*◌, ◌∙◌, ℕ, List, length, ap, refl, arith}
use Rattle.vv_flat.specs.State.{Binding}
use Rattle.vv_area.specs.Spelling.{binding_spelling}
use Rattle.vv_area.proofs.AreaLengths.{length-binding}
use Rattle.vv_spell.specs.declared.window.Window.{Window}
use Rattle.vv_spell.specs.Window.{WindowState, seen}
use Rattle.vv_spell.proofs.WindowLemmas.{passed_items, put_no_more, put_placed}
use Rattle.vv_spell.proofs.bindings.put_each_binding.Goals as goal

pub loop-i-init : goal.loop-i-init
loop-i-init c =
    let all : List Binding = c.args.tables.now.durable.bindings in
    let s : WindowState = seen c.args.window.now c.args.into.now in
    let first : ℕ = c.pass_items-first.result in
    let few : first ≤ length all = omega (arith, c.pass_items-first.ensures.few, c.binding_count-count.ensures) in
    let ahead : 18 * first ≤ s.ahead = omega (arith, c.pass_items-first.ensures.ahead) in
    ap (λ (w : Window). seen w c.args.into.now) c.pass_items-first.ensures.passed
    ∙ passed_items s binding_spelling 18 length-binding all first few ahead

pub returns-then-is_full : goal.returns-then-is_full
returns-then-is_full c =
    put_no_more (seen c.args.window.now c.args.into.now) (seen c.loop-i.window c.loop-i.into) binding_spelling c.args.tables.now.durable.bindings c.loop-i.i c.loop-i.invariant (c.if-is_full.ensures refl)

pub loop-i-preserved : goal.loop-i-preserved
loop-i-preserved c = put_placed (seen c.args.window.now c.args.into.now) (seen c.loop-i.window c.loop-i.into) (seen c.put_binding_at.new.window c.put_binding_at.new.into)
    binding_spelling c.args.tables.now.durable.bindings c.loop-i.i (search rules) c.loop-i.invariant c.put_binding_at.ensures
