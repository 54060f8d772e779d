use Rattle.std.proofs.Common.{◌∙◌, sym, ap, refl}
use Rattle.vv_area.specs.Lengths.{clone_length}
use Rattle.vv_area.specs.Spelling.{clone_spelling}
use Rattle.std.specs.List.{flat_map}
use Rattle.std.specs.Prelude.{take, drop}
use Rattle.vv_flat.specs.State.{RunningClone}
use Rattle.vv_flat.specs.Chunks.{Entry}
use Rattle.vv_area.proofs.AreaLengths.{length-clone}
use Rattle.vv_spell.specs.declared.window.Window.{Window}
use Rattle.vv_spell.specs.Window.{seen, behind}
use Rattle.vv_spell.specs.Runs.{full_clone}
use Rattle.vv_spell.proofs.WindowLemmas.{put_none}
use Rattle.vv_spell.proofs.Found.{length-there, one_there}
use Rattle.vv_spell.proofs.Running.{clone_is, no_clone}
use Rattle.vv_spell.proofs.runs.put_clone_at.Goals as goal

pub returns-then-pass : goal.returns-then-pass
returns-then-pass c =
    let clones = c.args.tables.now.durable.clones in
    c.if-pass.ensures.passed refl (flat_map clone_spelling (take 1 (drop c.args.i clones))) (length-there clone_spelling clone_length length-clone clones c.args.i ∙ sym c.clone_len_at.ensures)

pub returns-in-Some : goal.returns-in-Some
returns-in-Some c =
    let d = c.args.tables.now.durable in
    let k : RunningClone Entry = full_clone d c.args.i c.in-Some.field-0-0.0 c.in-Some.head.now in
    c.put_clone.ensures ∙ ap (λ (w : Window). behind (seen w c.args.into.now) (clone_spelling k)) (c.if-pass.ensures.stayed refl)
    ∙ ap (behind (seen c.args.window.now c.args.into.now)) (sym (one_there clone_spelling d.clones c.args.i k (clone_is d c.args.i c.in-Some.field-0-0.0 c.in-Some.head.now c.in-Some.ensures)))

pub returns-in-None : goal.returns-in-None
returns-in-None c =
    let d = c.args.tables.now.durable in
    ap (λ (w : Window). seen w c.args.into.now) (c.if-pass.ensures.stayed refl)
    ∙ put_none (seen c.args.window.now c.args.into.now)
    ∙ ap (behind (seen c.args.window.now c.args.into.now)) (sym (no_clone d c.args.i c.in-None.ensures))
