use Rattle.std.proofs.Common.{◌∙◌, sym, ap, refl}
use Rattle.vv_area.specs.Lengths.{copy_length}
use Rattle.vv_area.specs.Spelling.{copy_spelling, piece_spelling}
use Rattle.vv_record.specs.Spelling.{list_spelling}
use Rattle.vv_spell.specs.Runs.{pieces_at}
use Rattle.std.specs.List.{flat_map}
use Rattle.std.specs.Prelude.{take, drop}
use Rattle.vv_area.proofs.AreaLengths.{length-copy}
use Rattle.vv_spell.specs.declared.window.Window.{Window}
use Rattle.vv_spell.specs.Window.{seen, behind}
use Rattle.vv_spell.proofs.WindowLemmas.{put_none}
use Rattle.vv_spell.proofs.Found.{length-there}
use Rattle.vv_spell.proofs.Running.{copy_is, no_copy}
use Rattle.vv_spell.proofs.runs.put_copy_at.Goals as goal

pub returns-then-pass : goal.returns-then-pass
returns-then-pass c =
    let copies = c.args.tables.now.durable.copies in
    c.if-pass.ensures.passed refl (flat_map copy_spelling (take 1 (drop c.args.i copies))) (length-there copy_spelling copy_length length-copy copies c.args.i ∙ sym c.copy_len_at.ensures)

pub returns-in-Some : goal.returns-in-Some
returns-in-Some c =
    let d = c.args.tables.now.durable in
    c.put_pieces.ensures ∙ ap (λ (w : Window). behind (seen w c.args.into.now) (list_spelling 4 piece_spelling (pieces_at d c.args.i))) (c.if-pass.ensures.stayed refl)
    ∙ ap (behind (seen c.args.window.now c.args.into.now)) (sym (copy_is d c.args.i _ c.in-Some.ensures))

pub returns-in-None : goal.returns-in-None
returns-in-None c =
    let d = c.args.tables.now.durable in
    ap (λ (w : Window). seen w c.args.into.now) (c.if-pass.ensures.stayed refl)
    ∙ put_none (seen c.args.window.now c.args.into.now)
    ∙ ap (behind (seen c.args.window.now c.args.into.now)) (sym (no_copy d c.args.i c.in-None.ensures))
