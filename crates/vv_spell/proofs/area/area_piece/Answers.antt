use Rattle.std.proofs.Common.{arith, ap, ◌∙◌}
use Rattle.vv_area.specs.Spelling.{area_spelling}
use Rattle.vv_area.proofs.AreaLengths.{length-area}
use Rattle.vv_spell.specs.declared.window.Window.{Window}
use Rattle.vv_spell.specs.Window.{seen, behind}
use Rattle.vv_spell.proofs.Pieces.{piece_put}
use Rattle.vv_spell.proofs.area.area_piece.Goals as goal

pub returns : goal.returns
returns c =
    let d = c.args.tables.now.durable in
    let long = length-area 2 d c.has_length.ensures.spellable in
    piece_put c.put_area.new.window c.args.at c.args.into.now c.put_area.new.into (area_spelling 2 d) (omega (arith, long, c.requires))
    (c.put_area.ensures ∙ ap (λ (w : Window). behind (seen w c.args.into.now) (area_spelling 2 d)) c.at-window.ensures)
