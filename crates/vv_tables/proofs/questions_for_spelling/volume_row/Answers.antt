use Rattle.std.proofs.Common.{◌∙◌, ap, [], Option, option_map}
use Rattle.vv_flat.specs.State.{Volume}
use Rattle.vv_flat.specs.Chunks.{Entry}
use Rattle.vv_tables.proofs.RowPlaces.{volume_placed}
use Rattle.vv_tables.proofs.questions_for_spelling.volume_row.Goals as goal

pub returns : goal.returns
returns c =
    let s = c.args.shelf.now.shelf in
    c.volume_numbered.ensures ∙ ap (λ (o : Option (Volume Entry)). option_map (λ (v : Volume Entry). record v { chunks = [] }) o) (volume_placed s c.args.i c.in_ok-id.id.0 c.in_ok-id.ensures.rising c.in_ok-id.ensures.number)
