use Rattle.std.proofs.Common.{◌∙◌, ap, List, length}
use Rattle.vv_flat.specs.Chunks.{Entry}
use Rattle.vv_tables.proofs.RowPlaces.{volume_stands, chunks_placed, size_chunks}
use Rattle.vv_tables.proofs.questions_for_spelling.chunk_count_of.Goals as goal

pub entries-requires : goal.entries-requires
entries-requires c = volume_stands c.args.shelf.now.shelf c.args.i c.in-Some.id.0 c.in-Some.ensures.rising c.in-Some.ensures.number

pub returns-in-Some : goal.returns-in-Some
returns-in-Some c =
    c.entries.ensures ∙ size_chunks c.args.shelf.now.shelf c.in-Some.id.0 ∙ ap (λ (es : List Entry). length es) (chunks_placed c.args.shelf.now.shelf c.args.i c.in-Some.id.0 c.in-Some.ensures.rising c.in-Some.ensures.number)
