use Rattle.std.proofs.Common.{◌≤◌, ◌*◌, ◌∙◌, ap, sym, List, length, take, drop, arith}
use Rattle.vv_flat.specs.Chunks.{Entry}
use Rattle.vv_vols.specs.Shelf.{chunks_in}
use Rattle.vv_laws.proofs.ListParts.{drop-past}
use Rattle.vv_tables.proofs.RowPlaces.{volume_stands, chunks_placed, size_chunks}
use Rattle.vv_tables.proofs.questions_for_spelling.page_of.Goals as goal

pub entries-requires : goal.entries-requires
entries-requires c = volume_stands c.args.shelf.now.shelf c.args.i c.in-Some.id.0 c.in-Some.ensures.rising c.in-Some.ensures.number

pub page-requires-clause-standing : goal.page-requires-clause-standing
page-requires-clause-standing c = volume_stands c.args.shelf.now.shelf c.args.i c.in-Some.id.0 c.in-Some.ensures.rising c.in-Some.ensures.number

pub returns-then-k-div_ceil : goal.returns-then-k-div_ceil
returns-then-k-div_ceil c =
    let chunks : List Entry = chunks_in c.args.shelf.now.shelf c.in-Some.id.0 in
    let past : length chunks ≤ 64 * c.args.k = omega (arith, c.div_ceil.ensures, c.entries.ensures, size_chunks c.args.shelf.now.shelf c.in-Some.id.0, c.if-k-div_ceil.true) in
    sym (ap (take 64) (drop-past (64 * c.args.k) chunks past))
    ∙ ap (λ (es : List Entry). take 64 (drop (64 * c.args.k) es)) (chunks_placed c.args.shelf.now.shelf c.args.i c.in-Some.id.0 c.in-Some.ensures.rising c.in-Some.ensures.number)

pub returns : goal.returns
returns c =
    c.page.ensures
    ∙ ap (λ (es : List Entry). take 64 (drop (64 * c.args.k) es)) (chunks_placed c.args.shelf.now.shelf c.args.i c.in-Some.id.0 c.in-Some.ensures.rising c.in-Some.ensures.number)
