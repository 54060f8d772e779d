use Rattle.std.proofs.Common.{sym, ◌∙◌, ◌*◌}
use Rattle.vv_flat.specs.Chunks.{shape_of_tables}
use Rattle.vv_flat.specs.Changes.{stamps_of}
use Rattle.vv_judge.proofs.Shapes.{stands_with_chunks, page_within, read_page, no_page}
use Rattle.vv_judge.proofs.differences.page_of.Goals as goal

pub page-requires-clause-standing : goal.page-requires-clause-standing
page-requires-clause-standing c =
    stands_with_chunks c.shelf.result.now.shelf c.args.id.0 (64 * c.args.k)
    (page_within c.shelf.result.now.shelf c.args.tables.now.durable c.args.id.0 c.args.k c.shelf.ensures.volumes (sym c.has_page.ensures ∙ c.if-has_page.true))

pub page-requires-clause-within : goal.page-requires-clause-within
page-requires-clause-within c =
    page_within c.shelf.result.now.shelf c.args.tables.now.durable c.args.id.0 c.args.k c.shelf.ensures.volumes (sym c.has_page.ensures ∙ c.if-has_page.true)

pub returns-then-has_page : goal.returns-then-has_page
returns-then-has_page c =
    read_page c.shelf.result.now.shelf c.args.tables.now.durable c.args.id.0 c.args.k c.page.result.now c.shelf.ensures.volumes c.page.ensures

pub returns-else-has_page : goal.returns-else-has_page
returns-else-has_page c = no_page (stamps_of (shape_of_tables c.args.tables.now.durable) c.args.id.0) c.args.k (sym c.has_page.ensures ∙ c.if-has_page.false)
