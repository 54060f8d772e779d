use Rattle.std.proofs.Common.{sym, ◌∙◌, ◌*◌}
use Rattle.vv_judge.proofs.Shapes.{stands_with_chunks, page_within, shared_page}
use Rattle.vv_judge.proofs.differences.is_shared.Goals as goal

pub same_page-requires-clause-standing : goal.same_page-requires-clause-standing
same_page-requires-clause-standing c =
    stands_with_chunks c.shelf.result.now.shelf c.args.source.0 (64 * c.args.k)
    (page_within c.shelf.result.now.shelf c.args.tables.now.durable c.args.source.0 c.args.k c.shelf.ensures.volumes (sym c.has_page.ensures ∙ c.if-not-has_page.false))

pub same_page-requires-clause-other_standing : goal.same_page-requires-clause-other_standing
same_page-requires-clause-other_standing c =
    stands_with_chunks c.shelf.result.now.shelf c.args.base.0 (64 * c.args.k)
    (page_within c.shelf.result.now.shelf c.args.tables.now.durable c.args.base.0 c.args.k c.shelf.ensures.volumes (sym c.has_page-else-not-has_page.ensures ∙ c.if-not-has_page-2.false))

pub returns : goal.returns
returns c = λ same. shared_page c.shelf.result.now.shelf c.args.tables.now.durable c.args.source.0 c.args.base.0 c.args.k c.shelf.ensures.volumes (c.same_page.ensures.equal same)
