use Rattle.std.proofs.Common.{◌++◌, take, ap, ◌∙◌, arith}
use Rattle.vv_bitmap.specs.Stamps.{stamps_in, base_stamps, stamps_of}
use Rattle.vv_bitmap.proofs.BitLists.{told_part, shared_part, stamps_size, page_size, page_stamps}
use Rattle.vv_bitmap.proofs.part.put_part.Goals as goal

pub returns-then-is_shared : goal.returns-then-is_shared
returns-then-is_shared c =
    let s = c.args.shelf.now.shelf in
    let part = c.args.part in
    let size = stamps_size s c.args.volume.0 in
    let within = c.requires.within in
    c.put_clear.ensures
    ∙ ap (λ bs. take c.args.at c.args.out.now ++ bs)
    (shared_part (stamps_in s c.args.volume.0) (base_stamps s c.args.base) part.page part.from part.count c.requires.page (omega arith) (c.is_shared.ensures c.if-is_shared.true))

pub put_bits-requires-clause-within : goal.put_bits-requires-clause-within
put_bits-requires-clause-within c =
    let size = page_size c.args.shelf.now.shelf c.args.volume.0 c.args.part.page c.page-page.result.now c.page-page.ensures in
    let within = c.requires.within in
    let page = c.requires.page in
    omega arith

pub returns : goal.returns
returns c =
    let s = c.args.shelf.now.shelf in
    let part = c.args.part in
    c.put_bits.ensures
    ∙ ap (λ bs. take c.args.at c.args.out.now ++ bs)
    (told_part (stamps_in s c.args.volume.0) (base_stamps s c.args.base) (stamps_of c.page-page.result.now) (stamps_of c.base_page-base.result.now) part.page part.from part.count c.requires.page
    (page_stamps s c.args.volume.0 part.page c.page-page.result.now c.page-page.ensures) c.base_page-base.ensures)
