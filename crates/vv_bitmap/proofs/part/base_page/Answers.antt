use Rattle.std.proofs.Common.{◌*◌, take, drop, ap, ◌∙◌, sym}
use Rattle.vv_bitmap.specs.Stamps.{base_stamps}
use Rattle.vv_bitmap.proofs.BitLists.{page_stamps}
use Rattle.vv_bitmap.proofs.part.base_page.Goals as goal

pub returns-in-Some : goal.returns-in-Some
returns-in-Some c =
    page_stamps c.args.shelf.now.shelf c.in-Some.id.0 c.args.page c.page.result.now c.page.ensures
    ∙ ap (λ b. take 64 (drop (64 * c.args.page) (base_stamps c.args.shelf.now.shelf b))) (sym c.in-Some.is)
