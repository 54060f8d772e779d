use Rattle.std.proofs.Common.{◌*◌, take, drop, ap, ◌∙◌, sym}
use Rattle.vv_bitmap.specs.Stamps.{base_stamps}
use Rattle.vv_bitmap.proofs.BitLists.{pages_stamps}
use Rattle.vv_bitmap.proofs.part.is_shared.Goals as goal

pub returns-in-Some : goal.returns-in-Some
returns-in-Some c = λ yes.
    pages_stamps c.args.shelf.now.shelf c.args.volume.0 c.in-Some.id.0 c.args.page (c.same_page.ensures.equal yes)
    ∙ ap (λ b. take 64 (drop (64 * c.args.page) (base_stamps c.args.shelf.now.shelf b))) (sym c.in-Some.is)
