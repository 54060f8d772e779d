use Rattle.std.proofs.Common.{◌*◌, length, take, drop, count_by, ap, sym, ◌∙◌, arith}
use Rattle.vv_flat.specs.Bits.{unshared_count}
use Rattle.vv_bitmap.specs.Stamps.{stamps_in, stamps_of}
use Rattle.vv_bitmap.proofs.BitLists.{shared_clear, none_counted, page_size, page_stamps}
use Rattle.vv_bitmap.proofs.part.count_bits.Goals as goal

pub returns-then-is_shared : goal.returns-then-is_shared
returns-then-is_shared c =
    let stamps = stamps_in c.args.shelf.now.shelf c.args.volume.0 in
    let base = stamps_in c.args.shelf.now.shelf c.args.base.0 in
    let k = c.args.page in
    sym (ap (count_by (λ b. b)) (shared_clear stamps base k (c.is_shared.ensures c.if-is_shared.true)) ∙ none_counted (length (take 64 (drop (64 * k) stamps))))

pub count_differing-requires : goal.count_differing-requires
count_differing-requires c =
    let size = page_size c.args.shelf.now.shelf c.args.volume.0 c.args.page c.page-entries.result.now c.page-entries.ensures in
    omega arith

pub returns : goal.returns
returns c =
    let stamps = stamps_in c.args.shelf.now.shelf c.args.volume.0 in
    c.count_differing.ensures
    ∙ ap (λ x. unshared_count x (stamps_of c.base_page.result.now)) (page_stamps c.args.shelf.now.shelf c.args.volume.0 c.args.page c.page-entries.result.now c.page-entries.ensures)
    ∙ ap (unshared_count (take 64 (drop (64 * c.args.page) stamps))) c.base_page.ensures
