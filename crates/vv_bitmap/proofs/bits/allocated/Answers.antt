use Rattle.std.proofs.Common.{length, ap, ◌∙◌}
use Rattle.vv_flat.specs.Bits.{bits_within}
use Rattle.vv_bitmap.specs.Stamps.{stamps_in}
use Rattle.vv_bitmap.proofs.BitLists.{against_nothing}
use Rattle.vv_bitmap.proofs.bits.allocated.Goals as goal

pub returns : goal.returns
returns c = c.bits_against.ensures ∙ ap (bits_within c.args.first (length c.args.out.now)) (against_nothing (stamps_in c.args.shelf.now.shelf c.args.volume.0) 0)
