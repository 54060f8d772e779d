use Rattle.std.proofs.Common.{List, IsTrue, sym, subst}
use Rattle.vv_units.specs.declared.volume.Offer.{Offer}
use Rattle.vv_container.specs.Forms.{have_forms}
use Rattle.vv_change.proofs.Forms.{container_forms}
use Rattle.vv_change.proofs.preparing.new_container.Goals as goal

pub invariant_of-result : goal.invariant_of-result
invariant_of-result c =
    record { forms = subst (λ (offers : List Offer). IsTrue (have_forms c.args.quota offers)) (sym c.in_ok-copy_offers.ensures) (container_forms c.args.quota c.args.offers.now c.requires) }
