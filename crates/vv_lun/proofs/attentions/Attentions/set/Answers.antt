use Rattle.std.proofs.Common.{IsTrue, List, sym, subst}
use Rattle.vv_flat.specs.State.{Address}
use Rattle.vv_lun.specs.Attentions.{may_wait}
use Rattle.vv_lun.proofs.Addresses.{kept_more}
use Rattle.vv_lun.proofs.attentions.Attentions.set.Goals as goal

pub invariant_of-self : goal.invariant_of-self
invariant_of-self c =
    let may = subst (λ (a : Address). IsTrue (may_wait c.args.self.now a)) (sym c.of-address.ensures) c.requires in
    let may_inside = subst (λ (xs : List Address). IsTrue (may_wait xs c.of-address.result)) (sym c.self.view_is) may in
    kept_more c.self.inside.addresses.items c.deref.result.now c.put.new.addresses.items _ _ c.of-address.result c.is_among.result c.self.invariant
    c.deref.ensures.value c.is_among.ensures c.if-not-is_among.true may_inside c.put.ensures.items c.put.ensures.capacity
