use Rattle.std.proofs.Common.{sym, arith}
use Rattle.vv_waiting.proofs.Addresses.{attending_begins, attending_next, attending_room, attending_ends}
use Rattle.vv_waiting.proofs.waiting.set_all.Goals as goal

pub loop-binding-init : goal.loop-binding-init
loop-binding-init c = attending_begins c.args.volume.0 c.args.bindings.now.bindings c.args.attentions.now c.requires

pub set_one-requires : goal.set_one-requires
set_one-requires c =
    attending_room c.args.volume.0 c.args.bindings.now.bindings c.args.attentions.now c.loop-binding.attentions c.loop-binding.i c.in-Some.binding.now
    c.loop-binding.invariant (sym c.in-Some.ensures.item) c.in-Some.ensures.few

pub loop-binding-preserved : goal.loop-binding-preserved
loop-binding-preserved c =
    (attending_next c.args.volume.0 c.args.bindings.now.bindings c.args.attentions.now c.loop-binding.attentions c.set_one.new.attentions c.loop-binding.i c.in-Some.binding.now
    c.loop-binding.invariant (sym c.in-Some.ensures.item) c.set_one.ensures).0

pub loop-binding-smaller : goal.loop-binding-smaller
loop-binding-smaller c =
    let within =
    (attending_next c.args.volume.0 c.args.bindings.now.bindings c.args.attentions.now c.loop-binding.attentions c.set_one.new.attentions c.loop-binding.i c.in-Some.binding.now
    c.loop-binding.invariant (sym c.in-Some.ensures.item) c.set_one.ensures).1 in
    omega (arith, within)

pub returns : goal.returns
returns c =
    attending_ends c.args.volume.0 c.args.bindings.now.bindings c.args.attentions.now c.loop-binding.attentions c.loop-binding.i c.loop-binding.invariant (sym c.in_default.ensures.item)
