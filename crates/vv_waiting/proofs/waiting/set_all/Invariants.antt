use Rattle.std.proofs.Common.{◌-◌, length}
use Rattle.vv_waiting.proofs.Addresses.{Attending}
use Rattle.vv_waiting.proofs.waiting.set_all.Given as goal

abbrev pub invariant-loop-binding : goal.invariant-loop-binding
invariant-loop-binding l = Attending l.volume.0 l.bindings.bindings l.initial.attentions l.attentions l.i

abbrev pub decreases-loop-binding : goal.decreases-loop-binding
decreases-loop-binding l = length l.bindings.bindings - l.i
