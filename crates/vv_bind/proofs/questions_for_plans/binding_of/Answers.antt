use Rattle.std.proofs.Common.{sym}
use Rattle.vv_flat.specs.Bindings.{is_binding_of}
use Rattle.vv_flat.proofs.Positions.{found_is, not_found}
use Rattle.vv_bind.proofs.questions_for_plans.binding_of.Goals as goal

pub returns-in-Some : goal.returns-in-Some
returns-in-Some c =
    sym (found_is (is_binding_of c.args.host.0 c.args.volume.0) c.args.bindings.now c.in-Some.at c.index-bindings-at.result (sym c.in-Some.ensures) c.index-bindings-at.is)

pub returns-in-None : goal.returns-in-None
returns-in-None c = sym (not_found (is_binding_of c.args.host.0 c.args.volume.0) c.args.bindings.now (sym c.in-None.ensures))
