use Rattle.std.proofs.Common.{ap, ◌∙◌}
use Rattle.vv_flat.specs.State.{Durable, Volatile}
use Rattle.vv_flat.specs.Chunks.{Entry}
use Rattle.vv_laws.specs.VolatileForm.{has_volatile_form}
use Rattle.vv_core.proofs.Kept.{forgotten_form}
use Rattle.vv_core.proofs.array_core.Core.restart.Goals as goal

pub invariant_of-self : goal.invariant_of-self
invariant_of-self c =
    let d : Durable Entry = c.self.inside.tables.durable in
    ap (λ (v : Volatile). has_volatile_form (record { durable = d; volatile = v })) c.forget.ensures ∙ forgotten_form d
