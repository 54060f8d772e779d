use Rattle.std.proofs.Common.{ap, ◌∙◌}
use Rattle.vv_flat.specs.State.{Durable, Volatile}
use Rattle.vv_flat.specs.Chunks.{Entry}
use Rattle.vv_laws.specs.VolatileForm.{has_volatile_form}
use Rattle.vv_core.proofs.Kept.{forgotten_form}
use Rattle.vv_core.proofs.array_core.Core.empty.Goals as goal

pub invariant_of-result : goal.invariant_of-result
invariant_of-result c =
    let d : Durable Entry = c.in_ok-tables.tables.durable in
    ap (λ (v : Volatile). has_volatile_form (record { durable = d; volatile = v })) c.in_ok-waiting.ensures ∙ forgotten_form d
