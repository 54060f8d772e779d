use Rattle.std.proofs.Common.{ap, ◌∙◌}
use Rattle.vv_flat.specs.State.{Durable, Volatile}
use Rattle.vv_flat.specs.Chunks.{Entry}
use Rattle.vv_laws.specs.VolatileForm.{has_volatile_form}
use Rattle.vv_core.proofs.Kept.{forgotten_form}
use Rattle.vv_core.proofs.reader.core_of.Goals as goal

pub invariant_of-result : goal.invariant_of-result
invariant_of-result c =
    let d : Durable Entry = c.args.tables.durable in
    ap (λ (v : Volatile). has_volatile_form (record { durable = d; volatile = v })) c.in-Ok.ensures ∙ forgotten_form d
