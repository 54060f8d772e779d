use Rattle.std.proofs.Common.{sym, ap, ◌∙◌}
use Rattle.vv_flat.specs.State.{container_of}
use Rattle.vv_tables.specs.Seen.{TablesView}
use Rattle.vv_tables.proofs.Containers.{container_found}
use Rattle.vv_tables.proofs.tables.Tables.container.Goals as goal

pub returns : goal.returns
returns c =
    c.get.ensures ∙ sym (container_found c.self.inside.containers c.args.id.0)
    ∙ ap (λ (t : TablesView). container_of t.durable c.args.id.0) c.self.view_is
