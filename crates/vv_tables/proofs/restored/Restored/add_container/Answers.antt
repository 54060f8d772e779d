use Rattle.std.proofs.Common.{◌∙◌, sym, ap}
use Rattle.std.specs.Prelude.{nat_lt}
use Rattle.std.specs.List.{list_all}
use Rattle.std.proofs.lemmas.List.Folds.{list_all-map}
use Rattle.vv_flat.specs.State.{Container, Durable}
use Rattle.vv_flat.specs.Chunks.{Entry}
use Rattle.vv_container.specs.Table.{ChargedContainer}
use Rattle.vv_tables.proofs.restored.Restored.add_container.Goals as goal

pub add-requires-clause-above : goal.add-requires-clause-above
add-requires-clause-above c =
    sym (list_all-map (λ (k : Container). nat_lt k.number c.args.id.0) (λ (r : ChargedContainer). r.container) c.self.inside.containers)
    ∙ ap (λ (d : Durable Entry). list_all (λ (k : Container). nat_lt k.number c.args.id.0) d.containers) c.self.view_is ∙ c.requires.above
