use Rattle.std.proofs.Common.{◌∙◌, ap, List, ◌++◌, ◌∷◌, []}
use Rattle.std.specs.List.{list_all}
use Rattle.vv_flat.specs.State.{Binding, Durable}
use Rattle.vv_flat.specs.Chunks.{Entry}
use Rattle.vv_flat.specs.Bindings.{is_below}
use Rattle.vv_bind.specs.Table.{BindState, address}
use Rattle.vv_tables.specs.Seen.{seen_durable}
use Rattle.vv_tables.proofs.RestoredParts.{binding_free, binding_last}
use Rattle.vv_tables.proofs.restored.Restored.add_binding.Goals as goal

pub restore-requires-clause-free : goal.restore-requires-clause-free
restore-requires-clause-free c =
    let a = address c.args.host.0 c.args.endpoint.0 c.args.secondary.0 in
    binding_free c.self.inside.bindings.bindings a
    (ap (λ (d : Durable Entry). list_all (λ (b : Binding). is_below b.address a) d.bindings) c.self.view_is ∙ c.requires.above)

pub returns : goal.returns
returns c =
    let i = c.self.inside in
    let a = address c.args.host.0 c.args.endpoint.0 c.args.secondary.0 in
    let new : Binding = record { address = a; volume = c.args.volume.0; count = c.args.count } in
    ap (λ (b : BindState). seen_durable i.lsn i.shelf.shelf i.containers b i.tasks i.clones.items i.copies.items) c.restore.ensures
    ∙ ap (λ (bs : List Binding). seen_durable i.lsn i.shelf.shelf i.containers (record { contexts = i.bindings.contexts; bindings = bs }) i.tasks i.clones.items i.copies.items)
    (binding_last i.bindings.bindings new (ap (λ (d : Durable Entry). list_all (λ (b : Binding). is_below b.address a) d.bindings) c.self.view_is ∙ c.requires.above))
    ∙ ap (λ (d : Durable Entry). record d { bindings = d.bindings ++ new ∷ [] }) c.self.view_is
