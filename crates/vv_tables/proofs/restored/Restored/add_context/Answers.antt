use Rattle.std.proofs.Common.{◌≡◌, ◌∙◌, ap, List, true, ◌++◌, ◌∷◌, []}
use Rattle.std.specs.Prelude.{nat_lt}
use Rattle.std.specs.List.{list_all}
use Rattle.vv_flat.specs.State.{Context, Durable}
use Rattle.vv_flat.specs.Chunks.{Entry}
use Rattle.vv_bind.specs.Table.{BindState, numbers}
use Rattle.vv_tables.specs.Seen.{seen_durable}
use Rattle.vv_tables.proofs.RestoredParts.{context_last}
use Rattle.vv_tables.proofs.restored.Restored.add_context.Goals as goal

pub returns : goal.returns
returns c =
    let i = c.self.inside in
    let above : list_all (λ (k : Context). nat_lt k.host c.args.host.0) i.bindings.contexts ≡ true =
    ap (λ (d : Durable Entry). list_all (λ (k : Context). nat_lt k.host c.args.host.0) d.contexts) c.self.view_is ∙ c.requires.above in
    ap (λ (b : BindState). seen_durable i.lsn i.shelf.shelf i.containers b i.tasks i.clones.items i.copies.items) c.set_endpoints.ensures
    ∙ ap (λ (ks : List Context). seen_durable i.lsn i.shelf.shelf i.containers (record { contexts = ks; bindings = i.bindings.bindings }) i.tasks i.clones.items i.copies.items)
    (context_last i.bindings.contexts c.args.host.0 (numbers c.args.endpoints.now) above)
    ∙ ap (λ (d : Durable Entry). record d { contexts = d.contexts ++ record { host = c.args.host.0; endpoints = numbers c.args.endpoints.now } ∷ [] }) c.self.view_is
