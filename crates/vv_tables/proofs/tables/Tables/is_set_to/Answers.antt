use Rattle.std.proofs.Common.{◌≡◌, true, false, Option, sym, ap, ◌∙◌}
use Rattle.vv_flat.specs.Lists.{if_found, numbers_eq}
use Rattle.vv_flat.specs.State.{Context}
use Rattle.vv_flat.specs.Rules.{is_host}
use Rattle.vv_flat.specs.WellFormed.{is_well_formed}
use Rattle.vv_bind.specs.Table.{numbers}
use Rattle.vv_tables.specs.Seen.{TablesView}
use Rattle.vv_tables.proofs.HostLists.{no_context}
use Rattle.vv_tables.proofs.tables.Tables.is_set_to.Goals as goal

pub returns-then-not-is_host : goal.returns-then-not-is_host
returns-then-not-is_host c =
    let well : is_well_formed c.args.self.now.durable ≡ true =
    sym (ap (λ (t : TablesView). is_well_formed t.durable) c.self.view_is) ∙ c.self.invariant.kept.well in
    let other : is_host c.args.host.0 ≡ false = sym c.is_host.ensures ∙ c.if-not-is_host.true in
    sym (ap (λ (o : Option Context). if_found o (λ k. numbers_eq k.endpoints (numbers c.args.endpoints.now)) false) (no_context c.args.self.now.durable c.args.host.0 well other))
