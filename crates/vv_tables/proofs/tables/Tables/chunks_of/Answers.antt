use Rattle.std.proofs.Common.{◌≡◌, true, sym, ap, ◌∙◌, arith}
use Rattle.vv_flat.specs.WellFormed.{is_well_formed}
use Rattle.vv_tables.specs.Seen.{TablesView}
use Rattle.vv_tables.proofs.HostLists.{size_few}
use Rattle.vv_tables.proofs.tables.Tables.chunks_of.Goals as goal

pub returns-clause-few : goal.returns-clause-few
returns-clause-few c =
    let well : is_well_formed c.args.self.now.durable ≡ true =
    sym (ap (λ (t : TablesView). is_well_formed t.durable) c.self.view_is) ∙ c.self.invariant.kept.well in
    omega (arith, c.size.ensures, size_few c.args.self.now.durable c.args.id.0 well)
