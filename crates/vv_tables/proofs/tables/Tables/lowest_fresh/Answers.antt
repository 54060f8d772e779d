use Rattle.std.proofs.Common.{ℕ, List, ap, ◌∙◌}
use Rattle.std.specs.Prelude.{nat_le}
use Rattle.std.specs.List.{find}
use Rattle.vv_flat.specs.Plans.{fresh_places}
use Rattle.vv_tables.specs.Seen.{TablesView}
use Rattle.vv_tables.proofs.FreshPlaces.{free_places_fresh}
use Rattle.vv_tables.proofs.tables.Tables.lowest_fresh.Goals as goal

pub returns : goal.returns
returns c =
    let i = c.self.inside in
    c.lowest.ensures
    ∙ ap (λ (ps : List ℕ). find (λ p. nat_le c.args.from p) ps) c.pool.ensures.free
    ∙ ap (λ (ps : List ℕ). find (λ p. nat_le c.args.from p) ps)
    (free_places_fresh i.lsn i.shelf.shelf i.containers i.bindings i.tasks i.clones.items i.copies.items c.self.invariant.held c.self.invariant.kept.fresh)
    ∙ ap (λ (t : TablesView). find (λ p. nat_le c.args.from p) (fresh_places t.durable)) c.self.view_is
