use Rattle.std.proofs.Common.{◌∙◌, ap}
use Rattle.std.specs.Prelude.{nat_le, sum}
use Rattle.vv_flat.specs.State.{Container}
use Rattle.vv_flat.specs.Chunks.{shape_of_tables}
use Rattle.vv_flat.specs.Space.{charge}
use Rattle.vv_area.specs.Area.{tables_of}
use Rattle.vv_area.proofs.Conjunctions.{three_joined}
use Rattle.vv_area.proofs.SpaceParts.{charge_counted}
use Rattle.vv_area.proofs.rules.space.is_charge_within.Goals as goal

pub returns : goal.returns
returns c =
    c.is_sum_within.ensures ∙ ap (λ ns. nat_le (sum ns) c.container.inside.quota) c.deref-3.ensures.value
    ∙ ap (λ n. nat_le n c.container.inside.quota)
    (charge_counted (tables_of c.args.tables.now) c.container.inside.number.0 c.extend_from_slice-2.new.self.items
    (three_joined c.in_ok-counts.counts.items c.deref.result.now c.deref-2.result.now c.extend_from_slice.new.self.items c.extend_from_slice-2.new.self.items
    _ _ _ c.in_ok-extend_from_slice.ensures.items c.in_ok-extend_from_slice-2.ensures.items
    c.in_ok-counts.ensures (c.deref.ensures.value ∙ c.in_ok-images.ensures) (c.deref-2.ensures.value ∙ c.in_ok-copies.ensures)))
    ∙ ap (λ (k : Container). nat_le (charge (shape_of_tables (tables_of c.args.tables.now)) k.number) k.quota) c.container.view_is
