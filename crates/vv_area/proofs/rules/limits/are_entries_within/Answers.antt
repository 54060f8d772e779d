use Rattle.std.proofs.Common.{◌∙◌, ap}
use Rattle.std.specs.Prelude.{nat_le, sum}
use Rattle.vv_area.specs.Area.{tables_of}
use Rattle.vv_area.proofs.Conjunctions.{two_joined, three_joined}
use Rattle.vv_area.proofs.Shapes.{entries_counted}
use Rattle.vv_area.proofs.rules.limits.are_entries_within.Goals as goal

pub returns : goal.returns
returns c =
    c.is_sum_within.ensures ∙ ap (λ ns. nat_le (sum ns) c.from.result) c.deref-4.ensures.value ∙ ap (nat_le (sum c.extend_from_slice-3.new.self.items)) c.from.ensures
    ∙ ap (λ n. nat_le n c.args.tables.now.geometry.map_chunks) (entries_counted (tables_of c.args.tables.now) c.extend_from_slice-3.new.self.items
    (two_joined c.extend_from_slice-2.new.self.items c.deref-3.result.now c.extend_from_slice-3.new.self.items _ _ c.in_ok-extend_from_slice-3.ensures.items
    (three_joined c.in_ok-counts.counts.items c.deref.result.now c.deref-2.result.now c.extend_from_slice.new.self.items c.extend_from_slice-2.new.self.items
    _ _ _ c.in_ok-extend_from_slice.ensures.items c.in_ok-extend_from_slice-2.ensures.items
    c.in_ok-counts.ensures (c.deref.ensures.value ∙ c.in_ok-images.ensures) (c.deref-2.ensures.value ∙ c.in_ok-targets.ensures))
    (c.deref-3.ensures.value ∙ c.in_ok-pieces.ensures)))
