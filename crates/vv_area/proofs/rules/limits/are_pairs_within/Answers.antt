use Rattle.std.proofs.Common.{◌∙◌, ap}
use Rattle.std.specs.Prelude.{nat_le, sum}
use Rattle.vv_area.specs.Area.{tables_of}
use Rattle.vv_area.proofs.Conjunctions.{two_joined}
use Rattle.vv_area.proofs.Shapes.{pairs_counted}
use Rattle.vv_area.proofs.rules.limits.are_pairs_within.Goals as goal

pub returns : goal.returns
returns c =
    c.is_sum_within.ensures ∙ ap (λ ns. nat_le (sum ns) 4352) c.deref-2.ensures.value
    ∙ ap (λ n. nat_le n 4352) (pairs_counted (tables_of c.args.tables.now) c.extend_from_slice.new.self.items
    (two_joined c.in_ok-counts.counts.items c.deref.result.now c.extend_from_slice.new.self.items _ _ c.in_ok-extend_from_slice.ensures.items c.in_ok-counts.ensures (c.deref.ensures.value ∙ c.in_ok-clones.ensures)))
