use Rattle.std.proofs.Common.{◌∙◌, ◌++◌, ◌∷◌, [], ap}
use Rattle.std.specs.Prelude.{nat_le, sum}
use Rattle.vv_area.specs.Area.{tables_of}
use Rattle.vv_area.proofs.SpaceParts.{used_counted, pool_counted}
use Rattle.vv_area.proofs.rules.space.is_pool_enough.Goals as goal

pub returns : goal.returns
returns c =
    c.is_sum_within.ensures ∙ ap (λ ns. nat_le (sum ns) c.from.result) c.deref.ensures.value ∙ ap (nat_le (sum c.push.new.self.items)) c.from.ensures
    ∙ ap (λ n. nat_le n c.args.tables.now.geometry.pool_chunks)
    (pool_counted (tables_of c.args.tables.now) c.push.new.self.items c.in_ok-used.used (c.in_ok-push.ensures.items ∙ ap (λ l. l ++ c.in_ok-used.used ∷ []) c.in_ok-counts.ensures)
    (c.in_ok-used.ensures ∙ used_counted (tables_of c.args.tables.now) c.args.entries.now c.requires))
