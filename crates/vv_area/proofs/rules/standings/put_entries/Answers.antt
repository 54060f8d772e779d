use Rattle.std.proofs.Common.{◌∙◌, ◌++◌, ◌∷◌, [], ap, sym, take}
use Rattle.vv_flat.specs.State.{indexed}
use Rattle.vv_flat.specs.Sharing.{standing}
use Rattle.vv_area.proofs.Gathered.{gathers, indexed_more}
use Rattle.vv_area.proofs.rules.standings.put_entries.Goals as goal

pub loop-index-preserved : goal.loop-index-preserved
loop-index-preserved c =
    gathers _ c.loop-index.all.items c.push.new.self.items _ _ _ c.loop-index.invariant c.in_ok-push.ensures.items
    (indexed_more c.args.target_of c.args.entries.now c.loop-index.index c.index-entries-index.result c.loop-index-test.true c.index-entries-index.is
    ∙ ap (λ e. standing c.args.target_of (indexed (take c.loop-index.index c.args.entries.now)) ++ e ∷ []) (sym c.standing_at.ensures))
