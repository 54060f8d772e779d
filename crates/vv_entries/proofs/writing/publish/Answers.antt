use Rattle.std.proofs.Common.{sym, subst, ap, ◌≡◌, ◌∙◌}
use Rattle.vv_pool.specs.Pool.{PoolState}
use Rattle.vv_entries.specs.declared.entry.Entry.{Entry}
use Rattle.vv_entries.specs.Entries.{placed}
use Rattle.vv_entries.specs.Changes.{IsAwaiting}
use Rattle.vv_entries.proofs.Awaited.{awaiting_fresh}
use Rattle.vv_entries.proofs.writing.publish.Goals as goal

pub returns-clause-counted : goal.returns-clause-counted
returns-clause-counted c =
    let entry : c.placed.result ≡ placed c.args.fresh c.args.stamp = c.placed.ensures ∙ ap (λ n. placed n c.args.stamp) c.publish.ensures.place in
    subst (λ (e : Entry). IsAwaiting c.args.store.now c.publish.new.self e) (sym entry)
    (subst (λ (pool : PoolState). IsAwaiting c.args.store.now pool (placed c.args.fresh c.args.stamp)) (sym c.publish.ensures.counted)
    (awaiting_fresh c.args.store.now c.args.pool.now c.args.fresh c.args.stamp c.requires.counted c.requires.fresh))
