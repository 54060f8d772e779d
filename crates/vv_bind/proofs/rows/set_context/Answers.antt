use Rattle.std.proofs.Common.{◌∙◌, ap, length, arith}
use Rattle.vv_bind.proofs.TableLemmas.{set_found, set_new, unset}
use Rattle.vv_bind.proofs.rows.set_context.Goals as goal

pub put_context-requires : goal.put_context-requires
put_context-requires c =
    let room = c.requires (unset c.args.contexts.now.items c.deref.result.now c.args.context c.host.result.0 c.host.ensures c.deref.ensures.value c.in-None.ensures) in
    let size = ap length c.deref.ensures.value in
    let lent = c.deref.ensures.len in
    omega arith

pub returns-in-Some-clause-items : goal.returns-in-Some-clause-items
returns-in-Some-clause-items c =
    set_found c.args.contexts.now.items c.deref.result.now c.args.context c.index_mut.result.now c.host.result.0 c.in-Some.at
    c.host.ensures c.deref.ensures.value c.in-Some.ensures c.index_mut.ensures.value

pub returns-in-None-clause-items : goal.returns-in-None-clause-items
returns-in-None-clause-items c =
    c.put_context.ensures.items
    ∙ set_new c.args.contexts.now.items c.deref.result.now c.args.context c.host.result.0 c.host.ensures c.deref.ensures.value c.in-None.ensures
