use Rattle.std.proofs.Common.{rules, ◌≡◌, ◌≤◌, ◌+◌, ◌∙◌, ap, List, length, arith, length-append}
use Rattle.std.specs.Prelude.{Option}
use Rattle.vv_flat.specs.State.{Context}
use Rattle.vv_flat.specs.Bindings.{context_of}
use Rattle.vv_spell.specs.Hosts.{contexts_below, found_in}
use Rattle.vv_spell.proofs.HostContexts.{contexts_rise, none_first, all_last, below_more, few_found}
use Rattle.vv_spell.proofs.contexts.context_count.Goals as goal

pub loop-host-init : goal.loop-host-init
loop-host-init c =
    let none = ap (λ (cs : List Context). length cs) (none_first c.args.tables.now.durable c.lsn-well_formed.ensures.well) in
    record { counted = omega (arith, none); few = omega arith; from_one = omega arith }

pub loop-host-preserved : goal.loop-host-preserved
loop-host-preserved c =
    let cs = c.args.tables.now.durable.contexts in
    let h = c.loop-host.host in
    let o : Option Context = context_of cs h in
    let more : length (contexts_below (h + 1) cs) ≡ length (contexts_below h cs) + length (found_in o) =
    ap (λ (xs : List Context). length xs) (below_more cs h (contexts_rise c.args.tables.now.durable c.lsn-well_formed.ensures.well)) ∙ length-append (contexts_below h cs) (found_in o) in
    let one : length (found_in o) ≤ 1 = few_found o in
    let asked : c.contexts_of-count.result ≡ length (found_in o) = c.contexts_of-count.ensures in
    record {
      counted = omega (arith, more, asked, c.loop-host.invariant.counted);
      few = omega (arith, one, asked, c.loop-host.invariant.few);
      from_one = omega arith;
    }

pub returns : goal.returns
returns c =
    let last : c.loop-host.host ≡ 65 = search rules in
    let cs = c.args.tables.now.durable.contexts in
    c.loop-host.invariant.counted ∙ ap (λ n. length (contexts_below n cs)) last ∙ ap (λ (xs : List Context). length xs) (all_last c.args.tables.now.durable c.lsn-well_formed.ensures.well)
