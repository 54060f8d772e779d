use Rattle.std.proofs.Common.{rules, ◌≡◌, ◌+◌, ◌∙◌, ap, List, arith}
use Rattle.vv_flat.specs.State.{Context}
use Rattle.vv_area.specs.Lengths.{contexts_length}
use Rattle.vv_spell.specs.Hosts.{contexts_below}
use Rattle.vv_spell.proofs.Fits.{sections_within}
use Rattle.vv_spell.proofs.HostContexts.{contexts_rise, none_first, all_last, sum_below, sum_below_within}
use Rattle.vv_spell.proofs.totals.contexts_len.Goals as goal

pub overflow_add-bytes : goal.overflow_add-bytes
overflow_add-bytes c =
    let d = c.args.tables.now.durable in
    let more = sum_below d.contexts c.loop-host.host (contexts_rise d c.lsn-well_formed.ensures.well) in
    let within = sum_below_within d.contexts (c.loop-host.host + 1) in
    omega (arith, more, within, (sections_within d).contexts, c.loop-host.invariant.counted, c.context_len-bytes.ensures, c.requires.fits)

pub loop-host-init : goal.loop-host-init
loop-host-init c =
    let none = ap (λ (cs : List Context). contexts_length cs) (none_first c.args.tables.now.durable c.lsn-well_formed.ensures.well) in
    record { counted = omega (arith, none); from_one = omega arith }

pub loop-host-preserved : goal.loop-host-preserved
loop-host-preserved c =
    let d = c.args.tables.now.durable in
    let more = sum_below d.contexts c.loop-host.host (contexts_rise d c.lsn-well_formed.ensures.well) in
    record { counted = omega (arith, more, c.loop-host.invariant.counted, c.context_len-bytes.ensures); from_one = omega arith }

pub returns : goal.returns
returns c =
    let last : c.loop-host.host ≡ 65 = search rules in
    let cs = c.args.tables.now.durable.contexts in
    c.loop-host.invariant.counted ∙ ap (λ n. contexts_length (contexts_below n cs)) last ∙ ap (λ (xs : List Context). contexts_length xs) (all_last c.args.tables.now.durable c.lsn-well_formed.ensures.well)
