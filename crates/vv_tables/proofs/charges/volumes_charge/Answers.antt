use Rattle.std.proofs.Common.{◌+◌, ◌≤◌, length, refl, ap, ◌∙◌, arith}
use Rattle.std.proofs.lemmas.List.{take_all}
use Rattle.vv_tables.specs.Charges.{volumes_charge}
use Rattle.vv_tables.proofs.Walks.{located, none_located}
use Rattle.vv_tables.proofs.ChargeWalks.{volume_number, volume_next}
use Rattle.vv_tables.proofs.charges.volumes_charge.Goals as goal

pub loop-i-init : goal.loop-i-init
loop-i-init c = record { small = omega arith; counted = refl }

pub overflow_add-chunks : goal.overflow_add-chunks
overflow_add-chunks c = omega (arith, c.loop-i.invariant.small, c.loop-i-test.true, c.from-chunks.ensures, c.volume_charge.type_inv)

pub returns-in-None-clause-exact : goal.returns-in-None-clause-exact
returns-in-None-clause-exact c =
    let vs = c.args.shelf.now.shelf.volumes in
    c.loop-i.invariant.counted ∙ ap (λ some. volumes_charge some c.args.container.0) (take_all c.loop-i.i vs (none_located volume_number vs c.loop-i.i c.in-None.ensures.number))

pub loop-i-preserved : goal.loop-i-preserved
loop-i-preserved c =
    let vs = c.args.shelf.now.shelf.volumes in
    let l = located volume_number vs c.loop-i.i c.in-Some.id.0 c.in-Some.ensures.rising c.in-Some.ensures.number in
    record {
      small = omega (arith, c.loop-i.invariant.small, c.from-chunks.ensures, c.volume_charge.type_inv);
      counted = ap (λ m. c.loop-i.chunks + m) c.from-chunks.ensures
          ∙ volume_next c.args.container.0 vs c.loop-i.i c.in-Some.id.0 c.loop-i.chunks c.volume_charge.result l c.loop-i.invariant.counted c.volume_charge.ensures;
    }

pub returns-clause-exact : goal.returns-clause-exact
returns-clause-exact c =
    let vs = c.args.shelf.now.shelf.volumes in
    let whole : length vs ≤ c.loop-i.i = omega (arith, c.requires, c.loop-i-test.false) in
    c.loop-i.invariant.counted ∙ ap (λ some. volumes_charge some c.args.container.0) (take_all c.loop-i.i vs whole)
