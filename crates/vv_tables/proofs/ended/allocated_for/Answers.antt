use Rattle.std.proofs.Common.{◌+◌, ◌≤◌, length, refl, ap, ◌∙◌, arith}
use Rattle.std.proofs.lemmas.List.{take_all}
use Rattle.vv_tables.specs.Counts.{allocated_for}
use Rattle.vv_tables.proofs.Walks.{located, none_located}
use Rattle.vv_tables.proofs.VolumeCharges.{volume_number, volume_stands, volume_next}
use Rattle.vv_tables.proofs.ended.allocated_for.Goals as goal

pub loop-i-init : goal.loop-i-init
loop-i-init c = record { small = omega arith; counted = refl }

pub charged_in-requires : goal.charged_in-requires
charged_in-requires c =
    let vs = c.args.shelf.now.shelf.volumes in
    volume_stands vs c.loop-i.i c.in-Some.id.0 (located volume_number vs c.loop-i.i c.in-Some.id.0 c.in-Some.ensures.rising c.in-Some.ensures.number)

pub overflow_add-chunks : goal.overflow_add-chunks
overflow_add-chunks c = omega (arith, c.loop-i.invariant.small, c.loop-i-test.true, c.from-chunks.ensures, c.charged_in.type_inv)

pub returns-in-None : goal.returns-in-None
returns-in-None c =
    let vs = c.args.shelf.now.shelf.volumes in
    c.loop-i.invariant.counted ∙ ap (λ some. allocated_for some c.args.container.0) (take_all c.loop-i.i vs (none_located volume_number vs c.loop-i.i c.in-None.ensures.number))

pub loop-i-preserved : goal.loop-i-preserved
loop-i-preserved c =
    let vs = c.args.shelf.now.shelf.volumes in
    let l = located volume_number vs c.loop-i.i c.in-Some.id.0 c.in-Some.ensures.rising c.in-Some.ensures.number in
    record {
      small = omega (arith, c.loop-i.invariant.small, c.from-chunks.ensures, c.charged_in.type_inv);
      counted = ap (λ m. c.loop-i.chunks + m) c.from-chunks.ensures
          ∙ volume_next c.args.container.0 vs c.loop-i.i c.in-Some.id.0 c.loop-i.chunks c.charged_in.result l c.loop-i.invariant.counted c.charged_in.ensures;
    }

pub returns : goal.returns
returns c =
    let vs = c.args.shelf.now.shelf.volumes in
    let whole : length vs ≤ c.loop-i.i = omega (arith, c.requires, c.loop-i-test.false) in
    c.loop-i.invariant.counted ∙ ap (λ some. allocated_for some c.args.container.0) (take_all c.loop-i.i vs whole)
