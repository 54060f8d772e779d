use Rattle.std.proofs.Common.{[]}
use Rattle.std.proofs.lemmas.Result.{err_from_is_err_and}
use Rattle.vv_record.specs.Reading.{items}
use Rattle.vv_area.specs.Forms.{container}
use Rattle.vv_record.proofs.Items.{goes_on, fails, is_done}
use Rattle.vv_area.proofs.lists.container_items.Goals as goal

pub returns-in_err-next : goal.returns-in_err-next
returns-in_err-next c =
    let p = err_from_is_err_and c.from_residual.result c.from_residual.ensures.1 in
    rw (p.1, p.2) (fails container c.loop.containers.items c.args.count c.loop.counter c.loop.fields c.in_err-next.field-0.0 (items container c.args.count [] c.args.fields.now) c.loop-test.true (rw c.deref.ensures.value at c.in_err-next.ensures) c.loop.invariant)

pub loop-preserved : goal.loop-preserved
loop-preserved c =
    rw c.in_ok-push.ensures.items (goes_on container c.loop.containers.items c.args.count c.loop.counter c.loop.fields c.container.new.fields c.in_ok-next.next (items container c.args.count [] c.args.fields.now) c.loop-test.true (rw c.deref.ensures.value at c.in_ok-next.ensures) c.loop.invariant)

pub returns : goal.returns
returns c = is_done container c.loop.containers.items c.args.count c.loop.counter c.loop.fields (items container c.args.count [] c.args.fields.now) c.loop-test.false c.loop.invariant
