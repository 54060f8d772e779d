use Rattle.std.proofs.Common.{◌+◌, drop, ◌∙◌, sym, arith}
use Rattle.serde_json.specs.View.{items_view}
use Rattle.vv_calls.proofs.Pairs.{items_at}
use Rattle.vv_calls.proofs.payload.joined.Goals as goal

pub loop-pair-preserved : goal.loop-pair-preserved
loop-pair-preserved c =
    let pairs = c.args.pairs.now in
    let here = items_at pairs c.loop-pair.pair-index c.pair-item.result (omega arith) c.pair-item.is in
    let taken = c.in_ok-append_pair.ensures.bytes (items_view (drop (c.loop-pair.pair-index + 1) pairs)) in
    record {
      limited = c.in_ok-append_pair.ensures.limited;
      rest = sym (rw c.if-not-branch.false at taken) ∙ (rw here at c.loop-pair.invariant.rest);
    }
