use Rattle.std.proofs.Common.{◌≡◌, ℕ, List, Some, sym, arith}
use Rattle.std.specs.Prelude.{slice_get}
use Rattle.vv_reply.specs.Values.{pair}
use Rattle.vv_reply.proofs.Joining.{listed_more, front_count, within_list, item_at, all_listed}
use Rattle.vv_reply.proofs.buffer.ReplyBuffer.pair_items.Goals as goal

pub loop-key-preserved : goal.loop-key-preserved
loop-key-preserved c =
    let pairs = c.args.pairs.now in
    let item : List ℕ × List ℕ = (c.in-Some.key.now, c.in-Some.note.now) in
    let found : slice_get pairs c.loop-key.i ≡ Some item = sym c.in-Some.ensures in
    let inside = within_list pairs c.loop-key.i item found in
    record {
      text = listed_more pair c.args.self.now c.loop-key.self c.comma_behind.new.self c.pair.new.self pairs c.loop-key.i item inside (item_at pairs c.loop-key.i item found)
          (front_count pair pairs c.loop-key.i c.loop-key.invariant.within) c.loop-key.invariant.text c.comma_behind.ensures.text c.pair.ensures.text;
      size = omega (arith, c.loop-key.invariant.size, c.comma_behind.ensures.size, c.pair.ensures.size);
      within = omega (arith, inside);
    }

pub returns-clause-text : goal.returns-clause-text
returns-clause-text c = all_listed pair c.args.self.now c.loop-key.self c.args.pairs.now c.loop-key.i (sym c.in_default.ensures) c.loop-key.invariant.text
