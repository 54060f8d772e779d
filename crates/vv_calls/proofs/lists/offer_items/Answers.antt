use Rattle.std.proofs.Common.{◌≡◌, ◌+◌, ◌++◌, [], ◌∷◌, drop, Some, None, sym, ap, arith}
use Rattle.std.proofs.lemmas.List.{drop_all}
use Rattle.serde_json.specs.View.{view, items_view}
use Rattle.vv_calls.specs.Lists.{each_behind, offer_behind}
use Rattle.vv_calls.proofs.Pairs.{items_at}
use Rattle.vv_calls.proofs.Behind.{behind_goes_on, behind_fails, behind_done}
use Rattle.vv_calls.proofs.Differ.{offers_more}
use Rattle.vv_calls.proofs.lists.offer_items.Goals as goal

pub returns-in_default-clause-read : goal.returns-in_default-clause-read
returns-in_default-clause-read c =
    let values = c.args.values.now in
    let here = items_at values c.loop-value.value-index c.value-item.result (omega arith) c.value-item.is in
    let none : None ≡ offer_behind c.loop-value.offers.items (view c.value-item.result) = rw (c.as_slice.ensures.value, c.in_default.is) at c.in_ok-offer.ensures in
    behind_fails offer_behind c.loop-value.offers.items (view c.value-item.result) (items_view (drop (c.loop-value.value-index + 1) values)) (each_behind offer_behind [] (items_view values))
    (sym none) (rw here at c.loop-value.invariant.rest)

pub loop-value-preserved : goal.loop-value-preserved
loop-value-preserved c =
    let values = c.args.values.now in
    let before = c.loop-value.offers.items in
    let next = c.in-Some.offer in
    let here = items_at values c.loop-value.value-index c.value-item.result (omega arith) c.value-item.is in
    let some : Some next ≡ offer_behind before (view c.value-item.result) = rw (c.as_slice.ensures.value, c.in-Some.is) at c.in_ok-offer.ensures in
    let pushed : c.push.new.self.items ≡ before ++ next ∷ [] = grind arith in
    record {
      rest = rw pushed (behind_goes_on offer_behind before (view c.value-item.result) (items_view (drop (c.loop-value.value-index + 1) values)) next (each_behind offer_behind [] (items_view values))
          (sym some) (rw here at c.loop-value.invariant.rest));
      formed = rw pushed (offers_more before (view c.value-item.result) next c.loop-value.invariant.formed (sym some));
    }

pub returns-clause-read : goal.returns-clause-read
returns-clause-read c =
    let values = c.args.values.now in
    behind_done offer_behind c.loop-value.offers.items (items_view (drop c.loop-value.value-index values)) (each_behind offer_behind [] (items_view values))
    (ap items_view (drop_all c.loop-value.value-index values (omega arith))) c.loop-value.invariant.rest
