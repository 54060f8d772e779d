use Rattle.std.proofs.Common.{◌≡◌, ◌+◌, ◌++◌, [], ◌∷◌, drop, Some, None, sym, ap, arith}
use Rattle.std.proofs.lemmas.List.{drop_all}
use Rattle.serde_json.specs.View.{view, items_view}
use Rattle.vv_calls.specs.Lists.{each_behind, need_behind}
use Rattle.vv_calls.proofs.Pairs.{items_at}
use Rattle.vv_calls.proofs.Behind.{behind_goes_on, behind_fails, behind_done}
use Rattle.vv_calls.proofs.Differ.{needs_more}
use Rattle.vv_calls.proofs.lists.need_items.Goals as goal

pub returns-in_default-clause-read : goal.returns-in_default-clause-read
returns-in_default-clause-read c =
    let values = c.args.values.now in
    let here = items_at values c.loop-value.value-index c.value-item.result (omega arith) c.value-item.is in
    let none : None ≡ need_behind c.loop-value.needs.items (view c.value-item.result) = rw (c.as_slice.ensures.value, c.in_default.is) at c.in_ok-need.ensures in
    behind_fails need_behind c.loop-value.needs.items (view c.value-item.result) (items_view (drop (c.loop-value.value-index + 1) values)) (each_behind need_behind [] (items_view values))
    (sym none) (rw here at c.loop-value.invariant.rest)

pub loop-value-preserved : goal.loop-value-preserved
loop-value-preserved c =
    let values = c.args.values.now in
    let before = c.loop-value.needs.items in
    let next = c.in-Some.need in
    let here = items_at values c.loop-value.value-index c.value-item.result (omega arith) c.value-item.is in
    let some : Some next ≡ need_behind before (view c.value-item.result) = rw (c.as_slice.ensures.value, c.in-Some.is) at c.in_ok-need.ensures in
    let pushed : c.push.new.self.items ≡ before ++ next ∷ [] = grind arith in
    record {
      rest = rw pushed (behind_goes_on need_behind before (view c.value-item.result) (items_view (drop (c.loop-value.value-index + 1) values)) next (each_behind need_behind [] (items_view values))
          (sym some) (rw here at c.loop-value.invariant.rest));
      formed = rw pushed (needs_more before (view c.value-item.result) next c.loop-value.invariant.formed (sym some));
    }

pub returns-clause-read : goal.returns-clause-read
returns-clause-read c =
    let values = c.args.values.now in
    behind_done need_behind c.loop-value.needs.items (items_view (drop c.loop-value.value-index values)) (each_behind need_behind [] (items_view values))
    (ap items_view (drop_all c.loop-value.value-index values (omega arith))) c.loop-value.invariant.rest
