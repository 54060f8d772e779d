use Rattle.std.proofs.Common.{◌≡◌, ◌+◌, take, vec_capacity}
use Rattle.vv_map.specs.Pages.{all_raised}
use Rattle.vv_map.proofs.page_store.PageStore.share.Given as goal

abbrev pub invariant-loop-number : goal.invariant-loop-number
invariant-loop-number g l = record {
  raised : l.self ≡ all_raised l.fn.self (take l.number-index l.fn.map.numbers);
  numbers : l.numbers.items ≡ take l.number-index l.fn.map.numbers;
  steps : l.steps ≡ l.fn.steps + l.number-index;
  memory : vec_capacity l.numbers ≡ vec_capacity l.initial.numbers;
}
