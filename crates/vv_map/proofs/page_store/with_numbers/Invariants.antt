use Rattle.std.proofs.Common.{◌≡◌, take, vec_capacity}
use Rattle.vv_map.proofs.page_store.with_numbers.Given as goal

abbrev pub invariant-loop-number : goal.invariant-loop-number
invariant-loop-number l = record {
  numbers : l.memory.items ≡ take l.number-index l.numbers;
  memory : vec_capacity l.memory ≡ vec_capacity l.fn.memory;
}
