use Rattle.std.proofs.Common.{◌≡◌, ◌<◌, ◌≤◌, take, length, vec_capacity, vec_len}
use Rattle.std.specs.List.{flat_map, All}
use Rattle.vv_map.specs.Pages.{all_lowered, ending_entries}
use Rattle.vv_map.proofs.page_store.PageStore.release.Given as goal

abbrev pub invariant-loop-number : goal.invariant-loop-number
invariant-loop-number g l = record {
  lowered : l.self ≡ all_lowered l.fn.self (take l.number-index l.fn.map.numbers);
  ended : flat_map (λ page. page) l.ended.items ≡ ending_entries l.fn.self (take l.number-index l.fn.map.numbers);
  some : All (λ page. 0 < length page) l.ended.items;
  fits : vec_len l.ended ≤ l.number-index;
  memory : vec_capacity l.ended ≡ vec_capacity l.initial.ended;
}
