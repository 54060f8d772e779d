use Rattle.std.proofs.Common.{◌≡◌, ◌+◌, vec_len, vec_capacity}
use Rattle.vv_map.specs.Pages.{Appends}
use Rattle.vv_map.proofs.page_store.PageStore.append_pages.Given as goal

abbrev pub invariant-loop-i : goal.invariant-loop-i
invariant-loop-i g l = record {
  added : Appends l.fn.self l.self l.fn.numbers.items l.numbers.items l.fn.n l.fn.entry;
  place : vec_len l.numbers ≡ l.i;
  memory : vec_capacity l.numbers ≡ vec_capacity l.fn.numbers;
  room : l.room.pages + l.i ≡ l.fn.room.pages + vec_len l.fn.numbers;
}
