use Rattle.std.proofs.Common.{◌≡◌, ◌-◌, ◌≤◌, ◌++◌, [], length, replicate, vec_capacity}
use Rattle.vv_map.specs.Pages.{IsStore}
use Rattle.vv_map.proofs.page_store.PageStore.extend.Given as goal

abbrev pub invariant-loop-number : goal.invariant-loop-number
invariant-loop-number g l = record {
  kept : IsStore l.self-inside.pages.items l.self-inside.counts.items l.self-inside.unused.items (vec_capacity l.self-inside.unused);
  pages : l.self-inside.pages.items ≡ l.fn.self.pages ++ replicate (l.number - length l.fn.self.pages) [];
  counts : l.self-inside.counts.items ≡ l.fn.self.counts ++ replicate (l.number - length l.fn.self.pages) 0;
  size : length l.self-inside.pages.items ≡ l.number;
  pages_room : l.all ≤ vec_capacity l.self-inside.pages;
  counts_room : l.all ≤ vec_capacity l.self-inside.counts;
  unused_room : l.all ≤ vec_capacity l.self-inside.unused;
}
