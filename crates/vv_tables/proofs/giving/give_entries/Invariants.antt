use Rattle.std.proofs.Common.{◌≡◌, take}
use Rattle.vv_vols.specs.Rows.{seen_entries}
use Rattle.vv_tables.specs.Giving.{with_given}
use Rattle.vv_tables.proofs.giving.give_entries.Given as goal

abbrev pub invariant-loop-i : goal.invariant-loop-i
invariant-loop-i g l = record {
  shelf : l.shelf.shelf ≡ with_given l.fn.shelf.shelf l.fn.held.number (seen_entries (take l.i l.fn.entries));
  rooms : l.shelf.rooms ≡ l.fn.shelf.rooms;
  held : l.held ≡ l.fn.held;
  taken : l.taken ≡ l.fn.taken;
}
