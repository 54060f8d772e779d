use Rattle.std.proofs.Common.{◌≡◌}
use Rattle.vv_journal.proofs.tests.is_filled.Given as goal

abbrev pub invariant-loop : goal.invariant-loop
invariant-loop g l = (g.D.Disk.size l.disk ≡ g.D.Disk.size l.fn.disk) × (l.journal.geometry ≡ l.fn.journal.geometry)
