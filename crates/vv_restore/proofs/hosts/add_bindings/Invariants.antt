use Rattle.std.proofs.Common.{◌≡◌, take}
use Rattle.vv_area.specs.Area.{tables_of}
use Rattle.vv_restore.specs.Restoring.{contexts_of}
use Rattle.vv_restore.proofs.hosts.add_bindings.Given as goal

abbrev pub invariant-loop-row : goal.invariant-loop-row
invariant-loop-row l = l.restored ≡ record (contexts_of (tables_of l.raw)) { bindings = take l.row-index l.raw.bindings }
