use Rattle.std.proofs.Common.{◌≡◌, take, false}
use Rattle.std.specs.List.{list_any}
use Rattle.vv_lun.specs.Commands.{is_outside}
use Rattle.vv_lun.proofs.commands.is_any_outside.Given as goal

abbrev pub invariant-loop-i : goal.invariant-loop-i
invariant-loop-i l = list_any (is_outside l.blocks) (take l.i l.unmaps) ≡ false
