use Rattle.std.proofs.Common.{◌≡◌, vec_len}
use Rattle.vv_map.proofs.page_room.blanks.Given as goal

abbrev pub invariant-loop-made : goal.invariant-loop-made
invariant-loop-made g l = vec_len l.blanks ≡ l._made
