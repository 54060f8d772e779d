use Rattle.std.proofs.Common.{◌≡◌, ◌*◌, vec_len}
use Rattle.vv_reply.proofs.tests.the_longest_line_fits.Given as goal

abbrev pub invariant-loop-pair : goal.invariant-loop-pair
invariant-loop-pair g l = vec_len l.bytes ≡ 2 * l._pair
