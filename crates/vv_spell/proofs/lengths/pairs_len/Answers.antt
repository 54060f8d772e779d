use Rattle.std.proofs.Common.{◌+◌, ℕ, List, length, arith}
use Rattle.vv_spell.proofs.Sums.{sum_more, sum_within}
use Rattle.vv_spell.proofs.lengths.pairs_len.Goals as goal

abbrev pair_length : List ℕ × List ℕ → ℕ
pair_length p = 2 + length p.0 + length p.1

pub overflow_add-bytes : goal.overflow_add-bytes
overflow_add-bytes c =
    let within = sum_within pair_length c.args.pairs.now c.loop-i.i in
    omega (arith, within, c.loop-i.invariant, c.pair_len_at-bytes.ensures, c.requires)

pub loop-i-preserved : goal.loop-i-preserved
loop-i-preserved c =
    let more = sum_more pair_length c.args.pairs.now c.loop-i.i in
    omega (arith, more, c.loop-i.invariant, c.pair_len_at-bytes.ensures)
