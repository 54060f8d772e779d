use Rattle.std.proofs.Common.{◌<◌, ◌+◌, ◌/◌, ◌^◌, ◌%◌, slice_index, arith}
use Rattle.std.specs.Int.{w64, trailing_zeros}
use Rattle.std.proofs.lemmas.Nat.{shr_le}
use Rattle.vv_pool.specs.Bits.{IsNextBit}
use Rattle.vv_pool.proofs.BitLemmas.{none_in_word, next_found}
use Rattle.vv_pool.proofs.bits.next_in_word.Goals as goal
use Rattle.vv_pool.proofs.bits.next_in_word.Goals.{Else-rest-eq0}

pub returns-then-rest-eq0-clause-none : goal.returns-then-rest-eq0-clause-none
returns-then-rest-eq0-clause-none c = none_in_word c.args.words.now c.args.from c.if-rest-eq0.true

found : (c : Else-rest-eq0) → let rest = slice_index c.args.words.now (c.args.from / 64) / 2 ^ (c.args.from % 64) in (c.args.from % 64 + trailing_zeros w64 rest < 64) × IsNextBit c.args.words.now c.args.from (c.args.from + trailing_zeros w64 rest)
found c =
    let word = slice_index c.args.words.now (c.args.from / 64) in
    let fits : word < 2 ^ 64 = omega (arith, c.type_inv.words (c.args.from / 64)) in
    next_found c.args.words.now c.args.from fits (omega arith) (omega (arith, shr_le word (c.args.from % 64)))

pub overflow_add-result : goal.overflow_add-result
overflow_add-result c = let within = (found c).0 in omega arith

pub returns-clause-some : goal.returns-clause-some
returns-clause-some c = (found c).1
