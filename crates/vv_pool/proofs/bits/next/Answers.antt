use Rattle.std.proofs.Common.{◌*◌, ◌+◌, ◌/◌, arith, ⊎_elim}
use Rattle.std.proofs.lemmas.Bool.{cases_lt}
use Rattle.vv_pool.proofs.BitLemmas.{none_joined, next_after, bit_of_past}
use Rattle.vv_pool.proofs.bits.next.Goals as goal

pub loop-from-init : goal.loop-from-init
loop-from-init c = record { later = omega arith; none = record { each = λ k low high. absurd (omega arith) } }

pub returns-in-Some-clause-some : goal.returns-in-Some-clause-some
returns-in-Some-clause-some c = next_after c.args.words.now c.args.from c.loop-from.from c.in-Some.at c.loop-from.invariant.later c.loop-from.invariant.none c.in-Some.ensures.some

pub loop-from-preserved : goal.loop-from-preserved
loop-from-preserved c = record {
  later = omega arith;
  none = none_joined c.args.words.now c.args.from c.loop-from.from (64 * (c.loop-from.from / 64) + 64) _ c.loop-from.invariant.none c.in_default.ensures.none (omega arith);
}

pub returns-clause-none : goal.returns-clause-none
returns-clause-none c = λ k low. ⊎_elim
    (λ before. c.loop-from.invariant.none.each k low before)
    (λ past. bit_of_past c.args.words.now k (omega arith))
    (cases_lt k c.loop-from.from)
