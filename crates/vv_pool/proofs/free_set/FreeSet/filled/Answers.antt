use Rattle.std.proofs.Common.{◌≡◌, length, arith, rules, subst}
use Rattle.vv_pool.specs.Bits.{IsFilled}
use Rattle.vv_pool.proofs.BitLemmas.{summary-filled}
use Rattle.vv_pool.proofs.free_set.FreeSet.filled.Goals as goal

pub invariant_of-result : goal.invariant_of-result
invariant_of-result c =
    let words = c.in_ok-words.words.items in
    let groups = c.in_ok-groups.groups.items in
    let top = c.in_ok-top.top.items in
    let low : IsFilled words c.args.n = c.in_ok-words.ensures in
    let words_len : c.len.result ≡ length words = search rules in
    let groups_len : c.len-2.result ≡ length groups = search rules in
    let mid : IsFilled groups (length words) = subst (λ n. IsFilled groups n) words_len c.in_ok-groups.ensures in
    let high : IsFilled top (length groups) = subst (λ n. IsFilled top n) groups_len c.in_ok-top.ensures in
    record {
      of_words = summary-filled groups words c.args.n low mid;
      of_groups = summary-filled top groups (length words) mid high;
      few = omega (arith, low.few);
      few_groups = omega (arith, low.few, mid.few);
      few_top = omega (arith, low.few, mid.few, high.few);
    }
