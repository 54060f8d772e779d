use Rattle.std.proofs.Common.{◌≡◌, ◌∙◌, ◌+◌, ◌++◌, ◌<◌, suc, [], ◌∷◌, length, ap, arith}
use Rattle.std.proofs.lemmas.List.{take_more_set, length-set}
use Rattle.vv_cdb.specs.Numbers.{number_at}
use Rattle.vv_cdb.specs.UnmapLists.{descriptors}
use Rattle.vv_cdb.proofs.Descriptors.{one_descriptor_more}
use Rattle.vv_cdb.proofs.unmaps.first_ranges.Goals as goal

pub loop-i-preserved : goal.loop-i-preserved
loop-i-preserved c =
    let i = c.loop-i.i in
    let few = c.requires.few in
    let size = c.loop-i.invariant.size in
    let within : i < length c.loop-i.ranges = omega (arith, c.loop-i-test.true, few, size) in
    let next : suc i ≡ i + 1 = omega arith in
    record {
      read = take_more_set c.loop-i.ranges i c.range_of.result within
          ∙ ap (λ xs. xs ++ c.range_of.result ∷ []) c.loop-i.invariant.read
          ∙ one_descriptor_more i c.args.bytes.now c.range_of.result.0 c.range_of.result.1 (c.range_of.ensures.address ∙ ap (λ rest. number_at 0 8 rest) c.split_at.ensures.back) (c.range_of.ensures.number ∙ ap (λ rest. number_at 8 4 rest) c.split_at.ensures.back)
          ∙ ap (λ n. descriptors n c.args.bytes.now) next;
      size = length-set c.loop-i.ranges i c.range_of.result ∙ c.loop-i.invariant.size;
    }
