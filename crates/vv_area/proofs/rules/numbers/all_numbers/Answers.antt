use Rattle.std.proofs.Common.{◌∙◌}
use Rattle.vv_area.proofs.Conjunctions.{three_joined}
use Rattle.vv_area.proofs.rules.numbers.all_numbers.Goals as goal

pub returns : goal.returns
returns c =
    three_joined c.in_ok-numbers.numbers.items c.deref.result.now c.deref-2.result.now c.extend_from_slice.new.self.items c.extend_from_slice-2.new.self.items
    _ _ _ c.in_ok-extend_from_slice.ensures.items c.in_ok-extend_from_slice-2.ensures.items
    c.in_ok-numbers.ensures (c.deref.ensures.value ∙ c.in_ok-containers.ensures) (c.deref-2.ensures.value ∙ c.in_ok-clones.ensures)
