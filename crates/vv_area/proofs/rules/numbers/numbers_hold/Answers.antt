use Rattle.std.proofs.Common.{◌∙◌, sym, refl}
use Rattle.vv_area.specs.Area.{tables_of}
use Rattle.vv_area.proofs.Conjunctions.{conj_5}
use Rattle.vv_area.proofs.RuleParts.{numbers_parts}
use Rattle.vv_area.proofs.rules.numbers.numbers_hold.Goals as goal

pub returns : goal.returns
returns c =
    c.all_hold.ensures
    ∙ conj_5 _ _ _ _ _ c.volumes_are_logged.ensures c.containers_are_logged.ensures c.tasks_are_logged.ensures c.in_ok-differ.ensures refl
    ∙ sym (numbers_parts (tables_of c.args.tables.now))
