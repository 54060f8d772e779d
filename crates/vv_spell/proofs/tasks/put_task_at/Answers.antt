use Rattle.std.proofs.Common.{◌∙◌, sym, ap, refl}
use Rattle.std.specs.Prelude.{Option}
use Rattle.vv_flat.specs.Lists.{if_found}
use Rattle.vv_flat.specs.State.{Task}
use Rattle.vv_area.specs.Lengths.{task_length}
use Rattle.vv_area.specs.Spelling.{task_spelling}
use Rattle.vv_area.proofs.AreaLengths.{length-task}
use Rattle.vv_spell.proofs.tasks.put_task_at.Goals as goal

pub returns-then-pass : goal.returns-then-pass
returns-then-pass c t at =
    c.if-pass.ensures.passed refl (task_spelling t) (length-task t ∙ sym (c.task_len_at.ensures ∙ ap (λ (o : Option Task). if_found o task_length 0) at))
