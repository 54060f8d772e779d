use Rattle.std.proofs.Common.{◌∙◌, sym, ap, refl}
use Rattle.std.specs.Prelude.{Option}
use Rattle.vv_flat.specs.Lists.{if_found}
use Rattle.vv_flat.specs.State.{Container}
use Rattle.vv_area.specs.Lengths.{container_length}
use Rattle.vv_area.specs.Spelling.{container_spelling}
use Rattle.vv_area.proofs.AreaLengths.{length-container}
use Rattle.vv_spell.proofs.containers.put_container_at.Goals as goal

pub returns-then-pass : goal.returns-then-pass
returns-then-pass c k at =
    c.if-pass.ensures.passed refl (container_spelling k) (length-container k ∙ sym (c.container_len_at.ensures ∙ ap (λ (o : Option Container). if_found o container_length 0) at))
