use Rattle.std.proofs.Common.{◌∙◌, sym, ap, refl}
use Rattle.std.specs.Prelude.{Option}
use Rattle.vv_flat.specs.Lists.{if_found}
use Rattle.vv_flat.specs.State.{Volume}
use Rattle.vv_flat.specs.Chunks.{Entry}
use Rattle.vv_area.specs.Lengths.{volume_length}
use Rattle.vv_area.specs.Spelling.{volume_spelling}
use Rattle.vv_area.proofs.AreaLengths.{length-volume}
use Rattle.vv_spell.proofs.volumes.put_volume_at.Goals as goal

pub returns-then-pass : goal.returns-then-pass
returns-then-pass c v at =
    c.if-pass.ensures.passed refl (volume_spelling 2 v) (length-volume 2 v ∙ sym (c.volume_len_at.ensures ∙ ap (λ (o : Option (Volume Entry)). if_found o (volume_length 2) 0) at))
