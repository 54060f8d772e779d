use Rattle.std.proofs.Common.{refl}
use Rattle.vv_flat.specs.State.{empty_durable}
use Rattle.vv_flat.specs.Chunks.{Entry}
use Rattle.vv_laws.proofs.WellFormed.{empty_well}
use Rattle.vv_area.specs.Spelling.{area_spelling}
use Rattle.vv_journal.specs.Log.{fresh_log}
use Rattle.vv_image.proofs.Records.{new_log}
use Rattle.vv_image.proofs.images.a_fresh_log_stands_for_the_empty_tables.Goals as goal

pub returns : goal.returns
returns c geometry =
    new_log (fresh_log geometry (area_spelling 2 (empty_durable {X = Entry} geometry))) (empty_durable geometry) (empty_well geometry) refl refl refl refl
