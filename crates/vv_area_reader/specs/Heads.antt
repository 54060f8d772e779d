-- Volumes and running clones without the lists of entries that end them: the fields before the count of the first list.
use Rattle.std.specs.Prelude.{ℕ, List, []}
use Rattle.vv_record.specs.Reading.{Form, ◌>>=◌, done, number}
use Rattle.vv_record.specs.Forms.{vvol_type_field, needs}
use Rattle.vv_flat.specs.State.{Volume, RunningClone}
use Rattle.vv_flat.specs.Chunks.{Entry}
use Rattle.vv_area.specs.Forms.{volume_number, kind_field, reverted_field, metadata}

-- a volume behind these, without its entries
unfoldable pub volume_head : ℕ → List (Volume Entry) → Form (Volume Entry)
volume_head spelling before = do
  own ← volume_number before
  container ← number 8
  vtype ← vvol_type_field
  kind ← kind_field
  reverted ← reverted_field spelling
  asked ← needs
  pairs ← metadata spelling
  done (record { number = own; container = container; vtype = vtype; kind = kind; reverted = reverted; needs = asked; metadata = pairs; chunks = [] })

-- a running clone by the number of its task, without its image and its target
unfoldable pub clone_head : ℕ → ℕ → Form (RunningClone Entry)
clone_head spelling own = do
  container ← number 8
  vtype ← vvol_type_field
  asked ← needs
  pairs ← metadata spelling
  done (record { number = own; container = container; vtype = vtype; needs = asked; metadata = pairs; image = []; target = [] })
