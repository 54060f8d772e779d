-- What the metadata of a volume become by a change.
use Rattle.std.specs.Prelude.{ℕ, ◌≡◌, IsTrue, List, [], Option}
use Rattle.vv_units.specs.Pairs.{after_set}
use Rattle.vv_flat.specs.Chunks.{shape_of_tables}
use Rattle.vv_flat.specs.Changes.{SetMetadata, metadata_of}
use Rattle.vv_flat.specs.Replay.{fits}
use Rattle.vv_flat.specs.Fields.{change_has_forms}
use Rattle.vv_tables.specs.Seen.{TablesView}

-- Pairs are those that a volume has after a note is set at a key, or removed there, by a change that fits.
pub record ArePairsAfter (t : TablesView) (volume : ℕ) (pairs : List (List ℕ × List ℕ)) (key : List ℕ) (note : Option (List ℕ)) : Type 0 where
  pub fits : IsTrue (fits t.durable (SetMetadata volume key note) [])
  pub forms : IsTrue (change_has_forms (SetMetadata volume key note))
  pub after : pairs ≡ after_set (metadata_of (shape_of_tables t.durable) volume) key note
