-- The parts of an array as it is seen.
use Rattle.vv_array.specs.Seen.{ArrayView, IsUp, IsDown}
use Rattle.vv_array.specs.declared.array.Standing.{Standing}
use Rattle.vv_array.specs.declared.array.Standing.TheVariants as standing

abbrev pub seen_standing : Standing → ArrayView
seen_standing (standing.Up journal core) = IsUp journal core
seen_standing (standing.Down geometry) = IsDown geometry
