-- What making an image may fail by, and which area it begins with.
use Rattle.std.specs.Prelude.{◌≡◌, ℕ, List}
use Rattle.vv_units.specs.Causes.{Rose}
use Rattle.vv_units.specs.declared.geometry.Geometry.{Geometry}
use Rattle.vv_units.specs.declared.damage.DiskFault.TheVariants.{Write}
use Rattle.vv_flat.specs.State.{empty_durable}
use Rattle.vv_flat.specs.Chunks.{Entry}
use Rattle.vv_area.specs.Spelling.{area_spelling}
use Rattle.vv_array.specs.declared.fault.ArrayFault.{ArrayFault}
use Rattle.vv_array.specs.declared.fault.ArrayFault.TheVariants.{NotFormatted, Damaged, Disk, NoMemory}

-- the area of an image with the tables of an empty array
abbrev pub empty_area : Geometry → List ℕ
empty_area geometry = area_spelling 2 (empty_durable {X = Entry} geometry)

-- A write of the disk failed, so the count of these rose; or there was no memory, and no write failed. Making an image never
-- looks at what stands there, so it tells nothing of it.
abbrev pub IsMakingFault : ℕ → ℕ → ArrayFault → Type 0
IsMakingFault before now (NotFormatted found) = ⊥
IsMakingFault before now (Damaged damage) = ⊥
IsMakingFault before now (Disk fault) = (fault ≡ Write) × Rose before now
IsMakingFault before now NoMemory = now ≡ before
