-- The values of members: names of states and kinds, and lists.
use Rattle.std.specs.Prelude.{ℕ, List, ◌++◌, map, Bool, true, false, codes, decimal}
use Rattle.vv_units.specs.declared.volume.Need.{Need}
use Rattle.vv_units.specs.declared.volume.VvolType.{VvolType}
use Rattle.vv_units.specs.declared.volume.VvolType.TheVariants as vvol_type
use Rattle.vv_units.specs.declared.volume.VolumeKind.{VolumeKind}
use Rattle.vv_units.specs.declared.volume.VolumeKind.TheVariants.{Plain, SnapshotOf, FastCloneOf, FullCloneOf}
use Rattle.vv_units.specs.declared.volume.Why.{Why}
use Rattle.vv_units.specs.declared.volume.Why.TheVariants.{Unknown, NotOffered, TooLittle}
use Rattle.vv_units.specs.declared.volume.TaskState.{TaskState}
use Rattle.vv_units.specs.declared.volume.TaskState.TheVariants.{Running, Success, Cancelled, Interrupted}
use Rattle.vv_units.specs.declared.damage.Part.{Part}
use Rattle.vv_units.specs.declared.damage.Part.TheVariants.{Gate, Header, Length, Area, Rule, Slot, Record}
use Rattle.vv_cdb.specs.declared.sense.Sense.{Sense}
use Rattle.vv_cdb.specs.Senses.{sense_data}
use Rattle.vv_reply.specs.Objects.{quoted, identifier, list}
use Rattle.vv_reply.specs.Runs.{runs_of, runs_text, hex_texts}

abbrev pub type_text : VvolType → List ℕ
type_text vvol_type.Config = codes "Config"
type_text vvol_type.Data = codes "Data"
type_text vvol_type.Swap = codes "Swap"
type_text vvol_type.Memory = codes "Memory"
type_text vvol_type.Other = codes "Other"

abbrev pub kind_text : VolumeKind → List ℕ
kind_text Plain = codes "Plain"
kind_text (SnapshotOf volume) = codes "Snapshot"
kind_text (FastCloneOf volume) = codes "FastClone"
kind_text (FullCloneOf volume) = codes "FullClone"

-- the volume that a snapshot or a clone was made of
abbrev pub origin : VolumeKind → List ℕ
origin Plain = codes "null"
origin (SnapshotOf volume) = identifier volume.0
origin (FastCloneOf volume) = identifier volume.0
origin (FullCloneOf volume) = identifier volume.0

abbrev pub why_text : Why → List ℕ
why_text Unknown = codes "Unknown"
why_text NotOffered = codes "NotOffered"
why_text TooLittle = codes "TooLittle"

abbrev pub state_text : TaskState → List ℕ
state_text Running = codes "Running"
state_text Success = codes "Success"
state_text Cancelled = codes "Cancelled"
state_text Interrupted = codes "Interrupted"

abbrev pub part_text : Part → List ℕ
part_text Gate = codes "Gate"
part_text Header = codes "Header"
part_text Length = codes "Length"
part_text Area = codes "Area"
part_text Rule = codes "Rule"
part_text Slot = codes "Slot"
part_text Record = codes "Record"

-- a text of the digits 0 and 1
abbrev pub bit_digit : Bool → ℕ
bit_digit true = 49
bit_digit false = 48

abbrev pub bits : List Bool → List ℕ
bits flags = quoted (map bit_digit flags)

-- the runs of bytes
abbrev pub runs : List ℕ → List ℕ
runs bytes = codes "[" ++ runs_text (runs_of bytes) ++ codes "]"

abbrev pub sense_text : Sense → List ℕ
sense_text sense = quoted (hex_texts (sense_data sense))

-- metadata as pairs of key and value, and a profile as pairs of name and number

abbrev pub pair : List ℕ × List ℕ → List ℕ
pair p = codes "[\"" ++ p.0 ++ codes "\",\"" ++ p.1 ++ codes "\"]"

abbrev pub pairs : List (List ℕ × List ℕ) → List ℕ
pairs metadata = list (map pair metadata)

abbrev pub need : Need → List ℕ
need n = codes "[\"" ++ n.name ++ codes "\"," ++ decimal n.value ++ codes "]"

abbrev pub needs : List Need → List ℕ
needs profile = list (map need profile)
