-- The forms of a call's fields, each over the JSON value that stands for the field.
use Rattle.std.specs.Prelude.{ℕ, ◌&&◌, List, length, codes, nat_le, if◌then◌else◌, Option, Some, None, option_map}
use Rattle.std.specs.Str.{bytes_eq}
use Rattle.serde_json.specs.Data.{Data, null}
use Rattle.serde_json.specs.Find.{as_number, as_u64, as_str}
use Rattle.vv_units.specs.Identifiers.{identifier_of}
use Rattle.vv_units.specs.Names.{is_key, is_note}
use Rattle.vv_units.specs.declared.volume.VvolType.{VvolType}
use Rattle.vv_units.specs.declared.volume.VvolType.TheVariants as vvol_type
use Rattle.vv_units.specs.declared.numbers.HostId.{HostId}
use Rattle.vv_units.specs.declared.numbers.EndpointId.{EndpointId}
use Rattle.vv_units.specs.declared.numbers.Secondary.{Secondary}
use Rattle.vv_units.specs.declared.numbers.VolumeId.{VolumeId}
use Rattle.vv_units.specs.declared.numbers.ContainerId.{ContainerId}
use Rattle.vv_units.specs.declared.numbers.TaskId.{TaskId}
use Rattle.vv_calls.specs.Steps.{◌>>=◌}
use Rattle.vv_calls.specs.Hexadecimal.{hex_bytes}

-- a value that is not null
abbrev pub not_null : Data → Option Data
not_null null = None
not_null value = Some value

-- a number from 0 to 2^64 - 1
abbrev pub number_of : Data → Option ℕ
number_of value = as_number value >>= as_u64

-- a number from low to high
abbrev pub number_within : ℕ → ℕ → Data → Option ℕ
number_within low high value = do
  number ← number_of value
  if nat_le low number && nat_le number high then Some number else None

-- a number of 32 bits: a quota, or a place or count of chunks
abbrev pub small_number_of : Data → Option ℕ
small_number_of = number_within 0 4294967295

abbrev pub host_of : Data → Option HostId
host_of value = option_map (λ number. record { 0 = number }) (number_within 1 64 value)

abbrev pub endpoint_of : Data → Option EndpointId
endpoint_of value = option_map (λ number. record { 0 = number }) (number_within 1 65535 value)

-- the secondary identifier of a binding; 0 is the endpoint itself
abbrev pub secondary_of : Data → Option Secondary
secondary_of value = option_map (λ number. record { 0 = number }) (number_within 0 65535 value)

-- the number that an identifier's text names
abbrev pub identified : List ℕ → Option ℕ
identified text = identifier_of text

-- the identifier of a volume or a container
abbrev pub volume_of : Data → Option VolumeId
volume_of value = option_map (λ number. record { 0 = number }) (as_str value >>= identified)

abbrev pub container_of : Data → Option ContainerId
container_of value = option_map (λ number. record { 0 = number }) (as_str value >>= identified)

-- a task is named by a plain number
abbrev pub task_of : Data → Option TaskId
task_of value = option_map (λ number. record { 0 = number }) (number_of value)

-- a text that is a key, or a note
abbrev pub key_in : List ℕ → Option (List ℕ)
key_in text = if is_key text then Some text else None

abbrev pub key_of : Data → Option (List ℕ)
key_of value = as_str value >>= key_in

abbrev pub note_in : List ℕ → Option (List ℕ)
note_in text = if is_note text then Some text else None

abbrev pub note_of : Data → Option (List ℕ)
note_of value = as_str value >>= note_in

-- the name of a kind of vvol
abbrev pub type_named : List ℕ → Option VvolType
type_named name =
    if bytes_eq name (codes "Config") then Some vvol_type.Config
    else if bytes_eq name (codes "Data") then Some vvol_type.Data
    else if bytes_eq name (codes "Swap") then Some vvol_type.Swap
    else if bytes_eq name (codes "Memory") then Some vvol_type.Memory
    else if bytes_eq name (codes "Other") then Some vvol_type.Other
    else None

abbrev pub vvol_type_of : Data → Option VvolType
vvol_type_of value = as_str value >>= type_named

-- a CDB: 2 to 32 hexadecimal digits
abbrev pub cdb_of : Data → Option (List ℕ)
cdb_of value = do
  text ← as_str value
  if nat_le 2 (length text) && nat_le (length text) 32 then hex_bytes text else None
