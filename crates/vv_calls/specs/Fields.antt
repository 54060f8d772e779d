-- The fields of a line. A field that must stand and doesn't is missing, and one that isn't of its form is bad. A field
-- that may be left out may be null, too.
use Rattle.std.specs.Prelude.{ℕ, List, Option, Some, None, Result, Ok, Err}
use Rattle.std.specs.Option.{ok_or}
use Rattle.serde_json.specs.Data.{Data}
use Rattle.serde_json.specs.Find.{get, as_str}
use Rattle.vv_units.specs.Names.{field_text}
use Rattle.vv_units.specs.declared.field.Field.{Field}
use Rattle.vv_units.specs.declared.field.Field.TheVariants as field
use Rattle.vv_units.specs.declared.volume.VvolType.{VvolType}
use Rattle.vv_units.specs.declared.volume.Offer.{Offer}
use Rattle.vv_units.specs.declared.volume.Need.{Need}
use Rattle.vv_units.specs.declared.numbers.HostId.{HostId}
use Rattle.vv_units.specs.declared.numbers.EndpointId.{EndpointId}
use Rattle.vv_units.specs.declared.numbers.Secondary.{Secondary}
use Rattle.vv_units.specs.declared.numbers.VolumeId.{VolumeId}
use Rattle.vv_units.specs.declared.numbers.ContainerId.{ContainerId}
use Rattle.vv_units.specs.declared.numbers.TaskId.{TaskId}
use Rattle.vv_calls.specs.declared.call.LineFault.{LineFault}
use Rattle.vv_calls.specs.declared.call.LineFault.TheVariants.{MissingField, BadField}
use Rattle.vv_calls.specs.declared.call.ScsiCall.{ScsiCall}
use Rattle.vv_calls.specs.Steps.{◌>>=◌, ◌<*>◌}
use Rattle.vv_calls.specs.Forms.{not_null, number_of, small_number_of, host_of, endpoint_of, secondary_of, volume_of, container_of, task_of, key_of, note_of, vvol_type_of, cdb_of}
use Rattle.vv_calls.specs.Lists.{offers_of, needs_of, endpoints_of}
use Rattle.vv_calls.specs.Payload.{optional_payload}

-- the value of a field that must stand
abbrev pub present : Field → Data → Result Data LineFault
present name line = ok_or (get (field_text name) line) (MissingField name)

-- the value of a field, if it stands and isn't null
abbrev pub optional : Field → Data → Option Data
optional name line = get (field_text name) line >>= not_null

-- what was read of a field's value by its form
abbrev pub read_as : {T : Type 0} → Field → Option T → Result T LineFault
read_as name read = ok_or read (BadField name)

abbrev pub in_form : {T : Type 0} → Field → (Data → Option T) → Result Data LineFault → Result T LineFault
in_form name form (Ok value) = read_as name (form value)
in_form name form (Err e) = Err e

abbrev pub if_given : {T : Type 0} → Field → (Data → Option T) → Option Data → Result (Option T) LineFault
if_given name form None = Ok None
if_given name form (Some value) = Ok Some <*> read_as name (form value)

abbrev pub required : {T : Type 0} → Field → (Data → Option T) → Data → Result T LineFault
required name form line = in_form name form (present name line)

abbrev pub given : {T : Type 0} → Field → (Data → Option T) → Data → Result (Option T) LineFault
given name form line = if_given name form (optional name line)

-- One word for each form.

abbrev pub host : Data → Result HostId LineFault
host line = required field.Host host_of line

abbrev pub endpoint : Data → Result EndpointId LineFault
endpoint line = required field.Endpoint endpoint_of line

abbrev pub secondary : Data → Result Secondary LineFault
secondary line = required field.Secondary secondary_of line

abbrev pub endpoints : Data → Result (List EndpointId) LineFault
endpoints line = required field.Endpoints endpoints_of line

abbrev pub volume : Field → Data → Result VolumeId LineFault
volume name line = required name volume_of line

abbrev pub container : Data → Result ContainerId LineFault
container line = required field.Container container_of line

abbrev pub optional_container : Data → Result (Option ContainerId) LineFault
optional_container line = given field.Container container_of line

abbrev pub task : Data → Result TaskId LineFault
task line = required field.Task task_of line

abbrev pub size_in_mb : Data → Result ℕ LineFault
size_in_mb line = required field.SizeInMb number_of line

abbrev pub quota : Data → Result ℕ LineFault
quota line = required field.Quota small_number_of line

abbrev pub optional_number : Field → Data → Result (Option ℕ) LineFault
optional_number name line = given name small_number_of line

abbrev pub capabilities : Data → Result (List Offer) LineFault
capabilities line = required field.Capabilities offers_of line

abbrev pub optional_profile : Data → Result (Option (List Need)) LineFault
optional_profile line = given field.Profile needs_of line

abbrev pub key : Data → Result (List ℕ) LineFault
key line = required field.Key key_of line

abbrev pub optional_value : Data → Result (Option (List ℕ)) LineFault
optional_value line = given field.Value note_of line

abbrev pub vvol_type : Data → Result VvolType LineFault
vvol_type line = required field.VvolType vvol_type_of line

abbrev pub cdb : Data → Result (List ℕ) LineFault
cdb line = required field.Cdb cdb_of line

-- the bytes that a line carries; none where it has no such field
abbrev pub payload : Data → Result (List ℕ) LineFault
payload line = read_as field.Data (optional_payload (optional field.Data line))

-- a command for the logical unit at an address
abbrev pub commanding : HostId → EndpointId → Secondary → List ℕ → List ℕ → ScsiCall
commanding host endpoint secondary cdb payload =
    record { host = host; endpoint = endpoint; secondary = secondary; cdb = cdb; payload = payload }

abbrev pub command : Data → Result ScsiCall LineFault
command line = Ok commanding <*> host line <*> endpoint line <*> secondary line <*> cdb line <*> payload line

-- the name of the call
abbrev pub call_name : Data → Result (List ℕ) LineFault
call_name line = required field.Call as_str line
