-- The calls, over the JSON value of a line: a row for each with its fields, in the order in which they are looked at.
-- Other fields are ignored. The names are those of VASA 2.0 and this project's own.
use Rattle.std.specs.Prelude.{ℕ, List, codes, if◌then◌else◌, Result, Ok, Err}
use Rattle.std.specs.Str.{bytes_eq}
use Rattle.serde_json.specs.Data.{Data}
use Rattle.vv_units.specs.declared.field.Field.TheVariants as field
use Rattle.vv_calls.specs.declared.call.Call.{Call}
use Rattle.vv_calls.specs.declared.call.Call.TheVariants.{CreateStorageContainer, CreateVirtualVolume, DeleteVirtualVolume, ResizeVirtualVolume, SetMetadata, SnapshotVirtualVolume, FastCloneVirtualVolume, RevertVirtualVolume, CloneVirtualVolume, CopyDiffsToVirtualVolume, Turn, GetTaskUpdate, CancelTask, SetPEContext, BindVirtualVolume, UnbindVirtualVolume, UnbindAllVirtualVolumesFromHost, Scsi, Submit, Serve, AllocatedBitmapVirtualVolume, UnsharedBitmapVirtualVolume, UnsharedChunksVirtualVolume, QueryPool, QueryStorageContainer, QueryVirtualVolume, Restart}
use Rattle.vv_calls.specs.declared.call.LineFault.{LineFault}
use Rattle.vv_calls.specs.declared.call.LineFault.TheVariants.{UnknownCall}
use Rattle.vv_calls.specs.Steps.{of_one, of_two, of_three, of_four}
use Rattle.vv_calls.specs.Fields.{host, endpoint, secondary, endpoints, volume, container, optional_container, task, size_in_mb, quota, optional_number, capabilities, optional_profile, key, optional_value, vvol_type, command, call_name}

-- Volumes and containers.

abbrev pub create_storage_container : Data → Result Call LineFault
create_storage_container line = of_two CreateStorageContainer (quota line) (capabilities line)

abbrev pub create_virtual_volume : Data → Result Call LineFault
create_virtual_volume line = of_four CreateVirtualVolume (optional_container line) (vvol_type line) (size_in_mb line) (optional_profile line)

abbrev pub delete_virtual_volume : Data → Result Call LineFault
delete_virtual_volume line = of_one DeleteVirtualVolume (volume field.Vvol line)

abbrev pub resize_virtual_volume : Data → Result Call LineFault
resize_virtual_volume line = of_two ResizeVirtualVolume (volume field.Vvol line) (size_in_mb line)

abbrev pub set_metadata : Data → Result Call LineFault
set_metadata line = of_three SetMetadata (volume field.Vvol line) (key line) (optional_value line)

-- Copies and tasks.

abbrev pub snapshot_virtual_volume : Data → Result Call LineFault
snapshot_virtual_volume line = of_one SnapshotVirtualVolume (volume field.Vvol line)

abbrev pub fast_clone_virtual_volume : Data → Result Call LineFault
fast_clone_virtual_volume line = of_one FastCloneVirtualVolume (volume field.Vvol line)

abbrev pub revert_virtual_volume : Data → Result Call LineFault
revert_virtual_volume line = of_two RevertVirtualVolume (volume field.Vvol line) (volume field.Snapshot line)

abbrev pub clone_virtual_volume : Data → Result Call LineFault
clone_virtual_volume line = of_one CloneVirtualVolume (volume field.Vvol line)

abbrev pub copy_diffs_to_virtual_volume : Data → Result Call LineFault
copy_diffs_to_virtual_volume line = of_three CopyDiffsToVirtualVolume (volume field.Source line) (volume field.Base line) (volume field.Target line)

abbrev pub turn : Data → Result Call LineFault
turn line = of_one Turn (task line)

abbrev pub get_task_update : Data → Result Call LineFault
get_task_update line = of_one GetTaskUpdate (task line)

abbrev pub cancel_task : Data → Result Call LineFault
cancel_task line = of_one CancelTask (task line)

-- Hosts, their bindings and their commands.

abbrev pub set_pe_context : Data → Result Call LineFault
set_pe_context line = of_two SetPEContext (host line) (endpoints line)

abbrev pub bind_virtual_volume : Data → Result Call LineFault
bind_virtual_volume line = of_two BindVirtualVolume (host line) (volume field.Vvol line)

abbrev pub unbind_virtual_volume : Data → Result Call LineFault
unbind_virtual_volume line = of_three UnbindVirtualVolume (host line) (endpoint line) (secondary line)

abbrev pub unbind_all_virtual_volumes_from_host : Data → Result Call LineFault
unbind_all_virtual_volumes_from_host line = of_one UnbindAllVirtualVolumesFromHost (host line)

abbrev pub scsi : Data → Result Call LineFault
scsi line = of_one Scsi (command line)

abbrev pub submit : Data → Result Call LineFault
submit line = of_one Submit (command line)

abbrev pub serve : Data → Result Call LineFault
serve line = of_one Serve (host line)

-- Queries, and the restart.

abbrev pub allocated_bitmap_virtual_volume : Data → Result Call LineFault
allocated_bitmap_virtual_volume line = of_three AllocatedBitmapVirtualVolume (volume field.Vvol line) (optional_number field.First line) (optional_number field.Count line)

abbrev pub unshared_bitmap_virtual_volume : Data → Result Call LineFault
unshared_bitmap_virtual_volume line = of_four UnsharedBitmapVirtualVolume (volume field.Vvol line) (volume field.Base line) (optional_number field.First line) (optional_number field.Count line)

abbrev pub unshared_chunks_virtual_volume : Data → Result Call LineFault
unshared_chunks_virtual_volume line = of_two UnsharedChunksVirtualVolume (volume field.Vvol line) (volume field.Base line)

abbrev pub query_pool : Data → Result Call LineFault
query_pool line = Ok QueryPool

abbrev pub query_storage_container : Data → Result Call LineFault
query_storage_container line = of_one QueryStorageContainer (container line)

abbrev pub query_virtual_volume : Data → Result Call LineFault
query_virtual_volume line = of_one QueryVirtualVolume (volume field.Vvol line)

abbrev pub restart : Data → Result Call LineFault
restart line = Ok Restart

-- The calls by their names. A name that is none of these is answered so.

abbrev pub query_call : List ℕ → Data → Result Call LineFault
query_call name line =
    if bytes_eq name (codes "allocatedBitmapVirtualVolume") then allocated_bitmap_virtual_volume line
    else if bytes_eq name (codes "unsharedBitmapVirtualVolume") then unshared_bitmap_virtual_volume line
    else if bytes_eq name (codes "unsharedChunksVirtualVolume") then unshared_chunks_virtual_volume line
    else if bytes_eq name (codes "queryPool") then query_pool line
    else if bytes_eq name (codes "queryStorageContainer") then query_storage_container line
    else if bytes_eq name (codes "queryVirtualVolume") then query_virtual_volume line
    else if bytes_eq name (codes "restart") then restart line
    else Err UnknownCall

abbrev pub host_call : List ℕ → Data → Result Call LineFault
host_call name line =
    if bytes_eq name (codes "setPEContext") then set_pe_context line
    else if bytes_eq name (codes "bindVirtualVolume") then bind_virtual_volume line
    else if bytes_eq name (codes "unbindVirtualVolume") then unbind_virtual_volume line
    else if bytes_eq name (codes "unbindAllVirtualVolumesFromHost") then unbind_all_virtual_volumes_from_host line
    else if bytes_eq name (codes "scsi") then scsi line
    else if bytes_eq name (codes "submit") then submit line
    else if bytes_eq name (codes "serve") then serve line
    else query_call name line

abbrev pub copy_call : List ℕ → Data → Result Call LineFault
copy_call name line =
    if bytes_eq name (codes "snapshotVirtualVolume") then snapshot_virtual_volume line
    else if bytes_eq name (codes "fastCloneVirtualVolume") then fast_clone_virtual_volume line
    else if bytes_eq name (codes "revertVirtualVolume") then revert_virtual_volume line
    else if bytes_eq name (codes "cloneVirtualVolume") then clone_virtual_volume line
    else if bytes_eq name (codes "copyDiffsToVirtualVolume") then copy_diffs_to_virtual_volume line
    else if bytes_eq name (codes "turn") then turn line
    else if bytes_eq name (codes "getTaskUpdate") then get_task_update line
    else if bytes_eq name (codes "cancelTask") then cancel_task line
    else host_call name line

abbrev pub volume_call : List ℕ → Data → Result Call LineFault
volume_call name line =
    if bytes_eq name (codes "createStorageContainer") then create_storage_container line
    else if bytes_eq name (codes "createVirtualVolume") then create_virtual_volume line
    else if bytes_eq name (codes "deleteVirtualVolume") then delete_virtual_volume line
    else if bytes_eq name (codes "resizeVirtualVolume") then resize_virtual_volume line
    else if bytes_eq name (codes "setMetadata") then set_metadata line
    else copy_call name line

abbrev pub named_call : Result (List ℕ) LineFault → Data → Result Call LineFault
named_call (Ok name) line = volume_call name line
named_call (Err e) line = Err e

-- the call that a value asks for
abbrev pub call_of : Data → Result Call LineFault
call_of line = named_call (call_name line) line
