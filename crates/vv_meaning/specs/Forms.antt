-- The fields of a call have their forms, as far as they go into what an array keeps: names, keys and notes as lines spell
-- them, and numbers inside their widths. This is this project's own.
use Rattle.std.specs.Prelude.{Bool, true, false, [], map, unwrap_or}
use Rattle.vv_units.specs.declared.numbers.EndpointId.{EndpointId}
use Rattle.vv_flat.specs.Changes as change
use Rattle.vv_flat.specs.Fields.{change_has_forms}
use Rattle.vv_calls.specs.declared.call.Call.{Call}
use Rattle.vv_calls.specs.declared.call.Call.TheVariants as call

unfoldable pub call_has_forms : Call → Bool
unfolding change_has_forms
call_has_forms (call.CreateStorageContainer quota offers) = change_has_forms (change.MakeContainer quota offers)
call_has_forms (call.CreateVirtualVolume container vtype mb profile) =
    change_has_forms (change.MakeVolume 0 vtype 0 (unwrap_or profile []))
call_has_forms (call.SetMetadata vvol key value) = change_has_forms (change.SetMetadata vvol.0 key value)
call_has_forms (call.SetPEContext host endpoints) =
    change_has_forms (change.SetEndpoints host.0 (map (λ (e : EndpointId). e.0) endpoints))
call_has_forms (call.BindVirtualVolume host vvol) = change_has_forms (change.Bind host.0 vvol.0)
call_has_forms (call.UnbindVirtualVolume host endpoint secondary) =
    change_has_forms (change.Unbind host.0 endpoint.0 secondary.0)
call_has_forms (call.UnbindAllVirtualVolumesFromHost host) = change_has_forms (change.UnbindAll host.0)
call_has_forms _ = true

-- whether a call is about a command to a logical unit
abbrev pub is_command_call : Call → Bool
is_command_call (call.Scsi c) = true
is_command_call (call.Submit c) = true
is_command_call (call.Serve host) = true
is_command_call _ = false
