-- What a logical unit answers to a command: one whose command descriptor block is decoded, or the sense that refuses
-- it. INQUIRY and REQUEST SENSE are after SPC-5, unit attentions after SAM-5; which sense answers which case is this
-- project's own choice.
use Rattle.std.specs.Prelude.{ℕ, ◌≡◌, ◌==◌, ⊤, Bool, List, length, take, Result, Ok, Err, if◌then◌else◌}
use Rattle.vv_cdb.specs.declared.sense.Sense.{Sense}
use Rattle.vv_cdb.specs.declared.command.Command.{Command}
use Rattle.vv_cdb.specs.declared.command.Command.TheVariants.{TestReady, RequestSense, Inquiry}
use Rattle.vv_cdb.specs.Cdbs.{IsLetThrough, data_length}
use Rattle.vv_cdb.specs.Senses.{sense_data, invalid_operation_code}
use Rattle.vv_lun.specs.declared.unit.Action.{Action}
use Rattle.vv_lun.specs.Units.{UnitState, Unbound, Endpoint, Bound}
use Rattle.vv_lun.specs.Senses.{no_sense, logical_unit_not_supported, capacity_data_has_changed}
use Rattle.vv_lun.specs.Actions.{answered_clearing, answered_within, done, refused, attention_told}
use Rattle.vv_lun.specs.Answers.{volume_data, endpoint_data, unbound_data, page_list, volume_page, endpoint_page}
use Rattle.vv_lun.specs.Commands.{block_command}

-- a command that is decoded has the fields and the bytes that a decoded command has
abbrev pub IsAsked : Result Command Sense → List ℕ → Type 0
IsAsked (Ok command) payload = IsLetThrough command × (length payload ≡ data_length command)
IsAsked (Err sense) payload = ⊤

-- the data of INQUIRY: standard data without EVPD, and else page 80h or page 00h
abbrev pub inquiry_data : Bool → ℕ → List ℕ → List ℕ → List ℕ
inquiry_data evpd page standard serial = if evpd then (if page == 0x80 then serial else page_list) else standard

-- An address where nothing is bound answers INQUIRY of standard data, and REQUEST SENSE.
abbrev pub unbound_command : Command → Action
unbound_command (Inquiry evpd page alloc_len) =
    if evpd then refused logical_unit_not_supported else answered_within alloc_len unbound_data
unbound_command (RequestSense alloc_len) = answered_within alloc_len (sense_data logical_unit_not_supported)
unbound_command _ = refused logical_unit_not_supported

abbrev pub at_unbound : Result Command Sense → Action
at_unbound (Ok command) = unbound_command command
at_unbound (Err sense) = refused logical_unit_not_supported

-- An endpoint has no blocks, and never a unit attention.
abbrev pub endpoint_command : ℕ → Command → Action
endpoint_command number (Inquiry evpd page alloc_len) =
    answered_within alloc_len (inquiry_data evpd page endpoint_data (endpoint_page number))
endpoint_command number (RequestSense alloc_len) = answered_within alloc_len (sense_data no_sense)
endpoint_command number TestReady = done
endpoint_command number _ = refused invalid_operation_code

abbrev pub at_endpoint : ℕ → Result Command Sense → Action
at_endpoint number (Ok command) = endpoint_command number command
at_endpoint number (Err sense) = refused sense

-- REQUEST SENSE of a volume tells a unit attention as its data, and clears it.
abbrev pub waiting_sense : Bool → Sense
waiting_sense attention = if attention then capacity_data_has_changed else no_sense

abbrev pub volume_sense : Bool → ℕ → Action
volume_sense attention alloc_len =
    answered_clearing attention (take alloc_len (sense_data (waiting_sense attention)))

-- a unit attention that waits is told in place of an answer
abbrev pub after_attention : Bool → Action → Action
after_attention attention action = if attention then attention_told else action

-- A volume: its number, how many blocks it has, whether it is a snapshot, and whether a unit attention waits.
abbrev pub volume_command : ℕ → ℕ → Bool → Bool → Command → List ℕ → Action
volume_command volume blocks snapshot attention (Inquiry evpd page alloc_len) payload =
    answered_within alloc_len (inquiry_data evpd page volume_data (volume_page volume))
volume_command volume blocks snapshot attention (RequestSense alloc_len) payload = volume_sense attention alloc_len
volume_command volume blocks snapshot attention command payload =
    after_attention attention (block_command blocks snapshot command payload)

abbrev pub at_volume : ℕ → ℕ → Bool → Bool → Result Command Sense → List ℕ → Action
at_volume volume blocks snapshot attention (Ok command) payload =
    volume_command volume blocks snapshot attention command payload
at_volume volume blocks snapshot attention (Err sense) payload = after_attention attention (refused sense)

-- what each kind of unit answers
unfoldable pub decided : UnitState → Result Command Sense → List ℕ → Action
decided Unbound command payload = at_unbound command
decided (Endpoint number) command payload = at_endpoint number command
decided (Bound volume blocks snapshot attention) command payload =
    at_volume volume blocks snapshot attention command payload
