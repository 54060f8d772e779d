-- Every reply of a well-formed array has a text: its identifiers have numbers that have texts, and its lists are short.
use Rattle.std.proofs.Common.{◌≡◌, ◌≤◌, ◌<◌, ℕ, suc, ◌+◌, ◌-◌, ◌*◌, ◌==◌, ◌&&◌, ◌||◌, not, refl, ap, sym, ◌∙◌, subst, Bool, true, false, cond, List, [], ◌∷◌, ◌++◌, length, take, drop, arith, length-take, length-drop, lit≤}
use Rattle.std.specs.Prelude.{Option, Some, None, Result, Ok, Err, nat_le, nat_lt, is_some, is_none, unwrap_or, slice_index, min, codes, ◌%◌}
use Rattle.vv_cdb.specs.Numbers.{number_at}
use Rattle.std.specs.List.{find, list_all, list_any}
use Rattle.std.specs.Option.{ok_or}
use Rattle.std.proofs.lemmas.List.{length-map, length-append}
use Rattle.std.proofs.lemmas.Bool.{leb-true, le-leb, eqb-true}
use Rattle.vv_units.specs.Identifiers.{identifier_limit}
use Rattle.vv_units.specs.declared.field.Field.{Field}
use Rattle.vv_units.specs.declared.field.Field.TheVariants as field
use Rattle.vv_units.specs.declared.volume.VolumeKind.{VolumeKind}
use Rattle.vv_units.specs.declared.volume.VolumeKind.TheVariants.{Plain, SnapshotOf, FastCloneOf, FullCloneOf}
use Rattle.vv_flat.specs.Lists.{if_found, mapped_from}
use Rattle.vv_flat.specs.State.{Container, Volume, Task, QueuedCommand, Durable, Array, container_of, volume_of, task_of}
use Rattle.vv_flat.specs.Chunks.{ChunkValue, shape, blocks_read, bytes_of}
use Rattle.vv_flat.specs.Space.{is_volume_size}
use Rattle.vv_flat.specs.Bits.{allocated_bits, unshared_bits, unshared_count, is_unshared, bits_within}
use Rattle.vv_flat.specs.Volatile.{is_queue_full, queue_of, queue_head, submitted, head_taken}
use Rattle.vv_flat.specs.Profiles.{Capability, Misfit}
use Rattle.vv_flat.specs.Refusals as flat
use Rattle.vv_flat.specs.Refusals.{Refusal, Verdict, Refuse, Nothing, Accept, Exhausted, last_lsn, exhausted, first_refusal}
use Rattle.vv_flat.specs.Changes.{Change, MakeContainer, MakeVolume, DeleteVolume, GrowVolume, SetMetadata, Snapshot, FastClone, Revert, Write, Unmap, SetEndpoints, Bind, Unbind, UnbindAll, StartClone, StartCopy, Turn, Cancel, judge, misfit_in, state_checks, changes_nothing, room_checks, apply_shape, stamps_of, key_limit}
use Rattle.vv_flat.specs.Rules.{is_logged, is_kind_logged, is_of_no_snapshot, need_limit, numbers_rule, names_rule, limits_rule, sizes_rule}
use Rattle.vv_flat.specs.WellFormed.{is_well_formed_shape}
use Rattle.vv_flat.specs.FlatForm.{is_well_formed_array}
use Rattle.vv_flat.proofs.Shares.{and_left, and_right}
use Rattle.vv_flat.proofs.Known.{all-found}
use Rattle.vv_flat.proofs.Kept.{Kept, kept}
use Rattle.vv_flat.proofs.Steps.{find-passes}
use Rattle.vv_flat.proofs.Verdicts.{passed_room, not_refused}
use Rattle.vv_flat.proofs.KeepSteps.{below_limit}
use Rattle.vv_laws.proofs.WellFormedArrays.{array_shape as shaped_array}
use Rattle.vv_cdb.specs.declared.sense.Sense.{Sense}
use Rattle.vv_cdb.specs.declared.command.Command.{Command}
use Rattle.vv_cdb.specs.declared.command.Command.TheVariants as command
use Rattle.vv_cdb.specs.Cdbs.{decoded, of_length, command_of_6, command_of_10, command_of_16, may_transfer, asks_for_protection, range_10, range_16, range_compare, read as read_in, write as write_in, compare as compare_in, write_same as write_same_in, request_sense, inquiry, is_page, has_low_bit, unmap as unmap_in, service_action_in, is_code_of_6, is_code_of_10, is_code_of_16}
use Rattle.vv_cdb.specs.Senses.{invalid_field_in_cdb, invalid_operation_code}
use Rattle.vv_cdb.specs.UnmapLists.{ranges_in}
use Rattle.vv_lun.specs.declared.unit.Action.{Action}
use Rattle.vv_lun.specs.declared.unit.Action.TheVariants as action
use Rattle.vv_lun.specs.Units.{UnitState, Unbound, Endpoint, Bound}
use Rattle.vv_cdb.specs.Senses.{sense_data}
use Rattle.vv_lun.specs.Senses.{no_sense, lba_out_of_range, write_protected, logical_unit_not_supported}
use Rattle.vv_lun.specs.Actions.{refused, done, attention_told, to_read, to_write, to_write_same, to_compare, to_unmap}
use Rattle.vv_lun.specs.Answers.{standard_data, volume_data, endpoint_data, unbound_data, page_list, digits, serial_page, volume_page, endpoint_page, capacity_16}
use Rattle.vv_lun.specs.Commands.{is_outside, within, if_writable, unless_none, block_command, unmap_read}
use Rattle.vv_lun.specs.Decided.{decided, unbound_command, endpoint_command, volume_command, inquiry_data, waiting_sense}
use Rattle.vv_calls.specs.declared.call.Call.{Call}
use Rattle.vv_calls.specs.declared.call.Call.TheVariants as call
use Rattle.vv_reply.specs.Replies.{FitsReply, FitsKind}
use Rattle.vv_reply.specs.declared.reply.Reply.{Reply}
use Rattle.vv_reply.specs.declared.reply.Reply.TheVariants.{Done, Refused}
use Rattle.vv_reply.specs.declared.reply.Answer.TheVariants as answer
use Rattle.vv_reply.specs.declared.reply.Refusal.TheVariants as fault
use Rattle.vv_meaning.specs.Asks.{Form, AsFault, AsSense, Wanted, Deed, Answered, Reads, Changes, answered}
use Rattle.vv_meaning.specs.Told.{refused_as, miscompared, task_set_full}
use Rattle.vv_meaning.specs.Commands.{unit_at, volume_in, deed_of, done_at, has_other_length, wrong_data, commanded, queued, served, command_of}
use Rattle.vv_meaning.specs.Calls.{asked, task_told, task_now, task_after, pool_told, container_asked, chunks_asked, if_stands, bits_from, bits_asked, charge_told, volume_told}
use Rattle.vv_meaning.specs.Meaning.{array_shape, BlocksAt, blocks_at, verdict_on, differs, told, reply_to, reply_over, reply}

-- Commands ask for at most 2048 blocks to read, and their other data are at most 36 bytes.

few : Command → Bool
few (command.Read lba n) = nat_le n 2048
few _ = true

few_read : Result Command Sense → Bool
unfolding few
few_read (Ok c) = few c
few_read (Err sense) = true

few_option : Option Command → Bool
unfolding few
few_option (Some c) = few c
few_option None = true

few_either : (b : Bool) (x y : Option Command) → few_option x ≡ true → few_option y ≡ true → few_option (cond b x y) ≡ true
few_either true x y e f = e
few_either false x y e f = f

few_if : (b : Bool) (c : Command) → few c ≡ true → few_option (cond b (Some c) None) ≡ true
unfolding few_option
few_if true c e = e
few_if false c e = refl

few_reads : (cdb : List ℕ) (range : ℕ × ℕ) → few_option (read_in cdb range) ≡ true
unfolding few_option few
few_reads cdb range = go (asks_for_protection cdb) (nat_le range.1 2048) refl
  where
    go : (p b : Bool) → nat_le range.1 2048 ≡ b → few_option (cond (not p && b) (Some (command.Read range.0 range.1)) None) ≡ true
    go true b e = refl
    go false true e = e
    go false false e = refl

few_6 : (code : ℕ) (cdb : List ℕ) → few_option (command_of_6 code cdb) ≡ true
unfolding few_option few
few_6 code cdb =
    few_either (code == 0x00) (Some command.TestReady) (cond (code == 0x03) (request_sense cdb) (inquiry cdb)) refl
    (few_either (code == 0x03) (request_sense cdb) (inquiry cdb) (sensed (has_low_bit cdb))
    (inquired (is_page (has_low_bit cdb) (slice_index cdb 2))))
  where
    sensed : (b : Bool) → few_option (cond b None (Some (command.RequestSense (slice_index cdb 4)))) ≡ true
    sensed true = refl
    sensed false = refl

    inquired : (b : Bool) → few_option (cond b (Some (command.Inquiry (has_low_bit cdb) (slice_index cdb 2) (number_at 3 2 cdb))) None) ≡ true
    inquired true = refl
    inquired false = refl

few_unmap : (cdb : List ℕ) → few_option (unmap_in cdb) ≡ true
unfolding few_option few
few_unmap cdb = go (has_low_bit cdb)
  where
    go : (b : Bool) → few_option (cond b None (Some (command.Unmap (number_at 7 2 cdb)))) ≡ true
    go true = refl
    go false = refl

few_write : (cdb : List ℕ) (range : ℕ × ℕ) → few_option (write_in cdb range) ≡ true
unfolding few_option few
few_write cdb range = go (may_transfer cdb range.1)
  where
    go : (b : Bool) → few_option (cond b (Some (command.Write range.0 range.1)) None) ≡ true
    go true = refl
    go false = refl

few_compare : (cdb : List ℕ) (range : ℕ × ℕ) → few_option (compare_in cdb range) ≡ true
unfolding few_option few
few_compare cdb range = go (asks_for_protection cdb)
  where
    go : (b : Bool) → few_option (cond b None (Some (command.Compare range.0 range.1))) ≡ true
    go true = refl
    go false = refl

few_same : (cdb : List ℕ) (range : ℕ × ℕ) → few_option (write_same_in cdb range) ≡ true
unfolding few_option few
few_same cdb range = go (range.1 == 0) (may_transfer cdb range.1)
  where
    go : (z b : Bool) → few_option (cond z None (cond b (Some (command.Same range.0 range.1)) None)) ≡ true
    go true b = refl
    go false true = refl
    go false false = refl

few_service : (cdb : List ℕ) → few_option (service_action_in cdb) ≡ true
unfolding few_option few
few_service cdb = go (slice_index cdb 1 % 32 == 0x10)
  where
    go : (b : Bool) → few_option (cond b (Some (command.Capacity16 (number_at 10 4 cdb))) None) ≡ true
    go true = refl
    go false = refl

few_10 : (code : ℕ) (cdb : List ℕ) → few_option (command_of_10 code cdb) ≡ true
unfolding few_option few
few_10 code cdb =
    let sync : Option Command = Some (command.Sync (range_10 cdb).0 (range_10 cdb).1) in
    let late : Option Command = cond (code == 0x35) sync (unmap_in cdb) in
    let writing : Option Command = cond (code == 0x2a) (write_in cdb (range_10 cdb)) late in
    let reading : Option Command = cond (code == 0x28) (read_in cdb (range_10 cdb)) writing in
    few_either (code == 0x25) (Some command.Capacity10) reading refl
    (few_either (code == 0x28) (read_in cdb (range_10 cdb)) writing (few_reads cdb (range_10 cdb))
    (few_either (code == 0x2a) (write_in cdb (range_10 cdb)) late (few_write cdb (range_10 cdb))
    (few_either (code == 0x35) sync (unmap_in cdb) refl (few_unmap cdb))))

few_16 : (code : ℕ) (cdb : List ℕ) → few_option (command_of_16 code cdb) ≡ true
unfolding few_option few
few_16 code cdb =
    let sync : Option Command = Some (command.Sync (range_16 cdb).0 (range_16 cdb).1) in
    let same : Option Command = cond (code == 0x93) (write_same_in cdb (range_16 cdb)) (service_action_in cdb) in
    let late : Option Command = cond (code == 0x91) sync same in
    let writing : Option Command = cond (code == 0x8a) (write_in cdb (range_16 cdb)) late in
    let comparing : Option Command = cond (code == 0x89) (compare_in cdb (range_compare cdb)) writing in
    few_either (code == 0x88) (read_in cdb (range_16 cdb)) comparing (few_reads cdb (range_16 cdb))
    (few_either (code == 0x89) (compare_in cdb (range_compare cdb)) writing (few_compare cdb (range_compare cdb))
    (few_either (code == 0x8a) (write_in cdb (range_16 cdb)) late (few_write cdb (range_16 cdb))
    (few_either (code == 0x91) sync same refl
    (few_either (code == 0x93) (write_same_in cdb (range_16 cdb)) (service_action_in cdb) (few_same cdb (range_16 cdb)) (few_service cdb)))))

few_ok : (c : Option Command) (sense : Sense) → few_option c ≡ true → few_read (ok_or c sense) ≡ true
unfolding few_read few_option
few_ok (Some c) sense e = e
few_ok None sense e = refl

few_length : (n : ℕ) (cdb : List ℕ) (c : Option Command) → few_option c ≡ true → few_read (of_length n cdb c) ≡ true
unfolding few_read
few_length n cdb c e = go (nat_lt (length cdb) n)
  where
    go : (b : Bool) → few_read (cond b (Err invalid_field_in_cdb) (ok_or c invalid_field_in_cdb)) ≡ true
    go true = refl
    go false = few_ok c invalid_field_in_cdb e

few_result : (b : Bool) (x y : Result Command Sense) → few_read x ≡ true → few_read y ≡ true → few_read (cond b x y) ≡ true
few_result true x y e f = e
few_result false x y e f = f

few_decoded : (cdb : List ℕ) → few_read (decoded cdb) ≡ true
unfolding decoded few_read
few_decoded cdb =
    let code : ℕ = slice_index cdb 0 in
    let long : Result Command Sense = cond (is_code_of_16 code) (of_length 16 cdb (command_of_16 code cdb)) (Err invalid_operation_code) in
    let more : Result Command Sense = cond (is_code_of_10 code) (of_length 10 cdb (command_of_10 code cdb)) long in
    few_result (is_code_of_6 code) (of_length 6 cdb (command_of_6 code cdb)) more (few_length 6 cdb (command_of_6 code cdb) (few_6 code cdb))
    (few_result (is_code_of_10 code) (of_length 10 cdb (command_of_10 code cdb)) long (few_length 10 cdb (command_of_10 code cdb) (few_10 code cdb))
    (few_result (is_code_of_16 code) (of_length 16 cdb (command_of_16 code cdb)) (Err invalid_operation_code)
    (few_length 16 cdb (command_of_16 code cdb) (few_16 code cdb)) refl))

-- an action has few blocks to read, and few bytes to answer
short : Action → Bool
short (action.Reply bytes sense clears) = nat_le (length bytes) 36
short (action.Read first blocks) = nat_le blocks 2048
short _ = true

short_either : (b : Bool) (x y : Action) → short x ≡ true → short y ≡ true → short (cond b x y) ≡ true
short_either true x y e f = e
short_either false x y e f = f

short_taken : (room : ℕ) (bytes : List ℕ) → length bytes ≤ 36 → nat_le (length (take room bytes)) 36 ≡ true
short_taken room bytes few =
    let taken : length (take room bytes) ≡ min room (length bytes) = length-take room bytes in
    le-leb (length (take room bytes)) 36 (omega (arith, taken, few))

standard_short : (device unit : ℕ) (product : List ℕ) → length product ≤ 16 → length (standard_data device unit product) ≤ 36
unfolding standard_data
standard_short device unit product few =
    let all : length (codes "VVPROJ  " ++ product ++ codes "0001") ≡ 8 + (length product + 4) =
    length-append (codes "VVPROJ  ") (product ++ codes "0001") ∙ ap (λ n. 8 + n) (length-append product (codes "0001")) in
    omega (arith, all, few)

page_short : (letter number : ℕ) → length (serial_page letter number) ≤ 36
unfolding digits
page_short letter number = lit≤ tt

data_short : (evpd : Bool) (page : ℕ) (standard serial : List ℕ) → length standard ≤ 36 → length serial ≤ 36
    → length (inquiry_data evpd page standard serial) ≤ 36
data_short true page standard serial few less = go (page == 0x80)
  where
    go : (b : Bool) → length (cond b serial page_list) ≤ 36
    go true = less
    go false = lit≤ tt
data_short false page standard serial few less = few

short_unbound : (c : Command) → short (unbound_command c) ≡ true
unfolding short
short_unbound (command.Inquiry true page room) = refl
short_unbound (command.Inquiry false page room) = short_taken room unbound_data (standard_short 0x7f 0x00 (codes "                ") (lit≤ tt))
short_unbound (command.RequestSense room) = short_taken room (sense_data logical_unit_not_supported) (lit≤ tt)
short_unbound _ = refl

short_endpoint : (number : ℕ) (c : Command) → short (endpoint_command number c) ≡ true
unfolding short
short_endpoint number (command.Inquiry evpd page room) =
    short_taken room (inquiry_data evpd page endpoint_data (endpoint_page number))
    (data_short evpd page endpoint_data (endpoint_page number) (standard_short 0x00 0x40 (codes "PROTOCOL ENDPT  ") (lit≤ tt)) (page_short 0x70 number))
short_endpoint number (command.RequestSense room) = short_taken room (sense_data no_sense) (lit≤ tt)
short_endpoint number _ = refl

short_unmap : (blocks : ℕ) (snapshot : Bool) (read : Result (List (ℕ × ℕ)) Sense) → short (unmap_read blocks snapshot read) ≡ true
unfolding short
short_unmap blocks snapshot (Err sense) = refl
short_unmap blocks snapshot (Ok ranges) =
    let act : Action = unless_none (length ranges) (to_unmap ranges) in
    short_either (list_any (is_outside blocks) ranges) (refused lba_out_of_range) (if_writable snapshot act) refl
    (short_either snapshot (refused write_protected) act refl (short_either (length ranges == 0) done (to_unmap ranges) refl refl))

short_writing : (blocks : ℕ) (snapshot : Bool) (range : ℕ × ℕ) (act : Action) → short act ≡ true → short (within blocks range (if_writable snapshot act)) ≡ true
unfolding short
short_writing blocks snapshot range act e =
    short_either (is_outside blocks range) (refused lba_out_of_range) (if_writable snapshot act) refl
    (short_either snapshot (refused write_protected) act refl e)

short_blocks : (blocks : ℕ) (snapshot : Bool) (c : Command) (payload : List ℕ) → few c ≡ true → short (block_command blocks snapshot c payload) ≡ true
unfolding short few
short_blocks blocks snapshot command.Capacity10 payload e = refl
short_blocks blocks snapshot (command.Capacity16 room) payload e = short_taken room (capacity_16 blocks) (lit≤ tt)
short_blocks blocks snapshot (command.Read lba n) payload e =
    short_either (is_outside blocks (lba, n)) (refused lba_out_of_range) (unless_none n (to_read (lba, n))) refl
    (short_either (n == 0) done (to_read (lba, n)) refl e)
short_blocks blocks snapshot (command.Write lba n) payload e =
    short_writing blocks snapshot (lba, n) (unless_none n (to_write (lba, n))) (short_either (n == 0) done (to_write (lba, n)) refl refl)
short_blocks blocks snapshot (command.Compare lba n) payload e =
    short_writing blocks snapshot (lba, n) (unless_none n (to_compare (lba, n))) (short_either (n == 0) done (to_compare (lba, n)) refl refl)
short_blocks blocks snapshot (command.Same lba n) payload e = short_writing blocks snapshot (lba, n) (to_write_same (lba, n)) refl
short_blocks blocks snapshot (command.Sync lba n) payload e =
    short_either (is_outside blocks (lba, n)) (refused lba_out_of_range) done refl refl
short_blocks blocks snapshot (command.Unmap n) payload e = short_unmap blocks snapshot (ranges_in payload)
short_blocks blocks snapshot _ payload e = refl

waiting_short : (attention : Bool) → length (sense_data (waiting_sense attention)) ≤ 36
waiting_short attention = lit≤ tt

short_volume : (volume blocks : ℕ) (snapshot attention : Bool) (c : Command) (payload : List ℕ) → few c ≡ true
    → short (volume_command volume blocks snapshot attention c payload) ≡ true
unfolding short few
short_volume volume blocks snapshot attention (command.Inquiry evpd page room) payload e =
    short_taken room (inquiry_data evpd page volume_data (volume_page volume))
    (data_short evpd page volume_data (volume_page volume) (standard_short 0x00 0x40 (codes "VIRTUAL VOLUME  ") (lit≤ tt)) (page_short 0x76 volume))
short_volume volume blocks snapshot attention (command.RequestSense room) payload e =
    short_taken room (sense_data (waiting_sense attention)) (waiting_short attention)
short_volume volume blocks snapshot attention c payload e =
    short_either attention attention_told (block_command blocks snapshot c payload) refl (short_blocks blocks snapshot c payload e)

short_decided : (unit : UnitState) (read : Result Command Sense) (payload : List ℕ) → few_read read ≡ true → short (decided unit read payload) ≡ true
unfolding decided short few_read
short_decided Unbound (Ok c) payload e = short_unbound c
short_decided Unbound (Err sense) payload e = refl
short_decided (Endpoint number) (Ok c) payload e = short_endpoint number c
short_decided (Endpoint number) (Err sense) payload e = refl
short_decided (Bound volume blocks snapshot attention) (Ok c) payload e = short_volume volume blocks snapshot attention c payload e
short_decided (Bound volume blocks snapshot attention) (Err sense) payload e = short_either attention attention_told (refused sense) refl refl

-- Replies that are refusals.

pub refused_fits : (form : Form) (r : Refusal) → FitsReply (refused_as form r)
refused_fits AsSense r = lit≤ tt
refused_fits AsFault (flat.NotFound name) = tt
refused_fits AsFault (flat.InvalidArgument name) = tt
refused_fits AsFault (flat.IncompatibleVolume name) = tt
refused_fits AsFault (flat.NoEndpoint name) = tt
refused_fits AsFault (flat.ResourceInUse name) = tt
refused_fits AsFault (flat.NotCancellable name) = tt
refused_fits AsFault flat.OutOfRange = lit≤ tt
refused_fits AsFault flat.WriteProtected = lit≤ tt
refused_fits AsFault flat.Exhausted = tt
refused_fits AsFault (flat.TooMany name limit) = tt
refused_fits AsFault (flat.InvalidProfile at why) = tt
refused_fits AsFault (flat.OverQuota charged asked quota) = tt
refused_fits AsFault (flat.PoolFull free asked) = tt
refused_fits AsFault (flat.MapFull entries asked limit) = tt

fits_either : (b : Bool) (x y : Reply) → FitsReply x → FitsReply y → FitsReply (cond b x y)
fits_either true x y e f = e
fits_either false x y e f = f

told_fits : (blocks : BlocksAt) (w : Wanted) (v : Verdict) → (v ≡ Nothing → FitsReply w.nothing) → (v ≡ Accept → FitsReply w.accepted)
    → FitsReply (told blocks w v)
told_fits blocks w (Refuse r) e f = refused_fits w.form r
told_fits blocks w Nothing e f = e refl
told_fits blocks w Accept e f = fits_either (differs blocks w.change w.compared) miscompared w.accepted (lit≤ tt) (f refl)

-- What is accepted has a log number, which an identifier may have.

not_exhausted : (misfit : Option Misfit) (d : Durable ℕ) (c : Change) → judge misfit d c ≡ Accept → exhausted d ≡ None
unfolding room_checks
not_exhausted misfit d (MakeContainer quota offers) e = passed_room misfit d (MakeContainer quota offers) e 0
not_exhausted misfit d (MakeVolume k vtype chunks needs) e = passed_room misfit d (MakeVolume k vtype chunks needs) e 0
not_exhausted misfit d (DeleteVolume n) e = passed_room misfit d (DeleteVolume n) e 0
not_exhausted misfit d (GrowVolume n chunks) e = passed_room misfit d (GrowVolume n chunks) e 0
not_exhausted misfit d (SetMetadata n key text) e = passed_room misfit d (SetMetadata n key text) e 0
not_exhausted misfit d (Snapshot n) e = passed_room misfit d (Snapshot n) e 0
not_exhausted misfit d (FastClone n) e = passed_room misfit d (FastClone n) e 0
not_exhausted misfit d (Revert n snapshot) e = passed_room misfit d (Revert n snapshot) e 0
not_exhausted misfit d (Write n first blocks) e = passed_room misfit d (Write n first blocks) e 0
not_exhausted misfit d (Unmap n ranges) e = passed_room misfit d (Unmap n ranges) e 0
not_exhausted misfit d (SetEndpoints host endpoints) e = passed_room misfit d (SetEndpoints host endpoints) e 0
not_exhausted misfit d (Bind host n) e = passed_room misfit d (Bind host n) e 0
not_exhausted misfit d (Unbind host endpoint secondary) e = passed_room misfit d (Unbind host endpoint secondary) e 0
not_exhausted misfit d (UnbindAll host) e = passed_room misfit d (UnbindAll host) e 0
not_exhausted misfit d (StartClone n) e = passed_room misfit d (StartClone n) e 0
not_exhausted misfit d (StartCopy source base target) e = passed_room misfit d (StartCopy source base target) e 0
not_exhausted misfit d (Turn n) e = passed_room misfit d (Turn n) e 0
not_exhausted misfit d (Cancel n) e = passed_room misfit d (Cancel n) e 0

room_left : (capabilities : List Capability) (d : Durable ℕ) (c : Change) → verdict_on capabilities d c ≡ Accept → d.lsn + 1 < identifier_limit
unfolding verdict_on
room_left capabilities d c e =
    let room : d.lsn < last_lsn =
    below_limit last_lsn d.lsn (not_refused (nat_le last_lsn d.lsn) Exhausted (not_exhausted (misfit_in capabilities d c) d c e)) in
    omega (arith, room)

nothing_where : (state : Option Refusal) (n : Bool) (room : Option Refusal)
    → if_found state Refuse (cond n Nothing (if_found room Refuse Accept)) ≡ Nothing → n ≡ true
nothing_where None true room e = refl
nothing_where None false None e = cc
nothing_where None false (Some r) e = cc
nothing_where (Some r) n room e = cc

never_nothing : {A : Type 0} (capabilities : List Capability) (d : Durable ℕ) (c : Change) → changes_nothing d c ≡ false
    → verdict_on capabilities d c ≡ Nothing → A
unfolding verdict_on judge
never_nothing capabilities d c f e =
    never (sym (nothing_where (first_refusal (state_checks d c)) (changes_nothing d c) (first_refusal (room_checks (misfit_in capabilities d c) d c)) e) ∙ f)
  where
    never : {A : Type 0} → true ≡ false → A
    never g = cc

-- What the rules say of a volume.

last_number : (d : Durable ℕ) → numbers_rule d ≡ true → d.lsn ≤ last_lsn
unfolding numbers_rule
last_number d e = leb-true d.lsn last_lsn (and_right _ _ e)

stamps_short : (d : Durable ℕ) (n : ℕ) → sizes_rule d ≡ true → length (stamps_of d n) ≤ 1048576
unfolding sizes_rule
stamps_short d n e = go (volume_of d n) refl
  where
    go : (o : Option (Volume ℕ)) → volume_of d n ≡ o → length (if_found o (λ (v : Volume ℕ). v.chunks) []) ≤ 1048576
    go None is = lit≤ tt
    go (Some v) is =
        let size : is_volume_size d.geometry.chunk_blocks (length v.chunks) ≡ true =
        all-found (λ (w : Volume ℕ). is_volume_size d.geometry.chunk_blocks (length w.chunks)) (λ (w : Volume ℕ). w.number == n) v d.volumes (and_left _ _ e) is in
        leb-true (length v.chunks) 1048576 (and_right _ _ (and_left _ _ size))

container_below : (lsn n : ℕ) (ks : List Container) → list_all (λ (k : Container). (k.number == 0) || is_logged lsn k.number) ks ≡ true
    → is_some (find (λ (k : Container). k.number == n) ks) ≡ true → n ≤ lsn
container_below lsn n ks e found = go (find (λ (k : Container). k.number == n) ks) refl found
  where
    logged : (k : ℕ) → ((k == 0) || is_logged lsn k) ≡ true → k ≤ lsn
    logged k h = either (k == 0) refl h
      where
        either : (b : Bool) → (k == 0) ≡ b → (b || is_logged lsn k) ≡ true → k ≤ lsn
        either true is f = let none : k ≡ 0 = eqb-true k 0 is in omega (arith, none)
        either false is f = leb-true k lsn (and_right (nat_le 1 k) _ f)

    go : (o : Option Container) → find (λ (k : Container). k.number == n) ks ≡ o → is_some o ≡ true → n ≤ lsn
    go None is f = cc
    go (Some k) is f =
        let same : k.number ≡ n = eqb-true k.number n (find-passes (λ (x : Container). x.number == n) ks k is) in
        subst (λ m. m ≤ lsn) same (logged k.number (all-found (λ (x : Container). (x.number == 0) || is_logged lsn x.number) (λ (x : Container). x.number == n) k ks e is))

kind_fits : (lsn : ℕ) (kind : VolumeKind) → lsn ≤ last_lsn → is_kind_logged lsn kind ≡ true → FitsKind kind
kind_fits lsn Plain least e = tt
kind_fits lsn (SnapshotOf v) least e = let below : v.0 ≤ lsn = leb-true v.0 lsn (and_right (nat_le 1 v.0) _ e) in omega (arith, below, least)
kind_fits lsn (FastCloneOf v) least e = let below : v.0 ≤ lsn = leb-true v.0 lsn (and_right (nat_le 1 v.0) _ e) in omega (arith, below, least)
kind_fits lsn (FullCloneOf v) least e = let below : v.0 ≤ lsn = leb-true v.0 lsn (and_right (nat_le 1 v.0) _ e) in omega (arith, below, least)

volume_fits : (d : Durable ℕ) → Kept d → (n : ℕ) (v : Volume ℕ) → volume_of d n ≡ Some v → FitsReply (volume_told v)
unfolding numbers_rule names_rule limits_rule
volume_fits d k n v found =
    let named : (is_some (container_of d v.container) && is_of_no_snapshot d v.kind) ≡ true =
    all-found (λ (w : Volume ℕ). is_some (container_of d w.container) && is_of_no_snapshot d w.kind) (λ (w : Volume ℕ). w.number == n) v d.volumes
    (and_left _ _ (and_left _ _ (and_left _ _ k.names))) found in
    let logged : (is_logged d.lsn v.number && is_kind_logged d.lsn v.kind && nat_le v.reverted d.lsn) ≡ true =
    all-found (λ (w : Volume ℕ). is_logged d.lsn w.number && is_kind_logged d.lsn w.kind && nat_le w.reverted d.lsn) (λ (w : Volume ℕ). w.number == n) v d.volumes
    (and_left _ _ (and_left _ _ (and_left _ _ (and_left _ _ k.numbers)))) found in
    let listed : (nat_le (length v.needs) need_limit && nat_le (length v.metadata) key_limit) ≡ true =
    all-found (λ (w : Volume ℕ). nat_le (length w.needs) need_limit && nat_le (length w.metadata) key_limit) (λ (w : Volume ℕ). w.number == n) v d.volumes
    (and_right _ _ (and_left _ _ (and_left _ _ (and_left _ _ k.limits)))) found in
    let least : d.lsn ≤ last_lsn = last_number d k.numbers in
    let home : v.container ≤ d.lsn =
    container_below d.lsn v.container d.containers (and_right _ _ (and_left _ _ (and_left _ _ (and_left _ _ k.numbers)))) (and_left _ _ named) in
    let keys : length v.metadata ≤ 64 = leb-true (length v.metadata) key_limit (and_right _ _ listed) in
    let asked : length v.needs ≤ 8 = leb-true (length v.needs) need_limit (and_left _ _ listed) in
    (omega (arith, home, least), kind_fits d.lsn v.kind least (and_right _ _ (and_left _ _ logged)), omega (arith, keys), omega (arith, asked))

-- Queries.

task_now_fits : (d : Durable ℕ) (n : ℕ) → FitsReply (task_now d n)
task_now_fits d n = go (task_of d n)
  where
    go : (o : Option Task) → FitsReply (if_found o task_told (Refused (fault.NotFound field.Task)))
    go None = tt
    go (Some t) = tt

task_after_fits : (d : Durable ℕ) (c : Change) (n : ℕ) → FitsReply (task_after d c n)
unfolding task_after
task_after_fits d c n = task_now_fits (apply_shape d c) n

stands_fits : (d : Durable ℕ) (n : ℕ) (name : Field) (r : Reply) → FitsReply r → FitsReply (if_stands d n name r)
stands_fits d n name r e = fits_either (is_none (volume_of d n)) (Refused (fault.NotFound name)) r tt e

bits_fit : (bits : List Bool) (first count : Option ℕ) → length bits ≤ 1048576 → FitsReply (bits_asked bits first count)
bits_fit bits first count few = from (unwrap_or first 0) (unwrap_or count (length bits - unwrap_or first 0))
  where
    cut : (s n : ℕ) → length (take n (drop s bits)) ≤ 1048576
    cut s n =
        let taken : length (take n (drop s bits)) ≡ min n (length (drop s bits)) = length-take n (drop s bits) in
        let left : length (drop s bits) ≡ length bits - s = length-drop s bits in
        omega (arith, taken, left, few)

    from : (s n : ℕ) → FitsReply (bits_from bits s n)
    from s n =
        fits_either (nat_lt (length bits) s) (Refused (fault.InvalidArgument field.First))
        (cond (nat_lt (length bits - s) n) (Refused (fault.InvalidArgument field.Count)) (Done (answer.Bits (bits_within s n bits)))) tt
        (fits_either (nat_lt (length bits - s) n) (Refused (fault.InvalidArgument field.Count)) (Done (answer.Bits (bits_within s n bits))) tt (cut s n))

length-mapped : {A B : Type 0} (f : ℕ → A → B) (i : ℕ) (xs : List A) → length (mapped_from f i xs) ≡ length xs
length-mapped f i [] = refl
length-mapped f i (x ∷ xs) = ap (λ n. suc n) (length-mapped f (i + 1) xs)

-- Deeds.

GoodDeed : List Capability → Durable ℕ → Deed → Type 0
GoodDeed capabilities d (Answered r) = FitsReply r
GoodDeed capabilities d (Reads volume first n) = n ≤ 2048
GoodDeed capabilities d (Changes w) =
    (verdict_on capabilities d w.change ≡ Nothing → FitsReply w.nothing) × (verdict_on capabilities d w.change ≡ Accept → FitsReply w.accepted)

deed_fits : (blocks : BlocksAt) → ((volume first n : ℕ) → length (blocks volume first n) ≤ n * 512) → (capabilities : List Capability) (d : Durable ℕ) (deed : Deed)
    → GoodDeed capabilities d deed → FitsReply (reply_to blocks capabilities d deed)
unfolding GoodDeed
deed_fits blocks small capabilities d (Answered r) e = e
deed_fits blocks small capabilities d (Reads volume first n) e =
    let least : length (blocks volume first n) ≤ n * 512 = small volume first n in omega (arith, least, e)
deed_fits blocks small capabilities d (Changes w) e = told_fits blocks w (verdict_on capabilities d w.change) e.0 e.1

action_good : (capabilities : List Capability) (d : Durable ℕ) (chunk_blocks volume : ℕ) (payload : List ℕ) (act : Action) → short act ≡ true
    → GoodDeed capabilities d (deed_of chunk_blocks volume payload act)
unfolding GoodDeed short
action_good capabilities d chunk_blocks volume payload (action.Reply bytes None clears) e =
    let less : length bytes ≤ 36 = leb-true (length bytes) 36 e in omega (arith, less)
action_good capabilities d chunk_blocks volume payload (action.Reply bytes (Some sense) clears) e =
    let less : length bytes ≤ 36 = leb-true (length bytes) 36 e in omega (arith, less)
action_good capabilities d chunk_blocks volume payload (action.Read first n) e = leb-true n 2048 e
action_good capabilities d chunk_blocks volume payload (action.Write first n) e = (λ _. lit≤ tt, λ _. lit≤ tt)
action_good capabilities d chunk_blocks volume payload (action.Same first n) e = (λ _. lit≤ tt, λ _. lit≤ tt)
action_good capabilities d chunk_blocks volume payload (action.Compare first n) e = (λ _. lit≤ tt, λ _. lit≤ tt)
action_good capabilities d chunk_blocks volume payload (action.Unmap ranges) e = (λ _. lit≤ tt, λ _. lit≤ tt)

commanded_good : (capabilities : List Capability) (d : Durable ℕ) (a : Array ℕ) (c : QueuedCommand) → GoodDeed capabilities d (commanded a c).deed
unfolding GoodDeed commanded
commanded_good capabilities d a c = go (has_other_length (decoded c.cdb) c.payload)
  where
    go : (b : Bool) → GoodDeed capabilities d (cond b (answered a.volatile wrong_data)
        (done_at a c.address c.payload (volume_in (unit_at a c.address)) (decided (unit_at a c.address) (decoded c.cdb) c.payload))).deed
    go true = tt
    go false =
        action_good capabilities d a.durable.geometry.chunk_blocks (volume_in (unit_at a c.address)) c.payload
        (decided (unit_at a c.address) (decoded c.cdb) c.payload)
        (short_decided (unit_at a c.address) (decoded c.cdb) c.payload (few_decoded c.cdb))

queued_good : (capabilities : List Capability) (d : Durable ℕ) (a : Array ℕ) (c : QueuedCommand) → GoodDeed capabilities d (queued a c).deed
unfolding GoodDeed queued
queued_good capabilities d a c = go (has_other_length (decoded c.cdb) c.payload) (is_queue_full (queue_of a.volatile c.address.host))
  where
    go : (b full : Bool) → GoodDeed capabilities d (cond b (answered a.volatile wrong_data) (cond full (answered a.volatile task_set_full)
        (answered (submitted a.volatile c) (Done (answer.Queued (length (queue_of a.volatile c.address.host) + 1)))))).deed
    go true full = tt
    go false true = lit≤ tt
    go false false = tt

served_good : (capabilities : List Capability) (d : Durable ℕ) (a : Array ℕ) (host : ℕ) → GoodDeed capabilities d (served a host).deed
unfolding GoodDeed served
served_good capabilities d a host = go (queue_head a.volatile host)
  where
    go : (head : Option QueuedCommand) → GoodDeed capabilities d (if_found head (commanded (record a { volatile = head_taken a.volatile host }))
        (answered a.volatile (Done answer.NothingServed))).deed
    go None = tt
    go (Some c) = commanded_good capabilities d (record a { volatile = head_taken a.volatile host }) c

container_good : (d : Durable ℕ) (o : Option Container) → FitsReply (if_found o (charge_told d) (Refused (fault.NotFound field.Container)))
container_good d None = tt
container_good d (Some k) = tt

volume_good : (d : Durable ℕ) → Kept d → (n : ℕ) (o : Option (Volume ℕ)) → volume_of d n ≡ o
    → FitsReply (if_found o volume_told (Refused (fault.NotFound field.Vvol)))
volume_good d k n None is = tt
volume_good d k n (Some v) is = volume_fits d k n v is

asked_good : (capabilities : List Capability) (a : Array ℕ) → Kept a.durable → (c : Call) → GoodDeed capabilities a.durable (asked a c).deed
unfolding GoodDeed asked changes_nothing pool_told
asked_good capabilities a k (call.CreateStorageContainer quota offers) =
    (never_nothing capabilities a.durable (MakeContainer quota offers) refl, room_left capabilities a.durable (MakeContainer quota offers))
asked_good capabilities a k (call.CreateVirtualVolume container vtype mb profile) = (
  never_nothing capabilities a.durable (MakeVolume (container_asked container) vtype (chunks_asked a.durable mb) (unwrap_or profile [])) refl,
  room_left capabilities a.durable (MakeVolume (container_asked container) vtype (chunks_asked a.durable mb) (unwrap_or profile [])),
)
asked_good capabilities a k (call.SnapshotVirtualVolume vvol) =
    (never_nothing capabilities a.durable (Snapshot vvol.0) refl, room_left capabilities a.durable (Snapshot vvol.0))
asked_good capabilities a k (call.FastCloneVirtualVolume vvol) =
    (never_nothing capabilities a.durable (FastClone vvol.0) refl, room_left capabilities a.durable (FastClone vvol.0))
asked_good capabilities a k (call.CloneVirtualVolume vvol) =
    (never_nothing capabilities a.durable (StartClone vvol.0) refl, room_left capabilities a.durable (StartClone vvol.0))
asked_good capabilities a k (call.Turn task) =
    (λ _. task_now_fits a.durable task.0, λ _. task_after_fits a.durable (Turn task.0) task.0)
asked_good capabilities a k (call.GetTaskUpdate task) = task_now_fits a.durable task.0
asked_good capabilities a k (call.CancelTask task) =
    (λ _. task_after_fits a.durable (Cancel task.0) task.0, λ _. task_after_fits a.durable (Cancel task.0) task.0)
asked_good capabilities a k (call.AllocatedBitmapVirtualVolume vvol first count) =
    let stamps : List ℕ = stamps_of a.durable vvol.0 in
    let size : length (allocated_bits stamps) ≡ length stamps = length-map stamps (λ s. not (s == 0)) in
    let few : length stamps ≤ 1048576 = stamps_short a.durable vvol.0 k.sizes in
    stands_fits a.durable vvol.0 field.Vvol (bits_asked (allocated_bits stamps) first count)
    (bits_fit (allocated_bits stamps) first count (omega (arith, size, few)))
asked_good capabilities a k (call.UnsharedBitmapVirtualVolume vvol base first count) =
    let stamps : List ℕ = stamps_of a.durable vvol.0 in
    let bits : List Bool = unshared_bits stamps (stamps_of a.durable base.0) in
    let size : length bits ≡ length stamps = length-mapped (is_unshared (stamps_of a.durable base.0)) 0 stamps in
    let few : length stamps ≤ 1048576 = stamps_short a.durable vvol.0 k.sizes in
    stands_fits a.durable vvol.0 field.Vvol (if_stands a.durable base.0 field.Base (bits_asked bits first count))
    (stands_fits a.durable base.0 field.Base (bits_asked bits first count) (bits_fit bits first count (omega (arith, size, few))))
asked_good capabilities a k (call.UnsharedChunksVirtualVolume vvol base) =
    let count : Reply = Done (answer.Count (unshared_count (stamps_of a.durable vvol.0) (stamps_of a.durable base.0))) in
    stands_fits a.durable vvol.0 field.Vvol (if_stands a.durable base.0 field.Base count) (stands_fits a.durable base.0 field.Base count tt)
asked_good capabilities a k call.QueryPool = tt
asked_good capabilities a k (call.QueryStorageContainer container) = container_good a.durable (container_of a.durable container.0)
asked_good capabilities a k (call.QueryVirtualVolume vvol) = volume_good a.durable k vvol.0 (volume_of a.durable vvol.0) refl
asked_good capabilities a k (call.Scsi c) = commanded_good capabilities a.durable a (command_of c)
asked_good capabilities a k (call.Submit c) = queued_good capabilities a.durable a (command_of c)
asked_good capabilities a k (call.Serve host) = served_good capabilities a.durable a host.0
asked_good capabilities a k call.Restart = tt
asked_good capabilities a k _ = (λ _. tt, λ _. tt)

blocks_short : (d : Durable ChunkValue) (volume first n : ℕ) → length (blocks_at d volume first n) ≤ n * 512
blocks_short d volume first n = go (volume_of d volume)
  where
    go : (o : Option (Volume ChunkValue)) → length (if_found o (λ (v : Volume ChunkValue). blocks_read v.chunks first n) []) ≤ n * 512
    go None = grind (arith)
    go (Some v) =
        let taken : length (blocks_read v.chunks first n) ≡ min (n * 512) (length (drop (first * 512) (bytes_of v.chunks))) =
        length-take (n * 512) (drop (first * 512) (bytes_of v.chunks)) in
        omega (arith, taken)

pub reply_fits : (capabilities : List Capability) (a : Array ChunkValue) (c : Call) → is_well_formed_array a.durable ≡ true
    → FitsReply (reply capabilities a c)
unfolding reply reply_over is_well_formed_shape
reply_fits capabilities a c e =
    deed_fits (blocks_at a.durable) (blocks_short a.durable) capabilities (shape a.durable) (asked (array_shape a) c).deed
    (asked_good capabilities (array_shape a) (kept (shape a.durable) (and_left _ _ (shaped_array a.durable e))) c)

-- What is asked of a well-formed shape, deed by deed: an answer at once, and the replies to a change.

pub answered_fits : (a : Array ℕ) (c : Call) → is_well_formed_shape a.durable ≡ true → (r : Reply) → (asked a c).deed ≡ Answered r → FitsReply r
unfolding GoodDeed is_well_formed_shape
answered_fits a c well r is =
    subst (λ (deed : Deed). GoodDeed [] a.durable deed) is (asked_good [] a (kept a.durable (and_left _ _ well)) c)

pub changes_fit : (capabilities : List Capability) (a : Array ℕ) (c : Call) → is_well_formed_shape a.durable ≡ true → (w : Wanted) → (asked a c).deed ≡ Changes w
    → (verdict_on capabilities a.durable w.change ≡ Nothing → FitsReply w.nothing) × (verdict_on capabilities a.durable w.change ≡ Accept → FitsReply w.accepted)
unfolding GoodDeed is_well_formed_shape
changes_fit capabilities a c well w is =
    subst (λ (deed : Deed). GoodDeed capabilities a.durable deed) is (asked_good capabilities a (kept a.durable (and_left _ _ well)) c)
