-- Command descriptor blocks: the command that the bytes ask for, after SPC-5 (TEST UNIT READY, REQUEST SENSE, INQUIRY)
-- and SBC-4 (the others). Byte 0 is the operation code, and says how many bytes the block has. Bytes past these are
-- ignored, and so are bits that no definition here names. That a transfer has at most 2048 blocks, that none asks for
-- protection information and that WRITE SAME of no block is refused are this project's own choices.
use Rattle.std.specs.Prelude.{ℕ, ◌≤◌, ◌*◌, ◌/◌, ◌%◌, ◌==◌, ◌&&◌, ◌||◌, Bool, not, ⊤, List, length, slice_index, Option, Some, None, Result, Err, nat_le, nat_lt, if◌then◌else◌}
use Rattle.std.specs.Option.{ok_or}
use Rattle.vv_cdb.specs.declared.sense.Sense.{Sense}
use Rattle.vv_cdb.specs.declared.command.Command.{Command}
use Rattle.vv_cdb.specs.declared.command.Command.TheVariants.{TestReady, RequestSense, Inquiry, Capacity10, Read, Write, Sync, Unmap, Compare, Same, Capacity16}
use Rattle.vv_cdb.specs.Senses.{invalid_operation_code, invalid_field_in_cdb}
use Rattle.vv_cdb.specs.Numbers.{number_at}

-- bit 0 of byte 1
abbrev pub has_low_bit : List ℕ → Bool
has_low_bit cdb = slice_index cdb 1 % 2 == 1

-- bits 7 to 5 of byte 1 ask for protection information
abbrev pub asks_for_protection : List ℕ → Bool
asks_for_protection cdb = not (slice_index cdb 1 / 32 == 0)

-- the most blocks of one transfer
abbrev pub transfer_limit : ℕ
transfer_limit = 2048

-- Where a command's blocks are: the logical block address of the first, and how many they are. In a block of ten
-- bytes the address has bytes 2 to 5 and the number bytes 7 to 8, in one of sixteen bytes 2 to 9 and 10 to 13.
abbrev pub range_10 : List ℕ → ℕ × ℕ
range_10 cdb = (number_at 2 4 cdb, number_at 7 2 cdb)

abbrev pub range_16 : List ℕ → ℕ × ℕ
range_16 cdb = (number_at 2 8 cdb, number_at 10 4 cdb)

-- COMPARE AND WRITE has the number in byte 13 alone
abbrev pub range_compare : List ℕ → ℕ × ℕ
range_compare cdb = (number_at 2 8 cdb, slice_index cdb 13)

-- whether so many blocks may be read or written as the block asks
abbrev pub may_transfer : List ℕ → ℕ → Bool
may_transfer cdb blocks = not (asks_for_protection cdb) && nat_le blocks transfer_limit

abbrev pub read : List ℕ → ℕ × ℕ → Option Command
read cdb range = if may_transfer cdb range.1 then Some (Read range.0 range.1) else None

abbrev pub write : List ℕ → ℕ × ℕ → Option Command
write cdb range = if may_transfer cdb range.1 then Some (Write range.0 range.1) else None

-- COMPARE AND WRITE has its number in one byte, so it is at most 255
abbrev pub compare : List ℕ → ℕ × ℕ → Option Command
compare cdb range = if asks_for_protection cdb then None else Some (Compare range.0 range.1)

-- WRITE SAME of no block is refused
abbrev pub write_same : List ℕ → ℕ × ℕ → Option Command
write_same cdb range =
    if range.1 == 0 then None else if may_transfer cdb range.1 then Some (Same range.0 range.1) else None

-- REQUEST SENSE: bit 0 of byte 1 asks for descriptor sense data, which is not there
abbrev pub request_sense : List ℕ → Option Command
request_sense cdb = if has_low_bit cdb then None else Some (RequestSense (slice_index cdb 4))

-- whether INQUIRY has such a page: 0 without EVPD, 00h and 80h with it
abbrev pub is_page : Bool → ℕ → Bool
is_page evpd page = (page == 0) || (evpd && (page == 0x80))

-- INQUIRY: bit 0 of byte 1 is EVPD, byte 2 the page
abbrev pub inquiry : List ℕ → Option Command
inquiry cdb =
    if is_page (has_low_bit cdb) (slice_index cdb 2)
    then Some (Inquiry (has_low_bit cdb) (slice_index cdb 2) (number_at 3 2 cdb))
    else None

-- UNMAP: bit 0 of byte 1 asks for anchored blocks, which are not there; bytes 7 to 8 are the length of its list
abbrev pub unmap : List ℕ → Option Command
unmap cdb = if has_low_bit cdb then None else Some (Unmap (number_at 7 2 cdb))

-- SERVICE ACTION IN(16): bits 4 to 0 of byte 1 are the service action, of which READ CAPACITY(16) is 10h
abbrev pub service_action_in : List ℕ → Option Command
service_action_in cdb =
    if slice_index cdb 1 % 32 == 0x10 then Some (Capacity16 (number_at 10 4 cdb)) else None

-- The commands by the length of their blocks and by their operation codes; none where a field is not valid.
abbrev pub command_of_6 : ℕ → List ℕ → Option Command
command_of_6 code cdb =
    if code == 0x00 then Some TestReady
    else if code == 0x03 then request_sense cdb
    else inquiry cdb

abbrev pub command_of_10 : ℕ → List ℕ → Option Command
command_of_10 code cdb =
    if code == 0x25 then Some Capacity10
    else if code == 0x28 then read cdb (range_10 cdb)
    else if code == 0x2a then write cdb (range_10 cdb)
    else if code == 0x35 then Some (Sync (range_10 cdb).0 (range_10 cdb).1)
    else unmap cdb

abbrev pub command_of_16 : ℕ → List ℕ → Option Command
command_of_16 code cdb =
    if code == 0x88 then read cdb (range_16 cdb)
    else if code == 0x89 then compare cdb (range_compare cdb)
    else if code == 0x8a then write cdb (range_16 cdb)
    else if code == 0x91 then Some (Sync (range_16 cdb).0 (range_16 cdb).1)
    else if code == 0x93 then write_same cdb (range_16 cdb)
    else service_action_in cdb

-- the operation codes of blocks of 6, 10 and 16 bytes: TEST UNIT READY, REQUEST SENSE and INQUIRY
abbrev pub is_code_of_6 : ℕ → Bool
is_code_of_6 code = (code == 0x00) || (code == 0x03) || (code == 0x12)

-- READ CAPACITY(10), READ(10), WRITE(10), SYNCHRONIZE CACHE(10) and UNMAP
abbrev pub is_code_of_10 : ℕ → Bool
is_code_of_10 code = (code == 0x25) || (code == 0x28) || (code == 0x2a) || (code == 0x35) || (code == 0x42)

-- READ(16), COMPARE AND WRITE, WRITE(16), SYNCHRONIZE CACHE(16), WRITE SAME(16) and SERVICE ACTION IN(16)
abbrev pub is_code_of_16 : ℕ → Bool
is_code_of_16 code =
    (code == 0x88) || (code == 0x89) || (code == 0x8a) || (code == 0x91) || (code == 0x93) || (code == 0x9e)

-- a block that is too short, or has a field that is not valid
abbrev pub of_length : ℕ → List ℕ → Option Command → Result Command Sense
of_length n cdb command =
    if nat_lt (length cdb) n then Err invalid_field_in_cdb else ok_or command invalid_field_in_cdb

-- the command that a block asks for, or the sense that refuses it
unfoldable pub decoded : List ℕ → Result Command Sense
decoded cdb =
    let code = slice_index cdb 0 in
    if is_code_of_6 code then of_length 6 cdb (command_of_6 code cdb)
    else if is_code_of_10 code then of_length 10 cdb (command_of_10 code cdb)
    else if is_code_of_16 code then of_length 16 cdb (command_of_16 code cdb)
    else Err invalid_operation_code

-- what the fields of a command that was let through are
abbrev pub IsLetThrough : Command → Type 0
IsLetThrough TestReady = ⊤
IsLetThrough (RequestSense alloc_len) = alloc_len ≤ 255
IsLetThrough (Inquiry evpd page alloc_len) = alloc_len ≤ 65535
IsLetThrough Capacity10 = ⊤
IsLetThrough (Read lba blocks) = blocks ≤ transfer_limit
IsLetThrough (Write lba blocks) = blocks ≤ transfer_limit
IsLetThrough (Sync lba blocks) = ⊤
IsLetThrough (Unmap list_len) = list_len ≤ 65535
IsLetThrough (Compare lba blocks) = blocks ≤ 255
IsLetThrough (Same lba blocks) = (1 ≤ blocks) × (blocks ≤ transfer_limit)
IsLetThrough (Capacity16 alloc_len) = ⊤

-- How many bytes come with a command: a block has 512, and COMPARE AND WRITE brings each twice, to compare and to write.
abbrev pub data_length : Command → ℕ
data_length TestReady = 0
data_length (RequestSense alloc_len) = 0
data_length (Inquiry evpd page alloc_len) = 0
data_length Capacity10 = 0
data_length (Read lba blocks) = 0
data_length (Write lba blocks) = 512 * blocks
data_length (Sync lba blocks) = 0
data_length (Unmap list_len) = list_len
data_length (Compare lba blocks) = 1024 * blocks
data_length (Same lba blocks) = 512
data_length (Capacity16 alloc_len) = 0
