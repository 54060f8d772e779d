-- Short texts: the names of fields, and the forms of names, keys and notes.
use Rattle.std.specs.Prelude.{ℕ, ◌&&◌, ◌||◌, ◌==◌, Bool, not, List, length, codes, nat_le}
use Rattle.std.specs.List.{list_all}
use Rattle.vv_units.specs.declared.field.Field.{Field}
use Rattle.vv_units.specs.declared.field.Field.TheVariants.{Base, Binding, Call, Capabilities, Cdb, Chunks, Container, Count, Cut, Data, Endpoint, Endpoints, First, Host, Key, Last, Line, Pairs, Profile, Quota, Secondary, Shipment, SizeInMb, Snapshot, Source, Target, Task, Value, Vvol, VvolType, Vvols}

-- the name of a field in lines and replies
abbrev pub field_text : Field → List ℕ
field_text Base = codes "base"
field_text Binding = codes "binding"
field_text Call = codes "call"
field_text Capabilities = codes "capabilities"
field_text Cdb = codes "cdb"
field_text Chunks = codes "chunks"
field_text Container = codes "container"
field_text Count = codes "count"
field_text Cut = codes "cut"
field_text Data = codes "data"
field_text Endpoint = codes "endpoint"
field_text Endpoints = codes "endpoints"
field_text First = codes "first"
field_text Host = codes "host"
field_text Key = codes "key"
field_text Last = codes "last"
field_text Line = codes "line"
field_text Pairs = codes "pairs"
field_text Profile = codes "profile"
field_text Quota = codes "quota"
field_text Secondary = codes "secondary"
field_text Shipment = codes "shipment"
field_text SizeInMb = codes "sizeInMB"
field_text Snapshot = codes "snapshot"
field_text Source = codes "source"
field_text Target = codes "target"
field_text Task = codes "task"
field_text Value = codes "value"
field_text Vvol = codes "vvol"
field_text VvolType = codes "vvolType"
field_text Vvols = codes "vvols"

-- a character of a name: a lower-case letter, a digit or `-`
abbrev pub is_name_byte : ℕ → Bool
is_name_byte c = (nat_le 97 c && nat_le c 122) || (nat_le 48 c && nat_le c 57) || (c == 45)

-- the name of a capability has 1 to 24 such characters
abbrev pub is_name : List ℕ → Bool
is_name text = nat_le 1 (length text) && nat_le (length text) 24 && list_all is_name_byte text

-- a character of a key or a note: a printable character of ASCII, but neither `"` nor `\`
abbrev pub is_text_byte : ℕ → Bool
is_text_byte c = nat_le 32 c && nat_le c 126 && not (c == 34) && not (c == 92)

-- the key of a metadata pair has 1 to 32 such characters
abbrev pub is_key : List ℕ → Bool
is_key text = nat_le 1 (length text) && nat_le (length text) 32 && list_all is_text_byte text

-- the value of a metadata pair has at most 96 such characters
abbrev pub is_note : List ℕ → Bool
is_note text = nat_le (length text) 96 && list_all is_text_byte text
