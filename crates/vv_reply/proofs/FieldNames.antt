-- The names of fields are short. It serves the writer of names.
use Rattle.std.proofs.Common.{◌≤◌, length, lit≤}
use Rattle.vv_units.specs.Names.{field_text}
use Rattle.vv_units.specs.declared.field.Field.{Field}
use Rattle.vv_units.specs.declared.field.Field.TheVariants.{Base, Binding, Call, Capabilities, Cdb, Chunks, Container, Count, Cut, Data, Endpoint, Endpoints, First, Host, Key, Last, Line, Pairs, Profile, Quota, Secondary, Shipment, SizeInMb, Snapshot, Source, Target, Task, Value, Vvol, VvolType, Vvols}

pub field_text_short : (name : Field) → length (field_text name) ≤ 32
field_text_short Base = lit≤ tt
field_text_short Binding = lit≤ tt
field_text_short Call = lit≤ tt
field_text_short Capabilities = lit≤ tt
field_text_short Cdb = lit≤ tt
field_text_short Chunks = lit≤ tt
field_text_short Container = lit≤ tt
field_text_short Count = lit≤ tt
field_text_short Cut = lit≤ tt
field_text_short Data = lit≤ tt
field_text_short Endpoint = lit≤ tt
field_text_short Endpoints = lit≤ tt
field_text_short First = lit≤ tt
field_text_short Host = lit≤ tt
field_text_short Key = lit≤ tt
field_text_short Last = lit≤ tt
field_text_short Line = lit≤ tt
field_text_short Pairs = lit≤ tt
field_text_short Profile = lit≤ tt
field_text_short Quota = lit≤ tt
field_text_short Secondary = lit≤ tt
field_text_short Shipment = lit≤ tt
field_text_short SizeInMb = lit≤ tt
field_text_short Snapshot = lit≤ tt
field_text_short Source = lit≤ tt
field_text_short Target = lit≤ tt
field_text_short Task = lit≤ tt
field_text_short Value = lit≤ tt
field_text_short Vvol = lit≤ tt
field_text_short VvolType = lit≤ tt
field_text_short Vvols = lit≤ tt
