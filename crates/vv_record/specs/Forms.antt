-- The forms of the fields of a record: numbers with names of their own, texts, and lists.
use Rattle.std.specs.Prelude.{ℕ, ◌-◌, ◌^◌, ◌==◌, ◌||◌, Bool, not, List, [], Option, Some, None, nat_eq, nat_lt, if◌then◌else◌}
use Rattle.std.specs.List.{list_any}
use Rattle.std.specs.Cmp.Lexicographic.{pointwise}
use Rattle.vv_units.specs.Names.{is_name, is_key, is_note}
use Rattle.vv_units.specs.Sizes.{volume_chunks_limit}
use Rattle.vv_units.specs.declared.volume.Offer.{Offer}
use Rattle.vv_units.specs.declared.volume.Need.{Need}
use Rattle.vv_units.specs.declared.volume.VvolType.{VvolType}
use Rattle.vv_units.specs.declared.volume.VvolType.TheVariants as vvol_type
use Rattle.vv_units.specs.declared.numbers.VolumeId.{VolumeId}
use Rattle.vv_units.specs.declared.numbers.ContainerId.{ContainerId}
use Rattle.vv_units.specs.declared.numbers.TaskId.{TaskId}
use Rattle.vv_units.specs.declared.numbers.HostId.{HostId}
use Rattle.vv_units.specs.declared.numbers.EndpointId.{EndpointId}
use Rattle.vv_units.specs.declared.numbers.Secondary.{Secondary}
use Rattle.vv_units.specs.declared.numbers.Place.{Place}
use Rattle.vv_record.specs.declared.record.ChunkRange.{ChunkRange}
use Rattle.vv_record.specs.declared.record.ChunkCopy.{ChunkCopy}
use Rattle.vv_record.specs.Reading.{Form, ◌>>=◌, done, number, bytes, allowed, number_within, items}

-- Numbers with names of their own.

unfoldable pub volume : Form VolumeId
volume = do
  value ← number 8
  done (record { 0 = value })

unfoldable pub container : Form ContainerId
container = do
  value ← number 8
  done (record { 0 = value })

unfoldable pub task : Form TaskId
task = do
  value ← number 8
  done (record { 0 = value })

unfoldable pub host : Form HostId
host = do
  value ← number_within 4 1 64
  done (record { 0 = value })

-- an endpoint of any number
unfoldable pub endpoint : Form EndpointId
endpoint = do
  value ← number 2
  done (record { 0 = value })

unfoldable pub secondary : Form Secondary
secondary = do
  value ← number 2
  done (record { 0 = value })

unfoldable pub place : Form Place
place = do
  value ← number 4
  done (record { 0 = value })

-- a quota is below 2^32
abbrev pub is_quota : ℕ → Bool
is_quota value = nat_lt value (2 ^ 32)

unfoldable pub quota : Form ℕ
quota = allowed is_quota (number 8)

-- the number of chunks of a volume
unfoldable pub size : Form ℕ
size = number_within 4 1 volume_chunks_limit

-- the type of a volume, from 0 to 4
abbrev pub type_numbered : ℕ → VvolType
type_numbered value =
    if value == 0 then vvol_type.Config
    else if value == 1 then vvol_type.Data
    else if value == 2 then vvol_type.Swap
    else if value == 3 then vvol_type.Memory
    else vvol_type.Other

unfoldable pub vvol_type_field : Form VvolType
vvol_type_field = do
  value ← number_within 1 0 4
  done (type_numbered value)

-- Texts: a length, and so many bytes.

-- byte for byte
abbrev pub same_text : List ℕ → List ℕ → Bool
same_text = pointwise nat_eq

unfoldable pub name_bytes : ℕ → Form (List ℕ)
name_bytes length = allowed is_name (bytes length)

-- a name that isn't taken
unfoldable pub other_name : (List ℕ → Bool) → Form (List ℕ)
other_name is_taken = do
  length ← number_within 1 1 24
  allowed (λ name. not (is_taken name)) (name_bytes length)

unfoldable pub key : Form (List ℕ)
key = do
  length ← number_within 1 1 32
  allowed is_key (bytes length)

unfoldable pub note : Form (List ℕ)
note = do
  length ← number_within 1 0 96
  allowed is_note (bytes length)

-- a note behind a 1, or a 0
unfoldable pub optional_note : Form (Option (List ℕ))
optional_note = do
  present ← number_within 1 0 1
  if present == 1 then (note >>= λ text. done (Some text)) else done None

-- Lists: a count, and so many items.

-- pairs of a name and a number, the names all different
abbrev pub offers_have : List Offer → List ℕ → Bool
offers_have offers name = list_any (λ offer. same_text offer.name name) offers

unfoldable pub offer : List Offer → Form Offer
offer before = do
  name ← other_name (offers_have before)
  value ← number 8
  done (record { name = name; value = value })

unfoldable pub offers : Form (List Offer)
offers = do
  count ← number_within 1 0 16
  items offer count []

abbrev pub needs_have : List Need → List ℕ → Bool
needs_have needs name = list_any (λ need. same_text need.name name) needs

unfoldable pub need : List Need → Form Need
need before = do
  name ← other_name (needs_have before)
  value ← number 8
  done (record { name = name; value = value })

unfoldable pub needs : Form (List Need)
needs = do
  count ← number_within 1 0 8
  items need count []

unfoldable pub places : Form (List Place)
places = do
  count ← number_within 2 1 257
  items (λ before. place) count []

unfoldable pub range : Form ChunkRange
range = do
  first_chunk ← number 4
  chunks ← number_within 4 1 (2 ^ 32 - 1)
  done (record { first_chunk = first_chunk; chunks = chunks })

unfoldable pub ranges : Form (List ChunkRange)
ranges = do
  count ← number_within 1 1 64
  items (λ before. range) count []

-- a list of endpoints has neither 0 nor an endpoint twice
abbrev pub endpoints_have : List EndpointId → EndpointId → Bool
endpoints_have endpoints endpoint = list_any (λ other. other.0 == endpoint.0) endpoints

abbrev pub is_other_endpoint : List EndpointId → EndpointId → Bool
is_other_endpoint before endpoint = not ((endpoint.0 == 0) || endpoints_have before endpoint)

unfoldable pub other_endpoint : List EndpointId → Form EndpointId
other_endpoint before = allowed (is_other_endpoint before) endpoint

unfoldable pub endpoints : Form (List EndpointId)
endpoints = do
  count ← number_within 1 0 8
  items other_endpoint count []

unfoldable pub copy : Form ChunkCopy
copy = do
  index ← number 4
  new ← place
  done (record { index = index; place = new })

unfoldable pub copies : Form (List ChunkCopy)
copies = do
  count ← number_within 1 0 16
  items (λ before. copy) count []
