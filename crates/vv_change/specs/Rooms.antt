-- Memory for an event: which one it is, and that it is enough.
use Rattle.std.specs.Prelude.{ℕ, ◌≡◌, ◌≤◌, ◌+◌, List, [], Option, ⊤}
use Rattle.vv_units.specs.Pairs.{after_set}
use Rattle.vv_units.specs.declared.volume.VvolType.{VvolType}
use Rattle.vv_units.specs.declared.volume.VolumeKind.TheVariants.{Plain}
use Rattle.vv_units.specs.declared.volume.Offer.{Offer}
use Rattle.vv_units.specs.declared.volume.Need.{Need}
use Rattle.vv_container.specs.declared.container.Container.{Container}
use Rattle.vv_flat.specs.Chunks.{shape_of_tables}
use Rattle.vv_flat.specs.Changes.{metadata_of}
use Rattle.vv_map.specs.Pages.{pages_for}
use Rattle.vv_vols.specs.declared.head.Head.{Head}
use Rattle.vv_vols.specs.Rows.{RoomView, IsListRoom}
use Rattle.vv_record.specs.declared.record.Event.{Event}
use Rattle.vv_record.specs.declared.record.Event.TheVariants.{MakeContainer, MakeVolume, DeleteVolume, GrowVolume, SetMetadata, Snapshot, FastClone, Revert, Write, Unmap, SetEndpoints, Bind, Unbind, UnbindAll, StartClone, StartCopy, Turn, Cancel}
use Rattle.vv_tables.specs.Seen.{TablesView}
use Rattle.vv_tables.specs.Rooms.{IsChangeRoomOf, IsWriteRoom}
use Rattle.vv_tables.specs.CopyRooms.{CloneRoomView, size_in_tables, IsCopyRoom, IsCloneRoom}
use Rattle.vv_tables.specs.Copies.{differing}
use Rattle.vv_tables.specs.TurnRooms.{IsTurnRoom}
use Rattle.vv_tables.specs.declared.turn_room.RoomKind.{RoomKind}
use Rattle.vv_change.specs.declared.room.Room.{Room}
use Rattle.vv_change.specs.declared.room.Room.TheVariants as room

-- ---- which memory it is
abbrev pub IsContainer : Room → Type 0
IsContainer r = (c : Container) × (r ≡ room.Container c)

abbrev pub IsVolume : Room → Type 0
IsVolume r = (head : Head) × ((list : RoomView) × (r ≡ room.Volume head list))

abbrev pub IsPairs : Room → Type 0
IsPairs r = (pairs : List (List ℕ × List ℕ)) × (r ≡ room.Pairs pairs)

abbrev pub IsList : Room → Type 0
IsList r = (list : RoomView) × (r ≡ room.List list)

abbrev pub IsCopy : Room → Type 0
IsCopy r = (copy : RoomView) × (r ≡ room.Copy copy)

abbrev pub IsWrite : Room → Type 0
IsWrite r = (write : RoomView) × (r ≡ room.Write write)

abbrev pub IsRange : Room → Type 0
IsRange r = (range : RoomView) × (r ≡ room.Range range)

abbrev pub IsClone : Room → Type 0
IsClone r = (clone : CloneRoomView) × (r ≡ room.Clone clone)

abbrev pub IsTurn : Room → Type 0
IsTurn r = (turn : RoomKind) × (r ≡ room.Turn turn)

-- for how many further lists it has the memory of a row
abbrev pub rows_of : Room → ℕ
rows_of room.Without = 0
rows_of (room.Container container) = 0
rows_of (room.Volume head list) = 1
rows_of (room.Pairs pairs) = 0
rows_of (room.List list) = 1
rows_of (room.Copy copy) = 1
rows_of (room.Write write) = 0
rows_of (room.Range range) = 0
rows_of (room.Clone clone) = 2
rows_of (room.Turn turn) = 0

-- ---- memory that is enough for each kind
-- the container that is made
pub record HasContainer (quota : ℕ) (offers : List Offer) (r : Room) : Type 0 where
  pub container : Container
  pub is : r ≡ room.Container container
  pub quota_is : container.quota ≡ quota
  pub offers_are : container.offered ≡ offers

-- the head of a volume that is made: it is plain, and was never reverted
pub record IsNewHead (container : ℕ) (vtype : VvolType) (needs : List Need) (head : Head) : Type 0 where
  pub container_is : head.container.0 ≡ container
  pub vtype_is : head.vtype ≡ vtype
  pub needs_are : head.needs ≡ needs
  pub plain : head.kind ≡ Plain
  pub never : head.reverted ≡ 0
  pub bare : head.metadata ≡ []

pub record HasVolume (t : TablesView) (container : ℕ) (vtype : VvolType) (chunks : ℕ) (needs : List Need) (r : Room) : Type 0 where
  pub head : Head
  pub list : RoomView
  pub is : r ≡ room.Volume head list
  pub head_is : IsNewHead container vtype needs head
  pub enough : IsListRoom chunks list
  pub row : 1 ≤ t.rooms

-- the metadata of a volume as they will be
pub record HasPairs (t : TablesView) (volume : ℕ) (key : List ℕ) (note : Option (List ℕ)) (r : Room) : Type 0 where
  pub pairs : List (List ℕ × List ℕ)
  pub is : r ≡ room.Pairs pairs
  pub after : pairs ≡ after_set (metadata_of (shape_of_tables t.durable) volume) key note

-- a list of so many entries
pub record HasList (t : TablesView) (chunks : ℕ) (r : Room) : Type 0 where
  pub list : RoomView
  pub is : r ≡ room.List list
  pub enough : IsListRoom chunks list
  pub row : 1 ≤ t.rooms

-- .. for at least so many pieces
pub record HasPieces (t : TablesView) (pieces : ℕ) (r : Room) : Type 0 where
  pub list : RoomView
  pub is : r ≡ room.List list
  pub enough : IsListRoom list.indexes list
  pub all : pieces ≤ list.indexes
  pub row : 1 ≤ t.rooms

pub record HasCopy (t : TablesView) (volume : ℕ) (r : Room) : Type 0 where
  pub copy : RoomView
  pub is : r ≡ room.Copy copy
  pub enough : IsCopyRoom t volume copy
  pub row : 1 ≤ t.rooms

pub record HasWrite (t : TablesView) (volume first blocks : ℕ) (r : Room) : Type 0 where
  pub write : RoomView
  pub is : r ≡ room.Write write
  pub enough : IsWriteRoom t volume first blocks write

pub record HasRange (t : TablesView) (volume : ℕ) (r : Room) : Type 0 where
  pub range : RoomView
  pub is : r ≡ room.Range range
  pub enough : IsChangeRoomOf t volume 0 (size_in_tables t.durable volume) range

pub record HasClone (t : TablesView) (volume : ℕ) (r : Room) : Type 0 where
  pub clone : CloneRoomView
  pub is : r ≡ room.Clone clone
  pub enough : IsCloneRoom t volume clone
  pub rows : 2 ≤ t.rooms

pub record HasTurn (t : TablesView) (task : ℕ) (r : Room) : Type 0 where
  pub turn : RoomKind
  pub is : r ≡ room.Turn turn
  pub enough : IsTurnRoom t task turn

-- Memory for an event over tables, kind by kind.
abbrev pub IsRoomFor : TablesView → Event → Room → Type 0
IsRoomFor t (MakeContainer quota offers) r = HasContainer quota offers r
IsRoomFor t (MakeVolume container vtype chunks needs) r = HasVolume t container.0 vtype chunks needs r
IsRoomFor t (DeleteVolume volume) r = r ≡ room.Without
IsRoomFor t (GrowVolume volume chunks) r = HasList t chunks r
IsRoomFor t (SetMetadata volume key note) r = HasPairs t volume.0 key note r
IsRoomFor t (Snapshot volume) r = HasCopy t volume.0 r
IsRoomFor t (FastClone volume) r = HasCopy t volume.0 r
IsRoomFor t (Revert volume snapshot) r = HasList t (size_in_tables t.durable snapshot.0) r
IsRoomFor t (Write volume first blocks places) r = HasWrite t volume.0 first blocks r
IsRoomFor t (Unmap volume ranges) r = HasRange t volume.0 r
IsRoomFor t (SetEndpoints host endpoints) r = r ≡ room.Without
IsRoomFor t (Bind host volume) r = r ≡ room.Without
IsRoomFor t (Unbind host endpoint secondary) r = r ≡ room.Without
IsRoomFor t (UnbindAll host) r = r ≡ room.Without
IsRoomFor t (StartClone volume) r = HasClone t volume.0 r
IsRoomFor t (StartCopy source base target) r = HasPieces t (differing t.durable source.0 base.0) r
IsRoomFor t (Turn task copies) r = HasTurn t task.0 r
IsRoomFor t (Cancel task) r = r ≡ room.Without

-- A whole copy takes a step for each page of 64 entries, however many are allocated.
abbrev pub IsCheap : TablesView → Event → ℕ → ℕ → Type 0
IsCheap t (Snapshot volume) old new = new ≤ old + pages_for (size_in_tables t.durable volume.0)
IsCheap t (FastClone volume) old new = new ≤ old + pages_for (size_in_tables t.durable volume.0)
IsCheap t (Revert volume snapshot) old new = new ≤ old + pages_for (size_in_tables t.durable snapshot.0)
IsCheap t (StartClone volume) old new = new ≤ old + pages_for (size_in_tables t.durable volume.0)
IsCheap t _ old new = ⊤
