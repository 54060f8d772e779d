-- Memory for a copy of a volume.
use Rattle.std.specs.Prelude.{ℕ, ◌≡◌, IsSome, IfSome}
use Rattle.vv_flat.specs.State.{Volume, Durable, volume_of}
use Rattle.vv_flat.specs.Chunks.{Entry, shape_of_tables}
use Rattle.vv_flat.specs.Changes.{size_of}
use Rattle.vv_vols.specs.declared.head.Head.{Head}
use Rattle.vv_vols.specs.Rows.{RoomView, IsListRoom, volume_with}
use Rattle.vv_tables.specs.Seen.{TablesView}

-- how many chunks a volume of tables has
abbrev pub size_in_tables : Durable Entry → ℕ → ℕ
size_in_tables d n = size_of (shape_of_tables d) n

-- a head is that of a volume as it stands
abbrev pub IsHeadIn : Durable Entry → ℕ → Head → Type 0
IsHeadIn d n head = IfSome (volume_of d n) (λ (v : Volume Entry). volume_with n head v.chunks ≡ v)

-- memory for a list as long as that of a volume, with its head
pub record HasCopy (d : Durable Entry) (n : ℕ) (room : RoomView) : Type 0 where
  pub list : IsListRoom (size_in_tables d n) room
  pub put_in : IsSome room.head
  pub head : IfSome room.head (λ head. IsHeadIn d n head)

-- .. of a volume of tables
abbrev pub IsCopyRoom : TablesView → ℕ → RoomView → Type 0
IsCopyRoom t n room = HasCopy t.durable n room

-- ---- full clones
-- Memory for a full clone: the head that its volume will have, and room for the lists of its image and its target.
pub record CloneRoomView : Type 0 where
  pub head : Head
  pub image : RoomView
  pub target : RoomView

-- the head is that of a volume, and both lists are as long as its list
pub record HasClone (d : Durable Entry) (n : ℕ) (room : CloneRoomView) : Type 0 where
  pub head : IsHeadIn d n room.head
  pub image : IsListRoom (size_in_tables d n) room.image
  pub target : IsListRoom (size_in_tables d n) room.target

-- .. of a volume of tables
abbrev pub IsCloneRoom : TablesView → ℕ → CloneRoomView → Type 0
IsCloneRoom t n room = HasClone t.durable n room
