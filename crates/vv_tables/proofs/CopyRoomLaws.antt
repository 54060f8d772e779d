-- Memory for a copy of a volume, as the shelf takes it.
use Rattle.std.proofs.Common.{ℕ, ◌≡◌, length, Some, refl, subst, ◌∙◌}
use Rattle.vv_flat.specs.Lists.{if_found}
use Rattle.vv_flat.specs.State.{Volume, Durable, volume_of}
use Rattle.vv_flat.specs.Chunks.{Entry}
use Rattle.vv_vols.specs.declared.head.Head.{Head}
use Rattle.vv_vols.specs.Rows.{RoomView, IsListRoom}
use Rattle.vv_tables.specs.CopyRooms.{size_in_tables, IsHeadIn, HasCopy, HasClone}
use Rattle.vv_tables.proofs.ShapeVolumes.{size_is}

-- a room for a list of the volume's size, with the head put in
pub copy_room : (d : Durable Entry) (n chunks : ℕ) (head : Head) (room : RoomView) → chunks ≡ if_found (volume_of d n) (λ (v : Volume Entry). length v.chunks) 0
    → IsListRoom chunks room → IsHeadIn d n head → HasCopy d n (record room { head = Some head })
copy_room d n chunks head room size list is =
    let enough : IsListRoom (size_in_tables d n) room = subst (λ k. IsListRoom k room) (size ∙ size_is d n) list in
    record {
      list = record { pages = enough.pages; numbers = enough.numbers; indexes = enough.indexes };
      put_in = refl;
      head = is;
    }

-- two rooms for lists of the volume's size, and its head
pub clone_room : (d : Durable Entry) (n chunks : ℕ) (head : Head) (image target : RoomView) → chunks ≡ if_found (volume_of d n) (λ (v : Volume Entry). length v.chunks) 0
    → IsListRoom chunks image → IsListRoom chunks target → IsHeadIn d n head → HasClone d n (record { head = head; image = image; target = target })
clone_room d n chunks head image target size first second is = record {
  head = is;
  image = subst (λ k. IsListRoom k image) (size ∙ size_is d n) first;
  target = subst (λ k. IsListRoom k target) (size ∙ size_is d n) second;
}
