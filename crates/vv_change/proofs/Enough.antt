-- What memory for an event is, where it is known which event it is.
use Rattle.std.proofs.Common.{ℕ, ◌≡◌, ◌≤◌, List, refl, subst, sym, ap, ◌∙◌}
use Rattle.vv_units.specs.declared.numbers.VolumeId.{VolumeId}
use Rattle.vv_units.specs.declared.numbers.Place.{Place}
use Rattle.vv_units.specs.declared.volume.Offer.{Offer}
use Rattle.vv_container.specs.declared.container.Container.{Container}
use Rattle.vv_record.specs.declared.record.ChunkRange.{ChunkRange}
use Rattle.vv_vols.specs.Rows.{RoomView}
use Rattle.vv_record.specs.declared.record.Event.{Event}
use Rattle.vv_record.specs.declared.record.Event.TheVariants.{MakeContainer, Write, Unmap, StartCopy}
use Rattle.vv_tables.specs.Seen.{TablesView}
use Rattle.vv_tables.specs.Copies.{differing}
use Rattle.vv_tables.specs.CopyRooms.{size_in_tables}
use Rattle.vv_tables.specs.Rooms.{IsChangeRoomOf, IsWriteRoom}
use Rattle.vv_change.specs.declared.room.Room.{Room}
use Rattle.vv_change.specs.declared.room.Room.TheVariants as room
use Rattle.vv_change.specs.Rooms.{IsRoomFor, IsContainer, HasContainer, HasPieces}

pub container_room : (t : TablesView) (e : Event) (r : Room) (quota : ℕ) (offers : List Offer) → e ≡ MakeContainer quota offers → IsRoomFor t e r → IsContainer r
container_room t e r quota offers is enough =
    let has : HasContainer quota offers r = subst (λ e. IsRoomFor t e r) is enough in
    (has.container, has.is)

same_list : (l m : RoomView) → room.List l ≡ room.List m → l ≡ m
same_list l m is = cc

pub pieces_room : (t : TablesView) (e : Event) (r : Room) (source base target : VolumeId) (list : RoomView) → e ≡ StartCopy source base target → IsRoomFor t e r
    → r ≡ room.List list → differing t.durable source.0 base.0 ≤ list.indexes
pieces_room t e r source base target list is enough of =
    let has : HasPieces t (differing t.durable source.0 base.0) r = subst (λ e. IsRoomFor t e r) is enough in
    subst (λ (l : RoomView). differing t.durable source.0 base.0 ≤ l.indexes) (same_list has.list list (sym has.is ∙ of)) has.all

-- ---- from what was taken
pub container_enough : (t : TablesView) (e : Event) (quota : ℕ) (offers : List Offer) (c : Container) → e ≡ MakeContainer quota offers
    → c.quota ≡ quota → c.offered ≡ offers → IsRoomFor t e (room.Container c)
container_enough t e quota offers c is quota_is offers_are =
    subst (λ e. IsRoomFor t e (room.Container c)) (sym is) (record { container = c; is = refl; quota_is = quota_is; offers_are = offers_are })

pub write_enough : (t : TablesView) (e : Event) (v : VolumeId) (first blocks : ℕ) (places : List Place) (write : RoomView) → e ≡ Write v first blocks places
    → IsWriteRoom t v.0 first blocks write → IsRoomFor t e (room.Write write)
write_enough t e v first blocks places write is enough =
    subst (λ e. IsRoomFor t e (room.Write write)) (sym is) (record { write = write; is = refl; enough = enough })

pub range_enough : (t : TablesView) (e : Event) (v : VolumeId) (ranges : List ChunkRange) (range : RoomView) (chunks : ℕ) → e ≡ Unmap v ranges
    → chunks ≡ size_in_tables t.durable v.0 → IsChangeRoomOf t v.0 0 chunks range → IsRoomFor t e (room.Range range)
range_enough t e v ranges range chunks is size enough =
    subst (λ e. IsRoomFor t e (room.Range range)) (sym is) (record { range = range; is = refl; enough = subst (λ n. IsChangeRoomOf t v.0 0 n range) size enough })
