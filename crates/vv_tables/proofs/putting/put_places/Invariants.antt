use Rattle.std.proofs.Common.{◌≡◌, ◌+◌, ◌*◌, ◌≤◌, [], ◌∷◌, length, drop}
use Rattle.vv_vols.specs.Rows.{KeepsOwn}
use Rattle.vv_vols.specs.Rooms.{AreGood, for_change}
use Rattle.vv_tables.specs.Putting.{place_numbers, MayPut}
use Rattle.vv_tables.proofs.PutRanges.{put_from}
use Rattle.vv_tables.proofs.putting.put_places.Given as goal

abbrev pub invariant-loop-place : goal.invariant-loop-place
invariant-loop-place g l = record {
  index : l.index ≡ l.fn.first + l.place-index;
  may : MayPut l.shelf.shelf l.fn.volume.0 l.index l.fn.stamp (place_numbers (drop l.place-index l.fn.places));
  leads : put_from l.shelf.shelf l.fn.volume.0 l.index l.fn.stamp (place_numbers (drop l.place-index l.fn.places)) ≡ put_from l.fn.shelf.shelf l.fn.volume.0 l.fn.first l.fn.stamp (place_numbers l.fn.places);
  room : AreGood l.shelf (for_change l.fn.volume.0 l.fn.first (length l.fn.places) l.room ∷ []);
  rooms : l.shelf.rooms ≡ l.fn.shelf.rooms;
  kept : KeepsOwn l.fn.shelf l.shelf;
  taken : l.taken ≡ l.fn.taken;
  steps : l.steps ≤ l.fn.steps + 64 * l.place-index;
}
