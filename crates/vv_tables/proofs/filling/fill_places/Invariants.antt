use Rattle.std.proofs.Common.{◌≡◌, drop}
use Rattle.vv_tables.specs.Filling.{MayFill, with_filled, copy_indexes, copy_places}
use Rattle.vv_tables.proofs.filling.fill_places.Given as goal

abbrev pub invariant-loop-copy : goal.invariant-loop-copy
invariant-loop-copy l = record {
  target : l.target ≡ l.fn.target;
  may : MayFill l.shelf.shelf l.fn.target.number l.fn.stamp (copy_indexes (drop l.copy-index l.fn.copies)) (copy_places (drop l.copy-index l.fn.copies));
  leads : with_filled l.shelf.shelf l.fn.target.number l.fn.stamp (copy_indexes (drop l.copy-index l.fn.copies)) (copy_places (drop l.copy-index l.fn.copies)) ≡ with_filled l.fn.shelf.shelf l.fn.target.number l.fn.stamp (copy_indexes l.fn.copies) (copy_places l.fn.copies);
  rooms : l.shelf.rooms ≡ l.fn.shelf.rooms;
  taken : l.taken ≡ l.fn.taken;
}
