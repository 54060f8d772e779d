use Rattle.std.proofs.Common.{[], map, subst}
use Rattle.std.proofs.lemmas.List.{append-nil}
use Rattle.vv_entries.specs.Owners.{AreAllLists}
use Rattle.vv_vols.specs.Rows.{held_map}
use Rattle.vv_vols.proofs.EndedRows.{last_held, ending_of, others_stay}
use Rattle.vv_vols.proofs.shelf_close.end_held.Goals as goal

pub release-requires : goal.release-requires
release-requires c =
    let rows = c.loop-row.held.items in
    let rest = c.pop.new.self.items in
    let row = c.in-Some.row in
    ending_of c.loop-row.entries.store (map held_map rows) (map held_map rest) [] row.map (last_held rows rest row c.in-Some.ensures.items) c.loop-row.invariant

pub loop-row-preserved : goal.loop-row-preserved
loop-row-preserved c =
    let rows = c.loop-row.held.items in
    let rest = c.pop.new.self.items in
    let row = c.in-Some.row in
    subst (AreAllLists c.release.new.self.store) (append-nil (map held_map rest))
    (others_stay c.loop-row.entries.store (map held_map rows) (map held_map rest) [] row.map (last_held rows rest row c.in-Some.ensures.items) c.loop-row.invariant c.release.new.self.store c.release.ensures.others)
