use Rattle.std.proofs.Common.{map, ◌++◌}
use Rattle.vv_vols.specs.Rows.{volume_map, held_map}
use Rattle.vv_vols.proofs.EndedRows.{last_volume, ending_of, others_stay}
use Rattle.vv_vols.proofs.shelf_close.end_volumes.Goals as goal

pub release-requires : goal.release-requires
release-requires c =
    let held = map held_map c.args.held.now in
    let rows = c.loop-row.volumes.items in
    let rest = c.pop.new.self.items in
    let row = c.in-Some.row in
    ending_of c.loop-row.entries.store (map volume_map rows ++ held) (map volume_map rest) held row.map (last_volume rows rest row held c.in-Some.ensures.items) c.loop-row.invariant

pub loop-row-preserved : goal.loop-row-preserved
loop-row-preserved c =
    let held = map held_map c.args.held.now in
    let rows = c.loop-row.volumes.items in
    let rest = c.pop.new.self.items in
    let row = c.in-Some.row in
    others_stay c.loop-row.entries.store (map volume_map rows ++ held) (map volume_map rest) held row.map (last_volume rows rest row held c.in-Some.ensures.items) c.loop-row.invariant
    c.release.new.self.store c.release.ensures.others
