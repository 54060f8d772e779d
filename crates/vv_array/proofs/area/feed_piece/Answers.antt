use Rattle.std.proofs.Common.{length}
use Rattle.vv_array.proofs.OpenedArea.{piece_fed, piece_fails, fault_told_as, read_by}
use Rattle.vv_array.specs.OpeningSteps.{area_found, fault_of_area}
use Rattle.vv_array.proofs.area.feed_piece.Goals as goal

pub returns-in-Ok-clause-fed : goal.returns-in-Ok-clause-fed
returns-in-Ok-clause-fed g c =
    piece_fed c.args.reader.now c.feed.new.reader c.args.head.now c.args.at (length c.args.piece.now) (g.D.Disk.content c.args.disk.now) c.read_area.new.into c.requires.fed c.feed.ensures.bytes (read_by (g.D.Disk.content c.args.disk.now) c.args.journal.now c.args.head.now c.args.at (length c.args.piece.now) c.read_area.new.into c.requires.journal c.in_ok-read_area.ensures.bytes) c.in-Ok.ensures.ok

pub returns-in-Err-clause-fault : goal.returns-in-Err-clause-fault
returns-in-Err-clause-fault g c =
    fault_told_as (g.D.Disk.content c.args.disk.now) (area_found c.args.head.now) (fault_of_area c.args.head.now.half c.in-Err.fault) _ c.area_fault.ensures.fault
    (piece_fails c.args.reader.now c.args.head.now c.args.at (length c.args.piece.now) (g.D.Disk.content c.args.disk.now) c.read_area.new.into c.in-Err.fault c.requires.within c.requires.fed (read_by (g.D.Disk.content c.args.disk.now) c.args.journal.now c.args.head.now c.args.at (length c.args.piece.now) c.read_area.new.into c.requires.journal c.in_ok-read_area.ensures.bytes) c.in-Err.ensures.fault)
