use Rattle.vv_data.specs.Layout.{chunks_at}
use Rattle.vv_journal.proofs.Crash.{told_wider}
use Rattle.std.proofs.Common.{◌+◌, ◌++◌, IfSome, length, sym, subst, arith}
use Rattle.vv_disk.specs.Images.{overwritten}
use Rattle.vv_disk.proofs.Moments.{leaves_weaker}
use Rattle.vv_journal.specs.Calls.{ChangedWithin, HoldsOver}
use Rattle.vv_journal.specs.Switches.{SwitchingState, HasTables}
use Rattle.vv_journal.proofs.Switched.{has_more, other_over, told_then}
use Rattle.vv_journal.proofs.switch.Switching.put.Goals as goal

pub returns-in_err-put-clause-each : goal.returns-in_err-put-clause-each
returns-in_err-put-clause-each g c = λ honest log switch each.
    let over = other_over log (g.D.Disk.is_image c.args.disk.now) each c.args.self.now switch c.next.result (length c.args.piece.now) (omega (arith, c.next.ensures.start)) (omega (arith, c.next.ensures.start, c.next.ensures.within, c.requires.piece)) in
    λ image left. over image (c.put.ensures.each honest image left)

pub returns-in_err-put-clause-any_moment : goal.returns-in_err-put-clause-any_moment
returns-in_err-put-clause-any_moment g c = λ honest log switch each.
    let over = other_over log (g.D.Disk.is_image c.args.disk.now) each c.args.self.now switch c.next.result (length c.args.piece.now) (omega (arith, c.next.ensures.start)) (omega (arith, c.next.ensures.start, c.next.ensures.within, c.requires.piece)) in
    leaves_weaker g.D.Disk.moment g.D.Disk.left_since c.args.disk.now c.put.new.disk (ChangedWithin c.next.result (length c.args.piece.now) (g.D.Disk.is_image c.args.disk.now)) (HoldsOver log (g.D.Disk.is_image c.args.disk.now)) over (c.put.ensures.any_moment honest)

pub returns-clause-each : goal.returns-clause-each
returns-clause-each g c = λ honest log switch each.
    let over = other_over log (g.D.Disk.is_image c.args.disk.now) each c.args.self.now switch c.next.result (length c.args.piece.now) (omega (arith, c.next.ensures.start)) (omega (arith, c.next.ensures.start, c.next.ensures.within, c.requires.piece)) in
    λ image left. over image (c.put.ensures.each honest image left)

pub returns-clause-any_moment : goal.returns-clause-any_moment
returns-clause-any_moment g c = λ honest log switch each.
    let over = other_over log (g.D.Disk.is_image c.args.disk.now) each c.args.self.now switch c.next.result (length c.args.piece.now) (omega (arith, c.next.ensures.start)) (omega (arith, c.next.ensures.start, c.next.ensures.within, c.requires.piece)) in
    leaves_weaker g.D.Disk.moment g.D.Disk.left_since c.args.disk.now c.put.new.disk (ChangedWithin c.next.result (length c.args.piece.now) (g.D.Disk.is_image c.args.disk.now)) (HoldsOver log (g.D.Disk.is_image c.args.disk.now)) over (c.put.ensures.any_moment honest)

pub returns-clause-tables : goal.returns-clause-tables
returns-clause-tables g c = λ tables was.
    subst (λ (s : SwitchingState). IfSome (g.D.Disk.content c.put.new.disk) (HasTables s (tables ++ c.args.piece.now))) (sym c.count.ensures)
    (told_then (g.D.Disk.content c.args.disk.now) (g.D.Disk.content c.put.new.disk) (λ d. overwritten d c.next.result c.args.piece.now) (g.D.Disk.size c.args.disk.now) (HasTables c.args.self.now tables) (HasTables (record c.args.self.now { done = c.args.self.now.done + length c.args.piece.now }) (tables ++ c.args.piece.now))
    (λ d told. g.met.D.Disk.content_fits c.args.disk.now d told)
    c.in_ok-put.ensures.ok
    (λ d size has. has_more c.args.self.now tables c.args.piece.now d c.next.result c.next.ensures.start (omega (arith, size, c.requires.disk, c.requires.piece, c.next.ensures.start, c.next.ensures.within, c.next.ensures.fits)) has)
    was)

pub returns-in_err-put-clause-told : goal.returns-in_err-put-clause-told
returns-in_err-put-clause-told g c =
    told_wider c.next.result (length c.args.piece.now) 0 (chunks_at c.args.self.now.geometry) (g.D.Disk.content c.args.disk.now) (g.D.Disk.content c.put.new.disk) (omega arith) (omega (arith, c.next.ensures.start, c.next.ensures.within, c.next.ensures.fits, c.requires.piece)) c.put.ensures.told

pub returns-clause-told : goal.returns-clause-told
returns-clause-told g c =
    told_wider c.next.result (length c.args.piece.now) 0 (chunks_at c.args.self.now.geometry) (g.D.Disk.content c.args.disk.now) (g.D.Disk.content c.put.new.disk) (omega arith) (omega (arith, c.next.ensures.start, c.next.ensures.within, c.next.ensures.fits, c.requires.piece)) c.put.ensures.told
