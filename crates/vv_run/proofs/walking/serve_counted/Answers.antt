use Rattle.std.proofs.Common.{◌∙◌, ◌<◌, ◌≤◌, ℕ, List, length, Some, None, sym, subst, arith}
use Rattle.std.specs.Prelude.{Option}
use Rattle.vv_disk.specs.Images.{LeavesOnly}
use Rattle.vv_calls.specs.Lines.{line_limit}
use Rattle.vv_calls.specs.declared.call.LineFault.TheVariants.{LineTooLong}
use Rattle.vv_profile.specs.Known.{all_known}
use Rattle.vv_reply.specs.declared.reply.Reply.TheVariants as a_reply
use Rattle.vv_meaning.specs.Steps.{State}
use Rattle.vv_array.specs.Standing.{StandsFor}
use Rattle.vv_array.proofs.StateImages.{stands_each}
use Rattle.vv_run.specs.Bounds.{AreBounded}
use Rattle.vv_run.specs.Runs.{Reported}
use Rattle.vv_run.specs.Tallies.{Counts}
use Rattle.vv_run.proofs.BoundLemmas.{too_long_cause}
use Rattle.vv_run.proofs.ServingLemmas.{too_long}
use Rattle.vv_run.proofs.LoadingLemmas.{given_long, given_short, given_blank, counts_none, reported_none, reported_one}
use Rattle.vv_run.proofs.walking.serve_counted.Goals as goal

pub returns-then-line-gt-LINE_LIMIT-clause-served : goal.returns-then-line-gt-LINE_LIMIT-clause-served
returns-then-line-gt-LINE_LIMIT-clause-served g c = λ honest start stands.
    let disk = g.D.Disk in
    let long : line_limit < length c.args.line.now = omega arith in
    let stands_now : State → Type 0 = StandsFor c.args.array.now (disk.content c.args.disk.now) (disk.is_image c.args.disk.now) in
    let P : List (Option (List ℕ)) → Type 0 = λ lines. Reported (all_known c.args.capabilities.now) start (Counts c.args.tally.now c.count.new.self) stands_now
    (LeavesOnly disk.moment disk.left_since c.args.disk.now c.args.disk.now)
    (AreBounded (disk.read_faults c.args.disk.now) (disk.read_faults c.args.disk.now) (disk.write_faults c.args.disk.now) (disk.write_faults c.args.disk.now)) lines in
    subst P (sym (given_long line_limit c.args.line.now long))
    (reported_one disk.moment disk.left_since disk.read_faults disk.write_faults (all_known c.args.capabilities.now) start None (record { recovered = None; answer = a_reply.Line LineTooLong })
    (Counts c.args.tally.now c.count.new.self) stands_now c.args.disk.now c.args.disk.now
    (too_long disk.moment disk.left_since disk.read_faults disk.write_faults (all_known c.args.capabilities.now) start stands_now c.args.disk.now stands
    (λ image left. stands_each c.args.array.now (disk.content c.args.disk.now) (disk.is_image c.args.disk.now) start stands image (g.met.D.Disk.only_now c.args.disk.now image left)))
    c.count.ensures.counts (too_long_cause (disk.read_faults c.args.disk.now) (disk.write_faults c.args.disk.now)) (omega arith) (omega arith))

pub returns-then-has_more-clause-served : goal.returns-then-has_more-clause-served
returns-then-has_more-clause-served g c = λ honest start stands.
    let disk = g.D.Disk in
    let short : length c.args.line.now ≤ line_limit = omega arith in
    let stands_next : State → Type 0 = StandsFor c.serve_line.new.array (disk.content c.serve_line.new.disk) (disk.is_image c.serve_line.new.disk) in
    let P : List (Option (List ℕ)) → Type 0 = λ lines. Reported (all_known c.args.capabilities.now) start (Counts c.args.tally.now c.count-then-has_more.new.self) stands_next
    (LeavesOnly disk.moment disk.left_since c.args.disk.now c.serve_line.new.disk)
    (AreBounded (disk.read_faults c.args.disk.now) (disk.read_faults c.serve_line.new.disk) (disk.write_faults c.args.disk.now) (disk.write_faults c.serve_line.new.disk)) lines in
    subst P (sym (given_short line_limit c.args.line.now short (sym c.has_more.ensures ∙ c.if-has_more.true)))
    (reported_one disk.moment disk.left_since disk.read_faults disk.write_faults (all_known c.args.capabilities.now) start (Some c.args.line.now)
    (record { recovered = c.serve_line.result.recovered; answer = c.serve_line.result.reply })
    (Counts c.args.tally.now c.count-then-has_more.new.self) stands_next c.args.disk.now c.serve_line.new.disk
    (c.serve_line.ensures.step honest start stands) c.count-then-has_more.ensures.counts c.serve_line.ensures.cause c.serve_line.ensures.reads c.serve_line.ensures.writes)

pub returns-else-has_more-clause-served : goal.returns-else-has_more-clause-served
returns-else-has_more-clause-served g c = λ honest start stands.
    let disk = g.D.Disk in
    let short : length c.args.line.now ≤ line_limit = omega arith in
    let stands_now : State → Type 0 = StandsFor c.args.array.now (disk.content c.args.disk.now) (disk.is_image c.args.disk.now) in
    let P : List (Option (List ℕ)) → Type 0 = λ lines. Reported (all_known c.args.capabilities.now) start (Counts c.args.tally.now c.args.tally.now) stands_now
    (LeavesOnly disk.moment disk.left_since c.args.disk.now c.args.disk.now)
    (AreBounded (disk.read_faults c.args.disk.now) (disk.read_faults c.args.disk.now) (disk.write_faults c.args.disk.now) (disk.write_faults c.args.disk.now)) lines in
    subst P (sym (given_blank line_limit c.args.line.now short (sym c.has_more.ensures ∙ c.if-has_more.false)))
    (reported_none disk.moment disk.left_since disk.read_faults disk.write_faults (all_known c.args.capabilities.now) start (Counts c.args.tally.now c.args.tally.now) stands_now c.args.disk.now
    (counts_none c.args.tally.now) stands
    (λ image left. stands_each c.args.array.now (disk.content c.args.disk.now) (disk.is_image c.args.disk.now) start stands image (g.met.D.Disk.only_now c.args.disk.now image left)))
