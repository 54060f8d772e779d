use Rattle.std.proofs.Common.{◌∙◌, ℕ, List, Some, refl, ap, subst}
use Rattle.std.specs.Prelude.{Option}
use Rattle.vv_disk.specs.Images.{EachImage, LeavesOnly}
use Rattle.vv_flat.specs.State.{empty_array}
use Rattle.vv_profile.specs.Known.{all_known}
use Rattle.vv_meaning.specs.Steps.{State, Report, Up}
use Rattle.vv_array.specs.Moments.{StandsForOne}
use Rattle.vv_array.proofs.StateImages.{stands_each}
use Rattle.vv_run.specs.declared.words.Command.TheVariants.{New}
use Rattle.vv_run.specs.Bounds.{AreBounded}
use Rattle.vv_run.specs.Lines.{lines_of}
use Rattle.vv_run.specs.Runs.{Reported}
use Rattle.vv_run.specs.Starts.{LeavesSince}
use Rattle.vv_run.proofs.BoundLemmas.{bounded_before}
use Rattle.vv_run.proofs.TopLemmas.{leaves_since}
use Rattle.vv_run.proofs.LoadingLemmas.{reported_over}
use Rattle.vv_run.proofs.LoadedLemmas.{ends_over, not_opened}
use Rattle.vv_run.proofs.loading.load.Goals as goal

pub returns-in-Ok-begin-clause-ends : goal.returns-in-Ok-begin-clause-ends
returns-in-Ok-begin-clause-ends g c =
    let sink = g.K.Sink in
    let disk = g.D.Disk in
    let sizes = c.args.sizes in
    let start : State = Up (empty_array sizes) in
    let mid = c.begin.new.disk in
    let new = c.load_begun.new.disk in
    let begun = c.in-Ok-begin.ensures in
    ends_over c.load_begun.result (sink.taken c.args.sink.now) (sink.taken c.load_begun.new.sink) _ _
    (λ (told : List Report → Type 0) served honest.
    let stands = begun.stands honest start (begun.fit, refl) in
    let P : List (Option (List ℕ)) → Type 0 = λ lines. Reported (all_known c.args.capabilities.now) start told
    (λ state. EachImage (StandsForOne state) (disk.is_image new)) (LeavesSince disk.moment disk.left_since disk.is_image (Some (New sizes)) start c.args.disk.now new)
    (AreBounded (disk.read_faults c.args.disk.now) (disk.read_faults new) (disk.write_faults c.args.disk.now) (disk.write_faults new)) lines in
    subst P (ap lines_of (c.deref.ensures.value ∙ c.in-Ok.ensures))
    (reported_over (all_known c.args.capabilities.now) start told told (λ state. EachImage (StandsForOne state) (disk.is_image new)) (λ state. EachImage (StandsForOne state) (disk.is_image new))
    (LeavesOnly disk.moment disk.left_since mid new) (LeavesSince disk.moment disk.left_since disk.is_image (Some (New sizes)) start c.args.disk.now new)
    (AreBounded (disk.read_faults mid) (disk.read_faults new) (disk.write_faults mid) (disk.write_faults new))
    (AreBounded (disk.read_faults c.args.disk.now) (disk.read_faults new) (disk.write_faults c.args.disk.now) (disk.write_faults new))
    (lines_of c.deref.result.now) (λ reports so. so) (λ state so. so)
    (leaves_since disk.moment disk.left_since disk.is_image (Some (New sizes)) (New sizes) start (disk.size c.args.disk.now) (disk.content c.args.disk.now) c.args.disk.now mid new refl (begun.fit, refl)
    (λ run. absurd (not_opened sizes run)) (begun.later honest)
    (stands_each c.in-Ok-begin.begun.array (disk.content mid) (disk.is_image mid) start stands.0))
    (λ reports. bounded_before (disk.read_faults c.args.disk.now) (disk.read_faults mid) (disk.read_faults new)
    (disk.write_faults c.args.disk.now) (disk.write_faults mid) (disk.write_faults new) reports begun.reads begun.writes)
    (served (begun.honesty.1 honest) start stands.0))) c.load_begun.ensures.ends
