use Rattle.std.proofs.Common.{◌≡◌, ◌∙◌, ◌+◌, ℕ, List, Some, sym, ap, subst, take, drop}
use Rattle.std.specs.Prelude.{Option}
use Rattle.vv_disk.specs.Images.{EachImage}
use Rattle.vv_units.specs.declared.geometry.Geometry.{Geometry}
use Rattle.vv_flat.specs.State.{empty_array}
use Rattle.vv_gen.specs.Script.{script}
use Rattle.vv_meaning.specs.Steps.{Up}
use Rattle.vv_profile.specs.Known.{all_known}
use Rattle.vv_io.specs.Reading.{script_limit}
use Rattle.vv_array.specs.Moments.{StandsForOne}
use Rattle.vv_array.proofs.StateImages.{stands_each}
use Rattle.vv_run.specs.declared.words.Command.{Command}
use Rattle.vv_run.specs.declared.words.Command.TheVariants.{New}
use Rattle.vv_run.specs.declared.words.Recipe.{Recipe}
use Rattle.vv_run.specs.declared.words.Request.TheVariants as request
use Rattle.vv_run.specs.Bounds.{AreBounded}
use Rattle.vv_run.specs.Lines.{lines_of, ended_lines_of, lines_answered}
use Rattle.vv_run.specs.Replies.{recovered_line}
use Rattle.vv_run.specs.Loading.{loaded_lines, GenerateEnds, LoadEnds}
use Rattle.vv_run.specs.Runs.{Reported}
use Rattle.vv_run.specs.Starts.{IsStart, LeavesSince}
use Rattle.vv_run.specs.Words.{requested_by, asked_by, array_by, served_in, array_in}
use Rattle.vv_run.proofs.BoundLemmas.{bounded_before}
use Rattle.vv_run.proofs.TopLemmas.{some_of, answered_since, front_since, cut_since, is_unmade}
use Rattle.vv_run.proofs.LoadedLemmas.{same_generated, same_sizes, same_loaded}
use Rattle.vv_units.specs.Causes.{Rose}
use Rattle.vv_run.proofs.EndLemmas.{fit_as_found, served_whole}
use Rattle.vv_run.proofs.top_call.run.Goals as goal

pub returns-in-Ok-begin-clause-done : goal.returns-in-Ok-begin-clause-done
returns-in-Ok-begin-clause-done g c = λ is honest start at_start.
    let source = g.S.Source in
    let sink = g.K.Sink in
    let disk = g.D.Disk in
    let asked : asked_by c.args.words.now ≡ Some c.in-Serve.command = ap served_in (sym c.request_of.ensures ∙ c.in-Some.is ∙ ap Some c.in-Serve.is) in
    let at_begin : IsStart (Some c.in-Serve.command) (disk.size c.args.disk.now) (disk.content c.args.disk.now) (disk.is_image c.args.disk.now) start =
    subst (λ (k : Option Command). IsStart k (disk.size c.args.disk.now) (disk.content c.args.disk.now) (disk.is_image c.args.disk.now) start) asked at_start in
    let begun = c.in-Ok-begin.ensures in
    let stands = begun.stands honest start at_begin in
    answered_since disk.moment disk.left_since disk.is_image (all_known c.args.capabilities.now) start (recovered_line c.in-Ok-begin.begun.recovered)
    (sink.taken c.args.sink.now) (sink.taken c.serve_begun.new.sink) (λ state. EachImage (StandsForOne state) (disk.is_image c.serve_begun.new.disk)) (asked_by c.args.words.now) c.in-Serve.command
    (disk.size c.args.disk.now) (disk.content c.args.disk.now) c.args.disk.now c.begin.new.disk c.serve_begun.new.disk asked at_begin (λ run. begun.opened run honest) (begun.later honest)
    (stands_each c.in-Ok-begin.begun.array (disk.content c.begin.new.disk) (disk.is_image c.begin.new.disk) start stands.0) stands.1
    (AreBounded (disk.read_faults c.begin.new.disk) (disk.read_faults c.serve_begun.new.disk) (disk.write_faults c.begin.new.disk) (disk.write_faults c.serve_begun.new.disk))
    (AreBounded (disk.read_faults c.args.disk.now) (disk.read_faults c.serve_begun.new.disk) (disk.write_faults c.args.disk.now) (disk.write_faults c.serve_begun.new.disk))
    (λ reports. bounded_before (disk.read_faults c.args.disk.now) (disk.read_faults c.begin.new.disk) (disk.read_faults c.serve_begun.new.disk)
    (disk.write_faults c.args.disk.now) (disk.write_faults c.begin.new.disk) (disk.write_faults c.serve_begun.new.disk) reports begun.reads begun.writes) (source.left c.args.source.now) lines_of
    (c.serve_begun.ensures.done is (begun.honesty.1 honest) start stands.0)

pub returns-in-Ok-begin-clause-before_source_fault : goal.returns-in-Ok-begin-clause-before_source_fault
returns-in-Ok-begin-clause-before_source_fault g c = λ is honest start at_start.
    let source = g.S.Source in
    let sink = g.K.Sink in
    let disk = g.D.Disk in
    let asked : asked_by c.args.words.now ≡ Some c.in-Serve.command = ap served_in (sym c.request_of.ensures ∙ c.in-Some.is ∙ ap Some c.in-Serve.is) in
    let at_begin : IsStart (Some c.in-Serve.command) (disk.size c.args.disk.now) (disk.content c.args.disk.now) (disk.is_image c.args.disk.now) start =
    subst (λ (k : Option Command). IsStart k (disk.size c.args.disk.now) (disk.content c.args.disk.now) (disk.is_image c.args.disk.now) start) asked at_start in
    let begun = c.in-Ok-begin.ensures in
    let stands = begun.stands honest start at_begin in
    front_since disk.moment disk.left_since disk.is_image (all_known c.args.capabilities.now) start (recovered_line c.in-Ok-begin.begun.recovered)
    (sink.taken c.args.sink.now) (sink.taken c.serve_begun.new.sink) (λ state. EachImage (StandsForOne state) (disk.is_image c.serve_begun.new.disk)) (asked_by c.args.words.now) c.in-Serve.command
    (disk.size c.args.disk.now) (disk.content c.args.disk.now) c.args.disk.now c.begin.new.disk c.serve_begun.new.disk asked at_begin (λ run. begun.opened run honest) (begun.later honest)
    (stands_each c.in-Ok-begin.begun.array (disk.content c.begin.new.disk) (disk.is_image c.begin.new.disk) start stands.0) stands.1
    (AreBounded (disk.read_faults c.begin.new.disk) (disk.read_faults c.serve_begun.new.disk) (disk.write_faults c.begin.new.disk) (disk.write_faults c.serve_begun.new.disk))
    (AreBounded (disk.read_faults c.args.disk.now) (disk.read_faults c.serve_begun.new.disk) (disk.write_faults c.args.disk.now) (disk.write_faults c.serve_begun.new.disk))
    (λ reports. bounded_before (disk.read_faults c.args.disk.now) (disk.read_faults c.begin.new.disk) (disk.read_faults c.serve_begun.new.disk)
    (disk.write_faults c.args.disk.now) (disk.write_faults c.begin.new.disk) (disk.write_faults c.serve_begun.new.disk) reports begun.reads begun.writes) (source.left c.args.source.now) (source.left c.serve_begun.new.source)
    (c.serve_begun.ensures.before_source_fault is (begun.honesty.1 honest) start stands.0)

pub returns-in-Ok-begin-clause-too_much : goal.returns-in-Ok-begin-clause-too_much
returns-in-Ok-begin-clause-too_much g c = λ is honest start at_start.
    let source = g.S.Source in
    let sink = g.K.Sink in
    let disk = g.D.Disk in
    let asked : asked_by c.args.words.now ≡ Some c.in-Serve.command = ap served_in (sym c.request_of.ensures ∙ c.in-Some.is ∙ ap Some c.in-Serve.is) in
    let at_begin : IsStart (Some c.in-Serve.command) (disk.size c.args.disk.now) (disk.content c.args.disk.now) (disk.is_image c.args.disk.now) start =
    subst (λ (k : Option Command). IsStart k (disk.size c.args.disk.now) (disk.content c.args.disk.now) (disk.is_image c.args.disk.now) start) asked at_start in
    let begun = c.in-Ok-begin.ensures in
    let stands = begun.stands honest start at_begin in
    answered_since disk.moment disk.left_since disk.is_image (all_known c.args.capabilities.now) start (recovered_line c.in-Ok-begin.begun.recovered)
    (sink.taken c.args.sink.now) (sink.taken c.serve_begun.new.sink) (λ state. EachImage (StandsForOne state) (disk.is_image c.serve_begun.new.disk)) (asked_by c.args.words.now) c.in-Serve.command
    (disk.size c.args.disk.now) (disk.content c.args.disk.now) c.args.disk.now c.begin.new.disk c.serve_begun.new.disk asked at_begin (λ run. begun.opened run honest) (begun.later honest)
    (stands_each c.in-Ok-begin.begun.array (disk.content c.begin.new.disk) (disk.is_image c.begin.new.disk) start stands.0) stands.1
    (AreBounded (disk.read_faults c.begin.new.disk) (disk.read_faults c.serve_begun.new.disk) (disk.write_faults c.begin.new.disk) (disk.write_faults c.serve_begun.new.disk))
    (AreBounded (disk.read_faults c.args.disk.now) (disk.read_faults c.serve_begun.new.disk) (disk.write_faults c.args.disk.now) (disk.write_faults c.serve_begun.new.disk))
    (λ reports. bounded_before (disk.read_faults c.args.disk.now) (disk.read_faults c.begin.new.disk) (disk.read_faults c.serve_begun.new.disk)
    (disk.write_faults c.args.disk.now) (disk.write_faults c.begin.new.disk) (disk.write_faults c.serve_begun.new.disk) reports begun.reads begun.writes) (source.left c.args.source.now) (λ (told : List ℕ). ended_lines_of (take script_limit told))
    (c.serve_begun.ensures.too_much is (begun.honesty.1 honest) start stands.0)

pub returns-in-Ok-begin-clause-before_sink_fault : goal.returns-in-Ok-begin-clause-before_sink_fault
returns-in-Ok-begin-clause-before_sink_fault g c = λ is honest start at_start.
    let source = g.S.Source in
    let sink = g.K.Sink in
    let disk = g.D.Disk in
    let asked : asked_by c.args.words.now ≡ Some c.in-Serve.command = ap served_in (sym c.request_of.ensures ∙ c.in-Some.is ∙ ap Some c.in-Serve.is) in
    let at_begin : IsStart (Some c.in-Serve.command) (disk.size c.args.disk.now) (disk.content c.args.disk.now) (disk.is_image c.args.disk.now) start =
    subst (λ (k : Option Command). IsStart k (disk.size c.args.disk.now) (disk.content c.args.disk.now) (disk.is_image c.args.disk.now) start) asked at_start in
    let begun = c.in-Ok-begin.ensures in
    let stands = begun.stands honest start at_begin in
    cut_since disk.moment disk.left_since disk.is_image (all_known c.args.capabilities.now) start (recovered_line c.in-Ok-begin.begun.recovered)
    (sink.taken c.args.sink.now) (sink.taken c.serve_begun.new.sink) (λ state. EachImage (StandsForOne state) (disk.is_image c.serve_begun.new.disk)) (asked_by c.args.words.now) c.in-Serve.command
    (disk.size c.args.disk.now) (disk.content c.args.disk.now) c.args.disk.now c.begin.new.disk c.serve_begun.new.disk asked at_begin (λ run. begun.opened run honest) (begun.later honest)
    (stands_each c.in-Ok-begin.begun.array (disk.content c.begin.new.disk) (disk.is_image c.begin.new.disk) start stands.0) stands.1
    (AreBounded (disk.read_faults c.begin.new.disk) (disk.read_faults c.serve_begun.new.disk) (disk.write_faults c.begin.new.disk) (disk.write_faults c.serve_begun.new.disk))
    (AreBounded (disk.read_faults c.args.disk.now) (disk.read_faults c.serve_begun.new.disk) (disk.write_faults c.args.disk.now) (disk.write_faults c.serve_begun.new.disk))
    (λ reports. bounded_before (disk.read_faults c.args.disk.now) (disk.read_faults c.begin.new.disk) (disk.read_faults c.serve_begun.new.disk)
    (disk.write_faults c.args.disk.now) (disk.write_faults c.begin.new.disk) (disk.write_faults c.serve_begun.new.disk) reports begun.reads begun.writes) (source.left c.args.source.now) lines_answered
    (c.serve_begun.ensures.before_sink_fault is (begun.honesty.1 honest) start stands.0)

pub returns-in-Serve-clause-complete : goal.returns-in-Serve-clause-complete
returns-in-Serve-clause-complete g c = λ honest start at_start.
    let source = g.S.Source in
    let disk = g.D.Disk in
    let asked : asked_by c.args.words.now ≡ Some c.in-Serve.command = ap served_in (sym c.request_of.ensures ∙ c.in-Some.is ∙ ap Some c.in-Serve.is) in
    let at_begin : IsStart (Some c.in-Serve.command) (disk.size c.args.disk.now) (disk.content c.args.disk.now) (disk.is_image c.args.disk.now) start =
    subst (λ (k : Option Command). IsStart k (disk.size c.args.disk.now) (disk.content c.args.disk.now) (disk.is_image c.args.disk.now) start) asked at_start in
    some_of (source.left c.args.source.now) _ (λ told within no_source no_sink no_read no_write.
    is_unmade c.in-Err.status c.in-Serve.command (disk.size c.args.disk.now) (disk.content c.args.disk.now) (disk.is_image c.args.disk.now) start
    (disk.read_faults c.args.disk.now) (disk.read_faults c.begin.new.disk) (disk.write_faults c.args.disk.now) (disk.write_faults c.begin.new.disk)
    c.in-Err.ensures.stopped at_begin no_read no_write)

pub returns-in-Generate-clause-generated : goal.returns-in-Generate-clause-generated
returns-in-Generate-clause-generated g c = λ recipe is.
    let sink = g.K.Sink in
    let asked : requested_by c.args.words.now ≡ Some (request.Generate c.in-Generate.recipe) = sym c.request_of.ensures ∙ c.in-Some.is ∙ ap Some c.in-Generate.is in
    subst (λ (r : Recipe). GenerateEnds c.write_script.result (sink.taken c.args.sink.now) (sink.taken c.write_script.new.sink) (script r.seed r.lines))
    (same_generated (requested_by c.args.words.now) c.in-Generate.recipe recipe asked is) c.write_script.ensures.ends

pub returns-clause-loaded : goal.returns-clause-loaded
returns-clause-loaded g c = λ sizes recipe is.
    let sink = g.K.Sink in
    let disk = g.D.Disk in
    let asked : requested_by c.args.words.now ≡ Some (request.Load c.in-Load.sizes c.in-Load.recipe) = sym c.request_of.ensures ∙ c.in-Some.is ∙ ap Some c.in-Load.is in
    let array : Some (New c.in-Load.sizes) ≡ array_by c.args.words.now = ap array_in (sym asked) in
    let Ends : Geometry → Recipe → Option Command → Type 0 = λ s r k. LoadEnds c.load.result (sink.taken c.args.sink.now) (sink.taken c.load.new.sink)
    (λ told. disk.is_honest c.args.disk.now → Reported (all_known c.args.capabilities.now) (Up (empty_array s)) told
    (λ state. EachImage (StandsForOne state) (disk.is_image c.load.new.disk)) (LeavesSince disk.moment disk.left_since disk.is_image k (Up (empty_array s)) c.args.disk.now c.load.new.disk)
    (AreBounded (disk.read_faults c.args.disk.now) (disk.read_faults c.load.new.disk) (disk.write_faults c.args.disk.now) (disk.write_faults c.load.new.disk)) (loaded_lines r)) in
    subst (λ (r : Recipe). Ends sizes r (array_by c.args.words.now)) (same_loaded (requested_by c.args.words.now) c.in-Load.sizes sizes c.in-Load.recipe recipe asked is)
    (subst (λ (s : Geometry). Ends s c.in-Load.recipe (array_by c.args.words.now)) (same_sizes (requested_by c.args.words.now) c.in-Load.sizes sizes c.in-Load.recipe recipe asked is)
    (subst (λ (k : Option Command). Ends c.in-Load.sizes c.in-Load.recipe k) array c.load.ensures.ends))

pub returns-in-Ok-begin-clause-as_found : goal.returns-in-Ok-begin-clause-as_found
returns-in-Ok-begin-clause-as_found g c = λ run.
    let disk = g.D.Disk in
    let asked : asked_by c.args.words.now ≡ Some c.in-Serve.command = ap served_in (sym c.request_of.ensures ∙ c.in-Some.is ∙ ap Some c.in-Serve.is) in
    fit_as_found (asked_by c.args.words.now) c.in-Serve.command (disk.size c.args.disk.now) (disk.content c.args.disk.now) c.serve_begun.result asked run c.in-Ok-begin.ensures.fit

pub returns-in-Ok-begin-clause-complete : goal.returns-in-Ok-begin-clause-complete
returns-in-Ok-begin-clause-complete g c = λ honest start at_start.
    let source = g.S.Source in
    let sink = g.K.Sink in
    let disk = g.D.Disk in
    served_whole c.serve_begun.result (source.left c.args.source.now) (λ told. source.left c.serve_begun.new.source ≡ Some (drop (script_limit + 1) told))
    (Rose (source.faults c.args.source.now) (source.faults c.serve_begun.new.source)) (Rose (sink.faults c.args.sink.now) (sink.faults c.serve_begun.new.sink))
    (Rose (disk.read_faults c.args.disk.now) (disk.read_faults c.serve_begun.new.disk)) (Rose (disk.write_faults c.args.disk.now) (disk.write_faults c.serve_begun.new.disk))
    c.serve_begun.ensures.served c.serve_begun.ensures.source_fault c.serve_begun.ensures.sink_fault c.serve_begun.ensures.past_the_limit
