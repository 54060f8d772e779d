-- What was served of a script, said from the entry of the top call on: with the text at the head, and since the disk that was
-- there at first.
use Rattle.std.proofs.Common.{◌≡◌, ◌⊎◌, inl, inr, ⊎_elim, ℕ, ◌<◌, ◌≤◌, ◌++◌, List, [], length, false, Some, None, Ok, Err, refl, sym, ap, ◌∙◌, subst, arith}
use Rattle.std.specs.Prelude.{Option, IfSome}
use Rattle.std.specs.Io.KnownBytes.{Appends}
use Rattle.vv_units.specs.Causes.{Rose}
use Rattle.vv_units.specs.declared.geometry.Geometry.{Geometry}
use Rattle.vv_disk.specs.Images.{EachImage, LeavesOnly}
use Rattle.vv_disk.proofs.Moments.{started, leaves_weaker, leaves_joined}
use Rattle.vv_flat.specs.Profiles.{Capability}
use Rattle.vv_io.specs.Reading.{script_limit}
use Rattle.vv_journal.specs.declared.opening.OpenFault.{OpenFault}
use Rattle.vv_journal.specs.declared.opening.OpenFault.TheVariants as journal
use Rattle.vv_image.specs.Opening.{Found, opened}
use Rattle.vv_image.specs.Standing.{Stands, array_found, array_in}
use Rattle.vv_meaning.specs.Steps.{State, Report, reports_text}
use Rattle.vv_array.specs.Seen.{ArrayView}
use Rattle.vv_array.specs.Standing.{StandsFor}
use Rattle.vv_array.specs.Moments.{StandsForOne}
use Rattle.vv_array.proofs.StateImages.{stands_each}
use Rattle.vv_run.specs.declared.words.Command.{Command}
use Rattle.vv_run.specs.declared.words.Command.TheVariants.{New, Run}
use Rattle.vv_run.specs.declared.status.Status.{Status}
use Rattle.vv_run.specs.declared.status.Status.TheVariants as status
use Rattle.vv_run.specs.Runs.{Answered, CutShort, HeadCut, AnsweredFront}
use Rattle.vv_run.specs.Starts.{IsKept, IsStart, head_of, LeavesSince}
use Rattle.vv_run.specs.Status.{is_unserved, IsUnformatted, HasDamage, IsWrongSize, Stopped}
use Rattle.vv_run.specs.Steps.{StandsInRun}
use Rattle.vv_run.specs.Writing.{AppendsOrForgets, StopsWithin}
use Rattle.vv_run.proofs.StreamLemmas.{appends_more, stops_after}
use Rattle.vv_run.proofs.BeginningLemmas.{kept_stands}

pub some_goes : (left : Option (List ℕ)) (P Q : List ℕ → Type 0) → ((told : List ℕ) → P told → Q told) → IfSome left P → IfSome left Q
some_goes None P Q goes holds = tt
some_goes (Some told) P Q goes holds = goes told holds

pub some_of : (left : Option (List ℕ)) (P : List ℕ → Type 0) → ((told : List ℕ) → P told) → IfSome left P
some_of None P holds = tt
some_of (Some told) P holds = holds told

-- ---- the same run, with another head and other words on the array

-- the start of a run is among its states
of_start : (start : State) (states : List State) → EachImage (StandsInRun start states) (StandsForOne start)
of_start start states image is = inl is

module _ (capabilities : List Capability) (start : State) (head head-new : List ℕ) (before before-new after : Option (List ℕ))
    (stands stands-new : State → Type 0) (leaves leaves-new : (List ℕ → Type 0) → Type 0) (bounds bounds-new : List Report → Type 0)
    (written : (xs : List ℕ) → Appends before after (head ++ xs) → Appends before-new after (head-new ++ xs))
    (cut : (xs : List ℕ) → AppendsOrForgets before after (head ++ xs) → AppendsOrForgets before-new after (head-new ++ xs))
    (stand : (state : State) → stands state → stands-new state)
    (leave : (P : List ℕ → Type 0) → EachImage P (StandsForOne start) → leaves P → leaves-new P)
    (bound : (reports : List Report) → bounds reports → bounds-new reports) where
  pub answered_over : (lines : List (Option (List ℕ))) → Answered capabilities start head before after stands leaves bounds lines
      → Answered capabilities start head-new before-new after stands-new leaves-new bounds-new lines
  answered_over lines is = record {
    reports = is.reports;
    states = is.states;
    run = is.run;
    written = written (reports_text is.reports) is.written;
    stands_for = stand _ is.stands_for;
    leaves_only = leave (StandsInRun start is.states) (of_start start is.states) is.leaves_only;
    bounded = bound _ is.bounded;
  }

  pub cut_over : (lines : List (Option (List ℕ))) → CutShort capabilities start head before after stands leaves bounds lines
      → CutShort capabilities start head-new before-new after stands-new leaves-new bounds-new lines
  cut_over lines is = record {
    served = is.served;
    unserved = is.unserved;
    all = is.all;
    reports = is.reports;
    last = is.last;
    states = is.states;
    run = is.run;
    part = is.part;
    lost = is.lost;
    whole = is.whole;
    proper = is.proper;
    written = cut (reports_text is.reports ++ is.part) is.written;
    stands_for = stand _ is.stands_for;
    leaves_only = leave (StandsInRun start is.states) (of_start start is.states) is.leaves_only;
    bounded = bound _ is.bounded;
  }

  pub front_over : (told : List ℕ) (left : Option (List ℕ)) → AnsweredFront capabilities start head before after stands leaves bounds told left
      → AnsweredFront capabilities start head-new before-new after stands-new leaves-new bounds-new told left
  front_over told left is = record {
    front = is.front;
    within = is.within;
    consumed = is.consumed;
    answered = answered_over _ is.answered;
  }

-- a head that was written ahead
pub with_head : (before mid after : Option (List ℕ)) (head xs : List ℕ) → Appends before mid head → Appends mid after xs → Appends before after (head ++ xs)
with_head before mid after head xs first second = appends_more before mid after head xs first second

pub with_head_cut : (before mid after : Option (List ℕ)) (head xs : List ℕ) → Appends before mid head → AppendsOrForgets mid after xs → AppendsOrForgets before after (head ++ xs)
with_head_cut before mid after head xs first second = stops_after before mid after head xs first second

module _ {D : Type 0} (moment : D → ℕ) (left_since : D → ℕ → List ℕ → Type 0) (is_image : D → List ℕ → Type 0) where
  -- the head was cut, and nothing was served
  pub head_cut : (start : State) (head : List ℕ) (before after : Option (List ℕ)) (disk : D) → StopsWithin before after head
      → EachImage (StandsForOne start) (is_image disk) → ((image : List ℕ) → left_since disk (moment disk) image → is_image disk image)
      → HeadCut start head before after (λ state. EachImage (StandsForOne state) (is_image disk)) (LeavesOnly moment left_since disk disk)
  head_cut start head before after disk stops each only_now = record {
    stops = stops;
    stands_for = each;
    leaves_only = started moment left_since disk (StandsInRun start []) (λ image left. inl (each image (only_now image left)));
  }

  -- what is left since the array was made or opened, said from the entry on
  pub leaves_since : (asked : Option Command) (command : Command) (start : State) (size : ℕ) (told : Option (List ℕ)) (old mid new : D)
      → asked ≡ Some command → IsStart (Some command) size told (is_image old) start
      → (command ≡ Run → LeavesOnly moment left_since old mid (is_image old)) → moment old ≤ moment mid → EachImage (StandsForOne start) (is_image mid)
      → (P : List ℕ → Type 0) → EachImage P (StandsForOne start) → LeavesOnly moment left_since mid new P
      → LeavesSince moment left_since is_image asked start old new P
  leaves_since asked Run start size told old mid new is at_start opened_so later stood P weaker leaves = record {
    begun = old;
    not_before = omega arith;
    stood = kept_stands told (is_image old) start at_start;
    leaves = leaves_joined moment left_since old mid new P
        (leaves_weaker moment left_since old mid (is_image old) P (λ image here. weaker image (kept_stands told (is_image old) start at_start image here)) (opened_so refl)) leaves;
    from_entry = λ run. refl;
  }
  leaves_since asked (New geometry) start size told old mid new is at_start opened_so later stood P weaker leaves = record {
    begun = mid;
    not_before = later;
    stood = stood;
    leaves = leaves;
    from_entry = λ run. absurd (not_run geometry asked is run);
  }
    where
      not_run : (geometry : Geometry) (k : Option Command) → k ≡ Some (New geometry) → k ≡ Some Run → ⊥
      not_run geometry k e f = absurd (cc)

  -- ---- behind a head that was written

  module _ (capabilities : List Capability) (start : State) (head : List ℕ) (before mid after : Option (List ℕ)) (view : ArrayView) (told : Option (List ℕ)) (first disk : D)
      (bounds : List Report → Type 0) (ahead : Appends before mid head) (left : Option (List ℕ)) where
    stand_now : (state : State) → StandsFor view told (is_image disk) state → EachImage (StandsForOne state) (is_image disk)
    stand_now state stands = stands_each view told (is_image disk) state stands

    pub answered_headed : (lines : List ℕ → List (Option (List ℕ)))
        → IfSome left (λ script. Answered capabilities start [] mid after (StandsFor view told (is_image disk)) (LeavesOnly moment left_since first disk) bounds (lines script))
        → IfSome left (λ script. Answered capabilities start head before after (λ state. EachImage (StandsForOne state) (is_image disk)) (LeavesOnly moment left_since first disk) bounds (lines script))
    answered_headed lines served =
        some_goes left _ _ (λ script is.
        answered_over capabilities start [] head mid before after (StandsFor view told (is_image disk)) (λ state. EachImage (StandsForOne state) (is_image disk))
        (LeavesOnly moment left_since first disk) (LeavesOnly moment left_since first disk) bounds bounds
        (λ xs. with_head before mid after head xs ahead) (λ xs. with_head_cut before mid after head xs ahead) stand_now (λ P weaker leaves. leaves) (λ reports so. so) (lines script) is) served

    pub front_headed : (rest : Option (List ℕ))
        → IfSome left (λ script. AnsweredFront capabilities start [] mid after (StandsFor view told (is_image disk)) (LeavesOnly moment left_since first disk) bounds script rest)
        → IfSome left (λ script. AnsweredFront capabilities start head before after (λ state. EachImage (StandsForOne state) (is_image disk)) (LeavesOnly moment left_since first disk) bounds script rest)
    front_headed rest served =
        some_goes left _ _ (λ script is.
        front_over capabilities start [] head mid before after (StandsFor view told (is_image disk)) (λ state. EachImage (StandsForOne state) (is_image disk))
        (LeavesOnly moment left_since first disk) (LeavesOnly moment left_since first disk) bounds bounds
        (λ xs. with_head before mid after head xs ahead) (λ xs. with_head_cut before mid after head xs ahead) stand_now (λ P weaker leaves. leaves) (λ reports so. so) script rest is) served

    pub cut_headed : (lines : List ℕ → List (Option (List ℕ)))
        → IfSome left (λ script. CutShort capabilities start [] mid after (StandsFor view told (is_image disk)) (LeavesOnly moment left_since first disk) bounds (lines script))
        → IfSome left (λ script. HeadCut start head before after (λ state. EachImage (StandsForOne state) (is_image disk)) (LeavesOnly moment left_since first disk)
        ⊎ CutShort capabilities start head before after (λ state. EachImage (StandsForOne state) (is_image disk)) (LeavesOnly moment left_since first disk) bounds (lines script))
    cut_headed lines served =
        some_goes left _ _ (λ script is. inr (
        cut_over capabilities start [] head mid before after (StandsFor view told (is_image disk)) (λ state. EachImage (StandsForOne state) (is_image disk))
        (LeavesOnly moment left_since first disk) (LeavesOnly moment left_since first disk) bounds bounds
        (λ xs. with_head before mid after head xs ahead) (λ xs. with_head_cut before mid after head xs ahead) stand_now (λ P weaker leaves. leaves) (λ reports so. so) (lines script) is)) served

  -- ---- from the entry on

  module _ (capabilities : List Capability) (start : State) (head : List ℕ) (before after : Option (List ℕ)) (stands : State → Type 0) (asked : Option Command) (command : Command)
      (size : ℕ) (told : Option (List ℕ)) (old mid new : D) (is : asked ≡ Some command) (at_start : IsStart (Some command) size told (is_image old) start)
      (opened_so : command ≡ Run → LeavesOnly moment left_since old mid (is_image old)) (later : moment old ≤ moment mid) (stood : EachImage (StandsForOne start) (is_image mid))
      (head_is : head ≡ head_of (Some command) start) (bounds bounds-new : List Report → Type 0)
      (bound : (reports : List Report) → bounds reports → bounds-new reports) (left : Option (List ℕ)) where
    same_head : head ≡ head_of asked start
    same_head = head_is ∙ ap (λ (k : Option Command). head_of k start) (sym is)

    appends_so : (xs : List ℕ) → Appends before after (head ++ xs) → Appends before after (head_of asked start ++ xs)
    appends_so xs = subst (λ (h : List ℕ). Appends before after (h ++ xs)) same_head

    cuts_so : (xs : List ℕ) → AppendsOrForgets before after (head ++ xs) → AppendsOrForgets before after (head_of asked start ++ xs)
    cuts_so xs = subst (λ (h : List ℕ). AppendsOrForgets before after (h ++ xs)) same_head

    leave_so : (P : List ℕ → Type 0) → EachImage P (StandsForOne start) → LeavesOnly moment left_since mid new P → LeavesSince moment left_since is_image asked start old new P
    leave_so = leaves_since asked command start size told old mid new is at_start opened_so later stood

    pub answered_since : (lines : List ℕ → List (Option (List ℕ)))
        → IfSome left (λ script. Answered capabilities start head before after stands (LeavesOnly moment left_since mid new) bounds (lines script))
        → IfSome left (λ script. Answered capabilities start (head_of asked start) before after stands (LeavesSince moment left_since is_image asked start old new) bounds-new (lines script))
    answered_since lines served =
        some_goes left _ _ (λ script so.
        answered_over capabilities start head (head_of asked start) before before after stands stands
        (LeavesOnly moment left_since mid new) (LeavesSince moment left_since is_image asked start old new) bounds bounds-new appends_so cuts_so (λ state s. s) leave_so bound (lines script) so) served

    pub front_since : (rest : Option (List ℕ))
        → IfSome left (λ script. AnsweredFront capabilities start head before after stands (LeavesOnly moment left_since mid new) bounds script rest)
        → IfSome left (λ script. AnsweredFront capabilities start (head_of asked start) before after stands (LeavesSince moment left_since is_image asked start old new) bounds-new script rest)
    front_since rest served =
        some_goes left _ _ (λ script so.
        front_over capabilities start head (head_of asked start) before before after stands stands
        (LeavesOnly moment left_since mid new) (LeavesSince moment left_since is_image asked start old new) bounds bounds-new appends_so cuts_so (λ state s. s) leave_so bound script rest so) served

    head_since : HeadCut start head before after stands (LeavesOnly moment left_since mid new)
        → HeadCut start (head_of asked start) before after stands (LeavesSince moment left_since is_image asked start old new)
    head_since cut = record {
      stops = subst (λ (h : List ℕ). StopsWithin before after h) same_head cut.stops;
      stands_for = cut.stands_for;
      leaves_only = leave_so (StandsInRun start []) (of_start start []) cut.leaves_only;
    }

    pub cut_since : (lines : List ℕ → List (Option (List ℕ)))
        → IfSome left (λ script. HeadCut start head before after stands (LeavesOnly moment left_since mid new)
        ⊎ CutShort capabilities start head before after stands (LeavesOnly moment left_since mid new) bounds (lines script))
        → IfSome left (λ script. HeadCut start (head_of asked start) before after stands (LeavesSince moment left_since is_image asked start old new)
        ⊎ CutShort capabilities start (head_of asked start) before after stands (LeavesSince moment left_since is_image asked start old new) bounds-new (lines script))
    cut_since lines served =
        some_goes left _ _ (λ script so. ⊎_elim (λ cut. inl (head_since cut)) (λ cut. inr (
        cut_over capabilities start head (head_of asked start) before before after stands stands
        (LeavesOnly moment left_since mid new) (LeavesSince moment left_since is_image asked start old new) bounds bounds-new appends_so cuts_so (λ state s. s) leave_so bound (lines script) cut)) so) served

-- ---- statuses

pub not_bad : (result : Status) → is_unserved result ≡ false → (result ≡ status.BadWords → ⊥)
not_bad result served is = absurd (cc)

-- A status that tells no fault, and that no byte past the most of a script was taken, is Done.
pub is_done : (result : Status) (left : Option (List ℕ)) (P : List ℕ → Type 0) (A B C E : Type 0)
    → is_unserved result ≡ false → (result ≡ status.SourceFault → A) → (result ≡ status.SinkFault → B)
    → (result ≡ status.TooMuch → IfSome left (λ told. (script_limit < length told) × P told))
    → IfSome left (λ told. length told ≤ script_limit → (A → ⊥) → (B → ⊥) → (C → ⊥) → (E → ⊥) → (result ≡ status.Done) ⊎ (result ≡ status.NoMemory))
is_done result None P A B C E served source sink past = tt
is_done status.Done (Some told) P A B C E served source sink past = λ within no_source no_sink no_read no_write. inl refl
is_done status.BadWords (Some told) P A B C E served source sink past = absurd (cc)
is_done status.NotFormatted (Some told) P A B C E served source sink past = absurd (cc)
is_done (status.Damaged damage) (Some told) P A B C E served source sink past = absurd (cc)
is_done status.DeviceFault (Some told) P A B C E served source sink past = absurd (cc)
is_done status.NoMemory (Some told) P A B C E served source sink past = absurd (cc)
is_done (status.WrongSize needed found) (Some told) P A B C E served source sink past = absurd (cc)
is_done status.SourceFault (Some told) P A B C E served source sink past = λ within no_source no_sink no_read no_write. absurd (no_source (source refl))
is_done status.SinkFault (Some told) P A B C E served source sink past = λ within no_source no_sink no_read no_write. absurd (no_sink (sink refl))
is_done status.TooMuch (Some told) P A B C E served source sink past = λ within no_source no_sink no_read no_write.
    let over = (past refl).0 in absurd (omega arith)

-- an image that stands for an array has no fault
no_fault : (found : Found) (image : List ℕ) (fault : OpenFault) (m : _) → array_found image found ≡ Some m → found ≡ Err fault → ⊥
no_fault (Err f) image fault m stands e = absurd (cc)
no_fault (Ok d) image fault m stands e = absurd (cc)

stands_faultless : (image : List ℕ) (fault : OpenFault) (m : _) → Stands image m → opened image ≡ Err fault → ⊥
unfolding array_in
stands_faultless image fault m stands e = no_fault (opened image) image fault m stands e

kept_faultless : (told : Option (List ℕ)) (images : List ℕ → Type 0) (start : State) (P : List ℕ → Type 0) → IsKept told images start → IfSome told P
    → ((image : List ℕ) → P image → (fault : OpenFault) × (opened image ≡ Err fault)) → ⊥
kept_faultless told images start P kept has faulty =
    let here : P kept.content = subst (λ (t : Option (List ℕ)). IfSome t P) kept.told_is has in
    let wrong = faulty kept.content here in
    stands_faultless kept.content wrong.0 kept.array kept.stands wrong.1

as_kept : (command : Command) (size : ℕ) (told : Option (List ℕ)) (images : List ℕ → Type 0) (start : State) → command ≡ Run
    → IsStart (Some command) size told images start → IsKept told images start
as_kept command size told images start is at_start = subst (λ (k : Command). IsStart (Some k) size told images start) is at_start

right_size : (command : Command) (size : ℕ) (told : Option (List ℕ)) (images : List ℕ → Type 0) (start : State) (needed found : ℕ)
    → IsStart (Some command) size told images start → IsWrongSize (Some command) size needed found → ⊥
right_size Run size told images start needed found at_start wrong = wrong
right_size (New geometry) size told images start needed found at_start wrong = wrong.2 (wrong.1 ∙ at_start.0 ∙ sym wrong.0)

-- Where an array could be made or opened and no count of the disk rose, only want of memory may have kept it from it.
pub is_unmade : (result : Status) (command : Command) (size : ℕ) (told : Option (List ℕ)) (images : List ℕ → Type 0) (start : State) (r r-now w w-now : ℕ)
    → Stopped command size told r r-now w w-now result → IsStart (Some command) size told images start
    → (Rose r r-now → ⊥) → (Rose w w-now → ⊥) → (result ≡ status.Done) ⊎ (result ≡ status.NoMemory)
is_unmade status.Done command size told images start r r-now w w-now stopped at_start no_read no_write = inl refl
is_unmade status.BadWords command size told images start r r-now w w-now stopped at_start no_read no_write = absurd stopped
is_unmade status.SourceFault command size told images start r r-now w w-now stopped at_start no_read no_write = absurd stopped
is_unmade status.SinkFault command size told images start r r-now w w-now stopped at_start no_read no_write = absurd stopped
is_unmade status.TooMuch command size told images start r r-now w w-now stopped at_start no_read no_write = absurd stopped
is_unmade status.NotFormatted command size told images start r r-now w w-now stopped at_start no_read no_write =
    absurd (kept_faultless told images start IsUnformatted (as_kept command size told images start stopped.0 at_start) stopped.1 (λ image is. (journal.NotFormatted is.0, is.1)))
is_unmade (status.Damaged damage) command size told images start r r-now w w-now stopped at_start no_read no_write =
    absurd (kept_faultless told images start (HasDamage damage) (as_kept command size told images start stopped.0 at_start) stopped.1 (λ image is. (journal.Damaged damage, is)))
is_unmade status.DeviceFault command size told images start r r-now w w-now (inl rose) at_start no_read no_write = absurd (no_read rose)
is_unmade status.DeviceFault command size told images start r r-now w w-now (inr rose) at_start no_read no_write = absurd (no_write rose)
is_unmade status.NoMemory command size told images start r r-now w w-now stopped at_start no_read no_write = inr refl
is_unmade (status.WrongSize needed found) command size told images start r r-now w w-now stopped at_start no_read no_write =
    absurd (right_size command size told images start needed found at_start stopped)
