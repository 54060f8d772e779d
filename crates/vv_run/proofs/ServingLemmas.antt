-- A run goes on by one line, and ends within one: for the loop that serves a script.
use Rattle.std.proofs.Common.{◌≡◌, inl, inr, ⊎_elim, ℕ, ◌<◌, ◌≤◌, ◌+◌, ◌++◌, List, [], ◌∷◌, length, take, drop, refl, sym, ap, ◌∙◌, append_assoc, append-nil, subst, Some, None, Result, Ok, Err}
use Rattle.std.specs.Prelude.{Option, OnOk, OnErr, IfSome}
use Rattle.std.specs.Io.KnownBytes.{Appends}
use Rattle.vv_disk.specs.Images.{EachImage, LeavesOnly}
use Rattle.vv_disk.proofs.Moments.{started, leaves_weaker, leaves_joined}
use Rattle.vv_flat.specs.Profiles.{Capability}
use Rattle.vv_calls.specs.Lines.{line_limit}
use Rattle.vv_calls.specs.declared.call.LineFault.TheVariants.{LineTooLong}
use Rattle.vv_io.specs.Reading.{ReaderState, new_reader, script_limit}
use Rattle.vv_reply.specs.declared.reply.Reply.TheVariants as a_reply
use Rattle.vv_meaning.specs.Steps.{State, Report, report_text, reports_text}
use Rattle.vv_reply.specs.declared.reply.Reply.{Reply}
use Rattle.vv_array.specs.Faults.{HasItsCause}
use Rattle.vv_array.specs.Moments.{StandsForOne, StandsBetween}
use Rattle.vv_run.specs.Bounds.{AreBounded}
use Rattle.vv_run.proofs.BoundLemmas.{bounded_none, bounded_more}
use Rattle.vv_run.specs.Lines.{lines_of, ended_lines_of, lines_answered}
use Rattle.vv_run.specs.Reading.{Gave, GaveAll, WentPast, GaveNone}
use Rattle.vv_run.specs.Runs.{Answered, CutShort, AnsweredFront, LineAnswered, LineCut}
use Rattle.vv_run.specs.Steps.{LineStep, Run, last_state, StandsForAny, StandsInRun}
use Rattle.vv_run.specs.Writing.{StopsWithin}
use Rattle.vv_run.proofs.StreamLemmas.{appends_nothing, appends_more, stops_after}
use Rattle.vv_run.proofs.ReadingLemmas.{gave_nothing, gave_more, told_all, told_past, front_given, lead_of}

-- ---- a run with one line more

run_more : (capabilities : List Capability) (old : State) (lines : List (Option (List ℕ))) (reports : List Report) (states : List State) (line : Option (List ℕ)) (r : Report) (new : State)
    → Run capabilities old lines reports states → LineStep capabilities (last_state old states) line r.recovered r.answer new
    → Run capabilities old (lines ++ line ∷ []) (reports ++ r ∷ []) (states ++ new ∷ [])
run_more capabilities old [] [] [] line r new run step = (step, tt)
run_more capabilities old [] [] (s ∷ states) line r new run step = absurd run
run_more capabilities old [] (q ∷ reports) states line r new run step = absurd run
run_more capabilities old (l ∷ lines) [] states line r new run step = absurd run
run_more capabilities old (l ∷ lines) (q ∷ reports) [] line r new run step = absurd run
run_more capabilities old (l ∷ lines) (q ∷ reports) (s ∷ states) line r new run step =
    (run.0, run_more capabilities s lines reports states line r new run.1 step)

last_more : (old : State) (states : List State) (new : State) → last_state old (states ++ new ∷ []) ≡ new
last_more old [] new = refl
last_more old (s ∷ states) new = last_more s states new

texts_more : (reports : List Report) (r : Report) → reports_text (reports ++ r ∷ []) ≡ reports_text reports ++ report_text r
texts_more [] r = append-nil (report_text r)
texts_more (first ∷ reports) r =
    ap (λ (rest : List ℕ). report_text first ++ rest) (texts_more reports r) ∙ sym (append_assoc (report_text first) (reports_text reports) (report_text r))

-- ---- images of the states of a run

any_front : (states : List State) (new : State) (image : List ℕ) → StandsForAny states image → StandsForAny (states ++ new ∷ []) image
any_front [] new image stands = absurd stands
any_front (s ∷ states) new image (inl here) = inl here
any_front (s ∷ states) new image (inr there) = inr (any_front states new image there)

any_new : (states : List State) (new : State) (image : List ℕ) → StandsForOne new image → StandsForAny (states ++ new ∷ []) image
any_new [] new image stands = inl stands
any_new (s ∷ states) new image stands = inr (any_new states new image stands)

any_last : (old : State) (states : List State) (image : List ℕ) → StandsForOne (last_state old states) image → StandsInRun old states image
any_last old [] image stands = inl stands
any_last old (s ∷ states) image stands = inr (any_last s states image stands)

in_longer : (old : State) (states : List State) (new : State) → EachImage (StandsInRun old (states ++ new ∷ [])) (StandsInRun old states)
in_longer old states new image stands = any_front (old ∷ states) new image stands

between_in_run : (old : State) (states : List State) (new : State)
    → EachImage (StandsInRun old (states ++ new ∷ [])) (StandsBetween (last_state old states) new)
between_in_run old states new image stands =
    ⊎_elim (λ was. in_longer old states new image (any_last old states image was)) (λ is. any_new (old ∷ states) new image is) stands

if_some : (left : Option (List ℕ)) (P Q : List ℕ → Type 0) → IfSome left P → ((told : List ℕ) → left ≡ Some told → P told → Q told) → IfSome left Q
if_some None P Q holds goes = tt
if_some (Some told) P Q holds goes = goes told refl holds

-- ---- the lines so far, over disks

module _ {D : Type 0} (moment : D → ℕ) (left_since : D → ℕ → List ℕ → Type 0) (reads writes : D → ℕ) where
  -- what was told of the faults of a disk since an earlier one

  abbrev pub Bounds : D → D → List Report → Type 0
  Bounds first disk = AreBounded (reads first) (reads disk) (writes first) (writes disk)

  abbrev pub Causes : D → D → Reply → Type 0
  Causes disk next = HasItsCause (reads disk) (reads next) (writes disk) (writes next)

  -- nothing but the images of the states so far is left, and then nothing but those of one step more
  leaves_more : (first disk next : D) (old : State) (states : List State) (new : State)
      → LeavesOnly moment left_since first disk (StandsInRun old states) → LeavesOnly moment left_since disk next (StandsBetween (last_state old states) new)
      → LeavesOnly moment left_since first next (StandsInRun old (states ++ new ∷ []))
  leaves_more first disk next old states new so_far more =
      leaves_joined moment left_since first disk next (StandsInRun old (states ++ new ∷ []))
      (leaves_weaker moment left_since first disk (StandsInRun old states) (StandsInRun old (states ++ new ∷ [])) (in_longer old states new) so_far)
      (leaves_weaker moment left_since disk next (StandsBetween (last_state old states) new) (StandsInRun old (states ++ new ∷ [])) (between_in_run old states new) more)

  answered_none : (capabilities : List Capability) (start : State) (before : Option (List ℕ)) (stands : State → Type 0) (disk : D)
      → stands start → EachImage (StandsForOne start) (left_since disk (moment disk))
      → Answered capabilities start [] before before stands (LeavesOnly moment left_since disk disk) (Bounds disk disk) []
  answered_none capabilities start before stands disk now each = record {
    reports = [];
    states = [];
    run = tt;
    written = appends_nothing before;
    stands_for = now;
    leaves_only = started moment left_since disk (StandsInRun start []) (λ image left. inl (each image left));
    bounded = bounded_none (reads disk) (writes disk);
  }

  answered_more : (capabilities : List Capability) (start : State) (before mid after : Option (List ℕ)) (stands stands_next : State → Type 0) (first disk next : D)
      (lines : List (Option (List ℕ))) (line : Option (List ℕ))
      → (so_far : Answered capabilities start [] before mid stands (LeavesOnly moment left_since first disk) (Bounds first disk) lines)
      → LineAnswered capabilities (last_state start so_far.states) line mid after stands_next (LeavesOnly moment left_since disk next) (Causes disk next)
      → reads disk ≤ reads next → writes disk ≤ writes next
      → Answered capabilities start [] before after stands_next (LeavesOnly moment left_since first next) (Bounds first next) (lines ++ line ∷ [])
  answered_more capabilities start before mid after stands stands_next first disk next lines line so_far more reads_later writes_later = record {
    reports = so_far.reports ++ more.report ∷ [];
    states = so_far.states ++ more.new ∷ [];
    run = run_more capabilities start lines so_far.reports so_far.states line more.report more.new so_far.run more.step;
    written =
        let P : List ℕ → Type 0 = λ bytes. Appends before after bytes in
        subst P (sym (texts_more so_far.reports more.report)) (appends_more before mid after (reports_text so_far.reports) (report_text more.report) so_far.written more.written);
    stands_for = subst stands_next (sym (last_more start so_far.states more.new)) more.stands_for;
    leaves_only = leaves_more first disk next start so_far.states more.new so_far.leaves_only more.leaves_only;
    bounded = bounded_more (reads first) (reads disk) (reads next) (writes first) (writes disk) (writes next) so_far.reports more.report so_far.bounded more.cause reads_later writes_later;
  }

  answered_cut : (capabilities : List Capability) (start : State) (before mid after : Option (List ℕ)) (stands stands_next : State → Type 0) (first disk next : D)
      (lines : List (Option (List ℕ))) (line : Option (List ℕ)) (unserved all : List (Option (List ℕ)))
      → (so_far : Answered capabilities start [] before mid stands (LeavesOnly moment left_since first disk) (Bounds first disk) lines)
      → LineCut capabilities (last_state start so_far.states) line mid after stands_next (LeavesOnly moment left_since disk next) (Causes disk next)
      → reads disk ≤ reads next → writes disk ≤ writes next → (lines ++ line ∷ []) ++ unserved ≡ all
      → CutShort capabilities start [] before after stands_next (LeavesOnly moment left_since first next) (Bounds first next) all
  answered_cut capabilities start before mid after stands stands_next first disk next lines line unserved all so_far cut reads_later writes_later is = record {
    served = lines ++ line ∷ [];
    unserved = unserved;
    all = is;
    reports = so_far.reports;
    last = cut.report;
    states = so_far.states ++ cut.new ∷ [];
    run = run_more capabilities start lines so_far.reports so_far.states line cut.report cut.new so_far.run cut.step;
    part = cut.stops.part;
    lost = cut.stops.more;
    whole = cut.stops.whole;
    proper = cut.stops.proper;
    written = stops_after before mid after (reports_text so_far.reports) cut.stops.part so_far.written cut.stops.taken;
    stands_for = subst stands_next (sym (last_more start so_far.states cut.new)) cut.stands_for;
    leaves_only = leaves_more first disk next start so_far.states cut.new so_far.leaves_only cut.leaves_only;
    bounded = bounded_more (reads first) (reads disk) (reads next) (writes first) (writes disk) (writes next) so_far.reports cut.report so_far.bounded cut.cause reads_later writes_later;
  }

  -- ---- one line

  -- a line that was served, by what serving it says
  module _ (capabilities : List Capability) (old : State) (line : Option (List ℕ)) (r : Report) (before after : Option (List ℕ)) (stands : State → Type 0) (disk next : D)
      (served : (new : State) × stands new × LineStep capabilities old line r.recovered r.answer new × LeavesOnly moment left_since disk next (StandsBetween old new)) (cause : Causes disk next r.answer) where
    pub line_answered : Appends before after (report_text r) → LineAnswered capabilities old line before after stands (LeavesOnly moment left_since disk next) (Causes disk next)
    line_answered written = record {
      report = r;
      new = served.0;
      step = served.2;
      written = written;
      stands_for = served.1;
      leaves_only = served.3;
      cause = cause;
    }

    pub line_cut : StopsWithin before after (report_text r) → LineCut capabilities old line before after stands (LeavesOnly moment left_since disk next) (Causes disk next)
    line_cut stops = record {
      report = r;
      new = served.0;
      step = served.2;
      stops = stops;
      stands_for = served.1;
      leaves_only = served.3;
      cause = cause;
    }

  -- the same of a line from each state for which the array stood, by how its report was written

  pub answered_so : {E : Type 0} (result : Result (Unit {0}) E) (capabilities : List Capability) (line : Option (List ℕ)) (r : Report) (before after : Option (List ℕ))
      (honest : Type 0) (stood stands : State → Type 0) (disk next : D)
      → (honest → (old : State) → stood old
      → (new : State) × stands new × LineStep capabilities old line r.recovered r.answer new × LeavesOnly moment left_since disk next (StandsBetween old new))
      → Causes disk next r.answer → OnOk result (Appends before after (report_text r))
      → OnOk result (honest → (old : State) → stood old → LineAnswered capabilities old line before after stands (LeavesOnly moment left_since disk next) (Causes disk next))
  answered_so (Ok u) capabilities line r before after honest stood stands disk next served cause written =
      λ is old was. line_answered capabilities old line r before after stands disk next (served is old was) cause written
  answered_so (Err e) capabilities line r before after honest stood stands disk next served cause written = tt

  pub cut_so : {E : Type 0} (result : Result (Unit {0}) E) (capabilities : List Capability) (line : Option (List ℕ)) (r : Report) (before after : Option (List ℕ))
      (honest : Type 0) (stood stands : State → Type 0) (disk next : D)
      → (honest → (old : State) → stood old
      → (new : State) × stands new × LineStep capabilities old line r.recovered r.answer new × LeavesOnly moment left_since disk next (StandsBetween old new))
      → Causes disk next r.answer → OnErr result (StopsWithin before after (report_text r))
      → OnErr result (honest → (old : State) → stood old → LineCut capabilities old line before after stands (LeavesOnly moment left_since disk next) (Causes disk next))
  cut_so (Ok u) capabilities line r before after honest stood stands disk next served cause stops = tt
  cut_so (Err e) capabilities line r before after honest stood stands disk next served cause stops =
      λ is old was. line_cut capabilities old line r before after stands disk next (served is old was) cause stops

  -- a line that is too long, of which each image stands for the state as before
  pub too_long : (capabilities : List Capability) (old : State) (stands : State → Type 0) (disk : D)
      → stands old → EachImage (StandsForOne old) (left_since disk (moment disk))
      → (new : State) × stands new × LineStep capabilities old None None (a_reply.Line LineTooLong) new × LeavesOnly moment left_since disk disk (StandsBetween old new)
  too_long capabilities old stands disk now each =
      (old, now, (refl, refl, refl), started moment left_since disk (StandsBetween old old) (λ image left. inl (each image left)))

  -- ---- what was read and served

  -- The lines given so far were served, from each state with which the script may have begun.
  pub record Progress (capabilities : List Capability) (reader : ReaderState) (left now before after : Option (List ℕ)) (entry stands : State → Type 0) (first disk : D) : Type 0 where
    pub lines : List (Option (List ℕ))
    pub reading : Gave (new_reader line_limit) reader lines left now
    pub serving : (start : State) → entry start → Answered capabilities start [] before after stands (LeavesOnly moment left_since first disk) (Bounds first disk) lines

  pub progress_none : (capabilities : List Capability) (reader : ReaderState) (left before : Option (List ℕ)) (entry stands : State → Type 0) (disk : D)
      → reader ≡ new_reader line_limit → ((start : State) → entry start → stands start × EachImage (StandsForOne start) (left_since disk (moment disk)))
      → Progress capabilities reader left left before before entry stands disk disk
  progress_none capabilities reader left before entry stands disk is begins = record {
    lines = [];
    reading = let P : ReaderState → Type 0 = λ s. Gave (new_reader line_limit) s [] left left in subst P (sym is) (gave_nothing left);
    serving = λ start at_entry. answered_none capabilities start before stands disk (begins start at_entry).0 (begins start at_entry).1;
  }

  pub progress_line : (capabilities : List Capability) (old new : ReaderState) (line : Option (List ℕ)) (left between now before mid after : Option (List ℕ))
      (entry stands stands_next : State → Type 0) (first disk next : D)
      → Progress capabilities old left between before mid entry stands first disk → Gave old new (line ∷ []) between now
      → ((start : State) → entry start → (state : State) → stands state → LineAnswered capabilities state line mid after stands_next (LeavesOnly moment left_since disk next) (Causes disk next))
      → reads disk ≤ reads next → writes disk ≤ writes next
      → Progress capabilities new left now before after entry stands_next first next
  progress_line capabilities old new line left between now before mid after entry stands stands_next first disk next so_far gave answered reads_later writes_later = record {
    lines = so_far.lines ++ line ∷ [];
    reading = gave_more (new_reader line_limit) old new so_far.lines (line ∷ []) left between now so_far.reading gave;
    serving = λ start at_entry.
        let till : Answered capabilities start [] before mid stands (LeavesOnly moment left_since first disk) (Bounds first disk) so_far.lines = so_far.serving start at_entry in
        answered_more capabilities start before mid after stands stands_next first disk next so_far.lines line till
        (answered start at_entry (last_state start till.states) till.stands_for) reads_later writes_later;
  }

  -- ---- how a script ends

  module _ (capabilities : List Capability) (old new : ReaderState) (left between now before after : Option (List ℕ)) (entry stands : State → Type 0) (first disk : D)
      (so_far : Progress capabilities old left between before after entry stands first disk) where
    -- the same lines, said of others that are equal to them
    answered_as : (others : List (Option (List ℕ))) → so_far.lines ≡ others → (start : State) → entry start
        → Answered capabilities start [] before after stands (LeavesOnly moment left_since first disk) (Bounds first disk) others
    answered_as others same start at_entry =
        let P : List (Option (List ℕ)) → Type 0 = λ ls. Answered capabilities start [] before after stands (LeavesOnly moment left_since first disk) (Bounds first disk) ls in
        subst P same (so_far.serving start at_entry)

    all_read : GaveAll old new between now → IfSome left (λ told. (so_far.lines ++ [] ≡ lines_of told) × (length told ≤ script_limit))
    all_read end =
        told_all new (so_far.lines ++ []) left now (gave_more (new_reader line_limit) old new so_far.lines [] left between now so_far.reading end.gave) end.ended end.none_left

    pub served_all : GaveAll old new between now → (start : State) → entry start
        → IfSome left (λ told. Answered capabilities start [] before after stands (LeavesOnly moment left_since first disk) (Bounds first disk) (lines_of told))
    served_all end start at_entry =
        if_some left _ _ (all_read end) (λ told is all. answered_as (lines_of told) (sym (append-nil so_far.lines) ∙ all.0) start at_entry)

    pub served_within : GaveAll old new between now → IfSome left (λ told. length told ≤ script_limit)
    served_within end = if_some left _ _ (all_read end) (λ told is all. all.1)

    pub served_past : WentPast old new between now → (start : State) → entry start
        → IfSome left (λ told. Answered capabilities start [] before after stands (LeavesOnly moment left_since first disk) (Bounds first disk) (ended_lines_of (take script_limit told)))
    served_past more start at_entry =
        if_some left _ _ (told_past old new so_far.lines left between now so_far.reading more)
        (λ told is past. answered_as (ended_lines_of (take script_limit told)) past.0 start at_entry)

    pub went_past : WentPast old new between now → IfSome left (λ told. (script_limit < length told) × (now ≡ Some (drop (script_limit + 1) told)))
    went_past more =
        if_some left _ _ (told_past old new so_far.lines left between now so_far.reading more) (λ told is past. (past.1, past.2))

    pub served_front : GaveNone old new between now → (start : State) → entry start
        → IfSome left (λ told. AnsweredFront capabilities start [] before after stands (LeavesOnly moment left_since first disk) (Bounds first disk) told now)
    served_front more start at_entry = by left so_far.reading refl
      where
        by : (script : Option (List ℕ)) → Gave (new_reader line_limit) old so_far.lines script between → script ≡ left
            → IfSome script (λ told. AnsweredFront capabilities start [] before after stands (LeavesOnly moment left_since first disk) (Bounds first disk) told now)
        by None reading is = tt
        by (Some told) reading is =
            let front = front_given old new so_far.lines (Some told) between now reading more in
            record {
              front = front.front;
              within = front.within;
              consumed = front.consumed;
              answered = answered_as (ended_lines_of front.front) front.lines start at_entry;
            }

  pub served_cut : (capabilities : List Capability) (old new : ReaderState) (line : Option (List ℕ)) (left between now before mid after : Option (List ℕ))
      (entry stands stands_next : State → Type 0) (first disk next : D)
      → Progress capabilities old left between before mid entry stands first disk → Gave old new (line ∷ []) between now
      → ((start : State) → entry start → (state : State) → stands state → LineCut capabilities state line mid after stands_next (LeavesOnly moment left_since disk next) (Causes disk next))
      → reads disk ≤ reads next → writes disk ≤ writes next → (start : State) → entry start
      → IfSome left (λ told. CutShort capabilities start [] before after stands_next (LeavesOnly moment left_since first next) (Bounds first next) (lines_answered told))
  served_cut capabilities old new line left between now before mid after entry stands stands_next first disk next so_far gave cut reads_later writes_later start at_entry =
      let till : Answered capabilities start [] before mid stands (LeavesOnly moment left_since first disk) (Bounds first disk) so_far.lines = so_far.serving start at_entry in
      if_some left _ _ (lead_of new (so_far.lines ++ line ∷ []) left now (gave_more (new_reader line_limit) old new so_far.lines (line ∷ []) left between now so_far.reading gave))
      (λ told is lead. answered_cut capabilities start before mid after stands stands_next first disk next so_far.lines line lead.0 (lines_answered told) till
      (cut start at_entry (last_state start till.states) till.stands_for) reads_later writes_later (sym lead.1))
