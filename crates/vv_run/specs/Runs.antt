-- Runs of the durable array over lines: what is written for them, for which state the array stands in the end, and for which
-- states the images stand that a crash may leave.
--
-- In all of these `before` and `after` are what the sink had taken, `stands` says that the array stands for a state now, and
-- `leaves` that a crash since the beginning leaves images of a kind alone. `causes` says why a reply tells a fault of the disk,
-- and `bounds` how many reports do.
use Rattle.std.specs.Prelude.{◌≡◌, ℕ, ◌<◌, ◌≤◌, List, [], ◌∷◌, ◌++◌, length, Option, Some}
use Rattle.std.specs.Io.KnownBytes.{Appends}
use Rattle.vv_flat.specs.Profiles.{Capability}
use Rattle.vv_io.specs.Reading.{script_limit}
use Rattle.vv_io.specs.Streams.{ConsumesOrForgets}
use Rattle.vv_reply.specs.declared.reply.Reply.{Reply}
use Rattle.vv_meaning.specs.Steps.{State, Report, report_text, reports_text}
use Rattle.vv_array.specs.Moments.{StandsBetween}
use Rattle.vv_run.specs.Lines.{ended_lines_of}
use Rattle.vv_run.specs.Steps.{LineStep, Run, last_state, StandsInRun}
use Rattle.vv_run.specs.Writing.{AppendsOrForgets, StopsWithin}

-- A line was answered, and the sink took the text of its report.
pub record LineAnswered (capabilities : List Capability) (old : State) (line : Option (List ℕ)) (before after : Option (List ℕ))
    (stands : State → Type 0) (leaves : (List ℕ → Type 0) → Type 0) (causes : Reply → Type 0) : Type 0 where
  pub report : Report
  pub new : State
  pub step : LineStep capabilities old line report.recovered report.answer new
  pub written : Appends before after (report_text report)
  pub stands_for : stands new
  pub leaves_only : leaves (StandsBetween old new)
  pub cause : causes report.answer

-- A line was answered, and the sink took only a part of the text of its report.
pub record LineCut (capabilities : List Capability) (old : State) (line : Option (List ℕ)) (before after : Option (List ℕ))
    (stands : State → Type 0) (leaves : (List ℕ → Type 0) → Type 0) (causes : Reply → Type 0) : Type 0 where
  pub report : Report
  pub new : State
  pub step : LineStep capabilities old line report.recovered report.answer new
  pub stops : StopsWithin before after (report_text report)
  pub stands_for : stands new
  pub leaves_only : leaves (StandsBetween old new)
  pub cause : causes report.answer

-- The lines were answered in order from a state on, and the sink took exactly the text at the head and then the texts of
-- their reports. The array stands for the last state, and a crash leaves images of the states of this run alone.
pub record Answered (capabilities : List Capability) (start : State) (head : List ℕ) (before after : Option (List ℕ))
    (stands : State → Type 0) (leaves : (List ℕ → Type 0) → Type 0) (bounds : List Report → Type 0) (lines : List (Option (List ℕ))) : Type 0 where
  pub reports : List Report
  pub states : List State
  pub run : Run capabilities start lines reports states
  pub written : Appends before after (head ++ reports_text reports)
  pub stands_for : stands (last_state start states)
  pub leaves_only : leaves (StandsInRun start states)
  pub bounded : bounds reports

-- Some of the lines were answered, and of the text of the last one's report the sink took only a part.
pub record CutShort (capabilities : List Capability) (start : State) (head : List ℕ) (before after : Option (List ℕ))
    (stands : State → Type 0) (leaves : (List ℕ → Type 0) → Type 0) (bounds : List Report → Type 0) (lines : List (Option (List ℕ))) : Type 0 where
  pub served : List (Option (List ℕ))
  pub unserved : List (Option (List ℕ))
  pub all : served ++ unserved ≡ lines
  pub reports : List Report
  pub last : Report
  pub states : List State
  pub run : Run capabilities start served (reports ++ last ∷ []) states
  pub part : List ℕ
  pub lost : List ℕ
  pub whole : part ++ lost ≡ report_text last
  pub proper : 0 < length lost
  pub written : AppendsOrForgets before after (head ++ (reports_text reports ++ part))
  pub stands_for : stands (last_state start states)
  pub leaves_only : leaves (StandsInRun start states)
  pub bounded : bounds (reports ++ last ∷ [])

-- The sink took only a part of the text at the head, and no line was served.
pub record HeadCut (start : State) (head : List ℕ) (before after : Option (List ℕ))
    (stands : State → Type 0) (leaves : (List ℕ → Type 0) → Type 0) : Type 0 where
  pub stops : StopsWithin before after head
  pub stands_for : stands start
  pub leaves_only : leaves (StandsInRun start [])

-- Of the bytes that the source told it gave a front, of which the lines that end by LF were answered. It has the others left,
-- unless it no longer tells.
pub record AnsweredFront (capabilities : List Capability) (start : State) (head : List ℕ) (before after : Option (List ℕ))
    (stands : State → Type 0) (leaves : (List ℕ → Type 0) → Type 0) (bounds : List Report → Type 0) (told : List ℕ) (left : Option (List ℕ)) : Type 0 where
  pub front : List ℕ
  pub within : length front ≤ script_limit
  pub consumed : ConsumesOrForgets (Some told) left front
  pub answered : Answered capabilities start head before after stands leaves bounds (ended_lines_of front)

-- The lines were answered in order from a state on, and this holds of their reports. The array stands for the last state, and
-- a crash leaves images of the states of this run alone.
pub record Reported (capabilities : List Capability) (start : State) (told : List Report → Type 0)
    (stands : State → Type 0) (leaves : (List ℕ → Type 0) → Type 0) (bounds : List Report → Type 0) (lines : List (Option (List ℕ))) : Type 0 where
  pub reports : List Report
  pub states : List State
  pub run : Run capabilities start lines reports states
  pub told_so : told reports
  pub stands_for : stands (last_state start states)
  pub leaves_only : leaves (StandsInRun start states)
  pub bounded : bounds reports
