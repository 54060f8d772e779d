-- What `gen` and `load` write: a generated script; or, once its lines were served, what the last was answered, and a summary.
use Rattle.std.specs.Prelude.{ℕ, ◌+◌, ◌&&◌, Bool, true, not, List, [], ◌∷◌, ◌++◌, length, codes, Option, Some, None, ⊤}
use Rattle.std.specs.List.{list_any}
use Rattle.std.specs.Str.{bytes_eq}
use Rattle.std.specs.Io.KnownBytes.{Appends}
use Rattle.vv_flat.specs.Lists.{if_found}
use Rattle.vv_gen.specs.Script.{script}
use Rattle.vv_reply.specs.Objects.{object, number, flag}
use Rattle.vv_reply.specs.Replies.{members_of}
use Rattle.vv_reply.specs.declared.reply.Reply.{Reply}
use Rattle.vv_meaning.specs.Steps.{Report, report_text}
use Rattle.vv_run.specs.declared.status.Status.{Status}
use Rattle.vv_run.specs.declared.status.Status.TheVariants.{Done, BadWords, SourceFault, SinkFault, NotFormatted, Damaged, DeviceFault, NoMemory, TooMuch, WrongSize}
use Rattle.vv_run.specs.declared.words.Recipe.{Recipe}
use Rattle.vv_run.specs.Bounds.{one_if}
use Rattle.vv_run.specs.Lines.{lines_of}
use Rattle.vv_run.specs.Writing.{StopsWithin}

-- the last line that is served by `load`
abbrev pub query_line : List ℕ
query_line = codes "{\"call\":\"queryPool\"}\n"

-- the lines that are served by `load`: those of the generated script, and that one
abbrev pub loaded_lines : Recipe → List (Option (List ℕ))
loaded_lines recipe = lines_of (script recipe.seed recipe.lines ++ query_line)

-- whether a member of an object is `"ok":true`
abbrev pub is_yes : List ℕ × List ℕ → Bool
is_yes member = bytes_eq member.0 (codes "ok") && bytes_eq member.1 (flag true)

-- whether a reply has that member
abbrev pub says_ok : Reply → Bool
says_ok answer = list_any is_yes (members_of answer)

-- how many replies have it, and how many do not

abbrev pub accepted_in : List Report → ℕ
accepted_in [] = 0
accepted_in (r ∷ reports) = one_if (says_ok r.answer) + accepted_in reports

abbrev pub refused_in : List Report → ℕ
refused_in [] = 0
refused_in (r ∷ reports) = one_if (not (says_ok r.answer)) + refused_in reports

-- the last of reports that come behind one, if there is any
abbrev pub last_of : Option Report → List Report → Option Report
last_of before [] = before
last_of before (r ∷ reports) = last_of (Some r) reports

abbrev pub last_text : Option Report → List ℕ
last_text last = if_found last report_text []

abbrev pub summary_text : ℕ → ℕ → ℕ → List ℕ
summary_text lines accepted refused =
    object ((codes "lines", number lines) ∷ (codes "ok", number accepted) ∷ (codes "refused", number refused) ∷ [])

-- what is written of all reports: the text of the last, and how many replies there were, of which kind
abbrev pub loaded_text : List Report → List ℕ
loaded_text reports = last_text (last_of None reports) ++ summary_text (length reports) (accepted_in reports) (refused_in reports)

-- How `gen` ends: it wrote this text, or the sink failed and took a part of it, or there was no memory.
abbrev pub GenerateEnds : Status → Option (List ℕ) → Option (List ℕ) → List ℕ → Type 0
GenerateEnds Done before after text = Appends before after text
GenerateEnds SinkFault before after text = StopsWithin before after text
GenerateEnds NoMemory before after text = ⊤
GenerateEnds BadWords before after text = ⊥
GenerateEnds SourceFault before after text = ⊥
GenerateEnds NotFormatted before after text = ⊥
GenerateEnds (Damaged damage) before after text = ⊥
GenerateEnds DeviceFault before after text = ⊥
GenerateEnds TooMuch before after text = ⊥
GenerateEnds (WrongSize needed found) before after text = ⊥

-- How `load` ends: its lines were served, and what is written of their reports was, or the sink took a part of that; or no line
-- was served, since no image could be made or there was no memory.
abbrev pub LoadEnds : Status → Option (List ℕ) → Option (List ℕ) → ((List Report → Type 0) → Type 0) → Type 0
LoadEnds Done before after served = served (λ reports. Appends before after (loaded_text reports))
LoadEnds SinkFault before after served = served (λ reports. StopsWithin before after (loaded_text reports))
LoadEnds NoMemory before after served = ⊤
LoadEnds DeviceFault before after served = ⊤
LoadEnds (WrongSize needed found) before after served = ⊤
LoadEnds BadWords before after served = ⊥
LoadEnds SourceFault before after served = ⊥
LoadEnds NotFormatted before after served = ⊥
LoadEnds (Damaged damage) before after served = ⊥
LoadEnds TooMuch before after served = ⊥
