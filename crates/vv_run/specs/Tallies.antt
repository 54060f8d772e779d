-- A tally of what lines were answered, beside their reports.
use Rattle.std.specs.Prelude.{◌≡◌, ℕ, ◌+◌, List, Option, Some, None, ⊤}
use Rattle.vv_reply.specs.Replies.{FitsReply}
use Rattle.vv_reply.specs.declared.reply.Reply.{Reply}
use Rattle.vv_meaning.specs.Steps.{Report}
use Rattle.vv_run.specs.declared.tally.LineReport.{LineReport}
use Rattle.vv_run.specs.declared.tally.Tally.{Tally}
use Rattle.vv_run.specs.Loading.{accepted_in, refused_in, last_of}

abbrev pub none_counted : Tally
none_counted = record { accepted = 0; refused = 0; last = None }

abbrev pub report_of : Option ℕ → Reply → Report
report_of recovered reply = record { recovered = recovered; answer = reply }

abbrev pub seen_last : Option LineReport → Option Report
seen_last None = None
seen_last (Some last) = Some (report_of last.recovered last.reply)

-- these reports were counted behind others
pub record Counts (old new : Tally) (reports : List Report) : Type 0 where
  pub accepted : new.accepted ≡ old.accepted + accepted_in reports
  pub refused : new.refused ≡ old.refused + refused_in reports
  pub last : seen_last new.last ≡ last_of (seen_last old.last) reports

-- the reply that was counted last has a text
abbrev pub HasText : Option LineReport → Type 0
HasText None = ⊤
HasText (Some last) = FitsReply last.reply

abbrev pub LastFits : Tally → Type 0
LastFits tally = HasText tally.last
