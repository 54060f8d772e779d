-- The replies of plans have texts.
use Rattle.std.specs.Prelude.{⊤}
use Rattle.vv_reply.specs.Replies.{FitsReply}
use Rattle.vv_core.specs.declared.planned.Planned.{Planned}
use Rattle.vv_core.specs.declared.planned.Planned.TheVariants as planned

abbrev pub HasText : Planned → Type 0
HasText (planned.Answer answer) = FitsReply answer
HasText (planned.Read volume first blocks) = ⊤
HasText (planned.Journal e filled compare answer) = FitsReply answer
