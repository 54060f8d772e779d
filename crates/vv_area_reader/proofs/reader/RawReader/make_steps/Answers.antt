use Rattle.std.proofs.Common.{◌≡◌, ◌≤◌, true, length, ap, sym, ◌∙◌, arith}
use Rattle.std.specs.Prelude.{Err}
use Rattle.std.proofs.lemmas.Bool.Decides.{nat_tests}
use Rattle.vv_area_reader.specs.Told.{AreaReading}
use Rattle.vv_area_reader.specs.Making.{is_whole_at}
use Rattle.vv_area_reader.proofs.Going.{told_too_much}
use Rattle.vv_area_reader.proofs.reader.RawReader.make_steps.Goals as goal

pub returns-then-is_whole-clause-told : goal.returns-then-is_whole-clause-told
returns-then-is_whole-clause-told c = λ coming.
    let whole : is_whole_at c.loop.self.progress.begun c.loop.self.progress.stage ≡ true = sym c.is_whole.ensures ∙ c.if-is_whole.true in
    let enough : 8624 ≤ length c.loop.self.waiting = grind (arith, nat_tests) in
    c.loop.invariant coming ∙ told_too_much c.loop.self coming whole (omega arith) ∙ ap (λ (r : AreaReading). Err r.passed) (sym c.self.view_is)
