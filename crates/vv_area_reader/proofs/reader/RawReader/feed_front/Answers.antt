use Rattle.std.proofs.Common.{◌≡◌, ◌++◌, ap, sym, ◌∙◌, rules}
use Rattle.vv_area_reader.specs.Told.{AreaReading, told}
use Rattle.vv_area_reader.proofs.Going.{told_when_fed}
use Rattle.vv_area_reader.proofs.reader.RawReader.feed_front.Goals as goal

pub returns-clause-told : goal.returns-clause-told
returns-clause-told c = λ coming.
    let took : ◌≡◌ {A = AreaReading} c.take.new.self (record c.args.self.now { waiting = c.args.self.now.waiting ++ c.args.front.now }) = search rules in
    let fed : told c.args.self.now (c.args.front.now ++ coming) ≡ told c.take.new.self coming =
    told_when_fed c.args.self.now c.args.front.now coming ∙ ap (λ r. told r coming) (sym took) in
    rw fed (c.make_steps.ensures.told coming)
