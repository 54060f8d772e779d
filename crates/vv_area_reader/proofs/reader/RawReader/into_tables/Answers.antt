use Rattle.std.proofs.Common.{◌≡◌, ℕ, List, ◌<◌, ◌≤◌, true, false, [], length, drop, arith, ap, sym, ◌∙◌, length-drop}
use Rattle.std.specs.Prelude.{Ok, Err, nat_lt}
use Rattle.std.proofs.lemmas.Bool.{ltb-true, ltb-false}
use Rattle.std.proofs.lemmas.List.{drop_all}
use Rattle.vv_area_reader.specs.Told.{AreaReading}
use Rattle.vv_area_reader.proofs.Going.{told_too_much, told_tables}
use Rattle.vv_area_reader.proofs.reader.RawReader.into_tables.Goals as goal

pub returns-then-are_left : goal.returns-then-are_left
returns-then-are_left c =
    let size : length (drop c.self.inside.start c.self.inside.buffer.items) ≡ length c.args.self.waiting = ap (λ (r : AreaReading). length r.waiting) c.self.view_is in
    let left : nat_lt c.self.inside.start (length c.self.inside.buffer.items) ≡ true =
    ap (λ (b : List ℕ). nat_lt c.self.inside.start (length b)) (sym c.deref.ensures.value) ∙ sym c.are_left.ensures ∙ c.if-are_left.true
    in
    let lt : c.self.inside.start < length c.self.inside.buffer.items = ltb-true c.self.inside.start (length c.self.inside.buffer.items) left in
    let some : 0 < length c.args.self.waiting = omega (arith, length-drop c.self.inside.start c.self.inside.buffer.items) in
    told_too_much c.args.self [] c.requires some ∙ ap (λ (r : AreaReading). Err r.passed) (sym c.self.view_is)

pub returns : goal.returns
returns c =
    let left : nat_lt c.self.inside.start (length c.self.inside.buffer.items) ≡ false =
    ap (λ (b : List ℕ). nat_lt c.self.inside.start (length b)) (sym c.deref.ensures.value) ∙ sym c.are_left.ensures ∙ c.if-are_left.false
    in
    let past : length c.self.inside.buffer.items ≤ c.self.inside.start = ltb-false c.self.inside.start (length c.self.inside.buffer.items) left in
    let none : c.args.self.waiting ≡ [] = ap (λ (r : AreaReading). r.waiting) (sym c.self.view_is) ∙ drop_all c.self.inside.start c.self.inside.buffer.items past in
    told_tables c.args.self c.requires none ∙ ap (λ (r : AreaReading). Ok r.progress.begun) (sym c.self.view_is) ∙ ap (λ d. Ok d) (sym c.into_tables.ensures)
