use Rattle.std.proofs.Common.{◌≡◌, ℕ, ◌+◌, length, drop, arith, ap, sym, ◌∙◌, length-drop}
use Rattle.std.specs.Prelude.{Err}
use Rattle.std.proofs.lemmas.List.{drop-drop}
use Rattle.vv_area_reader.specs.Progress.{come_to}
use Rattle.vv_area_reader.specs.Told.{AreaReading, told}
use Rattle.vv_area_reader.proofs.reader.RawReader.make_step.Goals as goal

pub overflow_add-self : goal.overflow_add-self
overflow_add-self c =
    let waiting = c.split_at.ensures.back ∙ ap (drop c.self.inside.start) c.as_slice.ensures.value in
    let made = c.in-Ok.ensures c.self.inside.passed in
    omega (arith, made.0, ap length waiting, length-drop c.self.inside.start c.self.inside.buffer.items, c.self.inside.buffer.small)

pub overflow_add-self-in-Ok : goal.overflow_add-self-in-Ok
overflow_add-self-in-Ok c =
    let waiting = c.split_at.ensures.back ∙ ap (drop c.self.inside.start) c.as_slice.ensures.value in
    let made = c.in-Ok.ensures c.self.inside.passed in
    omega (arith, made.0, ap length waiting, length-drop c.self.inside.start c.self.inside.buffer.items, c.self.invariant.0, c.self.invariant.1)

pub invariant_of-self : goal.invariant_of-self
invariant_of-self c =
    let waiting = c.split_at.ensures.back ∙ ap (drop c.self.inside.start) c.as_slice.ensures.value in
    let made = c.in-Ok.ensures c.self.inside.passed in (
      omega (arith, made.0, ap length waiting, length-drop c.self.inside.start c.self.inside.buffer.items, c.self.invariant.0),
      omega (arith, made.0, ap length waiting, length-drop c.self.inside.start c.self.inside.buffer.items, c.self.invariant.0, c.self.invariant.1),
    )

pub place_behind-requires : goal.place_behind-requires
place_behind-requires c =
    let waiting = c.split_at.ensures.back ∙ ap (drop c.self.inside.start) c.as_slice.ensures.value in
    let failed = c.in-Err-Bad.ensures c.self.inside.passed in
    let at = rw c.in-Err-Bad.field-0-is at failed in
    omega (arith, at.0, ap length waiting, length-drop c.self.inside.start c.self.inside.buffer.items, c.self.invariant.0, c.self.invariant.1)

pub returns-in-Ok : goal.returns-in-Ok
returns-in-Ok c = λ coming enough.
    let waiting = c.split_at.ensures.back ∙ ap (drop c.self.inside.start) c.as_slice.ensures.value in
    let before : ◌≡◌ {A = AreaReading} (record { spelling = c.self.inside.spelling; progress = come_to c.self.inside.begun c.replace-stage.result; passed = c.self.inside.passed; waiting = c.split_at.result.1.now }) c.args.self.now =
    rw (waiting, c.replace-stage.ensures.value) c.self.view_is in
    let made = c.in-Ok.ensures c.self.inside.passed in
    let after : drop c.in-Ok.made.read c.split_at.result.1.now ≡ drop (c.self.inside.start + c.in-Ok.made.read) c.self.inside.buffer.items =
    ap (drop c.in-Ok.made.read) waiting ∙ drop-drop c.in-Ok.made.read c.self.inside.start c.self.inside.buffer.items in
    ap (λ r. told r coming) (sym before) ∙ made.1 coming
    ∙ ap (λ w. told (record { spelling = c.self.inside.spelling; progress = come_to c.make_step.new.begun c.in-Ok.made.stage; passed = c.self.inside.passed + c.in-Ok.made.read; waiting = w }) coming) after

pub returns-in-Err-Bad : goal.returns-in-Err-Bad
returns-in-Err-Bad c = λ coming enough.
    let waiting = c.split_at.ensures.back ∙ ap (drop c.self.inside.start) c.as_slice.ensures.value in
    let before : ◌≡◌ {A = AreaReading} (record { spelling = c.self.inside.spelling; progress = come_to c.self.inside.begun c.replace-stage.result; passed = c.self.inside.passed; waiting = c.split_at.result.1.now }) c.args.self.now =
    rw (waiting, c.replace-stage.ensures.value) c.self.view_is in
    let failed = c.in-Err-Bad.ensures c.self.inside.passed in
    let at = rw c.in-Err-Bad.field-0-is at failed in
    ap (λ r. told r coming) (sym before) ∙ at.1 coming (λ few. enough (omega (arith, few, ap (λ (r : AreaReading). length r.waiting) before)))
    ∙ ap (λ (k : ℕ). Err k) (sym c.place_behind.ensures)
