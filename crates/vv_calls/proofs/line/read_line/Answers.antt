use Rattle.std.proofs.Common.{◌≡◌, sym, ap, ◌∙◌, subst, arith, Result}
use Rattle.std.proofs.lemmas.Bool.{false≢true}
use Rattle.serde_json.specs.Errors.{IsMemory}
use Rattle.serde_json.specs.View.{view}
use Rattle.vv_calls.specs.declared.call.Call.{Call}
use Rattle.vv_calls.specs.declared.call.LineFault.{LineFault}
use Rattle.vv_calls.specs.Steps.{Reads}
use Rattle.vv_calls.specs.Calls.{call_of}
use Rattle.vv_calls.specs.Lines.{line_reading, reading_of}
use Rattle.vv_calls.proofs.LineReading.{reading-long, reading-no_text, reading-text}
use Rattle.vv_calls.proofs.line.read_line.Goals as goal

pub returns-then-line-gt-LINE_LIMIT-clause-reading : goal.returns-then-line-gt-LINE_LIMIT-clause-reading
returns-then-line-gt-LINE_LIMIT-clause-reading c = reading-long c.args.line.now (omega arith)

pub returns-in_default-clause-reading : goal.returns-in_default-clause-reading
returns-in_default-clause-reading c = reading-no_text c.args.line.now (omega arith) c.in_default.ensures.cases.0

pub returns-in-Ok-from_str-clause-reading : goal.returns-in-Ok-from_str-clause-reading
returns-in-Ok-from_str-clause-reading c =
    let text = c.in-Ok.ensures.cases in
    let value = c.in-Ok-from_str.ensures.ok in
    let reads = reading-text c.args.line.now (omega arith) text.1 in
    let is : line_reading c.args.line.now ≡ call_of (view c.in-Ok-from_str.value) = reads ∙ ap reading_of (rw text.0 at value) in
    let P : Result Call LineFault → Type 0 = λ reading. Reads c.call.result reading in
    subst P (sym is) c.call.ensures.reading

pub returns-in-Err-2-clause-reading : goal.returns-in-Err-2-clause-reading
returns-in-Err-2-clause-reading c =
    let text = c.in-Ok.ensures.cases in
    let other : IsMemory c.in-Err.e → ⊥ = λ memory. false≢true (c.if-is_memory.ensures.1 memory) in
    let none = c.in-Err.ensures.err other in
    reading-text c.args.line.now (omega arith) text.1 ∙ ap reading_of (rw text.0 at none)
