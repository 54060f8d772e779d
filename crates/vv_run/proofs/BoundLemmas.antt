-- How many faults of the disk a run tells, line by line: for the loop that serves a script.
use Rattle.std.proofs.Common.{◌≡◌, ℕ, ◌+◌, ◌-◌, ◌^◌, ◌<◌, ◌≤◌, ◌++◌, List, [], ◌∷◌, Bool, true, false, Some, refl, arith}
use Rattle.std.specs.Prelude.{Option}
use Rattle.vv_units.specs.Causes.{Rose}
use Rattle.vv_reply.specs.declared.reply.Refusal.{Refusal}
use Rattle.vv_reply.specs.declared.reply.Refusal.TheVariants as fault
use Rattle.vv_calls.specs.declared.call.LineFault.TheVariants.{LineTooLong}
use Rattle.vv_reply.specs.declared.reply.Reply.TheVariants as a_reply
use Rattle.vv_meaning.specs.Steps.{Report}
use Rattle.vv_array.specs.Faults.{cause_of, HasItsCause}
use Rattle.vv_run.specs.Bounds.{is_read_fault, is_write_fault, one_if, reads_told, writes_told, AreBounded}

reads_more : (reports : List Report) (r : Report) → reads_told (reports ++ r ∷ []) ≡ reads_told reports + one_if (is_read_fault (cause_of r.answer))
reads_more [] r = omega arith
reads_more (q ∷ reports) r = let rest = reads_more reports r in omega (arith, rest)

writes_more : (reports : List Report) (r : Report) → writes_told (reports ++ r ∷ []) ≡ writes_told reports + one_if (is_write_fault (cause_of r.answer))
writes_more [] r = omega arith
writes_more (q ∷ reports) r = let rest = writes_more reports r in omega (arith, rest)

-- a count that rose, and isn't at its end, is one more
one_more : (before now : ℕ) → Rose before now → now < 2 ^ 64 - 1 → before + 1 ≤ now
one_more before now rose below = omega (arith, rose, below)

read_fault_is : (cause : Option Refusal) → is_read_fault cause ≡ true → cause ≡ Some fault.ReadFault
read_fault_is (Some fault.ReadFault) is = refl
read_fault_is cause is = absurd (cc)

write_fault_is : (cause : Option Refusal) → is_write_fault cause ≡ true → cause ≡ Some fault.WriteFault
write_fault_is (Some fault.WriteFault) is = refl
write_fault_is cause is = absurd (cc)

counted : (b : Bool) (before now : ℕ) → (b ≡ true → Rose before now) → before ≤ now → now < 2 ^ 64 - 1 → before + one_if b ≤ now
counted true before now rose later below = one_more before now (rose refl) below
counted false before now rose later below = omega (arith, later)

-- one line more
pub bounded_more : (r0 r1 r2 w0 w1 w2 : ℕ) (reports : List Report) (r : Report) → AreBounded r0 r1 w0 w1 reports → HasItsCause r1 r2 w1 w2 r.answer
    → r1 ≤ r2 → w1 ≤ w2 → AreBounded r0 r2 w0 w2 (reports ++ r ∷ [])
bounded_more r0 r1 r2 w0 w1 w2 reports r so_far cause reads_later writes_later = record {
  reads = λ below.
      let before : r1 < 2 ^ 64 - 1 = omega (arith, below, reads_later) in
      let till = so_far.reads before in
      let here = counted (is_read_fault (cause_of r.answer)) r1 r2 (λ is. cause.reads (read_fault_is (cause_of r.answer) is)) reads_later below in
      let more = reads_more reports r in
      omega (arith, till, here, more);
  writes = λ below.
      let before : w1 < 2 ^ 64 - 1 = omega (arith, below, writes_later) in
      let till = so_far.writes before in
      let here = counted (is_write_fault (cause_of r.answer)) w1 w2 (λ is. cause.writes (write_fault_is (cause_of r.answer) is)) writes_later below in
      let more = writes_more reports r in
      omega (arith, till, here, more);
}

pub bounded_none : (r0 w0 : ℕ) → AreBounded r0 r0 w0 w0 []
bounded_none r0 w0 = record { reads = λ below. omega arith; writes = λ below. omega arith }

-- counted from an earlier moment on
pub bounded_before : (r r0 r1 w w0 w1 : ℕ) (reports : List Report) → r ≤ r0 → w ≤ w0 → AreBounded r0 r1 w0 w1 reports → AreBounded r r1 w w1 reports
bounded_before r r0 r1 w w0 w1 reports reads_later writes_later bounded = record {
  reads = λ below. let so = bounded.reads below in omega (arith, so, reads_later);
  writes = λ below. let so = bounded.writes below in omega (arith, so, writes_later);
}

-- a line that is too long tells no fault of the disk
pub too_long_cause : (r w : ℕ) → HasItsCause r r w w (a_reply.Line LineTooLong)
too_long_cause r w = record { reads = λ is. absurd (cc); writes = λ is. absurd (cc) }
