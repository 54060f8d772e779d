-- How many lines of a run tell a fault of the disk: no more than its count of these rose by.
use Rattle.std.specs.Prelude.{ℕ, ◌+◌, ◌-◌, ◌^◌, ◌<◌, ◌≤◌, Bool, true, false, List, [], ◌∷◌, Option, Some}
use Rattle.vv_reply.specs.declared.reply.Refusal.{Refusal}
use Rattle.vv_reply.specs.declared.reply.Refusal.TheVariants as fault
use Rattle.vv_meaning.specs.Steps.{Report}
use Rattle.vv_array.specs.Faults.{cause_of}

-- whether the cause of a reply is a read that failed, or a write

abbrev pub is_read_fault : Option Refusal → Bool
is_read_fault (Some fault.ReadFault) = true
is_read_fault _ = false

abbrev pub is_write_fault : Option Refusal → Bool
is_write_fault (Some fault.WriteFault) = true
is_write_fault _ = false

abbrev pub one_if : Bool → ℕ
one_if true = 1
one_if false = 0

-- how many reports tell a read that failed, or a write

abbrev pub reads_told : List Report → ℕ
reads_told [] = 0
reads_told (r ∷ reports) = one_if (is_read_fault (cause_of r.answer)) + reads_told reports

abbrev pub writes_told : List Report → ℕ
writes_told [] = 0
writes_told (r ∷ reports) = one_if (is_write_fault (cause_of r.answer)) + writes_told reports

-- No more faults are told than were counted, where the count didn't come to the end of its 64 bits.
pub record AreBounded (reads_before reads_now writes_before writes_now : ℕ) (reports : List Report) : Type 0 where
  pub reads : reads_now < 2 ^ 64 - 1 → reads_before + reads_told reports ≤ reads_now
  pub writes : writes_now < 2 ^ 64 - 1 → writes_before + writes_told reports ≤ writes_now
