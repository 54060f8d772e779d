-- Why an answer came. Sources, sinks and disks each keep a count of their own faults, which never falls.
-- A fault is answered only where that count rose during the call, so a body can't give up by itself.
use Rattle.std.specs.Prelude.{ℕ, ◌≡◌, ◌≤◌, ◌+◌, ◌-◌, ◌^◌, min, Result, OnErr, OnOk}

-- The count went up, or it stands at the end of its 64 bits.
abbrev pub Rose : ℕ → ℕ → Type 0
Rose before now = min (before + 1) (2 ^ 64 - 1) ≤ now

-- The count didn't fall, an error came only where it rose, and where there is none it stays: no fault is passed over.
pub record HasCause {T E : Type 0} (before now : ℕ) (result : Result T E) : Type 0 where
  pub later : before ≤ now
  pub failed : OnErr result (Rose before now)
  pub kept : OnOk result (now ≡ before)
