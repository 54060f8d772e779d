-- Why a call that reads and writes chunks failed.
use Rattle.std.specs.Prelude.{ℕ, ◌≡◌, ◌≤◌, Result, IfErr, OnOk}
use Rattle.vv_units.specs.Causes.{Rose}
use Rattle.vv_units.specs.declared.damage.DiskFault.{DiskFault}
use Rattle.vv_units.specs.declared.damage.DiskFault.TheVariants as fault

-- The counts of failed reads and of failed writes didn't fall, a fault came only where its own count rose, and where there
-- is none both stay: no fault is passed over.
pub record HasCauses {T : Type 0} (reads_before reads_now writes_before writes_now : ℕ) (result : Result T DiskFault) : Type 0 where
  pub reads : reads_before ≤ reads_now
  pub writes : writes_before ≤ writes_now
  pub read : IfErr result (λ f. f ≡ fault.Read → Rose reads_before reads_now)
  pub write : IfErr result (λ f. f ≡ fault.Write → Rose writes_before writes_now)
  pub kept : OnOk result ((reads_now ≡ reads_before) × (writes_now ≡ writes_before))
