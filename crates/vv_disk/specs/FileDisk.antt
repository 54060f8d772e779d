-- A disk over a file: its length and its faults. What the file holds is not told.
use Rattle.std.specs.Prelude.{ℕ, Bool, true, false, ◌≡◌, is_ok, List, Option, None, Some, Result, if◌then◌else◌}
use Rattle.std.proofs.Common.{subst}
use Rattle.vv_disk.specs.MemDisk.{raised}

-- what a disk over a file is seen as
pub record FileState : Type 0 where
  pub size : ℕ
  -- it has no file, so all its reads, writes and syncs fail
  pub is_broken : Bool
  pub read_faults : ℕ
  pub write_faults : ℕ

-- a disk of this size, before its first call
abbrev pub new_file : ℕ → FileState
new_file size = record { size = size; is_broken = false; read_faults = 0; write_faults = 0 }

abbrev pub broken_file : ℕ → FileState
broken_file size = record { size = size; is_broken = true; read_faults = 0; write_faults = 0 }

-- a fault is counted, and nothing else changes
abbrev pub after_reading : {T E : Type 0} → FileState → Result T E → FileState
after_reading disk result = if is_ok result then disk else record disk { read_faults = raised disk.read_faults }

abbrev pub after_writing : {T E : Type 0} → FileState → Result T E → FileState
after_writing disk result = if is_ok result then disk else record disk { write_faults = raised disk.write_faults }

-- nothing is told
pub none_told : (c : List ℕ) → None ≡ Some c → ⊥
none_told c told = subst IsNothing told tt
  where
    IsNothing : Option (List ℕ) → Type 0
    IsNothing None = Unit {0}
    IsNothing (Some c) = ⊥
