-- Which pages of volumes stay their own over a change of tables.
use Rattle.std.specs.Prelude.{ℕ, ◌≡◌, true}
use Rattle.vv_vols.specs.Rows.{own_in}
use Rattle.vv_tables.specs.Seen.{TablesView}

-- a change takes no page from a volume that had it for itself
abbrev pub KeepsPages : TablesView → TablesView → Type 0
KeepsPages old new = (n k : ℕ) → own_in old.pages n k ≡ true → own_in new.pages n k ≡ true
