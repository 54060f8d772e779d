-- Words on the rows of running tasks.
use Rattle.std.specs.Prelude.{ℕ, ◌==◌, Bool}
use Rattle.vv_tables.specs.declared.rows.CloneRow.{CloneRow}
use Rattle.vv_tables.specs.declared.rows.CopyRow.{CopyRow}

abbrev pub is_clone_row : ℕ → CloneRow → Bool
is_clone_row n row = row.id.0 == n

abbrev pub is_copy_row : ℕ → CopyRow → Bool
is_copy_row n row = row.id.0 == n
