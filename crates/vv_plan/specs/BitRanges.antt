-- Which bits of a volume of so many chunks are asked for.
use Rattle.std.specs.Prelude.{ℕ, ◌-◌, Option, Result, Ok, Err, unwrap_or, nat_lt, if◌then◌else◌}
use Rattle.vv_units.specs.declared.field.Field.{Field}
use Rattle.vv_units.specs.declared.field.Field.TheVariants as field
use Rattle.vv_plan.specs.declared.bitmaps.BitRange.{BitRange}

-- so many from a first one on, or the field that is past the end
abbrev pub range_from : ℕ → ℕ → ℕ → Result BitRange Field
range_from size first count =
    if nat_lt size first then Err field.First
    else if nat_lt (size - first) count then Err field.Count
    else Ok (record { first = first; count = count })

-- .. from the beginning where no first one is named, and all behind it where no number is
abbrev pub range_asked : ℕ → Option ℕ → Option ℕ → Result BitRange Field
range_asked size first count =
    let start = unwrap_or first 0 in
    range_from size start (unwrap_or count (size - start))
