-- The lines of a script: blank ones are passed over, and one above the limit is told as None.
use Rattle.std.specs.Prelude.{ℕ, List, length, take, nat_lt, Option, if◌then◌else◌}
use Rattle.vv_io.specs.Lines.{lines_in, ended_in}
use Rattle.vv_io.specs.Reading.{script_limit}
use Rattle.vv_calls.specs.Lines.{line_limit}

-- the lines of a script that was read to its end
abbrev pub lines_of : List ℕ → List (Option (List ℕ))
lines_of told = lines_in line_limit told

-- the lines of the front of a script: those that end by LF in it
abbrev pub ended_lines_of : List ℕ → List (Option (List ℕ))
ended_lines_of front = ended_in line_limit front

-- The lines that are answered where nothing fails: all, or those that end by LF in the most bytes that a script may have.
abbrev pub lines_answered : List ℕ → List (Option (List ℕ))
lines_answered told = if nat_lt script_limit (length told) then ended_lines_of (take script_limit told) else lines_of told
