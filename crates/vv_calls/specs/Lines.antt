-- What the bytes of a line are read as.
use Rattle.std.specs.Prelude.{ℕ, List, length, nat_lt, if◌then◌else◌, Option, Some, None, Result, Err}
use Rattle.std.specs.Str.{is_utf8}
use Rattle.serde_json.specs.Data.{Data}
use Rattle.serde_json.specs.Read as json
use Rattle.vv_calls.specs.declared.call.Call.{Call}
use Rattle.vv_calls.specs.declared.call.LineFault.{LineFault}
use Rattle.vv_calls.specs.declared.call.LineFault.TheVariants.{NotJson, LineTooLong}
use Rattle.vv_calls.specs.Calls.{call_of}

-- the most bytes of a line
abbrev pub line_limit : ℕ
line_limit = 4194304

-- the JSON value of a text in UTF-8
abbrev pub value_of : List ℕ → Option Data
value_of bytes = if is_utf8 bytes then json.read bytes else None

-- a call, or the fault of a line that is none
abbrev pub reading_of : Option Data → Result Call LineFault
reading_of None = Err NotJson
reading_of (Some value) = call_of value

-- A line that is too long is answered so, whatever its bytes.
unfoldable pub line_reading : List ℕ → Result Call LineFault
line_reading bytes = if nat_lt line_limit (length bytes) then Err LineTooLong else reading_of (value_of bytes)
