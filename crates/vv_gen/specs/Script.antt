-- A whole script: two volumes of 4 MB are made and bound, and then so many lines are drawn from the seed on.
use Rattle.std.specs.Prelude.{ℕ, zero, suc, List, [], ◌++◌, codes, decimal}
use Rattle.vv_gen.specs.Texts.{volume_name}
use Rattle.vv_gen.specs.Lines.{drawn_line, line_text}

abbrev pub create_text : List ℕ
create_text = codes "{\"call\":\"createVirtualVolume\",\"sizeInMB\":4,\"vvolType\":\"Data\"}\n"

abbrev pub bind_host_text : ℕ → List ℕ
bind_host_text host = codes "{\"call\":\"bindVirtualVolume\",\"host\":" ++ decimal host

abbrev pub bind_volume_text : ℕ → List ℕ
bind_volume_text volume = codes ",\"vvol\":" ++ volume_name volume ++ codes "}\n"

-- a volume is bound for the host of its number
abbrev pub bind_text : ℕ → List ℕ
bind_text volume = bind_host_text volume ++ bind_volume_text volume

abbrev pub first_lines : List ℕ
first_lines = create_text ++ create_text ++ bind_text 1 ++ bind_text 2

-- so many lines from a state on
abbrev pub lines_text : ℕ → ℕ → List ℕ
lines_text zero state = []
lines_text (suc lines) state = line_text (drawn_line state).line ++ lines_text lines (drawn_line state).state

abbrev pub script : ℕ → ℕ → List ℕ
script seed lines = first_lines ++ lines_text lines seed
