-- The lines of a script: each is drawn by a few numbers, one after the other. The kinds of lines, how often each comes
-- and what it asks for are this project's own.
use Rattle.std.specs.Prelude.{ℕ, ◌+◌, ◌-◌, ◌≤◌, ◌==◌, List, [], ◌∷◌, ◌++◌, codes, decimal, nat_lt, if◌then◌else◌}
use Rattle.std.specs.Int.{w32, to_be_bytes}
use Rattle.vv_gen.specs.Numbers.{after, number_below}
use Rattle.vv_gen.specs.Texts.{hexadecimal, volume_name}
use Rattle.vv_gen.specs.declared.line.Line.{Line}
use Rattle.vv_gen.specs.declared.line.Line.TheVariants.{Write, Read, Unshared, Snapshot, QueryPool}

-- a line that was drawn, and the state behind it
pub record Drawn : Type 0 where
  pub line : Line
  pub state : ℕ

abbrev pub drawn : Line → ℕ → Drawn
drawn line state = record { line = line; state = state }

-- The first number is below 8 and says the kind: 4 of 8 lines write, 2 read, one asks for unshared chunks, and of the
-- last some make a snapshot and some ask for the pool's figures. The second number says which volume. A write has a
-- block and a byte, a read a block from which eight more fit into the volume.
abbrev pub drawn_line : ℕ → Drawn
drawn_line state =
    let first = after state in
    let second = after first in
    let third = after second in
    let fourth = after third in
    let kind = number_below 8 first in
    let volume = number_below 2 second + 1 in
    if nat_lt kind 4 then drawn (Write volume (number_below 8192 third) (number_below 256 fourth)) fourth
    else if nat_lt kind 6 then drawn (Read volume (number_below 8185 third)) third
    else if kind == 6 then drawn (Unshared volume) second
    else if number_below 2 third == 0 then drawn (Snapshot volume) third
    else drawn QueryPool third

-- the volume of a line, where it has one, is one of the two
abbrev pub IsOfVolume : Line → Type 0
IsOfVolume (Write volume block byte) = volume ≤ 2
IsOfVolume (Read volume block) = volume ≤ 2
IsOfVolume (Unshared volume) = volume ≤ 2
IsOfVolume (Snapshot volume) = volume ≤ 2
IsOfVolume QueryPool = Unit {0}

-- The text of a line: compact JSON with keys in the order of their bytes, and LF.
abbrev pub line_text : Line → List ℕ
line_text (Write volume block byte) =
    codes "{\"call\":\"scsi\",\"cdb\":\"2a00" ++ hexadecimal (to_be_bytes w32 block) ++ codes "00000100\",\"data\":[[\""
    ++ hexadecimal (byte ∷ []) ++ codes "\",512]],\"endpoint\":1,\"host\":" ++ decimal volume ++ codes ",\"secondary\":1}\n"
line_text (Read volume block) =
    codes "{\"call\":\"scsi\",\"cdb\":\"2800" ++ hexadecimal (to_be_bytes w32 block)
    ++ codes "00000800\",\"endpoint\":1,\"host\":" ++ decimal volume ++ codes ",\"secondary\":1}\n"
line_text (Unshared volume) =
    codes "{\"base\":" ++ volume_name (3 - volume) ++ codes ",\"call\":\"unsharedBitmapVirtualVolume\",\"vvol\":"
    ++ volume_name volume ++ codes "}\n"
line_text (Snapshot volume) =
    codes "{\"call\":\"snapshotVirtualVolume\",\"vvol\":" ++ volume_name volume ++ codes "}\n"
line_text QueryPool = codes "{\"call\":\"queryPool\"}\n"
