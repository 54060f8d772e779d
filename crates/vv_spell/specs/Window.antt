-- A window over the bytes of a text: what is ahead of it is passed over, what is in it is written, and what is behind it
-- is left out.
use Rattle.std.specs.Prelude.{ℕ, ◌-◌, List, ◌++◌, length, take, drop}
use Rattle.vv_area.specs.Pieces.{bytes_within}
use Rattle.vv_spell.specs.declared.window.Window.{Window}

-- Where a window stands: how many bytes are still to be passed over, the bytes written so far, and the bytes that are
-- still to be overwritten.
pub record WindowState : Type 0 where
  pub ahead : ℕ
  pub written : List ℕ
  pub free : List ℕ

-- a window, and the memory that it writes into
abbrev pub seen : Window → List ℕ → WindowState
seen w into = record { ahead = w.ahead; written = take w.written into; free = drop w.written into }

-- the window behind a further text
unfoldable pub behind : WindowState → List ℕ → WindowState
behind w text = record {
  ahead = w.ahead - length text;
  written = w.written ++ bytes_within w.ahead (length w.free) text;
  free = drop (length text - w.ahead) w.free;
}
