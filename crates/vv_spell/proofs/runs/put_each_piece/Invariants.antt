use Rattle.std.proofs.Common.{◌≡◌, take}
use Rattle.std.specs.List.{flat_map}
use Rattle.vv_area.specs.Spelling.{piece_spelling}
use Rattle.vv_spell.specs.Window.{seen, behind}
use Rattle.vv_spell.specs.Runs.{pieces_at}
use Rattle.vv_spell.proofs.runs.put_each_piece.Given as goal

abbrev pub invariant-loop-k : goal.invariant-loop-k
invariant-loop-k l = seen l.window l.into ≡ behind (seen l.fn.window l.fn.into) (flat_map piece_spelling (take l.k (pieces_at l.tables.durable l.fn.i)))
