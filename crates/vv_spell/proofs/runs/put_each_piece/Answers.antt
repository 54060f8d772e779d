use Rattle.std.proofs.Common.{◌≤◌, ◌*◌, ◌∙◌, ℕ, List, length, ap, refl, arith}
use Rattle.std.specs.Prelude.{slice_get}
use Rattle.vv_flat.specs.Chunks.{Entry}
use Rattle.vv_flat.specs.State.{Piece, RunningCopy}
use Rattle.vv_area.specs.Spelling.{piece_spelling}
use Rattle.vv_area.proofs.AreaLengths.{length-piece}
use Rattle.vv_spell.specs.declared.window.Window.{Window}
use Rattle.vv_spell.specs.Window.{WindowState, seen}
use Rattle.vv_spell.specs.Runs.{pieces_at}
use Rattle.vv_spell.proofs.Found.{found_length}
use Rattle.vv_spell.proofs.WindowLemmas.{passed_items, put_no_more, put_placed, put_all}
use Rattle.vv_spell.proofs.runs.put_each_piece.Goals as goal

pub loop-k-init : goal.loop-k-init
loop-k-init c =
    let all : List (Piece Entry) = pieces_at c.args.tables.now.durable c.args.i in
    let s : WindowState = seen c.args.window.now c.args.into.now in
    let first : ℕ = c.pass_items-first.result in
    let long = found_length (λ (k : RunningCopy Entry). k.pieces) (slice_get c.args.tables.now.durable.copies c.args.i) in
    let few : first ≤ length all = omega (arith, c.pass_items-first.ensures.few, c.piece_count_at-count.ensures, long) in
    let ahead : 16 * first ≤ s.ahead = omega (arith, c.pass_items-first.ensures.ahead) in
    ap (λ (w : Window). seen w c.args.into.now) c.pass_items-first.ensures.passed
    ∙ passed_items s piece_spelling 16 length-piece all first few ahead

pub returns-then-is_full : goal.returns-then-is_full
returns-then-is_full c =
    put_no_more (seen c.args.window.now c.args.into.now) (seen c.loop-k.window c.loop-k.into) piece_spelling (pieces_at c.args.tables.now.durable c.args.i) c.loop-k.k c.loop-k.invariant (c.if-is_full.ensures refl)

pub loop-k-preserved : goal.loop-k-preserved
loop-k-preserved c =
    let long = found_length (λ (k : RunningCopy Entry). k.pieces) (slice_get c.args.tables.now.durable.copies c.args.i) in
    put_placed (seen c.args.window.now c.args.into.now) (seen c.loop-k.window c.loop-k.into) (seen c.put_piece_at.new.window c.put_piece_at.new.into)
    piece_spelling (pieces_at c.args.tables.now.durable c.args.i) c.loop-k.k (omega (arith, long, c.piece_count_at-count.ensures)) c.loop-k.invariant c.put_piece_at.ensures

pub returns : goal.returns
returns c =
    let long = found_length (λ (k : RunningCopy Entry). k.pieces) (slice_get c.args.tables.now.durable.copies c.args.i) in
    put_all (seen c.args.window.now c.args.into.now) (seen c.loop-k.window c.loop-k.into) piece_spelling (pieces_at c.args.tables.now.durable c.args.i) c.loop-k.k c.loop-k.invariant (omega (arith, long, c.piece_count_at-count.ensures))
