use Rattle.std.proofs.Common.{◌≤◌, ◌*◌, ◌∙◌, ℕ, List, length, ap, refl, arith}
use Rattle.std.specs.Prelude.{slice_get}
use Rattle.vv_flat.specs.Chunks.{Entry}
use Rattle.vv_flat.specs.State.{RunningClone}
use Rattle.vv_area.specs.Spelling.{entry_spelling}
use Rattle.vv_area.proofs.AreaLengths.{length-entry}
use Rattle.vv_spell.specs.declared.window.Window.{Window}
use Rattle.vv_spell.specs.Window.{WindowState, seen}
use Rattle.vv_spell.specs.Runs.{image_at}
use Rattle.vv_spell.proofs.Found.{found_length}
use Rattle.vv_spell.proofs.WindowLemmas.{passed_items, put_no_more, put_placed, put_all}
use Rattle.vv_spell.proofs.runs.put_image_entries.Goals as goal

pub loop-k-init : goal.loop-k-init
loop-k-init c =
    let all : List (Entry) = image_at c.args.tables.now.durable c.args.i in
    let s : WindowState = seen c.args.window.now c.args.into.now in
    let first : ℕ = c.pass_items-first.result in
    let long = found_length (λ (k : RunningClone Entry). k.image) (slice_get c.args.tables.now.durable.clones c.args.i) in
    let few : first ≤ length all = omega (arith, c.pass_items-first.ensures.few, c.image_len_at-count.ensures, long) in
    let ahead : 12 * first ≤ s.ahead = omega (arith, c.pass_items-first.ensures.ahead) in
    ap (λ (w : Window). seen w c.args.into.now) c.pass_items-first.ensures.passed
    ∙ passed_items s entry_spelling 12 length-entry all first few ahead

pub returns-then-is_full : goal.returns-then-is_full
returns-then-is_full c =
    put_no_more (seen c.args.window.now c.args.into.now) (seen c.loop-k.window c.loop-k.into) entry_spelling (image_at c.args.tables.now.durable c.args.i) c.loop-k.k c.loop-k.invariant (c.if-is_full.ensures refl)

pub loop-k-preserved : goal.loop-k-preserved
loop-k-preserved c =
    let long = found_length (λ (k : RunningClone Entry). k.image) (slice_get c.args.tables.now.durable.clones c.args.i) in
    put_placed (seen c.args.window.now c.args.into.now) (seen c.loop-k.window c.loop-k.into) (seen c.put_image_entry.new.window c.put_image_entry.new.into)
    entry_spelling (image_at c.args.tables.now.durable c.args.i) c.loop-k.k (omega (arith, long, c.image_len_at-count.ensures)) c.loop-k.invariant c.put_image_entry.ensures

pub returns : goal.returns
returns c =
    let long = found_length (λ (k : RunningClone Entry). k.image) (slice_get c.args.tables.now.durable.clones c.args.i) in
    put_all (seen c.args.window.now c.args.into.now) (seen c.loop-k.window c.loop-k.into) entry_spelling (image_at c.args.tables.now.durable c.args.i) c.loop-k.k c.loop-k.invariant (omega (arith, long, c.image_len_at-count.ensures))
