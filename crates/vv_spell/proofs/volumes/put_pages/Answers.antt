use Rattle.std.proofs.Common.{◌≡◌, ◌≤◌, ◌+◌, ◌-◌, ◌*◌, ◌∙◌, ℕ, List, length, take, drop, ap, sym, refl, arith}
use Rattle.std.specs.List.{flat_map}
use Rattle.vv_flat.specs.Chunks.{Entry}
use Rattle.vv_vols.specs.Rows.{seen_entry}
use Rattle.vv_tables.specs.Places.{chunks_at}
use Rattle.vv_area.specs.Spelling.{entry_spelling}
use Rattle.vv_area.proofs.AreaLengths.{length-entry}
use Rattle.vv_spell.specs.declared.window.Window.{Window}
use Rattle.vv_spell.specs.Window.{WindowState, seen, behind}
use Rattle.vv_spell.proofs.WindowLemmas.{passed_items, put_no_more, put_part, flat_map-mapped}
use Rattle.vv_spell.proofs.volumes.put_pages.Goals as goal

pub loop-k-init : goal.loop-k-init
loop-k-init c =
    let chunks : List Entry = chunks_at c.args.tables.now.durable c.args.i in
    let s : WindowState = seen c.args.window.now c.args.into.now in
    let first : ℕ = c.pass_items-first.result in
    let bytes : 12 * (64 * first) ≡ 768 * first = omega arith in
    let few : 64 * first ≤ length chunks = omega (arith, c.pass_items-first.ensures.few, c.chunk_count_at-count.ensures) in
    let ahead : 12 * (64 * first) ≤ s.ahead = omega (arith, c.pass_items-first.ensures.ahead) in
    ap (λ (w : Window). seen w c.args.into.now) c.pass_items-first.ensures.passed
    ∙ ap (λ n. record s { ahead = s.ahead - n }) (sym bytes)
    ∙ passed_items s entry_spelling 12 length-entry chunks (64 * first) few ahead

pub returns-then-is_full : goal.returns-then-is_full
returns-then-is_full c =
    put_no_more (seen c.args.window.now c.args.into.now) (seen c.loop-k.window c.loop-k.into) entry_spelling (chunks_at c.args.tables.now.durable c.args.i) (64 * c.loop-k.k) c.loop-k.invariant (c.if-is_full.ensures refl)

pub loop-k-preserved : goal.loop-k-preserved
loop-k-preserved c =
    let chunks : List Entry = chunks_at c.args.tables.now.durable c.args.i in
    let s : WindowState = seen c.args.window.now c.args.into.now in
    let t : WindowState = seen c.loop-k.window c.loop-k.into in
    let u : WindowState = seen c.put_page.new.window c.put_page.new.into in
    let page : u ≡ behind t (flat_map entry_spelling (take 64 (drop (64 * c.loop-k.k) chunks))) =
    c.put_page.ensures ∙ ap (behind t) (flat_map-mapped seen_entry entry_spelling c.page_at.result.now ∙ ap (flat_map entry_spelling) c.page_at.ensures) in
    let next : 64 * c.loop-k.k + 64 ≡ 64 * (c.loop-k.k + 1) = omega arith in
    put_part s t u entry_spelling chunks (64 * c.loop-k.k) 64 c.loop-k.invariant page ∙ ap (λ n. behind s (flat_map entry_spelling (take n chunks))) next
