use Rattle.std.proofs.Common.{◌≡◌, ◌<◌, ℕ, List, length, map, get_or, sym, ◌∙◌, arith}
use Rattle.std.proofs.lemmas.Bool.{eqb-true, eqb-false}
use Rattle.std.proofs.lemmas.List.{length-map, get_or-map}
use Rattle.vv_record.specs.declared.record.ChunkCopy.{ChunkCopy}
use Rattle.vv_tables.proofs.HostLists.{goes_on, stops}
use Rattle.vv_core.proofs.turns.are_copies_at.Goals as goal

abbrev first_copy : ChunkCopy
first_copy = record { index = 0; place = record { 0 = 0 } }

index_at : (copies : List ChunkCopy) (i : ℕ) → i < length copies
    → get_or (map (λ (c : ChunkCopy). c.index) copies) i 0 ≡ (get_or copies i first_copy).index
index_at copies i h = get_or-map (λ (c : ChunkCopy). c.index) copies i first_copy 0 h

inside : (copies : List ChunkCopy) (i : ℕ) → i < length copies → i < length (map (λ (c : ChunkCopy). c.index) copies)
inside copies i h = let same : length (map (λ (c : ChunkCopy). c.index) copies) ≡ length copies = length-map copies (λ (c : ChunkCopy). c.index) in omega (arith, same, h)

pub returns-then-not-is_at : goal.returns-then-not-is_at
returns-then-not-is_at c =
    let there : c.loop-i.i < length c.args.copies.now = c.loop-i-test.true in
    let there_too : c.loop-i.i < length c.args.indexes.now = omega (arith, c.loop-i-test.true, c.if-copies-indexes.false) in
    sym (stops (map (λ (c : ChunkCopy). c.index) c.args.copies.now) c.args.indexes.now c.loop-i.i (inside c.args.copies.now c.loop-i.i there) there_too
    (λ e. eqb-false (get_or c.args.copies.now c.loop-i.i first_copy).index (get_or c.args.indexes.now c.loop-i.i 0) (sym c.is_at.ensures ∙ c.if-not-is_at.true)
    (sym (index_at c.args.copies.now c.loop-i.i there) ∙ e)))
    ∙ c.loop-i.invariant

pub loop-i-preserved : goal.loop-i-preserved
loop-i-preserved c =
    let there : c.loop-i.i < length c.args.copies.now = c.loop-i-test.true in
    let there_too : c.loop-i.i < length c.args.indexes.now = omega (arith, c.loop-i-test.true, c.if-copies-indexes.false) in
    sym (goes_on (map (λ (c : ChunkCopy). c.index) c.args.copies.now) c.args.indexes.now c.loop-i.i (inside c.args.copies.now c.loop-i.i there) there_too
    (index_at c.args.copies.now c.loop-i.i there
    ∙ eqb-true (get_or c.args.copies.now c.loop-i.i first_copy).index (get_or c.args.indexes.now c.loop-i.i 0) (sym c.is_at.ensures ∙ c.if-not-is_at.false)))
    ∙ c.loop-i.invariant
