use Rattle.std.proofs.Common.{get_or, arith}
use Rattle.vv_entries.specs.Entries.{unmapped}
use Rattle.vv_entries.proofs.Named.{named-le, named-take-le, named-entry-le}
use Rattle.vv_entries.proofs.PlaceCounts.{raises_start, raises_more, named_one}
use Rattle.vv_entries.proofs.places.raise_page.Goals as goal

pub loop-entry-init : goal.loop-entry-init
loop-entry-init g c = record { raised = raises_start c.args.pool.now; steps = omega arith; rise = omega arith }

pub raise_entry-requires-clause-counted : goal.raise_entry-requires-clause-counted
raise_entry-requires-clause-counted g c = λ p h.
    let es = c.args.page.now in
    let i = c.loop-entry.entry-index in
    let le = named-entry-le p es i unmapped c.loop-entry-test.true in
    let one = named_one p (get_or es i unmapped) in
    let was = c.requires.counted p (omega arith) in
    let now = c.loop-entry.invariant.raised.counts p in
    omega arith

pub raise_entry-requires-clause-small : goal.raise_entry-requires-clause-small
raise_entry-requires-clause-small g c = λ p.
    let es = c.args.page.now in
    let front = named-take-le p es c.loop-entry.entry-index in
    let few = named-le p es in
    let was = c.requires.small p in
    let now = c.loop-entry.invariant.raised.counts p in
    omega arith

pub loop-entry-preserved : goal.loop-entry-preserved
loop-entry-preserved g c = record {
  raised = raises_more c.args.pool.now c.loop-entry.pool c.raise_entry.new.pool c.args.page.now c.loop-entry.entry-index unmapped
      c.loop-entry-test.true c.loop-entry.invariant.raised c.raise_entry.ensures.raised;
  steps = omega (arith, c.raise_entry.ensures.steps, c.loop-entry.invariant.steps);
  rise = omega (arith, c.raise_entry.ensures.rise, c.loop-entry.invariant.rise);
}
