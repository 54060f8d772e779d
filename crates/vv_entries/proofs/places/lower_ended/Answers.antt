use Rattle.std.proofs.Common.{[], ◌∷◌, ap, ◌∙◌, arith}
use Rattle.vv_entries.specs.Entries.{named}
use Rattle.vv_entries.proofs.Named.{named-nil, named-append}
use Rattle.vv_entries.proofs.PlaceCounts.{keeps-joined}
use Rattle.vv_entries.proofs.places.lower_ended.Goals as goal

pub lower_entry-requires : goal.lower_entry-requires
lower_entry-requires c = λ p h.
    let split = ap (named p) c.in-Some.ensures.some ∙ named-append p c.next.new.self (c.in-Some.entry ∷ []) in
    let kept = c.loop-entry.invariant.counts p in
    let enough = c.requires p in
    omega arith

pub loop-entry-preserved : goal.loop-entry-preserved
loop-entry-preserved c = record {
  counts = λ p.
      let split = ap (named p) c.in-Some.ensures.some ∙ named-append p c.next.new.self (c.in-Some.entry ∷ []) in
      let kept = c.loop-entry.invariant.counts p in
      let now = c.lower_entry.ensures.counts p in
      omega arith;
  kept = keeps-joined c.args.pool.now c.loop-entry.pool c.lower_entry.new.pool c.loop-entry.invariant.kept c.lower_entry.ensures.kept;
}

pub returns : goal.returns
returns c = record {
  counts = λ p.
      let none = ap (named p) c.in_default.ensures.none ∙ named-nil p in
      let kept = c.loop-entry.invariant.counts p in
      omega arith;
  kept = c.loop-entry.invariant.kept;
}
