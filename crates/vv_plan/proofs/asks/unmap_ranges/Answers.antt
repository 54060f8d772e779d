use Rattle.std.proofs.Common.{◌<◌, ◌≤◌, map, length, sym, ap, ◌∙◌, arith}
use Rattle.std.proofs.lemmas.List.{take_all}
use Rattle.std.proofs.lemmas.Option.{slice_get_within}
use Rattle.vv_flat.specs.Chunks.{unmap_ranges}
use Rattle.vv_tables.proofs.Walks.{past_end}
use Rattle.vv_plan.specs.CommandAsks.{pair_of}
use Rattle.vv_plan.proofs.UnmapRanges.{low_at, ranges_more}
use Rattle.vv_plan.proofs.asks.unmap_ranges.Goals as goal

pub whole_chunks-requires : goal.whole_chunks-requires
whole_chunks-requires c = low_at c.args.unmaps.now c.loop-first.i c.in-Some.first c.in-Some.number c.requires (sym c.in-Some.ensures)

pub overflow_add-i : goal.overflow_add-i
overflow_add-i c =
    let within : c.loop-first.i < length c.args.unmaps.now = slice_get_within c.args.unmaps.now c.loop-first.i (c.in-Some.first, c.in-Some.number) (sym c.in-Some.ensures) in
    omega (arith, within, c.len-count.ensures.few)

pub loop-first-smaller : goal.loop-first-smaller
loop-first-smaller c =
    let within : c.loop-first.i < length c.args.unmaps.now = slice_get_within c.args.unmaps.now c.loop-first.i (c.in-Some.first, c.in-Some.number) (sym c.in-Some.ensures) in
    omega arith

pub loop-first-preserved : goal.loop-first-preserved
loop-first-preserved c =
    let within : c.loop-first.i < length c.args.unmaps.now = slice_get_within c.args.unmaps.now c.loop-first.i (c.in-Some.first, c.in-Some.number) (sym c.in-Some.ensures) in
    record {
      within = omega arith;
      done = ranges_more c.args.geometry.chunk_blocks c.args.unmaps.now c.loop-first.i c.in-Some.first c.in-Some.number c.loop-first.ranges.items c.add_range.new.ranges.items
          c.whole_chunks.result (sym c.in-Some.ensures) c.whole_chunks.ensures c.loop-first.invariant.done c.in_ok-add_range.ensures;
    }

pub returns : goal.returns
returns c =
    let whole : length c.args.unmaps.now ≤ c.loop-first.i = past_end c.args.unmaps.now c.loop-first.i (sym c.in_default.ensures) in
    ap (map pair_of) c.of.ensures ∙ c.loop-first.invariant.done ∙ ap (unmap_ranges c.args.geometry.chunk_blocks) (take_all c.loop-first.i c.args.unmaps.now whole)
