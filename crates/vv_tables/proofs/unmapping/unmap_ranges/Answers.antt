use Rattle.std.proofs.Common.{ℕ, ◌≡◌, ◌+◌, ◌<◌, List, [], ◌∷◌, length, get_or, drop, sym, ap, ◌∙◌, subst, arith}
use Rattle.std.specs.Prelude.{IsSome, nat_le}
use Rattle.std.proofs.lemmas.List.{drop_more, drop_all}
use Rattle.vv_record.specs.declared.record.ChunkRange.{ChunkRange}
use Rattle.vv_flat.proofs.Shares.{and_right}
use Rattle.vv_vols.specs.Shelf.{ShelfState, volume_in, size_in}
use Rattle.vv_vols.specs.Rooms.{AreGood, for_change}
use Rattle.vv_tables.specs.Unmapping.{range_pairs, are_inside, with_unmapped}
use Rattle.vv_tables.proofs.UnmappedChunks.{unmap_more, unmap_none, unmapped_stands, unmapped_size}
use Rattle.vv_tables.proofs.unmapping.unmap_ranges.Goals as goal

-- the range ahead of the others
split : (ranges : List ChunkRange) (i : ℕ) → i < length ranges
    → range_pairs (drop i ranges) ≡ ((get_or ranges i (record { first_chunk = 0; chunks = 0 })).first_chunk, (get_or ranges i (record { first_chunk = 0; chunks = 0 })).chunks) ∷ range_pairs (drop (i + 1) ranges)
split ranges i lt = ap range_pairs (drop_more ranges i (record { first_chunk = 0; chunks = 0 }) lt)

pub loop-range-preserved : goal.loop-range-preserved
loop-range-preserved g c =
    let at = c.loop-range in
    let n = c.args.volume.0 in
    let ranges = c.args.ranges.now in
    let size : ℕ = size_in c.args.shelf.now.shelf n in
    let lt : at.range-index < length ranges = c.loop-range-test.true in
    let r : ChunkRange = get_or ranges at.range-index (record { first_chunk = 0; chunks = 0 }) in
    let rest : List (ℕ × ℕ) = range_pairs (drop (at.range-index + 1) ranges) in
    let ens = c.unmap_range.ensures in
    let put : c.unmap_range.new.shelf.shelf ≡ with_unmapped at.shelf.shelf n ((r.first_chunk, r.chunks) ∷ []) = ens.shelf in
    record {
      standing = subst (λ (s : ShelfState). IsSome (volume_in s n)) (sym put) (unmapped_stands at.shelf.shelf n ((r.first_chunk, r.chunks) ∷ []) at.invariant.standing);
      size = ap (λ (s : ShelfState). size_in s n) put ∙ unmapped_size at.shelf.shelf n ((r.first_chunk, r.chunks) ∷ []) ∙ at.invariant.size;
      inside = and_right (nat_le (r.first_chunk + r.chunks) size) (are_inside size rest) (sym (ap (are_inside size) (split ranges at.range-index lt)) ∙ at.invariant.inside);
      leads = ap (λ (s : ShelfState). with_unmapped s n rest) put
          ∙ unmap_more at.shelf.shelf n (r.first_chunk, r.chunks) rest
          ∙ ap (with_unmapped at.shelf.shelf n) (sym (split ranges at.range-index lt))
          ∙ at.invariant.leads;
      room = subst (λ k. AreGood c.unmap_range.new.shelf (for_change n 0 k c.unmap_range.new.room ∷ [])) at.invariant.size ens.room;
      rooms = ens.rooms ∙ at.invariant.rooms;
      kept = λ m k own. ens.kept m k (at.invariant.kept m k own);
      steps = let more = ens.steps in let was = at.invariant.steps in omega (arith, more, was);
    }

pub returns-clause-shelf : goal.returns-clause-shelf
returns-clause-shelf g c =
    let at = c.loop-range in
    let n = c.args.volume.0 in
    sym (unmap_none at.shelf.shelf n)
    ∙ ap (with_unmapped at.shelf.shelf n) (sym (ap range_pairs (drop_all at.range-index c.args.ranges.now c.loop-range-test.false)))
    ∙ at.invariant.leads
