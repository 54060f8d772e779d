use Rattle.std.proofs.Common.{ℕ, ◌≡◌, ◌+◌, ◌-◌, ◌<◌, ◌≤◌, [], ◌∷◌, sym, ap, ◌∙◌, subst, arith}
use Rattle.std.specs.Prelude.{IsSome}
use Rattle.vv_vols.specs.Shelf.{ShelfState, volume_in, size_in}
use Rattle.vv_vols.specs.Rooms.{for_change}
use Rattle.vv_vols.proofs.GoodRooms.{good_first, write_room}
use Rattle.vv_tables.specs.Unmapping.{with_unmapped}
use Rattle.vv_tables.proofs.UnmappedChunks.{unmap_first, unmap_empty, unmapped_stands, unmapped_size}
use Rattle.vv_tables.proofs.unmapping.unmap_range.Goals as goal

pub unmap_chunk-requires-clause-room : goal.unmap_chunk-requires-clause-room
unmap_chunk-requires-clause-room g c =
    let at = c.loop-index in
    let size : ℕ = size_in c.args.shelf.now.shelf c.args.volume.0 in
    let lt : at.index < c.args.range.first_chunk + c.args.range.chunks = c.loop-index-test.true in
    let within : c.args.range.first_chunk + c.args.range.chunks ≤ size = c.requires.within in
    write_room at.shelf c.args.volume.0 at.index 0 size at.room (omega arith) (omega (arith, lt, within))
    (good_first at.shelf (for_change c.args.volume.0 0 size at.room) [] at.invariant.room)

pub loop-index-preserved : goal.loop-index-preserved
loop-index-preserved g c =
    let at = c.loop-index in
    let n = c.args.volume.0 in
    let size : ℕ = size_in c.args.shelf.now.shelf n in
    let end : ℕ = c.args.range.first_chunk + c.args.range.chunks in
    let lt : at.index < c.args.range.first_chunk + c.args.range.chunks = c.loop-index-test.true in
    let within : c.args.range.first_chunk + c.args.range.chunks ≤ size = c.requires.within in
    let count : (end - (at.index + 1)) + 1 ≡ end - at.index = omega (arith, lt) in
    let ens = c.unmap_chunk.ensures in
    let put : c.unmap_chunk.new.shelf.shelf ≡ with_unmapped at.shelf.shelf n ((at.index, 1) ∷ []) = ens.shelf in
    record {
      standing = subst (λ (s : ShelfState). IsSome (volume_in s n)) (sym put) (unmapped_stands at.shelf.shelf n ((at.index, 1) ∷ []) at.invariant.standing);
      size = ap (λ (s : ShelfState). size_in s n) put ∙ unmapped_size at.shelf.shelf n ((at.index, 1) ∷ []) ∙ at.invariant.size;
      leads = ap (λ (s : ShelfState). with_unmapped s n ((at.index + 1, end - (at.index + 1)) ∷ [])) put
          ∙ unmap_first at.shelf.shelf n at.index (end - (at.index + 1))
          ∙ ap (λ k. with_unmapped at.shelf.shelf n ((at.index, k) ∷ [])) count
          ∙ at.invariant.leads;
      room = ens.good 0 size (omega arith) (omega (arith, lt, within)) at.invariant.room;
      rooms = ens.rooms ∙ at.invariant.rooms;
      kept = λ m k own. ens.kept m k (at.invariant.kept m k own);
      steps = let more = ens.steps in let was = at.invariant.steps in omega (arith, more, was);
    }

pub returns-clause-shelf : goal.returns-clause-shelf
returns-clause-shelf g c =
    let at = c.loop-index in
    let n = c.args.volume.0 in
    let end : ℕ = c.args.range.first_chunk + c.args.range.chunks in
    let done : c.args.range.first_chunk + c.args.range.chunks ≤ at.index = c.loop-index-test.false in
    let none : end - at.index ≡ 0 = omega (arith, done) in
    sym (unmap_empty at.shelf.shelf n at.index)
    ∙ ap (λ k. with_unmapped at.shelf.shelf n ((at.index, k) ∷ [])) (sym none)
    ∙ at.invariant.leads
