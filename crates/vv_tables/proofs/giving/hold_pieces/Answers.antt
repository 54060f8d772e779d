use Rattle.std.proofs.Common.{ℕ, ◌≡◌, ◌+◌, ◌-◌, ◌≤◌, ◌<◌, ◌++◌, true, length, None, get_or, take, drop, map, sym, ap, subst, ◌∙◌, arith}
use Rattle.vv_pool.specs.FreshPlaces.{FreshPlaces}
use Rattle.vv_flat.specs.Lists.{all_rising}
use Rattle.vv_flat.specs.State.{Piece}
use Rattle.vv_flat.specs.Chunks.{Entry}
use Rattle.vv_flat.specs.Sharing.{shares_places}
use Rattle.vv_vols.specs.Shelf.{ShelfState, HeldName, held_in, next_held, shelf_entries, shelf_pieces}
use Rattle.vv_vols.specs.Calls.{with_piece, with_appended}
use Rattle.vv_vols.specs.Rows.{ShelfView}
use Rattle.vv_tables.specs.Giving.{seen_piece, seen_pieces, with_some}
use Rattle.vv_tables.proofs.GivenPieces.{no_piece, Ready, ready, piece_given, next_split, next_count, next_pieces}
use Rattle.vv_tables.proofs.giving.hold_pieces.Goals as goal

pub give_piece-requires : goal.give_piece-requires
give_piece-requires g c =
    let s = c.args.shelf.now.shelf in
    let at = c.loop-piece in
    let pieces = c.args.pieces.now in
    let lt : at.piece-index < length pieces = c.loop-piece-test.true in
    let same : c.reserve_list.new.self.shelf ≡ s = ap (λ (v : ShelfView). v.shelf) c.in_ok-room.ensures.ok in
    let number : c.hold_none-held.result.number ≡ next_held s = ap (λ (h : HeldName). h.number) c.hold_none-held.ensures.held ∙ ap next_held same in
    let unused : held_in s (next_held s) ≡ None = sym (ap (λ (t : ShelfState). held_in t c.hold_none-held.result.number) same ∙ ap (held_in s) number) ∙ c.hold_none-held.ensures.unused in
    let front = seen_pieces (take at.piece-index pieces) in
    let b = seen_piece (get_or pieces at.piece-index no_piece) in
    let back = seen_pieces (drop (at.piece-index + 1) pieces) in
    let count : length front ≡ at.piece-index = next_count pieces at.piece-index lt in
    let few : shelf_entries s + length pieces ≤ s.geometry.map_chunks = c.requires.few in
    let r : Ready at.shelf.shelf at.held.number at.held.len b =
    ready s unused front b back (length pieces - at.piece-index) c.requires.fresh c.requires.reserved
    (subst (λ ps. shares_places s.geometry.pool_chunks (shelf_pieces s ++ ps) ≡ true) (sym (next_split pieces at.piece-index lt)) c.requires.shares)
    at.shelf.shelf at.held.number at.held.len at.invariant.shelf at.invariant.number (at.invariant.len ∙ sym count) (omega (arith, lt))
    (omega (arith, few, count, lt))
    (subst (λ ps. all_rising (map (λ (a : Piece Entry). a.index) ps) ≡ true) (sym (next_split pieces at.piece-index lt)) c.requires.rising) in
    record {
      standing = r.standing;
      target = r.target;
      left = r.left;
      above = r.above;
      len = r.len_is;
      few = r.few;
      may = r.may;
      empty = ap (λ (t : FreshPlaces). t.places) at.invariant.taken ∙ c.requires.empty;
      memory = subst (λ (t : FreshPlaces). 1 ≤ t.capacity) (sym at.invariant.taken) c.requires.memory;
    }

pub loop-piece-preserved : goal.loop-piece-preserved
loop-piece-preserved g c =
    let s = c.args.shelf.now.shelf in
    let at = c.loop-piece in
    let pieces = c.args.pieces.now in
    let lt : at.piece-index < length pieces = c.loop-piece-test.true in
    let same : c.reserve_list.new.self.shelf ≡ s = ap (λ (v : ShelfView). v.shelf) c.in_ok-room.ensures.ok in
    let number : c.hold_none-held.result.number ≡ next_held s = ap (λ (h : HeldName). h.number) c.hold_none-held.ensures.held ∙ ap next_held same in
    let unused : held_in s (next_held s) ≡ None = sym (ap (λ (t : ShelfState). held_in t c.hold_none-held.result.number) same ∙ ap (held_in s) number) ∙ c.hold_none-held.ensures.unused in
    let front = seen_pieces (take at.piece-index pieces) in
    let b = seen_piece (get_or pieces at.piece-index no_piece) in
    let left : ℕ = length pieces - at.piece-index in
    let count : length front ≡ at.piece-index = next_count pieces at.piece-index lt in
    let less : left - 1 ≡ length pieces - (at.piece-index + 1) = omega (arith, lt) in
    record {
      shelf = c.give_piece.ensures.shelf
          ∙ ap (λ (t : ShelfState). with_piece (with_appended t at.held.number b.index) at.held.number at.held.len b.chunk) at.invariant.shelf
          ∙ ap (λ n. with_piece (with_appended (with_some s front left) n b.index) n at.held.len b.chunk) at.invariant.number
          ∙ ap (λ k. with_piece (with_appended (with_some s front left) (next_held s) b.index) (next_held s) k b.chunk) (at.invariant.len ∙ sym count)
          ∙ piece_given s unused front left b
          ∙ ap (λ ps. with_some s ps (left - 1)) (next_pieces pieces at.piece-index lt)
          ∙ ap (with_some s (seen_pieces (take (at.piece-index + 1) pieces))) less;
      number = ap (λ (h : HeldName). h.number) c.give_piece.ensures.held ∙ at.invariant.number;
      len = ap (λ (h : HeldName). h.len) c.give_piece.ensures.held ∙ ap (λ n. n + 1) at.invariant.len;
      taken = c.give_piece.ensures.taken ∙ at.invariant.taken;
    }
