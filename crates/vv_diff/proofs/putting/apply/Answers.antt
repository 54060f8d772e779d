use Rattle.std.proofs.Common.{◌≡◌, ◌<◌, length, Some, option_map, refl, sym, ap, subst, ◌∙◌, arith}
use Rattle.std.specs.Prelude.{IsSome}
use Rattle.vv_flat.specs.State.{Piece}
use Rattle.vv_flat.specs.Chunks.{Entry}
use Rattle.vv_vols.specs.Shelf.{HeldName, ShelfState, volume_in, size_in, pieces_in, held_size, piece_at, chunk_at}
use Rattle.vv_vols.specs.Calls.{with_entry, without_held}
use Rattle.vv_diff.proofs.PutPieces.{put_state, put_none, put_standing, put_size, put_next, put_all, piece_of, room_for_one, slice_in, slice_within}
use Rattle.vv_diff.proofs.putting.apply.Goals as goal

pub loop-at-init : goal.loop-at-init
loop-at-init g c = record {
  shelf = put_none c.args.shelf.now.shelf c.args.dst.0 c.args.pieces.number;
  room = c.requires.room;
  rooms = refl;
  kept = λ n k own. own;
  rise = omega arith;
  steps = omega arith;
}

pub replace_entry-requires-clause-standing : goal.replace_entry-requires-clause-standing
replace_entry-requires-clause-standing g c =
    let s = c.args.shelf.now.shelf in
    let dst = c.args.dst.0 in
    let n = c.args.pieces.number in
    let n' = c.into_held-held.result.number in
    let same : n' ≡ n = ap (λ (h : HeldName). h.number) c.into_held-held.ensures in
    let at = c.loop-at.at in
    let inv = c.loop-at.invariant in
    subst (λ (t : ShelfState). IsSome (volume_in t dst)) (sym inv.shelf) (put_standing s dst n at c.requires.standing)

pub replace_entry-requires-clause-within : goal.replace_entry-requires-clause-within
replace_entry-requires-clause-within g c =
    let s = c.args.shelf.now.shelf in
    let dst = c.args.dst.0 in
    let n = c.args.pieces.number in
    let n' = c.into_held-held.result.number in
    let same : n' ≡ n = ap (λ (h : HeldName). h.number) c.into_held-held.ensures in
    let at = c.loop-at.at in
    let inv = c.loop-at.invariant in
    let index = c.held_index-index.result in
    let e : option_map (λ (a : Piece Entry). a.index) (piece_at s n at) ≡ Some index =
    ap (λ (t : ShelfState). option_map (λ (a : Piece Entry). a.index) (piece_at t n at)) (sym inv.shelf)
    ∙ ap (λ k. option_map (λ (a : Piece Entry). a.index) (piece_at c.loop-at.shelf.shelf k at)) (sym same) ∙ c.held_index-index.ensures in
    let piece = piece_of s n at index e in
    let inside = c.requires.inside piece.0 (slice_in (pieces_in s n) at piece.0 piece.1) in
    let is = piece.2 in
    let low : index < size_in s dst = omega arith in
    let size : size_in c.loop-at.shelf.shelf dst ≡ size_in s dst = ap (λ (t : ShelfState). size_in t dst) inv.shelf ∙ put_size s dst n at in
    omega arith

pub replace_entry-requires-clause-room : goal.replace_entry-requires-clause-room
replace_entry-requires-clause-room g c =
    let s = c.args.shelf.now.shelf in
    let dst = c.args.dst.0 in
    let n = c.args.pieces.number in
    let n' = c.into_held-held.result.number in
    let same : n' ≡ n = ap (λ (h : HeldName). h.number) c.into_held-held.ensures in
    let at = c.loop-at.at in
    let inv = c.loop-at.invariant in
    let index = c.held_index-index.result in
    let e : option_map (λ (a : Piece Entry). a.index) (piece_at s n at) ≡ Some index =
    ap (λ (t : ShelfState). option_map (λ (a : Piece Entry). a.index) (piece_at t n at)) (sym inv.shelf)
    ∙ ap (λ k. option_map (λ (a : Piece Entry). a.index) (piece_at c.loop-at.shelf.shelf k at)) (sym same) ∙ c.held_index-index.ensures in
    let piece = piece_of s n at index e in
    let inside = c.requires.inside piece.0 (slice_in (pieces_in s n) at piece.0 piece.1) in
    let is = piece.2 in
    let low : index < size_in s dst = omega arith in
    room_for_one c.loop-at.shelf dst (size_in s dst) index c.loop-at.room inv.room low

pub loop-at-preserved : goal.loop-at-preserved
loop-at-preserved g c =
    let s = c.args.shelf.now.shelf in
    let dst = c.args.dst.0 in
    let n = c.args.pieces.number in
    let n' = c.into_held-held.result.number in
    let same : n' ≡ n = ap (λ (h : HeldName). h.number) c.into_held-held.ensures in
    let at = c.loop-at.at in
    let inv = c.loop-at.invariant in
    let index = c.held_index-index.result in
    let e : option_map (λ (a : Piece Entry). a.index) (piece_at s n at) ≡ Some index =
    ap (λ (t : ShelfState). option_map (λ (a : Piece Entry). a.index) (piece_at t n at)) (sym inv.shelf)
    ∙ ap (λ k. option_map (λ (a : Piece Entry). a.index) (piece_at c.loop-at.shelf.shelf k at)) (sym same) ∙ c.held_index-index.ensures in
    let piece = piece_of s n at index e in
    let inside = c.requires.inside piece.0 (slice_in (pieces_in s n) at piece.0 piece.1) in
    let is = piece.2 in
    let low : index < size_in s dst = omega arith in
    let ens = c.replace_entry.ensures in
    let now : ShelfState = put_state s dst n at in
    record {
      shelf = ens.shelf ∙ ap (λ (t : ShelfState). with_entry t dst index (chunk_at t n' at)) inv.shelf
          ∙ ap (λ k. with_entry now dst index (chunk_at now k at)) same
          ∙ ap (with_entry now dst index) piece.4
          ∙ ap (λ i. with_entry now dst i piece.0.chunk) (sym piece.2)
          ∙ put_next s dst n at piece.0 (slice_within (pieces_in s n) at piece.0 piece.1) piece.1;
      room = ens.good 0 (size_in s dst) (omega arith) (omega arith) inv.room;
      rooms = ens.rooms ∙ inv.rooms;
      kept = λ v k own. ens.kept v k (inv.kept v k own);
      rise = (let more = ens.rise in let was = inv.rise in omega arith);
      steps = let more = ens.steps in let was = inv.steps in omega arith;
    }

pub returns-clause-shelf : goal.returns-clause-shelf
returns-clause-shelf g c =
    let s = c.args.shelf.now.shelf in
    let dst = c.args.dst.0 in
    let n = c.args.pieces.number in
    let n' = c.into_held-held.result.number in
    let same : n' ≡ n = ap (λ (h : HeldName). h.number) c.into_held-held.ensures in
    let at = c.loop-at.at in
    let inv = c.loop-at.invariant in
    let size : c.held_len-at-end.result ≡ length (pieces_in s n) = c.held_len-at-end.ensures ∙ ap (held_size s) same in
    let done = c.loop-at-test.false in
    c.drop_image.ensures.shelf
    ∙ ap (λ (t : ShelfState). without_held t n') inv.shelf
    ∙ ap (λ k. without_held (put_state s dst n at) k) same
    ∙ put_all s dst n at (omega arith)

pub returns-clause-steps : goal.returns-clause-steps
returns-clause-steps g c =
    let s = c.args.shelf.now.shelf in
    let dst = c.args.dst.0 in
    let n = c.args.pieces.number in
    let n' = c.into_held-held.result.number in
    let same : n' ≡ n = ap (λ (h : HeldName). h.number) c.into_held-held.ensures in
    let at = c.loop-at.at in
    let inv = c.loop-at.invariant in
    let size : c.held_len-at-end.result ≡ held_size s n = c.held_len-at-end.ensures ∙ ap (held_size s) same in
    let bound = c.loop-at.auto.at-end in
    let was = inv.steps in
    omega arith
