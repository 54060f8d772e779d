use Rattle.std.proofs.Common.{◌≡◌, ◌≢◌, ◌+◌, ◌-◌, ◌≤◌, false, List, [], ◌∷◌, map, length, Some, None, is_some, slice_get, sym, ap, subst, ◌∙◌, arith, length-append}
use Rattle.std.specs.Prelude.{IsSome, slice_index}
use Rattle.vv_flat.specs.State.{Piece}
use Rattle.vv_flat.specs.Chunks.{Entry}
use Rattle.vv_vols.specs.Shelf.{HeldName, ShelfState, held_in, size_in, chunks_in, held_size, left_in, is_image_in, shelf_entries, next_held}
use Rattle.vv_vols.specs.Calls.{with_held, new_held}
use Rattle.vv_vols.specs.Conditions.{IsAbove, Stands}
use Rattle.vv_vols.specs.Rows.{ShelfView, is_own, seen_entry}
use Rattle.vv_diff.specs.Pieces.{difference_in, with_piece_more}
use Rattle.vv_diff.proofs.DifferenceSteps.{so_far, so_far_state, so_far_found, so_far_size, so_far_left, so_far_image, so_far_above, so_far_entries, so_far_most, so_far_all, next_same, next_more, next_state, next_stands, size_is}
use Rattle.vv_diff.proofs.differing.difference.Goals as goal
use Rattle.vv_diff.proofs.differing.difference.Goals.{then-entry-stamp_in, else-entry-stamp_in}

pub hold_piece-requires-clause-standing : goal.hold_piece-requires-clause-standing
hold_piece-requires-clause-standing g c =
    let s = c.args.shelf.now.shelf in
    let src = c.args.src.0 in
    let base = c.args.base.0 in
    let left = c.args.room.indexes in
    let n = next_held s in
    let k = c.loop-index.index in
    let inv = c.loop-index.invariant in
    let t = c.loop-index.shelf.shelf in
    let m = c.loop-index.held.number in
    let now : ShelfState = so_far_state s src base left k in
    let unused : held_in s n ≡ None = ap (λ (h : HeldName). held_in s h.number) (sym c.hold_none-held.ensures.held) ∙ c.hold_none-held.ensures.unused in
    subst (λ (u : ShelfState). IsSome (held_in u m)) (sym inv.shelf) (subst (λ x. IsSome (held_in now x)) (sym inv.number) (ap (λ o. is_some o) (so_far_found s src base left unused k)))

pub hold_piece-requires-clause-target : goal.hold_piece-requires-clause-target
hold_piece-requires-clause-target g c =
    let s = c.args.shelf.now.shelf in
    let src = c.args.src.0 in
    let base = c.args.base.0 in
    let left = c.args.room.indexes in
    let n = next_held s in
    let k = c.loop-index.index in
    let inv = c.loop-index.invariant in
    let t = c.loop-index.shelf.shelf in
    let m = c.loop-index.held.number in
    let now : ShelfState = so_far_state s src base left k in
    let unused : held_in s n ≡ None = ap (λ (h : HeldName). held_in s h.number) (sym c.hold_none-held.ensures.held) ∙ c.hold_none-held.ensures.unused in
    ap (λ (u : ShelfState). is_image_in u m) inv.shelf ∙ ap (is_image_in now) inv.number ∙ so_far_image s src base left unused k

pub hold_piece-requires-clause-left : goal.hold_piece-requires-clause-left
hold_piece-requires-clause-left g c =
    let s = c.args.shelf.now.shelf in
    let src = c.args.src.0 in
    let base = c.args.base.0 in
    let left = c.args.room.indexes in
    let n = next_held s in
    let k = c.loop-index.index in
    let inv = c.loop-index.invariant in
    let t = c.loop-index.shelf.shelf in
    let m = c.loop-index.held.number in
    let now : ShelfState = so_far_state s src base left k in
    let unused : held_in s n ≡ None = ap (λ (h : HeldName). held_in s h.number) (sym c.hold_none-held.ensures.held) ∙ c.hold_none-held.ensures.unused in
    let e : Entry = seen_entry c.entry-entry.result in
    let there : slice_get (chunks_in s src) k ≡ Some e = ap (λ (u : ShelfState). slice_get (chunks_in u src) k) (sym inv.shelf) ∙ c.entry-entry.ensures in
    let stamp : c.stamp_in.result ≡ slice_index (map (λ (x : Entry). x.stamp) (chunks_in s base)) k = c.stamp_in.ensures ∙ ap (λ (u : ShelfState). slice_index (map (λ (x : Entry). x.stamp) (chunks_in u base)) k) inv.shelf in
    let ne : e.stamp ≢ slice_index (map (λ (x : Entry). x.stamp) (chunks_in s base)) k = λ is. c.if-entry-stamp_in.true (is ∙ sym stamp) in
    let size = ap length (next_more s src base left unused k e there ne) ∙ length-append (so_far s src base left k) ((record { index = k; chunk = e }) ∷ []) in
    let most = so_far_most s src base left unused (k + 1) in
    let is : left_in t m ≡ left - length (so_far s src base left k) = ap (λ (u : ShelfState). left_in u m) inv.shelf ∙ ap (left_in now) inv.number ∙ so_far_left s src base left unused k in
    let enough = c.requires.enough in
    omega arith

pub hold_piece-requires-clause-above : goal.hold_piece-requires-clause-above
hold_piece-requires-clause-above g c =
    let s = c.args.shelf.now.shelf in
    let src = c.args.src.0 in
    let base = c.args.base.0 in
    let left = c.args.room.indexes in
    let n = next_held s in
    let k = c.loop-index.index in
    let inv = c.loop-index.invariant in
    let t = c.loop-index.shelf.shelf in
    let m = c.loop-index.held.number in
    let now : ShelfState = so_far_state s src base left k in
    let unused : held_in s n ≡ None = ap (λ (h : HeldName). held_in s h.number) (sym c.hold_none-held.ensures.held) ∙ c.hold_none-held.ensures.unused in
    subst (λ (u : ShelfState). IsAbove u m k) (sym inv.shelf) (subst (λ x. IsAbove now x k) (sym inv.number) (so_far_above s src base left unused k))

pub hold_piece-requires-clause-len : goal.hold_piece-requires-clause-len
hold_piece-requires-clause-len g c =
    let s = c.args.shelf.now.shelf in
    let src = c.args.src.0 in
    let base = c.args.base.0 in
    let left = c.args.room.indexes in
    let n = next_held s in
    let k = c.loop-index.index in
    let inv = c.loop-index.invariant in
    let t = c.loop-index.shelf.shelf in
    let m = c.loop-index.held.number in
    let now : ShelfState = so_far_state s src base left k in
    let unused : held_in s n ≡ None = ap (λ (h : HeldName). held_in s h.number) (sym c.hold_none-held.ensures.held) ∙ c.hold_none-held.ensures.unused in
    inv.len ∙ sym (ap (λ (u : ShelfState). held_size u m) inv.shelf ∙ ap (held_size now) inv.number ∙ so_far_size s src base left unused k)

pub hold_piece-requires-clause-few : goal.hold_piece-requires-clause-few
hold_piece-requires-clause-few g c =
    let s = c.args.shelf.now.shelf in
    let src = c.args.src.0 in
    let base = c.args.base.0 in
    let left = c.args.room.indexes in
    let n = next_held s in
    let k = c.loop-index.index in
    let inv = c.loop-index.invariant in
    let t = c.loop-index.shelf.shelf in
    let m = c.loop-index.held.number in
    let now : ShelfState = so_far_state s src base left k in
    let unused : held_in s n ≡ None = ap (λ (h : HeldName). held_in s h.number) (sym c.hold_none-held.ensures.held) ∙ c.hold_none-held.ensures.unused in
    let e : Entry = seen_entry c.entry-entry.result in
    let there : slice_get (chunks_in s src) k ≡ Some e = ap (λ (u : ShelfState). slice_get (chunks_in u src) k) (sym inv.shelf) ∙ c.entry-entry.ensures in
    let stamp : c.stamp_in.result ≡ slice_index (map (λ (x : Entry). x.stamp) (chunks_in s base)) k = c.stamp_in.ensures ∙ ap (λ (u : ShelfState). slice_index (map (λ (x : Entry). x.stamp) (chunks_in u base)) k) inv.shelf in
    let ne : e.stamp ≢ slice_index (map (λ (x : Entry). x.stamp) (chunks_in s base)) k = λ is. c.if-entry-stamp_in.true (is ∙ sym stamp) in
    let size = ap length (next_more s src base left unused k e there ne) ∙ length-append (so_far s src base left k) ((record { index = k; chunk = e }) ∷ []) in
    let most = so_far_most s src base left unused (k + 1) in
    let few : shelf_entries now + 1 ≤ s.geometry.map_chunks = (let total = so_far_entries s src base left unused k in let limit = c.requires.few in omega arith) in
    subst (λ (u : ShelfState). shelf_entries u + 1 ≤ u.geometry.map_chunks) (sym inv.shelf) few

pub hold_piece-requires-clause-stands : goal.hold_piece-requires-clause-stands
hold_piece-requires-clause-stands g c =
    let s = c.args.shelf.now.shelf in
    let src = c.args.src.0 in
    let base = c.args.base.0 in
    let left = c.args.room.indexes in
    let n = next_held s in
    let k = c.loop-index.index in
    let inv = c.loop-index.invariant in
    let t = c.loop-index.shelf.shelf in
    let m = c.loop-index.held.number in
    let now : ShelfState = so_far_state s src base left k in
    let unused : held_in s n ≡ None = ap (λ (h : HeldName). held_in s h.number) (sym c.hold_none-held.ensures.held) ∙ c.hold_none-held.ensures.unused in
    let e : Entry = seen_entry c.entry-entry.result in
    let there : slice_get (chunks_in s src) k ≡ Some e = ap (λ (u : ShelfState). slice_get (chunks_in u src) k) (sym inv.shelf) ∙ c.entry-entry.ensures in
    let stamp : c.stamp_in.result ≡ slice_index (map (λ (x : Entry). x.stamp) (chunks_in s base)) k = c.stamp_in.ensures ∙ ap (λ (u : ShelfState). slice_index (map (λ (x : Entry). x.stamp) (chunks_in u base)) k) inv.shelf in
    subst (λ (u : ShelfState). Stands u (record { index = k; chunk = e })) (sym inv.shelf) (next_stands s src base left unused k e there)

pub loop-index-preserved : goal.loop-index-preserved
loop-index-preserved g c =
    let s = c.args.shelf.now.shelf in
    let src = c.args.src.0 in
    let base = c.args.base.0 in
    let left = c.args.room.indexes in
    let n = next_held s in
    let k = c.loop-index.index in
    let inv = c.loop-index.invariant in
    let t = c.loop-index.shelf.shelf in
    let m = c.loop-index.held.number in
    let now : ShelfState = so_far_state s src base left k in
    let unused : held_in s n ≡ None = ap (λ (h : HeldName). held_in s h.number) (sym c.hold_none-held.ensures.held) ∙ c.hold_none-held.ensures.unused in
    let e : Entry = seen_entry c.entry-entry.result in
    let there : slice_get (chunks_in s src) k ≡ Some e = ap (λ (u : ShelfState). slice_get (chunks_in u src) k) (sym inv.shelf) ∙ c.entry-entry.ensures in
    let stamp : c.stamp_in.result ≡ slice_index (map (λ (x : Entry). x.stamp) (chunks_in s base)) k = c.stamp_in.ensures ∙ ap (λ (u : ShelfState). slice_index (map (λ (x : Entry). x.stamp) (chunks_in u base)) k) inv.shelf in
    elim c.if-entry-stamp_in.branch [
      | then-entry-stamp_in w ↦
          let ne : e.stamp ≢ slice_index (map (λ (x : Entry). x.stamp) (chunks_in s base)) k = λ is. w.if-entry-stamp_in.true (is ∙ sym stamp) in
          let more = next_more s src base left unused k e there ne in
          let size = ap length more ∙ length-append (so_far s src base left k) ((record { index = k; chunk = e }) ∷ []) in
          let ens = w.hold_piece.ensures in
          record {
            shelf = ap (λ (v : ShelfView). v.shelf) w.shelf-is ∙ ens.shelf
                ∙ ap (λ (u : ShelfState). with_piece_more u m k e) inv.shelf ∙ ap (λ x. with_piece_more now x k e) inv.number
                ∙ next_state s src base left unused k e there ne;
            number = ap (λ (h : HeldName). h.number) w.held-is ∙ ap (λ (h : HeldName). h.number) ens.held ∙ inv.number;
            len = (let is = ap (λ (h : HeldName). h.len) w.held-is ∙ ap (λ (h : HeldName). h.len) ens.held in let was = inv.len in omega arith);
            rooms = ap (λ (v : ShelfView). v.rooms + 1) w.shelf-is ∙ ap (λ r. r + 1) ens.rooms ∙ inv.rooms;
            kept = λ v j own. ap (λ (x : ShelfView). is_own x v j) w.shelf-is ∙ ens.kept v j (inv.kept v j own);
            rise = (let is = w.steps-is in let up = ens.rise in let was = inv.rise in omega arith);
            steps = (let is = w.steps-is in let up = ens.steps in let was = inv.steps in omega arith);
          }
      | else-entry-stamp_in w ↦
          let same = next_same s src base left unused k e there (w.if-entry-stamp_in.false ∙ stamp) in
          let size = ap length same in
          record {
            shelf = ap (λ (v : ShelfView). v.shelf) w.shelf-is ∙ inv.shelf
                ∙ ap (λ (ps : List (Piece Entry)). with_held s (new_held s ps false (left - length ps))) (sym same);
            number = ap (λ (h : HeldName). h.number) w.held-is ∙ inv.number;
            len = ap (λ (h : HeldName). h.len) w.held-is ∙ inv.len ∙ sym size;
            rooms = ap (λ (v : ShelfView). v.rooms + 1) w.shelf-is ∙ inv.rooms;
            kept = λ v j own. ap (λ (x : ShelfView). is_own x v j) w.shelf-is ∙ inv.kept v j own;
            rise = (let is = w.steps-is in let was = inv.rise in omega arith);
            steps = (let is = w.steps-is in let was = inv.steps in omega arith);
          }
    ]

pub returns-clause-pieces : goal.returns-clause-pieces
returns-clause-pieces g c =
    let s = c.args.shelf.now.shelf in
    let src = c.args.src.0 in
    let base = c.args.base.0 in
    let left = c.args.room.indexes in
    let n = next_held s in
    let k = c.loop-index.index in
    let inv = c.loop-index.invariant in
    let t = c.loop-index.shelf.shelf in
    let m = c.loop-index.held.number in
    let now : ShelfState = so_far_state s src base left k in
    let unused : held_in s n ≡ None = ap (λ (h : HeldName). held_in s h.number) (sym c.hold_none-held.ensures.held) ∙ c.hold_none-held.ensures.unused in
    let last = c.loop-index-test.false in
    let entries : c.entries-index-end.result ≡ size_in s src = c.entries-index-end.ensures ∙ ap (λ (u : ShelfState). size_in u src) c.hold_none-held.ensures.shelf in
    let length_is = size_is s src in
    let all : so_far s src base left k ≡ difference_in s src base = so_far_all s src base left unused k (omega arith) in
    c.of_held.ensures
    ∙ ap (λ x. let h : HeldName = record { number = x; len = c.loop-index.held.len } in h) inv.number
    ∙ ap (λ x. let h : HeldName = record { number = n; len = x } in h) (inv.len ∙ ap length all)

pub returns-clause-shelf : goal.returns-clause-shelf
returns-clause-shelf g c =
    let s = c.args.shelf.now.shelf in
    let src = c.args.src.0 in
    let base = c.args.base.0 in
    let left = c.args.room.indexes in
    let n = next_held s in
    let k = c.loop-index.index in
    let inv = c.loop-index.invariant in
    let t = c.loop-index.shelf.shelf in
    let m = c.loop-index.held.number in
    let now : ShelfState = so_far_state s src base left k in
    let unused : held_in s n ≡ None = ap (λ (h : HeldName). held_in s h.number) (sym c.hold_none-held.ensures.held) ∙ c.hold_none-held.ensures.unused in
    let last = c.loop-index-test.false in
    let entries : c.entries-index-end.result ≡ size_in s src = c.entries-index-end.ensures ∙ ap (λ (u : ShelfState). size_in u src) c.hold_none-held.ensures.shelf in
    let length_is = size_is s src in
    let all : so_far s src base left k ≡ difference_in s src base = so_far_all s src base left unused k (omega arith) in
    inv.shelf ∙ ap (λ (ps : List (Piece Entry)). with_held s (new_held s ps false (left - length ps))) all

pub returns-clause-steps : goal.returns-clause-steps
returns-clause-steps g c =
    let s = c.args.shelf.now.shelf in
    let src = c.args.src.0 in
    let base = c.args.base.0 in
    let left = c.args.room.indexes in
    let n = next_held s in
    let k = c.loop-index.index in
    let inv = c.loop-index.invariant in
    let t = c.loop-index.shelf.shelf in
    let m = c.loop-index.held.number in
    let now : ShelfState = so_far_state s src base left k in
    let unused : held_in s n ≡ None = ap (λ (h : HeldName). held_in s h.number) (sym c.hold_none-held.ensures.held) ∙ c.hold_none-held.ensures.unused in
    let last = c.loop-index-test.false in
    let entries : c.entries-index-end.result ≡ size_in s src = c.entries-index-end.ensures ∙ ap (λ (u : ShelfState). size_in u src) c.hold_none-held.ensures.shelf in
    let length_is = size_is s src in
    let all : so_far s src base left k ≡ difference_in s src base = so_far_all s src base left unused k (omega arith) in
    let size = ap length all in
    let was = inv.steps in
    omega arith
