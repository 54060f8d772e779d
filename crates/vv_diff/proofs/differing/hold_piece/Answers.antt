use Rattle.std.proofs.Common.{◌≡◌, None, sym, ap, subst, ◌∙◌}
use Rattle.std.specs.Prelude.{IsSome}
use Rattle.vv_flat.specs.Chunks.{Entry}
use Rattle.vv_vols.specs.Shelf.{HeldName, ShelfState, held_in, held_size, entry_at, index_at, is_image_in}
use Rattle.vv_vols.specs.Calls.{placed_at, with_piece, with_appended}
use Rattle.vv_vols.specs.Conditions.{Stands}
use Rattle.vv_vols.specs.Rows.{seen_entry}
use Rattle.vv_diff.specs.Pieces.{with_piece_more}
use Rattle.vv_diff.proofs.HeldPiece.{appended_standing, appended_image, appended_index, appended_unmapped, appended_stands, appended_filled, unmapped_seen, placed_seen}
use Rattle.vv_diff.proofs.differing.hold_piece.Goals as goal

pub share_held-requires-clause-standing : goal.share_held-requires-clause-standing
share_held-requires-clause-standing g c =
    let s = c.args.shelf.now.shelf in
    let n = c.args.held.now.number in
    let m = c.hold_unmapped.new.held.number in
    let same : m ≡ n = ap (λ (h : HeldName). h.number) c.hold_unmapped.ensures.held in
    let t : ShelfState = with_appended s n c.args.index in
    let is : c.hold_unmapped.new.self.shelf ≡ t = c.hold_unmapped.ensures.shelf in
    let at = c.len-at.result in
    let at_is : at ≡ held_size s n = c.len-at.ensures ∙ c.requires.len in
    subst (λ (u : ShelfState). IsSome (held_in u m)) (sym is) (subst (λ k. IsSome (held_in t k)) (sym same) (appended_standing s n c.args.index c.requires.standing))

pub share_held-requires-clause-target : goal.share_held-requires-clause-target
share_held-requires-clause-target g c =
    let s = c.args.shelf.now.shelf in
    let n = c.args.held.now.number in
    let m = c.hold_unmapped.new.held.number in
    let same : m ≡ n = ap (λ (h : HeldName). h.number) c.hold_unmapped.ensures.held in
    let t : ShelfState = with_appended s n c.args.index in
    let is : c.hold_unmapped.new.self.shelf ≡ t = c.hold_unmapped.ensures.shelf in
    let at = c.len-at.result in
    let at_is : at ≡ held_size s n = c.len-at.ensures ∙ c.requires.len in
    ap (λ (u : ShelfState). is_image_in u m) is ∙ ap (is_image_in t) same ∙ appended_image s n c.args.index c.requires.standing c.requires.target

pub share_held-requires-clause-unmapped : goal.share_held-requires-clause-unmapped
share_held-requires-clause-unmapped g c =
    let s = c.args.shelf.now.shelf in
    let n = c.args.held.now.number in
    let m = c.hold_unmapped.new.held.number in
    let same : m ≡ n = ap (λ (h : HeldName). h.number) c.hold_unmapped.ensures.held in
    let t : ShelfState = with_appended s n c.args.index in
    let is : c.hold_unmapped.new.self.shelf ≡ t = c.hold_unmapped.ensures.shelf in
    let at = c.len-at.result in
    let at_is : at ≡ held_size s n = c.len-at.ensures ∙ c.requires.len in
    ap (λ (u : ShelfState). entry_at u m at) is ∙ ap (λ k. entry_at t k at) same ∙ appended_unmapped s n c.args.index c.requires.standing at at_is

pub share_held-requires-clause-stands : goal.share_held-requires-clause-stands
share_held-requires-clause-stands g c =
    let s = c.args.shelf.now.shelf in
    let n = c.args.held.now.number in
    let m = c.hold_unmapped.new.held.number in
    let same : m ≡ n = ap (λ (h : HeldName). h.number) c.hold_unmapped.ensures.held in
    let t : ShelfState = with_appended s n c.args.index in
    let is : c.hold_unmapped.new.self.shelf ≡ t = c.hold_unmapped.ensures.shelf in
    let at = c.len-at.result in
    let at_is : at ≡ held_size s n = c.len-at.ensures ∙ c.requires.len in
    let e = placed_at c.in-Some.place.0 c.args.entry.stamp in
    let index : index_at c.hold_unmapped.new.self.shelf m at ≡ c.args.index = ap (λ (u : ShelfState). index_at u m at) is ∙ ap (λ k. index_at t k at) same ∙ appended_index s n c.args.index c.requires.standing at at_is in
    subst (λ i. Stands c.hold_unmapped.new.self.shelf (record { index = i; chunk = e })) (sym index)
    (subst (λ (u : ShelfState). Stands u (record { index = c.args.index; chunk = e })) (sym is)
    (subst (λ (x : Entry). Stands t (record { index = c.args.index; chunk = x })) (sym (placed_seen c.args.entry c.in-Some.place c.in-Some.is))
    (appended_stands s n c.args.index c.requires.standing (record { index = c.args.index; chunk = seen_entry c.args.entry }) c.requires.stands)))

pub returns-in-Some-clause-shelf : goal.returns-in-Some-clause-shelf
returns-in-Some-clause-shelf g c =
    let s = c.args.shelf.now.shelf in
    let n = c.args.held.now.number in
    let m = c.hold_unmapped.new.held.number in
    let same : m ≡ n = ap (λ (h : HeldName). h.number) c.hold_unmapped.ensures.held in
    let t : ShelfState = with_appended s n c.args.index in
    let is : c.hold_unmapped.new.self.shelf ≡ t = c.hold_unmapped.ensures.shelf in
    let at = c.len-at.result in
    let at_is : at ≡ held_size s n = c.len-at.ensures ∙ c.requires.len in
    let e = placed_at c.in-Some.place.0 c.args.entry.stamp in
    c.share_held.ensures.shelf
    ∙ ap (λ (u : ShelfState). with_piece u m at e) is
    ∙ ap (λ k. with_piece t k at e) same
    ∙ appended_filled s n c.args.index c.requires.standing at e at_is
    ∙ ap (with_piece_more s n c.args.index) (placed_seen c.args.entry c.in-Some.place c.in-Some.is)

pub returns-in_default-clause-shelf : goal.returns-in_default-clause-shelf
returns-in_default-clause-shelf g c =
    let s = c.args.shelf.now.shelf in
    let n = c.args.held.now.number in
    let m = c.hold_unmapped.new.held.number in
    let same : m ≡ n = ap (λ (h : HeldName). h.number) c.hold_unmapped.ensures.held in
    let t : ShelfState = with_appended s n c.args.index in
    let is : c.hold_unmapped.new.self.shelf ≡ t = c.hold_unmapped.ensures.shelf in
    let at = c.len-at.result in
    let at_is : at ≡ held_size s n = c.len-at.ensures ∙ c.requires.len in
    let none : c.args.entry.place ≡ None = c.in_default.is in
    is ∙ ap (with_piece_more s n c.args.index) (sym (unmapped_seen s c.args.index c.args.entry c.keeps_sharing.ensures c.requires.stands none))
