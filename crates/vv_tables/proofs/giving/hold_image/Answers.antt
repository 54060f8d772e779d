use Rattle.std.proofs.Common.{ℕ, ◌≡◌, ◌+◌, true, length, sym, ap, subst, ◌∙◌, arith}
use Rattle.std.specs.Prelude.{IsSome}
use Rattle.std.proofs.lemmas.List.{length-map}
use Rattle.vv_flat.specs.State.{Volume, indexed}
use Rattle.vv_flat.specs.Chunks.{Entry}
use Rattle.vv_vols.specs.Shelf.{ShelfState, HeldName, volume_in, size_in, chunks_in, next_held, shelf_entries}
use Rattle.vv_vols.specs.Calls.{with_held, with_made, with_deleted, new_held}
use Rattle.vv_vols.specs.Rows.{ShelfView, IsListRoom, seen_entry, seen_entries, volume_with}
use Rattle.vv_tables.proofs.GivenImages.{made_stands, made_size, made_chunks, made_entries, made_deleted}
use Rattle.vv_tables.proofs.giving.hold_image.Goals as goal

pub hold_image-held-requires-clause-standing : goal.hold_image-held-requires-clause-standing
hold_image-held-requires-clause-standing g c =
    let s = c.args.shelf.now.shelf in
    let v : Volume Entry = volume_with c.args.id.0 c.args.head (seen_entries c.args.entries.now) in
    let same : c.reserve_list.new.self.shelf ≡ s = ap (λ (w : ShelfView). w.shelf) c.in_ok-room.ensures.ok in
    let made : c.make_entries.new.shelf.shelf ≡ with_made s v = c.in-Ok.ensures.ok ∙ ap (λ (t : ShelfState). with_made t v) same in
    subst (λ (t : ShelfState). IsSome (volume_in t c.args.id.0)) (sym made) (made_stands s v c.requires.unused)

pub hold_image-held-requires-clause-few : goal.hold_image-held-requires-clause-few
hold_image-held-requires-clause-few g c =
    let s = c.args.shelf.now.shelf in
    let v : Volume Entry = volume_with c.args.id.0 c.args.head (seen_entries c.args.entries.now) in
    let same : c.reserve_list.new.self.shelf ≡ s = ap (λ (w : ShelfView). w.shelf) c.in_ok-room.ensures.ok in
    let made : c.make_entries.new.shelf.shelf ≡ with_made s v = c.in-Ok.ensures.ok ∙ ap (λ (t : ShelfState). with_made t v) same in
    let size : size_in c.make_entries.new.shelf.shelf c.args.id.0 ≡ length c.args.entries.now =
    ap (λ (t : ShelfState). size_in t c.args.id.0) made ∙ made_size s v c.requires.unused ∙ length-map c.args.entries.now seen_entry in
    let entries : shelf_entries c.make_entries.new.shelf.shelf ≡ length c.args.entries.now + shelf_entries s =
    ap shelf_entries made ∙ made_entries s v c.requires.unused ∙ ap (λ n. n + shelf_entries s) (length-map c.args.entries.now seen_entry) in
    let geometry : c.make_entries.new.shelf.shelf.geometry.map_chunks ≡ s.geometry.map_chunks = ap (λ (t : ShelfState). t.geometry.map_chunks) made in
    let few = c.requires.few in
    omega (arith, size, entries, geometry, few)

pub hold_image-held-requires-clause-room : goal.hold_image-held-requires-clause-room
hold_image-held-requires-clause-room g c =
    let s = c.args.shelf.now.shelf in
    let v : Volume Entry = volume_with c.args.id.0 c.args.head (seen_entries c.args.entries.now) in
    let same : c.reserve_list.new.self.shelf ≡ s = ap (λ (w : ShelfView). w.shelf) c.in_ok-room.ensures.ok in
    let made : c.make_entries.new.shelf.shelf ≡ with_made s v = c.in-Ok.ensures.ok ∙ ap (λ (t : ShelfState). with_made t v) same in
    let size : size_in c.make_entries.new.shelf.shelf c.args.id.0 ≡ length c.args.entries.now =
    ap (λ (t : ShelfState). size_in t c.args.id.0) made ∙ made_size s v c.requires.unused ∙ length-map c.args.entries.now seen_entry in
    subst (λ n. IsListRoom n c.in_ok-room.room) (sym size) c.in_ok-room.ensures.room

pub delete-requires : goal.delete-requires
delete-requires g c =
    let s = c.args.shelf.now.shelf in
    let v : Volume Entry = volume_with c.args.id.0 c.args.head (seen_entries c.args.entries.now) in
    let same : c.reserve_list.new.self.shelf ≡ s = ap (λ (w : ShelfView). w.shelf) c.in_ok-room.ensures.ok in
    let made : c.make_entries.new.shelf.shelf ≡ with_made s v = c.in-Ok.ensures.ok ∙ ap (λ (t : ShelfState). with_made t v) same in
    let chunks : chunks_in c.make_entries.new.shelf.shelf c.args.id.0 ≡ seen_entries c.args.entries.now =
    ap (λ (t : ShelfState). chunks_in t c.args.id.0) made ∙ made_chunks s v c.requires.unused in
    let held : c.hold_image-held.new.self.shelf ≡ with_held (with_made s v) (new_held s (indexed (seen_entries c.args.entries.now)) true 0) =
    c.hold_image-held.ensures.shelf
    ∙ ap (λ es. with_held c.make_entries.new.shelf.shelf (new_held c.make_entries.new.shelf.shelf (indexed es) true 0)) chunks
    ∙ ap (λ (t : ShelfState). with_held t (new_held t (indexed (seen_entries c.args.entries.now)) true 0)) made in
    subst (λ (t : ShelfState). IsSome (volume_in t c.args.id.0)) (sym held) (made_stands s v c.requires.unused)

pub returns-clause-held : goal.returns-clause-held
returns-clause-held g c =
    let s = c.args.shelf.now.shelf in
    let v : Volume Entry = volume_with c.args.id.0 c.args.head (seen_entries c.args.entries.now) in
    let same : c.reserve_list.new.self.shelf ≡ s = ap (λ (w : ShelfView). w.shelf) c.in_ok-room.ensures.ok in
    let made : c.make_entries.new.shelf.shelf ≡ with_made s v = c.in-Ok.ensures.ok ∙ ap (λ (t : ShelfState). with_made t v) same in
    let size : size_in c.make_entries.new.shelf.shelf c.args.id.0 ≡ length c.args.entries.now =
    ap (λ (t : ShelfState). size_in t c.args.id.0) made ∙ made_size s v c.requires.unused ∙ length-map c.args.entries.now seen_entry in
    c.hold_image-held.ensures.held
    ∙ ap (λ (n : ℕ). let h : HeldName = record { number = n; len = size_in c.make_entries.new.shelf.shelf c.args.id.0 } in h) (ap next_held made)
    ∙ ap (λ (n : ℕ). let h : HeldName = record { number = next_held s; len = n } in h) size

pub returns-clause-shelf : goal.returns-clause-shelf
returns-clause-shelf g c =
    let s = c.args.shelf.now.shelf in
    let v : Volume Entry = volume_with c.args.id.0 c.args.head (seen_entries c.args.entries.now) in
    let same : c.reserve_list.new.self.shelf ≡ s = ap (λ (w : ShelfView). w.shelf) c.in_ok-room.ensures.ok in
    let made : c.make_entries.new.shelf.shelf ≡ with_made s v = c.in-Ok.ensures.ok ∙ ap (λ (t : ShelfState). with_made t v) same in
    let chunks : chunks_in c.make_entries.new.shelf.shelf c.args.id.0 ≡ seen_entries c.args.entries.now =
    ap (λ (t : ShelfState). chunks_in t c.args.id.0) made ∙ made_chunks s v c.requires.unused in
    let held : c.hold_image-held.new.self.shelf ≡ with_held (with_made s v) (new_held s (indexed (seen_entries c.args.entries.now)) true 0) =
    c.hold_image-held.ensures.shelf
    ∙ ap (λ es. with_held c.make_entries.new.shelf.shelf (new_held c.make_entries.new.shelf.shelf (indexed es) true 0)) chunks
    ∙ ap (λ (t : ShelfState). with_held t (new_held t (indexed (seen_entries c.args.entries.now)) true 0)) made in
    c.delete.ensures.shelf ∙ ap (λ (t : ShelfState). with_deleted t c.args.id.0) held
    ∙ made_deleted s v c.requires.unused (new_held s (indexed (seen_entries c.args.entries.now)) true 0)
