use Rattle.std.proofs.Common.{◌≡◌, List, map, is_some, None, refl, sym, subst, ap, ◌∙◌, arith}
use Rattle.std.specs.Prelude.{IsSome}
use Rattle.vv_flat.specs.Chunks.{Entry}
use Rattle.vv_flat.proofs.Positions.{length-removed}
use Rattle.vv_vols.specs.declared.row.VolumeRow.{VolumeRow}
use Rattle.vv_vols.specs.Shelf.{volume_in, held_in, pieces_in}
use Rattle.vv_vols.specs.Calls.{with_made, without_held, piece_chunks}
use Rattle.vv_vols.specs.Conditions.{HasEveryIndex}
use Rattle.vv_vols.specs.Rows.{ShelfView, is_own, own_in, is_held_row, seen_pages, seen_shelf, volume_with, IsShelf}
use Rattle.vv_vols.proofs.ReadRow.{row_none}
use Rattle.vv_vols.proofs.FoundSplit.{found_there}
use Rattle.vv_vols.proofs.HeldRead.{held_row_found}
use Rattle.vv_vols.proofs.MadeHeld.{chunks_held, made_held_seen, made_held_kept, made_held_own}
use Rattle.vv_vols.proofs.GoodRooms.{good_kept}
use Rattle.vv_vols.proofs.shelf.Shelf.make_held.Goals as goal

pub take_held-map-requires : goal.take_held-map-requires
take_held-map-requires c = held_row_found c.self.inside.entries.store c.args.held.number c.self.inside.held.items (subst (λ (v : ShelfView). IsSome (held_in v.shelf c.args.held.number)) (sym c.self.view_is) c.requires.standing)

pub put_row-requires : goal.put_row-requires
put_row-requires c =
    let inside = c.self.inside in
    let n = c.args.held.number in
    let some = held_row_found inside.entries.store n inside.held.items (subst (λ (v : ShelfView). IsSome (held_in v.shelf n)) (sym c.self.view_is) c.requires.standing) in
    let row = c.take_held-map.result in
    let found = found_there (is_held_row n) inside.held.items row some c.take_held-map.ensures.value in
    let one = length-removed (is_held_row n) inside.held.items (ap (λ o. is_some o) found) in
    let rows = c.self.invariant.volume_rows in
    let size = inside.volumes.ok.0 in
    omega arith

pub invariant_of-self : goal.invariant_of-self
invariant_of-self c =
    let inside = c.self.inside in
    let n = c.args.held.number in
    let some = held_row_found inside.entries.store n inside.held.items (subst (λ (v : ShelfView). IsSome (held_in v.shelf n)) (sym c.self.view_is) c.requires.standing) in
    let row = c.take_held-map.result in
    let found = found_there (is_held_row n) inside.held.items row some c.take_held-map.ensures.value in
    let row' : VolumeRow = record { id = c.args.id; head = c.args.head; map = row.map; allocated = row.allocated } in
    let unused = row_none inside.entries.store c.args.id.0 inside.volumes.items (subst (λ (v : ShelfView). volume_in v.shelf c.args.id.0 ≡ None) (sym c.self.view_is) c.requires.unused) in
    let whole : HasEveryIndex (seen_shelf inside.geometry inside.entries inside.volumes.items inside.held.items) n = subst (λ (v : ShelfView). HasEveryIndex v.shelf n) (sym c.self.view_is) c.requires.whole in
    subst (λ k. IsShelf inside.geometry inside.entries c.put_row.new.rows.items c.take_held-map.new.rows.items inside.total inside.promised c.put_row.new.rows.cap k) (sym c.take_held-map.ensures.capacity)
    (subst (λ (vs : List VolumeRow). IsShelf inside.geometry inside.entries vs c.take_held-map.new.rows.items inside.total inside.promised c.put_row.new.rows.cap inside.held.cap) (sym c.put_row.ensures.items)
    (made_held_kept inside.geometry inside.entries inside.volumes.items inside.held.items c.take_held-map.new.rows.items inside.total inside.promised inside.volumes.cap inside.held.cap c.put_row.new.rows.cap n row row' found c.take_held-map.ensures.items unused refl refl whole c.put_row.ensures.capacity c.self.invariant))

pub returns-clause-shelf : goal.returns-clause-shelf
returns-clause-shelf c =
    let inside = c.self.inside in
    let n = c.args.held.number in
    let some = held_row_found inside.entries.store n inside.held.items (subst (λ (v : ShelfView). IsSome (held_in v.shelf n)) (sym c.self.view_is) c.requires.standing) in
    let row = c.take_held-map.result in
    let found = found_there (is_held_row n) inside.held.items row some c.take_held-map.ensures.value in
    let row' : VolumeRow = record { id = c.args.id; head = c.args.head; map = row.map; allocated = row.allocated } in
    let unused = row_none inside.entries.store c.args.id.0 inside.volumes.items (subst (λ (v : ShelfView). volume_in v.shelf c.args.id.0 ≡ None) (sym c.self.view_is) c.requires.unused) in
    let whole : HasEveryIndex (seen_shelf inside.geometry inside.entries inside.volumes.items inside.held.items) n = subst (λ (v : ShelfView). HasEveryIndex v.shelf n) (sym c.self.view_is) c.requires.whole in
    ap (λ (vs : List VolumeRow). seen_shelf inside.geometry inside.entries vs c.take_held-map.new.rows.items) c.put_row.ensures.items
    ∙ made_held_seen inside.geometry inside.entries inside.volumes.items inside.held.items c.take_held-map.new.rows.items inside.total inside.promised inside.volumes.cap inside.held.cap c.put_row.new.rows.cap n row row' found c.take_held-map.ensures.items unused refl refl whole c.put_row.ensures.capacity c.self.invariant
    ∙ ap (λ (es : List Entry). with_made (without_held (seen_shelf inside.geometry inside.entries inside.volumes.items inside.held.items) n) (volume_with c.args.id.0 c.args.head es)) (chunks_held inside.geometry inside.entries inside.volumes.items inside.held.items c.take_held-map.new.rows.items inside.total inside.promised inside.volumes.cap inside.held.cap c.put_row.new.rows.cap n row row' found c.take_held-map.ensures.items unused refl refl whole c.put_row.ensures.capacity c.self.invariant)
    ∙ ap (λ (v : ShelfView). with_made (without_held v.shelf n) (volume_with c.args.id.0 c.args.head (piece_chunks (pieces_in v.shelf n)))) c.self.view_is

pub returns-clause-kept : goal.returns-clause-kept
returns-clause-kept c = λ v k own.
    let inside = c.self.inside in
    let n = c.args.held.number in
    let some = held_row_found inside.entries.store n inside.held.items (subst (λ (v : ShelfView). IsSome (held_in v.shelf n)) (sym c.self.view_is) c.requires.standing) in
    let row = c.take_held-map.result in
    let found = found_there (is_held_row n) inside.held.items row some c.take_held-map.ensures.value in
    let row' : VolumeRow = record { id = c.args.id; head = c.args.head; map = row.map; allocated = row.allocated } in
    let unused = row_none inside.entries.store c.args.id.0 inside.volumes.items (subst (λ (v : ShelfView). volume_in v.shelf c.args.id.0 ≡ None) (sym c.self.view_is) c.requires.unused) in
    let whole : HasEveryIndex (seen_shelf inside.geometry inside.entries inside.volumes.items inside.held.items) n = subst (λ (v : ShelfView). HasEveryIndex v.shelf n) (sym c.self.view_is) c.requires.whole in
    ap (λ (vs : List VolumeRow). own_in (map (seen_pages inside.entries.store) vs) v k) c.put_row.ensures.items
    ∙ made_held_own inside.geometry inside.entries inside.volumes.items inside.held.items c.take_held-map.new.rows.items inside.total inside.promised inside.volumes.cap inside.held.cap c.put_row.new.rows.cap n row row' found c.take_held-map.ensures.items unused refl refl whole c.put_row.ensures.capacity c.self.invariant v k (ap (λ (w : ShelfView). is_own w v k) c.self.view_is ∙ own)

pub returns-clause-others : goal.returns-clause-others
returns-clause-others c = λ given good.
    good_kept c.args.self.now _ given (returns-clause-kept c) (sym (ap (λ (v : ShelfView). v.rooms) c.self.view_is)) good
