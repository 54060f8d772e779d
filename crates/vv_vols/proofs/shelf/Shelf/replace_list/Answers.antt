use Rattle.std.proofs.Common.{◌≡◌, true, List, map, set, find, is_some, refl, sym, subst, ap, ◌∙◌}
use Rattle.std.specs.Prelude.{IsSome}
use Rattle.std.specs.List.{position, position_or_len}
use Rattle.vv_flat.specs.State.{indexed}
use Rattle.vv_flat.proofs.Positions.{found_is, position_some}
use Rattle.vv_vols.specs.declared.row.VolumeRow.{VolumeRow}
use Rattle.vv_vols.specs.declared.row.HeldRow.{HeldRow}
use Rattle.vv_vols.specs.Shelf.{HeldList, ShelfState, is_held, volume_in, held_in, chunks_in, pieces_in}
use Rattle.vv_vols.specs.Calls.{with_chunks, without_held, piece_chunks}
use Rattle.vv_vols.specs.Conditions.{HasEveryIndex}
use Rattle.vv_vols.specs.Rows.{ShelfView, is_own, is_row, is_held_row, seen_held, seen_shelf, fresh_from}
use Rattle.vv_vols.proofs.SeenShelf.{row_found}
use Rattle.vv_vols.proofs.HeldRead.{held_row_found, held_seen_found}
use Rattle.vv_vols.proofs.SwappedHeld.{swapped_seen, swapped_kept, swapped_own, found_changed, removed_changed}
use Rattle.vv_vols.proofs.GoodRooms.{good_kept_but}
use Rattle.vv_vols.proofs.shelf.Shelf.replace_list.Goals as goal

pub place_of-place-requires : goal.place_of-place-requires
place_of-place-requires c =
    subst (λ (rows : List VolumeRow). IsSome (find (is_row c.args.id.0) rows)) (sym c.deref.ensures.value)
    (row_found c.self.inside.entries.store c.args.id.0 c.self.inside.volumes.items
    (subst (λ (s : ShelfView). IsSome (volume_in s.shelf c.args.id.0)) (sym c.self.view_is) c.requires.standing))

pub held_place-at-requires : goal.held_place-at-requires
held_place-at-requires c =
    let n = c.args.held.number in
    subst (λ (rows : List HeldRow). IsSome (find (is_held_row n) rows)) (sym c.deref-2.ensures.value)
    (held_row_found c.self.inside.entries.store n c.self.inside.held.items (subst (λ (v : ShelfView). IsSome (held_in v.shelf n)) (sym c.self.view_is) c.requires.holding))

pub invariant_of-self : goal.invariant_of-self
invariant_of-self c =
    let inside = c.self.inside in
    let id = c.args.id.0 in
    let n = c.args.held.number in
    let v = c.index_mut-volume.result.now in
    let h = c.index_mut-row.result.now in
    let v_at = ap (position (is_row id)) (sym c.deref.ensures.value) ∙ c.place_of-place.ensures in
    let h_at = ap (position (is_held_row n)) (sym c.deref-2.ensures.value) ∙ c.held_place-at.ensures in
    let v_found = found_is (is_row id) inside.volumes.items c.place_of-place.result v v_at c.index_mut-volume.ensures.value in
    let h_found = found_is (is_held_row n) inside.held.items c.held_place-at.result h h_at c.index_mut-row.ensures.value in
    let volumes' : List VolumeRow = set inside.volumes.items c.place_of-place.result c.swap_lists.new.volume in
    let held' : List HeldRow = set inside.held.items c.held_place-at.result c.swap_lists.new.row in
    let v_place = position_some (is_row id) inside.volumes.items c.place_of-place.result v_at in
    let h_place = position_some (is_held_row n) inside.held.items c.held_place-at.result h_at in
    let v_is : volumes' ≡ set inside.volumes.items (position_or_len (is_row id) inside.volumes.items) c.swap_lists.new.volume = ap (λ k. set inside.volumes.items k c.swap_lists.new.volume) (sym v_place.0) in
    let h_is : held' ≡ set inside.held.items (position_or_len (is_held_row n) inside.held.items) c.swap_lists.new.row = ap (λ k. set inside.held.items k c.swap_lists.new.row) (sym h_place.0) in
    let whole : HasEveryIndex (seen_shelf inside.geometry inside.entries inside.volumes.items inside.held.items) n = subst (λ (w : ShelfView). HasEveryIndex w.shelf n) (sym c.self.view_is) c.requires.whole in
    swapped_kept inside.geometry inside.entries inside.volumes.items volumes' inside.held.items held' inside.total inside.promised inside.volumes.cap inside.held.cap id n v c.swap_lists.new.volume h c.swap_lists.new.row v_found h_found v_is h_is c.swap_lists.ensures.volume c.swap_lists.ensures.row whole c.self.invariant

pub drop_image-requires : goal.drop_image-requires
drop_image-requires c =
    let inside = c.self.inside in
    let id = c.args.id.0 in
    let n = c.args.held.number in
    let v = c.index_mut-volume.result.now in
    let h = c.index_mut-row.result.now in
    let v_at = ap (position (is_row id)) (sym c.deref.ensures.value) ∙ c.place_of-place.ensures in
    let h_at = ap (position (is_held_row n)) (sym c.deref-2.ensures.value) ∙ c.held_place-at.ensures in
    let v_found = found_is (is_row id) inside.volumes.items c.place_of-place.result v v_at c.index_mut-volume.ensures.value in
    let h_found = found_is (is_held_row n) inside.held.items c.held_place-at.result h h_at c.index_mut-row.ensures.value in
    let volumes' : List VolumeRow = set inside.volumes.items c.place_of-place.result c.swap_lists.new.volume in
    let held' : List HeldRow = set inside.held.items c.held_place-at.result c.swap_lists.new.row in
    let v_place = position_some (is_row id) inside.volumes.items c.place_of-place.result v_at in
    let h_place = position_some (is_held_row n) inside.held.items c.held_place-at.result h_at in
    let v_is : volumes' ≡ set inside.volumes.items (position_or_len (is_row id) inside.volumes.items) c.swap_lists.new.volume = ap (λ k. set inside.volumes.items k c.swap_lists.new.volume) (sym v_place.0) in
    let h_is : held' ≡ set inside.held.items (position_or_len (is_held_row n) inside.held.items) c.swap_lists.new.row = ap (λ k. set inside.held.items k c.swap_lists.new.row) (sym h_place.0) in
    let whole : HasEveryIndex (seen_shelf inside.geometry inside.entries inside.volumes.items inside.held.items) n = subst (λ (w : ShelfView). HasEveryIndex w.shelf n) (sym c.self.view_is) c.requires.whole in
    let image : HeldList → HeldList = λ k. record { number = k.number; pieces = indexed (chunks_in (seen_shelf inside.geometry inside.entries inside.volumes.items inside.held.items) id); is_image = true; left = 0 } in
    subst (λ (t : ShelfState). IsSome (held_in t n)) (sym (swapped_seen inside.geometry inside.entries inside.volumes.items volumes' inside.held.items held' inside.total inside.promised inside.volumes.cap inside.held.cap id n v c.swap_lists.new.volume h c.swap_lists.new.row v_found h_found v_is h_is c.swap_lists.ensures.volume c.swap_lists.ensures.row whole c.self.invariant))
    (ap (λ o. is_some o) (found_changed (is_held n) image (λ k. refl) (map (seen_held inside.entries.store) inside.held.items) (seen_held inside.entries.store h) (held_seen_found inside.geometry inside.entries inside.volumes.items inside.held.items inside.total inside.promised inside.volumes.cap inside.held.cap n h h_found c.self.invariant)))

pub returns-clause-shelf : goal.returns-clause-shelf
returns-clause-shelf c =
    let inside = c.self.inside in
    let id = c.args.id.0 in
    let n = c.args.held.number in
    let v = c.index_mut-volume.result.now in
    let h = c.index_mut-row.result.now in
    let v_at = ap (position (is_row id)) (sym c.deref.ensures.value) ∙ c.place_of-place.ensures in
    let h_at = ap (position (is_held_row n)) (sym c.deref-2.ensures.value) ∙ c.held_place-at.ensures in
    let v_found = found_is (is_row id) inside.volumes.items c.place_of-place.result v v_at c.index_mut-volume.ensures.value in
    let h_found = found_is (is_held_row n) inside.held.items c.held_place-at.result h h_at c.index_mut-row.ensures.value in
    let volumes' : List VolumeRow = set inside.volumes.items c.place_of-place.result c.swap_lists.new.volume in
    let held' : List HeldRow = set inside.held.items c.held_place-at.result c.swap_lists.new.row in
    let v_place = position_some (is_row id) inside.volumes.items c.place_of-place.result v_at in
    let h_place = position_some (is_held_row n) inside.held.items c.held_place-at.result h_at in
    let v_is : volumes' ≡ set inside.volumes.items (position_or_len (is_row id) inside.volumes.items) c.swap_lists.new.volume = ap (λ k. set inside.volumes.items k c.swap_lists.new.volume) (sym v_place.0) in
    let h_is : held' ≡ set inside.held.items (position_or_len (is_held_row n) inside.held.items) c.swap_lists.new.row = ap (λ k. set inside.held.items k c.swap_lists.new.row) (sym h_place.0) in
    let whole : HasEveryIndex (seen_shelf inside.geometry inside.entries inside.volumes.items inside.held.items) n = subst (λ (w : ShelfView). HasEveryIndex w.shelf n) (sym c.self.view_is) c.requires.whole in
    let image : HeldList → HeldList = λ k. record { number = k.number; pieces = indexed (chunks_in (seen_shelf inside.geometry inside.entries inside.volumes.items inside.held.items) id); is_image = true; left = 0 } in
    let chunks = piece_chunks (pieces_in (seen_shelf inside.geometry inside.entries inside.volumes.items inside.held.items) n) in
    c.drop_image.ensures.shelf
    ∙ ap (λ (t : ShelfState). without_held t n) (swapped_seen inside.geometry inside.entries inside.volumes.items volumes' inside.held.items held' inside.total inside.promised inside.volumes.cap inside.held.cap id n v c.swap_lists.new.volume h c.swap_lists.new.row v_found h_found v_is h_is c.swap_lists.ensures.volume c.swap_lists.ensures.row whole c.self.invariant)
    ∙ ap (λ (ks : List HeldList). let t : ShelfState = record { geometry = inside.geometry; volumes = (with_chunks (seen_shelf inside.geometry inside.entries inside.volumes.items inside.held.items) id (λ _. chunks)).volumes; held = ks; fresh = fresh_from 0 inside.entries.pool.places; reserved = inside.entries.pool.reserved } in t)
    (removed_changed (is_held n) image (λ k. refl) (map (seen_held inside.entries.store) inside.held.items))
    ∙ ap (λ (w : ShelfView). with_chunks (without_held w.shelf n) id (λ _. piece_chunks (pieces_in w.shelf n))) c.self.view_is

pub returns-clause-kept : goal.returns-clause-kept
returns-clause-kept c = λ w k ne own.
    let inside = c.self.inside in
    let id = c.args.id.0 in
    let n = c.args.held.number in
    let v = c.index_mut-volume.result.now in
    let h = c.index_mut-row.result.now in
    let v_at = ap (position (is_row id)) (sym c.deref.ensures.value) ∙ c.place_of-place.ensures in
    let h_at = ap (position (is_held_row n)) (sym c.deref-2.ensures.value) ∙ c.held_place-at.ensures in
    let v_found = found_is (is_row id) inside.volumes.items c.place_of-place.result v v_at c.index_mut-volume.ensures.value in
    let h_found = found_is (is_held_row n) inside.held.items c.held_place-at.result h h_at c.index_mut-row.ensures.value in
    let volumes' : List VolumeRow = set inside.volumes.items c.place_of-place.result c.swap_lists.new.volume in
    let held' : List HeldRow = set inside.held.items c.held_place-at.result c.swap_lists.new.row in
    let v_place = position_some (is_row id) inside.volumes.items c.place_of-place.result v_at in
    let h_place = position_some (is_held_row n) inside.held.items c.held_place-at.result h_at in
    let v_is : volumes' ≡ set inside.volumes.items (position_or_len (is_row id) inside.volumes.items) c.swap_lists.new.volume = ap (λ k. set inside.volumes.items k c.swap_lists.new.volume) (sym v_place.0) in
    let h_is : held' ≡ set inside.held.items (position_or_len (is_held_row n) inside.held.items) c.swap_lists.new.row = ap (λ k. set inside.held.items k c.swap_lists.new.row) (sym h_place.0) in
    let whole : HasEveryIndex (seen_shelf inside.geometry inside.entries inside.volumes.items inside.held.items) n = subst (λ (w : ShelfView). HasEveryIndex w.shelf n) (sym c.self.view_is) c.requires.whole in
    c.drop_image.ensures.kept w k (swapped_own inside.geometry inside.entries inside.volumes.items volumes' inside.held.items held' inside.total inside.promised inside.volumes.cap inside.held.cap id n v c.swap_lists.new.volume h c.swap_lists.new.row v_found h_found v_is h_is c.swap_lists.ensures.volume c.swap_lists.ensures.row whole c.self.invariant w k ne (ap (λ (s : ShelfView). is_own s w k) c.self.view_is ∙ own))

pub returns-clause-others : goal.returns-clause-others
returns-clause-others c = λ given others good.
    good_kept_but c.args.self.now c.drop_image.new.self c.args.id.0 given (returns-clause-kept c)
    (sym (ap (λ (v : ShelfView). v.rooms) c.self.view_is) ∙ sym c.drop_image.ensures.rooms) others good
