use Rattle.std.proofs.Common.{◌≡◌, ◌+◌, ◌-◌, List, map, length, sym, subst, ap, ◌∙◌, arith}
use Rattle.std.specs.Prelude.{IsSome}
use Rattle.std.specs.List.{find, position}
use Rattle.vv_map.specs.Pages.{list_of}
use Rattle.vv_vols.specs.declared.row.VolumeRow.{VolumeRow}
use Rattle.vv_vols.specs.Shelf.{volume_in}
use Rattle.vv_vols.specs.Calls.{with_deleted}
use Rattle.vv_vols.specs.Rows.{ShelfView, is_own, own_in, is_row, seen_pages, seen_shelf, IsShelf}
use Rattle.vv_vols.proofs.SeenShelf.{row_found}
use Rattle.vv_vols.proofs.SeenPlaces.{fresh_kept}
use Rattle.vv_vols.proofs.Kept.{deleted_shares}
use Rattle.vv_vols.proofs.OwnKept.{list_len}
use Rattle.vv_vols.proofs.FreshPut.{row_few}
use Rattle.vv_vols.proofs.WrittenRow.{here_of}
use Rattle.vv_vols.proofs.RemovedRow.{removed_seen, removed_kept, removed_own_kept}
use Rattle.vv_vols.proofs.GoodRooms.{good_kept_but}
use Rattle.vv_vols.proofs.shelf.Shelf.delete.Goals as goal

pub place_of-at-requires : goal.place_of-at-requires
place_of-at-requires c =
    subst (λ (rows : List VolumeRow). IsSome (find (is_row c.args.id.0) rows)) (sym c.deref.ensures.value)
    (row_found c.self.inside.entries.store c.args.id.0 c.self.inside.volumes.items
    (subst (λ (s : ShelfView). IsSome (volume_in s.shelf c.args.id.0)) (sym c.self.view_is) c.requires))

pub overflow_sub-self : goal.overflow_sub-self
overflow_sub-self c =
    let inside = c.self.inside in
    let row = c.take_row-map.result in
    let at = ap (position (is_row c.args.id.0)) (sym c.deref.ensures.value) ∙ c.place_of-at.ensures in
    let size = list_len inside.entries.store row.map (here_of inside.geometry inside.entries inside.volumes.items inside.held.items inside.total inside.promised inside.volumes.cap inside.held.cap c.place_of-at.result c.args.id.0 row at c.take_row-map.ensures.value c.self.invariant) in
    let most = row_few inside.geometry inside.entries inside.volumes.items inside.held.items inside.total inside.promised inside.volumes.cap inside.held.cap c.place_of-at.result c.args.id.0 row at c.take_row-map.ensures.value c.self.invariant in
    let len = c.len.ensures in
    omega arith

pub release-requires : goal.release-requires
release-requires c =
    let inside = c.self.inside in
    let row = c.take_row-map.result in
    let at = ap (position (is_row c.args.id.0)) (sym c.deref.ensures.value) ∙ c.place_of-at.ensures in
    here_of inside.geometry inside.entries inside.volumes.items inside.held.items inside.total inside.promised inside.volumes.cap inside.held.cap c.place_of-at.result c.args.id.0 row at c.take_row-map.ensures.value c.self.invariant

pub invariant_of-self : goal.invariant_of-self
invariant_of-self c =
    let inside = c.self.inside in
    let row = c.take_row-map.result in
    let at = ap (position (is_row c.args.id.0)) (sym c.deref.ensures.value) ∙ c.place_of-at.ensures in
    let size = list_len inside.entries.store row.map (here_of inside.geometry inside.entries inside.volumes.items inside.held.items inside.total inside.promised inside.volumes.cap inside.held.cap c.place_of-at.result c.args.id.0 row at c.take_row-map.ensures.value c.self.invariant) in
    let most = row_few inside.geometry inside.entries inside.volumes.items inside.held.items inside.total inside.promised inside.volumes.cap inside.held.cap c.place_of-at.result c.args.id.0 row at c.take_row-map.ensures.value c.self.invariant in
    let len = c.len.ensures in
    let less : (inside.total - c.len.result) + length (list_of inside.entries.store row.map) ≡ inside.total = omega arith in
    let pool = c.release.ensures.pool in
    let fresh_is = fresh_kept inside.entries.pool c.release.new.self.pool pool in
    subst (λ k. IsShelf inside.geometry c.release.new.self c.take_row-map.new.rows.items inside.held.items (inside.total - c.len.result) inside.promised k inside.held.cap) (sym c.take_row-map.ensures.capacity)
    (subst (λ (vs : List VolumeRow). IsShelf inside.geometry c.release.new.self vs inside.held.items (inside.total - c.len.result) inside.promised inside.volumes.cap inside.held.cap) (sym c.take_row-map.ensures.items)
    (removed_kept inside.geometry inside.entries c.release.new.self inside.volumes.items inside.held.items inside.total (inside.total - c.len.result) inside.promised inside.volumes.cap inside.held.cap c.place_of-at.result c.args.id.0 row at c.take_row-map.ensures.value c.release.ensures.others pool.size pool.reserved fresh_is less c.self.invariant (deleted_shares (seen_shelf inside.geometry inside.entries inside.volumes.items inside.held.items) c.self.invariant.lists.shares c.args.id.0)))

pub returns-clause-shelf : goal.returns-clause-shelf
returns-clause-shelf c =
    let inside = c.self.inside in
    let row = c.take_row-map.result in
    let at = ap (position (is_row c.args.id.0)) (sym c.deref.ensures.value) ∙ c.place_of-at.ensures in
    let size = list_len inside.entries.store row.map (here_of inside.geometry inside.entries inside.volumes.items inside.held.items inside.total inside.promised inside.volumes.cap inside.held.cap c.place_of-at.result c.args.id.0 row at c.take_row-map.ensures.value c.self.invariant) in
    let most = row_few inside.geometry inside.entries inside.volumes.items inside.held.items inside.total inside.promised inside.volumes.cap inside.held.cap c.place_of-at.result c.args.id.0 row at c.take_row-map.ensures.value c.self.invariant in
    let len = c.len.ensures in
    let less : (inside.total - c.len.result) + length (list_of inside.entries.store row.map) ≡ inside.total = omega arith in
    let pool = c.release.ensures.pool in
    let fresh_is = fresh_kept inside.entries.pool c.release.new.self.pool pool in
    ap (λ (vs : List VolumeRow). seen_shelf inside.geometry c.release.new.self vs inside.held.items) c.take_row-map.ensures.items
    ∙ removed_seen inside.geometry inside.entries c.release.new.self inside.volumes.items inside.held.items inside.total (inside.total - c.len.result) inside.promised inside.volumes.cap inside.held.cap c.place_of-at.result c.args.id.0 row at c.take_row-map.ensures.value c.release.ensures.others pool.size pool.reserved fresh_is less c.self.invariant
    ∙ ap (λ (v : ShelfView). with_deleted v.shelf c.args.id.0) c.self.view_is

pub returns-clause-kept : goal.returns-clause-kept
returns-clause-kept c =
    let inside = c.self.inside in
    let row = c.take_row-map.result in
    let at = ap (position (is_row c.args.id.0)) (sym c.deref.ensures.value) ∙ c.place_of-at.ensures in
    let size = list_len inside.entries.store row.map (here_of inside.geometry inside.entries inside.volumes.items inside.held.items inside.total inside.promised inside.volumes.cap inside.held.cap c.place_of-at.result c.args.id.0 row at c.take_row-map.ensures.value c.self.invariant) in
    let most = row_few inside.geometry inside.entries inside.volumes.items inside.held.items inside.total inside.promised inside.volumes.cap inside.held.cap c.place_of-at.result c.args.id.0 row at c.take_row-map.ensures.value c.self.invariant in
    let len = c.len.ensures in
    let less : (inside.total - c.len.result) + length (list_of inside.entries.store row.map) ≡ inside.total = omega arith in
    let pool = c.release.ensures.pool in
    let fresh_is = fresh_kept inside.entries.pool c.release.new.self.pool pool in
    λ n k ne own.
    ap (λ (vs : List VolumeRow). own_in (map (seen_pages c.release.new.self.store) vs) n k) c.take_row-map.ensures.items
    ∙ removed_own_kept inside.geometry inside.entries c.release.new.self inside.volumes.items inside.held.items inside.total (inside.total - c.len.result) inside.promised inside.volumes.cap inside.held.cap c.place_of-at.result c.args.id.0 row at c.take_row-map.ensures.value c.release.ensures.others pool.size pool.reserved fresh_is less c.self.invariant n k ne (ap (λ (v : ShelfView). is_own v n k) c.self.view_is ∙ own)

pub returns-clause-others : goal.returns-clause-others
returns-clause-others c = λ given others good.
    good_kept_but c.args.self.now _ c.args.id.0 given (returns-clause-kept c) (sym (ap (λ (v : ShelfView). v.rooms) c.self.view_is)) others good
