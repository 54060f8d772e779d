use Rattle.std.proofs.Common.{◌≡◌, ◌≤◌, ◌+◌, ◌-◌, List, map, replicate, None, sym, subst, ap, ◌∙◌, arith}
use Rattle.std.specs.List.{Contains}
use Rattle.vv_map.specs.Pages.{list_of}
use Rattle.vv_entries.specs.Entries.{unmapped}
use Rattle.vv_flat.specs.Chunks.{Entry, unmapped_entry}
use Rattle.vv_flat.proofs.MapLists.{map-replicate}
use Rattle.vv_vols.specs.declared.row.VolumeRow.{VolumeRow}
use Rattle.vv_vols.specs.Shelf.{volume_in, shelf_entries}
use Rattle.vv_vols.specs.Calls.{with_made}
use Rattle.vv_vols.specs.Rows.{ShelfView, is_own, own_in, volume_with, seen_entry, seen_entries, seen_volume, seen_pages, seen_shelf, allocated_in, IsShelf}
use Rattle.vv_vols.proofs.Kept.{made_shares}
use Rattle.vv_vols.proofs.Numbers.{pages_left, none_allocated}
use Rattle.vv_vols.proofs.ReadRow.{row_none}
use Rattle.vv_vols.proofs.EmptyShelf.{in_replicate}
use Rattle.vv_vols.proofs.GoodRooms.{good_spent}
use Rattle.vv_vols.proofs.AddedRow.{added_seen, added_kept, made_filled, made_own_kept}
use Rattle.vv_vols.proofs.shelf.Shelf.make.Goals as goal

pub make-map-requires-clause-unused : goal.make-map-requires-clause-unused
make-map-requires-clause-unused c =
    let inside = c.self.inside in
    let few = subst (λ (v : ShelfView). shelf_entries v.shelf + c.args.chunks ≤ v.shelf.geometry.map_chunks) (sym c.self.view_is) c.requires.few in
    let sum = c.self.invariant.lists.summed in
    let left = pages_left inside.geometry inside.entries inside.volumes.items inside.held.items inside.total inside.promised inside.volumes.cap inside.held.cap c.self.invariant in
    omega arith

pub invariant_of-self : goal.invariant_of-self
invariant_of-self c =
    let inside = c.self.inside in
    let few = subst (λ (v : ShelfView). shelf_entries v.shelf + c.args.chunks ≤ v.shelf.geometry.map_chunks) (sym c.self.view_is) c.requires.few in
    let sum = c.self.invariant.lists.summed in
    let row : VolumeRow = record { id = c.args.id; head = c.args.head; map = c.make-map.result; allocated = 0 } in
    let ens = c.make-map.ensures in
    let unused = row_none inside.entries.store c.args.id.0 inside.volumes.items (subst (λ (v : ShelfView). volume_in v.shelf c.args.id.0 ≡ None) (sym c.self.view_is) c.requires.unused) in
    let fits : inside.total + c.args.chunks ≤ inside.geometry.map_chunks = omega arith in
    let some : 1 ≤ inside.promised = subst (λ (v : ShelfView). 1 ≤ v.rooms) (sym c.self.view_is) c.requires.rows in
    let allocated : 0 ≡ allocated_in (list_of c.make-map.new.self.store c.make-map.result) = sym (ap allocated_in ens.list ∙ none_allocated c.args.chunks) in
    let chunks : seen_entries (list_of c.make-map.new.self.store c.make-map.result) ≡ replicate c.args.chunks unmapped_entry = ap seen_entries ens.list ∙ map-replicate seen_entry c.args.chunks unmapped in
    subst (λ (vs : List VolumeRow). IsShelf inside.geometry c.make-map.new.self vs inside.held.items (inside.total + c.args.chunks) (inside.promised - 1) c.put_row.new.rows.cap inside.held.cap) (sym c.put_row.ensures.items)
    (added_kept inside.geometry inside.entries c.make-map.new.self inside.volumes.items inside.held.items inside.total c.args.chunks inside.promised inside.volumes.cap inside.held.cap c.put_row.new.rows.cap row unused ens.len ens.of ens.others ens.pool allocated fits some c.put_row.ensures.capacity c.self.invariant (made_filled inside.geometry inside.entries c.make-map.new.self inside.volumes.items inside.held.items inside.total c.args.chunks inside.promised inside.volumes.cap inside.held.cap c.put_row.new.rows.cap row unused ens.len ens.of ens.others ens.pool allocated fits some c.put_row.ensures.capacity c.self.invariant ens.taken)
    (made_shares (seen_shelf inside.geometry inside.entries inside.volumes.items inside.held.items) c.self.invariant.lists.shares (seen_volume c.make-map.new.self.store row)
    (λ e at. in_replicate c.args.chunks unmapped_entry e (subst (λ (es : List Entry). Contains es e) chunks at))))

pub returns-clause-shelf : goal.returns-clause-shelf
returns-clause-shelf c =
    let inside = c.self.inside in
    let few = subst (λ (v : ShelfView). shelf_entries v.shelf + c.args.chunks ≤ v.shelf.geometry.map_chunks) (sym c.self.view_is) c.requires.few in
    let sum = c.self.invariant.lists.summed in
    let row : VolumeRow = record { id = c.args.id; head = c.args.head; map = c.make-map.result; allocated = 0 } in
    let ens = c.make-map.ensures in
    let unused = row_none inside.entries.store c.args.id.0 inside.volumes.items (subst (λ (v : ShelfView). volume_in v.shelf c.args.id.0 ≡ None) (sym c.self.view_is) c.requires.unused) in
    let fits : inside.total + c.args.chunks ≤ inside.geometry.map_chunks = omega arith in
    let some : 1 ≤ inside.promised = subst (λ (v : ShelfView). 1 ≤ v.rooms) (sym c.self.view_is) c.requires.rows in
    let allocated : 0 ≡ allocated_in (list_of c.make-map.new.self.store c.make-map.result) = sym (ap allocated_in ens.list ∙ none_allocated c.args.chunks) in
    let chunks : seen_entries (list_of c.make-map.new.self.store c.make-map.result) ≡ replicate c.args.chunks unmapped_entry = ap seen_entries ens.list ∙ map-replicate seen_entry c.args.chunks unmapped in
    ap (λ (vs : List VolumeRow). seen_shelf inside.geometry c.make-map.new.self vs inside.held.items) c.put_row.ensures.items
    ∙ added_seen inside.geometry inside.entries c.make-map.new.self inside.volumes.items inside.held.items inside.total c.args.chunks inside.promised inside.volumes.cap inside.held.cap c.put_row.new.rows.cap row unused ens.len ens.of ens.others ens.pool allocated fits some c.put_row.ensures.capacity c.self.invariant
    ∙ ap (λ (es : List Entry). with_made (seen_shelf inside.geometry inside.entries inside.volumes.items inside.held.items) (volume_with c.args.id.0 c.args.head es)) chunks
    ∙ ap (λ (v : ShelfView). with_made v.shelf (volume_with c.args.id.0 c.args.head (replicate c.args.chunks unmapped_entry))) c.self.view_is

pub returns-clause-kept : goal.returns-clause-kept
returns-clause-kept c =
    let inside = c.self.inside in
    let few = subst (λ (v : ShelfView). shelf_entries v.shelf + c.args.chunks ≤ v.shelf.geometry.map_chunks) (sym c.self.view_is) c.requires.few in
    let sum = c.self.invariant.lists.summed in
    let row : VolumeRow = record { id = c.args.id; head = c.args.head; map = c.make-map.result; allocated = 0 } in
    let ens = c.make-map.ensures in
    let unused = row_none inside.entries.store c.args.id.0 inside.volumes.items (subst (λ (v : ShelfView). volume_in v.shelf c.args.id.0 ≡ None) (sym c.self.view_is) c.requires.unused) in
    let fits : inside.total + c.args.chunks ≤ inside.geometry.map_chunks = omega arith in
    let some : 1 ≤ inside.promised = subst (λ (v : ShelfView). 1 ≤ v.rooms) (sym c.self.view_is) c.requires.rows in
    let allocated : 0 ≡ allocated_in (list_of c.make-map.new.self.store c.make-map.result) = sym (ap allocated_in ens.list ∙ none_allocated c.args.chunks) in
    let chunks : seen_entries (list_of c.make-map.new.self.store c.make-map.result) ≡ replicate c.args.chunks unmapped_entry = ap seen_entries ens.list ∙ map-replicate seen_entry c.args.chunks unmapped in
    λ n k own.
    ap (λ (vs : List VolumeRow). own_in (map (seen_pages c.make-map.new.self.store) vs) n k) c.put_row.ensures.items
    ∙ made_own_kept inside.geometry inside.entries c.make-map.new.self inside.volumes.items inside.held.items inside.total c.args.chunks inside.promised inside.volumes.cap inside.held.cap c.put_row.new.rows.cap row unused ens.len ens.of ens.others ens.pool allocated fits some c.put_row.ensures.capacity c.self.invariant ens.taken n k (ap (λ (v : ShelfView). is_own v n k) c.self.view_is ∙ own)

pub returns-clause-others : goal.returns-clause-others
returns-clause-others c = λ given good.
    let rooms = ap (λ (v : ShelfView). v.rooms) c.self.view_is in
    let some = c.requires.rows in
    good_spent c.args.self.now _ c.args.chunks c.args.room given (returns-clause-kept c) (omega arith) good
