use Rattle.std.proofs.Common.{◌≡◌, ◌≤◌, ◌+◌, ◌-◌, false, List, replicate, sym, subst, ap, ◌∙◌, arith}
use Rattle.vv_flat.specs.State.{indexed}
use Rattle.vv_flat.specs.Chunks.{unmapped_entry}
use Rattle.vv_vols.specs.declared.row.HeldRow.{HeldRow}
use Rattle.vv_vols.specs.Shelf.{HeldName, held_in, shelf_entries, first_gap, next_held}
use Rattle.vv_vols.specs.Calls.{with_held, new_held}
use Rattle.vv_vols.specs.Rows.{ShelfView, is_own, seen_shelf, IsShelf}
use Rattle.vv_vols.proofs.Numbers.{pages_left}
use Rattle.vv_vols.proofs.HeldTarget.{held_unused, held_numbers_seen, target_seen, target_kept, target_own}
use Rattle.vv_vols.proofs.GoodRooms.{good_spent}
use Rattle.vv_vols.proofs.shelf.Shelf.hold_target.Goals as goal

pub make-map-requires-clause-unused : goal.make-map-requires-clause-unused
make-map-requires-clause-unused c =
    let inside = c.self.inside in
    let few = subst (λ (v : ShelfView). shelf_entries v.shelf + c.args.chunks ≤ v.shelf.geometry.map_chunks) (sym c.self.view_is) c.requires.few in
    let sum = c.self.invariant.lists.summed in
    let left = pages_left inside.geometry inside.entries inside.volumes.items inside.held.items inside.total inside.promised inside.volumes.cap inside.held.cap c.self.invariant in
    omega arith

pub invariant_of-self : goal.invariant_of-self
invariant_of-self c =
    let inside = c.self.inside in
    let few = subst (λ (v : ShelfView). shelf_entries v.shelf + c.args.chunks ≤ v.shelf.geometry.map_chunks) (sym c.self.view_is) c.requires.few in
    let sum = c.self.invariant.lists.summed in
    let fits : inside.total + c.args.chunks ≤ inside.geometry.map_chunks = omega arith in
    let some : 1 ≤ inside.promised = subst (λ (v : ShelfView). 1 ≤ v.rooms) (sym c.self.view_is) c.requires.rows in
    let ens = c.make-map.ensures in
    subst (λ (hs : List HeldRow). IsShelf inside.geometry c.make-map.new.self inside.volumes.items hs (inside.total + c.args.chunks) (inside.promised - 1) inside.volumes.cap c.add_held-number.new.rows.cap) (sym c.add_held-number.ensures.items)
    (target_kept inside.geometry inside.entries c.make-map.new.self inside.volumes.items inside.held.items inside.total inside.promised inside.volumes.cap inside.held.cap c.add_held-number.new.rows.cap c.add_held-number.result c.args.chunks c.make-map.result
    c.add_held-number.ensures.number ens.of ens.others ens.taken ens.pool ens.list ens.len fits some c.add_held-number.ensures.capacity c.self.invariant)

pub returns-clause-held : goal.returns-clause-held
returns-clause-held c =
    let inside = c.self.inside in
    let number : c.add_held-number.result ≡ next_held c.args.self.now.shelf = c.add_held-number.ensures.number ∙ ap (first_gap 0) (sym (held_numbers_seen inside.entries.store inside.held.items)) ∙ ap (λ (v : ShelfView). next_held v.shelf) c.self.view_is in
    c.new.ensures ∙ ap (λ k. let h : HeldName = record { number = k; len = c.args.chunks } in h) number

pub returns-clause-unused : goal.returns-clause-unused
returns-clause-unused c =
    let inside = c.self.inside in
    ap (λ (h : HeldName). held_in c.args.self.now.shelf h.number) c.new.ensures
    ∙ ap (λ (v : ShelfView). held_in v.shelf c.add_held-number.result) (sym c.self.view_is)
    ∙ held_unused inside.entries.store c.add_held-number.result inside.held.items c.add_held-number.ensures.number c.self.invariant.held_rising

pub returns-clause-shelf : goal.returns-clause-shelf
returns-clause-shelf c =
    let inside = c.self.inside in
    let few = subst (λ (v : ShelfView). shelf_entries v.shelf + c.args.chunks ≤ v.shelf.geometry.map_chunks) (sym c.self.view_is) c.requires.few in
    let sum = c.self.invariant.lists.summed in
    let fits : inside.total + c.args.chunks ≤ inside.geometry.map_chunks = omega arith in
    let some : 1 ≤ inside.promised = subst (λ (v : ShelfView). 1 ≤ v.rooms) (sym c.self.view_is) c.requires.rows in
    let ens = c.make-map.ensures in
    ap (λ (hs : List HeldRow). seen_shelf inside.geometry c.make-map.new.self inside.volumes.items hs) c.add_held-number.ensures.items
    ∙ target_seen inside.geometry inside.entries c.make-map.new.self inside.volumes.items inside.held.items inside.total inside.promised inside.volumes.cap inside.held.cap c.add_held-number.new.rows.cap c.add_held-number.result c.args.chunks c.make-map.result
    c.add_held-number.ensures.number ens.of ens.others ens.taken ens.pool ens.list ens.len fits some c.add_held-number.ensures.capacity c.self.invariant
    ∙ ap (λ (v : ShelfView). with_held v.shelf (new_held v.shelf (indexed (replicate c.args.chunks unmapped_entry)) false 0)) c.self.view_is

pub returns-clause-kept : goal.returns-clause-kept
returns-clause-kept c = λ n k own.
    let inside = c.self.inside in
    let few = subst (λ (v : ShelfView). shelf_entries v.shelf + c.args.chunks ≤ v.shelf.geometry.map_chunks) (sym c.self.view_is) c.requires.few in
    let sum = c.self.invariant.lists.summed in
    let fits : inside.total + c.args.chunks ≤ inside.geometry.map_chunks = omega arith in
    let some : 1 ≤ inside.promised = subst (λ (v : ShelfView). 1 ≤ v.rooms) (sym c.self.view_is) c.requires.rows in
    let ens = c.make-map.ensures in
    target_own inside.geometry inside.entries c.make-map.new.self inside.volumes.items inside.held.items inside.total inside.promised inside.volumes.cap inside.held.cap c.add_held-number.new.rows.cap c.add_held-number.result c.args.chunks c.make-map.result
    c.add_held-number.ensures.number ens.of ens.others ens.taken ens.pool ens.list ens.len fits some c.add_held-number.ensures.capacity c.self.invariant n k (ap (λ (v : ShelfView). is_own v n k) c.self.view_is ∙ own)

pub returns-clause-others : goal.returns-clause-others
returns-clause-others c = λ given good.
    let rooms = ap (λ (v : ShelfView). v.rooms) c.self.view_is in
    let some = c.requires.rows in
    good_spent c.args.self.now _ c.args.chunks c.args.room given (returns-clause-kept c) (omega arith) good
