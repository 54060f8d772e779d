use Rattle.std.proofs.Common.{◌≡◌, ◌+◌, ◌-◌, sym, subst, ap, ◌∙◌, arith}
use Rattle.std.specs.Prelude.{IsSome}
use Rattle.vv_vols.specs.Shelf.{held_in}
use Rattle.vv_vols.specs.Calls.{without_held}
use Rattle.vv_vols.specs.Rows.{ShelfView, is_own, is_held_row, IsShelf}
use Rattle.vv_vols.proofs.SeenPlaces.{fresh_kept}
use Rattle.vv_vols.proofs.FoundSplit.{found_there}
use Rattle.vv_vols.proofs.HeldRead.{held_row_found, held_of, held_few}
use Rattle.vv_vols.proofs.RemovedHeld.{removed_held_seen, removed_held_kept, removed_held_own}
use Rattle.vv_vols.proofs.GoodRooms.{good_kept}
use Rattle.vv_vols.proofs.shelf.Shelf.drop_image.Goals as goal

pub take_held-map-requires : goal.take_held-map-requires
take_held-map-requires c = held_row_found c.self.inside.entries.store c.args.held.number c.self.inside.held.items (subst (λ (v : ShelfView). IsSome (held_in v.shelf c.args.held.number)) (sym c.self.view_is) c.requires)

pub overflow_sub-self : goal.overflow_sub-self
overflow_sub-self c =
    let inside = c.self.inside in
    let some = held_row_found inside.entries.store c.args.held.number inside.held.items (subst (λ (v : ShelfView). IsSome (held_in v.shelf c.args.held.number)) (sym c.self.view_is) c.requires) in
    let found = found_there (is_held_row c.args.held.number) inside.held.items c.take_held-map.result some c.take_held-map.ensures.value in
    let few = held_few inside.geometry inside.entries inside.volumes.items inside.held.items inside.total inside.promised inside.volumes.cap inside.held.cap c.args.held.number c.take_held-map.result found c.self.invariant in
    let len = c.len.ensures in
    omega arith

pub release-requires : goal.release-requires
release-requires c =
    let inside = c.self.inside in
    let some = held_row_found inside.entries.store c.args.held.number inside.held.items (subst (λ (v : ShelfView). IsSome (held_in v.shelf c.args.held.number)) (sym c.self.view_is) c.requires) in
    let found = found_there (is_held_row c.args.held.number) inside.held.items c.take_held-map.result some c.take_held-map.ensures.value in
    held_of inside.geometry inside.entries inside.volumes.items inside.held.items inside.total inside.promised inside.volumes.cap inside.held.cap c.args.held.number c.take_held-map.result found c.self.invariant

pub invariant_of-self : goal.invariant_of-self
invariant_of-self c =
    let inside = c.self.inside in
    let some = held_row_found inside.entries.store c.args.held.number inside.held.items (subst (λ (v : ShelfView). IsSome (held_in v.shelf c.args.held.number)) (sym c.self.view_is) c.requires) in
    let found = found_there (is_held_row c.args.held.number) inside.held.items c.take_held-map.result some c.take_held-map.ensures.value in
    let few = held_few inside.geometry inside.entries inside.volumes.items inside.held.items inside.total inside.promised inside.volumes.cap inside.held.cap c.args.held.number c.take_held-map.result found c.self.invariant in
    let len = c.len.ensures in
    let less : (inside.total - c.len.result) + c.take_held-map.result.map.len ≡ inside.total = omega arith in
    let pool = c.release.ensures.pool in
    subst (λ k. IsShelf inside.geometry c.release.new.self inside.volumes.items c.take_held-map.new.rows.items (inside.total - c.len.result) inside.promised inside.volumes.cap k) (sym c.take_held-map.ensures.capacity)
    (removed_held_kept inside.geometry inside.entries c.release.new.self inside.volumes.items inside.held.items c.take_held-map.new.rows.items inside.total (inside.total - c.len.result) inside.promised inside.volumes.cap inside.held.cap c.args.held.number c.take_held-map.result
    found c.take_held-map.ensures.items c.release.ensures.others pool.size pool.reserved (fresh_kept inside.entries.pool c.release.new.self.pool pool) less c.self.invariant)

pub returns-clause-shelf : goal.returns-clause-shelf
returns-clause-shelf c =
    let inside = c.self.inside in
    let some = held_row_found inside.entries.store c.args.held.number inside.held.items (subst (λ (v : ShelfView). IsSome (held_in v.shelf c.args.held.number)) (sym c.self.view_is) c.requires) in
    let found = found_there (is_held_row c.args.held.number) inside.held.items c.take_held-map.result some c.take_held-map.ensures.value in
    let few = held_few inside.geometry inside.entries inside.volumes.items inside.held.items inside.total inside.promised inside.volumes.cap inside.held.cap c.args.held.number c.take_held-map.result found c.self.invariant in
    let len = c.len.ensures in
    let less : (inside.total - c.len.result) + c.take_held-map.result.map.len ≡ inside.total = omega arith in
    let pool = c.release.ensures.pool in
    removed_held_seen inside.geometry inside.entries c.release.new.self inside.volumes.items inside.held.items c.take_held-map.new.rows.items inside.total (inside.total - c.len.result) inside.promised inside.volumes.cap inside.held.cap c.args.held.number c.take_held-map.result
    found c.take_held-map.ensures.items c.release.ensures.others pool.size pool.reserved (fresh_kept inside.entries.pool c.release.new.self.pool pool) less c.self.invariant
    ∙ ap (λ (v : ShelfView). without_held v.shelf c.args.held.number) c.self.view_is

pub returns-clause-kept : goal.returns-clause-kept
returns-clause-kept c = λ n k own.
    let inside = c.self.inside in
    let some = held_row_found inside.entries.store c.args.held.number inside.held.items (subst (λ (v : ShelfView). IsSome (held_in v.shelf c.args.held.number)) (sym c.self.view_is) c.requires) in
    let found = found_there (is_held_row c.args.held.number) inside.held.items c.take_held-map.result some c.take_held-map.ensures.value in
    let few = held_few inside.geometry inside.entries inside.volumes.items inside.held.items inside.total inside.promised inside.volumes.cap inside.held.cap c.args.held.number c.take_held-map.result found c.self.invariant in
    let len = c.len.ensures in
    let less : (inside.total - c.len.result) + c.take_held-map.result.map.len ≡ inside.total = omega arith in
    let pool = c.release.ensures.pool in
    removed_held_own inside.geometry inside.entries c.release.new.self inside.volumes.items inside.held.items c.take_held-map.new.rows.items inside.total (inside.total - c.len.result) inside.promised inside.volumes.cap inside.held.cap c.args.held.number c.take_held-map.result
    found c.take_held-map.ensures.items c.release.ensures.others pool.size pool.reserved (fresh_kept inside.entries.pool c.release.new.self.pool pool) less c.self.invariant n k (ap (λ (v : ShelfView). is_own v n k) c.self.view_is ∙ own)

pub returns-clause-others : goal.returns-clause-others
returns-clause-others c = λ given good.
    good_kept c.args.self.now _ given (returns-clause-kept c) (sym (ap (λ (v : ShelfView). v.rooms) c.self.view_is)) good
