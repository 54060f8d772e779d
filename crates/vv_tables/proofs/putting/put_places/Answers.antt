use Rattle.std.proofs.Common.{ℕ, ◌≡◌, ◌+◌, ◌<◌, ◌≤◌, [], ◌∷◌, List, length, get_or, drop, sym, ap, subst, ◌∙◌, arith}
use Rattle.std.proofs.lemmas.List.{drop_more, drop_all, length-map}
use Rattle.vv_units.specs.declared.numbers.Place.{Place}
use Rattle.vv_flat.specs.Lists.{numbers_from, put_at}
use Rattle.vv_flat.specs.Chunks.{placed_entries}
use Rattle.vv_vols.specs.Shelf.{ShelfState}
use Rattle.vv_vols.specs.Calls.{with_chunks}
use Rattle.vv_vols.specs.Places.{shelf_free}
use Rattle.vv_vols.specs.Rooms.{for_change}
use Rattle.vv_vols.proofs.GoodRooms.{good_first, write_room}
use Rattle.vv_tables.specs.Putting.{place_numbers, MayPut}
use Rattle.vv_tables.proofs.PutRanges.{put_from, put_one, put_none, put_first, first_inside, some_free, first_stamp, may_next}
use Rattle.vv_tables.proofs.putting.put_places.Goals as goal

-- the place ahead of the others
split : (places : List Place) (i : ℕ) → i < length places → place_numbers (drop i places) ≡ (get_or places i (record { 0 = 0 })).0 ∷ place_numbers (drop (i + 1) places)
split places i lt = ap place_numbers (drop_more places i (record { 0 = 0 }) lt)

ahead : (s : ShelfState) (n index stamp : ℕ) (places : List Place) (i : ℕ) → i < length places → MayPut s n index stamp (place_numbers (drop i places))
    → MayPut s n index stamp ((get_or places i (record { 0 = 0 })).0 ∷ place_numbers (drop (i + 1) places))
ahead s n index stamp places i lt may = subst (λ ps. MayPut s n index stamp ps) (split places i lt) may

pub put_place-requires-clause-within : goal.put_place-requires-clause-within
put_place-requires-clause-within g c =
    let at = c.loop-place in
    first_inside at.shelf.shelf c.args.volume.0 at.index c.args.stamp (get_or c.args.places.now at.place-index (record { 0 = 0 })).0 (place_numbers (drop (at.place-index + 1) c.args.places.now))
    (ahead at.shelf.shelf c.args.volume.0 at.index c.args.stamp c.args.places.now at.place-index c.loop-place-test.true at.invariant.may)

pub put_place-requires-clause-some : goal.put_place-requires-clause-some
put_place-requires-clause-some g c =
    let at = c.loop-place in
    some_free at.shelf.shelf c.args.volume.0 at.index c.args.stamp (get_or c.args.places.now at.place-index (record { 0 = 0 })).0 (place_numbers (drop (at.place-index + 1) c.args.places.now))
    (ahead at.shelf.shelf c.args.volume.0 at.index c.args.stamp c.args.places.now at.place-index c.loop-place-test.true at.invariant.may)

pub put_place-requires-clause-stamp : goal.put_place-requires-clause-stamp
put_place-requires-clause-stamp g c =
    let at = c.loop-place in
    first_stamp at.shelf.shelf c.args.volume.0 at.index c.args.stamp (get_or c.args.places.now at.place-index (record { 0 = 0 })).0 (place_numbers (drop (at.place-index + 1) c.args.places.now))
    (ahead at.shelf.shelf c.args.volume.0 at.index c.args.stamp c.args.places.now at.place-index c.loop-place-test.true at.invariant.may)

pub put_place-requires-clause-room : goal.put_place-requires-clause-room
put_place-requires-clause-room g c =
    let at = c.loop-place in
    let is : at.index ≡ c.args.first + at.place-index = at.invariant.index in
    let lt : at.place-index < length c.args.places.now = c.loop-place-test.true in
    write_room at.shelf c.args.volume.0 at.index c.args.first (length c.args.places.now) at.room (omega (arith, is)) (omega (arith, is, lt))
    (good_first at.shelf (for_change c.args.volume.0 c.args.first (length c.args.places.now) at.room) [] at.invariant.room)

pub overflow_add-index : goal.overflow_add-index
overflow_add-index g c =
    let at = c.loop-place in
    let is : at.index ≡ c.args.first + at.place-index = at.invariant.index in
    let lt : at.place-index < length c.args.places.now = c.loop-place-test.true in
    let few = c.requires.few in
    omega (arith, is, lt, few)

pub loop-place-preserved : goal.loop-place-preserved
loop-place-preserved g c =
    let at = c.loop-place in
    let n = c.args.volume.0 in
    let stamp = c.args.stamp in
    let places = c.args.places.now in
    let p = (get_or places at.place-index (record { 0 = 0 })).0 in
    let rest = place_numbers (drop (at.place-index + 1) places) in
    let lt : at.place-index < length places = c.loop-place-test.true in
    let is : at.index ≡ c.args.first + at.place-index = at.invariant.index in
    let ens = c.put_place.ensures in
    let put : c.put_place.new.shelf.shelf ≡ put_one at.shelf.shelf n at.index stamp p = ens.shelf in
    let may = ahead at.shelf.shelf n at.index stamp places at.place-index lt at.invariant.may in
    record {
      index = omega (arith, is);
      may = subst (λ (s : ShelfState). MayPut s n (at.index + 1) stamp rest) (sym put)
          (may_next at.shelf.shelf n at.index stamp p rest may (subst (λ (s : ShelfState). shelf_free at.shelf.shelf ≤ shelf_free s + 1) put ens.enough));
      leads = ap (λ (s : ShelfState). put_from s n (at.index + 1) stamp rest) put
          ∙ put_first at.shelf.shelf n at.index stamp p rest
          ∙ ap (λ ps. put_from at.shelf.shelf n at.index stamp ps) (sym (split places at.place-index lt))
          ∙ at.invariant.leads;
      room = ens.good c.args.first (length places) (omega (arith, is)) (omega (arith, is, lt)) at.invariant.room;
      rooms = ens.rooms ∙ at.invariant.rooms;
      kept = λ m k own. ens.kept m k (at.invariant.kept m k own);
      taken = ens.taken ∙ at.invariant.taken;
      steps = let more = ens.steps in let was = at.invariant.steps in omega (arith, more, was);
    }

pub returns-clause-shelf : goal.returns-clause-shelf
returns-clause-shelf g c =
    let at = c.loop-place in
    let places = c.args.places.now in
    let none : place_numbers (drop at.place-index places) ≡ [] = ap place_numbers (drop_all at.place-index places c.loop-place-test.false) in
    sym (put_none at.shelf.shelf c.args.volume.0 at.index c.args.stamp)
    ∙ ap (λ ps. put_from at.shelf.shelf c.args.volume.0 at.index c.args.stamp ps) (sym none)
    ∙ at.invariant.leads
    ∙ ap (λ k. with_chunks c.args.shelf.now.shelf c.args.volume.0 (put_at (numbers_from c.args.first k) (placed_entries (place_numbers places) c.args.stamp))) (length-map places (λ (p : Place). p.0))
