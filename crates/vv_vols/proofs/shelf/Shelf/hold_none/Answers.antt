use Rattle.std.proofs.Common.{◌≡◌, ◌≤◌, ◌+◌, ◌-◌, ◌/◌, false, List, [], vec_capacity, sym, subst, ap, ◌∙◌, arith}
use Rattle.std.proofs.lemmas.List.{nil_from_length}
use Rattle.vv_map.specs.Rooms.{MapState}
use Rattle.vv_flat.specs.Lists.{put_before}
use Rattle.vv_vols.specs.declared.row.HeldRow.{HeldRow}
use Rattle.vv_vols.specs.declared.row.HeldIndexes.TheVariants.{Listed}
use Rattle.vv_vols.specs.declared.row.ListedIndexes.{ListedIndexes}
use Rattle.vv_vols.specs.Shelf.{HeldName, held_in, first_gap, next_held}
use Rattle.vv_vols.specs.Calls.{with_held, new_held}
use Rattle.vv_vols.specs.Rows.{is_own, ShelfView, is_held_above, seen_shelf, IsShelf}
use Rattle.vv_vols.proofs.HeldTarget.{held_unused, held_numbers_seen}
use Rattle.vv_vols.proofs.HeldNone.{none_seen, none_kept}
use Rattle.vv_vols.proofs.GoodRooms.{good_spent}
use Rattle.vv_vols.proofs.shelf.Shelf.hold_none.Goals as goal

pub invariant_of-self : goal.invariant_of-self
invariant_of-self c =
    let inside = c.self.inside in
    let n = c.add_held-number.result in
    let l = c.into_list-listed.result in
    let listed : ListedIndexes = record { indexes = l.indexes; room = c.begin-map.new.room } in
    let memory = l.room.numbers in
    let m : MapState = record { numbers = []; len = 0; memory = memory } in
    let row' : MapState → HeldRow = λ k. record { number = n; map = k; indexes = Listed listed; is_image = false; allocated = 0 } in
    let items : c.add_held-number.new.rows.items ≡ put_before (is_held_above n) (row' m) inside.held.items = c.add_held-number.ensures.items ∙ ap (λ k. put_before (is_held_above n) (row' k) inside.held.items) c.begin-map.ensures.empty in
    let none : l.indexes.items ≡ [] = nil_from_length l.indexes.items (omega (arith, c.into_list-listed.ensures.empty, l.indexes.ok.0)) in
    let some : 1 ≤ inside.promised = subst (λ (v : ShelfView). 1 ≤ v.rooms) (sym c.self.view_is) c.requires.rows in
    let cap = c.into_list-listed.ensures.capacity in
    let numbers : (vec_capacity l.indexes + 63) / 64 ≤ memory = (let good = c.requires.room.numbers in let is = c.into_list-listed.ensures.numbers in omega arith) in
    let pages : (vec_capacity l.indexes + 63) / 64 ≤ listed.room.pages = (let good = c.requires.room.pages in let is = c.into_list-listed.ensures.pages in let kept = c.begin-map.ensures.room in omega arith) in
    subst (λ (hs : List HeldRow). IsShelf inside.geometry inside.entries inside.volumes.items hs inside.total (inside.promised - 1) inside.volumes.cap c.add_held-number.new.rows.cap) (sym items)
    (none_kept inside.geometry inside.entries inside.volumes.items inside.held.items inside.total inside.promised inside.volumes.cap inside.held.cap c.add_held-number.new.rows.cap n memory listed c.add_held-number.ensures.number none numbers pages some c.add_held-number.ensures.capacity c.self.invariant)

pub returns-clause-held : goal.returns-clause-held
returns-clause-held c =
    let inside = c.self.inside in
    let number : c.add_held-number.result ≡ next_held c.args.self.now.shelf = c.add_held-number.ensures.number ∙ ap (first_gap 0) (sym (held_numbers_seen inside.entries.store inside.held.items)) ∙ ap (λ (v : ShelfView). next_held v.shelf) c.self.view_is in
    c.new.ensures ∙ ap (λ k. let h : HeldName = record { number = k; len = 0 } in h) number

pub returns-clause-unused : goal.returns-clause-unused
returns-clause-unused c =
    let inside = c.self.inside in
    ap (λ (h : HeldName). held_in c.args.self.now.shelf h.number) c.new.ensures
    ∙ ap (λ (v : ShelfView). held_in v.shelf c.add_held-number.result) (sym c.self.view_is)
    ∙ held_unused inside.entries.store c.add_held-number.result inside.held.items c.add_held-number.ensures.number c.self.invariant.held_rising

pub returns-clause-shelf : goal.returns-clause-shelf
returns-clause-shelf c =
    let inside = c.self.inside in
    let n = c.add_held-number.result in
    let l = c.into_list-listed.result in
    let listed : ListedIndexes = record { indexes = l.indexes; room = c.begin-map.new.room } in
    let memory = l.room.numbers in
    let m : MapState = record { numbers = []; len = 0; memory = memory } in
    let row' : MapState → HeldRow = λ k. record { number = n; map = k; indexes = Listed listed; is_image = false; allocated = 0 } in
    let items : c.add_held-number.new.rows.items ≡ put_before (is_held_above n) (row' m) inside.held.items = c.add_held-number.ensures.items ∙ ap (λ k. put_before (is_held_above n) (row' k) inside.held.items) c.begin-map.ensures.empty in
    let none : l.indexes.items ≡ [] = nil_from_length l.indexes.items (omega (arith, c.into_list-listed.ensures.empty, l.indexes.ok.0)) in
    let some : 1 ≤ inside.promised = subst (λ (v : ShelfView). 1 ≤ v.rooms) (sym c.self.view_is) c.requires.rows in
    let cap = c.into_list-listed.ensures.capacity in
    let numbers : (vec_capacity l.indexes + 63) / 64 ≤ memory = (let good = c.requires.room.numbers in let is = c.into_list-listed.ensures.numbers in omega arith) in
    let pages : (vec_capacity l.indexes + 63) / 64 ≤ listed.room.pages = (let good = c.requires.room.pages in let is = c.into_list-listed.ensures.pages in let kept = c.begin-map.ensures.room in omega arith) in
    ap (λ (hs : List HeldRow). seen_shelf inside.geometry inside.entries inside.volumes.items hs) items
    ∙ none_seen inside.geometry inside.entries inside.volumes.items inside.held.items inside.total inside.promised inside.volumes.cap inside.held.cap c.add_held-number.new.rows.cap n memory listed c.add_held-number.ensures.number none numbers pages some c.add_held-number.ensures.capacity c.self.invariant
    ∙ ap (λ (v : ShelfView). with_held v.shelf (new_held v.shelf [] false (vec_capacity l.indexes))) c.self.view_is
    ∙ ap (λ k. with_held c.args.self.now.shelf (new_held c.args.self.now.shelf [] false k)) cap

pub returns-clause-others : goal.returns-clause-others
returns-clause-others c = λ given good.
    let rooms = ap (λ (v : ShelfView). v.rooms) c.self.view_is in
    let some = c.requires.rows in
    good_spent c.args.self.now _ c.args.room.indexes c.args.room given (λ n k own. ap (λ (v : ShelfView). is_own v n k) c.self.view_is ∙ own) (omega arith) good
