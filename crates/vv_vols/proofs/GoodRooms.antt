-- Rooms that are out at once: what calls may take from the word for them, and that calls keep those that are left.
use Rattle.std.proofs.Common.{ℕ, ◌≡◌, ◌+◌, ◌/◌, ◌<◌, ◌≤◌, Bool, true, false, cond, not, List, [], ◌∷◌, count_by, Option, refl, sym, ap, ◌∙◌, ⊎_elim, arith}
use Rattle.std.specs.List.{All}
use Rattle.std.proofs.lemmas.Bool.{cases_Bool}
use Rattle.std.proofs.lemmas.List.Elements.{All-nil, All-cons, All-head, All-tail, All-weaker}
use Rattle.std.proofs.lemmas.List.Sums.{sum_by-cons}
use Rattle.vv_flat.specs.Lists.{numbers_from}
use Rattle.vv_vols.specs.declared.head.Head.{Head}
use Rattle.vv_vols.specs.Shelf.{ShelfState}
use Rattle.vv_vols.specs.Rows.{ShelfView, RoomView, is_own, KeepsOwn, KeepsOwnBut, IsListRoom, IsChangeRoom, pages_touched, copies_in}
use Rattle.vv_vols.specs.Rooms.{Want, NewList, Change, Given, for_list, for_change, IsGoodFor, is_list, IsOfOthers, AreOfOthers, AreGood}
use Rattle.vv_vols.proofs.RoomsKept.{other_room, room_of_other, one_fewer, touched_some, written_room}

abbrev list_bit : Given → ℕ
list_bit g = cond (is_list g.want) 1 0

-- ---- one room among others
module _ (view : ShelfView) (g : Given) (given : List Given) (good : AreGood view (g ∷ given)) where
  rows_split : count_by (λ (h : Given). is_list h.want) (g ∷ given) ≡ list_bit g + count_by (λ (h : Given). is_list h.want) given
  rows_split = sum_by-cons list_bit g given

  -- the first one is good,
  pub good_first : IsGoodFor view g.want g.room
  good_first = All-head (λ (h : Given). IsGoodFor view h.want h.room) g given good.each

  -- and so are the others
  pub good_rest : AreGood view given
  good_rest = record {
    each = All-tail (λ (h : Given). IsGoodFor view h.want h.room) g given good.each;
    rows = let split = rows_split in let rows = good.rows in omega arith;
  }

  -- there is a row for a new list
  pub good_row : is_list g.want ≡ true → 1 ≤ view.rooms
  good_row is = let split = rows_split in let rows = good.rows in let one : list_bit g ≡ 1 = ap (λ b. cond b 1 0) is in omega arith

pub no_rooms : (view : ShelfView) → AreGood view []
no_rooms view = record { each = All-nil (λ (g : Given). IsGoodFor view g.want g.room); rows = omega arith }

-- a room more for changes
pub good_change : (view : ShelfView) (n first count : ℕ) (room : RoomView) (given : List Given) → IsChangeRoom view n first count room → AreGood view given → AreGood view (for_change n first count room ∷ given)
good_change view n first count room given is good = record {
  each = All-cons (λ (g : Given). IsGoodFor view g.want g.room) (for_change n first count room) given is good.each;
  rows = let split = sum_by-cons list_bit (for_change n first count room) given in let rows = good.rows in omega arith;
}

-- the order doesn't matter
pub good_swapped : (view : ShelfView) (g h : Given) (given : List Given) → AreGood view (g ∷ h ∷ given) → AreGood view (h ∷ g ∷ given)
good_swapped view g h given good =
    let rest = good_rest view g (h ∷ given) good in
    let P = λ (x : Given). IsGoodFor view x.want x.room in
    record {
      each = All-cons P h (g ∷ given) (good_first view h given rest) (All-cons P g given (good_first view g (h ∷ given) good) (good_rest view h given rest).each);
      rows =
          let a = sum_by-cons list_bit h (g ∷ given) in let b = sum_by-cons list_bit g given in
          let c = sum_by-cons list_bit g (h ∷ given) in let d = sum_by-cons list_bit h given in let rows = good.rows in omega arith;
    }

-- the head of a volume in a room takes no memory
pub good_head : (view : ShelfView) (n : ℕ) (room : RoomView) (head : Option Head) (given : List Given) → AreGood view (for_list n room ∷ given) → AreGood view (for_list n (record room { head = head }) ∷ given)
good_head view n room head given good =
    let list = good_first view (for_list n room) given good in
    let P = λ (x : Given). IsGoodFor view x.want x.room in
    record {
      each = All-cons P (for_list n (record room { head = head })) given (record { pages = list.pages; numbers = list.numbers; indexes = list.indexes }) (good_rest view (for_list n room) given good).each;
      rows = good.rows;
    }

-- ---- a write in the range of a room
abbrev copy_bit : Bool → ℕ
copy_bit own = cond (not own) 1 0

module _ (view : ShelfView) (n index : ℕ) where
  one_copy : copies_in view n index 1 ≡ copy_bit (is_own view n (index / 64))
  one_copy =
      let touched : pages_touched index 1 ≡ 1 = let size = touched_some index 1 (omega arith) in omega arith in
      let sum : count_by (λ k. not (is_own view n k)) (numbers_from (index / 64) 1) ≡ copy_bit (is_own view n (index / 64)) + 0 = sum_by-cons (λ k. copy_bit (is_own view n k)) (index / 64) [] in
      ap (λ m. count_by (λ k. not (is_own view n k)) (numbers_from (index / 64) m)) touched ∙ sum ∙ omega arith

  -- a page that isn't the volume's own takes one of the room
  pub one_page : (room : RoomView) → IsChangeRoom view n index 1 room → is_own view n (index / 64) ≡ false → 1 ≤ room.pages
  one_page room good other = let copy = one_copy in let one : copy_bit (is_own view n (index / 64)) ≡ 1 = ap copy_bit other in omega arith

  -- a room for changes in a range is one for a write inside
  pub write_room : (first count : ℕ) (room : RoomView) → first ≤ index → index < first + count → IsChangeRoom view n first count room → IsChangeRoom view n index 1 room
  write_room first count room low high good = ⊎_elim
      (λ own. let copy = one_copy in let none : copy_bit (is_own view n (index / 64)) ≡ 0 = ap copy_bit own in omega arith)
      (λ other.
      let copy = one_copy in
      let one : copy_bit (is_own view n (index / 64)) ≡ 1 = ap copy_bit other in
      let touched = touched_some first count (omega arith) in
      let some = one_fewer (is_own view n) (λ k. true) (λ k h. refl) (first / 64) (pages_touched first count) (index / 64) (omega arith) (omega arith) other refl in
      omega arith)
      (cases_Bool (is_own view n (index / 64)))

-- ---- what calls keep
module _ (old new : ShelfView) where
  each_kept : KeepsOwn old new → (g : Given) → IsGoodFor old g.want g.room → IsGoodFor new g.want g.room
  each_kept kept g good = go g.want g.room good
    where
      go : (want : Want) (room : RoomView) → IsGoodFor old want room → IsGoodFor new want room
      go (NewList chunks) room is = is
      go (Change n first count) room is = other_room old new n first count room kept is

  -- where no page stops being a volume's own, all rooms stay good
  pub good_kept : (given : List Given) → KeepsOwn old new → old.rooms ≡ new.rooms → AreGood old given → AreGood new given
  good_kept given kept same good = record {
    each = All-weaker (λ (g : Given). IsGoodFor old g.want g.room) (λ (g : Given). IsGoodFor new g.want g.room) (each_kept kept) given good.each;
    rows = let rows = good.rows in omega arith;
  }

  -- .. and the others where one for a new list is spent
  pub good_spent : (n : ℕ) (room : RoomView) (given : List Given) → KeepsOwn old new → new.rooms + 1 ≡ old.rooms → AreGood old (for_list n room ∷ given) → AreGood new given
  good_spent n room given kept less good = record {
    each = All-weaker (λ (g : Given). IsGoodFor old g.want g.room) (λ (g : Given). IsGoodFor new g.want g.room) (each_kept kept) given (good_rest old (for_list n room) given good).each;
    rows = let split = rows_split old (for_list n room) given good in let rows = good.rows in omega arith;
  }

  -- .. where one for changes is used inside its range
  pub good_written : (n first count index : ℕ) (room room' : RoomView) (given : List Given) → KeepsOwn old new → old.rooms ≡ new.rooms → is_own new n (index / 64) ≡ true
      → (is_own old n (index / 64) ≡ true → room'.pages ≡ room.pages) → room.pages ≤ room'.pages + 1 → first ≤ index → index < first + count
      → AreGood old (for_change n first count room ∷ given) → AreGood new (for_change n first count room' ∷ given)
  good_written n first count index room room' given kept rooms own same left low high good =
      good_change new n first count room' given
      (written_room old new n first count index room room' kept own same left low high (good_first old (for_change n first count room) given good))
      (good_kept given kept rooms (good_rest old (for_change n first count room) given good))

  -- .. where one for a new list comes
  pub good_reserved : (n : ℕ) (room : RoomView) (given : List Given) → KeepsOwn old new → old.rooms + 1 ≡ new.rooms → IsListRoom n room → AreGood old given → AreGood new (for_list n room ∷ given)
  good_reserved n room given kept more is good = record {
    each = All-cons (λ (g : Given). IsGoodFor new g.want g.room) (for_list n room) given is
        (All-weaker (λ (g : Given). IsGoodFor old g.want g.room) (λ (g : Given). IsGoodFor new g.want g.room) (each_kept kept) given good.each);
    rows = let split = sum_by-cons list_bit (for_list n room) given in let rows = good.rows in omega arith;
  }

  -- .. and where one volume may lose pages of its own, the rooms that aren't for its changes
  each_kept_but : (m : ℕ) → KeepsOwnBut m old new → (g : Given) → IsOfOthers m g.want → IsGoodFor old g.want g.room → IsGoodFor new g.want g.room
  each_kept_but m kept g other good = go g.want g.room other good
    where
      go : (want : Want) (room : RoomView) → IsOfOthers m want → IsGoodFor old want room → IsGoodFor new want room
      go (NewList chunks) room apart is = is
      go (Change n first count) room apart is = room_of_other old new m n first count room kept apart is

  all_kept_but : (m : ℕ) (given : List Given) → KeepsOwnBut m old new → AreOfOthers m given → All (λ (g : Given). IsGoodFor old g.want g.room) given → All (λ (g : Given). IsGoodFor new g.want g.room) given
  all_kept_but m [] kept others good = All-nil (λ (g : Given). IsGoodFor new g.want g.room)
  all_kept_but m (g ∷ gs) kept others good =
      All-cons (λ (g : Given). IsGoodFor new g.want g.room) g gs
      (each_kept_but m kept g (All-head (λ (g : Given). IsOfOthers m g.want) g gs others) (All-head (λ (g : Given). IsGoodFor old g.want g.room) g gs good))
      (all_kept_but m gs kept (All-tail (λ (g : Given). IsOfOthers m g.want) g gs others) (All-tail (λ (g : Given). IsGoodFor old g.want g.room) g gs good))

  pub good_kept_but : (m : ℕ) (given : List Given) → KeepsOwnBut m old new → old.rooms ≡ new.rooms → AreOfOthers m given → AreGood old given → AreGood new given
  good_kept_but m given kept same others good = record {
    each = all_kept_but m given kept others good.each;
    rows = let rows = good.rows in omega arith;
  }

  pub good_spent_but : (m n : ℕ) (room : RoomView) (given : List Given) → KeepsOwnBut m old new → new.rooms + 1 ≡ old.rooms → AreOfOthers m given → AreGood old (for_list n room ∷ given) → AreGood new given
  good_spent_but m n room given kept less others good = record {
    each = all_kept_but m given kept others (good_rest old (for_list n room) given good).each;
    rows = let split = rows_split old (for_list n room) given good in let rows = good.rows in omega arith;
  }

-- a call that changes neither pages nor rooms
pub good_same : (old new : ShelfView) (s : ShelfState) (given : List Given) → new ≡ record old { shelf = s } → AreGood old given → AreGood new given
good_same old new s given is good =
    good_kept old new given (λ n k own. ap (λ v. is_own v n k) is ∙ own) (sym (ap (λ (v : ShelfView). v.rooms) is)) good
