-- Rooms that stay good where pages of one volume, or of two, are shared from now on.
use Rattle.std.proofs.Common.{ℕ, ◌≡◌, ◌+◌, ◌/◌, List, [], ◌∷◌, cond, arith}
use Rattle.std.specs.List.{All}
use Rattle.std.proofs.lemmas.List.Elements.{All-nil, All-cons, All-head, All-tail}
use Rattle.std.proofs.lemmas.List.Sums.{sum_by-cons}
use Rattle.vv_vols.specs.Rows.{ShelfView, RoomView, is_own, KeepsOwnBut, KeepsOwnButBoth, pages_touched}
use Rattle.vv_vols.specs.Rooms.{Want, NewList, Change, Given, for_list, IsGoodFor, is_list, IsOfOthers, AreOfOthers, AreGood}
use Rattle.vv_vols.proofs.RoomsKept.{fewer}
use Rattle.vv_vols.proofs.GoodRooms.{good_rest}

module _ (old new : ShelfView) (m l : ℕ) (kept : KeepsOwnButBoth m l old new) where
  each_apart : (want : Want) (room : RoomView) → IsOfOthers m want → IsOfOthers l want → IsGoodFor old want room → IsGoodFor new want room
  each_apart (NewList chunks) room first second good = good
  each_apart (Change n from count) room first second good =
      let less = fewer (is_own old n) (is_own new n) (λ k own. kept n k first second own) (from / 64) (pages_touched from count) in
      omega arith

  all_apart : (given : List Given) → AreOfOthers m given → AreOfOthers l given → All (λ (g : Given). IsGoodFor old g.want g.room) given → All (λ (g : Given). IsGoodFor new g.want g.room) given
  all_apart [] first second good = All-nil (λ (g : Given). IsGoodFor new g.want g.room)
  all_apart (g ∷ gs) first second good =
      All-cons (λ (g : Given). IsGoodFor new g.want g.room) g gs
      (each_apart g.want g.room (All-head (λ (g : Given). IsOfOthers m g.want) g gs first) (All-head (λ (g : Given). IsOfOthers l g.want) g gs second)
      (All-head (λ (g : Given). IsGoodFor old g.want g.room) g gs good))
      (all_apart gs (All-tail (λ (g : Given). IsOfOthers m g.want) g gs first) (All-tail (λ (g : Given). IsOfOthers l g.want) g gs second)
      (All-tail (λ (g : Given). IsGoodFor old g.want g.room) g gs good))

-- where a room for a new list is spent, and two volumes may lose pages of their own
pub good_spent_both : (old new : ShelfView) (m l n : ℕ) (room : RoomView) (given : List Given) → KeepsOwnButBoth m l old new → new.rooms + 1 ≡ old.rooms
    → AreOfOthers m given → AreOfOthers l given → AreGood old (for_list n room ∷ given) → AreGood new given
good_spent_both old new m l n room given kept less first second good = record {
  each = all_apart old new m l kept given first second (good_rest old (for_list n room) given good).each;
  rows =
      let split = sum_by-cons (λ (g : Given). cond (is_list g.want) 1 0) (for_list n room) given in
      let rows = good.rows in omega arith;
}

-- .. and where one may
pub good_spent_but : (old new : ShelfView) (m n : ℕ) (room : RoomView) (given : List Given) → KeepsOwnBut m old new → new.rooms + 1 ≡ old.rooms
    → AreOfOthers m given → AreGood old (for_list n room ∷ given) → AreGood new given
good_spent_but old new m n room given kept less others good =
    good_spent_both old new m m n room given (λ k p first second own. kept k p first own) less others others good
