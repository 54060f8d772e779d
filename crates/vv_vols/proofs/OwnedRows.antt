-- Rows of a table that own the lists of a store, each row one list: what a call on one list makes of all rows.
use Rattle.std.proofs.Common.{ℕ, zero, suc, ◌≡◌, ◌<◌, List, [], ◌∷◌, ◌++◌, map, length, get_or, set, take, drop, refl, sym, ap, ◌∙◌, subst, arith}
use Rattle.std.specs.List.{All}
use Rattle.std.proofs.lemmas.List.{append-nil, append_assoc, map-append}
use Rattle.std.proofs.lemmas.List.Elements.{All-nil, All-cons, All-head, All-tail}
use Rattle.vv_map.specs.Rooms.{MapState}
use Rattle.vv_map.specs.Pages.{StoreState, list_of, IsMapOf}
use Rattle.vv_entries.specs.declared.entry.Entry.{Entry}
use Rattle.vv_entries.specs.Changes.{Exchanges}
use Rattle.vv_entries.specs.Owners.{all_numbers, AreAllLists, IsLeft}
use Rattle.vv_entries.proofs.Owners.{left_ahead, left_behind, lists_known, All-front, All-back}

-- a list around one of its items
pub around : {A : Type 0} (xs : List A) (i : ℕ) (d : A) → i < length xs → xs ≡ take i xs ++ (get_or xs i d ∷ drop (suc i) xs)
around [] i d h = absurd (omega arith)
around (x ∷ xs) zero d h = refl
around (x ∷ xs) (suc i) d h = ap (λ ys. x ∷ ys) (around xs i d (omega arith))

pub set_around : {A : Type 0} (xs : List A) (i : ℕ) (y : A) → i < length xs → set xs i y ≡ take i xs ++ (y ∷ drop (suc i) xs)
set_around [] i y h = absurd (omega arith)
set_around (x ∷ xs) zero y h = refl
set_around (x ∷ xs) (suc i) y h = ap (λ ys. x ∷ ys) (set_around xs i y (omega arith))

-- Rows, the list of each, and what each is seen as, which the entries of its list decide.
module _ {R V : Type 0} (map_of : R → MapState) (seen : StoreState Entry → R → V)
    (decided : (old new : StoreState Entry) (r : R) → list_of new (map_of r) ≡ list_of old (map_of r) → seen new r ≡ seen old r) where
  -- rows whose lists a call left are seen as before
  pub seen_left : (old new : StoreState Entry) (rows : List R) → All (IsLeft old new) (map map_of rows) → map (seen new) rows ≡ map (seen old) rows
  seen_left old new [] left = refl
  seen_left old new (r ∷ rows) left =
      let first = All-head (IsLeft old new) (map_of r) (map map_of rows) left in
      ap (λ v. v ∷ map (seen new) rows) (decided old new r first.same)
      ∙ ap (λ vs. seen old r ∷ vs) (seen_left old new rows (All-tail (IsLeft old new) (map_of r) (map map_of rows) left))

  -- One row between others has another list. Other lists of the store stand behind.
  module _ (old new : StoreState Entry) (ahead behind : List R) (others : List MapState) (row row' : R)
      (ex : Exchanges old new (map_of row).numbers (map_of row').numbers) (of : IsMapOf new (map_of row'))
      (lists : AreAllLists old (map map_of (ahead ++ (row ∷ behind)) ++ others)) where
    one_numbers : (m : MapState) → all_numbers (m ∷ []) ≡ m.numbers
    one_numbers m = append-nil m.numbers

    parts : (r : R) → map map_of (ahead ++ (r ∷ behind)) ++ others ≡ map map_of ahead ++ ((map_of r ∷ []) ++ (map map_of behind ++ others))
    parts r = ap (λ ms. ms ++ others) (map-append map_of ahead (r ∷ behind)) ∙ append_assoc (map map_of ahead) (map_of r ∷ map map_of behind) others

    known : AreAllLists old (map map_of ahead ++ ((map_of row ∷ []) ++ (map map_of behind ++ others)))
    known = subst (AreAllLists old) (parts row) lists

    pub ahead_left : All (IsLeft old new) (map map_of ahead)
    ahead_left = left_ahead old new (map_of row).numbers (map_of row').numbers ex (map map_of ahead) (map map_of behind ++ others) (map_of row ∷ []) (map_of row' ∷ []) known (one_numbers (map_of row)) (one_numbers (map_of row'))

    pub behind_left : All (IsLeft old new) (map map_of behind ++ others)
    behind_left = left_behind old new (map_of row).numbers (map_of row').numbers ex (map map_of ahead) (map map_of behind ++ others) (map_of row ∷ []) (map_of row' ∷ []) known (one_numbers (map_of row)) (one_numbers (map_of row'))

    -- all lists are known again,
    pub changed_known : AreAllLists new (map map_of (ahead ++ (row' ∷ behind)) ++ others)
    changed_known = subst (AreAllLists new) (sym (parts row'))
        (lists_known old new (map_of row).numbers (map_of row').numbers ex (map map_of ahead) (map map_of behind ++ others) (map_of row ∷ []) (map_of row' ∷ []) known (one_numbers (map_of row)) (one_numbers (map_of row'))
        (All-cons (λ (m : MapState). IsMapOf new m) (map_of row') [] of (All-nil (λ (m : MapState). IsMapOf new m))))

    -- the rows are seen as before but for the one,
    pub changed_seen : map (seen new) (ahead ++ (row' ∷ behind)) ≡ map (seen old) ahead ++ (seen new row' ∷ map (seen old) behind)
    changed_seen =
        map-append (seen new) ahead (row' ∷ behind)
        ∙ ap (λ vs. vs ++ (seen new row' ∷ map (seen new) behind)) (seen_left old new ahead ahead_left)
        ∙ ap (λ vs. map (seen old) ahead ++ (seen new row' ∷ vs)) (seen_left old new behind (All-front (IsLeft old new) (map map_of behind) others behind_left))

    -- and the other lists are left
    pub others_left : All (IsLeft old new) others
    others_left = All-back (IsLeft old new) (map map_of behind) others behind_left
