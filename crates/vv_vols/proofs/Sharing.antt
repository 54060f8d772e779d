-- What keeps entries sharing places rightly: entries that stood already, unmapped ones, and one at a place that no other
-- names.
use Rattle.std.proofs.Common.{ℕ, ◌≡◌, ◌==◌, ◌&&◌, ◌⊎◌, inl, inr, not, Bool, true, false, List, [], ◌∷◌, get_or, refl, sym, ap, ◌∙◌, ⊎_elim, Option, Some, None}
use Rattle.std.specs.Prelude.{nat_lt}
use Rattle.std.specs.List.{Contains, list_all}
use Rattle.std.proofs.lemmas.Bool.{eq-eqb}
use Rattle.std.proofs.lemmas.List.Sums.{AllPass-from_list_all, list_all-from_AllPass}
use Rattle.std.proofs.lemmas.List.Elements.{All-contains, All-from_get_or, Contains-get_or}
use Rattle.vv_flat.specs.Lists.{if_found}
use Rattle.vv_flat.specs.State.{Piece}
use Rattle.vv_flat.specs.Chunks.{Entry, unmapped_entry}
use Rattle.vv_flat.specs.Sharing.{is_placed, agrees, both_or_neither, names_place, shares_places}
use Rattle.vv_flat.proofs.Shares.{and_left, and_right, and_both}
use Rattle.vv_flat.proofs.NewEntries.{eq_turn}
use Rattle.vv_vols.specs.Calls.{placed_at}

passes : {A : Type 0} (test : A → Bool) (xs : List A) (a : A) → list_all test xs ≡ true → Contains xs a → test a ≡ true
passes test xs a all at = All-contains (λ x. test x ≡ true) xs a (AllPass-from_list_all test xs all) at

all_pass : {A : Type 0} (test : A → Bool) (xs : List A) → ((a : A) → Contains xs a → test a ≡ true) → list_all test xs ≡ true
all_pass test [] each = refl
all_pass test (x ∷ xs) each = list_all-from_AllPass test (x ∷ xs) (All-from_get_or (λ y. test y ≡ true) (x ∷ xs) x (λ i lt. each (get_or (x ∷ xs) i x) (Contains-get_or (x ∷ xs) i x lt)))

-- the rule, entry by entry
pub record SharesEach (pool : ℕ) (all : List (Piece Entry)) : Type 0 where
  pub placed : (a : Piece Entry) → Contains all a → is_placed pool a.chunk ≡ true
  pub agree : (a b : Piece Entry) → Contains all a → Contains all b → agrees a b ≡ true

pub shares_each : (pool : ℕ) (all : List (Piece Entry)) → shares_places pool all ≡ true → SharesEach pool all
unfolding shares_places
shares_each pool all shares = record {
  placed = λ a at. and_left (is_placed pool a.chunk) (list_all (agrees a) all) (passes (λ (x : Piece Entry). is_placed pool x.chunk && list_all (agrees x) all) all a shares at);
  agree = λ a b at bt. passes (agrees a) all b (and_right (is_placed pool a.chunk) (list_all (agrees a) all) (passes (λ (x : Piece Entry). is_placed pool x.chunk && list_all (agrees x) all) all a shares at)) bt;
}

pub shares_from_each : (pool : ℕ) (all : List (Piece Entry)) → SharesEach pool all → shares_places pool all ≡ true
unfolding shares_places
shares_from_each pool all each =
    all_pass (λ (x : Piece Entry). is_placed pool x.chunk && list_all (agrees x) all) all
    (λ a at. and_both (is_placed pool a.chunk) (list_all (agrees a) all) (each.placed a at) (all_pass (agrees a) all (λ b bt. each.agree a b at bt)))

-- an unmapped entry agrees with every other
unmapped_placed : (pool : ℕ) (a : Piece Entry) → a.chunk ≡ unmapped_entry → is_placed pool a.chunk ≡ true
unmapped_placed pool a e = ap (is_placed pool) e

unmapped_first : (a b : Piece Entry) → a.chunk ≡ unmapped_entry → agrees a b ≡ true
unmapped_first a b e = ap (λ (c : Entry). agrees (record { index = a.index; chunk = c }) b) e

unmapped_second : (a b : Piece Entry) → b.chunk ≡ unmapped_entry → agrees a b ≡ true
unmapped_second a b e = ap (λ (c : Entry). agrees a (record { index = b.index; chunk = c })) e ∙ go a.chunk.place
  where
    go : (o : Option ℕ) → if_found o (λ p. true) true ≡ true
    go None = refl
    go (Some p) = refl

-- A new entry beside some that stand: its place is one of the pool's that none of them names, its stamp isn't 0, and none
-- of them has that stamp at its index.
pub new_agrees : (all : List (Piece Entry)) (index p stamp : ℕ)
    → list_all (λ (a : Piece Entry). not (names_place p a)) all ≡ true
    → list_all (λ (a : Piece Entry). not ((a.index == index) && (a.chunk.stamp == stamp))) all ≡ true
    → (a : Piece Entry) → Contains all a → agrees a (record { index = index; chunk = placed_at p stamp }) ≡ true
new_agrees all index p stamp unnamed unstamped a at =
    go a.chunk.place (passes (λ (x : Piece Entry). not (names_place p x)) all a unnamed at)
    ((a.index == index) && (a.chunk.stamp == stamp)) (passes (λ (x : Piece Entry). not ((x.index == index) && (x.chunk.stamp == stamp))) all a unstamped at)
  where
    both : (b c : Bool) → not b ≡ true → not c ≡ true → both_or_neither b c ≡ true
    both true c n m = absurd (cc)
    both false true n m = absurd (cc)
    both false false n m = refl

    go : (o : Option ℕ) → not (if_found o (λ q. q == p) false) ≡ true → (c : Bool) → not c ≡ true → if_found o (λ q. both_or_neither (q == p) c) true ≡ true
    go None n c m = refl
    go (Some q) n c m = both (q == p) c n m

agrees-turn : (a b : Piece Entry) → agrees a b ≡ agrees b a
agrees-turn a b = go a.chunk.place b.chunk.place
  where
    go : (o q : Option ℕ) → if_found o (λ p. if_found q (λ r. both_or_neither (p == r) ((a.index == b.index) && (a.chunk.stamp == b.chunk.stamp))) true) true
        ≡ if_found q (λ p. if_found o (λ r. both_or_neither (p == r) ((b.index == a.index) && (b.chunk.stamp == a.chunk.stamp))) true) true
    go None None = refl
    go None (Some r) = refl
    go (Some p) None = refl
    go (Some p) (Some r) =
        ap (λ t. both_or_neither t ((a.index == b.index) && (a.chunk.stamp == b.chunk.stamp))) (eq_turn p r)
        ∙ ap (λ t. both_or_neither (r == p) (t && (a.chunk.stamp == b.chunk.stamp))) (eq_turn a.index b.index)
        ∙ ap (λ t. both_or_neither (r == p) ((b.index == a.index) && t)) (eq_turn a.chunk.stamp b.chunk.stamp)

agrees-self : (a : Piece Entry) → agrees a a ≡ true
agrees-self a = go a.chunk.place
  where
    go : (o : Option ℕ) → if_found o (λ p. if_found o (λ r. both_or_neither (p == r) ((a.index == a.index) && (a.chunk.stamp == a.chunk.stamp))) true) true ≡ true
    go None = refl
    go (Some p) =
        ap (λ t. both_or_neither t ((a.index == a.index) && (a.chunk.stamp == a.chunk.stamp))) (eq-eqb p p refl)
        ∙ ap (λ t. both_or_neither true (t && (a.chunk.stamp == a.chunk.stamp))) (eq-eqb a.index a.index refl)
        ∙ ap (λ t. both_or_neither true (true && t)) (eq-eqb a.chunk.stamp a.chunk.stamp refl)

-- an entry that stood, an unmapped one, or the new one
abbrev pub Comes : List (Piece Entry) → Piece Entry → Piece Entry → Type 0
Comes old f a = Contains old a ⊎ ((a.chunk ≡ unmapped_entry) ⊎ (f ≡ a))

module _ (pool : ℕ) (old new : List (Piece Entry)) (f : Piece Entry) (each : SharesEach pool old) (placed : is_placed pool f.chunk ≡ true)
    (fits : (a : Piece Entry) → Contains old a → agrees a f ≡ true) (comes : (a : Piece Entry) → Contains new a → Comes old f a) where
  come_placed : (a : Piece Entry) → Comes old f a → is_placed pool a.chunk ≡ true
  come_placed a c = ⊎_elim (λ at. each.placed a at) (λ rest. ⊎_elim (λ e. unmapped_placed pool a e) (λ e. ap (λ (x : Piece Entry). is_placed pool x.chunk) (sym e) ∙ placed) rest) c

  with_new : (a : Piece Entry) → Comes old f a → agrees a f ≡ true
  with_new a c = ⊎_elim (λ at. fits a at) (λ rest. ⊎_elim (λ e. unmapped_first a f e) (λ e. ap (λ x. agrees x f) (sym e) ∙ agrees-self f) rest) c

  come_agree : (a b : Piece Entry) → Comes old f a → Comes old f b → agrees a b ≡ true
  come_agree a b ca cb = ⊎_elim
      (λ bt. ⊎_elim
      (λ at. each.agree a b at bt)
      (λ rest. ⊎_elim (λ e. unmapped_first a b e) (λ e. ap (λ x. agrees x b) (sym e) ∙ agrees-turn f b ∙ fits b bt) rest)
      ca)
      (λ rest. ⊎_elim (λ e. unmapped_second a b e) (λ e. ap (agrees a) (sym e) ∙ with_new a ca) rest)
      cb

  pub shares_from : SharesEach pool new
  shares_from = record {
    placed = λ a at. come_placed a (comes a at);
    agree = λ a b at bt. come_agree a b (comes a at) (comes b bt);
  }

-- .. where nothing is new
pub shares_of_old : (pool : ℕ) (old new : List (Piece Entry)) → shares_places pool old ≡ true → ((a : Piece Entry) → Contains new a → Contains old a ⊎ (a.chunk ≡ unmapped_entry)) → shares_places pool new ≡ true
shares_of_old pool old new shares comes =
    let f : Piece Entry = record { index = 0; chunk = unmapped_entry } in
    shares_from_each pool new (shares_from pool old new f (shares_each pool old shares) refl (λ a at. unmapped_second a f refl)
    (λ a at. ⊎_elim (λ o. inl o) (λ e. inr (inl e)) (comes a at)))

-- .. and where one entry is
pub shares_with_new : (pool : ℕ) (old new : List (Piece Entry)) (index p stamp : ℕ) → shares_places pool old ≡ true
    → nat_lt p pool ≡ true → (stamp == 0) ≡ false
    → list_all (λ (a : Piece Entry). not (names_place p a)) old ≡ true
    → list_all (λ (a : Piece Entry). not ((a.index == index) && (a.chunk.stamp == stamp))) old ≡ true
    → ((a : Piece Entry) → Contains new a → Contains old a ⊎ (record { index = index; chunk = placed_at p stamp } ≡ a))
    → shares_places pool new ≡ true
shares_with_new pool old new index p stamp shares within stamped unnamed unstamped comes =
    let f : Piece Entry = record { index = index; chunk = placed_at p stamp } in
    shares_from_each pool new (shares_from pool old new f (shares_each pool old shares)
    (ap (λ t. not t && nat_lt p pool) stamped ∙ within)
    (new_agrees old index p stamp unnamed unstamped)
    (λ a at. ⊎_elim (λ o. inl o) (λ e. inr (inr e)) (comes a at)))
