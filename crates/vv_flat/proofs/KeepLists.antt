-- What an edit of a list keeps: that it rises, the keys of the items that pass a test, its length, and that no number
-- comes twice. The laws that an accepted change keeps the rules rest on these.
use Rattle.std.proofs.Common.{◌≡◌, ◌≤◌, ◌<◌, ℕ, suc, ◌+◌, ◌==◌, ◌&&◌, ◌||◌, not, refl, ap, sym, ◌∙◌, Bool, true, false, cond, List, [], ◌∷◌, ◌++◌, map, length, arith}
use Rattle.std.specs.Prelude.{Some, None, is_some, nat_lt, sum_by, count_by}
use Rattle.std.specs.List.{find, filter, list_all, list_any}
use Rattle.std.proofs.lemmas.List.Sums.{sum_by-cons}
use Rattle.std.proofs.lemmas.List.Folds.{list_all-map}
use Rattle.std.proofs.lemmas.Bool.{not-true, eqb-true}
use Rattle.std.proofs.lemmas.Bool.Decides.{nat_tests}
use Rattle.vv_flat.specs.Lists.{first_changed, put_before, first_removed, all_different, all_above, all_rising, all_rise, all_rise_from}
use Rattle.vv_flat.specs.State.{Address, Binding}
use Rattle.vv_flat.specs.Bindings.{is_address, is_below}
use Rattle.vv_flat.specs.Form.{all_below, bindings_rise}
use Rattle.vv_flat.proofs.Shares.{and_left, and_right, and_both, list_all-follows}
use Rattle.vv_flat.proofs.Known.{all-filter}
use Rattle.vv_flat.proofs.Lookups.{none-left}

module _ {A : Type 0} (below : A → A → Bool)
    (through : (x y z : A) → below x y ≡ true → below y z ≡ true → below x z ≡ true) where
  -- a list that rises from y on rises from what is below y
  pub rise_over : (x y : A) (ys : List A) → below x y ≡ true → all_rise_from below y ys ≡ true → all_rise_from below x ys ≡ true
  rise_over x y [] e h = refl
  rise_over x y (z ∷ zs) e h =
      and_both (below x z) (all_rise_from below z zs)
      (through x y z e (and_left (below y z) (all_rise_from below z zs) h)) (and_right (below y z) (all_rise_from below z zs) h)

  rise_of : (x : A) (xs : List A) → all_rise_from below x xs ≡ true → all_rise below xs ≡ true
  rise_of x [] h = refl
  rise_of x (y ∷ ys) h = and_right (below x y) (all_rise_from below y ys) h

  removed_rise : (p : A → Bool) (x y : A) (ys : List A) (b : Bool) → below x y ≡ true → all_rise_from below y ys ≡ true
      → all_rise_from below y (first_removed p ys) ≡ true → all_rise_from below x (cond b ys (y ∷ first_removed p ys)) ≡ true
  removed_rise p x y ys true e h k = rise_over x y ys e h
  removed_rise p x y ys false e h k = and_both (below x y) (all_rise_from below y (first_removed p ys)) e k

  rise_from-removed : (p : A → Bool) (x : A) (xs : List A) → all_rise_from below x xs ≡ true → all_rise_from below x (first_removed p xs) ≡ true
  rise_from-removed p x [] h = refl
  rise_from-removed p x (y ∷ ys) h =
      let l : below x y ≡ true = and_left (below x y) (all_rise_from below y ys) h in
      let r : all_rise_from below y ys ≡ true = and_right (below x y) (all_rise_from below y ys) h in
      removed_rise p x y ys (p y) l r (rise_from-removed p y ys r)

  removed_first : (p : A → Bool) (x : A) (xs : List A) (b : Bool) → all_rise_from below x xs ≡ true
      → all_rise below (cond b xs (x ∷ first_removed p xs)) ≡ true
  removed_first p x xs true h = rise_of x xs h
  removed_first p x xs false h = rise_from-removed p x xs h

  pub rise-removed : (p : A → Bool) (xs : List A) → all_rise below xs ≡ true → all_rise below (first_removed p xs) ≡ true
  rise-removed p [] h = refl
  rise-removed p (x ∷ xs) h = removed_first p x xs (p x) h

  kept_rise : (p : A → Bool) (x y : A) (ys : List A) (b : Bool) → below x y ≡ true → all_rise_from below y (filter p ys) ≡ true
      → all_rise_from below x (cond b (y ∷ filter p ys) (filter p ys)) ≡ true
  kept_rise p x y ys true e k = and_both (below x y) (all_rise_from below y (filter p ys)) e k
  kept_rise p x y ys false e k = rise_over x y (filter p ys) e k

  rise_from-filter : (p : A → Bool) (x : A) (xs : List A) → all_rise_from below x xs ≡ true → all_rise_from below x (filter p xs) ≡ true
  rise_from-filter p x [] h = refl
  rise_from-filter p x (y ∷ ys) h =
      kept_rise p x y ys (p y) (and_left (below x y) (all_rise_from below y ys) h)
      (rise_from-filter p y ys (and_right (below x y) (all_rise_from below y ys) h))

  filter_first : (p : A → Bool) (x : A) (xs : List A) (b : Bool) → all_rise_from below x (filter p xs) ≡ true
      → all_rise below (cond b (x ∷ filter p xs) (filter p xs)) ≡ true
  filter_first p x xs true h = h
  filter_first p x xs false h = rise_of x (filter p xs) h

  pub rise-filter : (p : A → Bool) (xs : List A) → all_rise below xs ≡ true → all_rise below (filter p xs) ≡ true
  rise-filter p [] h = refl
  rise-filter p (x ∷ xs) h = filter_first p x xs (p x) (rise_from-filter p x xs h)

module _ {A : Type 0} (below : A → A → Bool) where
  -- a new item at its place in the order
  put_rise : (x w y : A) (ys : List A) (b : Bool) → below x y ≡ b → below w x ≡ true → below w y ≡ true → (b || below y x) ≡ true
      → all_rise_from below y ys ≡ true → (below y x ≡ true → all_rise_from below y (put_before (below x) x ys) ≡ true)
      → all_rise_from below w (cond b (x ∷ y ∷ ys) (y ∷ put_before (below x) x ys)) ≡ true
  put_rise x w y ys true is e f g h k =
      and_both (below w x) (below x y && all_rise_from below y ys) e (and_both (below x y) (all_rise_from below y ys) is h)
  put_rise x w y ys false is e f g h k = and_both (below w y) (all_rise_from below y (put_before (below x) x ys)) f (k g)

  rise_from-put : (x w : A) (xs : List A) → below w x ≡ true → list_all (λ y. below x y || below y x) xs ≡ true
      → all_rise_from below w xs ≡ true → all_rise_from below w (put_before (below x) x xs) ≡ true
  rise_from-put x w [] e g h = and_both (below w x) true e refl
  rise_from-put x w (y ∷ ys) e g h =
      let r : all_rise_from below y ys ≡ true = and_right (below w y) (all_rise_from below y ys) h in
      put_rise x w y ys (below x y) refl e (and_left (below w y) (all_rise_from below y ys) h)
      (and_left (below x y || below y x) (list_all (λ y. below x y || below y x) ys) g) r
      (λ f. rise_from-put x y ys f (and_right (below x y || below y x) (list_all (λ y. below x y || below y x) ys) g) r)

  put_first : (x y : A) (ys : List A) (b : Bool) → below x y ≡ b → (b || below y x) ≡ true
      → all_rise_from below y ys ≡ true → (below y x ≡ true → all_rise_from below y (put_before (below x) x ys) ≡ true)
      → all_rise below (cond b (x ∷ y ∷ ys) (y ∷ put_before (below x) x ys)) ≡ true
  put_first x y ys true is g h k = and_both (below x y) (all_rise_from below y ys) is h
  put_first x y ys false is g h k = k g

  pub rise-put : (x : A) (xs : List A) → list_all (λ y. below x y || below y x) xs ≡ true
      → all_rise below xs ≡ true → all_rise below (put_before (below x) x xs) ≡ true
  rise-put x [] g h = refl
  rise-put x (y ∷ ys) g h =
      put_first x y ys (below x y) refl (and_left (below x y || below y x) (list_all (λ y. below x y || below y x) ys) g) h
      (λ f. rise_from-put x y ys f (and_right (below x y || below y x) (list_all (λ y. below x y || below y x) ys) g) h)

module _ {A : Type 0} (below : A → A → Bool) (g : A → A)
    (left : (x y : A) → below (g x) y ≡ below x y) (right : (x y : A) → below x (g y) ≡ below x y) where
  same_from : (x : A) (xs : List A) → all_rise_from below (g x) xs ≡ all_rise_from below x xs
  same_from x [] = refl
  same_from x (y ∷ ys) = rw (left x y)

  changed_rise : (p : A → Bool) (w x : A) (xs : List A) (b : Bool) → below w x ≡ true → all_rise_from below x xs ≡ true
      → all_rise_from below x (first_changed p g xs) ≡ true → all_rise_from below w (cond b (g x ∷ xs) (x ∷ first_changed p g xs)) ≡ true
  changed_rise p w x xs true e h k = and_both (below w (g x)) (all_rise_from below (g x) xs) (right w x ∙ e) (same_from x xs ∙ h)
  changed_rise p w x xs false e h k = and_both (below w x) (all_rise_from below x (first_changed p g xs)) e k

  rise_from-changed : (p : A → Bool) (w : A) (xs : List A) → all_rise_from below w xs ≡ true → all_rise_from below w (first_changed p g xs) ≡ true
  rise_from-changed p w [] h = refl
  rise_from-changed p w (x ∷ xs) h =
      let r : all_rise_from below x xs ≡ true = and_right (below w x) (all_rise_from below x xs) h in
      changed_rise p w x xs (p x) (and_left (below w x) (all_rise_from below x xs) h) r (rise_from-changed p x xs r)

  changed_first : (p : A → Bool) (x : A) (xs : List A) (b : Bool) → all_rise_from below x xs ≡ true
      → all_rise below (cond b (g x ∷ xs) (x ∷ first_changed p g xs)) ≡ true
  changed_first p x xs true h = same_from x xs ∙ h
  changed_first p x xs false h = rise_from-changed p x xs h

  pub rise-changed : (p : A → Bool) (xs : List A) → all_rise below xs ≡ true → all_rise below (first_changed p g xs) ≡ true
  rise-changed p [] h = refl
  rise-changed p (x ∷ xs) h = changed_first p x xs (p x) h

-- Records in rising order of their keys.

number_through : (a b c : ℕ) → nat_lt a b ≡ true → nat_lt b c ≡ true → nat_lt a c ≡ true
number_through a b c e f = grind (arith, nat_tests)

number_total : (a b : ℕ) → not (b == a) ≡ true → (nat_lt a b || nat_lt b a) ≡ true
number_total a b e = grind (arith, nat_tests)

module _ {A : Type 0} (key : A → ℕ) where
  abbrev key_below : A → A → Bool
  key_below x y = nat_lt (key x) (key y)

  above_is : (x : A) (xs : List A) → all_above (key x) (map key xs) ≡ all_rise_from key_below x xs
  above_is x [] = refl
  above_is x (y ∷ ys) = ap (λ b. nat_lt (key x) (key y) && b) (above_is y ys)

  rising_is : (xs : List A) → all_rising (map key xs) ≡ all_rise key_below xs
  rising_is [] = refl
  rising_is (x ∷ xs) = above_is x xs

  -- one more, whose key no other has
  pub rising-put : (x : A) (xs : List A) → list_all (λ y. not (key y == key x)) xs ≡ true → all_rising (map key xs) ≡ true
      → all_rising (map key (put_before (λ y. nat_lt (key x) (key y)) x xs)) ≡ true
  rising-put x xs other h =
      rising_is (put_before (λ y. nat_lt (key x) (key y)) x xs)
      ∙ rise-put key_below x xs
      (list_all-follows (λ y. not (key y == key x)) (λ y. nat_lt (key x) (key y) || nat_lt (key y) (key x))
      (λ y e. number_total (key x) (key y) e) xs other) (sym (rising_is xs) ∙ h)

  pub rising-removed : (p : A → Bool) (xs : List A) → all_rising (map key xs) ≡ true → all_rising (map key (first_removed p xs)) ≡ true
  rising-removed p xs h =
      rising_is (first_removed p xs)
      ∙ rise-removed key_below (λ x y z. number_through (key x) (key y) (key z)) p xs (sym (rising_is xs) ∙ h)

-- Bindings in rising order of their addresses.

address_through : (a b c d e f g h i : ℕ)
    → (nat_lt a d || ((a == d) && (nat_lt b e || ((b == e) && nat_lt c f)))) ≡ true
    → (nat_lt d g || ((d == g) && (nat_lt e h || ((e == h) && nat_lt f i)))) ≡ true
    → (nat_lt a g || ((a == g) && (nat_lt b h || ((b == h) && nat_lt c i)))) ≡ true
address_through a b c d e f g h i p q = grind (arith, nat_tests)

address_total : (a b c d e f : ℕ) → not ((d == a) && (e == b) && (f == c)) ≡ true
    → ((nat_lt a d || ((a == d) && (nat_lt b e || ((b == e) && nat_lt c f))))
    || (nat_lt d a || ((d == a) && (nat_lt e b || ((e == b) && nat_lt f c))))) ≡ true
address_total a b c d e f p = grind (arith, nat_tests)

abbrev binding_below : Binding → Binding → Bool
binding_below b c = is_below b.address c.address

binding_through : (x y z : Binding) → binding_below x y ≡ true → binding_below y z ≡ true → binding_below x z ≡ true
binding_through x y z p q =
    let a : Address = x.address in
    let b : Address = y.address in
    let c : Address = z.address in
    address_through a.host a.endpoint a.secondary b.host b.endpoint b.secondary c.host c.endpoint c.secondary p q

rise_from_is : (b : Binding) (bs : List Binding) → all_below b.address bs ≡ all_rise_from binding_below b bs
rise_from_is b [] = refl
rise_from_is b (c ∷ bs) = ap (λ (t : Bool). is_below b.address c.address && t) (rise_from_is c bs)

rise_is : (bs : List Binding) → bindings_rise bs ≡ all_rise binding_below bs
rise_is [] = refl
rise_is (b ∷ bs) = rise_from_is b bs

-- one more, at an address where there is none
pub bindings-put : (x : Binding) (bs : List Binding) → list_all (λ (b : Binding). not (is_address b.address x.address)) bs ≡ true
    → bindings_rise bs ≡ true → bindings_rise (put_before (λ (b : Binding). is_below x.address b.address) x bs) ≡ true
bindings-put x bs other h =
    rise_is (put_before (λ (b : Binding). is_below x.address b.address) x bs)
    ∙ rise-put binding_below x bs
    (list_all-follows (λ (b : Binding). not (is_address b.address x.address)) (λ b. binding_below x b || binding_below b x)
    (λ b e. let a : Address = x.address in
    let c : Address = b.address in
    address_total a.host a.endpoint a.secondary c.host c.endpoint c.secondary e) bs other) (sym (rise_is bs) ∙ h)

pub bindings-removed : (p : Binding → Bool) (bs : List Binding) → bindings_rise bs ≡ true → bindings_rise (first_removed p bs) ≡ true
bindings-removed p bs h = rise_is (first_removed p bs) ∙ rise-removed binding_below binding_through p bs (sym (rise_is bs) ∙ h)

pub bindings-filter : (p : Binding → Bool) (bs : List Binding) → bindings_rise bs ≡ true → bindings_rise (filter p bs) ≡ true
bindings-filter p bs h = rise_is (filter p bs) ∙ rise-filter binding_below binding_through p bs (sym (rise_is bs) ∙ h)

pub bindings-changed : (p : Binding → Bool) (g : Binding → Binding) → ((b : Binding) → (g b).address ≡ b.address) → (bs : List Binding)
    → bindings_rise bs ≡ true → bindings_rise (first_changed p g bs) ≡ true
bindings-changed p g same bs h =
    rise_is (first_changed p g bs)
    ∙ rise-changed binding_below g (λ x y. ap (λ a. is_below a y.address) (same x)) (λ x y. ap (λ a. is_below x.address a) (same y)) p bs
    (sym (rise_is bs) ∙ h)

-- What is made of each item, where a change of the first that passes keeps it.
module _ {A B : Type 0} (f : A → B) (p : A → Bool) (g : A → A) where
  same_step : (x : A) (xs : List A) (b : Bool) → (b ≡ true → f (g x) ≡ f x) → (b ≡ false → map f (first_changed p g xs) ≡ map f xs)
      → map f (cond b (g x ∷ xs) (x ∷ first_changed p g xs)) ≡ f x ∷ map f xs
  same_step x xs true e h = ap (λ y. y ∷ map f xs) (e refl)
  same_step x xs false e h = ap (λ ys. f x ∷ ys) (h refl)

  pub map-changed_same : (xs : List A) → ((x : A) → find p xs ≡ Some x → f (g x) ≡ f x) → map f (first_changed p g xs) ≡ map f xs
  map-changed_same [] h = refl
  map-changed_same (x ∷ xs) h =
      same_step x xs (p x) (λ e. h x (rw e)) (λ e. map-changed_same xs (λ y found. h y (rw e found)))

  heads : (c : Bool) (u v : A) (us vs : List A) → f u ≡ f v → map f us ≡ map f vs → map f (cond c (u ∷ us) us) ≡ map f (cond c (v ∷ vs) vs)
  heads true u v us vs e h = ap (λ y. y ∷ map f us) e ∙ ap (λ ys. f v ∷ ys) h
  heads false u v us vs e h = h

  picked_step : (r : A → Bool) (x : A) (xs : List A) (b : Bool) → (b ≡ true → r (g x) ≡ r x) → (b ≡ true → f (g x) ≡ f x)
      → (b ≡ false → map f (filter r (first_changed p g xs)) ≡ map f (filter r xs))
      → map f (filter r (cond b (g x ∷ xs) (x ∷ first_changed p g xs))) ≡ map f (cond (r x) (x ∷ filter r xs) (filter r xs))
  picked_step r x xs true s e h =
      let t : r (g x) ≡ r x = s refl in
      rw t (heads (r x) (g x) x (filter r xs) (filter r xs) (e refl) refl)
  picked_step r x xs false s e h = heads (r x) x x (filter r (first_changed p g xs)) (filter r xs) refl (h refl)

  -- and of each item that passes another test
  pub picked-same : (r : A → Bool) (xs : List A) → ((x : A) → find p xs ≡ Some x → r (g x) ≡ r x)
      → ((x : A) → find p xs ≡ Some x → f (g x) ≡ f x) → map f (filter r (first_changed p g xs)) ≡ map f (filter r xs)
  picked-same r [] s h = refl
  picked-same r (x ∷ xs) s h =
      picked_step r x xs (p x) (λ e. s x (rw e)) (λ e. h x (rw e))
      (λ e. picked-same r xs (λ y found. s y (rw e found)) (λ y found. h y (rw e found)))

removed_step : (n m : ℕ) (ms : List ℕ) (b : Bool) → not b ≡ true → first_removed (λ k. k == n) ms ≡ ms
    → cond b ms (m ∷ first_removed (λ k. k == n) ms) ≡ m ∷ ms
removed_step n m ms true e h = cc
removed_step n m ms false e h = ap (λ ks. m ∷ ks) h

removed_none : (n : ℕ) (ms : List ℕ) → list_all (λ m. not (m == n)) ms ≡ true → first_removed (λ m. m == n) ms ≡ ms
removed_none n [] e = refl
removed_none n (m ∷ ms) e =
    removed_step n m ms (m == n) (and_left (not (m == n)) (list_all (λ m. not (m == n)) ms) e)
    (removed_none n ms (and_right (not (m == n)) (list_all (λ m. not (m == n)) ms) e))

-- The keys of the items that pass, where the one of a certain key passes no more.
module _ {A : Type 0} (key : A → ℕ) (r : A → Bool) (n : ℕ) (g : A → A) where
  after_here : (x : A) (xs : List A) (c : Bool) → (key x == n) ≡ true → list_all (λ y. not (key y == n)) xs ≡ true
      → map key (filter r xs) ≡ first_removed (λ m. m == n) (map key (cond c (x ∷ filter r xs) (filter r xs)))
  after_here x xs true is none = rw is
  after_here x xs false is none =
      sym (removed_none n (map key (filter r xs))
      (list_all-map (λ m. not (m == n)) key (filter r xs) ∙ all-filter (λ y. not (key y == n)) r xs none))

  after_there : (x : A) (xs ys : List A) (c : Bool) → (key x == n) ≡ false
      → map key (filter r ys) ≡ first_removed (λ m. m == n) (map key (filter r xs))
      → map key (cond c (x ∷ filter r ys) (filter r ys)) ≡ first_removed (λ m. m == n) (map key (cond c (x ∷ filter r xs) (filter r xs)))
  after_there x xs ys true is h = rw is (ap (λ ms. key x ∷ ms) h)
  after_there x xs ys false is h = h

  after_step : (x : A) (xs : List A) (b : Bool) → (key x == n) ≡ b
      → list_all (λ y. not (key y == n)) (cond b xs (x ∷ first_removed (λ y. key y == n) xs)) ≡ true → (b ≡ true → r (g x) ≡ false)
      → (b ≡ false → map key (filter r (first_changed (λ y. key y == n) g xs)) ≡ first_removed (λ m. m == n) (map key (filter r xs)))
      → map key (filter r (cond b (g x ∷ xs) (x ∷ first_changed (λ y. key y == n) g xs)))
      ≡ first_removed (λ m. m == n) (map key (cond (r x) (x ∷ filter r xs) (filter r xs)))
  after_step x xs true is none ends h =
      let e : r (g x) ≡ false = ends refl in
      rw e (after_here x xs (r x) is none)
  after_step x xs false is none ends h = after_there x xs (first_changed (λ y. key y == n) g xs) (r x) is (h refl)

  rest_rises : (x : A) (xs : List A) → all_above (key x) (map key xs) ≡ true → all_rising (map key xs) ≡ true
  rest_rises x [] e = refl
  rest_rises x (y ∷ ys) e = and_right (nat_lt (key x) (key y)) _ e

  pub picked-after : (xs : List A) → all_rising (map key xs) ≡ true → ((x : A) → find (λ y. key y == n) xs ≡ Some x → r (g x) ≡ false)
      → map key (filter r (first_changed (λ y. key y == n) g xs)) ≡ first_removed (λ m. m == n) (map key (filter r xs))
  picked-after [] e h = refl
  picked-after (x ∷ xs) e h =
      after_step x xs (key x == n) refl (none-left key n (x ∷ xs) e) (λ is. h x (rw is))
      (λ is. picked-after xs (rest_rises x xs e) (λ y found. h y (rw is found)))

-- what is put before an item that passes comes last, where none does
module _ {A : Type 0} (p : A → Bool) (x : A) where
  last_step : (y : A) (ys : List A) (b : Bool) → not b ≡ true → put_before p x ys ≡ ys ++ x ∷ []
      → cond b (x ∷ y ∷ ys) (y ∷ put_before p x ys) ≡ y ∷ (ys ++ x ∷ [])
  last_step y ys true e h = cc
  last_step y ys false e h = ap (λ zs. y ∷ zs) h

  pub put-last : (xs : List A) → list_all (λ y. not (p y)) xs ≡ true → put_before p x xs ≡ xs ++ x ∷ []
  put-last [] e = refl
  put-last (y ∷ ys) e =
      last_step y ys (p y) (and_left (not (p y)) (list_all (λ y. not (p y)) ys) e)
      (put-last ys (and_right (not (p y)) (list_all (λ y. not (p y)) ys) e))

module _ {A : Type 0} (p r : A → Bool) (apart : (x : A) → p x ≡ true → r x ≡ false) where
  filter_step : (x : A) (xs : List A) (b : Bool) → p x ≡ b → filter r (first_removed p xs) ≡ filter r xs
      → filter r (cond b xs (x ∷ first_removed p xs)) ≡ cond (r x) (x ∷ filter r xs) (filter r xs)
  filter_step x xs true is h = let e : r x ≡ false = apart x is in rw e
  filter_step x xs false is h = ap (λ ys. cond (r x) (x ∷ ys) ys) h

  -- the items that pass one test, without one that passes another
  pub filter-removed : (xs : List A) → filter r (first_removed p xs) ≡ filter r xs
  filter-removed [] = refl
  filter-removed (x ∷ xs) = filter_step x xs (p x) refl (filter-removed xs)

-- Lengths.
module _ {A : Type 0} (p : A → Bool) where
  put_long : (x y : A) (ys : List A) (b : Bool) → length (put_before p x ys) ≡ length ys + 1
      → length (cond b (x ∷ y ∷ ys) (y ∷ put_before p x ys)) ≡ length (y ∷ ys) + 1
  put_long x y ys true h = omega arith
  put_long x y ys false h = omega arith

  pub length-put : (x : A) (xs : List A) → length (put_before p x xs) ≡ length xs + 1
  length-put x [] = refl
  length-put x (y ∷ ys) = put_long x y ys (p y) (length-put x ys)

  removed_long : (x : A) (xs : List A) (b : Bool) → length (first_removed p xs) ≤ length xs
      → length (cond b xs (x ∷ first_removed p xs)) ≤ length (x ∷ xs)
  removed_long x xs true h = omega arith
  removed_long x xs false h = omega arith

  pub length-removed : (xs : List A) → length (first_removed p xs) ≤ length xs
  length-removed [] = omega arith
  length-removed (x ∷ xs) = removed_long x xs (p x) (length-removed xs)

  found_long : (x y : A) (xs : List A) (b : Bool) → cond b (Some x) (find p xs) ≡ Some y
      → (find p xs ≡ Some y → length (first_removed p xs) + 1 ≡ length xs)
      → length (cond b xs (x ∷ first_removed p xs)) + 1 ≡ length (x ∷ xs)
  found_long x y xs true e h = omega arith
  found_long x y xs false e h = let l : length (first_removed p xs) + 1 ≡ length xs = h e in omega (arith, l)

  pub length-removed_found : (y : A) (xs : List A) → find p xs ≡ Some y → length (first_removed p xs) + 1 ≡ length xs
  length-removed_found y [] e = cc
  length-removed_found y (x ∷ xs) e = found_long x y xs (p x) e (length-removed_found y xs)

  changed_long : (g : A → A) (x : A) (xs : List A) (b : Bool) → length (first_changed p g xs) ≡ length xs
      → length (cond b (g x ∷ xs) (x ∷ first_changed p g xs)) ≡ length (x ∷ xs)
  changed_long g x xs true h = refl
  changed_long g x xs false h = ap suc h

  pub length-changed : (g : A → A) (xs : List A) → length (first_changed p g xs) ≡ length xs
  length-changed g [] = refl
  length-changed g (x ∷ xs) = changed_long g x xs (p x) (length-changed g xs)

  filter_long : (x : A) (xs : List A) (b : Bool) → length (filter p xs) ≤ length xs
      → length (cond b (x ∷ filter p xs) (filter p xs)) ≤ length (x ∷ xs)
  filter_long x xs true h = omega arith
  filter_long x xs false h = omega arith

  pub length-filter_le : (xs : List A) → length (filter p xs) ≤ length xs
  length-filter_le [] = omega arith
  length-filter_le (x ∷ xs) = filter_long x xs (p x) (length-filter_le xs)

  others_step : (x : A) (xs : List A) (b : Bool) → cond b 1 0 + count_by p xs < length (x ∷ xs)
      → (count_by p xs < length xs → length (first_removed (λ y. not (p y)) xs) + 1 ≡ length xs)
      → length (cond (not b) xs (x ∷ first_removed (λ y. not (p y)) xs)) + 1 ≡ length (x ∷ xs)
  others_step x xs true e h = let l : length (first_removed (λ y. not (p y)) xs) + 1 ≡ length xs = h (omega arith) in omega (arith, l)
  others_step x xs false e h = omega arith

  -- where not all pass, one that doesn't is removed
  pub others-removed : (xs : List A) → count_by p xs < length xs → length (first_removed (λ y. not (p y)) xs) + 1 ≡ length xs
  others-removed [] e = absurd (omega arith)
  others-removed (x ∷ xs) e =
      let c : count_by p (x ∷ xs) ≡ cond (p x) 1 0 + count_by p xs = sum_by-cons (λ y. cond (p y) 1 0) x xs in
      others_step x xs (p x) (omega (arith, c, e)) (others-removed xs)

-- How often a number comes.

abbrev pub times : ℕ → List ℕ → ℕ
times n xs = sum_by (λ m. cond (m == n) 1 0) xs

pub times-map : {A : Type 0} (key : A → ℕ) (n : ℕ) (xs : List A) → times n (map key xs) ≡ sum_by (λ x. cond (key x == n) 1 0) xs
times-map key n [] = refl
times-map key n (x ∷ xs) =
    let a : times n (key x ∷ map key xs) ≡ cond (key x == n) 1 0 + times n (map key xs) =
    sum_by-cons (λ m. cond (m == n) 1 0) (key x) (map key xs) in
    let b : sum_by (λ x. cond (key x == n) 1 0) (x ∷ xs) ≡ cond (key x == n) 1 0 + sum_by (λ x. cond (key x == n) 1 0) xs =
    sum_by-cons (λ x. cond (key x == n) 1 0) x xs in
    let h : times n (map key xs) ≡ sum_by (λ x. cond (key x == n) 1 0) xs = times-map key n xs in
    omega (arith, a, b, h)

never_step : (n m : ℕ) (ms : List ℕ) (b : Bool) → (b || list_any (λ k. k == n) ms) ≡ false
    → (list_any (λ k. k == n) ms ≡ false → times n ms ≡ 0) → cond b 1 0 + times n ms ≡ 0
never_step n m ms true e h = cc
never_step n m ms false e h = let z : times n ms ≡ 0 = h e in omega (arith, z)

never : (n : ℕ) (ms : List ℕ) → list_any (λ m. m == n) ms ≡ false → times n ms ≡ 0
never n [] e = refl
never n (m ∷ ms) e = sum_by-cons (λ k. cond (k == n) 1 0) m ms ∙ never_step n m ms (m == n) e (never n ms)

none_step : (n m : ℕ) (ms : List ℕ) (b : Bool) → cond b 1 0 + times n ms ≡ 0
    → (times n ms ≡ 0 → list_any (λ k. k == n) ms ≡ false) → (b || list_any (λ k. k == n) ms) ≡ false
none_step n m ms true e h = absurd (omega (arith, e))
none_step n m ms false e h = h (omega (arith, e))

pub none-where_never : (n : ℕ) (ms : List ℕ) → times n ms ≡ 0 → list_any (λ m. m == n) ms ≡ false
none-where_never n [] e = refl
none-where_never n (m ∷ ms) e =
    none_step n m ms (m == n) (sym (sum_by-cons (λ k. cond (k == n) 1 0) m ms) ∙ e) (none-where_never n ms)

once_step : (n m : ℕ) (ms : List ℕ) (b : Bool) → (m == n) ≡ b → list_any (λ k. k == m) ms ≡ false → times n ms ≤ 1
    → cond b 1 0 + times n ms ≤ 1
once_step n m ms true is e h =
    let same : m ≡ n = eqb-true m n is in
    let z : times n ms ≡ 0 = never n ms (rw same at e) in
    omega (arith, z)
once_step n m ms false is e h = omega (arith, h)

-- numbers that are all different come once at most each
pub different-once : (ms : List ℕ) → all_different ms ≡ true → (n : ℕ) → times n ms ≤ 1
different-once [] e n = omega arith
different-once (m ∷ ms) e n =
    let c : times n (m ∷ ms) ≡ cond (m == n) 1 0 + times n ms = sum_by-cons (λ k. cond (k == n) 1 0) m ms in
    let s : cond (m == n) 1 0 + times n ms ≤ 1 =
    once_step n m ms (m == n) refl (not-true (list_any (λ k. k == m) ms) (and_left (not (list_any (λ k. k == m) ms)) (all_different ms) e))
    (different-once ms (and_right (not (list_any (λ k. k == m) ms)) (all_different ms) e) n) in
    omega (arith, c, s)

itself : (m : ℕ) → (m == m) ≡ true
itself m = grind (arith, nat_tests)

-- and numbers that come once at most each are all different
pub once-different : (ms : List ℕ) → ((n : ℕ) → times n ms ≤ 1) → all_different ms ≡ true
once-different [] h = refl
once-different (m ∷ ms) h =
    let c : times m (m ∷ ms) ≡ cond (m == m) 1 0 + times m ms = sum_by-cons (λ k. cond (k == m) 1 0) m ms in
    let s : ◌≡◌ {A = ℕ} (cond (m == m) 1 0) 1 = ap (λ b. cond b 1 0) (itself m) in
    let o : times m (m ∷ ms) ≤ 1 = h m in
    let z : times m ms ≡ 0 = omega (arith, c, s, o) in
    and_both (not (list_any (λ k. k == m) ms)) (all_different ms) (ap not (none-where_never m ms z))
    (once-different ms (λ n. let d : times n (m ∷ ms) ≡ cond (m == n) 1 0 + times n ms = sum_by-cons (λ k. cond (k == n) 1 0) m ms in
    let p : times n (m ∷ ms) ≤ 1 = h n in
    omega (arith, d, p)))

-- What is found.
module _ {A : Type 0} (q : A → Bool) where
  found_step : (y : A) (ys zs : List A) (b : Bool) → is_some (cond b (Some y) (find q ys)) ≡ true
      → (is_some (find q ys) ≡ true → is_some (find q zs) ≡ true) → is_some (cond b (Some y) (find q zs)) ≡ true
  found_step y ys zs true e h = refl
  found_step y ys zs false e h = h e

  ahead : (x : A) (ys : List A) (b : Bool) → is_some (find q ys) ≡ true → is_some (cond b (Some x) (find q ys)) ≡ true
  ahead x ys true e = refl
  ahead x ys false e = e

  put_found : (p : A → Bool) (x y : A) (ys : List A) (b : Bool) → is_some (find q (y ∷ ys)) ≡ true
      → (is_some (find q ys) ≡ true → is_some (find q (put_before p x ys)) ≡ true)
      → is_some (find q (cond b (x ∷ y ∷ ys) (y ∷ put_before p x ys))) ≡ true
  put_found p x y ys true e h = ahead x (y ∷ ys) (q x) e
  put_found p x y ys false e h = found_step y ys (put_before p x ys) (q y) e h

  -- one more item hides no other
  pub found-put : (p : A → Bool) (x : A) (xs : List A) → is_some (find q xs) ≡ true → is_some (find q (put_before p x xs)) ≡ true
  found-put p x [] e = cc
  found-put p x (y ∷ ys) e = put_found p x y ys (p y) e (found-put p x ys)

  none_here : (x : A) (xs : List A) (b : Bool) → not b ≡ true → find q xs ≡ None → cond b (Some x) (find q xs) ≡ None
  none_here x xs true e h = cc
  none_here x xs false e h = h

  pub none-where_all : (xs : List A) → list_all (λ x. not (q x)) xs ≡ true → find q xs ≡ None
  none-where_all [] e = refl
  none-where_all (x ∷ xs) e =
      none_here x xs (q x) (and_left (not (q x)) (list_all (λ x. not (q x)) xs) e)
      (none-where_all xs (and_right (not (q x)) (list_all (λ x. not (q x)) xs) e))

  other_step : (x : A) (xs : List A) (b : Bool) → cond b (Some x) (find q xs) ≡ None
      → (find q xs ≡ None → list_all (λ y. not (q y)) xs ≡ true) → (not b && list_all (λ y. not (q y)) xs) ≡ true
  other_step x xs true e h = cc
  other_step x xs false e h = h e

  pub all-where_none : (xs : List A) → find q xs ≡ None → list_all (λ x. not (q x)) xs ≡ true
  all-where_none [] e = refl
  all-where_none (x ∷ xs) e = other_step x xs (q x) e (all-where_none xs)

  any_step : (x : A) (xs : List A) (b : Bool) → (b || list_any q xs) ≡ false
      → (list_any q xs ≡ false → list_all (λ y. not (q y)) xs ≡ true) → (not b && list_all (λ y. not (q y)) xs) ≡ true
  any_step x xs true e h = cc
  any_step x xs false e h = h e

  pub all-where_not_any : (xs : List A) → list_any q xs ≡ false → list_all (λ x. not (q x)) xs ≡ true
  all-where_not_any [] e = refl
  all-where_not_any (x ∷ xs) e = any_step x xs (q x) e (all-where_not_any xs)
