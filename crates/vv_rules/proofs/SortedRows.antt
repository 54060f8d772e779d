-- Rows of entries that have a place, sorted: which of them don't agree is found by comparing neighbours alone.
use Rattle.std.proofs.Common.{◌≡◌, ℕ, ◌≤◌, ◌⊎◌, inl, inr, Bool, true, false, cond, eqb, List, [], ◌∷◌, Option, Some, None, refl, sym, ap, subst, ◌∙◌, arith, ⊎_elim}
use Rattle.std.specs.Prelude.{min}
use Rattle.std.proofs.lemmas.Bool.{and_parts, and_from, eqb-true, eqb-false, eq-eqb, ne_eqb, not_from_false, cases_lt}
use Rattle.vv_rules.specs.declared.rows.Row.{Row}
use Rattle.vv_rules.specs.Least.{sooner}
use Rattle.vv_rules.specs.Rows.{same_key, is_mixed_place, is_mixed_key, wrong_front, least_wrong}
use Rattle.vv_rules.proofs.Had.{Has, Up}

-- there is a number, and it is at most so much
abbrev pub AtMost : Option ℕ → ℕ → Type 0
AtMost None n = ⊥
AtMost (Some m) n = m ≤ n

pub at_most_left : (o p : Option ℕ) (n : ℕ) → AtMost o n → AtMost (sooner o p) n
at_most_left None p n h = absurd h
at_most_left (Some a) None n h = h
at_most_left (Some a) (Some b) n h = omega arith

pub at_most_right : (o p : Option ℕ) (n : ℕ) → AtMost p n → AtMost (sooner o p) n
at_most_right None p n h = h
at_most_right (Some a) None n h = absurd h
at_most_right (Some a) (Some b) n h = omega arith

at_most_same : (o : Option ℕ) (m n : ℕ) → m ≤ n → AtMost o m → AtMost o n
at_most_same None m n e h = absurd h
at_most_same (Some a) m n e h = omega arith

-- ---- keys

record SameKey (x y : Row) : Type 0 where
  index : x.index ≡ y.index
  stamp : x.stamp ≡ y.stamp

key_true : (x y : Row) → same_key x y ≡ true → SameKey x y
key_true x y h = let both = and_parts (eqb x.index y.index) (eqb x.stamp y.stamp) h in record { index = eqb-true _ _ both.0; stamp = eqb-true _ _ both.1 }

true_key : (x y : Row) → SameKey x y → same_key x y ≡ true
true_key x y k = and_from _ _ (eq-eqb _ _ k.index) (eq-eqb _ _ k.stamp)

no_key : (b : Bool) → b ≡ false → b ≡ true → ⊥
no_key true f t = absurd cc
no_key false f t = absurd cc

by_bool : (b : Bool) → (b ≡ true → ⊥) → b ≡ false
by_bool true h = absurd (h refl)
by_bool false h = refl

key_refl : (x : Row) → same_key x x ≡ true
key_refl x = true_key x x (record { index = refl; stamp = refl })

key_back : (x y : Row) → same_key x y ≡ true → same_key y x ≡ true
key_back x y h = let p = key_true x y h in true_key y x (record { index = sym p.index; stamp = sym p.stamp })

key_other : (x y b : Row) → same_key x y ≡ true → same_key x b ≡ false → same_key y b ≡ false
key_other x y b h k = by_bool (same_key y b) (λ e.
    let p = key_true x y h in
    let q = key_true y b e in
    no_key (same_key x b) k (true_key x b (record { index = p.index ∙ q.index; stamp = p.stamp ∙ q.stamp })))

key_sym : (x y : Row) → same_key x y ≡ false → same_key y x ≡ false
key_sym x y h = by_bool (same_key y x) (λ e. let p = key_true y x e in no_key (same_key x y) h (true_key x y (record { index = sym p.index; stamp = sym p.stamp })))

-- ---- sorted by place

abbrev pub RisesByPlace : List Row → Type 0
RisesByPlace xs = Up (λ (x y : Row). x.place ≤ y.place) xs

front_or_rest : (x y : Row) (ys : List Row) (b : Bool) → same_key x y ≡ b → y.place ≡ x.place → (b ≡ true → AtMost (least_wrong is_mixed_place (y ∷ ys)) x.place)
    → AtMost (sooner (wrong_front is_mixed_place x (y ∷ ys)) (least_wrong is_mixed_place (y ∷ ys))) x.place
front_or_rest x y ys true e p rest = at_most_right (wrong_front is_mixed_place x (y ∷ ys)) (least_wrong is_mixed_place (y ∷ ys)) x.place (rest refl)
front_or_rest x y ys false e p rest =
    let wrong : is_mixed_place x y ≡ true = and_from _ _ (eq-eqb x.place y.place (sym p)) (not_from_false _ e) in
    let front : wrong_front is_mixed_place x (y ∷ ys) ≡ Some x.place = ap (λ b. cond b (Some x.place) None) wrong in
    at_most_left (wrong_front is_mixed_place x (y ∷ ys)) (least_wrong is_mixed_place (y ∷ ys)) x.place (subst (λ o. AtMost o x.place) (sym front) (omega arith))

between_places : (x y : Row) (ys : List Row) (b : Row) → ((z : Row) → Has z (y ∷ ys) → x.place ≤ z.place) → ((z : Row) → Has z ys → y.place ≤ z.place) → Has b (y ∷ ys) → x.place ≡ b.place → y.place ≡ x.place
between_places x y ys b low next there same =
    let le = low y (inl refl) in
    ⊎_elim (λ e. let k = ap (λ (r : Row). r.place) e in omega arith) (λ h. let k = next b h in omega arith) there

place_from : (x : Row) (xs : List Row) (b : Row) → RisesByPlace (x ∷ xs) → Has b xs → x.place ≡ b.place → same_key x b ≡ false → AtMost (least_wrong is_mixed_place (x ∷ xs)) x.place
place_from x [] b s there same other = absurd there
place_from x (y ∷ ys) b s there same other =
    let p = between_places x y ys b s.0 s.1.0 there same in
    front_or_rest x y ys (same_key x y) refl p (λ k.
    let different = key_other x y b k other in
    at_most_same (least_wrong is_mixed_place (y ∷ ys)) y.place x.place (omega arith)
    (⊎_elim (λ e. absurd (no_key (same_key y b) different (subst (λ r. same_key y r ≡ true) e (key_refl y)))) (λ h. place_from y ys b s.1 h (p ∙ same) different) there))

-- two keys at one place are seen at neighbours
pub place_found : (xs : List Row) (a b : Row) → RisesByPlace xs → Has a xs → Has b xs → a.place ≡ b.place → same_key a b ≡ false → AtMost (least_wrong is_mixed_place xs) a.place
place_found [] a b s h k same other = absurd h
place_found (x ∷ xs) a b s (inl e) (inl f) same other = absurd (no_key (same_key a b) other (subst (λ r. same_key a r ≡ true) (sym e ∙ f) (key_refl a)))
place_found (x ∷ xs) a b s (inl e) (inr k) same other =
    subst (λ r. AtMost (least_wrong is_mixed_place (x ∷ xs)) r.place) e (place_from x xs b s k (ap (λ (r : Row). r.place) e ∙ same) (subst (λ r. same_key r b ≡ false) (sym e) other))
place_found (x ∷ xs) a b s (inr h) (inl f) same other =
    let at = place_from x xs a s h (ap (λ (r : Row). r.place) f ∙ sym same) (subst (λ r. same_key r a ≡ false) (sym f) (key_sym a b other)) in
    at_most_same (least_wrong is_mixed_place (x ∷ xs)) x.place a.place (let k = ap (λ (r : Row). r.place) f in omega arith) at
place_found (x ∷ xs) a b s (inr h) (inr k) same other = at_most_right (wrong_front is_mixed_place x xs) (least_wrong is_mixed_place xs) a.place (place_found xs a b s.1 h k same other)

-- ---- sorted by key, and the rows of one key by place

abbrev pub RisesByKey : (Row → Row → Bool) → List Row → Type 0
RisesByKey above xs = Up (λ x y. (above x y ≡ false) × (same_key x y ≡ true → x.place ≤ y.place)) xs

-- an order of keys: what is above neither way has the same key, and it is one order
pub record OrdersKeys (above : Row → Row → Bool) : Type 0 where
  pub tied : (x y : Row) → above x y ≡ false → above y x ≡ false → same_key x y ≡ true
  pub through : (x y z : Row) → above x y ≡ false → above y z ≡ false → above x z ≡ false
  pub of_key : (x y : Row) → same_key x y ≡ true → above x y ≡ false

-- a wrong row, with the row that shows it
pub record Wrong (wrong : Row → Row → Bool) (xs : List Row) (m : ℕ) : Type 0 where
  pub row : Row
  pub other : Row
  pub there : Has row xs
  pub other_there : Has other xs
  pub is_wrong : wrong row other ≡ true
  pub place_is : row.place ≡ m

behind_one : (wrong : Row → Row → Bool) (x : Row) (xs : List Row) (m : ℕ) → Wrong wrong xs m → Wrong wrong (x ∷ xs) m
behind_one wrong x xs m w = record { row = w.row; other = w.other; there = inr w.there; other_there = inr w.other_there; is_wrong = w.is_wrong; place_is = w.place_is }

front_is : (wrong : Row → Row → Bool) (x y : Row) (b : Bool) (m : ℕ) → wrong x y ≡ b → cond b (Some x.place) None ≡ Some m → (wrong x y ≡ true) × (x.place ≡ m)
front_is wrong x y true m w e = (w, cc)
front_is wrong x y false m w e = absurd cc

front_wrong : (wrong : Row → Row → Bool) (x : Row) (xs : List Row) (m : ℕ) → wrong_front wrong x xs ≡ Some m → Wrong wrong (x ∷ xs) m
front_wrong wrong x [] m e = absurd cc
front_wrong wrong x (y ∷ ys) m e = let f = front_is wrong x y (wrong x y) m refl e in record { row = x; other = y; there = inl refl; other_there = inr (inl refl); is_wrong = f.0; place_is = f.1 }

min_is : (a b : ℕ) → (min a b ≡ a) ⊎ (min a b ≡ b)
min_is a b = ⊎_elim (λ h. inl (omega arith)) (λ h. inr (omega arith)) (cases_lt a b)

pub either_of : (o p : Option ℕ) (m : ℕ) → sooner o p ≡ Some m → (o ≡ Some m) ⊎ (p ≡ Some m)
either_of None p m e = inr e
either_of (Some a) None m e = inl e
either_of (Some a) (Some b) m e = let k : min a b ≡ m = cc in ⊎_elim (λ f. inl (ap (λ n. Some n) (sym f ∙ k))) (λ f. inr (ap (λ n. Some n) (sym f ∙ k))) (min_is a b)

-- what is told by neighbours is wrong
pub wrong_is_there : (wrong : Row → Row → Bool) (xs : List Row) (m : ℕ) → least_wrong wrong xs ≡ Some m → Wrong wrong xs m
wrong_is_there wrong [] m e = absurd cc
wrong_is_there wrong (x ∷ xs) m e =
    ⊎_elim (λ f. front_wrong wrong x xs m f) (λ f. behind_one wrong x xs m (wrong_is_there wrong xs m f)) (either_of (wrong_front wrong x xs) (least_wrong wrong xs) m e)

-- the neighbour of a row whose key comes again has that key
key_next : (above : Row → Row → Bool) → OrdersKeys above → (x y : Row) (ys : List Row) (b : Row) → RisesByKey above (x ∷ y ∷ ys) → Has b (y ∷ ys) → same_key x b ≡ true → same_key x y ≡ true
key_next above o x y ys b s there same =
    let x_y = (s.0 y (inl refl)).0 in
    let y_b : above y b ≡ false = ⊎_elim (λ e. o.of_key y b (subst (λ r. same_key y r ≡ true) e (key_refl y))) (λ h. (s.1.0 b h).0) there in
    let b_x = o.of_key b x (key_back x b same) in
    o.tied x y x_y (o.through y b x y_b b_x)

abbrev KeyFound : List Row → Type 0
KeyFound xs = (a b : Row) → Has a xs → Has b xs → same_key a b ≡ true → eqb a.place b.place ≡ false → AtMost (least_wrong is_mixed_key xs) a.place

key_then : (x y b : Row) → same_key x y ≡ true → same_key x b ≡ true → same_key y b ≡ true
key_then x y b h k =
    let p = key_true x y h in
    let q = key_true x b k in
    true_key y b (record { index = sym p.index ∙ q.index; stamp = sym p.stamp ∙ q.stamp })

-- the first row and one behind it
first_key : (x y : Row) (ys : List Row) (b : Row) → KeyFound (y ∷ ys) → Has b (y ∷ ys) → same_key x y ≡ true → same_key x b ≡ true → eqb x.place b.place ≡ false → (p : Bool) → eqb x.place y.place ≡ p
    → AtMost (least_wrong is_mixed_key (x ∷ y ∷ ys)) x.place
first_key x y ys b more there next same other true e =
    let p = eqb-true x.place y.place e in
    let apart : eqb y.place b.place ≡ false = subst (λ n. eqb n b.place ≡ false) p other in
    at_most_right (wrong_front is_mixed_key x (y ∷ ys)) (least_wrong is_mixed_key (y ∷ ys)) x.place
    (at_most_same (least_wrong is_mixed_key (y ∷ ys)) y.place x.place (omega arith) (more y b (inl refl) there (key_then x y b next same) apart))
first_key x y ys b more there next same other false e =
    let front : wrong_front is_mixed_key x (y ∷ ys) ≡ Some x.place = ap (λ b. cond b (Some x.place) None) (and_from _ _ next (not_from_false _ e)) in
    at_most_left (wrong_front is_mixed_key x (y ∷ ys)) (least_wrong is_mixed_key (y ∷ ys)) x.place (subst (λ o. AtMost o x.place) (sym front) (omega arith))

-- one behind the first, and the first
last_key : (x y : Row) (ys : List Row) (a : Row) → KeyFound (y ∷ ys) → Has a (y ∷ ys) → x.place ≤ a.place → same_key x y ≡ true → same_key x a ≡ true → eqb x.place a.place ≡ false → (p : Bool) → eqb x.place y.place ≡ p
    → AtMost (least_wrong is_mixed_key (x ∷ y ∷ ys)) a.place
last_key x y ys a more there le next same other true e =
    let p = eqb-true x.place y.place e in
    let apart : eqb a.place y.place ≡ false = ne_eqb a.place y.place (λ k. eqb-false x.place a.place other (p ∙ sym k)) in
    at_most_right (wrong_front is_mixed_key x (y ∷ ys)) (least_wrong is_mixed_key (y ∷ ys)) a.place (more a y there (inl refl) (key_back y a (key_then x y a next same)) apart)
last_key x y ys a more there le next same other false e =
    let front : wrong_front is_mixed_key x (y ∷ ys) ≡ Some x.place = ap (λ b. cond b (Some x.place) None) (and_from _ _ next (not_from_false _ e)) in
    at_most_left (wrong_front is_mixed_key x (y ∷ ys)) (least_wrong is_mixed_key (y ∷ ys)) a.place (subst (λ o. AtMost o a.place) (sym front) le)

key_step : (above : Row → Row → Bool) → OrdersKeys above → (x : Row) (xs : List Row) → RisesByKey above (x ∷ xs) → KeyFound xs → (b : Row) → Has b xs → same_key x b ≡ true → eqb x.place b.place ≡ false
    → AtMost (least_wrong is_mixed_key (x ∷ xs)) x.place × AtMost (least_wrong is_mixed_key (x ∷ xs)) b.place
key_step above o x [] s more b there same other = absurd there
key_step above o x (y ∷ ys) s more b there same other =
    let next = key_next above o x y ys b s there same in
    (first_key x y ys b more there next same other (eqb x.place y.place) refl, last_key x y ys b more there ((s.0 b there).1 same) next same other (eqb x.place y.place) refl)

-- two places of one key are seen at neighbours
pub key_found : (above : Row → Row → Bool) → OrdersKeys above → (xs : List Row) → RisesByKey above xs → KeyFound xs
key_found above o [] s a b h k same other = absurd h
key_found above o (x ∷ xs) s a b (inl e) (inl f) same other =
    let p = ap (λ (r : Row). r.place) (sym e ∙ f) in absurd (eqb-false a.place b.place other p)
key_found above o (x ∷ xs) s a b (inl e) (inr k) same other =
    let t = key_step above o x xs s (key_found above o xs s.1) b k (subst (λ r. same_key r b ≡ true) (sym e) same) (subst (λ r. eqb r.place b.place ≡ false) (sym e) other) in
    subst (λ r. AtMost (least_wrong is_mixed_key (x ∷ xs)) r.place) e t.0
key_found above o (x ∷ xs) s a b (inr h) (inl f) same other =
    let apart : eqb b.place a.place ≡ false = ne_eqb b.place a.place (λ k. eqb-false a.place b.place other (sym k)) in
    (key_step above o x xs s (key_found above o xs s.1) a h (subst (λ r. same_key r a ≡ true) (sym f) (key_back a b same)) (subst (λ r. eqb r.place a.place ≡ false) (sym f) apart)).1
key_found above o (x ∷ xs) s a b (inr h) (inr k) same other =
    at_most_right (wrong_front is_mixed_key x xs) (least_wrong is_mixed_key xs) a.place (key_found above o xs s.1 a b h k same other)
