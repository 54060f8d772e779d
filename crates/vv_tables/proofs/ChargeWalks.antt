-- Containers that are charged afresh, one after the other, and the volumes of a shelf as they are counted for that.
use Rattle.std.proofs.Common.{ℕ, zero, suc, ◌≡◌, ◌+◌, ◌<◌, ◌==◌, Bool, true, false, cond, List, [], ◌∷◌, length, take, get_or, Option, Some, refl, sym, ap, subst, ◌∙◌, arith}
use Rattle.std.specs.Prelude.{slice_get, is_some, IsSome, nat_lt}
use Rattle.std.specs.List.{find, All}
use Rattle.std.proofs.lemmas.Bool.{ltb-true, eq-eqb, ne_eqb}
use Rattle.std.proofs.lemmas.List.{length-map}
use Rattle.std.proofs.lemmas.List.Elements.{All-nil, All-cons, All-head, All-tail}
use Rattle.std.proofs.lemmas.List.Sums.{sum_by_more}
use Rattle.std.proofs.lemmas.Option.{slice_get_within, get_or_from_slice_get}
use Rattle.vv_flat.specs.Lists.{if_found, all_above, all_rising}
use Rattle.vv_flat.specs.State.{Volume}
use Rattle.vv_flat.specs.Chunks.{Entry}
use Rattle.vv_flat.proofs.Shares.{and_left, and_right}
use Rattle.vv_container.specs.Table.{ChargedContainer, row_of, with_charge, numbers}
use Rattle.vv_tables.specs.Charges.{volume_charge, volumes_charge}
use Rattle.vv_tables.proofs.Walks.{Located}
use Rattle.vv_tables.proofs.Containers.{plain_charged}

-- ---- the volumes of a container
abbrev pub volume_number : Volume Entry → ℕ
volume_number v = v.number

pub volume_next : (k : ℕ) (vs : List (Volume Entry)) (at n sum one : ℕ) → Located volume_number vs at n → sum ≡ volumes_charge (take at vs) k
    → one ≡ if_found (find (λ (v : Volume Entry). v.number == n) vs) (volume_charge k) 0 → sum + one ≡ volumes_charge (take (at + 1) vs) k
volume_next k vs at n sum one l so_far is =
    let within : at < length vs = slice_get_within vs at l.item l.at in
    let here : get_or vs at l.item ≡ l.item = get_or_from_slice_get vs at l.item l.item l.at in
    let is_one : one ≡ volume_charge k l.item = is ∙ ap (λ (o : Option (Volume Entry)). if_found o (volume_charge k) 0) l.found in
    let same : volume_charge k (get_or vs at l.item) ≡ volume_charge k l.item = ap (volume_charge k) here in
    let more : volumes_charge (take (at + 1) vs) k ≡ volumes_charge (take at vs) k + volume_charge k (get_or vs at l.item) = sum_by_more (volume_charge k) vs at l.item within in
    ap (λ m. m + one) so_far ∙ ap (λ m. volumes_charge (take at vs) k + m) (is_one ∙ sym same) ∙ sym more

-- ---- containers
abbrev pub container_number : ChargedContainer → ℕ
container_number r = r.container.number

rising_behind : (n : ℕ) (ns : List ℕ) → all_above n ns ≡ true → all_rising ns ≡ true
rising_behind n [] e = refl
rising_behind n (m ∷ ms) e = and_right (nat_lt n m) (all_above m ms) e

above_there : (from : ℕ) (rows : List ChargedContainer) (at n : ℕ) → all_above from (numbers rows) ≡ true → Some n ≡ slice_get (numbers rows) at → from < n
above_there from [] at n above e = absurd (cc)
above_there from (r ∷ rs) zero n above e =
    let same : n ≡ r.container.number = cc in
    let lt : from < r.container.number = ltb-true from r.container.number (and_left (nat_lt from r.container.number) (all_above r.container.number (numbers rs)) above) in
    omega (arith, same, lt)
above_there from (r ∷ rs) (suc at) n above e =
    let lt : from < r.container.number = ltb-true from r.container.number (and_left (nat_lt from r.container.number) (all_above r.container.number (numbers rs)) above) in
    let rest : r.container.number < n = above_there r.container.number rs at n (and_right (nat_lt from r.container.number) (all_above r.container.number (numbers rs)) above) e in
    omega (arith, lt, rest)

pub row_there : (rows : List ChargedContainer) (at n : ℕ) → all_rising (numbers rows) ≡ true → Some n ≡ slice_get (numbers rows) at → IsSome (row_of rows n)
row_there [] at n rising e = absurd (cc)
row_there (r ∷ rs) zero n rising e =
    let same : r.container.number ≡ n = cc in
    ap (λ b. is_some (cond b (Some r) (row_of rs n))) (eq-eqb r.container.number n same)
row_there (r ∷ rs) (suc at) n rising e = go (r.container.number == n) (row_there rs at n (rising_behind r.container.number (numbers rs) rising) e)
  where
    go : (b : Bool) → IsSome (row_of rs n) → is_some (cond b (Some r) (row_of rs n)) ≡ true
    go true rest = refl
    go false rest = rest

-- one container more is charged
pub charged_next : (f : ℕ → ℕ) (rows : List ChargedContainer) (at n : ℕ) → all_rising (numbers rows) ≡ true → Some n ≡ slice_get (numbers rows) at
    → All (λ (r : ChargedContainer). r.charged ≡ f r.container.number) (take at rows)
    → All (λ (r : ChargedContainer). r.charged ≡ f r.container.number) (take (suc at) (with_charge rows n (f n)))
charged_next f [] at n rising e all = absurd (cc)
charged_next f (r ∷ rs) zero n rising e all =
    let same : r.container.number ≡ n = cc in
    subst (λ b. All (λ (r : ChargedContainer). r.charged ≡ f r.container.number) (take 1 (cond b (record r { charged = f n } ∷ rs) (r ∷ with_charge rs n (f n)))))
    (sym (eq-eqb r.container.number n same))
    (All-cons (λ (r : ChargedContainer). r.charged ≡ f r.container.number) (record r { charged = f n }) [] (ap f (sym same))
    (All-nil (λ (r : ChargedContainer). r.charged ≡ f r.container.number)))
charged_next f (r ∷ rs) (suc at) n rising e all =
    let below : r.container.number < n = above_there r.container.number rs at n rising e in
    subst (λ b. All (λ (r : ChargedContainer). r.charged ≡ f r.container.number) (take (suc (suc at)) (cond b (record r { charged = f n } ∷ rs) (r ∷ with_charge rs n (f n)))))
    (sym (ne_eqb r.container.number n (λ same. absurd (omega (arith, below, same)))))
    (All-cons (λ (r : ChargedContainer). r.charged ≡ f r.container.number) r (take (suc at) (with_charge rs n (f n)))
    (All-head (λ (r : ChargedContainer). r.charged ≡ f r.container.number) r (take at rs) all)
    (charged_next f rs at n (rising_behind r.container.number (numbers rs) rising) e (All-tail (λ (r : ChargedContainer). r.charged ≡ f r.container.number) r (take at rs) all)))

pub length-charged : (rows : List ChargedContainer) (n charged : ℕ) → length (with_charge rows n charged) ≡ length rows
length-charged rows n charged =
    sym (length-map (with_charge rows n charged) (λ (r : ChargedContainer). r.container)) ∙ ap length (plain_charged rows n charged)
    ∙ length-map rows (λ (r : ChargedContainer). r.container)

pub numbers_within : (rows : List ChargedContainer) (at n : ℕ) → Some n ≡ slice_get (numbers rows) at → at < length rows
numbers_within rows at n e =
    let h : at < length (numbers rows) = slice_get_within (numbers rows) at n (sym e) in
    omega (arith, h, length-map rows (λ (r : ChargedContainer). r.container.number))

-- each container is charged as a function says
abbrev pub AreAt : (ℕ → ℕ) → List ChargedContainer → Type 0
AreAt f rows = All (λ (r : ChargedContainer). r.charged ≡ f r.container.number) rows
