-- Containers by their numbers, and what they are charged for.
use Rattle.std.proofs.Common.{ℕ, ◌≡◌, ◌<◌, ◌≤◌, ◌==◌, Bool, true, false, cond, List, [], ◌∷◌, Option, Some, None, option_map, refl, sym, ap, subst, ◌∙◌, arith}
use Rattle.std.specs.Prelude.{IsSome, nat_lt}
use Rattle.std.specs.List.{find}
use Rattle.std.proofs.lemmas.Bool.{eqb-true, ne_eqb, ltb-true}
use Rattle.std.proofs.lemmas.List.Elements.{All-nil, All-cons, All-head, All-tail}
use Rattle.vv_flat.specs.Lists.{all_above, all_rising}
use Rattle.vv_flat.specs.State.{Container, Durable}
use Rattle.vv_flat.specs.Chunks.{Entry, shape_of_tables}
use Rattle.vv_flat.specs.Space.{charge}
use Rattle.vv_flat.proofs.Shares.{and_left, and_right}
use Rattle.vv_flat.proofs.Steps.{find-passes}
use Rattle.vv_container.specs.Table.{ChargedContainer, is_numbered, row_of, charge_of, numbers, with_charge}
use Rattle.vv_vols.proofs.FoundSplit.{all_found}
use Rattle.vv_tables.specs.Seen.{plain_containers}
use Rattle.vv_tables.specs.Kept.{AreCharged}
use Rattle.vv_tables.proofs.Walks.{find_mapped}

-- the container of a number, without its charge
pub container_found : (rows : List ChargedContainer) (n : ℕ)
    → find (λ (k : Container). k.number == n) (plain_containers rows) ≡ option_map (λ (r : ChargedContainer). r.container) (row_of rows n)
container_found rows n = find_mapped (λ (r : ChargedContainer). r.container) (is_numbered n) (λ (k : Container). k.number == n) (λ r. refl) rows

pub row_stands : (rows : List ChargedContainer) (n : ℕ) → IsSome (find (λ (k : Container). k.number == n) (plain_containers rows)) → IsSome (row_of rows n)
row_stands rows n some = go (row_of rows n) (subst (λ o. IsSome o) (container_found rows n) some)
  where
    go : (o : Option ChargedContainer) → IsSome (option_map (λ (r : ChargedContainer). r.container) o) → IsSome o
    go None h = h
    go (Some r) h = refl

-- what is kept as its charge is what the definitions count
pub charge_is : (d : Durable Entry) (rows : List ChargedContainer) (n charged : ℕ) → AreCharged d rows → charge_of rows n ≡ Some charged
    → charged ≡ charge (shape_of_tables d) n
charge_is d rows n charged all e = go (row_of rows n) refl e
  where
    go : (o : Option ChargedContainer) → row_of rows n ≡ o → option_map (λ (r : ChargedContainer). r.charged) o ≡ Some charged → charged ≡ charge (shape_of_tables d) n
    go None found e = absurd (cc)
    go (Some r) found e =
        let same : charged ≡ r.charged = cc in
        same
        ∙ all_found (is_numbered n) (λ (r : ChargedContainer). r.charged ≡ charge (shape_of_tables d) r.container.number) rows r all found
        ∙ ap (charge (shape_of_tables d)) (eqb-true r.container.number n (find-passes (is_numbered n) rows r found))

-- ---- charges after a change
-- no charge changes
pub charges_stay : (d d' : Durable Entry) (rows : List ChargedContainer) → ((k : ℕ) → charge (shape_of_tables d') k ≡ charge (shape_of_tables d) k)
    → AreCharged d rows → AreCharged d' rows
charges_stay d d' [] same all = All-nil (λ (r : ChargedContainer). r.charged ≡ charge (shape_of_tables d') r.container.number)
charges_stay d d' (r ∷ rs) same all =
    All-cons (λ (r : ChargedContainer). r.charged ≡ charge (shape_of_tables d') r.container.number) r rs
    (All-head (λ (r : ChargedContainer). r.charged ≡ charge (shape_of_tables d) r.container.number) r rs all ∙ sym (same r.container.number))
    (charges_stay d d' rs same (All-tail (λ (r : ChargedContainer). r.charged ≡ charge (shape_of_tables d) r.container.number) r rs all))

-- .. of containers above a number but that of the number
charges_above : (d d' : Durable Entry) (n from : ℕ) (rows : List ChargedContainer) → n ≤ from → all_above from (numbers rows) ≡ true
    → ((k : ℕ) → (k == n) ≡ false → charge (shape_of_tables d') k ≡ charge (shape_of_tables d) k) → AreCharged d rows → AreCharged d' rows
charges_above d d' n from [] low above same all = All-nil (λ (r : ChargedContainer). r.charged ≡ charge (shape_of_tables d') r.container.number)
charges_above d d' n from (r ∷ rs) low above same all =
    let lt : from < r.container.number = ltb-true from r.container.number (and_left (nat_lt from r.container.number) (all_above r.container.number (numbers rs)) above) in
    let apart : (r.container.number == n) ≡ false = ne_eqb r.container.number n (λ e. absurd (omega arith)) in
    All-cons (λ (r : ChargedContainer). r.charged ≡ charge (shape_of_tables d') r.container.number) r rs
    (All-head (λ (r : ChargedContainer). r.charged ≡ charge (shape_of_tables d) r.container.number) r rs all ∙ sym (same r.container.number apart))
    (charges_above d d' n r.container.number rs (omega arith) (and_right (nat_lt from r.container.number) (all_above r.container.number (numbers rs)) above) same
    (All-tail (λ (r : ChargedContainer). r.charged ≡ charge (shape_of_tables d) r.container.number) r rs all))

-- the charge of one container changes
set_step : (d d' : Durable Entry) (n charged : ℕ) (r : ChargedContainer) (rs : List ChargedContainer) → all_above r.container.number (numbers rs) ≡ true
    → charged ≡ charge (shape_of_tables d') n
    → ((k : ℕ) → (k == n) ≡ false → charge (shape_of_tables d') k ≡ charge (shape_of_tables d) k) → AreCharged d (r ∷ rs)
    → (b : Bool) → (r.container.number == n) ≡ b → AreCharged d' (with_charge rs n charged)
    → AreCharged d' (cond b (record r { charged = charged } ∷ rs) (r ∷ with_charge rs n charged))
set_step d d' n charged r rs behind is same all true at later =
    let number : r.container.number ≡ n = eqb-true r.container.number n at in
    All-cons (λ (r : ChargedContainer). r.charged ≡ charge (shape_of_tables d') r.container.number) (record r { charged = charged }) rs
    (is ∙ ap (charge (shape_of_tables d')) (sym number))
    (charges_above d d' n r.container.number rs (omega (arith, number)) behind same
    (All-tail (λ (r : ChargedContainer). r.charged ≡ charge (shape_of_tables d) r.container.number) r rs all))
set_step d d' n charged r rs behind is same all false at later =
    All-cons (λ (r : ChargedContainer). r.charged ≡ charge (shape_of_tables d') r.container.number) r (with_charge rs n charged)
    (All-head (λ (r : ChargedContainer). r.charged ≡ charge (shape_of_tables d) r.container.number) r rs all ∙ sym (same r.container.number at)) later

set_from : (d d' : Durable Entry) (n charged from : ℕ) (rows : List ChargedContainer) → all_above from (numbers rows) ≡ true → charged ≡ charge (shape_of_tables d') n
    → ((k : ℕ) → (k == n) ≡ false → charge (shape_of_tables d') k ≡ charge (shape_of_tables d) k) → AreCharged d rows → AreCharged d' (with_charge rows n charged)
set_from d d' n charged from [] above is same all = All-nil (λ (r : ChargedContainer). r.charged ≡ charge (shape_of_tables d') r.container.number)
set_from d d' n charged from (r ∷ rs) above is same all =
    let behind = and_right (nat_lt from r.container.number) (all_above r.container.number (numbers rs)) above in
    set_step d d' n charged r rs behind is same all (r.container.number == n) refl
    (set_from d d' n charged r.container.number rs behind is same (All-tail (λ (r : ChargedContainer). r.charged ≡ charge (shape_of_tables d) r.container.number) r rs all))

pub charge_set : (d d' : Durable Entry) (rows : List ChargedContainer) (n charged : ℕ) → all_rising (numbers rows) ≡ true → charged ≡ charge (shape_of_tables d') n
    → ((k : ℕ) → (k == n) ≡ false → charge (shape_of_tables d') k ≡ charge (shape_of_tables d) k) → AreCharged d rows → AreCharged d' (with_charge rows n charged)
charge_set d d' [] n charged rising is same all = All-nil (λ (r : ChargedContainer). r.charged ≡ charge (shape_of_tables d') r.container.number)
charge_set d d' (r ∷ rs) n charged rising is same all =
    set_step d d' n charged r rs rising is same all (r.container.number == n) refl
    (set_from d d' n charged r.container.number rs rising is same (All-tail (λ (r : ChargedContainer). r.charged ≡ charge (shape_of_tables d) r.container.number) r rs all))

-- and the containers are seen as before
pub plain_charged : (rows : List ChargedContainer) (n charged : ℕ) → plain_containers (with_charge rows n charged) ≡ plain_containers rows
plain_charged [] n charged = refl
plain_charged (r ∷ rs) n charged = go (r.container.number == n) (plain_charged rs n charged)
  where
    go : (b : Bool) → plain_containers (with_charge rs n charged) ≡ plain_containers rs
        → plain_containers (cond b (record r { charged = charged } ∷ rs) (r ∷ with_charge rs n charged)) ≡ plain_containers (r ∷ rs)
    go true rest = refl
    go false rest = ap (λ ks. r.container ∷ ks) rest
