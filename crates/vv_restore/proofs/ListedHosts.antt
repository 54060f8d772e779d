-- For well-formed tables that are put together again: each context of a host may be added behind those ahead of it, and so may
-- each binding.
use Rattle.std.proofs.Common.{ℕ, ◌≡◌, ◌<◌, ◌≤◌, ◌==◌, ◌&&◌, ◌||◌, not, Bool, true, false, cond, List, [], ◌∷◌, ◌++◌, length, Some, None, refl, sym, ap, ◌∙◌, arith, subst}
use Rattle.std.specs.Prelude.{nat_le, nat_lt}
use Rattle.std.specs.List.{list_all, list_any}
use Rattle.std.proofs.lemmas.Bool.{leb-true, lt-ltb}
use Rattle.std.proofs.lemmas.Bool.Decides.{nat_tests}
use Rattle.vv_flat.specs.Lists.{all_different}
use Rattle.vv_flat.specs.State.{Context, Address, Binding, Durable}
use Rattle.vv_flat.specs.Chunks.{Entry, shape_of_tables}
use Rattle.vv_flat.specs.Bindings.{endpoints_of, binding_of, is_binding_of, is_below}
use Rattle.vv_flat.specs.Form.{is_formed, all_below, bindings_rise}
use Rattle.vv_flat.specs.Rules.{is_single, bindings_rule}
use Rattle.vv_flat.specs.Fields.{is_number, are_endpoints, have_forms}
use Rattle.vv_flat.specs.WellFormed.{is_well_formed}
use Rattle.vv_flat.proofs.Shares.{and_left, and_right, and_both, list_all-follows}
use Rattle.vv_flat.proofs.Kept.{kept}
use Rattle.vv_laws.proofs.WellFormed.{shape_rules}
use Rattle.vv_bind.specs.Table.{IsHost}
use Rattle.vv_tables.proofs.Limits.{formed}
use Rattle.vv_restore.proofs.TakenItems.{item_passes}
use Rattle.vv_restore.proofs.ListedItems.{listed_fewer}
use Rattle.vv_restore.proofs.ListedContainers.{limits_of, forms_of}

host_of : (host : ℕ) → (nat_le 1 host && nat_le host 64) ≡ true → IsHost host
host_of host e = record {
  from_one = leb-true 1 host (and_left _ _ e);
  within = leb-true host 64 (and_right _ _ e);
}

-- ---- contexts
abbrev context_within : Context → Bool
context_within c = (nat_le 1 c.host && nat_le c.host 64) && nat_le (length c.endpoints) 8

abbrev context_fields : Context → Bool
context_fields c = are_endpoints c.endpoints

context_forms : (d : Durable Entry) → have_forms d ≡ true → list_all context_fields d.contexts ≡ true
unfolding have_forms
context_forms d e = and_right _ _ (and_left _ _ (and_left _ _ (and_left _ _ e)))

above_zero : (e : ℕ) → (is_number 16 e && nat_le 1 e) ≡ true → nat_lt 0 e ≡ true
above_zero e both = let one : 1 ≤ e = leb-true 1 e (and_right _ _ both) in lt-ltb 0 e one

module _ (d : Durable Entry) (well : is_well_formed d ≡ true) (front : List Context) (c : Context) (back : List Context)
    (is : d.contexts ≡ front ++ c ∷ back) where
  within : context_within c ≡ true
  within = item_passes context_within front c back (sym (ap (λ (cs : List Context). list_all context_within cs) is) ∙ (limits_of d well).contexts)

  fields : context_fields c ≡ true
  fields = item_passes context_fields front c back (sym (ap (λ (cs : List Context). list_all context_fields cs) is) ∙ context_forms d (forms_of d well))

  pub context_host : IsHost c.host
  context_host = host_of c.host (and_left _ _ within)

  pub context_few : length c.endpoints ≤ 8
  context_few = leb-true (length c.endpoints) 8 (and_right _ _ within)

  pub context_different : all_different c.endpoints ≡ true
  context_different = and_right _ _ fields

  pub context_not_zero : list_all (λ e. nat_lt 0 e) c.endpoints ≡ true
  context_not_zero = list_all-follows (λ e. is_number 16 e && nat_le 1 e) (λ e. nat_lt 0 e) above_zero c.endpoints (and_left _ _ fields)

-- ---- the order of bindings
address_through : (x y z : Address) → is_below x y ≡ true → is_below y z ≡ true → is_below x z ≡ true
address_through x y z p q = grind (arith, nat_tests)

-- a binding behind others that rise is above them, and above what is below them all
record IsAboveThem (a : Address) (front : List Binding) (b : Binding) : Type 0 where
  first : is_below a b.address ≡ true
  others : list_all (λ (c : Binding). is_below c.address b.address) front ≡ true

above_them : (a : Address) (front : List Binding) (b : Binding) (back : List Binding) → all_below a (front ++ b ∷ back) ≡ true → IsAboveThem a front b
above_them a [] b back e = record { first = and_left (is_below a b.address) (all_below b.address back) e; others = refl }
above_them a (x ∷ xs) b back e =
    let rest = above_them x.address xs b back (and_right (is_below a x.address) (all_below x.address (xs ++ b ∷ back)) e) in
    record {
      first = address_through a x.address b.address (and_left (is_below a x.address) (all_below x.address (xs ++ b ∷ back)) e) rest.first;
      others = and_both (is_below x.address b.address) (list_all (λ (c : Binding). is_below c.address b.address) xs) rest.first rest.others;
    }

all_under : (front : List Binding) (b : Binding) (back : List Binding) → bindings_rise (front ++ b ∷ back) ≡ true
    → list_all (λ (c : Binding). is_below c.address b.address) front ≡ true
all_under [] b back e = refl
all_under (x ∷ xs) b back e =
    let rest = above_them x.address xs b back e in
    and_both (is_below x.address b.address) (list_all (λ (c : Binding). is_below c.address b.address) xs) rest.first rest.others

bindings_order : (d : Durable Entry) → is_formed d ≡ true → bindings_rise d.bindings ≡ true
unfolding is_formed
bindings_order d e = and_right _ _ (and_left _ _ (and_left _ _ (and_left _ _ e)))

-- ---- one binding of a volume for each host
none_listed : {A : Type 0} (p : A → Bool) (front : List A) (x : A) (back : List A) → list_any p (front ++ x ∷ back) ≡ false → p x ≡ false
none_listed p [] x back e = first (p x) (list_any p back) e
  where
    first : (b rest : Bool) → (b || rest) ≡ false → b ≡ false
    first true rest e = e
    first false rest e = refl
none_listed p (y ∷ ys) x back e = none_listed p ys x back (behind (p y) (list_any p (ys ++ x ∷ back)) e)
  where
    behind : (b rest : Bool) → (b || rest) ≡ false → rest ≡ false
    behind true rest e = absurd (cc)
    behind false rest e = e

not_so : (b : Bool) → not b ≡ true → b ≡ false
not_so true e = absurd (cc)
not_so false e = refl

turned : (x b : Binding) → is_binding_of x.address.host x.volume b ≡ false → is_binding_of b.address.host b.volume x ≡ false
turned x b e = go x.address.host x.volume b.address.host b.volume e
  where
    go : (h v h' v' : ℕ) → ((h' == h) && (v' == v)) ≡ false → ((h == h') && (v == v')) ≡ false
    go h v h' v' e = grind (arith, nat_tests)

no_other : (front : List Binding) (b : Binding) (back : List Binding) → is_single (front ++ b ∷ back) ≡ true → binding_of front b.address.host b.volume ≡ None
no_other [] b back e = refl
no_other (x ∷ xs) b back e =
    let apart : is_binding_of x.address.host x.volume b ≡ false =
    none_listed (is_binding_of x.address.host x.volume) xs b back
    (not_so (list_any (is_binding_of x.address.host x.volume) (xs ++ b ∷ back)) (and_left (not (list_any (is_binding_of x.address.host x.volume) (xs ++ b ∷ back))) (is_single (xs ++ b ∷ back)) e)) in
    ap (λ t. cond t (Some x) (binding_of xs b.address.host b.volume)) (turned x b apart)
    ∙ no_other xs b back (and_right (not (list_any (is_binding_of x.address.host x.volume) (xs ++ b ∷ back))) (is_single (xs ++ b ∷ back)) e)

-- ---- bindings
abbrev binding_within : Binding → Bool
binding_within b = (nat_le 1 b.address.host && nat_le b.address.host 64) && nat_le b.count 65535

abbrev is_placed : List Context → Binding → Bool
is_placed contexts b =
    list_any (λ e. e == b.address.endpoint) (endpoints_of contexts b.address.host) && nat_le 1 b.address.secondary && nat_le 1 b.count

record Placed (d : Durable Entry) : Type 0 where
  placed : list_all (is_placed d.contexts) d.bindings ≡ true
  single : is_single d.bindings ≡ true

bindings_placed : (d : Durable Entry) → bindings_rule (shape_of_tables d) ≡ true → Placed d
unfolding bindings_rule
bindings_placed d e = record { placed = and_left _ _ (and_left _ _ e); single = and_right _ _ (and_left _ _ e) }

placed_of : (d : Durable Entry) → is_well_formed d ≡ true → Placed d
placed_of d well = bindings_placed d (kept (shape_of_tables d) (shape_rules d well)).bindings

module _ (d : Durable Entry) (well : is_well_formed d ≡ true) (front : List Binding) (b : Binding) (back : List Binding)
    (is : d.bindings ≡ front ++ b ∷ back) where
  bound_within : binding_within b ≡ true
  bound_within = item_passes binding_within front b back (sym (ap (λ (bs : List Binding). list_all binding_within bs) is) ∙ (limits_of d well).bindings)

  bound_placed : is_placed d.contexts b ≡ true
  bound_placed =
      item_passes (is_placed d.contexts) front b back (sym (ap (λ (bs : List Binding). list_all (is_placed d.contexts) bs) is) ∙ (placed_of d well).placed)

  pub binding_host : IsHost b.address.host
  binding_host = host_of b.address.host (and_left _ _ bound_within)

  pub binding_room : length front < 1024
  binding_room = listed_fewer 1024 front b back (subst (λ (bs : List Binding). length bs ≤ 1024) is (limits_of d well).bindings_few)

  pub binding_above : list_all (λ (c : Binding). is_below c.address b.address) front ≡ true
  binding_above = all_under front b back (sym (ap (λ (bs : List Binding). bindings_rise bs) is) ∙ bindings_order d (formed d well))

  pub binding_listed : list_any (λ e. e == b.address.endpoint) (endpoints_of d.contexts b.address.host) ≡ true
  binding_listed = and_left _ _ (and_left _ _ bound_placed)

  pub binding_secondary : 1 ≤ b.address.secondary
  binding_secondary = leb-true 1 b.address.secondary (and_right _ _ (and_left _ _ bound_placed))

  pub binding_count : 1 ≤ b.count
  binding_count = leb-true 1 b.count (and_right _ _ bound_placed)

  pub binding_alone : binding_of front b.address.host b.volume ≡ None
  binding_alone = no_other front b back (sym (ap (λ (bs : List Binding). is_single bs) is) ∙ (placed_of d well).single)
