-- What a command to a bound volume finds: the volume stands, nothing is to change it, and so a write or an UNMAP that
-- its unit lets through passes the checks of names and of state.
use Rattle.std.proofs.Common.{◌≡◌, ◌≤◌, ℕ, ◌+◌, ◌-◌, ◌*◌, ◌/◌, ◌==◌, ◌||◌, not, refl, ap, sym, ◌∙◌, Bool, true, false, cond, List, [], ◌∷◌, arith}
use Rattle.std.specs.Prelude.{Option, Some, None, is_some, is_none, nat_lt, nat_le}
use Rattle.std.specs.List.{find, list_all, list_any}
use Rattle.std.proofs.lemmas.Bool.{eqb-true, or_parts, ltb-false, not-true}
use Rattle.std.proofs.lemmas.Bool.Decides.{nat_tests}
use Rattle.std.proofs.Math.Nat.{div-le_of_le-mul}
use Rattle.std.proofs.Math.Nat.{mul_comm}
use Rattle.vv_flat.specs.Lists.{if_found}
use Rattle.vv_flat.specs.State.{Address, Binding, Task, Durable, volume_of}
use Rattle.vv_flat.specs.Chunks.{volume_blocks, whole_chunks, unmap_ranges}
use Rattle.vv_flat.specs.Space.{running_target}
use Rattle.vv_flat.specs.Bindings.{is_address, binding_at, is_bound}
use Rattle.vv_flat.specs.Tasks.{is_busy}
use Rattle.vv_flat.specs.Refusals.{Refusal, NotFound, OutOfRange, WriteProtected, ResourceInUse, first_refusal, refuse_if}
use Rattle.vv_units.specs.declared.field.Field.TheVariants.{Vvol as in_vvol}
use Rattle.vv_flat.specs.Rules.{names_rule, bindings_rule}
use Rattle.vv_flat.specs.Changes.{Write, Unmap, stamps_of, size_of, is_snapshot, state_checks}
use Rattle.vv_flat.specs.WellFormed.{is_well_formed_shape}
use Rattle.vv_flat.proofs.Shares.{and_left, and_right}
use Rattle.vv_flat.proofs.Known.{all-found}
use Rattle.vv_flat.proofs.Kept.{Kept, kept}
use Rattle.vv_laws.specs.Units.{is_outside}

found_any : {A : Type 0} (p q : A → Bool) (y : A) (xs : List A) → find p xs ≡ Some y → q y ≡ true → list_any q xs ≡ true
found_any p q y [] e f = cc
found_any p q y (x ∷ xs) e f = go (p x) e (λ g. found_any p q y xs g f)
  where
    go : (b : Bool) → cond b (Some x) (find p xs) ≡ Some y → (find p xs ≡ Some y → list_any q xs ≡ true) → (q x || list_any q xs) ≡ true
    go true g there = let same : x ≡ y = cc in ap (λ z. q z || list_any q xs) same ∙ ap (λ b. b || list_any q xs) f
    go false g there = later (q x) (there g)
      where
        later : (b : Bool) → list_any q xs ≡ true → (b || list_any q xs) ≡ true
        later true h = refl
        later false h = h

-- where no running copy's target is bound, none is the bound volume
not_target : (d : Durable ℕ) (n : ℕ) → is_bound d.bindings n ≡ true → (ts : List Task)
    → list_all (λ (t : Task). if_found (running_target t) (λ m. not (is_bound d.bindings m)) true) ts ≡ true
    → list_any (λ (t : Task). if_found (running_target t) (λ m. m == n) false) ts ≡ false
not_target d n bound [] e = refl
not_target d n bound (t ∷ ts) e =
    go (running_target t) (and_left _ _ e) (not_target d n bound ts (and_right _ _ e))
  where
    other : (m : ℕ) (b : Bool) → (m == n) ≡ b → not (is_bound d.bindings m) ≡ true → b ≡ false
    other m false is f = refl
    other m true is f =
        let same : m ≡ n = eqb-true m n is in
        let free : is_bound d.bindings n ≡ false = ap (is_bound d.bindings) (sym same) ∙ not-true (is_bound d.bindings m) f in
        cc

    go : (o : Option ℕ) → if_found o (λ m. not (is_bound d.bindings m)) true ≡ true
        → list_any (λ (t : Task). if_found (running_target t) (λ m. m == n) false) ts ≡ false
        → (if_found o (λ m. m == n) false || list_any (λ (t : Task). if_found (running_target t) (λ m. m == n) false) ts) ≡ false
    go None f there = there
    go (Some m) f there =
        ap (λ b. b || list_any (λ (t : Task). if_found (running_target t) (λ m. m == n) false) ts) (other m (m == n) refl f) ∙ there

module _ (d : Durable ℕ) (rules : Kept d) (address : Address) (b : Binding) (at : binding_at d.bindings address ≡ Some b) where
  stands : is_some (volume_of d b.volume) ≡ true
  unfolding names_rule
  stands =
      all-found (λ (b : Binding). is_some (volume_of d b.volume)) (λ (b : Binding). is_address b.address address) b d.bindings
      (and_right _ _ (and_left _ _ rules.names)) at

  not_busy : is_busy d b.volume ≡ false
  unfolding bindings_rule
  not_busy =
      not_target d b.volume
      (found_any (λ (b : Binding). is_address b.address address) (λ (c : Binding). c.volume == b.volume) b d.bindings at (same b.volume))
      d.tasks (and_right _ _ rules.bindings)
    where
      same : (n : ℕ) → (n == n) ≡ true
      same n = grind (arith, nat_tests)

some_none : {A : Type 0} (o : Option A) → is_some o ≡ true → is_none o ≡ false
some_none None e = cc
some_none (Some x) e = refl

-- a range of whole chunks inside the volume ends with its last chunk or before
ends_inside : (B size from end : ℕ) → end ≤ B * size → (end / B - from == 0) ≡ false → nat_lt size (from + (end / B - from)) ≡ false
ends_inside B size from end le some =
    let few : end / B ≤ size = div-le_of_le-mul B le in
    grind (arith, nat_tests)

all_inside : (B size : ℕ) (descriptors : List (ℕ × ℕ)) → list_any (is_outside (size * B)) descriptors ≡ false
    → list_any (λ (r : ℕ × ℕ). nat_lt size (r.0 + r.1)) (unmap_ranges B descriptors) ≡ false
all_inside B size [] e = refl
all_inside B size (r ∷ rs) e =
    let parts = or_parts (is_outside (size * B) r) (list_any (is_outside (size * B)) rs) e in
    let ends : (nat_lt (size * B) (r.0 + r.1)) ≡ false = (or_parts (nat_le (size * B) r.0) (nat_lt (size * B) (r.0 + r.1)) (parts.0)).1 in
    let le : r.0 + r.1 ≤ size * B = ltb-false (size * B) (r.0 + r.1) ends in
    go ((whole_chunks B r.0 r.1).1 == 0) refl
    (ends_inside B size ((r.0 + B - 1) / B) (r.0 + r.1) (rw (mul_comm B size) le))
    (all_inside B size rs (parts.1))
  where
    go : (b : Bool) → ((whole_chunks B r.0 r.1).1 == 0) ≡ b
        → (((whole_chunks B r.0 r.1).1 == 0) ≡ false → nat_lt size ((whole_chunks B r.0 r.1).0 + (whole_chunks B r.0 r.1).1) ≡ false)
        → list_any (λ (r : ℕ × ℕ). nat_lt size (r.0 + r.1)) (unmap_ranges B rs) ≡ false
        → list_any (λ (r : ℕ × ℕ). nat_lt size (r.0 + r.1)) (cond (not b) (whole_chunks B r.0 r.1 ∷ unmap_ranges B rs) (unmap_ranges B rs)) ≡ false
    go true is here there = there
    go false is here there = ap (λ b. b || list_any (λ (r : ℕ × ℕ). nat_lt size (r.0 + r.1)) (unmap_ranges B rs)) (here is) ∙ there

four : (a b c e : Bool) (r s t u : Refusal) → a ≡ false → b ≡ false → c ≡ false → e ≡ false
    → first_refusal (refuse_if a r ∷ refuse_if b s ∷ refuse_if c t ∷ refuse_if e u ∷ []) ≡ None
four false false false false r s t u h i j k = refl
four true b c e r s t u h i j k = cc
four false true c e r s t u h i j k = cc
four false false true e r s t u h i j k = cc
four false false false true r s t u h i j k = cc

pub write_passes : (d : Durable ℕ) → is_well_formed_shape d ≡ true → (address : Address) (b : Binding) → binding_at d.bindings address ≡ Some b
    → (first blocks : ℕ) → is_outside (volume_blocks d.geometry.chunk_blocks (stamps_of d b.volume)) (first, blocks) ≡ false
    → is_snapshot d b.volume ≡ false → first_refusal (state_checks d (Write b.volume first blocks)) ≡ None
unfolding is_well_formed_shape state_checks
write_passes d well address b at first blocks inside plain =
    let rules : Kept d = kept d (and_left _ _ well) in
    four _ _ _ _ (NotFound in_vvol) OutOfRange WriteProtected (ResourceInUse in_vvol)
    (some_none (volume_of d b.volume) (stands d rules address b at)) inside plain (not_busy d rules address b at)

pub unmap_passes : (d : Durable ℕ) → is_well_formed_shape d ≡ true → (address : Address) (b : Binding) → binding_at d.bindings address ≡ Some b
    → (descriptors : List (ℕ × ℕ)) → list_any (is_outside (volume_blocks d.geometry.chunk_blocks (stamps_of d b.volume))) descriptors ≡ false
    → is_snapshot d b.volume ≡ false
    → first_refusal (state_checks d (Unmap b.volume (unmap_ranges d.geometry.chunk_blocks descriptors))) ≡ None
unfolding is_well_formed_shape state_checks
unmap_passes d well address b at descriptors inside plain =
    let rules : Kept d = kept d (and_left _ _ well) in
    four _ _ _ _ (NotFound in_vvol) OutOfRange WriteProtected (ResourceInUse in_vvol)
    (some_none (volume_of d b.volume) (stands d rules address b at))
    (all_inside d.geometry.chunk_blocks (size_of d b.volume) descriptors inside) plain (not_busy d rules address b at)

-- the bound volume stands, and no running copy is to change it
pub bound_stands : (d : Durable ℕ) → is_well_formed_shape d ≡ true → (address : Address) (b : Binding) → binding_at d.bindings address ≡ Some b
    → (is_some (volume_of d b.volume) ≡ true) × (is_busy d b.volume ≡ false)
unfolding is_well_formed_shape
bound_stands d well address b at =
    let rules : Kept d = kept d (and_left _ _ well) in (stands d rules address b at, not_busy d rules address b at)
