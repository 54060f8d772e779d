-- A change that is accepted keeps all rules that the shape decides, and a record that fits keeps all nine and the form:
-- for the laws that say so.
use Rattle.std.proofs.Common.{◌≡◌, ◌≤◌, ℕ, ◌+◌, ◌&&◌, refl, ap, sym, subst, ◌∙◌, Bool, true, false, cond, List, [], ◌∷◌, map}
use Rattle.std.specs.Prelude.{Option, Some, None, is_none}
use Rattle.std.specs.List.{list_all}
use Rattle.std.proofs.lemmas.Bool.{le-leb, leb-true}
use Rattle.vv_units.specs.declared.geometry.Geometry.{Geometry}
use Rattle.vv_flat.specs.State.{Durable, Volume, RunningClone, RunningCopy, map_volume, map_clone, map_copy}
use Rattle.vv_flat.specs.Chunks.{Entry, shape_of_tables}
use Rattle.vv_flat.specs.Space.{used, reserved}
use Rattle.vv_flat.specs.Profiles.{Misfit}
use Rattle.vv_flat.specs.Refusals.{Verdict, Refuse, Nothing, Accept}
use Rattle.vv_flat.specs.Changes.{Change, judge, apply, apply_shape, changed_indexes, new_stamp}
use Rattle.vv_flat.specs.Form.{is_formed}
use Rattle.vv_flat.specs.Sharing.{shares, least_broken}
use Rattle.vv_flat.specs.Rules.{numbers_rule, names_rule, limits_rule, sizes_rule, space_rule, bindings_rule, clones_rule, copies_rule, keeps_shape_rules, has_its_fields, first_fault_from, first_fault, meets_rules}
use Rattle.vv_flat.specs.Replay.{fits, replayed, is_accepted}
use Rattle.vv_flat.proofs.MapLists.{map-after}
use Rattle.vv_flat.proofs.Shares.{and_left, and_right, and_both}
use Rattle.vv_flat.proofs.Steps.{record_step}
use Rattle.vv_flat.proofs.Pool.{pool_stays}
use Rattle.vv_flat.proofs.Charges.{charges_stay}
use Rattle.vv_flat.proofs.Filled.{geometry-effect}
use Rattle.vv_flat.proofs.Kept.{Kept, kept, keep_all}
use Rattle.vv_flat.proofs.KeepSharing.{sharing_stays}
use Rattle.vv_flat.proofs.KeepForm.{form_stays}
use Rattle.vv_flat.proofs.KeepNumbers.{numbers_stay, names_stay}
use Rattle.vv_flat.proofs.KeepLimits.{limits_stay, sizes_stay}
use Rattle.vv_flat.proofs.KeepBindings.{bindings_stay}
use Rattle.vv_flat.proofs.KeepClones.{clones_stay}
use Rattle.vv_flat.proofs.KeepCopies.{copies_stay}

pub geometry_stays : (d : Durable ℕ) (change : Change) → (apply_shape d change).geometry ≡ d.geometry
unfolding apply_shape apply
geometry_stays d change = geometry-effect (λ s. s) (map (λ _. new_stamp d change) (changed_indexes (λ s. s) d change)) 0 d change

space_stays : (misfit : Option Misfit) (d : Durable ℕ) (change : Change) → Kept d → judge misfit d change ≡ Accept
    → space_rule (apply_shape d change) ≡ true
unfolding space_rule
space_stays misfit d change r accepted =
    let held : used d + reserved d ≤ d.geometry.pool_chunks = leb-true _ _ (and_left _ _ r.space) in
    let stays = pool_stays misfit d change r.clones accepted held in
    let geometry : d.geometry.pool_chunks ≡ (apply_shape d change).geometry.pool_chunks = ap (λ (g : Geometry). g.pool_chunks) (sym (geometry_stays d change)) in
    and_both _ _
    (le-leb _ _ (subst (λ n. used (apply_shape d change) + reserved (apply_shape d change) ≤ n) geometry stays))
    (charges_stay misfit d change r.form r.numbers r.names r.clones r.copies accepted (and_right _ _ r.space))

-- an accepted change keeps them
pub shape_rules_stay : (misfit : Option Misfit) (d : Durable ℕ) (change : Change) → keeps_shape_rules d ≡ true → has_its_fields change ≡ true
    → judge misfit d change ≡ Accept → keeps_shape_rules (apply_shape d change) ≡ true
shape_rules_stay misfit d change rules fields accepted =
    keep_all (apply_shape d change) (record {
      form = form_stays misfit d change rules fields accepted;
      numbers = numbers_stay misfit d change rules fields accepted;
      names = names_stay misfit d change rules fields accepted;
      limits = limits_stay misfit d change rules fields accepted;
      sizes = sizes_stay misfit d change rules fields accepted;
      space = space_stays misfit d change (kept d rules) accepted;
      bindings = bindings_stay misfit d change rules fields accepted;
      clones = clones_stay misfit d change rules fields accepted;
      copies = copies_stay misfit d change rules fields accepted;
    })

-- the form is one of numbers alone, and so that of the shape
pub form_of_shape : (tables : Durable Entry) → is_formed (shape_of_tables tables) ≡ is_formed tables
unfolding is_formed
form_of_shape tables =
    let volumes = map-after (map_volume (λ (e : Entry). e.stamp)) (λ (v : Volume ℕ). v.number) (λ (v : Volume Entry). v.number) (λ v. refl) tables.volumes in
    let clones = map-after (map_clone (λ (e : Entry). e.stamp)) (λ (c : RunningClone ℕ). c.number) (λ (c : RunningClone Entry). c.number) (λ c. refl) tables.clones in
    let copies = map-after (map_copy (λ (e : Entry). e.stamp)) (λ (c : RunningCopy ℕ). c.number) (λ (c : RunningCopy Entry). c.number) (λ c. refl) tables.copies in
    rw (volumes, clones, copies) refl

-- the rules in their order, each with what is found where it fails
abbrev rule_list : Durable Entry → List (Bool × ℕ)
rule_list tables =
    let d = shape_of_tables tables in
    (numbers_rule d, 0) ∷ (names_rule d, 0) ∷ (limits_rule d, 0) ∷ (sizes_rule d, 0) ∷ (space_rule d, 0)
    ∷ (shares tables, least_broken tables) ∷ (bindings_rule d, 0) ∷ (clones_rule d, 0) ∷ (copies_rule d, 0) ∷ []

-- no rule fails exactly where all hold
no_fault : (rule : ℕ) (rs : List (Bool × ℕ)) → is_none (first_fault_from rule rs) ≡ list_all (λ (r : Bool × ℕ). r.0) rs
no_fault rule [] = refl
no_fault rule (r ∷ rest) = go (r.0) (no_fault (rule + 1) rest)
  where
    go : (b : Bool) → is_none (first_fault_from (rule + 1) rest) ≡ list_all (λ (r : Bool × ℕ). r.0) rest
        → is_none (cond b (first_fault_from (rule + 1) rest) (Some (record { rule = rule; found = r.1 }))) ≡ (b && list_all (λ (r : Bool × ℕ). r.0) rest)
    go true e = e
    go false e = refl

rules_all : (tables : Durable Entry) → meets_rules tables ≡ list_all (λ (r : Bool × ℕ). r.0) (rule_list tables)
unfolding first_fault
rules_all tables = no_fault 1 (rule_list tables)

pub rules_met : (tables : Durable Entry) → is_formed tables ≡ true → meets_rules tables ≡ true
    → Kept (shape_of_tables tables) × (shares tables ≡ true)
rules_met tables form e =
    let all : list_all (λ (r : Bool × ℕ). r.0) (rule_list tables) ≡ true = sym (rules_all tables) ∙ e in
    let from_names = and_right _ _ all in
    let from_limits = and_right _ _ from_names in
    let from_sizes = and_right _ _ from_limits in
    let from_space = and_right _ _ from_sizes in
    let from_sharing = and_right _ _ from_space in
    let from_bindings = and_right _ _ from_sharing in
    let from_clones = and_right _ _ from_bindings in
    let from_copies = and_right _ _ from_clones in (
      record {
        form = form_of_shape tables ∙ form;
        numbers = and_left _ _ all;
        names = and_left _ _ from_names;
        limits = and_left _ _ from_limits;
        sizes = and_left _ _ from_sizes;
        space = and_left _ _ from_space;
        bindings = and_left _ _ from_bindings;
        clones = and_left _ _ from_clones;
        copies = and_left _ _ from_copies;
      },
      and_left _ _ from_sharing,
    )

pub meets_all : (tables : Durable Entry) → Kept (shape_of_tables tables) → shares tables ≡ true → meets_rules tables ≡ true
meets_all tables k shared =
    rules_all tables
    ∙ and_both _ _ k.numbers (and_both _ _ k.names (and_both _ _ k.limits (and_both _ _ k.sizes (and_both _ _ k.space
    (and_both _ _ shared (and_both _ _ k.bindings (and_both _ _ k.clones (and_both _ _ k.copies refl))))))))

pub accepted_is : (v : Verdict) → is_accepted v ≡ true → v ≡ Accept
accepted_is (Refuse r) e = absurd (cc)
accepted_is Nothing e = absurd (cc)
accepted_is Accept e = refl

pub fits_accepted : (tables : Durable Entry) (change : Change) (places : List ℕ) → fits tables change places ≡ true
    → judge None (shape_of_tables tables) change ≡ Accept
unfolding fits
fits_accepted tables change places e = accepted_is _ (and_left _ _ (and_left _ _ (and_left _ _ e)))

-- a record that fits keeps the form and all nine rules
pub record_keeps : (tables : Durable Entry) (change : Change) (places : List ℕ) → is_formed tables ≡ true → meets_rules tables ≡ true
    → has_its_fields change ≡ true → fits tables change places ≡ true
    → (is_formed (replayed tables change places) ≡ true) × (meets_rules (replayed tables change places) ≡ true)
record_keeps tables change places form rules fields fit =
    let d = shape_of_tables tables in
    let after = replayed tables change places in
    let met = rules_met tables form rules in
    let stays : keeps_shape_rules (apply_shape d change) ≡ true =
    shape_rules_stay None d change (keep_all d (met.0)) fields (fits_accepted tables change places fit) in
    let shape : keeps_shape_rules (shape_of_tables after) ≡ true =
    ap (λ (e : Durable ℕ). keeps_shape_rules e) (record_step tables change places fit) ∙ stays in
    let all = kept (shape_of_tables after) shape in
    (sym (form_of_shape after) ∙ all.form, meets_all after all (sharing_stays tables change places (keep_all d (met.0)) (met.1) fit))
