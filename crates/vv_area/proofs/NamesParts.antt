-- What is named stands, told by sorted numbers.
use Rattle.std.proofs.Common.{◌≡◌, ℕ, ◌==◌, ◌&&◌, ◌||◌, ◌++◌, not, Bool, true, false, cond, List, [], ◌∷◌, map, refl, sym, ap, subst, ◌∙◌}
use Rattle.std.specs.Prelude.{filter, is_some, Option, Some, None}
use Rattle.std.specs.List.{list_all, list_any, find}
use Rattle.std.specs.List.Sorted.{IsPermutation}
use Rattle.std.proofs.lemmas.List.Folds.{list_any-append}
use Rattle.std.proofs.lemmas.List.Sorted.{list_any-IsPermutation}
use Rattle.std.proofs.lemmas.Bool.{eqb-true, and_parts, or_parts, not-true}
use Rattle.vv_units.specs.declared.volume.VolumeKind.{VolumeKind}
use Rattle.vv_units.specs.declared.volume.VolumeKind.TheVariants.{Plain, SnapshotOf, FastCloneOf, FullCloneOf}
use Rattle.vv_flat.specs.Lists.{if_found, all_different}
use Rattle.vv_flat.specs.State.{Container, Volume, Binding, Task, RunningClone, Durable, map_volume, map_clone, container_of, volume_of}
use Rattle.vv_flat.specs.Chunks.{Entry, shape_of_tables}
use Rattle.vv_flat.specs.Space.{running_target}
use Rattle.vv_flat.specs.Changes.{is_snapshot_kind, is_snapshot}
use Rattle.vv_flat.specs.Rules.{is_of_no_snapshot, numbers_rule, names_rule}
use Rattle.vv_area.specs.Ruled.{all_numbers, snapshot_numbers, is_of_none}
use Rattle.vv_area.proofs.Shapes.{stamp_of, all_mapped, all_same}
use Rattle.vv_flat.proofs.MapLists.{map-after}
use Rattle.vv_area.proofs.Conjunctions.{conj_4}
use Rattle.vv_area.proofs.RuleParts.{numbers_parts}

some_found : {A : Type 0} (p : A → Bool) (x : A) (xs : List A) (b : Bool) → is_some (find p xs) ≡ list_any p xs → is_some (cond b (Some x) (find p xs)) ≡ (b || list_any p xs)
some_found p x xs true e = refl
some_found p x xs false e = e

-- one is found where there is one
pub found_any : {A : Type 0} (p : A → Bool) (xs : List A) → is_some (find p xs) ≡ list_any p xs
found_any p [] = refl
found_any p (x ∷ xs) = some_found p x xs (p x) (found_any p xs)

pub any_mapped : {A B : Type 0} (f : A → B) (p : B → Bool) (xs : List A) → list_any p (map f xs) ≡ list_any (λ x. p (f x)) xs
any_mapped f p [] = refl
any_mapped f p (x ∷ xs) = ap (λ b. p (f x) || b) (any_mapped f p xs)

-- an item with a number is found where the number is among the sorted ones
pub number_found : {A : Type 0} (number_of : A → ℕ) (xs : List A) (sorted : List ℕ) → IsPermutation (map number_of xs) sorted → (n : ℕ)
    → list_any (λ m. m == n) sorted ≡ is_some (find (λ x. number_of x == n) xs)
number_found number_of xs sorted p n =
    sym (list_any-IsPermutation (λ m. m == n) (map number_of xs) sorted p) ∙ any_mapped number_of (λ m. m == n) xs ∙ sym (found_any (λ x. number_of x == n) xs)

module _ {A : Type 0} (number_of : A → ℕ) (p : A → Bool) (n : ℕ) where
  abbrev has_number : List A → Bool
  has_number xs = list_any (λ m. m == n) (map number_of (filter p xs))

  absent_step : (x : A) (xs : List A) (b : Bool) → (number_of x == n) ≡ false → has_number xs ≡ false → list_any (λ m. m == n) (map number_of (cond b (x ∷ filter p xs) (filter p xs))) ≡ false
  absent_step x xs true e h = ap (λ b. b || has_number xs) e ∙ h
  absent_step x xs false e h = h

  absent : (xs : List A) → list_any (λ m. m == n) (map number_of xs) ≡ false → has_number xs ≡ false
  absent [] e = refl
  absent (x ∷ xs) e = let both = or_parts (number_of x == n) (list_any (λ m. m == n) (map number_of xs)) e in absent_step x xs (p x) both.0 (absent xs both.1)

  here : (x : A) (xs : List A) (b : Bool) → p x ≡ b → (number_of x == n) ≡ true → has_number xs ≡ false → b ≡ list_any (λ m. m == n) (map number_of (cond b (x ∷ filter p xs) (filter p xs)))
  here x xs true e f h = sym (ap (λ b. b || has_number xs) f)
  here x xs false e f h = sym h

  there : (x : A) (xs : List A) (b : Bool) → (number_of x == n) ≡ false → has_number xs ≡ list_any (λ m. m == n) (map number_of (cond b (x ∷ filter p xs) (filter p xs)))
  there x xs true f = sym (ap (λ b. b || has_number xs) f)
  there x xs false f = refl

  -- no other item has the number of one that is found
  others : (x : A) (xs : List A) → (number_of x == n) ≡ true → not (list_any (λ m. m == number_of x) (map number_of xs)) ≡ true → has_number xs ≡ false
  others x xs f e =
      let same : number_of x ≡ n = eqb-true (number_of x) n f in
      absent xs (ap (λ k. list_any (λ m. m == k) (map number_of xs)) (sym same) ∙ not-true _ e)

  step : (x : A) (xs : List A) (b : Bool) → (number_of x == n) ≡ b → not (list_any (λ m. m == number_of x) (map number_of xs)) ≡ true
      → if_found (find (λ y. number_of y == n) xs) p false ≡ has_number xs → if_found (cond b (Some x) (find (λ y. number_of y == n) xs)) p false ≡ has_number (x ∷ xs)
  step x xs true f e rest = here x xs (p x) refl f (others x xs f e)
  step x xs false f e rest = rest ∙ there x xs (p x) f

  -- the item with the number passes the test where the number is one of those that pass
  pub passing_found : (xs : List A) → all_different (map number_of xs) ≡ true → if_found (find (λ y. number_of y == n) xs) p false ≡ has_number xs
  passing_found [] e = refl
  passing_found (x ∷ xs) e =
      let both = and_parts (not (list_any (λ m. m == number_of x) (map number_of xs))) (all_different (map number_of xs)) e in
      step x xs (number_of x == n) refl both.0 (passing_found xs both.1)

filtered_step : {A B C : Type 0} (f : A → B) (g : B → C) (h : A → C) (x : A) (b : Bool) (xs : List A) (ys : List B) → g (f x) ≡ h x → map g ys ≡ map h xs
    → map g (cond b (f x ∷ ys) ys) ≡ map h (cond b (x ∷ xs) xs)
filtered_step f g h x true xs ys e r = ap (λ z. z ∷ map g ys) e ∙ ap (λ zs. h x ∷ zs) r
filtered_step f g h x false xs ys e r = r

mapped_filter : {A B C : Type 0} (f : A → B) (p : B → Bool) (g : B → C) (h : A → C) → ((x : A) → g (f x) ≡ h x) → (xs : List A) → map g (filter p (map f xs)) ≡ map h (filter (λ x. p (f x)) xs)
mapped_filter f p g h same [] = refl
mapped_filter f p g h same (x ∷ xs) = filtered_step f g h x (p (f x)) (filter (λ x. p (f x)) xs) (filter p (map f xs)) (same x) (mapped_filter f p g h same xs)

-- ---- the rule

front_differ : (xs ys : List ℕ) → all_different (xs ++ ys) ≡ true → all_different xs ≡ true
front_differ [] ys e = refl
front_differ (x ∷ xs) ys e =
    let both = and_parts (not (list_any (λ m. m == x) (xs ++ ys))) (all_different (xs ++ ys)) e in
    let rest = front_differ xs ys both.1 in
    let joined = list_any-append (λ m. m == x) xs ys in
    let none = or_parts (list_any (λ m. m == x) xs) (list_any (λ m. m == x) ys) (sym joined ∙ not-true _ both.0) in
    ap (λ b. not b && all_different xs) none.0 ∙ rest

volumes_differ : (d : Durable Entry) → numbers_rule (shape_of_tables d) ≡ true → all_different (map (λ (v : Volume Entry). v.number) d.volumes) ≡ true
volumes_differ d e =
    let parts = sym (numbers_parts d) ∙ e in
    let differ : all_different (all_numbers d) ≡ true = (and_parts _ _ (and_parts _ _ parts).0).1 in
    front_differ (map (λ (v : Volume Entry). v.number) d.volumes) _ (front_differ (map (λ (v : Volume Entry). v.number) d.volumes ++ map (λ (k : Container). k.number) d.containers) _ differ)

of_none : (d : Durable Entry) (snapshots : List ℕ) → ((n : ℕ) → list_any (λ m. m == n) snapshots ≡ is_snapshot (shape_of_tables d) n) → (kind : VolumeKind)
    → is_of_none snapshots kind ≡ is_of_no_snapshot (shape_of_tables d) kind
of_none d snapshots same Plain = refl
of_none d snapshots same (SnapshotOf v) = ap not (same v.0)
of_none d snapshots same (FastCloneOf v) = refl
of_none d snapshots same (FullCloneOf v) = refl

target_named : (d : Durable Entry) (volumes : List ℕ) → ((n : ℕ) → list_any (λ m. m == n) volumes ≡ is_some (volume_of (shape_of_tables d) n)) → (o : Option ℕ)
    → if_found o (λ target. list_any (λ m. m == target) volumes) true ≡ if_found o (λ n. is_some (volume_of (shape_of_tables d) n)) true
target_named d volumes same None = refl
target_named d volumes same (Some n) = same n

module _ (d : Durable Entry) (containers volumes snapshots : List ℕ)
    (pk : IsPermutation (map (λ (k : Container). k.number) d.containers) containers)
    (pv : IsPermutation (map (λ (v : Volume Entry). v.number) d.volumes) volumes)
    (ps : IsPermutation (snapshot_numbers d.volumes) snapshots)
    (rule : numbers_rule (shape_of_tables d) ≡ true) where
  shape_volume_numbers : map (λ (v : Volume ℕ). v.number) (map (map_volume stamp_of) d.volumes) ≡ map (λ (v : Volume Entry). v.number) d.volumes
  shape_volume_numbers = map-after (map_volume stamp_of) (λ (v : Volume ℕ). v.number) (λ (v : Volume Entry). v.number) (λ v. refl) d.volumes

  container_named : (n : ℕ) → list_any (λ m. m == n) containers ≡ is_some (container_of (shape_of_tables d) n)
  container_named n = number_found (λ (k : Container). k.number) d.containers containers pk n

  volume_named : (n : ℕ) → list_any (λ m. m == n) volumes ≡ is_some (volume_of (shape_of_tables d) n)
  volume_named n =
      number_found (λ (v : Volume ℕ). v.number) (map (map_volume stamp_of) d.volumes) volumes
      (subst (λ ns. IsPermutation ns volumes) (sym shape_volume_numbers) pv) n

  snapshot_named : (n : ℕ) → list_any (λ m. m == n) snapshots ≡ is_snapshot (shape_of_tables d) n
  snapshot_named n =
      sym (list_any-IsPermutation (λ m. m == n) (snapshot_numbers d.volumes) snapshots ps)
      ∙ ap (list_any (λ m. m == n)) (sym (mapped_filter (map_volume stamp_of) (λ (v : Volume ℕ). is_snapshot_kind v.kind) (λ (v : Volume ℕ). v.number) (λ (v : Volume Entry). v.number) (λ v. refl) d.volumes))
      ∙ sym (passing_found (λ (v : Volume ℕ). v.number) (λ (v : Volume ℕ). is_snapshot_kind v.kind) n (map (map_volume stamp_of) d.volumes) (ap all_different shape_volume_numbers ∙ volumes_differ d rule))

  pub names_told : (a b c e : Bool)
      → a ≡ list_all (λ (v : Volume Entry). list_any (λ n. n == v.container) containers && is_of_none snapshots v.kind) d.volumes
      → b ≡ list_all (λ (c : RunningClone Entry). list_any (λ n. n == c.container) containers) d.clones
      → c ≡ list_all (λ (b : Binding). list_any (λ n. n == b.volume) volumes) d.bindings
      → e ≡ list_all (λ (t : Task). if_found (running_target t) (λ target. list_any (λ n. n == target) volumes) true) d.tasks
      → list_all (λ x. x) (a ∷ b ∷ c ∷ e ∷ []) ≡ names_rule (shape_of_tables d)
  unfolding names_rule
  names_told a b c e p q r s =
      conj_4 a b c e
      (p ∙ all_mapped (map_volume stamp_of) _ (λ (v : Volume ℕ). is_some (container_of (shape_of_tables d) v.container) && is_of_no_snapshot (shape_of_tables d) v.kind)
      (λ v. ap (λ x. x && is_of_none snapshots v.kind) (container_named v.container) ∙ ap (λ x. is_some (container_of (shape_of_tables d) v.container) && x) (of_none d snapshots snapshot_named v.kind)) d.volumes)
      (q ∙ all_mapped (map_clone stamp_of) _ (λ (c : RunningClone ℕ). is_some (container_of (shape_of_tables d) c.container)) (λ c. container_named c.container) d.clones)
      (r ∙ all_same _ (λ (b : Binding). is_some (volume_of (shape_of_tables d) b.volume)) (λ b. volume_named b.volume) d.bindings)
      (s ∙ all_same _ (λ (t : Task). if_found (running_target t) (λ n. is_some (volume_of (shape_of_tables d) n)) true) (λ t. target_named d volumes volume_named (running_target t)) d.tasks)
