-- For callers that put tables together again whose whole durable part is well-formed: each item's number is above those of the
-- items before it.
use Rattle.std.proofs.Common.{ℕ, ◌≡◌, true, List, [], ◌∷◌, ◌++◌, map, length, Some, slice_get, refl, sym, ap, ◌∙◌}
use Rattle.std.specs.Prelude.{nat_lt}
use Rattle.std.specs.List.{list_all}
use Rattle.vv_flat.specs.Lists.{all_rising}
use Rattle.vv_flat.specs.State.{Container, Volume, Context, Task, Durable}
use Rattle.vv_flat.specs.Chunks.{Entry}
use Rattle.vv_flat.specs.Form.{is_formed}
use Rattle.vv_flat.specs.WellFormed.{is_well_formed}
use Rattle.vv_flat.proofs.Shares.{and_left, and_right, and_both}
use Rattle.vv_tables.proofs.Limits.{formed}
use Rattle.vv_tables.proofs.Walks.{found_behind, rising_behind}

module _ {A : Type 0} (key : A → ℕ) where
  at_last : (front : List A) (x : A) (back : List A) → slice_get (front ++ x ∷ back) (length front) ≡ Some x
  at_last [] x back = refl
  at_last (y ∷ ys) x back = at_last ys x back

  front_below : (front : List A) (x : A) (back : List A) → all_rising (map key (front ++ x ∷ back)) ≡ true → list_all (λ y. nat_lt (key y) (key x)) front ≡ true
  front_below [] x back rising = refl
  front_below (y ∷ ys) x back rising =
      and_both (nat_lt (key y) (key x)) (list_all (λ z. nat_lt (key z) (key x)) ys)
      (found_behind key y (ys ++ x ∷ back) (length ys) x rising (at_last ys x back))
      (front_below ys x back (rising_behind key y (ys ++ x ∷ back) rising))

-- what the form says of each list
record Rising (d : Durable Entry) : Type 0 where
  containers : all_rising (map (λ (k : Container). k.number) d.containers) ≡ true
  volumes : all_rising (map (λ (v : Volume Entry). v.number) d.volumes) ≡ true
  contexts : all_rising (map (λ (c : Context). c.host) d.contexts) ≡ true
  tasks : all_rising (map (λ (t : Task). t.number) d.tasks) ≡ true

rising : (d : Durable Entry) → is_formed d ≡ true → Rising d
unfolding is_formed
rising d e =
    let to_tasks = and_left _ _ (and_left _ _ e) in
    let to_contexts = and_left _ _ (and_left _ _ to_tasks) in
    let to_volumes = and_left _ _ to_contexts in
    record {
      containers = and_right _ _ (and_left _ _ to_volumes);
      volumes = and_right _ _ to_volumes;
      contexts = and_right _ _ to_contexts;
      tasks = and_right _ _ to_tasks;
    }

module _ (d : Durable Entry) (well : is_well_formed d ≡ true) where
  pub container_above : (front : List Container) (k : Container) (back : List Container) → d.containers ≡ front ++ k ∷ back
      → list_all (λ (l : Container). nat_lt l.number k.number) front ≡ true
  container_above front k back is =
      front_below (λ (l : Container). l.number) front k back
      (sym (ap (λ (ks : List Container). all_rising (map (λ (l : Container). l.number) ks)) is) ∙ (rising d (formed d well)).containers)

  pub volume_above : (front : List (Volume Entry)) (v : Volume Entry) (back : List (Volume Entry)) → d.volumes ≡ front ++ v ∷ back
      → list_all (λ (w : Volume Entry). nat_lt w.number v.number) front ≡ true
  volume_above front v back is =
      front_below (λ (w : Volume Entry). w.number) front v back
      (sym (ap (λ (vs : List (Volume Entry)). all_rising (map (λ (w : Volume Entry). w.number) vs)) is) ∙ (rising d (formed d well)).volumes)

  pub context_above : (front : List Context) (c : Context) (back : List Context) → d.contexts ≡ front ++ c ∷ back
      → list_all (λ (e : Context). nat_lt e.host c.host) front ≡ true
  context_above front c back is =
      front_below (λ (e : Context). e.host) front c back
      (sym (ap (λ (cs : List Context). all_rising (map (λ (e : Context). e.host) cs)) is) ∙ (rising d (formed d well)).contexts)

  pub task_above : (front : List Task) (t : Task) (back : List Task) → d.tasks ≡ front ++ t ∷ back
      → list_all (λ (u : Task). nat_lt u.number t.number) front ≡ true
  task_above front t back is =
      front_below (λ (u : Task). u.number) front t back
      (sym (ap (λ (ts : List Task). all_rising (map (λ (u : Task). u.number) ts)) is) ∙ (rising d (formed d well)).tasks)
