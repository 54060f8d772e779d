-- A container that doesn't stand is charged for nothing: no volume and no clone is in it. For a container that is made.
use Rattle.std.proofs.Common.{ℕ, ◌≡◌, ◌+◌, ◌==◌, ◌<◌, true, false, cond, List, [], ◌∷◌, ◌++◌, length, sum_by, Option, Some, None, refl, sym, ap, ◌∙◌, arith}
use Rattle.std.specs.Prelude.{is_some, option_and_then, IsTrue, nat_le}
use Rattle.std.specs.List.{list_all}
use Rattle.std.proofs.lemmas.Bool.{ne_eqb, leb-false}
use Rattle.std.proofs.lemmas.List.{map-append, length-map}
use Rattle.std.proofs.lemmas.List.Folds.{list_all-map}
use Rattle.std.proofs.lemmas.List.Sums.{sum_by-cons}
use Rattle.std.proofs.lemmas.List.Elements.{All-push}
use Rattle.vv_units.specs.declared.volume.Offer.{Offer}
use Rattle.vv_flat.specs.Lists.{if_found}
use Rattle.vv_flat.specs.State.{Container, Volume, Task, RunningClone, RunningCopy, Durable, container_of, volume_of, task_of}
use Rattle.vv_flat.specs.Chunks.{Entry, shape_of_tables}
use Rattle.vv_flat.specs.Space.{charge, allocated_count, allocating_pieces, allocating_for, job_target}
use Rattle.vv_units.specs.declared.field.Field.TheVariants.{Container as in_container}
use Rattle.vv_flat.specs.Refusals.{TooMany}
use Rattle.vv_flat.specs.Rules.{names_rule}
use Rattle.vv_flat.specs.Changes.{MakeContainer, effect, apply, room_checks}
use Rattle.vv_flat.specs.Replay.{fits, replayed}
use Rattle.vv_flat.specs.Fields.{change_has_forms}
use Rattle.vv_flat.specs.WellFormed.{is_well_formed}
use Rattle.vv_flat.proofs.Shares.{and_left, and_right, list_all-follows}
use Rattle.vv_flat.proofs.Known.{all-found}
use Rattle.vv_flat.proofs.Kept.{Kept, kept}
use Rattle.vv_flat.proofs.KeepRules.{fits_accepted}
use Rattle.vv_flat.proofs.Verdicts.{passed_room, not_refused}
use Rattle.vv_flat.proofs.Lookups.{sum-none}
use Rattle.vv_laws.proofs.WellFormed.{shape_rules}
use Rattle.vv_container.specs.Forms.{have_forms}
use Rattle.vv_container.specs.Table.{ChargedContainer, is_above_all}
use Rattle.vv_tables.specs.Seen.{plain_containers}
use Rattle.vv_tables.specs.Kept.{AreCharged}
use Rattle.vv_tables.proofs.NextNumber.{is_below, containers_below, new_container}
use Rattle.vv_tables.proofs.SeenChanges.{put_last}
use Rattle.vv_tables.proofs.Stepped.{stepped_charge, uncharged}

module _ (d : Durable ℕ) (k : Kept d) (n : ℕ) (none : container_of d n ≡ None) where
  apart : (m : ℕ) → is_some (container_of d m) ≡ true → (m == n) ≡ false
  apart m e = ne_eqb m n (λ same. let gone : container_of d m ≡ None = ap (λ i. container_of d i) same ∙ none in let wrong : is_some (container_of d m) ≡ false = ap is_some gone in absurd (cc))

  homes : list_all (λ (v : Volume ℕ). is_some (container_of d v.container)) d.volumes ≡ true
  unfolding names_rule
  homes =
      list_all-follows _ (λ (v : Volume ℕ). is_some (container_of d v.container)) (λ v e. and_left (is_some (container_of d v.container)) _ e) d.volumes
      (and_left _ _ (and_left _ _ (and_left _ _ k.names)))

  clone_homes : list_all (λ (c : RunningClone ℕ). is_some (container_of d c.container)) d.clones ≡ true
  unfolding names_rule
  clone_homes = and_right _ _ (and_left _ _ (and_left _ _ k.names))

  not_for : (c : RunningCopy ℕ) → allocating_for d n c ≡ 0
  not_for c = at (option_and_then (λ (t : Task). job_target t.job) (task_of d c.number))
    where
      in_other : (o : Option (Volume ℕ)) → ((v : Volume ℕ) → o ≡ Some v → (v.container == n) ≡ false)
          → if_found o (λ (v : Volume ℕ). cond (v.container == n) (allocating_pieces v.chunks c.pieces) 0) 0 ≡ 0
      in_other None other = refl
      in_other (Some v) other = ap (λ b. cond b (allocating_pieces v.chunks c.pieces) 0) (other v refl)

      at : (o : Option ℕ) → if_found (option_and_then (volume_of d) o) (λ (v : Volume ℕ). cond (v.container == n) (allocating_pieces v.chunks c.pieces) 0) 0 ≡ 0
      at None = refl
      at (Some m) = in_other (volume_of d m)
          (λ v found. apart v.container (all-found (λ (w : Volume ℕ). is_some (container_of d w.container)) (λ (w : Volume ℕ). w.number == m) v d.volumes homes found))

  no_copies : (cs : List (RunningCopy ℕ)) → sum_by (λ (c : RunningCopy ℕ). allocating_for d n c) cs ≡ 0
  no_copies [] = refl
  no_copies (c ∷ cs) =
      let both : sum_by (λ (c : RunningCopy ℕ). allocating_for d n c) (c ∷ cs) ≡ allocating_for d n c + sum_by (λ (c : RunningCopy ℕ). allocating_for d n c) cs =
      sum_by-cons (λ (c : RunningCopy ℕ). allocating_for d n c) c cs in
      omega (arith, both, not_for c, no_copies cs)

  pub nothing_charged : charge d n ≡ 0
  unfolding charge
  nothing_charged =
      let v : sum_by (λ (v : Volume ℕ). cond (v.container == n) (allocated_count v.chunks) 0) d.volumes ≡ 0 =
      sum-none (λ (v : Volume ℕ). is_some (container_of d v.container)) (λ (v : Volume ℕ). cond (v.container == n) (allocated_count v.chunks) 0)
      (λ v e. ap (λ b. cond b (allocated_count v.chunks) 0) (apart v.container e)) d.volumes homes in
      let c : sum_by (λ (c : RunningClone ℕ). cond (c.container == n) (allocated_count c.image) 0) d.clones ≡ 0 =
      sum-none (λ (c : RunningClone ℕ). is_some (container_of d c.container)) (λ (c : RunningClone ℕ). cond (c.container == n) (allocated_count c.image) 0)
      (λ c e. ap (λ b. cond b (allocated_count c.image) 0) (apart c.container e)) d.clones clone_homes in
      let p : sum_by (λ (c : RunningCopy ℕ). allocating_for d n c) d.copies ≡ 0 = no_copies d.copies in
      omega (arith, v, c, p)

-- ---- a container that is made, by rows with charges
module _ (d : Durable Entry) (rows : List ChargedContainer) (quota : ℕ) (offers : List Offer) (seen : d.containers ≡ plain_containers rows)
    (well : is_well_formed d ≡ true) (fit : fits d (MakeContainer quota offers) [] ≡ true) where
  abbrev made : ChargedContainer
  made = record { container = record { number = d.lsn + 1; quota = quota; offers = offers }; charged = 0 }

  pub above_rows : IsTrue (is_above_all (d.lsn + 1) rows)
  above_rows =
      sym (list_all-map (λ (k : Container). is_below d.lsn k.number) (λ (r : ChargedContainer). r.container) rows)
      ∙ ap (λ (ks : List Container). list_all (λ (k : Container). is_below d.lsn k.number) ks) (sym seen)
      ∙ containers_below d well

  pub few_rows : length rows < 32
  unfolding room_checks
  few_rows =
      let few : length d.containers < 32 =
      leb-false 32 (length d.containers)
      (not_refused (nat_le 32 (length d.containers)) (TooMany in_container 32)
      (passed_room None (shape_of_tables d) (MakeContainer quota offers) (fits_accepted d (MakeContainer quota offers) [] fit) 1)) in
      let same : length d.containers ≡ length rows = ap length seen ∙ length-map rows (λ (r : ChargedContainer). r.container) in
      omega (arith, few, same)

  pub made_charged : (d' : Durable Entry) → d' ≡ replayed d (MakeContainer quota offers) [] → AreCharged d rows → AreCharged d' (rows ++ made ∷ [])
  made_charged d' is all =
      let go : charge (shape_of_tables d') (d.lsn + 1) + 0 ≡ charge (shape_of_tables d) (d.lsn + 1) + 0 = stepped_charge d d' (MakeContainer quota offers) [] well fit is (d.lsn + 1) in
      let none : charge (shape_of_tables d) (d.lsn + 1) ≡ 0 =
      nothing_charged (shape_of_tables d) (kept (shape_of_tables d) (shape_rules d well)) (d.lsn + 1) (new_container d well) in
      All-push (λ (r : ChargedContainer). r.charged ≡ charge (shape_of_tables d') r.container.number) rows made
      (uncharged d d' (MakeContainer quota offers) [] well fit is rows (λ k. refl) all)
      (omega (arith, go, none))

-- the list of containers is the one that the definitions make
pub made_last : (d : Durable Entry) (rows : List ChargedContainer) (quota charged : ℕ) (offers : List Offer) → d.containers ≡ plain_containers rows → is_well_formed d ≡ true
    → record d { lsn = d.lsn + 1; containers = plain_containers (rows ++ record { container = record { number = d.lsn + 1; quota = quota; offers = offers }; charged = charged } ∷ []) }
    ≡ replayed d (MakeContainer quota offers) []
unfolding replayed apply effect
made_last d rows quota charged offers seen well =
    let k : Container = record { number = d.lsn + 1; quota = quota; offers = offers } in
    ap (λ (ks : List Container). record d { lsn = d.lsn + 1; containers = ks })
    (map-append (λ (r : ChargedContainer). r.container) rows (record { container = k; charged = charged } ∷ [])
    ∙ ap (λ (ks : List Container). ks ++ k ∷ []) (sym seen)
    ∙ sym (put_last (λ (j : Container). j.number) k d.containers (containers_below d well)))

-- and a container that has its forms makes a change that has them
pub forms : (quota : ℕ) (offers : List Offer) → have_forms quota offers ≡ true → change_has_forms (MakeContainer quota offers) ≡ true
unfolding change_has_forms
forms quota offers e = e
