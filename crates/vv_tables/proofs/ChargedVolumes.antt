-- A change that charges the container of a volume for its allocated chunks once more: a snapshot, a fast clone, the start of
-- a full clone.
use Rattle.std.proofs.Common.{ℕ, ◌≡◌, ◌+◌, ◌^◌, ◌<◌, ◌==◌, true, false, cond, List, [], Option, Some, None, refl, sym, ap, subst, ◌∙◌, arith}
use Rattle.std.specs.Prelude.{IsSome, is_some, is_none}
use Rattle.std.specs.List.{find}
use Rattle.std.proofs.lemmas.Bool.{eq-eqb}
use Rattle.vv_units.specs.declared.field.Field.TheVariants.{Vvol as in_vvol}
use Rattle.vv_flat.specs.Lists.{if_found}
use Rattle.vv_flat.specs.State.{Container, Volume, Durable, volume_of, container_of}
use Rattle.vv_flat.specs.Chunks.{Entry, shape_of_tables}
use Rattle.vv_flat.specs.Space.{charge}
use Rattle.vv_flat.specs.Refusals.{Accept, NotFound}
use Rattle.vv_flat.specs.Tasks.{with_clone}
use Rattle.vv_flat.specs.Changes.{Change, Snapshot, FastClone, StartClone, judge, state_checks, allocated_of, home_of, effect, apply}
use Rattle.vv_flat.specs.Replay.{fits, replayed}
use Rattle.vv_flat.specs.Fields.{change_has_forms}
use Rattle.vv_flat.proofs.KeepRules.{fits_accepted}
use Rattle.vv_flat.proofs.NewEntries.{eq_turn}
use Rattle.vv_flat.proofs.Verdicts.{passed_state, not_refused}
use Rattle.vv_laws.specs.Counts.{charge_added, charge_taken, charged_at}
use Rattle.vv_laws.proofs.UsedCounts.{stands_too}
use Rattle.vv_container.specs.Table.{with_charge, row_of}
use Rattle.vv_vols.specs.Shelf.{volume_in, chunks_in, allocated_of as allocated_in}
use Rattle.vv_tables.specs.declared.tables.Tables.TheInside.{Inside}
use Rattle.vv_tables.specs.Homes.{home_in, charge_in}
use Rattle.vv_tables.specs.Kept.{AreCharged}
use Rattle.vv_tables.proofs.Accepted.{charge_room}
use Rattle.vv_tables.proofs.ChargedHomes.{home_stands, home_is, shape_home, home_row, home_charge}
use Rattle.vv_tables.proofs.FoundVolumes.{Found, some_found}
use Rattle.vv_tables.proofs.Inner.{durable_of, IsWell}
use Rattle.vv_tables.proofs.ShapeVolumes.{allocated_is}
use Rattle.vv_tables.proofs.Stepped.{recharged}
use Rattle.vv_tables.proofs.StandingVolumes.{rows_rise}

-- the container of volume n is charged for it once more, and no other
pub record Charges (n : ℕ) (change : Change) : Type 0 where
  pub forms : change_has_forms change ≡ true
  pub stands : (d : Durable ℕ) → judge None d change ≡ Accept → is_none (volume_of d n) ≡ false
  pub containers : (d : Durable Entry) → (replayed d change []).containers ≡ d.containers
  pub charges : (d : Durable ℕ) (k : ℕ) → charge_added d change k ≡ charged_at d n k (allocated_of d n)
  pub uncharges : (d : Durable ℕ) (k : ℕ) → charge_taken d change k ≡ 0

found_containers : {A : Type 0} (d : Durable Entry) (o : Option A) (h : A → Durable Entry) → ((x : A) → (h x).containers ≡ d.containers)
    → (if_found o h d).containers ≡ d.containers
found_containers d None h same = refl
found_containers d (Some x) h same = same x

pub snapshot_charges : (n : ℕ) → Charges n (Snapshot n)
unfolding replayed apply effect change_has_forms state_checks
snapshot_charges n = record {
  forms = refl;
  stands = λ d e. not_refused (is_none (volume_of d n)) (NotFound in_vvol) (passed_state None d (Snapshot n) e 0);
  containers = λ d. found_containers d (volume_of d n) _ (λ v. refl);
  charges = λ d k. refl;
  uncharges = λ d k. refl;
}

pub fast_clone_charges : (n : ℕ) → Charges n (FastClone n)
unfolding replayed apply effect change_has_forms state_checks
fast_clone_charges n = record {
  forms = refl;
  stands = λ d e. not_refused (is_none (volume_of d n)) (NotFound in_vvol) (passed_state None d (FastClone n) e 0);
  containers = λ d. found_containers d (volume_of d n) _ (λ v. refl);
  charges = λ d k. refl;
  uncharges = λ d k. refl;
}

pub start_clone_charges : (n : ℕ) → Charges n (StartClone n)
unfolding replayed apply effect with_clone change_has_forms state_checks
start_clone_charges n = record {
  forms = refl;
  stands = λ d e. not_refused (is_none (volume_of d n)) (NotFound in_vvol) (passed_state None d (StartClone n) e 0);
  containers = λ d. found_containers d (volume_of d n) _ (λ v. refl);
  charges = λ d k. refl;
  uncharges = λ d k. refl;
}

module _ (i : Inside) (kept : IsWell i) (n : ℕ) (change : Change) (once : Charges n change) (fit : fits (durable_of i) change [] ≡ true) where
  pub here : Found n i.shelf.shelf
  here = some_found n i.shelf.shelf (stands_too (durable_of i) n (once.stands (shape_of_tables (durable_of i)) (fits_accepted (durable_of i) change [] fit)))

  -- the volume stands, and its container
  pub source_stands : IsSome (volume_in i.shelf.shelf n)
  source_stands = ap (λ (o : Option (Volume Entry)). is_some o) here.is

  pub container_row : IsSome (row_of i.containers (home_in i.shelf.shelf n))
  container_row = home_row i kept n here.volume here.is

  home : ℕ
  home = home_in i.shelf.shelf n

  more : ℕ
  more = allocated_in (chunks_in i.shelf.shelf n)

  more_is : more ≡ allocated_of (shape_of_tables (durable_of i)) n
  unfolding more
  more_is = allocated_is (durable_of i) n

  shape_home_is : home_of (shape_of_tables (durable_of i)) n ≡ home
  unfolding home
  shape_home_is = shape_home i kept n here.volume here.is ∙ sym (home_is i kept n here.volume here.is)

  charge_at_home : charge_added (shape_of_tables (durable_of i)) change home ≡ more
  charge_at_home =
      once.charges (shape_of_tables (durable_of i)) home
      ∙ ap (λ b. cond b (allocated_of (shape_of_tables (durable_of i)) n) 0) (eq-eqb (home_of (shape_of_tables (durable_of i)) n) home shape_home_is)
      ∙ sym more_is

  home_now : charge_in i.containers home ≡ charge (shape_of_tables (durable_of i)) home
  unfolding home
  home_now = home_charge i kept n here.volume here.is

  -- the charge goes into its type
  pub charge_fits : charge_in i.containers (home_in i.shelf.shelf n) + allocated_in (chunks_in i.shelf.shelf n) < 2 ^ 64
  unfolding home more
  charge_fits =
      let d : Durable Entry = durable_of i in
      let there : IsSome (container_of (replayed d change []) home) =
      subst (λ (ks : List Container). IsSome (find (λ (k : Container). k.number == home) ks)) (sym (once.containers d))
      (subst (λ k. IsSome (container_of d k)) (sym (home_is i kept n here.volume here.is)) (home_stands i kept n here.volume here.is)) in
      let room : charge (shape_of_tables d) home + charge_added (shape_of_tables d) change home < 2 ^ 32 + charge_taken (shape_of_tables d) change home =
      charge_room d change [] kept.well once.forms fit home there in
      let t : charge_taken (shape_of_tables d) change home ≡ 0 = once.uncharges (shape_of_tables d) home in
      omega (arith, room, charge_at_home, t, home_now)

  -- and is kept for the tables after the change
  pub charges_go : (e : Durable Entry) → e ≡ replayed (durable_of i) change []
      → AreCharged e (with_charge i.containers (home_in i.shelf.shelf n) (charge_in i.containers (home_in i.shelf.shelf n) + allocated_in (chunks_in i.shelf.shelf n)))
  unfolding home more
  charges_go e is =
      let d : Durable Entry = durable_of i in
      let t : charge_taken (shape_of_tables d) change home ≡ 0 = once.uncharges (shape_of_tables d) home in
      let exact : charge_in i.containers home + more + charge_taken (shape_of_tables d) change home ≡ charge (shape_of_tables d) home + charge_added (shape_of_tables d) change home =
      omega (arith, home_now, charge_at_home, t) in
      recharged d e change [] kept.well fit is i.containers home (charge_in i.containers home + more) (rows_rise (durable_of i) i.containers refl kept.well) exact
      (λ k apart. others_same k apart) kept.charges
    where
      others_same : (k : ℕ) → (k == home) ≡ false
          → charge_added (shape_of_tables (durable_of i)) change k ≡ charge_taken (shape_of_tables (durable_of i)) change k
      others_same k apart =
          once.charges (shape_of_tables (durable_of i)) k
          ∙ ap (λ b. cond b (allocated_of (shape_of_tables (durable_of i)) n) 0) (ap (λ h. h == k) shape_home_is ∙ eq_turn home k ∙ apart)
          ∙ sym (once.uncharges (shape_of_tables (durable_of i)) k)
