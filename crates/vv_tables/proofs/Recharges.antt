-- The charge of a volume's container after a change that adds allocated chunks to the volume, or takes some from it.
use Rattle.std.proofs.Common.{ℕ, ◌≡◌, ◌+◌, ◌≤◌, ◌==◌, true, false, cond, List, Option, Some, None, is_some, find, option_map, refl, sym, ap, ◌∙◌, arith}
use Rattle.std.specs.Prelude.{IsSome}
use Rattle.std.proofs.lemmas.Bool.{eq-eqb, eqb-true}
use Rattle.vv_flat.specs.Lists.{if_found, all_rising}
use Rattle.vv_flat.specs.State.{Container, Volume, Durable, volume_of, container_of}
use Rattle.vv_flat.specs.Chunks.{Entry, shape_of_tables}
use Rattle.vv_flat.specs.Space.{charge}
use Rattle.vv_flat.specs.Changes.{Change, allocated_of, home_of}
use Rattle.vv_flat.specs.Replay.{fits, replayed}
use Rattle.vv_flat.specs.WellFormed.{is_well_formed}
use Rattle.vv_flat.proofs.Steps.{find-passes}
use Rattle.vv_flat.proofs.NewEntries.{eq_turn}
use Rattle.vv_flat.proofs.Kept.{kept}
use Rattle.vv_flat.proofs.KeepSteps.{volume_named}
use Rattle.vv_flat.proofs.KeepRules.{fits_accepted}
use Rattle.vv_laws.specs.Counts.{charge_added, charge_taken, allocated_added, allocated_taken, charged_at}
use Rattle.vv_laws.proofs.WellFormed.{shape_rules, well_formed_shape}
use Rattle.vv_laws.proofs.AllocatedVolumes.{allocated_after}
use Rattle.vv_container.specs.Table.{ChargedContainer, is_numbered, numbers, row_of, charge_of, with_charge}
use Rattle.vv_vols.proofs.FoundSplit.{all_found}
use Rattle.vv_tables.specs.Seen.{plain_containers}
use Rattle.vv_tables.specs.Kept.{AreCharged}
use Rattle.vv_tables.proofs.Containers.{row_stands}
use Rattle.vv_tables.proofs.Stepped.{stepped_shape, stepped_charge, recharged}

module _ (d : Durable Entry) (well : is_well_formed d ≡ true) where
  -- the container of a volume stands
  pub home_stands : (n : ℕ) → IsSome (volume_of (shape_of_tables d) n) → IsSome (container_of d (home_of (shape_of_tables d) n))
  home_stands n some = go (volume_of (shape_of_tables d) n) refl some
    where
      go : (o : Option (Volume ℕ)) → volume_of (shape_of_tables d) n ≡ o → IsSome o → IsSome (container_of d (if_found o (λ (v : Volume ℕ). v.container) 0))
      go None found e = absurd (cc)
      go (Some v) found e = volume_named (shape_of_tables d) (kept (shape_of_tables d) (shape_rules d well)) n v found

  pub home_row : (rows : List ChargedContainer) (n : ℕ) → plain_containers rows ≡ d.containers → IsSome (volume_of (shape_of_tables d) n) → IsSome (row_of rows (home_of (shape_of_tables d) n))
  home_row rows n is some =
      row_stands rows (home_of (shape_of_tables d) n)
      (ap (λ (ks : List Container). is_some (find (λ (k : Container). k.number == home_of (shape_of_tables d) n) ks)) is ∙ home_stands n some)

-- what is kept as the charge of a container that stands
pub charge_kept : (d : Durable Entry) (rows : List ChargedContainer) (k : ℕ) → AreCharged d rows → IsSome (row_of rows k) → charge_of rows k ≡ Some (charge (shape_of_tables d) k)
charge_kept d rows k all stands = go (row_of rows k) refl stands
  where
    go : (o : Option ChargedContainer) → row_of rows k ≡ o → IsSome o → option_map (λ (r : ChargedContainer). r.charged) o ≡ Some (charge (shape_of_tables d) k)
    go None found some = absurd (cc)
    go (Some r) found some =
        ap Some
        (all_found (is_numbered k) (λ (r : ChargedContainer). r.charged ≡ charge (shape_of_tables d) r.container.number) rows r all found
        ∙ ap (charge (shape_of_tables d)) (eqb-true r.container.number k (find-passes (is_numbered k) rows r found)))

-- ---- a change of one volume
module _ (d d' : Durable Entry) (change : Change) (places : List ℕ) (well : is_well_formed d ≡ true) (fit : fits d change places ≡ true) (is : d' ≡ replayed d change places)
    (n more less : ℕ)
    (added : (k : ℕ) → charge_added (shape_of_tables d) change k ≡ charged_at (shape_of_tables d) n k more)
    (taken : (k : ℕ) → charge_taken (shape_of_tables d) change k ≡ charged_at (shape_of_tables d) n k less)
    (allocates : allocated_added (shape_of_tables d) change n ≡ more)
    (unmaps : allocated_taken (shape_of_tables d) change n ≡ less) where
  -- how many chunks of the volume are allocated
  pub allocated_goes : allocated_of (shape_of_tables d') n + less ≡ allocated_of (shape_of_tables d) n + more
  allocated_goes =
      let after : allocated_of (shape_of_tables d') n + allocated_taken (shape_of_tables d) change n ≡ allocated_of (shape_of_tables d) n + allocated_added (shape_of_tables d) change n =
      ap (λ (e : Durable ℕ). allocated_of e n + allocated_taken (shape_of_tables d) change n) (stepped_shape d d' change places well fit is)
      ∙ allocated_after None (shape_of_tables d) change (well_formed_shape d well) (fits_accepted d change places fit) n in
      omega (arith, after, allocates, unmaps)

  at_home : (count : ℕ) → charged_at (shape_of_tables d) n (home_of (shape_of_tables d) n) count ≡ count
  at_home count = ap (λ b. cond b count 0) (eq-eqb (home_of (shape_of_tables d) n) (home_of (shape_of_tables d) n) refl)

  elsewhere : (count k : ℕ) → (k == home_of (shape_of_tables d) n) ≡ false → charged_at (shape_of_tables d) n k count ≡ 0
  elsewhere count k apart = ap (λ b. cond b count 0) (eq_turn (home_of (shape_of_tables d) n) k ∙ apart)

  home_goes : charge (shape_of_tables d') (home_of (shape_of_tables d) n) + less ≡ charge (shape_of_tables d) (home_of (shape_of_tables d) n) + more
  home_goes =
      let home : ℕ = home_of (shape_of_tables d) n in
      let go : charge (shape_of_tables d') home + charge_taken (shape_of_tables d) change home ≡ charge (shape_of_tables d) home + charge_added (shape_of_tables d) change home =
      stepped_charge d d' change places well fit is home in
      let plus : charge_added (shape_of_tables d) change home ≡ more = added home ∙ at_home more in
      let minus : charge_taken (shape_of_tables d) change home ≡ less = taken home ∙ at_home less in
      omega (arith, go, plus, minus)

  -- what is to be taken from the charge is there
  pub charge_enough : allocated_of (shape_of_tables d) n ≤ charge (shape_of_tables d) (home_of (shape_of_tables d) n) + allocated_of (shape_of_tables d') n
  charge_enough =
      let go : charge (shape_of_tables d') (home_of (shape_of_tables d) n) + less ≡ charge (shape_of_tables d) (home_of (shape_of_tables d) n) + more = home_goes in
      let counts : allocated_of (shape_of_tables d') n + less ≡ allocated_of (shape_of_tables d) n + more = allocated_goes in
      omega (arith, go, counts)

  -- the row of the container is to have this charge
  pub home_recharged : (rows : List ChargedContainer) (charged : ℕ) → all_rising (numbers rows) ≡ true → AreCharged d rows
      → charged + allocated_of (shape_of_tables d) n ≡ charge (shape_of_tables d) (home_of (shape_of_tables d) n) + allocated_of (shape_of_tables d') n
      → AreCharged d' (with_charge rows (home_of (shape_of_tables d) n) charged)
  home_recharged rows charged rising all exact =
      let home : ℕ = home_of (shape_of_tables d) n in
      let counts : allocated_of (shape_of_tables d') n + less ≡ allocated_of (shape_of_tables d) n + more = allocated_goes in
      let plus : charge_added (shape_of_tables d) change home ≡ more = added home ∙ at_home more in
      let minus : charge_taken (shape_of_tables d) change home ≡ less = taken home ∙ at_home less in
      recharged d d' change places well fit is rows home charged rising
      (omega (arith, exact, counts, plus, minus))
      (λ k apart. added k ∙ elsewhere more k apart ∙ sym (taken k ∙ elsewhere less k apart))
      all
