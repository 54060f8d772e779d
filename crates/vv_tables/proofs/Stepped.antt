-- A record that fits leaves tables that keep what tables keep: given the equation of the durable part, what is left to be
-- shown of a change are the charges, the reserved places, and the held lists.
use Rattle.std.proofs.Common.{ℕ, ◌≡◌, ◌+◌, ◌==◌, true, false, List, [], None, ap, ◌∙◌, arith}
use Rattle.vv_flat.specs.Lists.{all_rising}
use Rattle.vv_flat.specs.State.{Durable}
use Rattle.vv_flat.specs.Chunks.{Entry, shape_of_tables}
use Rattle.vv_flat.specs.Space.{charge, reserved}
use Rattle.vv_flat.specs.Changes.{Change, apply_shape}
use Rattle.vv_flat.specs.Replay.{fits, replayed}
use Rattle.vv_flat.specs.Fields.{change_has_forms}
use Rattle.vv_flat.specs.WellFormed.{is_well_formed}
use Rattle.vv_flat.proofs.Steps.{record_step}
use Rattle.vv_flat.proofs.KeepRules.{fits_accepted}
use Rattle.vv_laws.specs.Counts.{charge_added, charge_taken, reserved_added, reserved_taken}
use Rattle.vv_laws.proofs.WellFormed.{record_well, well_formed_shape}
use Rattle.vv_laws.proofs.ChargedCounts.{charge_after}
use Rattle.vv_laws.proofs.KeptNumbers.{reserved_well}
use Rattle.vv_container.specs.Table.{ChargedContainer, numbers, with_charge}
use Rattle.vv_vols.specs.Shelf.{ShelfState}
use Rattle.vv_tables.specs.Kept.{AreCharged, AreWell}
use Rattle.vv_tables.proofs.Containers.{charges_stay, charge_set}

-- Tables d, and those after a record that fits them, d'.
module _ (d d' : Durable Entry) (change : Change) (places : List ℕ) (well : is_well_formed d ≡ true) (fit : fits d change places ≡ true)
    (is : d' ≡ replayed d change places) where
  -- the shape goes by the change
  pub stepped_shape : shape_of_tables d' ≡ apply_shape (shape_of_tables d) change
  stepped_shape = ap shape_of_tables is ∙ record_step d change places fit

  -- so do the charge of each container, and the reserved places
  pub stepped_charge : (k : ℕ) → charge (shape_of_tables d') k + charge_taken (shape_of_tables d) change k ≡ charge (shape_of_tables d) k + charge_added (shape_of_tables d) change k
  stepped_charge k =
      ap (λ (e : Durable ℕ). charge e k + charge_taken (shape_of_tables d) change k) stepped_shape
      ∙ charge_after None (shape_of_tables d) change (well_formed_shape d well) (fits_accepted d change places fit) k

  pub stepped_reserved : reserved (shape_of_tables d') + reserved_taken (shape_of_tables d) change ≡ reserved (shape_of_tables d) + reserved_added (shape_of_tables d) change
  stepped_reserved =
      ap (λ (e : Durable ℕ). reserved e + reserved_taken (shape_of_tables d) change) stepped_shape
      ∙ reserved_well None (shape_of_tables d) change (well_formed_shape d well) (fits_accepted d change places fit)

  -- where a change adds to no charge, and takes from none, all charges stay
  pub uncharged : (rows : List ChargedContainer) → ((k : ℕ) → charge_added (shape_of_tables d) change k ≡ charge_taken (shape_of_tables d) change k)
      → AreCharged d rows → AreCharged d' rows
  uncharged rows none all =
      charges_stay d d' rows
      (λ k.
      let go : charge (shape_of_tables d') k + charge_taken (shape_of_tables d) change k ≡ charge (shape_of_tables d) k + charge_added (shape_of_tables d) change k = stepped_charge k in
      let same : charge_added (shape_of_tables d) change k ≡ charge_taken (shape_of_tables d) change k = none k in
      omega (arith, go, same))
      all

  -- where it changes the charge of container n alone, to this number, the row of n is to have it
  pub recharged : (rows : List ChargedContainer) (n charged : ℕ) → all_rising (numbers rows) ≡ true
      → charged + charge_taken (shape_of_tables d) change n ≡ charge (shape_of_tables d) n + charge_added (shape_of_tables d) change n
      → ((k : ℕ) → (k == n) ≡ false → charge_added (shape_of_tables d) change k ≡ charge_taken (shape_of_tables d) change k)
      → AreCharged d rows → AreCharged d' (with_charge rows n charged)
  recharged rows n charged rising exact none all =
      let of_n : charge (shape_of_tables d') n + charge_taken (shape_of_tables d) change n ≡ charge (shape_of_tables d) n + charge_added (shape_of_tables d) change n = stepped_charge n in
      charge_set d d' rows n charged rising (omega (arith, exact, of_n))
      (λ k apart.
      let go : charge (shape_of_tables d') k + charge_taken (shape_of_tables d) change k ≡ charge (shape_of_tables d) k + charge_added (shape_of_tables d) change k = stepped_charge k in
      let same : charge_added (shape_of_tables d) change k ≡ charge_taken (shape_of_tables d) change k = none k apart in
      omega (arith, go, same))
      all

  -- the tables are well
  pub stepped_well : (s : ShelfState) (rows : List ChargedContainer) → change_has_forms change ≡ true → AreCharged d' rows
      → s.reserved ≡ reserved (shape_of_tables d') → s.fresh ≡ [] → AreWell s rows d'
  stepped_well s rows forms charges reserve none = record {
    well = ap is_well_formed is ∙ record_well d change places well forms fit;
    charges = charges;
    reserved = reserve;
    fresh = none;
  }

  -- the reserved places of a change that adds none and takes none
  pub same_reserved : (s : ShelfState) → reserved_added (shape_of_tables d) change ≡ reserved_taken (shape_of_tables d) change
      → s.reserved ≡ reserved (shape_of_tables d) → s.reserved ≡ reserved (shape_of_tables d')
  same_reserved s none before =
      let go : reserved (shape_of_tables d') + reserved_taken (shape_of_tables d) change ≡ reserved (shape_of_tables d) + reserved_added (shape_of_tables d) change = stepped_reserved in
      before ∙ (omega (arith, go, none))
