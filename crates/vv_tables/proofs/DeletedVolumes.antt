-- A volume is deleted: the tables afterwards, and the charge of its container.
use Rattle.std.proofs.Common.{ℕ, ◌≡◌, ◌+◌, ◌-◌, ◌≤◌, true, cond, List, [], None, refl, sym, ap, ◌∙◌, arith}
use Rattle.std.specs.Prelude.{IsSome}
use Rattle.std.proofs.lemmas.Bool.{eq-eqb, ne_eqb, eqb-false}
use Rattle.vv_units.specs.declared.field.Field.TheVariants.{Vvol as in_vvol}
use Rattle.vv_flat.specs.State.{Container, Task, Durable, volume_of}
use Rattle.vv_flat.specs.Chunks.{Entry, shape_of_tables}
use Rattle.vv_flat.specs.Space.{charge}
use Rattle.vv_flat.specs.Fields.{change_has_forms}
use Rattle.vv_flat.specs.Changes.{DeleteVolume, effect, apply, state_checks, home_of, allocated_of}
use Rattle.vv_flat.specs.Replay.{fits, replayed}
use Rattle.vv_flat.specs.WellFormed.{is_well_formed}
use Rattle.vv_flat.proofs.KeepRules.{fits_accepted}
use Rattle.vv_flat.proofs.Verdicts.{passed_state}
use Rattle.vv_laws.specs.Counts.{charge_taken}
use Rattle.vv_container.specs.Table.{ChargedContainer, with_charge}
use Rattle.vv_bind.specs.Table.{BindState}
use Rattle.vv_vols.specs.Shelf.{ShelfState}
use Rattle.vv_vols.specs.Calls.{with_deleted}
use Rattle.vv_tables.specs.declared.rows.CloneRow.{CloneRow}
use Rattle.vv_tables.specs.declared.rows.CopyRow.{CopyRow}
use Rattle.vv_tables.specs.Seen.{plain_containers, seen_durable}
use Rattle.vv_tables.specs.Kept.{AreCharged}
use Rattle.vv_tables.proofs.Containers.{plain_charged}
use Rattle.vv_tables.proofs.Stepped.{stepped_charge, recharged}
use Rattle.vv_tables.proofs.StandingVolumes.{not_missing, rows_rise}

module _ (d : Durable Entry) (n : ℕ) (fit : fits d (DeleteVolume n) [] ≡ true) where
  pub deleted_stands : IsSome (volume_of d n)
  unfolding state_checks
  deleted_stands = not_missing d n in_vvol (passed_state None (shape_of_tables d) (DeleteVolume n) (fits_accepted d (DeleteVolume n) [] fit) 0)

  module _ (well : is_well_formed d ≡ true) where
    taken_home : charge_taken (shape_of_tables d) (DeleteVolume n) (home_of (shape_of_tables d) n) ≡ allocated_of (shape_of_tables d) n
    taken_home = ap (λ b. cond b (allocated_of (shape_of_tables d) n) 0) (eq-eqb (home_of (shape_of_tables d) n) (home_of (shape_of_tables d) n) refl)

    -- its chunks are among those that its container is charged for
    pub deleted_within : allocated_of (shape_of_tables d) n ≤ charge (shape_of_tables d) (home_of (shape_of_tables d) n)
    deleted_within =
        let d' : Durable Entry = replayed d (DeleteVolume n) [] in
        let go : charge (shape_of_tables d') (home_of (shape_of_tables d) n) + charge_taken (shape_of_tables d) (DeleteVolume n) (home_of (shape_of_tables d) n)
        ≡ charge (shape_of_tables d) (home_of (shape_of_tables d) n) + 0 =
        stepped_charge d d' (DeleteVolume n) [] well fit refl (home_of (shape_of_tables d) n) in
        omega (arith, go, taken_home)

    pub deleted_charged : (d' : Durable Entry) (rows : List ChargedContainer) (home charged : ℕ) → d.containers ≡ plain_containers rows → d' ≡ replayed d (DeleteVolume n) []
        → home ≡ home_of (shape_of_tables d) n → charged ≡ charge (shape_of_tables d) home - allocated_of (shape_of_tables d) n
        → AreCharged d rows → AreCharged d' (with_charge rows home charged)
    deleted_charged d' rows home charged seen is at falls all =
        let taken : charge_taken (shape_of_tables d) (DeleteVolume n) home ≡ allocated_of (shape_of_tables d) n =
        ap (charge_taken (shape_of_tables d) (DeleteVolume n)) at ∙ taken_home in
        let within : allocated_of (shape_of_tables d) n ≤ charge (shape_of_tables d) home = rw at deleted_within in
        recharged d d' (DeleteVolume n) [] well fit is rows home charged (rows_rise d rows seen well) (omega (arith, taken, within, falls))
        (λ k apart. sym (ap (λ b. cond b (allocated_of (shape_of_tables d) n) 0) (ne_eqb (home_of (shape_of_tables d) n) k (λ same. eqb-false k home apart (sym same ∙ sym at)))))
        all

pub deleted_seen : (lsn : ℕ) (s : ShelfState) (rows : List ChargedContainer) (bindings : BindState) (tasks : List Task) (clones : List CloneRow) (copies : List CopyRow) (n home charged : ℕ)
    → seen_durable (lsn + 1) (with_deleted s n) (with_charge rows home charged) bindings tasks clones copies
    ≡ replayed (seen_durable lsn s rows bindings tasks clones copies) (DeleteVolume n) []
unfolding replayed apply effect
deleted_seen lsn s rows bindings tasks clones copies n home charged =
    ap (λ (ks : List Container). record (seen_durable (lsn + 1) (with_deleted s n) rows bindings tasks clones copies) { containers = ks }) (plain_charged rows home charged)

pub forms : (n : ℕ) → change_has_forms (DeleteVolume n) ≡ true
unfolding change_has_forms
forms n = refl
