-- For well-formed tables that are put together again: each container may be added behind those ahead of it.
use Rattle.std.proofs.Common.{◌≡◌, ◌<◌, ◌&&◌, Bool, true, List, ◌∷◌, ◌++◌, length, sym, ap, ◌∙◌, subst}
use Rattle.std.specs.Prelude.{nat_le, ◌≤◌}
use Rattle.std.specs.List.{list_all}
use Rattle.vv_flat.specs.State.{Container, Durable}
use Rattle.vv_flat.specs.Chunks.{Entry, shape_of_tables}
use Rattle.vv_flat.specs.Fields.{is_number, are_offers, have_forms}
use Rattle.vv_flat.specs.WellFormed.{is_well_formed}
use Rattle.vv_flat.proofs.Shares.{and_left, and_right, and_both}
use Rattle.vv_flat.proofs.Kept.{kept}
use Rattle.vv_laws.proofs.WellFormed.{shape_rules}
use Rattle.vv_container.specs.Forms.{have_forms as are_container_forms}
use Rattle.vv_area.proofs.WellFormed.{LimitsKept, limits_kept}
use Rattle.vv_restore.proofs.TakenItems.{item_passes}
use Rattle.vv_restore.proofs.ListedItems.{listed_fewer}

-- what well-formed tables keep of their limits, and the forms of their fields
pub limits_of : (d : Durable Entry) → is_well_formed d ≡ true → LimitsKept (shape_of_tables d)
limits_of d well = limits_kept (shape_of_tables d) (kept (shape_of_tables d) (shape_rules d well)).limits

pub forms_of : (d : Durable Entry) → is_well_formed d ≡ true → have_forms d ≡ true
unfolding is_well_formed
forms_of d well = and_right _ _ well

abbrev has_fields : Container → Bool
has_fields k = is_number 32 k.quota && are_offers k.offers

container_fields : (d : Durable Entry) → have_forms d ≡ true → list_all has_fields d.containers ≡ true
unfolding have_forms
container_fields d e = and_left _ _ (and_left _ _ (and_left _ _ (and_left _ _ (and_left _ _ e))))

module _ (d : Durable Entry) (well : is_well_formed d ≡ true) (front : List Container) (k : Container) (back : List Container)
    (is : d.containers ≡ front ++ k ∷ back) where
  pub container_room : length front < 32
  container_room = listed_fewer 32 front k back (subst (λ (ks : List Container). length ks ≤ 32) is (limits_of d well).containers_few)

  pub container_forms : are_container_forms k.quota k.offers ≡ true
  container_forms =
      let fields : has_fields k ≡ true =
      item_passes has_fields front k back (sym (ap (λ (ks : List Container). list_all has_fields ks) is) ∙ container_fields d (forms_of d well)) in
      let few : nat_le (length k.offers) 16 ≡ true =
      item_passes (λ (l : Container). nat_le (length l.offers) 16) front k back
      (sym (ap (λ (ks : List Container). list_all (λ (l : Container). nat_le (length l.offers) 16) ks) is) ∙ (limits_of d well).containers) in
      and_both _ _ (and_both _ _ (and_left _ _ fields) few) (and_right _ _ fields)
