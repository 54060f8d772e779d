-- The container of a volume of tables, and what it is charged for.
use Rattle.std.proofs.Common.{ℕ, ◌≡◌, Option, Some, None, option_map, refl, sym, ap, subst, ◌∙◌}
use Rattle.std.specs.Prelude.{IsSome, is_some}
use Rattle.vv_flat.specs.Lists.{if_found}
use Rattle.vv_flat.specs.State.{Volume, Durable, container_of}
use Rattle.vv_flat.specs.Chunks.{Entry, shape_of_tables}
use Rattle.vv_flat.specs.Space.{charge}
use Rattle.vv_flat.specs.Changes.{home_of}
use Rattle.vv_container.specs.Table.{ChargedContainer, row_of}
use Rattle.vv_vols.specs.Shelf.{volume_in}
use Rattle.vv_tables.specs.declared.tables.Tables.TheInside.{Inside}
use Rattle.vv_tables.specs.Homes.{home_in, charge_in}
use Rattle.vv_tables.proofs.Containers.{row_stands, charge_is}
use Rattle.vv_tables.proofs.Inner.{durable_of, IsWell}
use Rattle.vv_tables.proofs.ShapeVolumes.{shaped, shape_found}
use Rattle.vv_tables.proofs.StandingVolumes.{home_stands as home_of_stands}

-- a volume's container stands
pub home_stands : (i : Inside) → IsWell i → (n : ℕ) (v : Volume Entry) → volume_in i.shelf.shelf n ≡ Some v → IsSome (container_of (durable_of i) v.container)
home_stands i kept n v found =
    let d : Durable Entry = durable_of i in
    let home : home_of (shape_of_tables d) n ≡ v.container = ap (λ (o : Option (Volume ℕ)). if_found o (λ (w : Volume ℕ). w.container) 0) (shape_found d n ∙ ap (option_map shaped) found) in
    subst (λ k. IsSome (container_of d k)) home (home_of_stands d n kept.well (ap is_some found))

module _ (i : Inside) (kept : IsWell i) (n : ℕ) (v : Volume Entry) (found : volume_in i.shelf.shelf n ≡ Some v) where
  pub home_is : home_in i.shelf.shelf n ≡ v.container
  home_is = ap (λ (o : Option (Volume Entry)). if_found o (λ (w : Volume Entry). w.container) 0) found

  pub shape_home : home_of (shape_of_tables (durable_of i)) n ≡ v.container
  shape_home =
      ap (λ (o : Option (Volume ℕ)). if_found o (λ (w : Volume ℕ). w.container) 0) (shape_found (durable_of i) n ∙ ap (option_map shaped) found)

  -- and its row
  pub home_row : IsSome (row_of i.containers (home_in i.shelf.shelf n))
  home_row = subst (λ k. IsSome (row_of i.containers k)) (sym home_is) (row_stands i.containers v.container (home_stands i kept n v found))

  -- has the charge that the definitions count
  pub home_charge : charge_in i.containers (home_in i.shelf.shelf n) ≡ charge (shape_of_tables (durable_of i)) (home_in i.shelf.shelf n)
  home_charge = go (row_of i.containers (home_in i.shelf.shelf n)) refl home_row
    where
      go : (o : Option ChargedContainer) → row_of i.containers (home_in i.shelf.shelf n) ≡ o → IsSome o
          → charge_in i.containers (home_in i.shelf.shelf n) ≡ charge (shape_of_tables (durable_of i)) (home_in i.shelf.shelf n)
      go None row stands = absurd (cc)
      go (Some r) row stands =
          ap (λ (o : Option ChargedContainer). if_found o (λ (r : ChargedContainer). r.charged) 0) row
          ∙ charge_is (durable_of i) i.containers (home_in i.shelf.shelf n) r.charged kept.charges (ap (option_map (λ (r : ChargedContainer). r.charged)) row)
