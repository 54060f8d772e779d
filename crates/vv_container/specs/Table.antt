-- The table of storage containers: containers by their numbers, each with what it is charged for, and when one may be
-- charged for more. That a table holds 32 containers is this project's own choice.
use Rattle.std.specs.Prelude.{ℕ, ◌+◌, ◌≤◌, ◌==◌, Bool, IsTrue, List, length, map, Option, Some, None, option_map, nat_lt, if◌then◌else◌}
use Rattle.std.specs.List.{find, list_all}
use Rattle.vv_units.specs.declared.field.TooMany.{TooMany}
use Rattle.vv_units.specs.declared.field.Field.TheVariants.{Container as in_container}
use Rattle.vv_flat.specs.Lists.{if_found, first_changed, all_rising}
use Rattle.vv_flat.specs.State.{Container}
use Rattle.vv_container.specs.Forms.{have_forms}
use Rattle.vv_container.specs.declared.container.Container.{Container as GivenContainer}
use Rattle.vv_container.specs.declared.container.OverQuota.{OverQuota}

-- a container, and how many chunks it is charged for
pub record ChargedContainer : Type 0 where
  pub container : Container
  pub charged : ℕ

-- a container as it was given, by its number
abbrev pub numbered : ℕ → GivenContainer → Container
numbered n k = record { number = n; quota = k.quota; offers = k.offered }

abbrev pub is_numbered : ℕ → ChargedContainer → Bool
is_numbered n r = r.container.number == n

-- the numbers that stand
abbrev pub numbers : List ChargedContainer → List ℕ
numbers rows = map (λ (r : ChargedContainer). r.container.number) rows

-- whether a number is above all that stand
abbrev pub is_above_all : ℕ → List ChargedContainer → Bool
is_above_all n rows = list_all (λ (r : ChargedContainer). nat_lt r.container.number n) rows

abbrev pub row_of : List ChargedContainer → ℕ → Option ChargedContainer
row_of rows n = find (is_numbered n) rows

abbrev pub container_of : List ChargedContainer → ℕ → Option Container
container_of rows n = option_map (λ (r : ChargedContainer). r.container) (row_of rows n)

abbrev pub charge_of : List ChargedContainer → ℕ → Option ℕ
charge_of rows n = option_map (λ (r : ChargedContainer). r.charged) (row_of rows n)

-- one container charged for so many chunks
abbrev pub with_charge : List ChargedContainer → ℕ → ℕ → List ChargedContainer
with_charge rows n charge = first_changed (is_numbered n) (λ (r : ChargedContainer). record r { charged = charge }) rows

-- why a container may not be charged for as many chunks more as are asked for, if it may not
abbrev pub over_quota : ChargedContainer → ℕ → Option OverQuota
over_quota r asked =
    if nat_lt r.container.quota (r.charged + asked)
    then Some (record { charged = r.charged; asked = asked; quota = r.container.quota })
    else None

abbrev pub refusal : List ChargedContainer → ℕ → ℕ → Option OverQuota
refusal rows n asked = if_found (row_of rows n) (λ r. over_quota r asked) None

-- what is answered where as many containers stand as may
abbrev pub full : TooMany
full = record { name = in_container; limit = 32 }

abbrev pub has_forms : ChargedContainer → Bool
has_forms r = have_forms r.container.quota r.container.offers

-- What a table keeps: few containers, in order, each with a quota and offers that can be spelled, and room for all.
pub record IsKept (rows : List ChargedContainer) (room : ℕ) : Type 0 where
  pub few : length rows ≤ 32
  pub fits : 32 ≤ room
  pub rise : IsTrue (all_rising (numbers rows))
  pub forms : IsTrue (list_all has_forms rows)
