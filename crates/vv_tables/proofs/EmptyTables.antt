-- The tables of an array as it was formatted keep all that tables keep.
use Rattle.std.proofs.Common.{ℕ, ◌≡◌, ◌≤◌, [], ◌∷◌, List, refl}
use Rattle.std.proofs.lemmas.List.Elements.{All-nil, All-cons}
use Rattle.std.proofs.lemmas.List.Sorted.{IsPermutation-refl}
use Rattle.vv_units.specs.declared.geometry.Geometry.{Geometry}
use Rattle.vv_flat.specs.State.{Task, first_container, empty_durable}
use Rattle.vv_flat.specs.Chunks.{Entry, shape_of_tables}
use Rattle.vv_flat.specs.Space.{charge, reserved}
use Rattle.vv_laws.proofs.WellFormed.{empty_well}
use Rattle.vv_container.specs.Table.{ChargedContainer}
use Rattle.vv_bind.specs.Table.{BindState}
use Rattle.vv_vols.specs.Rows.{ShelfView, empty_view}
use Rattle.vv_tables.specs.declared.rows.CloneRow.{CloneRow}
use Rattle.vv_tables.specs.declared.rows.CopyRow.{CopyRow}
use Rattle.vv_tables.specs.Kept.{IsCloneHeld, IsCopyHeld, IsTables}

abbrev first_row : ChargedContainer
first_row = record { container = first_container; charged = 0 }

nothing_charged : (geometry : Geometry) (n : ℕ) → 0 ≡ charge (shape_of_tables (empty_durable {X = Entry} geometry)) n
unfolding charge
nothing_charged geometry n = refl

nothing_reserved : (geometry : Geometry) → 0 ≡ reserved (shape_of_tables (empty_durable {X = Entry} geometry))
unfolding reserved
nothing_reserved geometry = refl

pub empty_kept : (geometry : Geometry) (clone_memory copy_memory : ℕ) → 16 ≤ clone_memory → 16 ≤ copy_memory
    → IsTables geometry 0 (empty_view geometry) (first_row ∷ []) (record { contexts = []; bindings = [] }) [] [] [] clone_memory copy_memory
empty_kept geometry clone_memory copy_memory clone_rows copy_rows = record {
  geometry_is = refl;
  kept = record {
    well = empty_well geometry;
    charges = All-cons (λ (r : ChargedContainer). r.charged ≡ charge (shape_of_tables (empty_durable {X = Entry} geometry)) r.container.number) first_row []
        (nothing_charged geometry 0) (All-nil (λ (r : ChargedContainer). r.charged ≡ charge (shape_of_tables (empty_durable {X = Entry} geometry)) r.container.number));
    reserved = nothing_reserved geometry;
    fresh = refl;
  };
  held = record {
    rising = refl;
    each_once = IsPermutation-refl [];
    images = All-nil (IsCloneHeld (empty_view geometry).shelf);
    pieces = All-nil (IsCopyHeld (empty_view geometry).shelf);
  };
  clone_rows = clone_rows;
  copy_rows = copy_rows;
}

-- .. however its parts were made
pub made_kept : (geometry : Geometry) (view : ShelfView) (containers : List ChargedContainer) (bindings : BindState) (tasks : List Task)
    (clones : List CloneRow) (copies : List CopyRow) (clone_memory copy_memory : ℕ) → 16 ≤ clone_memory → 16 ≤ copy_memory
    → view ≡ empty_view geometry → containers ≡ first_row ∷ [] → bindings ≡ record { contexts = []; bindings = [] } → tasks ≡ [] → clones ≡ [] → copies ≡ []
    → IsTables geometry 0 view containers bindings tasks clones copies clone_memory copy_memory
made_kept geometry view containers bindings tasks clones copies clone_memory copy_memory clone_rows copy_rows v k b t c p =
    rw (v, k, b, t, c, p) (empty_kept geometry clone_memory copy_memory clone_rows copy_rows)
