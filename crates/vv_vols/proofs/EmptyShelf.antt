-- A shelf without a list, and a list of unmapped entries.
use Rattle.std.proofs.Common.{ℕ, zero, suc, ◌≡◌, ◌+◌, [], length, get_or, replicate, refl, sym, ◌∙◌, ⊎_elim, arith}
use Rattle.std.specs.List.{Contains}
use Rattle.std.proofs.lemmas.List.{length-replicate}
use Rattle.std.proofs.lemmas.List.Elements.{All-nil}
use Rattle.vv_units.specs.declared.geometry.Geometry.{Geometry}
use Rattle.vv_map.specs.Rooms.{MapState}
use Rattle.vv_map.specs.Pages.{list_of, IsMapOf}
use Rattle.vv_pool.specs.declared.place_use.PlaceUse.TheVariants.{Counted}
use Rattle.vv_entries.specs.Entries.{empty_entries}
use Rattle.vv_entries.proofs.Times.{times-nil}
use Rattle.vv_vols.specs.declared.row.VolumeRow.{VolumeRow}
use Rattle.vv_vols.specs.declared.row.HeldRow.{HeldRow}
use Rattle.vv_vols.specs.Rows.{fresh_from, held_indexes, allocated_in, IsFilled, IsCountedHeld, HasRoom, IsShelf}
use Rattle.vv_vols.proofs.Members.{none_in, first_or_behind}
use Rattle.vv_vols.proofs.Sharing.{shares_from_each}

zeros_at : (p n : ℕ) → get_or {A = ℕ} (replicate p 0) n 0 ≡ 0
zeros_at zero n = refl
zeros_at (suc p) zero = refl
zeros_at (suc p) (suc n) = zeros_at p n

pub no_fresh : (at n : ℕ) → fresh_from at (replicate n (Counted 0)) ≡ []
no_fresh at zero = refl
no_fresh at (suc n) = no_fresh (at + 1) n

pub in_replicate : {A : Type 0} (n : ℕ) (x e : A) → Contains (replicate n x) e → e ≡ x
in_replicate zero x e h = absurd (none_in e h)
in_replicate (suc n) x e h = ⊎_elim (λ same. sym same) (λ rest. in_replicate n x e rest) (first_or_behind x (replicate n x) e h)

pub empty_kept : (geometry : Geometry) (volume_memory held_memory : ℕ) → IsShelf geometry (empty_entries geometry.pool_chunks geometry.map_chunks) [] [] 0 0 volume_memory held_memory
empty_kept geometry volume_memory held_memory = record {
  lists = record {
    lists = record {
      counts = λ n. zeros_at geometry.map_chunks n ∙ sym (times-nil n);
      maps = All-nil (λ (m : MapState). IsMapOf (empty_entries geometry.pool_chunks geometry.map_chunks).store m);
    };
    places = length-replicate geometry.pool_chunks (Counted 0);
    pages = length-replicate geometry.map_chunks 0;
    shares = shares_from_each geometry.pool_chunks [] (record { placed = λ a at. absurd (none_in a at); agree = λ a b at bt. absurd (none_in a at) });
    summed = refl;
    few = omega arith;
    allocated = All-nil (λ (row : VolumeRow). row.allocated ≡ allocated_in (list_of (empty_entries geometry.pool_chunks geometry.map_chunks).store row.map));
  };
  rising = refl;
  held_rising = refl;
  indexed = All-nil (λ (row : HeldRow). length (held_indexes row.indexes row.map.len) ≡ row.map.len);
  filled = All-nil (IsFilled (empty_entries geometry.pool_chunks geometry.map_chunks).store);
  volume_rows = omega arith;
  held_rows = omega arith;
  held_counts = All-nil (IsCountedHeld (empty_entries geometry.pool_chunks geometry.map_chunks).store);
  held_room = All-nil (λ (row : HeldRow). HasRoom row.indexes row.map);
}
