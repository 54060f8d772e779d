-- For the volumes of well-formed tables, added one after another: each may be added behind those before it.
use Rattle.std.proofs.Common.{ℕ, ◌≡◌, ◌+◌, ◌<◌, ◌≤◌, ◌&&◌, Bool, true, List, [], ◌∷◌, ◌++◌, length, take, drop, get_or, refl, sym, subst, ◌∙◌}
use Rattle.std.specs.Prelude.{nat_lt}
use Rattle.std.specs.List.{list_all}
use Rattle.vv_flat.specs.State.{Volume, Durable, indexed, all_pieces}
use Rattle.vv_flat.specs.Chunks.{Entry}
use Rattle.vv_flat.specs.Fields.{are_needs, are_pairs, have_forms}
use Rattle.vv_flat.specs.Sharing.{shares_places}
use Rattle.vv_flat.specs.Space.{entries}
use Rattle.vv_flat.specs.WellFormed.{is_well_formed}
use Rattle.vv_flat.proofs.Shares.{and_left, and_right}
use Rattle.vv_tables.proofs.RestoredCallers.{volume_shares}
use Rattle.vv_tables.proofs.RestoredRoom.{volume_within}
use Rattle.vv_tables.proofs.RestoredOrder.{volume_above}
use Rattle.vv_restore.proofs.TakenItems.{item_split, item_passes}

pub forms_of : (d : Durable Entry) → is_well_formed d ≡ true → have_forms d ≡ true
unfolding is_well_formed
forms_of d well = and_right _ _ well

abbrev has_volume_forms : Volume Entry → Bool
has_volume_forms v = are_needs v.needs && are_pairs v.metadata

volume_forms : (d : Durable Entry) → have_forms d ≡ true → list_all has_volume_forms d.volumes ≡ true
unfolding have_forms
volume_forms d forms = and_right _ _ (and_left _ _ (and_left _ _ (and_left _ _ (and_left _ _ forms))))

-- tables so far, before the running clones and copies
abbrev pub with_volumes : Durable Entry → List (Volume Entry) → Durable Entry
with_volumes d volumes = record d { volumes = volumes; clones = []; copies = [] }

-- what a volume has that may be added
pub record MayAddVolume (r : Durable Entry) (v : Volume Entry) : Type 0 where
  pub pairs : are_pairs v.metadata ≡ true
  pub above : list_all (λ (w : Volume Entry). nat_lt w.number v.number) r.volumes ≡ true
  pub few : entries r + length v.chunks ≤ r.geometry.map_chunks
  pub shares : shares_places r.geometry.pool_chunks (all_pieces r ++ indexed v.chunks) ≡ true

pub may_add_volume : (d : Durable Entry) → is_well_formed d ≡ true → (vs : List (Volume Entry)) → vs ≡ d.volumes
    → (i : ℕ) (v : Volume Entry) → i < length vs → v ≡ get_or vs i v → MayAddVolume (with_volumes d (take i vs)) v
may_add_volume d well vs same i v lt at =
    let back : List (Volume Entry) = drop (i + 1) vs in
    let is : d.volumes ≡ take i vs ++ v ∷ back = sym same ∙ item_split vs i v lt at in
    let forms : list_all has_volume_forms (take i vs ++ v ∷ back) ≡ true = subst (λ (ws : List (Volume Entry)). list_all has_volume_forms ws ≡ true) is (volume_forms d (forms_of d well)) in
    record {
      pairs = and_right (are_needs v.needs) (are_pairs v.metadata) (item_passes has_volume_forms (take i vs) v back forms);
      above = volume_above d well (take i vs) v back is;
      few = volume_within d well (with_volumes d (take i vs)) v back is refl refl;
      shares = volume_shares d well (with_volumes d (take i vs)) v back is refl refl;
    }
