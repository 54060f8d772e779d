-- The last of some lists ends: it was one of the store's, and the others are all that are left.
use Rattle.std.proofs.Common.{◌≡◌, List, [], ◌∷◌, ◌++◌, map, refl, ap, ◌∙◌, subst}
use Rattle.std.specs.List.{All}
use Rattle.std.proofs.lemmas.List.{append-nil, append_assoc, map-append}
use Rattle.std.proofs.lemmas.List.Elements.{All-nil, All-head}
use Rattle.vv_map.specs.Rooms.{MapState}
use Rattle.vv_map.specs.Pages.{StoreState, IsMapOf}
use Rattle.vv_entries.specs.declared.entry.Entry.{Entry as PlacedEntry}
use Rattle.vv_entries.specs.Changes.{Exchanges}
use Rattle.vv_entries.specs.Owners.{AreAllLists}
use Rattle.vv_entries.proofs.Owners.{lists_known, All-back}
use Rattle.vv_vols.specs.declared.row.VolumeRow.{VolumeRow}
use Rattle.vv_vols.specs.declared.row.HeldRow.{HeldRow}
use Rattle.vv_vols.specs.Rows.{volume_map, held_map}

-- the list of the last row
pub last_volume : (rows rest : List VolumeRow) (row : VolumeRow) (behind : List MapState) → rows ≡ rest ++ row ∷ [] → map volume_map rows ++ behind ≡ map volume_map rest ++ (volume_map row ∷ behind)
last_volume rows rest row behind is =
    ap (λ rs. map volume_map rs ++ behind) is ∙ ap (λ ms. ms ++ behind) (map-append volume_map rest (row ∷ [])) ∙ append_assoc (map volume_map rest) (volume_map row ∷ []) behind

pub last_held : (rows rest : List HeldRow) (row : HeldRow) → rows ≡ rest ++ row ∷ [] → map held_map rows ≡ map held_map rest ++ (held_map row ∷ [])
last_held rows rest row is = ap (map held_map) is ∙ map-append held_map rest (row ∷ [])

module _ (store : StoreState PlacedEntry) (lists ahead behind : List MapState) (ended : MapState) (is : lists ≡ ahead ++ (ended ∷ behind)) (all : AreAllLists store lists) where
  pub ending_of : IsMapOf store ended
  ending_of = All-head (λ (m : MapState). IsMapOf store m) ended behind (All-back (λ (m : MapState). IsMapOf store m) ahead (ended ∷ behind) (subst (All (λ (m : MapState). IsMapOf store m)) is all.maps))

  pub others_stay : (new : StoreState PlacedEntry) → Exchanges store new ended.numbers [] → AreAllLists new (ahead ++ behind)
  others_stay new ex = lists_known store new ended.numbers [] ex ahead behind (ended ∷ []) [] (subst (AreAllLists store) is all) (append-nil ended.numbers) refl (All-nil (λ (m : MapState). IsMapOf new m))
