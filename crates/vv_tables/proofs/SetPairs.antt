-- The metadata of a volume are replaced by what they are after a note is set or removed: the tables afterwards.
use Rattle.std.proofs.Common.{ℕ, ◌≡◌, ◌+◌, Bool, true, false, cond, List, [], ◌∷◌, Option, Some, None, option_map, refl, ap, ◌∙◌}
use Rattle.std.specs.Prelude.{IsSome}
use Rattle.std.specs.List.{find}
use Rattle.vv_units.specs.declared.field.Field.TheVariants.{Vvol as in_vvol}
use Rattle.vv_units.specs.Pairs.{after_set}
use Rattle.vv_flat.specs.Lists.{if_found, first_changed}
use Rattle.vv_flat.specs.State.{Volume, Task, Durable, volume_of}
use Rattle.vv_flat.specs.Chunks.{Entry, shape_of_tables}
use Rattle.vv_flat.specs.Changes.{SetMetadata, effect, apply, state_checks, metadata_of}
use Rattle.vv_flat.specs.Replay.{fits, replayed}
use Rattle.vv_flat.proofs.KeepRules.{fits_accepted}
use Rattle.vv_flat.proofs.Verdicts.{passed_state}
use Rattle.vv_container.specs.Table.{ChargedContainer}
use Rattle.vv_bind.specs.Table.{BindState}
use Rattle.vv_vols.specs.Shelf.{ShelfState, is_volume}
use Rattle.vv_vols.specs.Calls.{with_changed}
use Rattle.vv_tables.specs.declared.rows.CloneRow.{CloneRow}
use Rattle.vv_tables.specs.declared.rows.CopyRow.{CopyRow}
use Rattle.vv_tables.specs.Seen.{seen_durable}
use Rattle.vv_tables.proofs.ShapeVolumes.{shape_found, shaped}
use Rattle.vv_tables.proofs.StandingVolumes.{not_missing}

-- two changes of the first item that passes a test, which agree on it
pub changed_alike : {A : Type 0} (p : A → Bool) (f g : A → A) (xs : List A) → ((x : A) → find p xs ≡ Some x → f x ≡ g x) → first_changed p f xs ≡ first_changed p g xs
changed_alike p f g [] same = refl
changed_alike {A} p f g (x ∷ xs) same = go (p x) same (changed_alike p f g xs)
  where
    go : (b : Bool) → ((y : A) → cond b (Some x) (find p xs) ≡ Some y → f y ≡ g y)
        → (((y : A) → find p xs ≡ Some y → f y ≡ g y) → first_changed p f xs ≡ first_changed p g xs)
        → cond b (f x ∷ xs) (x ∷ first_changed p f xs) ≡ cond b (g x ∷ xs) (x ∷ first_changed p g xs)
    go true same rest = ap (λ y. y ∷ xs) (same x refl)
    go false same rest = ap (λ ys. x ∷ ys) (rest same)

pub set_stands : (d : Durable Entry) (n : ℕ) (key : List ℕ) (note : Option (List ℕ)) → fits d (SetMetadata n key note) [] ≡ true → IsSome (volume_of d n)
unfolding state_checks
set_stands d n key note fit = not_missing d n in_vvol (passed_state None (shape_of_tables d) (SetMetadata n key note) (fits_accepted d (SetMetadata n key note) [] fit) 0)

module _ (lsn : ℕ) (s : ShelfState) (rows : List ChargedContainer) (bindings : BindState) (tasks : List Task) (clones : List CloneRow) (copies : List CopyRow)
    (n : ℕ) (pairs : List (List ℕ × List ℕ)) (key : List ℕ) (note : Option (List ℕ)) where
  pub set_seen : pairs ≡ after_set (metadata_of (shape_of_tables (seen_durable lsn s rows bindings tasks clones copies)) n) key note
      → seen_durable (lsn + 1) (with_changed s n (λ (v : Volume Entry). record v { metadata = pairs })) rows bindings tasks clones copies
      ≡ replayed (seen_durable lsn s rows bindings tasks clones copies) (SetMetadata n key note) []
  unfolding replayed apply effect
  set_seen is =
      let d : Durable Entry = seen_durable lsn s rows bindings tasks clones copies in
      ap (λ (vs : List (Volume Entry)). record d { lsn = lsn + 1; volumes = vs })
      (changed_alike (is_volume n) (λ (v : Volume Entry). record v { metadata = pairs }) (λ (v : Volume Entry). record v { metadata = after_set v.metadata key note }) s.volumes
      (λ v found.
      let own : metadata_of (shape_of_tables d) n ≡ v.metadata =
      ap (λ (o : Option (Volume ℕ)). if_found o (λ (w : Volume ℕ). w.metadata) []) (shape_found d n ∙ ap (option_map shaped) found) in
      ap (λ (ps : List (List ℕ × List ℕ)). record v { metadata = ps }) (is ∙ ap (λ (ps : List (List ℕ × List ℕ)). after_set ps key note) own)))
