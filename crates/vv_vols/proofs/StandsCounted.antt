-- A place that an entry of a shelf names is counted, and the entry's stamp isn't 0.
use Rattle.std.proofs.Common.{ℕ, ◌≡◌, ◌≤◌, ◌==◌, ◌||◌, Bool, true, false, not, List, [], ◌∷◌, ◌++◌, map, refl, ap, ◌∙◌, ⊎_elim, arith}
use Rattle.std.specs.Prelude.{nat_lt}
use Rattle.std.specs.List.{Contains, list_any}
use Rattle.std.proofs.lemmas.Bool.{cases_lt, cond-false}
use Rattle.vv_units.specs.declared.geometry.Geometry.{Geometry}
use Rattle.vv_pool.specs.Pool.{count_of}
use Rattle.vv_entries.specs.declared.entry.Entry.{Entry as PlacedEntry}
use Rattle.vv_entries.specs.Entries.{EntriesState, names, IsCounted}
use Rattle.vv_entries.specs.Changes.{AreCounted}
use Rattle.vv_entries.proofs.Named.{name_bit, named-cons, named-nil}
use Rattle.vv_entries.proofs.Owners.{none_by_lists}
use Rattle.vv_flat.specs.State.{Piece}
use Rattle.vv_flat.specs.Chunks.{Entry}
use Rattle.vv_flat.specs.Sharing.{names_place}
use Rattle.vv_flat.proofs.Shares.{and_left}
use Rattle.vv_vols.specs.declared.row.VolumeRow.{VolumeRow}
use Rattle.vv_vols.specs.declared.row.HeldRow.{HeldRow}
use Rattle.vv_vols.specs.Shelf.{ShelfState, shelf_pieces, shares_rightly}
use Rattle.vv_vols.specs.Calls.{placed_at}
use Rattle.vv_vols.specs.Conditions.{Stands}
use Rattle.vv_vols.specs.Rows.{seen_entry, seen_shelf, volume_map, held_map, IsShelf}
use Rattle.vv_vols.proofs.Members.{first_or_behind, none_in}
use Rattle.vv_vols.proofs.Kept.{not_false}
use Rattle.vv_vols.proofs.Sharing.{shares_each}
use Rattle.vv_vols.proofs.SeenPlaces.{name_seen, pieces_unnamed}

any_in : {A : Type 0} (test : A → Bool) (xs : List A) (a : A) → Contains xs a → test a ≡ true → list_any test xs ≡ true
any_in test [] a at passes = absurd (none_in a at)
any_in test (x ∷ xs) a at passes = ⊎_elim
    (λ is. ap (λ t. t || list_any test xs) (ap test is ∙ passes))
    (λ rest. go (test x) (any_in test xs a rest passes))
    (first_or_behind x xs a at)
  where
    go : (b : Bool) → list_any test xs ≡ true → (b || list_any test xs) ≡ true
    go true later = refl
    go false later = later

module _ (geometry : Geometry) (entries : EntriesState) (volumes : List VolumeRow) (held : List HeldRow) (total rooms volume_memory held_memory : ℕ)
    (kept : IsShelf geometry entries volumes held total rooms volume_memory held_memory) where
  pub stands_counted : (a : Piece Entry) (p : ℕ) → IsCounted entries.store entries.pool → Stands (seen_shelf geometry entries volumes held) a → names_place p a ≡ true → 1 ≤ count_of entries.pool p
  stands_counted a p counted stands names_it = ⊎_elim
      (λ some. some)
      (λ none.
      let zero_named = counted.counted p in
      let unnamed = pieces_unnamed entries.store p volumes held (none_by_lists entries.store (map volume_map volumes ++ map held_map held) p (omega arith)) in
      let yes_named = any_in (names_place p) (shelf_pieces (seen_shelf geometry entries volumes held)) a stands names_it in
      absurd (cc))
      (cases_lt 0 (count_of entries.pool p))

  -- an entry that stands somewhere is counted
  pub entry_counted : (i : ℕ) (e : PlacedEntry) → IsCounted entries.store entries.pool → Stands (seen_shelf geometry entries volumes held) (record { index = i; chunk = seen_entry e }) → AreCounted entries.pool (e ∷ [])
  entry_counted i e counted stands p some = go (names p e) refl
    where
      go : (b : Bool) → names p e ≡ b → 1 ≤ count_of entries.pool p
      go true is = stands_counted (record { index = i; chunk = seen_entry e }) p counted stands (name_seen p i e ∙ is)
      go false is =
          let both = named-cons p e [] in
          let none = named-nil p in
          let bit : name_bit p e ≡ 0 = cond-false (names p e) 1 0 is in
          absurd (omega arith)

-- an entry that stands with a place has a stamp
pub stands_stamped : (s : ShelfState) (index p stamp : ℕ) → shares_rightly s ≡ true → Stands s (record { index = index; chunk = placed_at p stamp }) → (stamp == 0) ≡ false
stands_stamped s index p stamp shares stands =
    not_false (stamp == 0) (and_left (not (stamp == 0)) (nat_lt p s.geometry.pool_chunks)
    ((shares_each s.geometry.pool_chunks (shelf_pieces s) shares).placed (record { index = index; chunk = placed_at p stamp }) stands))
