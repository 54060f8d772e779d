-- For the places that a change may take: those that are free in the shelf are those that no entry of the tables names.
use Rattle.std.proofs.Common.{ℕ, ◌≡◌, ◌==◌, ◌&&◌, not, Bool, true, false, cond, List, [], ◌∷◌, refl, ap, ◌∙◌}
use Rattle.std.specs.Prelude.{nat_lt}
use Rattle.std.specs.List.{filter, list_all}
use Rattle.vv_flat.specs.Lists.{numbers_from}
use Rattle.vv_flat.specs.State.{Task, Durable, all_pieces}
use Rattle.vv_flat.specs.Chunks.{Entry}
use Rattle.vv_flat.specs.Sharing.{place_count}
use Rattle.vv_flat.specs.Replay.{is_fresh}
use Rattle.vv_flat.specs.Plans.{fresh_places}
use Rattle.vv_flat.proofs.NamedPlaces.{named-counted}
use Rattle.vv_container.specs.Table.{ChargedContainer}
use Rattle.vv_bind.specs.Table.{BindState}
use Rattle.vv_vols.specs.Shelf.{ShelfState, is_shelf_free}
use Rattle.vv_vols.specs.Places.{free_places_of}
use Rattle.vv_tables.specs.declared.rows.CloneRow.{CloneRow}
use Rattle.vv_tables.specs.declared.rows.CopyRow.{CopyRow}
use Rattle.vv_tables.specs.Seen.{seen_durable}
use Rattle.vv_tables.specs.Kept.{AreHeld}
use Rattle.vv_tables.proofs.ShelfPieces.{shelf_named}

filter_same : {A : Type 0} (p q : A → Bool) → ((x : A) → p x ≡ q x) → (xs : List A) → filter p xs ≡ filter q xs
filter_same p q same [] = refl
filter_same p q same (x ∷ xs) =
    ap (λ b. cond b (x ∷ filter p xs) (filter p xs)) (same x)
    ∙ ap (λ rest. cond (q x) (x ∷ rest) rest) (filter_same p q same xs)

twice_not : (a b : Bool) → ((a && not (not b)) && true) ≡ (a && b)
twice_not true true = refl
twice_not true false = refl
twice_not false b = refl

module _ (lsn : ℕ) (s : ShelfState) (containers : List ChargedContainer) (bindings : BindState) (tasks : List Task) (clones : List CloneRow) (copies : List CopyRow) (held : AreHeld s clones copies) where
  free_is_fresh : s.fresh ≡ [] → (p : ℕ) → is_shelf_free s p ≡ is_fresh (seen_durable lsn s containers bindings tasks clones copies) p
  free_is_fresh none p =
      let d : Durable Entry = seen_durable lsn s containers bindings tasks clones copies in
      ap (λ b. (nat_lt p s.geometry.pool_chunks && not b) && list_all (λ q. not (q == p)) s.fresh)
      (shelf_named lsn s containers bindings tasks clones copies held p ∙ named-counted (all_pieces d) p)
      ∙ ap (λ fresh. (nat_lt p s.geometry.pool_chunks && not (not (place_count (all_pieces d) p == 0))) && list_all (λ q. not (q == p)) fresh) none
      ∙ twice_not (nat_lt p s.geometry.pool_chunks) (place_count (all_pieces d) p == 0)

  pub free_places_fresh : s.fresh ≡ [] → free_places_of s ≡ fresh_places (seen_durable lsn s containers bindings tasks clones copies)
  unfolding free_places_of
  free_places_fresh none =
      filter_same (is_shelf_free s) (is_fresh (seen_durable lsn s containers bindings tasks clones copies)) (free_is_fresh none) (numbers_from 0 s.geometry.pool_chunks)
