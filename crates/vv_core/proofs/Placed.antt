-- For where the bytes of a chunk are: the place of an entry of well-formed tables is one of the pool.
use Rattle.std.proofs.Common.{ℕ, zero, suc, ◌≡◌, ◌<◌, ◌≤◌, length, ◌==◌, ◌&&◌, not, Bool, true, List, [], ◌∷◌, ◌++◌, refl, sym, ap, ◌∙◌, arith}
use Rattle.std.specs.Prelude.{Option, Some, None, slice_get, option_map, option_and_then, nat_lt, IfSome, IsSome, is_some}
use Rattle.std.specs.List.{list_all, flat_map, find}
use Rattle.std.proofs.lemmas.Option.{slice_get_past}
use Rattle.std.proofs.lemmas.List.Folds.{list_all-append}
use Rattle.std.proofs.lemmas.Bool.{ltb-true}
use Rattle.vv_flat.specs.Lists.{if_found}
use Rattle.vv_flat.specs.State.{Volume, RunningClone, RunningCopy, Piece, Durable, indexed, all_pieces, volume_of, clone_of}
use Rattle.vv_flat.specs.Chunks.{Entry, shape_of_tables}
use Rattle.vv_flat.specs.Changes.{size_of}
use Rattle.vv_units.specs.declared.numbers.Place.{Place}
use Rattle.vv_entries.specs.declared.entry.Entry.{Entry as PlacedEntry}
use Rattle.vv_vols.specs.Shelf.{ShelfState, volume_in, size_in, chunks_in}
use Rattle.vv_vols.specs.Rows.{seen_entry}
use Rattle.vv_tables.proofs.ShapeVolumes.{size_is}
use Rattle.vv_flat.specs.Sharing.{is_placed, agrees, shares_places}
use Rattle.vv_flat.specs.WellFormed.{is_well_formed}
use Rattle.vv_flat.proofs.Shares.{and_left, and_right, list_all-follows, shares-places}
use Rattle.vv_flat.proofs.Known.{all-found, all-flat_map}
use Rattle.vv_laws.proofs.WellFormed.{well_formed_sharing}
use Rattle.vv_tables.proofs.HeldFilling.{indexed_at}
use Rattle.vv_core.specs.Entries.{place_at, place_in_volume, place_in_image}

all_at : {A : Type 0} (p : A → Bool) (xs : List A) (i : ℕ) (x : A) → list_all p xs ≡ true → slice_get xs i ≡ Some x → p x ≡ true
all_at p [] i x e at = absurd (cc)
all_at p (y ∷ ys) zero x e at = let is : y ≡ x = cc in ap p (sym is) ∙ and_left (p y) _ e
all_at p (y ∷ ys) (suc i) x e at = all_at p ys i x (and_right (p y) _ e) at

all_placed : (d : Durable Entry) → is_well_formed d ≡ true → list_all (λ (a : Piece Entry). is_placed d.geometry.pool_chunks a.chunk) (all_pieces d) ≡ true
unfolding shares_places
all_placed d e =
    let pool = d.geometry.pool_chunks in
    list_all-follows (λ (a : Piece Entry). is_placed pool a.chunk && list_all (agrees a) (all_pieces d)) (λ (a : Piece Entry). is_placed pool a.chunk)
    (λ a f. and_left (is_placed pool a.chunk) _ f) (all_pieces d) (shares-places d (well_formed_sharing d e))

below : (pool : ℕ) (e : Entry) (p : ℕ) → is_placed pool e ≡ true → e.place ≡ Some p → p < pool
below pool e p f at = go e.place at f
  where
    go : (o : Option ℕ) → o ≡ Some p → if_found o (λ p. not (e.stamp == 0) && nat_lt p pool) (e.stamp == 0) ≡ true → p < pool
    go None is f = absurd (cc)
    go (Some q) is f =
        let same : q ≡ p = cc in
        let lt : nat_lt q pool ≡ true = and_right (not (e.stamp == 0)) _ f in
        ltb-true p pool (ap (λ r. nat_lt r pool) (sym same) ∙ lt)

-- a place at an index of a list with such entries
listed : (pool : ℕ) (chunks : List Entry) (index p : ℕ) → list_all (λ (a : Piece Entry). is_placed pool a.chunk) (indexed chunks) ≡ true
    → place_at chunks index ≡ Some p → p < pool
listed pool chunks index p e at = go (slice_get chunks index) refl at
  where
    go : (o : Option Entry) → slice_get chunks index ≡ o → option_and_then (λ (x : Entry). x.place) o ≡ Some p → p < pool
    go None is at = absurd (cc)
    go (Some x) is at =
        below pool x p
        (all_at (λ (a : Piece Entry). is_placed pool a.chunk) (indexed chunks) index (record { index = index; chunk = x }) e
        (indexed_at index chunks ∙ ap (option_map (λ (y : Entry). record { index = index; chunk = y })) is)) at

-- the entries of the volumes, of the running clones, and of the running copies
abbrev of_volumes : Durable Entry → List (Piece Entry)
of_volumes d = flat_map (λ (v : Volume Entry). indexed v.chunks) d.volumes

abbrev of_clones : Durable Entry → List (Piece Entry)
of_clones d = flat_map (λ (c : RunningClone Entry). indexed c.image ++ indexed c.target) d.clones

abbrev of_copies : Durable Entry → List (Piece Entry)
of_copies d = flat_map (λ (c : RunningCopy Entry). c.pieces) d.copies

module _ (d : Durable Entry) (e : is_well_formed d ≡ true) where
  first_two : (list_all (λ (a : Piece Entry). is_placed d.geometry.pool_chunks a.chunk) (of_volumes d)
      && list_all (λ (a : Piece Entry). is_placed d.geometry.pool_chunks a.chunk) (of_clones d)) ≡ true
  first_two =
      sym (list_all-append (λ (a : Piece Entry). is_placed d.geometry.pool_chunks a.chunk) (of_volumes d) (of_clones d))
      ∙ and_left (list_all (λ (a : Piece Entry). is_placed d.geometry.pool_chunks a.chunk) (of_volumes d ++ of_clones d)) _
      (sym (list_all-append (λ (a : Piece Entry). is_placed d.geometry.pool_chunks a.chunk) (of_volumes d ++ of_clones d) (of_copies d)) ∙ all_placed d e)

  volumes : list_all (λ (v : Volume Entry). list_all (λ (a : Piece Entry). is_placed d.geometry.pool_chunks a.chunk) (indexed v.chunks)) d.volumes ≡ true
  volumes =
      sym (all-flat_map (λ (a : Piece Entry). is_placed d.geometry.pool_chunks a.chunk) (λ (v : Volume Entry). indexed v.chunks) d.volumes)
      ∙ and_left (list_all (λ (a : Piece Entry). is_placed d.geometry.pool_chunks a.chunk) (of_volumes d)) _ first_two

  clones : list_all (λ (c : RunningClone Entry). list_all (λ (a : Piece Entry). is_placed d.geometry.pool_chunks a.chunk) (indexed c.image ++ indexed c.target)) d.clones ≡ true
  clones =
      sym (all-flat_map (λ (a : Piece Entry). is_placed d.geometry.pool_chunks a.chunk) (λ (c : RunningClone Entry). indexed c.image ++ indexed c.target) d.clones)
      ∙ and_right (list_all (λ (a : Piece Entry). is_placed d.geometry.pool_chunks a.chunk) (of_volumes d)) _ first_two

  pub volume_within : (n index p : ℕ) → place_in_volume d n index ≡ Some p → p < d.geometry.pool_chunks
  unfolding place_in_volume
  volume_within n index p at = go (volume_of d n) refl at
    where
      go : (o : Option (Volume Entry)) → volume_of d n ≡ o → if_found o (λ (v : Volume Entry). place_at v.chunks index) None ≡ Some p → p < d.geometry.pool_chunks
      go None is at = absurd (cc)
      go (Some v) is at =
          listed d.geometry.pool_chunks v.chunks index p
          (all-found (λ (w : Volume Entry). list_all (λ (a : Piece Entry). is_placed d.geometry.pool_chunks a.chunk) (indexed w.chunks))
          (λ (w : Volume Entry). w.number == n) v d.volumes volumes is) at

  pub image_within : (n index p : ℕ) → place_in_image d n index ≡ Some p → p < d.geometry.pool_chunks
  unfolding place_in_image
  image_within n index p at = go (clone_of d n) refl at
    where
      go : (o : Option (RunningClone Entry)) → clone_of d n ≡ o → if_found o (λ (c : RunningClone Entry). place_at c.image index) None ≡ Some p → p < d.geometry.pool_chunks
      go None is at = absurd (cc)
      go (Some c) is at =
          listed d.geometry.pool_chunks c.image index p
          (and_left (list_all (λ (a : Piece Entry). is_placed d.geometry.pool_chunks a.chunk) (indexed c.image)) _
          (sym (list_all-append (λ (a : Piece Entry). is_placed d.geometry.pool_chunks a.chunk) (indexed c.image) (indexed c.target))
          ∙ all-found (λ (w : RunningClone Entry). list_all (λ (a : Piece Entry). is_placed d.geometry.pool_chunks a.chunk) (indexed w.image ++ indexed w.target))
          (λ (w : RunningClone Entry). w.number == n) c d.clones clones is)) at

-- A place by the entry that was read, or by none.

pub place_within : (pool : ℕ) (o : Option Place) → ((p : ℕ) → option_map (λ (q : Place). q.0) o ≡ Some p → p < pool) → IfSome o (λ p. p.0 < pool)
place_within pool None h = tt
place_within pool (Some p) h = h p.0 refl

module _ (d : Durable Entry) (n index : ℕ) where
  pub by_volume : (e : PlacedEntry) → Some (seen_entry e) ≡ option_and_then (λ (v : Volume Entry). slice_get v.chunks index) (volume_of d n)
      → option_map (λ (p : Place). p.0) e.place ≡ place_in_volume d n index
  unfolding place_in_volume
  by_volume e at = go (volume_of d n) at
    where
      go : (o : Option (Volume Entry)) → Some (seen_entry e) ≡ option_and_then (λ (v : Volume Entry). slice_get v.chunks index) o
          → option_map (λ (p : Place). p.0) e.place ≡ if_found o (λ (v : Volume Entry). place_at v.chunks index) None
      go None at = absurd (cc)
      go (Some v) at = ap (λ (o : Option Entry). option_and_then (λ (x : Entry). x.place) o) at

  pub no_volume : None ≡ option_and_then (λ (v : Volume Entry). slice_get v.chunks index) (volume_of d n) → None ≡ place_in_volume d n index
  unfolding place_in_volume
  no_volume at = go (volume_of d n) at
    where
      go : (o : Option (Volume Entry)) → None ≡ option_and_then (λ (v : Volume Entry). slice_get v.chunks index) o
          → None ≡ if_found o (λ (v : Volume Entry). place_at v.chunks index) None
      go None at = refl
      go (Some v) at = ap (λ (o : Option Entry). option_and_then (λ (x : Entry). x.place) o) at

  pub by_image : (e : PlacedEntry) → Some (seen_entry e) ≡ option_and_then (λ (c : RunningClone Entry). slice_get c.image index) (clone_of d n)
      → option_map (λ (p : Place). p.0) e.place ≡ place_in_image d n index
  unfolding place_in_image
  by_image e at = go (clone_of d n) at
    where
      go : (o : Option (RunningClone Entry)) → Some (seen_entry e) ≡ option_and_then (λ (c : RunningClone Entry). slice_get c.image index) o
          → option_map (λ (p : Place). p.0) e.place ≡ if_found o (λ (c : RunningClone Entry). place_at c.image index) None
      go None at = absurd (cc)
      go (Some c) at = ap (λ (o : Option Entry). option_and_then (λ (x : Entry). x.place) o) at

  pub no_image : None ≡ option_and_then (λ (c : RunningClone Entry). slice_get c.image index) (clone_of d n) → None ≡ place_in_image d n index
  unfolding place_in_image
  no_image at = go (clone_of d n) at
    where
      go : (o : Option (RunningClone Entry)) → None ≡ option_and_then (λ (c : RunningClone Entry). slice_get c.image index) o
          → None ≡ if_found o (λ (c : RunningClone Entry). place_at c.image index) None
      go None at = refl
      go (Some c) at = ap (λ (o : Option Entry). option_and_then (λ (x : Entry). x.place) o) at

  -- A volume that has an index stands, and one without it has no entry there.
  module _ (s : ShelfState) (same : s.volumes ≡ d.volumes) where
    same_volume : volume_in s n ≡ volume_of d n
    same_volume = ap (λ (vs : List (Volume Entry)). find (λ (v : Volume Entry). v.number == n) vs) same

    pub volume_stands : index < size_of (shape_of_tables d) n → IsSome (volume_in s n)
    volume_stands lt = go (volume_of d n) same_volume (size_is d n)
      where
        go : (o : Option (Volume Entry)) → volume_in s n ≡ o → if_found o (λ (v : Volume Entry). length v.chunks) 0 ≡ size_of (shape_of_tables d) n → IsSome (volume_in s n)
        go None is size = absurd (omega (arith, lt, size))
        go (Some v) is size = ap is_some is

    pub index_within : index < size_of (shape_of_tables d) n → index < size_in s n
    index_within lt =
        let size : size_in s n ≡ size_of (shape_of_tables d) n = ap (λ (o : Option (Volume Entry)). if_found o (λ (v : Volume Entry). length v.chunks) 0) same_volume ∙ size_is d n in
        omega (arith, lt, size)

    pub entry_there : (e : Entry) → index < size_of (shape_of_tables d) n → slice_get (chunks_in s n) index ≡ Some e
        → Some e ≡ option_and_then (λ (v : Volume Entry). slice_get v.chunks index) (volume_of d n)
    entry_there e lt at = go (volume_of d n) same_volume (size_is d n)
      where
        go : (o : Option (Volume Entry)) → volume_in s n ≡ o → if_found o (λ (v : Volume Entry). length v.chunks) 0 ≡ size_of (shape_of_tables d) n
            → Some e ≡ option_and_then (λ (v : Volume Entry). slice_get v.chunks index) o
        go None is size = absurd (omega (arith, lt, size))
        go (Some v) is size = sym at ∙ ap (λ (o : Option (Volume Entry)). slice_get (if_found o (λ (w : Volume Entry). w.chunks) []) index) is

  pub no_entry : size_of (shape_of_tables d) n ≤ index → None ≡ option_and_then (λ (v : Volume Entry). slice_get v.chunks index) (volume_of d n)
  no_entry le = go (volume_of d n) (size_is d n)
    where
      go : (o : Option (Volume Entry)) → if_found o (λ (v : Volume Entry). length v.chunks) 0 ≡ size_of (shape_of_tables d) n
          → None ≡ option_and_then (λ (v : Volume Entry). slice_get v.chunks index) o
      go None size = refl
      go (Some v) size = sym (slice_get_past v.chunks index (omega (arith, le, size)))
