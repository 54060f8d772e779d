-- A volume of a shelf whose chunks change, and change again.
use Rattle.std.proofs.Common.{ℕ, ◌≡◌, Bool, true, false, cond, List, [], ◌∷◌, length, set, Option, Some, None, find, option_map, refl, sym, ap, ◌∙◌, length-set}
use Rattle.vv_flat.specs.Lists.{if_found, first_changed}
use Rattle.vv_flat.specs.State.{Volume}
use Rattle.vv_flat.specs.Chunks.{Entry}
use Rattle.vv_vols.specs.Shelf.{ShelfState, is_volume, volume_in, size_in, chunks_in}
use Rattle.vv_vols.specs.Calls.{with_chunks, with_entry}

module _ (n : ℕ) (f g h : List Entry → List Entry) (is : (chunks : List Entry) → g (f chunks) ≡ h chunks) where
  abbrev with_f : (List Entry → List Entry) → Volume Entry → Volume Entry
  with_f k v = record v { chunks = k v.chunks }

  changed_twice : (vs : List (Volume Entry)) → first_changed (is_volume n) (with_f g) (first_changed (is_volume n) (with_f f) vs) ≡ first_changed (is_volume n) (with_f h) vs
  changed_twice [] = refl
  changed_twice (v ∷ vs) = go (is_volume n v) refl (changed_twice vs)
    where
      go : (b : Bool) → is_volume n v ≡ b → first_changed (is_volume n) (with_f g) (first_changed (is_volume n) (with_f f) vs) ≡ first_changed (is_volume n) (with_f h) vs
          → first_changed (is_volume n) (with_f g) (cond b (with_f f v ∷ vs) (v ∷ first_changed (is_volume n) (with_f f) vs)) ≡ cond b (with_f h v ∷ vs) (v ∷ first_changed (is_volume n) (with_f h) vs)
      go true passes later =
          ap (λ b. cond b (with_f g (with_f f v) ∷ vs) (with_f f v ∷ first_changed (is_volume n) (with_f g) vs)) passes
          ∙ ap (λ es. let w : Volume Entry = record v { chunks = es } in w ∷ vs) (is v.chunks)
      go false misses later =
          ap (λ b. cond b (with_f g v ∷ first_changed (is_volume n) (with_f f) vs) (v ∷ first_changed (is_volume n) (with_f g) (first_changed (is_volume n) (with_f f) vs))) misses
          ∙ ap (λ ws. v ∷ ws) later

  pub chunks_twice : (s : ShelfState) → with_chunks (with_chunks s n f) n g ≡ with_chunks s n h
  chunks_twice s = ap (λ vs. record s { volumes = vs }) (changed_twice s.volumes)

-- chunks that stay
none_changed : (n : ℕ) (vs : List (Volume Entry)) → first_changed (is_volume n) (λ (v : Volume Entry). record v { chunks = v.chunks }) vs ≡ vs
none_changed n [] = refl
none_changed n (v ∷ vs) = go (is_volume n v) (none_changed n vs)
  where
    go : (b : Bool) → first_changed (is_volume n) (λ (w : Volume Entry). record w { chunks = w.chunks }) vs ≡ vs
        → cond b (v ∷ vs) (v ∷ first_changed (is_volume n) (λ (w : Volume Entry). record w { chunks = w.chunks }) vs) ≡ (v ∷ vs)
    go true later = refl
    go false later = ap (λ ws. v ∷ ws) later

pub same_chunks : (s : ShelfState) (n : ℕ) → with_chunks s n (λ chunks. chunks) ≡ s
same_chunks s n = ap (λ vs. record s { volumes = vs }) (none_changed n s.volumes)

-- the volume that changed
found_chunks : (n : ℕ) (f : List Entry → List Entry) (vs : List (Volume Entry)) → find (is_volume n) (first_changed (is_volume n) (λ (v : Volume Entry). record v { chunks = f v.chunks }) vs)
    ≡ option_map (λ (v : Volume Entry). record v { chunks = f v.chunks }) (find (is_volume n) vs)
found_chunks n f [] = refl
found_chunks n f (v ∷ vs) = go (is_volume n v) refl (found_chunks n f vs)
  where
    go : (b : Bool) → is_volume n v ≡ b → find (is_volume n) (first_changed (is_volume n) (λ (w : Volume Entry). record w { chunks = f w.chunks }) vs) ≡ option_map (λ (w : Volume Entry). record w { chunks = f w.chunks }) (find (is_volume n) vs)
        → find (is_volume n) (cond b ((record v { chunks = f v.chunks }) ∷ vs) (v ∷ first_changed (is_volume n) (λ (w : Volume Entry). record w { chunks = f w.chunks }) vs))
        ≡ option_map (λ (w : Volume Entry). record w { chunks = f w.chunks }) (cond b (Some v) (find (is_volume n) vs))
    go true passes later = ap (λ b. cond b (Some (record v { chunks = f v.chunks })) (find (is_volume n) vs)) passes
    go false misses later = ap (λ b. cond b (Some v) (find (is_volume n) (first_changed (is_volume n) (λ (w : Volume Entry). record w { chunks = f w.chunks }) vs))) misses ∙ later

pub chunks_changed : (s : ShelfState) (n : ℕ) (f : List Entry → List Entry) → f [] ≡ [] → chunks_in (with_chunks s n f) n ≡ f (chunks_in s n)
chunks_changed s n f none = ap (λ (o : Option (Volume Entry)). if_found o (λ v. v.chunks) []) (found_chunks n f s.volumes) ∙ go (volume_in s n)
  where
    go : (o : Option (Volume Entry)) → if_found (option_map (λ (v : Volume Entry). record v { chunks = f v.chunks }) o) (λ (v : Volume Entry). v.chunks) [] ≡ f (if_found o (λ (v : Volume Entry). v.chunks) [])
    go None = sym none
    go (Some v) = refl

pub size_of_chunks : (s : ShelfState) (n : ℕ) → size_in s n ≡ length (chunks_in s n)
size_of_chunks s n = go (volume_in s n)
  where
    go : (o : Option (Volume Entry)) → if_found o (λ (v : Volume Entry). length v.chunks) 0 ≡ length (if_found o (λ (v : Volume Entry). v.chunks) [])
    go None = refl
    go (Some v) = refl

-- a volume with another entry is as long as before
pub size_stays : (s : ShelfState) (n index : ℕ) (e : Entry) → size_in (with_entry s n index e) n ≡ size_in s n
size_stays s n index e =
    size_of_chunks (with_entry s n index e) n
    ∙ ap (λ (es : List Entry). length es) (chunks_changed s n (λ chunks. set chunks index e) refl)
    ∙ length-set (chunks_in s n) index e ∙ sym (size_of_chunks s n)

-- only the chunks of the volume count
pub chunks_alike : (s : ShelfState) (n : ℕ) (f g : List Entry → List Entry) → f (chunks_in s n) ≡ g (chunks_in s n) → with_chunks s n f ≡ with_chunks s n g
chunks_alike s n f g same = ap (λ vs. record s { volumes = vs }) (go s.volumes same)
  where
    step : (v : Volume Entry) (vs : List (Volume Entry)) (b : Bool)
        → f (if_found (cond b (Some v) (find (is_volume n) vs)) (λ (w : Volume Entry). w.chunks) []) ≡ g (if_found (cond b (Some v) (find (is_volume n) vs)) (λ (w : Volume Entry). w.chunks) [])
        → (f (if_found (find (is_volume n) vs) (λ (w : Volume Entry). w.chunks) []) ≡ g (if_found (find (is_volume n) vs) (λ (w : Volume Entry). w.chunks) [])
        → first_changed (is_volume n) (λ (w : Volume Entry). record w { chunks = f w.chunks }) vs ≡ first_changed (is_volume n) (λ (w : Volume Entry). record w { chunks = g w.chunks }) vs)
        → cond b ((record v { chunks = f v.chunks }) ∷ vs) (v ∷ first_changed (is_volume n) (λ (w : Volume Entry). record w { chunks = f w.chunks }) vs)
        ≡ cond b ((record v { chunks = g v.chunks }) ∷ vs) (v ∷ first_changed (is_volume n) (λ (w : Volume Entry). record w { chunks = g w.chunks }) vs)
    step v vs true e later = ap (λ es. let w : Volume Entry = record v { chunks = es } in w ∷ vs) e
    step v vs false e later = ap (λ ws. v ∷ ws) (later e)

    go : (vs : List (Volume Entry)) → f (if_found (find (is_volume n) vs) (λ (w : Volume Entry). w.chunks) []) ≡ g (if_found (find (is_volume n) vs) (λ (w : Volume Entry). w.chunks) [])
        → first_changed (is_volume n) (λ (w : Volume Entry). record w { chunks = f w.chunks }) vs ≡ first_changed (is_volume n) (λ (w : Volume Entry). record w { chunks = g w.chunks }) vs
    go [] e = refl
    go (v ∷ vs) e = step v vs (is_volume n v) e (λ rest. go vs rest)
