-- Each call of a shelf keeps the sharing of places.
use Rattle.std.proofs.Common.{ℕ, ◌≡◌, ◌+◌, ◌-◌, ◌==◌, ◌&&◌, ◌||◌, ◌⊎◌, inl, inr, not, Bool, true, false, List, [], ◌∷◌, ◌++◌, length, replicate, set, refl, sym, ap, ◌∙◌, subst, ⊎_elim, arith}
use Rattle.std.specs.Prelude.{nat_lt}
use Rattle.std.specs.List.{Contains, list_all, list_any, flat_map}
use Rattle.std.proofs.lemmas.List.Elements.{Contains-append_left, Contains-append_right, Contains-append_cases}
use Rattle.vv_flat.specs.State.{Volume, Piece, indexed}
use Rattle.vv_flat.specs.Chunks.{Entry, unmapped_entry}
use Rattle.vv_flat.specs.Sharing.{names_place}
use Rattle.vv_flat.proofs.Shares.{and_left, and_right}
use Rattle.vv_flat.specs.NamedPlaces.{named_count}
use Rattle.vv_flat.proofs.NamedPlaces.{used_named}
use Rattle.vv_vols.specs.Shelf.{HeldList, ShelfState, pieces_of, shelf_pieces, shelf_used, is_volume, is_held, is_new_place, shares_rightly}
use Rattle.vv_vols.specs.Calls.{placed_at, with_changed, with_made, with_deleted, with_chunks, with_entry, with_size, with_put, with_held, without_held}
use Rattle.vv_vols.specs.Conditions.{is_new_stamp, AreUnmapped, Stands}
use Rattle.vv_vols.proofs.Members.{in_put, in_removed, in_changed, in_all, in_set, in_longer, chunk_in}
use Rattle.vv_vols.proofs.Sharing.{shares_of_old, shares_with_new}

pub not_false : (b : Bool) → not b ≡ true → b ≡ false
not_false true e = cc
not_false false e = refl

-- none of some items passes
pub none_all : {A : Type 0} (test : A → Bool) (xs : List A) → not (list_any test xs) ≡ true → list_all (λ x. not (test x)) xs ≡ true
none_all test [] e = refl
none_all test (x ∷ xs) e = go (test x) e (λ rest. none_all test xs rest)
  where
    go : (t : Bool) → not (t || list_any test xs) ≡ true → (not (list_any test xs) ≡ true → list_all (λ y. not (test y)) xs ≡ true) → (not t && list_all (λ y. not (test y)) xs) ≡ true
    go true e later = cc
    go false e later = later e

module _ (s : ShelfState) (shares : shares_rightly s ≡ true) where
  -- a piece of a shelf whose volumes changed
  volumes_case : (vs : List (Volume Entry)) (a : Piece Entry) {C : Type 0} → Contains (pieces_of vs s.held) a
      → (Contains (flat_map (λ (v : Volume Entry). indexed v.chunks) vs) a → Contains (shelf_pieces s) a ⊎ C) → Contains (shelf_pieces s) a ⊎ C
  volumes_case vs a at case = ⊎_elim
      case
      (λ back. inl (Contains-append_right (flat_map (λ (v : Volume Entry). indexed v.chunks) s.volumes) (flat_map (λ (h : HeldList). h.pieces) s.held) a back))
      (Contains-append_cases (flat_map (λ (v : Volume Entry). indexed v.chunks) vs) (flat_map (λ (h : HeldList). h.pieces) s.held) a at)

  in_volumes : (a : Piece Entry) → Contains (flat_map (λ (v : Volume Entry). indexed v.chunks) s.volumes) a → Contains (shelf_pieces s) a
  in_volumes a at = Contains-append_left (flat_map (λ (v : Volume Entry). indexed v.chunks) s.volumes) (flat_map (λ (h : HeldList). h.pieces) s.held) a at

  in_volume : (v : Volume Entry) (a : Piece Entry) → Contains s.volumes v → Contains (indexed v.chunks) a → Contains (shelf_pieces s) a
  in_volume v a at h = in_volumes a (in_all (λ (w : Volume Entry). indexed w.chunks) v s.volumes a at h)

  pub made_shares : (v : Volume Entry) → AreUnmapped v.chunks → shares_rightly (with_made s v) ≡ true
  made_shares v unmapped = shares_of_old s.geometry.pool_chunks (shelf_pieces s) (shelf_pieces (with_made s v)) shares (λ a at.
      volumes_case (with_made s v).volumes a at (λ front. ⊎_elim
      (λ new. inr (unmapped a.chunk (chunk_in 0 v.chunks a new)))
      (λ old. inl (in_volumes a old))
      (in_put (λ (w : Volume Entry). indexed w.chunks) (λ (w : Volume Entry). nat_lt v.number w.number) v s.volumes a front)))

  pub copied_shares : (v w : Volume Entry) → Contains s.volumes w → v.chunks ≡ w.chunks → shares_rightly (with_made s v) ≡ true
  copied_shares v w at same = shares_of_old s.geometry.pool_chunks (shelf_pieces s) (shelf_pieces (with_made s v)) shares (λ a h.
      volumes_case (with_made s v).volumes a h (λ front. ⊎_elim
      (λ new. inl (in_volume w a at (subst (λ chunks. Contains (indexed chunks) a) same new)))
      (λ old. inl (in_volumes a old))
      (in_put (λ (u : Volume Entry). indexed u.chunks) (λ (u : Volume Entry). nat_lt v.number u.number) v s.volumes a front)))

  pub deleted_shares : (n : ℕ) → shares_rightly (with_deleted s n) ≡ true
  deleted_shares n = shares_of_old s.geometry.pool_chunks (shelf_pieces s) (shelf_pieces (with_deleted s n)) shares (λ a h.
      volumes_case (with_deleted s n).volumes a h (λ front.
      inl (in_volumes a (in_removed (λ (w : Volume Entry). indexed w.chunks) (is_volume n) s.volumes a front))))

  -- a volume changed beside its chunks
  pub head_shares : (n : ℕ) (f : Volume Entry → Volume Entry) → ((v : Volume Entry) → (f v).chunks ≡ v.chunks) → shares_rightly (with_changed s n f) ≡ true
  head_shares n f same = shares_of_old s.geometry.pool_chunks (shelf_pieces s) (shelf_pieces (with_changed s n f)) shares (λ a h.
      volumes_case (with_changed s n f).volumes a h (λ front. ⊎_elim
      (λ old. inl (in_volumes a old))
      (λ (w : (v : Volume Entry) × Contains s.volumes v × Contains (indexed (f v).chunks) a). inl (in_volume w.0 a w.1 (subst (λ chunks. Contains (indexed chunks) a) (same w.0) w.2)))
      (in_changed (λ (v : Volume Entry). indexed v.chunks) (is_volume n) f s.volumes a front)))

  -- a piece of a shelf one of whose volumes has other chunks
  chunks_case : (n : ℕ) (f : List Entry → List Entry) (a : Piece Entry) {C : Type 0} → Contains (shelf_pieces (with_chunks s n f)) a
      → ((v : Volume Entry) → Contains s.volumes v → Contains (indexed (f v.chunks)) a → Contains (shelf_pieces s) a ⊎ C) → Contains (shelf_pieces s) a ⊎ C
  chunks_case n f a {C} h case = volumes_case (with_chunks s n f).volumes a h (λ front. ⊎_elim
      (λ old. inl (in_volumes a old))
      (λ (w : (v : Volume Entry) × Contains s.volumes v × Contains (indexed (f v.chunks)) a). case w.0 w.1 w.2)
      (in_changed (λ (v : Volume Entry). indexed v.chunks) (is_volume n) (λ (v : Volume Entry). record v { chunks = f v.chunks }) s.volumes a front))

  pub sized_shares : (n chunks : ℕ) → shares_rightly (with_size s n chunks) ≡ true
  sized_shares n chunks = shares_of_old s.geometry.pool_chunks (shelf_pieces s) (shelf_pieces (with_size s n chunks)) shares (λ a h.
      chunks_case n (λ old. old ++ replicate (chunks - length old) unmapped_entry) a h (λ v at new. ⊎_elim
      (λ old. inl (in_volume v a at old))
      (λ e. inr (sym e))
      (in_longer 0 (chunks - length v.chunks) unmapped_entry v.chunks a new)))

  pub unmapped_shares : (n index : ℕ) → shares_rightly (with_entry s n index unmapped_entry) ≡ true
  unmapped_shares n index = shares_of_old s.geometry.pool_chunks (shelf_pieces s) (shelf_pieces (with_entry s n index unmapped_entry)) shares (λ a h.
      chunks_case n (λ chunks. set chunks index unmapped_entry) a h (λ v at new. ⊎_elim
      (λ old. inl (in_volume v a at old))
      (λ e. inr (ap (λ (b : Piece Entry). b.chunk) (sym e)))
      (in_set 0 index unmapped_entry v.chunks a new)))

  pub replaced_shares : (n index : ℕ) (e : Entry) → Stands s (record { index = index; chunk = e }) → shares_rightly (with_entry s n index e) ≡ true
  replaced_shares n index e stands = shares_of_old s.geometry.pool_chunks (shelf_pieces s) (shelf_pieces (with_entry s n index e)) shares (λ a h.
      chunks_case n (λ chunks. set chunks index e) a h (λ v at new. ⊎_elim
      (λ old. inl (in_volume v a at old))
      (λ is. inl (subst (λ (b : Piece Entry). Contains (shelf_pieces s) b) (ap (λ i. record { index = i; chunk = e }) (omega arith) ∙ is) stands))
      (in_set 0 index e v.chunks a new)))

  pub reverted_shares : (n : ℕ) (w : Volume Entry) → Contains s.volumes w → shares_rightly (with_chunks s n (λ _. w.chunks)) ≡ true
  reverted_shares n w at = shares_of_old s.geometry.pool_chunks (shelf_pieces s) (shelf_pieces (with_chunks s n (λ _. w.chunks))) shares (λ a h.
      chunks_case n (λ _. w.chunks) a h (λ v in_s new. inl (in_volume w a at new)))

  pub put_shares : (n index p stamp : ℕ) → is_new_place s p ≡ true → is_new_stamp s index stamp ≡ true → shares_rightly (with_put s n index p stamp) ≡ true
  put_shares n index p stamp new_place new_stamp =
      shares_with_new s.geometry.pool_chunks (shelf_pieces s) (shelf_pieces (with_put s n index p stamp)) index p stamp shares
      (and_left (nat_lt p s.geometry.pool_chunks) _ new_place)
      (not_false (stamp == 0) (and_left (not (stamp == 0)) _ new_stamp))
      (none_all (names_place p) (shelf_pieces s) (and_right (nat_lt p s.geometry.pool_chunks) _ new_place))
      (and_right (not (stamp == 0)) _ new_stamp)
      (λ a h. chunks_case n (λ chunks. set chunks index (placed_at p stamp)) a h (λ v at new. ⊎_elim
      (λ old. inl (in_volume v a at old))
      (λ is. inr (ap (λ i. record { index = i; chunk = placed_at p stamp }) (omega arith) ∙ is))
      (in_set 0 index (placed_at p stamp) v.chunks a new)))

  -- ---- held lists
  held_case : (hs : List HeldList) (a : Piece Entry) {C : Type 0} → Contains (pieces_of s.volumes hs) a
      → (Contains (flat_map (λ (h : HeldList). h.pieces) hs) a → Contains (shelf_pieces s) a ⊎ C) → Contains (shelf_pieces s) a ⊎ C
  held_case hs a at case = ⊎_elim
      (λ front. inl (in_volumes a front))
      case
      (Contains-append_cases (flat_map (λ (v : Volume Entry). indexed v.chunks) s.volumes) (flat_map (λ (h : HeldList). h.pieces) hs) a at)

  in_held : (a : Piece Entry) → Contains (flat_map (λ (h : HeldList). h.pieces) s.held) a → Contains (shelf_pieces s) a
  in_held a at = Contains-append_right (flat_map (λ (v : Volume Entry). indexed v.chunks) s.volumes) (flat_map (λ (h : HeldList). h.pieces) s.held) a at

  pub held_shares : (h : HeldList) → ((a : Piece Entry) → Contains h.pieces a → Stands s a ⊎ (a.chunk ≡ unmapped_entry)) → shares_rightly (with_held s h) ≡ true
  held_shares h comes = shares_of_old s.geometry.pool_chunks (shelf_pieces s) (shelf_pieces (with_held s h)) shares (λ a at.
      held_case (with_held s h).held a at (λ back. ⊎_elim
      (λ new. comes a new)
      (λ old. inl (in_held a old))
      (in_put (λ (k : HeldList). k.pieces) (λ (k : HeldList). nat_lt h.number k.number) h s.held a back)))

  pub dropped_shares : (n : ℕ) → shares_rightly (without_held s n) ≡ true
  dropped_shares n = shares_of_old s.geometry.pool_chunks (shelf_pieces s) (shelf_pieces (without_held s n)) shares (λ a at.
      held_case (without_held s n).held a at (λ back. inl (in_held a (in_removed (λ (k : HeldList). k.pieces) (is_held n) s.held a back))))

pub used_are_named : (s : ShelfState) → shares_rightly s ≡ true → shelf_used s ≡ named_count s.geometry.pool_chunks (shelf_pieces s) + length s.fresh
used_are_named s shares = ap (λ n. n + length s.fresh) (used_named s.geometry.pool_chunks (shelf_pieces s) shares)
