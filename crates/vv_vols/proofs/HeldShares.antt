-- Each call on a held list keeps the sharing of places.
use Rattle.std.proofs.Common.{ℕ, zero, suc, ◌≡◌, ◌==◌, ◌⊎◌, inl, inr, not, Bool, true, false, cond, List, [], ◌∷◌, ◌++◌, Option, Some, None, find, slice_get, option_map, refl, sym, ap, ◌∙◌, subst, ⊎_elim}
use Rattle.std.specs.Prelude.{nat_lt}
use Rattle.std.specs.List.{Contains, flat_map}
use Rattle.std.proofs.lemmas.List.Elements.{Contains-append_left, Contains-append_right, Contains-append_cases}
use Rattle.vv_flat.specs.Lists.{first_changed, if_found}
use Rattle.vv_flat.specs.State.{Volume, Piece, indexed}
use Rattle.vv_flat.specs.Chunks.{Entry, unmapped_entry}
use Rattle.vv_flat.specs.Sharing.{names_place}
use Rattle.vv_flat.proofs.Shares.{and_left, and_right}
use Rattle.vv_vols.specs.Shelf.{HeldList, ShelfState, pieces_of, shelf_pieces, is_volume, volume_in, chunks_in, is_held, held_in, pieces_in, piece_at, entry_at, chunk_at, index_at, is_new_place, shares_rightly}
use Rattle.vv_vols.specs.Calls.{placed_at, piece_set, with_made, with_chunks, with_piece, without_fresh, without_held}
use Rattle.vv_vols.specs.Conditions.{is_new_stamp, Stands}
use Rattle.vv_vols.proofs.Members.{here, there, first_or_behind, none_in, in_put, in_removed, in_changed, in_all}
use Rattle.vv_vols.proofs.Sharing.{shares_of_old, shares_with_new}
use Rattle.vv_vols.proofs.Kept.{not_false, none_all}

contains_found : {A : Type 0} (p : A → Bool) (xs : List A) (x : A) → find p xs ≡ Some x → Contains xs x
contains_found p [] x e = absurd (cc)
contains_found p (y ∷ ys) x e = go (p y) (contains_found p ys x) e
  where
    go : (b : Bool) → (find p ys ≡ Some x → Contains ys x) → cond b (Some y) (find p ys) ≡ Some x → Contains (y ∷ ys) x
    go true later e = let same : y ≡ x = cc in subst (Contains (y ∷ ys)) same (here y ys)
    go false later e = there y ys x (later e)

-- what is made of a list one of whose items changed is what was made of it, or of the item that the first was changed to
in_found_changed : {A B : Type 0} (f : A → List B) (test : A → Bool) (g : A → A) (xs : List A) (b : B) → Contains (flat_map f (first_changed test g xs)) b
    → Contains (flat_map f xs) b ⊎ ((x : A) × (find test xs ≡ Some x) × Contains (f (g x)) b)
in_found_changed f test g [] b h = inl h
in_found_changed f test g (y ∷ ys) b h = go (test y) (in_found_changed f test g ys b) h
  where
    go : (t : Bool) → (Contains (flat_map f (first_changed test g ys)) b → Contains (flat_map f ys) b ⊎ ((x : _) × (find test ys ≡ Some x) × Contains (f (g x)) b))
        → Contains (flat_map f (cond t (g y ∷ ys) (y ∷ first_changed test g ys))) b → Contains (flat_map f (y ∷ ys)) b ⊎ ((x : _) × (cond t (Some y) (find test ys) ≡ Some x) × Contains (f (g x)) b)
    go true later h = ⊎_elim
        (λ front. inr (y, refl, front))
        (λ back. inl (Contains-append_right (f y) (flat_map f ys) b back))
        (Contains-append_cases (f (g y)) (flat_map f ys) b h)
    go false later h = ⊎_elim
        (λ front. inl (Contains-append_left (f y) (flat_map f ys) b front))
        (λ back. ⊎_elim
        (λ old. inl (Contains-append_right (f y) (flat_map f ys) b old))
        (λ w. inr (w.0, w.1, w.2))
        (later back))
        (Contains-append_cases (f y) (flat_map f (first_changed test g ys)) b h)

slice_in : {A : Type 0} (xs : List A) (at : ℕ) (x : A) → slice_get xs at ≡ Some x → Contains xs x
slice_in [] at x e = absurd (cc)
slice_in (y ∷ ys) zero x e = let same : y ≡ x = cc in subst (Contains (y ∷ ys)) same (here y ys)
slice_in (y ∷ ys) (suc at) x e = there y ys x (slice_in ys at x e)

-- the chunk at a position, where there is one
pub chunk_is : (s : ShelfState) (n at : ℕ) (e : Entry) → entry_at s n at ≡ Some e → chunk_at s n at ≡ e
chunk_is s n at e is = go (piece_at s n at) is
  where
    go : (o : Option (Piece Entry)) → option_map (λ (a : Piece Entry). a.chunk) o ≡ Some e → if_found o (λ (a : Piece Entry). a.chunk) unmapped_entry ≡ e
    go None is = absurd (cc)
    go (Some b) is = cc

in_piece_set : (at : ℕ) (e : Entry) (ps : List (Piece Entry)) (a : Piece Entry) → Contains (piece_set at e ps) a
    → Contains ps a ⊎ ((b : Piece Entry) × (slice_get ps at ≡ Some b) × (record { index = b.index; chunk = e } ≡ a))
in_piece_set at e [] a h = inl h
in_piece_set zero e (p ∷ ps) a h = ⊎_elim
    (λ is. inr (p, refl, is))
    (λ rest. inl (there p ps a rest))
    (first_or_behind (record { index = p.index; chunk = e }) ps a h)
in_piece_set (suc at) e (p ∷ ps) a h = ⊎_elim
    (λ is. inl (subst (Contains (p ∷ ps)) is (here p ps)))
    (λ rest. ⊎_elim (λ old. inl (there p ps a old)) (λ w. inr (w.0, w.1, w.2)) (in_piece_set at e ps a rest))
    (first_or_behind p (piece_set at e ps) a h)

module _ (s : ShelfState) (shares : shares_rightly s ≡ true) where
  in_volumes : (a : Piece Entry) → Contains (flat_map (λ (v : Volume Entry). indexed v.chunks) s.volumes) a → Contains (shelf_pieces s) a
  in_volumes a at = Contains-append_left (flat_map (λ (v : Volume Entry). indexed v.chunks) s.volumes) (flat_map (λ (h : HeldList). h.pieces) s.held) a at

  in_held : (a : Piece Entry) → Contains (flat_map (λ (h : HeldList). h.pieces) s.held) a → Contains (shelf_pieces s) a
  in_held a at = Contains-append_right (flat_map (λ (v : Volume Entry). indexed v.chunks) s.volumes) (flat_map (λ (h : HeldList). h.pieces) s.held) a at

  pub in_pieces : (n : ℕ) (h : HeldList) (a : Piece Entry) → held_in s n ≡ Some h → Contains h.pieces a → Contains (shelf_pieces s) a
  in_pieces n h a found at = in_held a (in_all (λ (k : HeldList). k.pieces) h s.held a (contains_found (is_held n) s.held h found) at)

  pub in_pieces_in : (n : ℕ) (a : Piece Entry) → Contains (pieces_in s n) a → Contains (shelf_pieces s) a
  in_pieces_in n a at = go (held_in s n) refl at
    where
      go : (o : Option HeldList) → held_in s n ≡ o → Contains (if_found o (λ (h : HeldList). h.pieces) []) a → Contains (shelf_pieces s) a
      go None e h = absurd (none_in a h)
      go (Some h) e at = in_pieces n h a e at

  pub in_chunks : (n : ℕ) (a : Piece Entry) → Contains (indexed (chunks_in s n)) a → Contains (shelf_pieces s) a
  in_chunks n a at = go (volume_in s n) refl at
    where
      go : (o : Option (Volume Entry)) → volume_in s n ≡ o → Contains (indexed (if_found o (λ (v : Volume Entry). v.chunks) [])) a → Contains (shelf_pieces s) a
      go None e h = absurd (none_in a h)
      go (Some v) e at = in_volumes a (in_all (λ (w : Volume Entry). indexed w.chunks) v s.volumes a (contains_found (is_volume n) s.volumes v e) at)

  -- the entry of a held list at a position stands
  pub piece_stands : (n at : ℕ) (e : Entry) → entry_at s n at ≡ Some e → Stands s (record { index = index_at s n at; chunk = e })
  piece_stands n at e there_is = go (piece_at s n at) refl there_is
    where
      go : (o : Option (Piece Entry)) → piece_at s n at ≡ o → option_map (λ (a : Piece Entry). a.chunk) o ≡ Some e
          → Contains (shelf_pieces s) (record { index = if_found o (λ (a : Piece Entry). a.index) 0; chunk = e })
      go None is e_is = absurd (cc)
      go (Some b) is e_is =
          let same : b.chunk ≡ e = cc in
          subst (λ x. Contains (shelf_pieces s) (record { index = b.index; chunk = x })) same (in_pieces_in n b (slice_in (pieces_in s n) at b is))

  -- a piece of a shelf one of whose held lists has other pieces
  pub changed_case : (n : ℕ) (f : HeldList → HeldList) (a : Piece Entry) {C : Type 0} → Contains (pieces_of s.volumes (first_changed (is_held n) f s.held)) a
      → ((h : HeldList) → held_in s n ≡ Some h → Contains (f h).pieces a → Contains (shelf_pieces s) a ⊎ C) → Contains (shelf_pieces s) a ⊎ C
  changed_case n f a at case = ⊎_elim
      (λ front. inl (in_volumes a front))
      (λ back. ⊎_elim
      (λ old. inl (in_held a old))
      (λ w. case w.0 w.1 w.2)
      (in_found_changed (λ (h : HeldList). h.pieces) (is_held n) f s.held a back))
      (Contains-append_cases (flat_map (λ (v : Volume Entry). indexed v.chunks) s.volumes) (flat_map (λ (h : HeldList). h.pieces) (first_changed (is_held n) f s.held)) a at)

  index_found : (n at : ℕ) (h : HeldList) (b : Piece Entry) → held_in s n ≡ Some h → slice_get h.pieces at ≡ Some b → index_at s n at ≡ b.index
  index_found n at h b found there_is =
      ap (λ o. if_found (slice_get (if_found o (λ (k : HeldList). k.pieces) []) at) (λ (p : Piece Entry). p.index) 0) found
      ∙ ap (λ o. if_found o (λ (p : Piece Entry). p.index) 0) there_is

  pub held_put_shares : (n at p stamp : ℕ) → is_new_place s p ≡ true → is_new_stamp s (index_at s n at) stamp ≡ true → shares_rightly (with_piece (without_fresh s p) n at (placed_at p stamp)) ≡ true
  held_put_shares n at p stamp new_place new_stamp =
      let index = index_at s n at in
      shares_with_new s.geometry.pool_chunks (shelf_pieces s) (shelf_pieces (with_piece (without_fresh s p) n at (placed_at p stamp))) index p stamp shares
      (and_left (nat_lt p s.geometry.pool_chunks) _ new_place)
      (not_false (stamp == 0) (and_left (not (stamp == 0)) _ new_stamp))
      (none_all (names_place p) (shelf_pieces s) (and_right (nat_lt p s.geometry.pool_chunks) _ new_place))
      (and_right (not (stamp == 0)) _ new_stamp)
      (λ a h. changed_case n (λ (k : HeldList). record k { pieces = piece_set at (placed_at p stamp) k.pieces }) a h (λ k found new. ⊎_elim
      (λ old. inl (in_pieces n k a found old))
      (λ w. inr (ap (λ i. record { index = i; chunk = placed_at p stamp }) (index_found n at k w.0 found w.1) ∙ w.2))
      (in_piece_set at (placed_at p stamp) k.pieces a new)))

  pub held_stands_shares : (n at : ℕ) (e : Entry) → Stands s (record { index = index_at s n at; chunk = e }) → shares_rightly (with_piece s n at e) ≡ true
  held_stands_shares n at e stands = shares_of_old s.geometry.pool_chunks (shelf_pieces s) (shelf_pieces (with_piece s n at e)) shares (λ a h.
      changed_case n (λ (k : HeldList). record k { pieces = piece_set at e k.pieces }) a h (λ k found new. ⊎_elim
      (λ old. inl (in_pieces n k a found old))
      (λ w. inl (subst (Contains (shelf_pieces s)) (ap (λ i. record { index = i; chunk = e }) (index_found n at k w.0 found w.1) ∙ w.2) stands))
      (in_piece_set at e k.pieces a new)))

  -- an unmapped entry more
  pub held_longer_shares : (n index : ℕ) (f : HeldList → HeldList) → ((k : HeldList) → (f k).pieces ≡ k.pieces ++ (record { index = index; chunk = unmapped_entry } ∷ []))
      → shares_rightly (record s { held = first_changed (is_held n) f s.held }) ≡ true
  held_longer_shares n index f is = shares_of_old s.geometry.pool_chunks (shelf_pieces s) (pieces_of s.volumes (first_changed (is_held n) f s.held)) shares (λ a h.
      changed_case n f a h (λ k found new. ⊎_elim
      (λ old. inl (in_pieces n k a found old))
      (λ last. ⊎_elim (λ e. inr (ap (λ (b : Piece Entry). b.chunk) (sym e))) (λ bad. absurd (none_in a bad)) (first_or_behind (record { index = index; chunk = unmapped_entry }) [] a last))
      (Contains-append_cases k.pieces (record { index = index; chunk = unmapped_entry } ∷ []) a (subst (λ ps. Contains ps a) (is k) new))))

  -- ---- a held list becomes that of a volume
  without_case : (n : ℕ) (vs : List (Volume Entry)) (a : Piece Entry) → Contains (pieces_of vs (without_held s n).held) a
      → (Contains (flat_map (λ (v : Volume Entry). indexed v.chunks) vs) a → Contains (shelf_pieces s) a ⊎ (a.chunk ≡ unmapped_entry)) → Contains (shelf_pieces s) a ⊎ (a.chunk ≡ unmapped_entry)
  without_case n vs a at case = ⊎_elim
      case
      (λ back. inl (in_held a (in_removed (λ (k : HeldList). k.pieces) (is_held n) s.held a back)))
      (Contains-append_cases (flat_map (λ (v : Volume Entry). indexed v.chunks) vs) (flat_map (λ (h : HeldList). h.pieces) (without_held s n).held) a at)

  pub made_held_shares : (n : ℕ) (v : Volume Entry) → indexed v.chunks ≡ pieces_in s n → shares_rightly (with_made (without_held s n) v) ≡ true
  made_held_shares n v is = shares_of_old s.geometry.pool_chunks (shelf_pieces s) (shelf_pieces (with_made (without_held s n) v)) shares (λ a h.
      without_case n (with_made s v).volumes a h (λ front. ⊎_elim
      (λ new. inl (in_pieces_in n a (subst (λ ps. Contains ps a) is new)))
      (λ old. inl (in_volumes a old))
      (in_put (λ (w : Volume Entry). indexed w.chunks) (λ (w : Volume Entry). nat_lt v.number w.number) v s.volumes a front)))

  -- a held list and that of a volume change places
  pub swapped_shares : (n id : ℕ) (chunks : List Entry) (f : HeldList → HeldList) → indexed chunks ≡ pieces_in s n → ((k : HeldList) → (f k).pieces ≡ indexed (chunks_in s id))
      → shares_rightly (record (with_chunks s id (λ _. chunks)) { held = first_changed (is_held n) f s.held }) ≡ true
  swapped_shares n id chunks f is goes = shares_of_old s.geometry.pool_chunks (shelf_pieces s) (pieces_of (with_chunks s id (λ _. chunks)).volumes (first_changed (is_held n) f s.held)) shares (λ a h. ⊎_elim
      (λ front. ⊎_elim
      (λ old. inl (in_volumes a old))
      (λ w. inl (in_pieces_in n a (subst (λ ps. Contains ps a) is w.2)))
      (in_changed (λ (v : Volume Entry). indexed v.chunks) (is_volume id) (λ (v : Volume Entry). record v { chunks = chunks }) s.volumes a front))
      (λ back. ⊎_elim
      (λ old. inl (in_held a old))
      (λ w. inl (in_chunks id a (subst (λ ps. Contains ps a) (goes w.0) w.2)))
      (in_found_changed (λ (k : HeldList). k.pieces) (is_held n) f s.held a back))
      (Contains-append_cases (flat_map (λ (v : Volume Entry). indexed v.chunks) (with_chunks s id (λ _. chunks)).volumes) (flat_map (λ (k : HeldList). k.pieces) (first_changed (is_held n) f s.held)) a h))

  pub replaced_list_shares : (n id : ℕ) (chunks : List Entry) → indexed chunks ≡ pieces_in s n → shares_rightly (with_chunks (without_held s n) id (λ _. chunks)) ≡ true
  replaced_list_shares n id chunks is = shares_of_old s.geometry.pool_chunks (shelf_pieces s) (shelf_pieces (with_chunks (without_held s n) id (λ _. chunks))) shares (λ a h.
      without_case n (with_chunks s id (λ _. chunks)).volumes a h (λ front. ⊎_elim
      (λ old. inl (in_volumes a old))
      (λ w. inl (in_pieces_in n a (subst (λ ps. Contains ps a) is w.2)))
      (in_changed (λ (v : Volume Entry). indexed v.chunks) (is_volume id) (λ (v : Volume Entry). record v { chunks = chunks }) s.volumes a front)))
