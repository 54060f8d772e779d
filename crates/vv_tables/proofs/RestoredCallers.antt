-- For callers that put tables together again whose whole durable part is well-formed: each part shares places rightly with those
-- before it.
use Rattle.std.proofs.Common.{◌≡◌, inl, true, List, [], ◌∷◌, ◌++◌, sym, ap, subst, ◌∙◌, ⊎_elim}
use Rattle.std.specs.List.{Contains, flat_map}
use Rattle.std.proofs.lemmas.List.Concat.{flat_map-append}
use Rattle.std.proofs.lemmas.List.Elements.{Contains-append_left, Contains-append_right, Contains-append_cases}
use Rattle.vv_flat.specs.State.{Volume, RunningClone, RunningCopy, Piece, Durable, indexed, all_pieces}
use Rattle.vv_flat.specs.Chunks.{Entry}
use Rattle.vv_flat.specs.Sharing.{shares_places}
use Rattle.vv_flat.specs.WellFormed.{is_well_formed}
use Rattle.vv_flat.proofs.Shares.{shares-places}
use Rattle.vv_laws.proofs.WellFormed.{well_formed_sharing}
use Rattle.vv_vols.proofs.Members.{none_in}
use Rattle.vv_vols.proofs.Sharing.{shares_of_old}

-- what is made of the items ahead of one, and of the one
module _ {A B : Type 0} (f : A → List B) (front : List A) (x : A) (back : List A) (b : B) where
  in_front : Contains (flat_map f front) b → Contains (flat_map f (front ++ x ∷ back)) b
  in_front at = subst (λ (bs : List B). Contains bs b) (sym (flat_map-append f front (x ∷ back))) (Contains-append_left (flat_map f front) (flat_map f (x ∷ back)) b at)

  in_item : Contains (f x) b → Contains (flat_map f (front ++ x ∷ back)) b
  in_item at =
      subst (λ (bs : List B). Contains bs b) (sym (flat_map-append f front (x ∷ back)))
      (Contains-append_right (flat_map f front) (flat_map f (x ∷ back)) b (Contains-append_left (f x) (flat_map f back) b at))

abbrev of_volume : Volume Entry → List (Piece Entry)
of_volume v = indexed v.chunks

abbrev of_clone : RunningClone Entry → List (Piece Entry)
of_clone c = indexed c.image ++ indexed c.target

abbrev of_copy : RunningCopy Entry → List (Piece Entry)
of_copy c = c.pieces

-- parts of tables, and all of them
abbrev parts : List (Volume Entry) → List (RunningClone Entry) → List (RunningCopy Entry) → List (Piece Entry)
parts volumes clones copies = flat_map of_volume volumes ++ flat_map of_clone clones ++ flat_map of_copy copies

module _ (volumes : List (Volume Entry)) (clones : List (RunningClone Entry)) (copies : List (RunningCopy Entry)) (a : Piece Entry) where
  in_volumes : Contains (flat_map of_volume volumes) a → Contains (parts volumes clones copies) a
  in_volumes at =
      Contains-append_left (flat_map of_volume volumes ++ flat_map of_clone clones) (flat_map of_copy copies) a
      (Contains-append_left (flat_map of_volume volumes) (flat_map of_clone clones) a at)

  in_clones : Contains (flat_map of_clone clones) a → Contains (parts volumes clones copies) a
  in_clones at =
      Contains-append_left (flat_map of_volume volumes ++ flat_map of_clone clones) (flat_map of_copy copies) a
      (Contains-append_right (flat_map of_volume volumes) (flat_map of_clone clones) a at)

  in_copies : Contains (flat_map of_copy copies) a → Contains (parts volumes clones copies) a
  in_copies at = Contains-append_right (flat_map of_volume volumes ++ flat_map of_clone clones) (flat_map of_copy copies) a at

  which : {C : Type 0} → (Contains (flat_map of_volume volumes) a → C) → (Contains (flat_map of_clone clones) a → C) → (Contains (flat_map of_copy copies) a → C)
      → Contains (parts volumes clones copies) a → C
  which first second third at = ⊎_elim
      (λ ahead. ⊎_elim first second (Contains-append_cases (flat_map of_volume volumes) (flat_map of_clone clones) a ahead))
      third
      (Contains-append_cases (flat_map of_volume volumes ++ flat_map of_clone clones) (flat_map of_copy copies) a at)

module _ (d : Durable Entry) (well : is_well_formed d ≡ true) where
  whole : shares_places d.geometry.pool_chunks (all_pieces d) ≡ true
  whole = shares-places d (well_formed_sharing d well)

  -- some of all entries
  some_share : (ps : List (Piece Entry)) → ((a : Piece Entry) → Contains ps a → Contains (all_pieces d) a) → shares_places d.geometry.pool_chunks ps ≡ true
  some_share ps within = shares_of_old d.geometry.pool_chunks (all_pieces d) ps whole (λ a at. inl (within a at))

  -- a volume with those before it
  pub volume_shares : (r : Durable Entry) (v : Volume Entry) (back : List (Volume Entry)) → d.volumes ≡ r.volumes ++ v ∷ back → r.clones ≡ [] → r.copies ≡ []
      → shares_places d.geometry.pool_chunks (all_pieces r ++ indexed v.chunks) ≡ true
  volume_shares r v back is clones copies =
      ap (λ (cs : List (RunningClone Entry)). shares_places d.geometry.pool_chunks (parts r.volumes cs r.copies ++ indexed v.chunks)) clones
      ∙ ap (λ (cs : List (RunningCopy Entry)). shares_places d.geometry.pool_chunks (parts r.volumes [] cs ++ indexed v.chunks)) copies
      ∙ some_share (parts r.volumes [] [] ++ indexed v.chunks) (λ a at.
      let to_all = λ (front : Contains (flat_map of_volume (r.volumes ++ v ∷ back)) a).
      in_volumes d.volumes d.clones d.copies a (subst (λ (vs : List (Volume Entry)). Contains (flat_map of_volume vs) a) (sym is) front) in
      ⊎_elim
      (λ old. which r.volumes [] [] a (λ front. to_all (in_front of_volume r.volumes v back a front)) (λ none. absurd (none_in a none)) (λ none. absurd (none_in a none)) old)
      (λ new. to_all (in_item of_volume r.volumes v back a new))
      (Contains-append_cases (parts r.volumes [] []) (indexed v.chunks) a at))

  -- a clone with those before it, where all volumes are there
  pub clone_shares : (r : Durable Entry) (c : RunningClone Entry) (back : List (RunningClone Entry)) → r.volumes ≡ d.volumes → d.clones ≡ r.clones ++ c ∷ back → r.copies ≡ []
      → shares_places d.geometry.pool_chunks (all_pieces r ++ (indexed c.image ++ indexed c.target)) ≡ true
  clone_shares r c back volumes is copies =
      ap (λ (vs : List (Volume Entry)). shares_places d.geometry.pool_chunks (parts vs r.clones r.copies ++ of_clone c)) volumes
      ∙ ap (λ (cs : List (RunningCopy Entry)). shares_places d.geometry.pool_chunks (parts d.volumes r.clones cs ++ of_clone c)) copies
      ∙ some_share (parts d.volumes r.clones [] ++ of_clone c) (λ a at.
      let to_all = λ (front : Contains (flat_map of_clone (r.clones ++ c ∷ back)) a).
      in_clones d.volumes d.clones d.copies a (subst (λ (cs : List (RunningClone Entry)). Contains (flat_map of_clone cs) a) (sym is) front) in
      ⊎_elim
      (λ old. which d.volumes r.clones [] a (λ front. in_volumes d.volumes d.clones d.copies a front) (λ front. to_all (in_front of_clone r.clones c back a front)) (λ none. absurd (none_in a none)) old)
      (λ new. to_all (in_item of_clone r.clones c back a new))
      (Contains-append_cases (parts d.volumes r.clones []) (of_clone c) a at))

  -- a copy with those before it, where all volumes and clones are there
  pub copy_shares : (r : Durable Entry) (c : RunningCopy Entry) (back : List (RunningCopy Entry)) → r.volumes ≡ d.volumes → r.clones ≡ d.clones → d.copies ≡ r.copies ++ c ∷ back
      → shares_places d.geometry.pool_chunks (all_pieces r ++ c.pieces) ≡ true
  copy_shares r c back volumes clones is =
      ap (λ (vs : List (Volume Entry)). shares_places d.geometry.pool_chunks (parts vs r.clones r.copies ++ of_copy c)) volumes
      ∙ ap (λ (cs : List (RunningClone Entry)). shares_places d.geometry.pool_chunks (parts d.volumes cs r.copies ++ of_copy c)) clones
      ∙ some_share (parts d.volumes d.clones r.copies ++ of_copy c) (λ a at.
      let to_all = λ (front : Contains (flat_map of_copy (r.copies ++ c ∷ back)) a).
      in_copies d.volumes d.clones d.copies a (subst (λ (cs : List (RunningCopy Entry)). Contains (flat_map of_copy cs) a) (sym is) front) in
      ⊎_elim
      (λ old. which d.volumes d.clones r.copies a (λ front. in_volumes d.volumes d.clones d.copies a front) (λ front. in_clones d.volumes d.clones d.copies a front)
      (λ front. to_all (in_front of_copy r.copies c back a front)) old)
      (λ new. to_all (in_item of_copy r.copies c back a new))
      (Contains-append_cases (parts d.volumes d.clones r.copies) (of_copy c) a at))
