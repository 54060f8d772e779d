-- A volume of 256 chunks that is written behind its snapshot.
use Rattle.std.proofs.Common.{ℕ, ◌≡◌, ◌≤◌, Bool, true, false, cond, List, [], ◌∷◌, Option, Some, None, find, length, set, replicate, sym, ap, ◌∙◌, subst, ⊎_elim, arith, length-set}
use Rattle.std.specs.Prelude.{IsSome, is_some, nat_lt}
use Rattle.std.specs.List.{Contains, flat_map}
use Rattle.std.proofs.lemmas.List.Elements.{Contains-append_left, Contains-append_right, Contains-append_cases}
use Rattle.vv_units.specs.declared.volume.VolumeKind.{VolumeKind}
use Rattle.vv_flat.specs.Lists.{if_found, put_before}
use Rattle.vv_flat.specs.State.{Volume, Piece, indexed}
use Rattle.vv_flat.specs.Chunks.{Entry, unmapped_entry}
use Rattle.vv_vols.specs.declared.head.Head.{Head}
use Rattle.vv_vols.specs.Shelf.{HeldList, ShelfState, is_volume, volume_in, size_in, pieces_of, shelf_pieces}
use Rattle.vv_vols.specs.Calls.{placed_at, with_made, with_put}
use Rattle.vv_vols.specs.Conditions.{is_new_stamp}
use Rattle.vv_vols.specs.Rows.{volume_with}
use Rattle.vv_vols.proofs.Members.{here, there, none_in, in_put, in_all, chunk_in}
use Rattle.vv_vols.proofs.EmptyShelf.{in_replicate}
use Rattle.vv_snap.specs.Copies.{with_copy}
use Rattle.vv_snap.proofs.Copied.{copy_is, copied_found, copied_other}
use Rattle.vv_snap.proofs.PutChunks.{stamp_new, put_other, put_found}
use Rattle.vv_snap.proofs.Filling.{volume_of}

-- what is found stands in the list
found_stands : {A : Type 0} (p : A → Bool) (x : A) (xs : List A) → find p xs ≡ Some x → Contains xs x
found_stands p x [] e = absurd (cc)
found_stands p x (y ∷ ys) e = go (p y) (found_stands p x ys) e
  where
    go : (b : Bool) → (find p ys ≡ Some x → Contains ys x) → cond b (Some y) (find p ys) ≡ Some x → Contains (y ∷ ys) x
    go true later e = let same : y ≡ x = cc in subst (λ z. Contains (y ∷ ys) z) same (here y ys)
    go false later e = there y ys x (later e)

-- the first volume of a shelf has no stamp yet
pub made_stamps : (s : ShelfState) (head : Head) (n k : ℕ) → s.volumes ≡ [] → s.held ≡ []
    → (a : Piece Entry) → Contains (shelf_pieces (with_made s (volume_with n head (replicate k unmapped_entry)))) a → a.chunk.stamp ≤ 0
made_stamps s head n k no_volumes no_held a at =
    let v : Volume Entry = volume_with n head (replicate k unmapped_entry) in
    let alone : Contains (pieces_of (v ∷ []) []) a =
    subst (λ (vs : List (Volume Entry)). Contains (pieces_of (put_before (λ (w : Volume Entry). nat_lt n w.number) v vs) []) a) no_volumes
    (subst (λ (hs : List HeldList). Contains (pieces_of (put_before (λ (w : Volume Entry). nat_lt n w.number) v s.volumes) hs) a) no_held at) in
    ⊎_elim
    (λ volumes. ⊎_elim
    (λ own. let same = in_replicate k unmapped_entry a.chunk (chunk_in 0 (replicate k unmapped_entry) a own) in let stamp = ap (λ (e : Entry). e.stamp) same in omega arith)
    (λ bad. absurd (none_in a bad))
    (Contains-append_cases (indexed v.chunks) [] a volumes))
    (λ bad. absurd (none_in a bad))
    (Contains-append_cases (flat_map (λ (w : Volume Entry). indexed w.chunks) (v ∷ [])) [] a alone)

-- a copy brings no stamp
copied_stamps : (s : ShelfState) (n id : ℕ) (kind : VolumeKind) (v : Volume Entry) (bound : ℕ) → volume_in s n ≡ Some v → ((a : Piece Entry) → Contains (shelf_pieces s) a → a.chunk.stamp ≤ bound)
    → (a : Piece Entry) → Contains (shelf_pieces (with_copy s n id kind)) a → a.chunk.stamp ≤ bound
copied_stamps s n id kind v bound found old a at =
    let copy : Volume Entry = record v { number = id; kind = kind } in
    let made : Contains (shelf_pieces (with_made s copy)) a = subst (λ (t : ShelfState). Contains (shelf_pieces t) a) (copy_is s n id kind v found) at in
    let in_volumes = λ (h : Contains (flat_map (λ (w : Volume Entry). indexed w.chunks) s.volumes) a).
    old a (Contains-append_left (flat_map (λ (w : Volume Entry). indexed w.chunks) s.volumes) (flat_map (λ (h : HeldList). h.pieces) s.held) a h) in
    ⊎_elim
    (λ front. ⊎_elim
    (λ new. in_volumes (in_all (λ (w : Volume Entry). indexed w.chunks) v s.volumes a (found_stands (is_volume n) v s.volumes found) new))
    (λ stood. in_volumes stood)
    (in_put (λ (w : Volume Entry). indexed w.chunks) (λ (w : Volume Entry). nat_lt id w.number) copy s.volumes a front))
    (λ back. old a (Contains-append_right (flat_map (λ (w : Volume Entry). indexed w.chunks) s.volumes) (flat_map (λ (h : HeldList). h.pieces) s.held) a back))
    (Contains-append_cases (flat_map (λ (w : Volume Entry). indexed w.chunks) (with_made s copy).volumes) (flat_map (λ (h : HeldList). h.pieces) s.held) a made)

module _ (s copied t : ShelfState) (kind : VolumeKind) (standing : IsSome (volume_in s 1)) (size : size_in s 1 ≡ 256) (unused : volume_in s 2 ≡ None)
    (stamps : (a : Piece Entry) → Contains (shelf_pieces s) a → a.chunk.stamp ≤ 200)
    (copy : copied ≡ with_copy s 1 2 kind) (taken : t ≡ record copied { fresh = t.fresh }) where
  v : Volume Entry
  v = (volume_of (volume_in s 1) standing).0

  found : volume_in s 1 ≡ Some v
  unfolding v
  found = (volume_of (volume_in s 1) standing).1

  length_is : length v.chunks ≡ 256
  length_is = sym (ap (λ (o : Option (Volume Entry)). if_found o (λ (w : Volume Entry). length w.chunks) 0) found) ∙ size

  one : volume_in t 1 ≡ Some v
  one = ap (λ (u : ShelfState). volume_in u 1) taken ∙ ap (λ (u : ShelfState). volume_in u 1) copy
      ∙ copied_other s 1 2 kind v found 1 (λ e. absurd (omega arith)) ∙ found

  two : volume_in t 2 ≡ Some (record v { number = 2; kind = kind })
  two = ap (λ (u : ShelfState). volume_in u 2) taken ∙ ap (λ (u : ShelfState). volume_in u 2) copy ∙ copied_found s 1 2 kind v found unused

  pub one_stands : IsSome (volume_in t 1)
  one_stands = ap (λ (o : Option (Volume Entry)). is_some o) one

  pub one_size : size_in t 1 ≡ 256
  one_size = ap (λ (o : Option (Volume Entry)). if_found o (λ (w : Volume Entry). length w.chunks) 0) one ∙ length_is

  pub one_stamp : is_new_stamp t 70 201 ≡ true
  one_stamp = stamp_new t 1 70 0 201 (λ a at.
      let most = copied_stamps s 1 2 kind v 200 found stamps a
      (subst (λ (u : ShelfState). Contains (shelf_pieces u) a) copy (subst (λ (u : ShelfState). Contains (shelf_pieces u) a) taken at)) in omega arith) (omega arith)

  module _ (u : ShelfState) (p : ℕ) (put : u ≡ with_put t 1 70 p 201) where
    written : volume_in u 1 ≡ Some (record v { chunks = set v.chunks 70 (placed_at p 201) })
    written = ap (λ (w : ShelfState). volume_in w 1) put ∙ put_found t 1 70 p 201 v one

    snapshot : volume_in u 2 ≡ Some (record v { number = 2; kind = kind })
    snapshot = ap (λ (w : ShelfState). volume_in w 2) put ∙ put_other t 1 70 p 201 2 (λ e. absurd (omega arith)) ∙ two

    pub written_stands : IsSome (volume_in u 1)
    written_stands = ap (λ (o : Option (Volume Entry)). is_some o) written

    pub written_size : size_in u 1 ≡ 256
    written_size = ap (λ (o : Option (Volume Entry)). if_found o (λ (w : Volume Entry). length w.chunks) 0) written ∙ length-set v.chunks 70 (placed_at p 201) ∙ length_is

    pub snapshot_stands : IsSome (volume_in u 2)
    snapshot_stands = ap (λ (o : Option (Volume Entry)). is_some o) snapshot

    pub snapshot_size : size_in u 2 ≡ 256
    snapshot_size = ap (λ (o : Option (Volume Entry)). if_found o (λ (w : Volume Entry). length w.chunks) 0) snapshot ∙ length_is
