-- The difference of two volumes, held piece after piece.
use Rattle.std.proofs.Common.{ℕ, zero, suc, ◌≡◌, ◌≢◌, ◌+◌, ◌-◌, ◌<◌, ◌≤◌, Bool, true, false, cond, not, filter, List, [], ◌∷◌, ◌++◌, map, length, get_or, take, drop, Option, Some, None, find, slice_get, refl, sym, ap, ◌∙◌, subst, ⊎_elim, arith, take_all, take-append-drop, length-append}
use Rattle.std.specs.Prelude.{nat_lt, slice_index}
use Rattle.std.specs.List.{Contains, flat_map}
use Rattle.std.proofs.lemmas.Bool.{eq-eqb, ne_eqb}
use Rattle.std.proofs.lemmas.List.{append-nil}
use Rattle.std.proofs.lemmas.List.Elements.{Contains-append_left, filter-append, filter_more}
use Rattle.vv_flat.specs.Lists.{if_found, first_changed, put_before, mapped_from}
use Rattle.vv_flat.specs.State.{Volume, Piece, indexed}
use Rattle.vv_flat.specs.Chunks.{Entry}
use Rattle.vv_flat.specs.Bits.{is_unshared}
use Rattle.vv_flat.proofs.Sums.{sum-put}
use Rattle.vv_vols.specs.Shelf.{HeldList, ShelfState, shelf_entries, is_volume, is_held, volume_in, held_in, size_in, chunks_in, held_size, pieces_in, left_in, is_image_in, next_held}
use Rattle.vv_vols.specs.Calls.{with_held, new_held}
use Rattle.vv_vols.specs.Conditions.{IsAbove, Stands}
use Rattle.vv_vols.proofs.Members.{first_or_behind, none_in, in_all}
use Rattle.vv_diff.specs.Pieces.{difference_in, with_piece_more}
use Rattle.vv_diff.proofs.PutPieces.{slice_in, slice_within}

-- ---- lists with one item put between
module _ {A : Type 0} (p q : A → Bool) (h : A) (hits : p h ≡ true) where
  found_put : (xs : List A) → find p xs ≡ None → find p (put_before q h xs) ≡ Some h
  found_put [] none = ap (λ b. cond b (Some h) None) hits
  found_put (x ∷ xs) none = go (q x) (p x) refl none (found_put xs)
    where
      go : (b c : Bool) → p x ≡ c → cond c (Some x) (find p xs) ≡ None → (find p xs ≡ None → find p (put_before q h xs) ≡ Some h)
          → find p (cond b (h ∷ x ∷ xs) (x ∷ put_before q h xs)) ≡ Some h
      go b true is none later = absurd (cc)
      go true false is none later = ap (λ b. cond b (Some h) (find p (x ∷ xs))) hits
      go false false is none later = ap (λ b. cond b (Some x) (find p (put_before q h xs))) is ∙ later none

  changed_put : (f : A → A) (xs : List A) → find p xs ≡ None → first_changed p f (put_before q h xs) ≡ put_before q (f h) xs
  changed_put f [] none = ap (λ b. cond b (f h ∷ []) (h ∷ [])) hits
  changed_put f (x ∷ xs) none = go (q x) (p x) refl none (changed_put f xs)
    where
      go : (b c : Bool) → p x ≡ c → cond c (Some x) (find p xs) ≡ None → (find p xs ≡ None → first_changed p f (put_before q h xs) ≡ put_before q (f h) xs)
          → first_changed p f (cond b (h ∷ x ∷ xs) (x ∷ put_before q h xs)) ≡ cond b (f h ∷ x ∷ xs) (x ∷ put_before q (f h) xs)
      go b true is none later = absurd (cc)
      go true false is none later = ap (λ b. cond b (f h ∷ x ∷ xs) (h ∷ first_changed p f (x ∷ xs))) hits
      go false false is none later = ap (λ b. cond b (f x ∷ put_before q h xs) (x ∷ first_changed p f (put_before q h xs))) is ∙ ap (λ ys. x ∷ ys) (later none)

-- ---- chunks with their indexes
abbrev numbered : ℕ → List Entry → List (Piece Entry)
numbered first es = mapped_from (λ i x. record { index = i; chunk = x }) first es

numbered_at : (first i : ℕ) (es : List Entry) (e : Entry) → slice_get es i ≡ Some e → slice_get (numbered first es) i ≡ Some (record { index = first + i; chunk = e })
numbered_at first i [] e there = absurd (cc)
numbered_at first zero (x ∷ es) e there = let same : x ≡ e = cc in let z : first ≡ first + 0 = omega arith in ap (λ y. Some (let q : Piece Entry = record { index = first; chunk = y } in q)) same ∙ ap (λ k. Some (let q : Piece Entry = record { index = k; chunk = e } in q)) z
numbered_at first (suc i) (x ∷ es) e there = numbered_at (first + 1) i es e there ∙ ap (λ k. Some (let q : Piece Entry = record { index = k; chunk = e } in q)) (omega arith)

numbered_length : (first : ℕ) (es : List Entry) → length (numbered first es) ≡ length es
numbered_length first [] = refl
numbered_length first (e ∷ es) = ap suc (numbered_length (first + 1) es)

numbered_below : (first k : ℕ) (es : List Entry) (a : Piece Entry) → Contains (take k (numbered first es)) a → a.index < first + k
numbered_below first zero es a at = absurd (none_in a at)
numbered_below first (suc k) [] a at = absurd (none_in a at)
numbered_below first (suc k) (e ∷ es) a at = ⊎_elim
    (λ is. let same : first ≡ a.index = ap (λ (b : Piece Entry). b.index) is in omega arith)
    (λ rest. let low = numbered_below (first + 1) k es a rest in omega arith)
    (first_or_behind (record { index = first; chunk = e }) (take k (numbered (first + 1) es)) a at)

in_filtered : {A : Type 0} (p : A → Bool) (xs : List A) (a : A) → Contains (filter p xs) a → Contains xs a
in_filtered p [] a at = at
in_filtered p (x ∷ xs) a at = go (p x) (in_filtered p xs a) at
  where
    go : (b : Bool) → (Contains (filter p xs) a → Contains xs a) → Contains (cond b (x ∷ filter p xs) (filter p xs)) a → Contains (x ∷ xs) a
    go true later at = ⊎_elim (λ is. (0, omega arith, is)) (λ rest. let r = later rest in (suc r.0, (let lt = r.1 in omega arith), r.2)) (first_or_behind x (filter p xs) a at)
    go false later at = let r = later at in (suc r.0, (let lt = r.1 in omega arith), r.2)

filtered_most : {A : Type 0} (p : A → Bool) (k : ℕ) (xs : List A) → length (filter p (take k xs)) ≤ length (filter p xs)
filtered_most p k xs =
    let parts : length (filter p xs) ≡ length (filter p (take k xs)) + length (filter p (drop k xs)) =
    ap (λ ys. length (filter p ys)) (sym (take-append-drop k xs)) ∙ ap length (filter-append p (take k xs) (drop k xs)) ∙ length-append (filter p (take k xs)) (filter p (drop k xs)) in
    omega arith

-- ---- a shelf that holds the difference so far
module _ (s : ShelfState) (src base left : ℕ) where
  abbrev pub test : Piece Entry → Bool
  test p = is_unshared (map (λ (e : Entry). e.stamp) (chunks_in s base)) p.index p.chunk.stamp

  abbrev pub so_far : ℕ → List (Piece Entry)
  so_far k = filter test (take k (indexed (chunks_in s src)))

  abbrev pub so_far_list : ℕ → HeldList
  so_far_list k = new_held s (so_far k) false (left - length (so_far k))

  abbrev pub so_far_state : ℕ → ShelfState
  so_far_state k = with_held s (so_far_list k)

module _ (s : ShelfState) (src base left : ℕ) (unused : held_in s (next_held s) ≡ None) where
  pub so_far_found : (k : ℕ) → held_in (so_far_state s src base left k) (next_held s) ≡ Some (so_far_list s src base left k)
  so_far_found k = found_put (is_held (next_held s)) (λ (h : HeldList). nat_lt (next_held s) h.number) (so_far_list s src base left k) (eq-eqb (next_held s) (next_held s) refl) s.held unused

  pub so_far_pieces : (k : ℕ) → pieces_in (so_far_state s src base left k) (next_held s) ≡ so_far s src base left k
  so_far_pieces k = ap (λ o. if_found o (λ (h : HeldList). h.pieces) []) (so_far_found k)

  pub so_far_size : (k : ℕ) → held_size (so_far_state s src base left k) (next_held s) ≡ length (so_far s src base left k)
  so_far_size k = ap length (so_far_pieces k)

  pub so_far_left : (k : ℕ) → left_in (so_far_state s src base left k) (next_held s) ≡ left - length (so_far s src base left k)
  so_far_left k = ap (λ o. if_found o (λ (h : HeldList). h.left) 0) (so_far_found k)

  pub so_far_image : (k : ℕ) → is_image_in (so_far_state s src base left k) (next_held s) ≡ false
  so_far_image k = ap (λ o. if_found o (λ (h : HeldList). h.is_image) true) (so_far_found k)

  pub so_far_above : (k : ℕ) → IsAbove (so_far_state s src base left k) (next_held s) k
  so_far_above k a at =
      let low = numbered_below 0 k (chunks_in s src) a (in_filtered (test s src base left) (take k (indexed (chunks_in s src))) a (subst (λ ps. Contains ps a) (so_far_pieces k) at)) in
      omega arith

  pub so_far_entries : (k : ℕ) → shelf_entries (so_far_state s src base left k) ≡ shelf_entries s + length (so_far s src base left k)
  so_far_entries k =
      let more = sum-put (λ (h : HeldList). length h.pieces) (λ (h : HeldList). nat_lt (next_held s) h.number) (so_far_list s src base left k) s.held in
      omega arith

  pub so_far_most : (k : ℕ) → length (so_far s src base left k) ≤ length (difference_in s src base)
  so_far_most k = filtered_most (test s src base left) k (indexed (chunks_in s src))

  pub so_far_all : (k : ℕ) → length (chunks_in s src) ≤ k → so_far s src base left k ≡ difference_in s src base
  so_far_all k all = ap (filter (test s src base left)) (take_all k (indexed (chunks_in s src)) (let l = numbered_length 0 (chunks_in s src) in omega arith))

  here : (ps : List (Piece Entry)) (j : ℕ) (q : Piece Entry) → slice_get ps j ≡ Some q → get_or ps j q ≡ q
  here [] j q e = refl
  here (r ∷ ps) zero q e = cc
  here (r ∷ ps) (suc j) q e = here ps j q e

  module _ (k : ℕ) (e : Entry) (there : slice_get (chunks_in s src) k ≡ Some e) where
    abbrev piece : Piece Entry
    piece = record { index = k; chunk = e }

    at_k : slice_get (indexed (chunks_in s src)) k ≡ Some piece
    at_k = numbered_at 0 k (chunks_in s src) e there ∙ ap (λ i. Some (let q : Piece Entry = record { index = i; chunk = e } in q)) (omega arith)

    next_is : so_far s src base left (k + 1) ≡ so_far s src base left k ++ cond (test s src base left piece) (piece ∷ []) []
    next_is =
        filter_more (test s src base left) (indexed (chunks_in s src)) k piece (slice_within (indexed (chunks_in s src)) k piece at_k)
        ∙ ap (λ (q : Piece Entry). so_far s src base left k ++ cond (test s src base left q) (q ∷ []) []) (here (indexed (chunks_in s src)) k piece at_k)

    pub next_same : e.stamp ≡ slice_index (map (λ (x : Entry). x.stamp) (chunks_in s base)) k → so_far s src base left (k + 1) ≡ so_far s src base left k
    next_same is = next_is ∙ ap (λ b. so_far s src base left k ++ cond (not b) (piece ∷ []) []) (eq-eqb e.stamp (slice_index (map (λ (x : Entry). x.stamp) (chunks_in s base)) k) is) ∙ append-nil (so_far s src base left k)

    pub next_more : e.stamp ≢ slice_index (map (λ (x : Entry). x.stamp) (chunks_in s base)) k → so_far s src base left (k + 1) ≡ so_far s src base left k ++ piece ∷ []
    next_more ne = next_is ∙ ap (λ b. so_far s src base left k ++ cond (not b) (piece ∷ []) []) (ne_eqb e.stamp (slice_index (map (λ (x : Entry). x.stamp) (chunks_in s base)) k) ne)

    pub next_state : e.stamp ≢ slice_index (map (λ (x : Entry). x.stamp) (chunks_in s base)) k → with_piece_more (so_far_state s src base left k) (next_held s) k e ≡ so_far_state s src base left (k + 1)
    next_state ne =
        let size = ap length (next_more ne) ∙ length-append (so_far s src base left k) (piece ∷ []) in
        let less : left - length (so_far s src base left k) - 1 ≡ left - length (so_far s src base left (k + 1)) = omega arith in
        ap (λ hs. record s { held = hs }) (changed_put (is_held (next_held s)) (λ (h : HeldList). nat_lt (next_held s) h.number) (so_far_list s src base left k) (eq-eqb (next_held s) (next_held s) refl) (λ (h : HeldList). record h { pieces = h.pieces ++ piece ∷ []; left = h.left - 1 }) s.held unused)
        ∙ ap (λ ps. with_held s (new_held s ps false (left - length (so_far s src base left k) - 1))) (sym (next_more ne))
        ∙ ap (λ m. with_held s (new_held s (so_far s src base left (k + 1)) false m)) less

    -- the entry stands in the source
    pub next_stands : Stands (so_far_state s src base left k) piece
    next_stands = Contains-append_left (flat_map (λ (v : Volume Entry). indexed v.chunks) s.volumes) (flat_map (λ (h : HeldList). h.pieces) (so_far_state s src base left k).held) piece
        (in_chunks (volume_in s src) refl (slice_in (indexed (chunks_in s src)) k piece at_k))
      where
        found : (vs : List (Volume Entry)) (v : Volume Entry) → find (is_volume src) vs ≡ Some v → Contains vs v
        found [] v e = absurd (cc)
        found (w ∷ vs) v e = go (is_volume src w) (found vs v) e
          where
            go : (b : Bool) → (find (is_volume src) vs ≡ Some v → Contains vs v) → cond b (Some w) (find (is_volume src) vs) ≡ Some v → Contains (w ∷ vs) v
            go true later e = let same : w ≡ v = cc in (0, omega arith, same)
            go false later e = let r = later e in (suc r.0, (let lt = r.1 in omega arith), r.2)

        in_chunks : (o : Option (Volume Entry)) → volume_in s src ≡ o → Contains (indexed (if_found o (λ (v : Volume Entry). v.chunks) [])) piece → Contains (flat_map (λ (v : Volume Entry). indexed v.chunks) s.volumes) piece
        in_chunks None e at = absurd (none_in piece at)
        in_chunks (Some v) e at = in_all (λ (w : Volume Entry). indexed w.chunks) v s.volumes piece (found s.volumes v e) at

-- how many chunks a volume has
pub size_is : (s : ShelfState) (n : ℕ) → size_in s n ≡ length (chunks_in s n)
size_is s n = go (volume_in s n)
  where
    go : (o : Option (Volume Entry)) → if_found o (λ (v : Volume Entry). length v.chunks) 0 ≡ length (if_found o (λ (v : Volume Entry). v.chunks) [])
    go None = refl
    go (Some v) = refl
