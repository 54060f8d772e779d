-- A list of given entries is held: it is held unmapped first, and the entries are put in.
use Rattle.std.proofs.Common.{ℕ, zero, suc, ◌≡◌, ◌+◌, ◌&&◌, not, ◌⊎◌, inl, inr, Bool, true, false, cond, List, [], ◌∷◌, ◌++◌, map, replicate, length, Option, Some, None, option_map, slice_get, refl, sym, ap, ◌∙◌, ⊎_elim}
use Rattle.std.specs.Prelude.{nat_lt}
use Rattle.std.specs.List.{Contains, find, flat_map, list_all}
use Rattle.std.proofs.lemmas.Bool.{eq-eqb}
use Rattle.std.proofs.lemmas.List.Elements.{Contains-append_left, Contains-append_right, Contains-append_cases}
use Rattle.vv_flat.specs.Lists.{if_found, put_before, first_changed, first_removed, numbers_from}
use Rattle.vv_flat.specs.State.{Volume, Piece, indexed}
use Rattle.vv_flat.specs.Chunks.{Entry, unmapped_entry}
use Rattle.vv_flat.specs.Sharing.{shares_places}
use Rattle.vv_vols.specs.Shelf.{HeldList, ShelfState, shelf_pieces, is_held, held_in, pieces_in, next_held}
use Rattle.vv_vols.specs.Calls.{with_held, without_held, with_made, with_pieces, new_held, piece_chunks}
use Rattle.vv_vols.specs.Conditions.{HasEveryIndex}
use Rattle.vv_vols.specs.declared.head.Head.{Head}
use Rattle.vv_vols.specs.Rows.{volume_with}
use Rattle.vv_vols.proofs.Members.{numbered_from, in_put, first_or_behind, none_in}
use Rattle.vv_vols.proofs.Sharing.{shares_of_old}
use Rattle.vv_tables.specs.Giving.{pieces_given, with_given, MayGive}
use Rattle.vv_tables.proofs.HeldChanges.{added_found}
use Rattle.vv_tables.proofs.HeldTargets.{chunks_indexed}

pub none_found : {A : Type 0} (p : A → Bool) (xs : List A) → find p xs ≡ None → list_all (λ x. not (p x)) xs ≡ true
none_found p [] e = refl
none_found p (x ∷ xs) e = go (p x) e (λ rest. none_found p xs rest)
  where
    go : (b : Bool) → cond b (Some x) (find p xs) ≡ None → (find p xs ≡ None → list_all (λ y. not (p y)) xs ≡ true) → (not b && list_all (λ y. not (p y)) xs) ≡ true
    go true e later = absurd (cc)
    go false e later = later e

-- ---- a new item that is changed
pub changed_new : {A : Type 0} (p q : A → Bool) (f : A → A) (x : A) (xs : List A) → p x ≡ true → find p xs ≡ None
    → first_changed p f (put_before q x xs) ≡ put_before q (f x) xs
changed_new p q f x [] is none = ap (λ b. cond b (f x ∷ []) (x ∷ [])) is
changed_new p q f x (y ∷ ys) is none = go (q y) (p y) refl none (λ rest. changed_new p q f x ys is rest)
  where
    go : (b c : Bool) → p y ≡ c → cond c (Some y) (find p ys) ≡ None → (find p ys ≡ None → first_changed p f (put_before q x ys) ≡ put_before q (f x) ys)
        → first_changed p f (cond b (x ∷ y ∷ ys) (y ∷ put_before q x ys)) ≡ cond b (f x ∷ y ∷ ys) (y ∷ put_before q (f x) ys)
    go true c told none later = ap (λ b. cond b (f x ∷ y ∷ ys) (x ∷ first_changed p f (y ∷ ys))) is
    go false true told none later = absurd (cc)
    go false false told none later =
        ap (λ b. cond b (f y ∷ put_before q x ys) (y ∷ first_changed p f (put_before q x ys))) told ∙ ap (λ zs. y ∷ zs) (later none)

-- a held list that was just added, with other pieces
pub added_changed : (s : ShelfState) (h : HeldList) (f : List (Piece Entry) → List (Piece Entry)) → held_in s h.number ≡ None
    → with_pieces (with_held s h) h.number f ≡ with_held s (record h { pieces = f h.pieces })
added_changed s h f unused =
    ap (λ (hs : List HeldList). record s { held = hs })
    (changed_new (is_held h.number) (λ (k : HeldList). nat_lt h.number k.number) (λ (k : HeldList). record k { pieces = f k.pieces }) h s.held (eq-eqb h.number h.number refl) unused)

-- ---- unmapped entries, and the given ones in their place
given_from : (first : ℕ) (es : List Entry) → pieces_given es (numbered_from first (replicate (length es) unmapped_entry)) ≡ numbered_from first es
given_from first [] = refl
given_from first (e ∷ es) = ap (λ ps. record { index = first; chunk = e } ∷ ps) (given_from (first + 1) es)

bare_size : (first n : ℕ) → length (numbered_from first (replicate n unmapped_entry)) ≡ n
bare_size first zero = refl
bare_size first (suc n) = ap suc (bare_size (first + 1) n)

bare_at : (first n at : ℕ) (a : Piece Entry) → slice_get (numbered_from first (replicate n unmapped_entry)) at ≡ Some a → a.chunk ≡ unmapped_entry
bare_at first zero at a is = absurd (cc)
bare_at first (suc n) zero a is = let same : record { index = first; chunk = unmapped_entry } ≡ a = cc in ap (λ (b : Piece Entry). b.chunk) (sym same)
bare_at first (suc n) (suc at) a is = bare_at (first + 1) n at a is

bare_in : (first n : ℕ) (a : Piece Entry) → Contains (numbered_from first (replicate n unmapped_entry)) a → a.chunk ≡ unmapped_entry
bare_in first zero a at = absurd (none_in a at)
bare_in first (suc n) a at = ⊎_elim
    (λ is. ap (λ (b : Piece Entry). b.chunk) (sym is))
    (λ rest. bare_in (first + 1) n a rest)
    (first_or_behind (record { index = first; chunk = unmapped_entry }) (numbered_from (first + 1) (replicate n unmapped_entry)) a at)

-- an entry of a shelf with one more held list stood before, or is in that list
pub in_added : (s : ShelfState) (h : HeldList) (a : Piece Entry) → Contains (shelf_pieces (with_held s h)) a → Contains (shelf_pieces s) a ⊎ Contains h.pieces a
in_added s h a at = ⊎_elim
    (λ front. inl (Contains-append_left (flat_map (λ (v : Volume Entry). indexed v.chunks) s.volumes) (flat_map (λ (k : HeldList). k.pieces) s.held) a front))
    (λ back. ⊎_elim
    (λ new. inr new)
    (λ old. inl (Contains-append_right (flat_map (λ (v : Volume Entry). indexed v.chunks) s.volumes) (flat_map (λ (k : HeldList). k.pieces) s.held) a old))
    (in_put (λ (k : HeldList). k.pieces) (λ (k : HeldList). nat_lt h.number k.number) h s.held a back))
    (Contains-append_cases (flat_map (λ (v : Volume Entry). indexed v.chunks) s.volumes) (flat_map (λ (k : HeldList). k.pieces) (with_held s h).held) a at)

module _ (s : ShelfState) (es : List Entry) (unused : held_in s (next_held s) ≡ None) where
  abbrev pub bare : HeldList
  bare = new_held s (indexed (replicate (length es) unmapped_entry)) false 0

  bare_stands : held_in (with_held s bare) (next_held s) ≡ Some bare
  bare_stands = added_found s bare (none_found (is_held (next_held s)) s.held unused)

  bare_pieces : pieces_in (with_held s bare) (next_held s) ≡ indexed (replicate (length es) unmapped_entry)
  bare_pieces = ap (λ (o : Option HeldList). if_found o (λ (h : HeldList). h.pieces) []) bare_stands

  pub bare_given : with_given (with_held s bare) (next_held s) es ≡ with_held s (new_held s (indexed es) false 0)
  bare_given =
      added_changed s bare (pieces_given es) unused
      ∙ ap (λ ps. with_held s (new_held s ps false 0)) (given_from 0 es)

  pub may_all : s.fresh ≡ [] → s.reserved ≡ 0 → shares_places s.geometry.pool_chunks (shelf_pieces s ++ indexed es) ≡ true → MayGive (with_held s bare) (next_held s) es
  may_all fresh reserved shares =
      let given : pieces_given es (pieces_in (with_held s bare) (next_held s)) ≡ indexed es = ap (pieces_given es) bare_pieces ∙ given_from 0 es in
      record {
        target = ap (option_map (λ (h : HeldList). h.is_image)) bare_stands;
        size = sym (ap length bare_pieces ∙ bare_size 0 (length es));
        bare = λ at a is. bare_at 0 (length es) at a (sym (ap (λ ps. slice_get ps at) bare_pieces) ∙ is);
        shares = ap (λ ps. shares_places s.geometry.pool_chunks (shelf_pieces (with_held s bare) ++ ps)) given
            ∙ shares_of_old s.geometry.pool_chunks (shelf_pieces s ++ indexed es) (shelf_pieces (with_held s bare) ++ indexed es) shares (λ a at. ⊎_elim
            (λ front. ⊎_elim
            (λ old. inl (Contains-append_left (shelf_pieces s) (indexed es) a old))
            (λ new. inr (bare_in 0 (length es) a new))
            (in_added s bare a front))
            (λ back. inl (Contains-append_right (shelf_pieces s) (indexed es) a back))
            (Contains-append_cases (shelf_pieces (with_held s bare)) (indexed es) a at));
        fresh = fresh;
        reserved = reserved;
      }

-- ---- a new item that is taken out again
pub removed_new : {A : Type 0} (p q : A → Bool) (x : A) (xs : List A) → p x ≡ true → find p xs ≡ None → first_removed p (put_before q x xs) ≡ xs
removed_new p q x [] is none = ap (λ b. cond b [] (x ∷ [])) is
removed_new p q x (y ∷ ys) is none = go (q y) (p y) refl none (λ rest. removed_new p q x ys is rest)
  where
    go : (b c : Bool) → p y ≡ c → cond c (Some y) (find p ys) ≡ None → (find p ys ≡ None → first_removed p (put_before q x ys) ≡ ys)
        → first_removed p (cond b (x ∷ y ∷ ys) (y ∷ put_before q x ys)) ≡ y ∷ ys
    go true c told none later = ap (λ b. cond b (y ∷ ys) (x ∷ first_removed p (y ∷ ys))) is
    go false true told none later = absurd (cc)
    go false false told none later =
        ap (λ b. cond b (put_before q x ys) (y ∷ first_removed p (put_before q x ys))) told ∙ ap (λ zs. y ∷ zs) (later none)

pub added_removed : (s : ShelfState) (h : HeldList) → held_in s h.number ≡ None → without_held (with_held s h) h.number ≡ s
added_removed s h unused =
    ap (λ (hs : List HeldList). record s { held = hs })
    (removed_new (is_held h.number) (λ (k : HeldList). nat_lt h.number k.number) h s.held (eq-eqb h.number h.number refl) unused)

-- ---- a held list with the indexes from 0 on
indexes_from : (first : ℕ) (es : List Entry) → map (λ (a : Piece Entry). a.index) (numbered_from first es) ≡ numbers_from first (length (numbered_from first es))
indexes_from first [] = refl
indexes_from first (e ∷ es) = ap (λ is. first ∷ is) (indexes_from (first + 1) es)

module _ (s : ShelfState) (es : List Entry) (image : Bool) (unused : held_in s (next_held s) ≡ None) where
  abbrev pub listed : HeldList
  listed = new_held s (indexed es) image 0

  pub listed_stands : held_in (with_held s listed) (next_held s) ≡ Some listed
  listed_stands = added_found s listed (none_found (is_held (next_held s)) s.held unused)

  pub listed_pieces : pieces_in (with_held s listed) (next_held s) ≡ indexed es
  listed_pieces = ap (λ (o : Option HeldList). if_found o (λ (h : HeldList). h.pieces) []) listed_stands

  pub listed_whole : HasEveryIndex (with_held s listed) (next_held s)
  listed_whole = ap (map (λ (a : Piece Entry). a.index)) listed_pieces ∙ indexes_from 0 es ∙ ap (λ ps. numbers_from 0 (length ps)) (sym listed_pieces)

  pub listed_made : (n : ℕ) (head : Head) → with_made (without_held (with_held s listed) (next_held s)) (volume_with n head (piece_chunks (pieces_in (with_held s listed) (next_held s))))
      ≡ with_made s (volume_with n head es)
  listed_made n head =
      ap (λ (t : ShelfState). with_made t (volume_with n head (piece_chunks (pieces_in (with_held s listed) (next_held s))))) (added_removed s listed unused)
      ∙ ap (λ ps. with_made s (volume_with n head (piece_chunks ps))) listed_pieces
      ∙ ap (λ xs. with_made s (volume_with n head xs)) (chunks_indexed es)
