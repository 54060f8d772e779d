-- An entry more at the end of a held list: it is appended unmapped, and then filled.
use Rattle.std.proofs.Common.{ℕ, ◌≡◌, ◌-◌, ◌==◌, Bool, true, false, cond, List, [], ◌∷◌, ◌++◌, length, Option, Some, None, find, is_some, slice_get, option_map, refl, sym, ap, ◌∙◌, ⊎_elim}
use Rattle.std.specs.Prelude.{IsSome}
use Rattle.std.specs.List.{Contains, flat_map}
use Rattle.std.proofs.lemmas.Bool.{eqb-true}
use Rattle.std.proofs.lemmas.List.Elements.{Contains-append_left, Contains-append_right, Contains-append_cases}
use Rattle.vv_units.specs.declared.numbers.Place.{Place}
use Rattle.vv_entries.specs.declared.entry.Entry.{Entry as PlacedEntry}
use Rattle.vv_flat.specs.Lists.{if_found, first_changed}
use Rattle.vv_flat.specs.State.{Volume, Piece, indexed}
use Rattle.vv_flat.specs.Chunks.{Entry, unmapped_entry}
use Rattle.vv_flat.specs.Sharing.{is_placed}
use Rattle.vv_vols.specs.Shelf.{HeldList, ShelfState, shelf_pieces, is_held, held_in, held_size, piece_at, entry_at, index_at, is_image_in, shares_rightly}
use Rattle.vv_vols.specs.Calls.{placed_at, piece_set, with_piece, with_appended}
use Rattle.vv_vols.specs.Conditions.{Stands}
use Rattle.vv_vols.specs.Rows.{seen_entry}
use Rattle.vv_vols.proofs.Sharing.{shares_each}
use Rattle.vv_vols.proofs.SwappedHeld.{found_changed}
use Rattle.vv_diff.specs.Pieces.{with_piece_more}

pub some_is : {A : Type 0} (o : Option A) → IsSome o → (x : A) × (o ≡ Some x)
some_is None e = absurd (cc)
some_is (Some x) e = (x, refl)

slice_last : {A : Type 0} (xs : List A) (y : A) → slice_get (xs ++ y ∷ []) (length xs) ≡ Some y
slice_last [] y = refl
slice_last (x ∷ xs) y = slice_last xs y

set_last : (ps : List (Piece Entry)) (p : Piece Entry) (e : Entry) → piece_set (length ps) e (ps ++ p ∷ []) ≡ ps ++ (record { index = p.index; chunk = e } ∷ [])
set_last [] p e = refl
set_last (q ∷ ps) p e = ap (λ qs. q ∷ qs) (set_last ps p e)

-- ---- the first that passes, changed
module _ {A : Type 0} (p : A → Bool) where
  twice : (f g : A → A) → ((x : A) → p (f x) ≡ p x) → (xs : List A) → first_changed p g (first_changed p f xs) ≡ first_changed p (λ x. g (f x)) xs
  twice f g same [] = refl
  twice f g same (x ∷ xs) = go (p x) refl (twice f g same xs)
    where
      go : (b : Bool) → p x ≡ b → first_changed p g (first_changed p f xs) ≡ first_changed p (λ y. g (f y)) xs
          → first_changed p g (cond b (f x ∷ xs) (x ∷ first_changed p f xs)) ≡ cond b (g (f x) ∷ xs) (x ∷ first_changed p (λ y. g (f y)) xs)
      go true passes later = ap (λ b. cond b (g (f x) ∷ xs) (f x ∷ first_changed p g xs)) (same x ∙ passes)
      go false misses later = ap (λ b. cond b (g x ∷ first_changed p f xs) (x ∷ first_changed p g (first_changed p f xs))) misses ∙ ap (λ ys. x ∷ ys) later

  like_found : (f g : A → A) (xs : List A) (h : A) → find p xs ≡ Some h → f h ≡ g h → first_changed p f xs ≡ first_changed p g xs
  like_found f g [] h found is = refl
  like_found f g (x ∷ xs) h found is = go (p x) found (like_found f g xs h)
    where
      go : (b : Bool) → cond b (Some x) (find p xs) ≡ Some h → (find p xs ≡ Some h → f h ≡ g h → first_changed p f xs ≡ first_changed p g xs)
          → cond b (f x ∷ xs) (x ∷ first_changed p f xs) ≡ cond b (g x ∷ xs) (x ∷ first_changed p g xs)
      go true found later = let here : x ≡ h = cc in ap (λ y. y ∷ xs) (ap f here ∙ is ∙ ap g (sym here))
      go false found later = ap (λ ys. x ∷ ys) (later found is)

-- what stood in the lists stands in them when one got longer
longer_keeps : (p : HeldList → Bool) (f : HeldList → HeldList) → ((h : HeldList) (a : Piece Entry) → Contains h.pieces a → Contains (f h).pieces a) → (hs : List HeldList) (a : Piece Entry)
    → Contains (flat_map (λ (h : HeldList). h.pieces) hs) a → Contains (flat_map (λ (h : HeldList). h.pieces) (first_changed p f hs)) a
longer_keeps p f more [] a at = at
longer_keeps p f more (h ∷ hs) a at = go (p h) (longer_keeps p f more hs a)
  where
    go : (b : Bool) → (Contains (flat_map (λ (k : HeldList). k.pieces) hs) a → Contains (flat_map (λ (k : HeldList). k.pieces) (first_changed p f hs)) a)
        → Contains (flat_map (λ (k : HeldList). k.pieces) (cond b (f h ∷ hs) (h ∷ first_changed p f hs))) a
    go true later = ⊎_elim
        (λ front. Contains-append_left (f h).pieces (flat_map (λ (k : HeldList). k.pieces) hs) a (more h a front))
        (λ back. Contains-append_right (f h).pieces (flat_map (λ (k : HeldList). k.pieces) hs) a back)
        (Contains-append_cases h.pieces (flat_map (λ (k : HeldList). k.pieces) hs) a at)
    go false later = ⊎_elim
        (λ front. Contains-append_left h.pieces (flat_map (λ (k : HeldList). k.pieces) (first_changed p f hs)) a front)
        (λ back. Contains-append_right h.pieces (flat_map (λ (k : HeldList). k.pieces) (first_changed p f hs)) a (later back))
        (Contains-append_cases h.pieces (flat_map (λ (k : HeldList). k.pieces) hs) a at)

module _ (s : ShelfState) (n index : ℕ) (standing : IsSome (held_in s n)) where
  abbrev last : Piece Entry
  last = record { index = index; chunk = unmapped_entry }

  abbrev longer : HeldList → HeldList
  longer h = record h { pieces = h.pieces ++ last ∷ []; left = h.left - 1 }

  abbrev t : ShelfState
  t = with_appended s n index

  list : HeldList
  list = (some_is (held_in s n) standing).0

  list_is : held_in s n ≡ Some list
  unfolding list some_is
  list_is = (some_is (held_in s n) standing).1

  appended_is : held_in t n ≡ Some (longer list)
  appended_is = found_changed (is_held n) longer (λ k. refl) s.held list list_is

  size_is : held_size s n ≡ length list.pieces
  size_is = ap (λ o. length (if_found o (λ (h : HeldList). h.pieces) [])) list_is

  pub appended_standing : IsSome (held_in t n)
  appended_standing = ap (λ o. is_some o) appended_is

  pub appended_image : is_image_in s n ≡ false → is_image_in t n ≡ false
  appended_image target = ap (λ o. if_found o (λ (h : HeldList). h.is_image) true) appended_is ∙ sym (ap (λ o. if_found o (λ (h : HeldList). h.is_image) true) list_is) ∙ target

  pub appended_piece : (at : ℕ) → at ≡ held_size s n → piece_at t n at ≡ Some last
  appended_piece at is =
      ap (λ o. slice_get (if_found o (λ (h : HeldList). h.pieces) []) at) appended_is
      ∙ ap (slice_get (list.pieces ++ last ∷ [])) (is ∙ size_is) ∙ slice_last list.pieces last

  pub appended_index : (at : ℕ) → at ≡ held_size s n → index_at t n at ≡ index
  appended_index at is = ap (λ o. if_found o (λ (a : Piece Entry). a.index) 0) (appended_piece at is)

  pub appended_unmapped : (at : ℕ) → at ≡ held_size s n → entry_at t n at ≡ Some unmapped_entry
  appended_unmapped at is = ap (option_map (λ (a : Piece Entry). a.chunk)) (appended_piece at is)

  pub appended_stands : (a : Piece Entry) → Stands s a → Stands t a
  appended_stands a stands = ⊎_elim
      (λ front. Contains-append_left (flat_map (λ (v : Volume Entry). indexed v.chunks) s.volumes) (flat_map (λ (h : HeldList). h.pieces) t.held) a front)
      (λ back. Contains-append_right (flat_map (λ (v : Volume Entry). indexed v.chunks) s.volumes) (flat_map (λ (h : HeldList). h.pieces) t.held) a
      (longer_keeps (is_held n) longer (λ h b at. Contains-append_left h.pieces (last ∷ []) b at) s.held a back))
      (Contains-append_cases (flat_map (λ (v : Volume Entry). indexed v.chunks) s.volumes) (flat_map (λ (h : HeldList). h.pieces) s.held) a stands)

  pub appended_filled : (at : ℕ) (e : Entry) → at ≡ held_size s n → with_piece t n at e ≡ with_piece_more s n index e
  appended_filled at e is =
      let put : HeldList → HeldList = λ h. record h { pieces = piece_set at e h.pieces } in
      let more : HeldList → HeldList = λ h. record h { pieces = h.pieces ++ (record { index = index; chunk = e } ∷ []); left = h.left - 1 } in
      let same : put (longer list) ≡ more list =
      ap (λ ps. let h : HeldList = record { number = list.number; pieces = ps; is_image = list.is_image; left = list.left - 1 } in h)
      (ap (λ k. piece_set k e (list.pieces ++ last ∷ [])) (is ∙ size_is) ∙ set_last list.pieces last e) in
      ap (λ hs. record s { held = hs }) (twice (is_held n) longer put (λ k. refl) s.held ∙ like_found (is_held n) (λ h. put (longer h)) more s.held list list_is same)

-- an entry that stands without a place is unmapped
pub unmapped_seen : (s : ShelfState) (index : ℕ) (e : PlacedEntry) → shares_rightly s ≡ true → Stands s (record { index = index; chunk = seen_entry e }) → e.place ≡ None → seen_entry e ≡ unmapped_entry
unmapped_seen s index e shares stands none =
    let placed = (shares_each s.geometry.pool_chunks (shelf_pieces s) shares).placed (record { index = index; chunk = seen_entry e }) stands in
    let place : option_map (λ (p : Place). p.0) e.place ≡ None = ap (option_map (λ (p : Place). p.0)) none in
    let zero_stamp : (e.stamp == 0) ≡ true = sym (ap (λ o. let x : Entry = record { place = o; stamp = e.stamp } in is_placed s.geometry.pool_chunks x) place) ∙ placed in
    ap (λ o. let x : Entry = record { place = o; stamp = e.stamp } in x) place
    ∙ ap (λ k. let x : Entry = record { place = None; stamp = k } in x) (eqb-true e.stamp 0 zero_stamp)

-- and one with a place has it
pub placed_seen : (e : PlacedEntry) (place : Place) → e.place ≡ Some place → placed_at place.0 e.stamp ≡ seen_entry e
placed_seen e place is = ap (λ o. let x : Entry = record { place = o; stamp = e.stamp } in x) (sym (ap (option_map (λ (p : Place). p.0)) is))
