-- Entries at rising indexes that are appended to a held list one after another.
use Rattle.std.proofs.Common.{ℕ, ◌≡◌, ◌+◌, ◌-◌, ◌≤◌, ◌<◌, inl, inr, true, false, List, [], ◌∷◌, ◌++◌, map, length, Option, Some, None, option_map, slice_get, get_or, take, drop, refl, sym, ap, subst, ◌∙◌, ⊎_elim, arith}
use Rattle.std.specs.Prelude.{nat_lt, is_some, IsSome}
use Rattle.std.specs.List.{Contains, list_all}
use Rattle.std.proofs.lemmas.Bool.{eq-eqb, ltb-true}
use Rattle.std.proofs.lemmas.List.{length-map, map-append, drop_more, take_more, take-append-drop, length-take-le}
use Rattle.std.proofs.lemmas.List.Elements.{Contains-append_left, Contains-append_right, Contains-append_cases}
use Rattle.std.proofs.lemmas.List.Folds.{list_all-append}
use Rattle.vv_flat.specs.Lists.{if_found, all_rising}
use Rattle.vv_flat.specs.State.{Piece}
use Rattle.vv_flat.specs.Chunks.{Entry, unmapped_entry}
use Rattle.vv_flat.specs.Sharing.{agrees, shares_places}
use Rattle.vv_flat.proofs.Shares.{and_left}
use Rattle.vv_vols.specs.Shelf.{HeldList, ShelfState, is_held, held_in, pieces_in, held_size, is_image_in, left_in, index_at, next_held, shelf_entries, shelf_pieces}
use Rattle.vv_vols.specs.Calls.{with_appended, with_piece, piece_set, new_held}
use Rattle.vv_vols.specs.Conditions.{IsAbove}
use Rattle.vv_vols.proofs.Members.{here, first_or_behind, none_in}
use Rattle.vv_vols.proofs.Sharing.{shares_each, shares_of_old}
use Rattle.vv_tables.specs.declared.giving.GivenPiece.{GivenPiece}
use Rattle.vv_tables.specs.Giving.{MayGiveOne, seen_piece, seen_pieces, with_some}
use Rattle.vv_tables.proofs.HeldChanges.{added_found}
use Rattle.vv_tables.proofs.GivenLists.{none_found, changed_new, added_changed, in_added}
use Rattle.vv_tables.proofs.GivenEntries.{all_agree}
use Rattle.vv_tables.proofs.RestoredClones.{added_entries}
use Rattle.vv_tables.proofs.Walks.{found_behind, rising_behind}

abbrev bare_piece : ℕ → Piece Entry
bare_piece i = record { index = i; chunk = unmapped_entry }

last_at : (ps : List (Piece Entry)) (p : Piece Entry) → slice_get (ps ++ p ∷ []) (length ps) ≡ Some p
last_at [] p = refl
last_at (q ∷ qs) p = last_at qs p

set_last : (ps : List (Piece Entry)) (p : Piece Entry) (e : Entry) → piece_set (length ps) e (ps ++ p ∷ []) ≡ ps ++ record p { chunk = e } ∷ []
set_last [] p e = refl
set_last (q ∷ qs) p e = ap (λ rs. q ∷ rs) (set_last qs p e)

behind_at : (ps : List (Piece Entry)) (b : Piece Entry) (back : List (Piece Entry)) → slice_get (ps ++ b ∷ back) (length ps) ≡ Some b
behind_at [] b back = refl
behind_at (q ∷ qs) b back = behind_at qs b back

-- an item behind others has the greatest index
last_above : (front : List (Piece Entry)) (b : Piece Entry) (back : List (Piece Entry)) → all_rising (map (λ (a : Piece Entry). a.index) (front ++ b ∷ back)) ≡ true
    → (a : Piece Entry) → Contains front a → a.index < b.index
last_above [] b back rising a at = absurd (none_in a at)
last_above (p ∷ ps) b back rising a at = ⊎_elim
    (λ is. subst (λ (q : Piece Entry). q.index < b.index) is
    (ltb-true p.index b.index (found_behind (λ (x : Piece Entry). x.index) p (ps ++ b ∷ back) (length ps) b rising (behind_at ps b back))))
    (λ rest. last_above ps b back (rising_behind (λ (x : Piece Entry). x.index) p (ps ++ b ∷ back) rising) a rest)
    (first_or_behind p ps a at)

-- what appending a piece to a held list asks
pub record Ready (t : ShelfState) (n len : ℕ) (b : Piece Entry) : Type 0 where
  pub standing : IsSome (held_in t n)
  pub target : is_image_in t n ≡ false
  pub left : 1 ≤ left_in t n
  pub above : IsAbove t n b.index
  pub len_is : len ≡ held_size t n
  pub few : shelf_entries t + 1 ≤ t.geometry.map_chunks
  pub may : MayGiveOne (with_appended t n b.index) n len b.chunk

module _ (s : ShelfState) (unused : held_in s (next_held s) ≡ None) where
  some_found : (ps : List (Piece Entry)) (left : ℕ) → held_in (with_some s ps left) (next_held s) ≡ Some (new_held s ps false left)
  some_found ps left = added_found s (new_held s ps false left) (none_found (is_held (next_held s)) s.held unused)

  some_pieces : (ps : List (Piece Entry)) (left : ℕ) → pieces_in (with_some s ps left) (next_held s) ≡ ps
  some_pieces ps left = ap (λ (o : Option HeldList). if_found o (λ (h : HeldList). h.pieces) []) (some_found ps left)

  some_appended : (ps : List (Piece Entry)) (left index : ℕ) → with_appended (with_some s ps left) (next_held s) index ≡ with_some s (ps ++ bare_piece index ∷ []) (left - 1)
  some_appended ps left index =
      ap (λ (hs : List HeldList). record s { held = hs })
      (changed_new (is_held (next_held s)) (λ (k : HeldList). nat_lt (next_held s) k.number) (λ (h : HeldList). record h { pieces = h.pieces ++ bare_piece index ∷ []; left = h.left - 1 })
      (new_held s ps false left) s.held (eq-eqb (next_held s) (next_held s) refl) unused)

  pub piece_given : (ps : List (Piece Entry)) (left : ℕ) (b : Piece Entry)
      → with_piece (with_appended (with_some s ps left) (next_held s) b.index) (next_held s) (length ps) b.chunk ≡ with_some s (ps ++ b ∷ []) (left - 1)
  piece_given ps left b =
      ap (λ (t : ShelfState). with_piece t (next_held s) (length ps) b.chunk) (some_appended ps left b.index)
      ∙ added_changed s (new_held s (ps ++ bare_piece b.index ∷ []) false (left - 1)) (piece_set (length ps) b.chunk) unused
      ∙ ap (λ qs. with_some s qs (left - 1)) (set_last ps (bare_piece b.index) b.chunk)

  module _ (front : List (Piece Entry)) (b : Piece Entry) (back : List (Piece Entry)) (left : ℕ) (fresh : s.fresh ≡ []) (reserved : s.reserved ≡ 0)
      (shares : shares_places s.geometry.pool_chunks (shelf_pieces s ++ (front ++ b ∷ back)) ≡ true) where
    abbrev longer : List (Piece Entry)
    longer = shelf_pieces (with_some s (front ++ bare_piece b.index ∷ []) (left - 1)) ++ b ∷ []

    b_in : Contains (shelf_pieces s ++ (front ++ b ∷ back)) b
    b_in = Contains-append_right (shelf_pieces s) (front ++ b ∷ back) b (Contains-append_right front (b ∷ back) b (here b back))

    longer_shares : shares_places s.geometry.pool_chunks longer ≡ true
    longer_shares =
        shares_of_old s.geometry.pool_chunks (shelf_pieces s ++ (front ++ b ∷ back)) longer shares (λ a at. ⊎_elim
        (λ ahead. ⊎_elim
        (λ old. inl (Contains-append_left (shelf_pieces s) (front ++ b ∷ back) a old))
        (λ new. ⊎_elim
        (λ given. inl (Contains-append_right (shelf_pieces s) (front ++ b ∷ back) a (Contains-append_left front (b ∷ back) a given)))
        (λ last. ⊎_elim
        (λ is. inr (ap (λ (x : Piece Entry). x.chunk) (sym is)))
        (λ none. absurd (none_in a none))
        (first_or_behind (bare_piece b.index) [] a last))
        (Contains-append_cases front (bare_piece b.index ∷ []) a new))
        (in_added s (new_held s (front ++ bare_piece b.index ∷ []) false (left - 1)) a ahead))
        (λ last. ⊎_elim
        (λ is. inl (subst (λ (x : Piece Entry). Contains (shelf_pieces s ++ (front ++ b ∷ back)) x) is b_in))
        (λ none. absurd (none_in a none))
        (first_or_behind b [] a last))
        (Contains-append_cases (shelf_pieces (with_some s (front ++ bare_piece b.index ∷ []) (left - 1))) (b ∷ []) a at))

    there_bare : slice_get (pieces_in (with_some s (front ++ bare_piece b.index ∷ []) (left - 1)) (next_held s)) (length front) ≡ Some (bare_piece b.index)
    there_bare =
        ap (λ ps. slice_get ps (length front)) (some_pieces (front ++ bare_piece b.index ∷ []) (left - 1)) ∙ last_at front (bare_piece b.index)

    may_append : MayGiveOne (with_appended (with_some s front left) (next_held s) b.index) (next_held s) (length front) b.chunk
    may_append =
        let all : list_all (λ (x : Piece Entry). agrees x b) longer ≡ true =
        all_agree s.geometry.pool_chunks longer b longer_shares
        (Contains-append_right (shelf_pieces (with_some s (front ++ bare_piece b.index ∷ []) (left - 1))) (b ∷ []) b (here b [])) in
        let old : list_all (λ (x : Piece Entry). agrees x b) (shelf_pieces (with_some s (front ++ bare_piece b.index ∷ []) (left - 1))) ≡ true =
        and_left _ _ (sym (list_all-append (λ (x : Piece Entry). agrees x b) (shelf_pieces (with_some s (front ++ bare_piece b.index ∷ []) (left - 1))) (b ∷ [])) ∙ all) in
        let index : index_at (with_some s (front ++ bare_piece b.index ∷ []) (left - 1)) (next_held s) (length front) ≡ b.index =
        ap (λ (o : Option (Piece Entry)). if_found o (λ (x : Piece Entry). x.index) 0) there_bare in
        subst (λ (t : ShelfState). MayGiveOne t (next_held s) (length front) b.chunk) (sym (some_appended front left b.index)) (record {
          target = ap (option_map (λ (h : HeldList). h.is_image)) (some_found (front ++ bare_piece b.index ∷ []) (left - 1));
          unmapped = ap (option_map (λ (x : Piece Entry). x.chunk)) there_bare;
          placed = (shares_each s.geometry.pool_chunks (shelf_pieces s ++ (front ++ b ∷ back)) shares).placed b b_in;
          agree = ap (λ i. list_all (λ (x : Piece Entry). agrees x (record { index = i; chunk = b.chunk })) (shelf_pieces (with_some s (front ++ bare_piece b.index ∷ []) (left - 1)))) index ∙ old;
          fresh = fresh;
          reserved = reserved;
        })

    -- all at once
    pub ready : (t : ShelfState) (n len : ℕ) → t ≡ with_some s front left → n ≡ next_held s → len ≡ length front → 1 ≤ left
        → shelf_entries s + length front + 1 ≤ s.geometry.map_chunks → all_rising (map (λ (a : Piece Entry). a.index) (front ++ b ∷ back)) ≡ true → Ready t n len b
    ready t n len shelf number size some few rising =
        let here_is : Ready (with_some s front left) (next_held s) (length front) b = record {
          standing = ap is_some (some_found front left);
          target = ap (λ (o : Option HeldList). if_found o (λ (h : HeldList). h.is_image) true) (some_found front left);
          left = subst (λ k. 1 ≤ k) (sym (ap (λ (o : Option HeldList). if_found o (λ (h : HeldList). h.left) 0) (some_found front left))) some;
          above = λ a at. last_above front b back rising a (subst (λ ps. Contains ps a) (some_pieces front left) at);
          len_is = sym (ap length (some_pieces front left));
          few = let more : shelf_entries (with_some s front left) ≡ shelf_entries s + length front = added_entries s (new_held s front false left) in omega (arith, more, few);
          may = may_append;
        } in
        subst (λ (u : ShelfState). Ready u n len b) (sym shelf)
        (subst (λ k. Ready (with_some s front left) k len b) (sym number) (subst (λ k. Ready (with_some s front left) (next_held s) k b) (sym size) here_is))

-- ---- pieces as they are given
abbrev pub no_piece : GivenPiece
no_piece = record { index = 0; entry = record { place = None; stamp = 0 } }

module _ (pieces : List GivenPiece) (i : ℕ) (lt : i < length pieces) where
  pub next_split : seen_pieces (take i pieces) ++ seen_piece (get_or pieces i no_piece) ∷ seen_pieces (drop (i + 1) pieces) ≡ seen_pieces pieces
  next_split =
      sym (map-append seen_piece (take i pieces) (get_or pieces i no_piece ∷ drop (i + 1) pieces))
      ∙ ap (λ (xs : List GivenPiece). map seen_piece (take i pieces ++ xs)) (sym (drop_more pieces i no_piece lt))
      ∙ ap (map seen_piece) (take-append-drop i pieces)

  pub next_count : length (seen_pieces (take i pieces)) ≡ i
  next_count = length-map (take i pieces) seen_piece ∙ length-take-le i pieces (omega arith)

  pub next_pieces : seen_pieces (take i pieces) ++ seen_piece (get_or pieces i no_piece) ∷ [] ≡ seen_pieces (take (i + 1) pieces)
  next_pieces =
      sym (map-append seen_piece (take i pieces) (get_or pieces i no_piece ∷ []))
      ∙ ap (λ (xs : List GivenPiece). map seen_piece xs) (sym (take_more pieces i no_piece lt))
