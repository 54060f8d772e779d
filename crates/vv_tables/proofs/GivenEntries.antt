-- Entries that are put into a held list one after another: what one more makes of the list, and that it may be put.
use Rattle.std.proofs.Common.{ℕ, zero, suc, ◌≡◌, ◌+◌, ◌<◌, ◌&&◌, Bool, true, false, cond, List, [], ◌∷◌, ◌++◌, map, length, Option, Some, None, option_map, slice_get, get_or, take, drop, refl, sym, ap, ◌∙◌, subst, ⊎_elim, arith}
use Rattle.std.specs.List.{Contains, find, flat_map, list_all}
use Rattle.std.proofs.lemmas.Bool.{eqb-true}
use Rattle.std.proofs.lemmas.List.{length-append, length-map, map-append, drop_more, take_more, take-append-drop, length-take-le}
use Rattle.std.proofs.lemmas.List.Elements.{Contains-append_right}
use Rattle.std.proofs.lemmas.List.Folds.{list_all-append}
use Rattle.vv_units.specs.declared.numbers.Place.{Place}
use Rattle.vv_entries.specs.declared.entry.Entry.{Entry as PlacedEntry}
use Rattle.vv_flat.specs.Lists.{if_found, first_changed}
use Rattle.vv_flat.specs.State.{Volume, Piece, indexed}
use Rattle.vv_flat.specs.Chunks.{Entry, unmapped_entry}
use Rattle.vv_flat.specs.Sharing.{is_placed, agrees, shares_places}
use Rattle.vv_flat.proofs.Shares.{and_left, and_right, and_both, list_all-follows}
use Rattle.vv_flat.proofs.Known.{all-changed, all-flat_map}
use Rattle.vv_vols.specs.Shelf.{HeldList, ShelfState, shelf_pieces, is_held, held_in, pieces_in, entry_at, index_at}
use Rattle.vv_vols.specs.Calls.{with_piece, piece_set}
use Rattle.vv_vols.specs.Rows.{seen_entry, seen_entries}
use Rattle.vv_vols.proofs.Members.{here, there, first_or_behind, none_in}
use Rattle.vv_vols.proofs.Sharing.{SharesEach, shares_each}
use Rattle.vv_tables.specs.Kept.{image_in}
use Rattle.vv_tables.proofs.HeldChanges.{changed_found}
use Rattle.vv_tables.specs.Giving.{pieces_given, with_given, MayGiveOne, MayGive}

-- ---- an entry that is there already
changed_same : {A : Type 0} (p : A → Bool) (f : A → A) (xs : List A) → ((x : A) → find p xs ≡ Some x → f x ≡ x) → first_changed p f xs ≡ xs
changed_same p f [] same = refl
changed_same p f (x ∷ xs) same = go (p x) refl (λ others. changed_same p f xs others)
  where
    go : (b : Bool) → p x ≡ b → (((y : _) → find p xs ≡ Some y → f y ≡ y) → first_changed p f xs ≡ xs) → cond b (f x ∷ xs) (x ∷ first_changed p f xs) ≡ x ∷ xs
    go true is later = ap (λ y. y ∷ xs) (same x (ap (λ b. cond b (Some x) (find p xs)) is))
    go false is later = ap (λ ys. x ∷ ys) (later (λ y found. same y (ap (λ b. cond b (Some x) (find p xs)) is ∙ found)))

set_same : (at : ℕ) (e : Entry) (ps : List (Piece Entry)) → option_map (λ (a : Piece Entry). a.chunk) (slice_get ps at) ≡ Some e → piece_set at e ps ≡ ps
set_same at e [] is = refl
set_same zero e (p ∷ ps) is = let same : p.chunk ≡ e = cc in ap (λ c. record p { chunk = c } ∷ ps) (sym same)
set_same (suc at) e (p ∷ ps) is = ap (λ qs. p ∷ qs) (set_same at e ps is)

pub piece_same : (s : ShelfState) (n at : ℕ) (e : Entry) → entry_at s n at ≡ Some e → with_piece s n at e ≡ s
piece_same s n at e is =
    ap (λ (hs : List HeldList). record s { held = hs })
    (changed_same (is_held n) (λ (h : HeldList). record h { pieces = piece_set at e h.pieces }) s.held
    (λ h found. ap (λ ps. record h { pieces = ps })
    (set_same at e h.pieces (sym (ap (λ (o : Option HeldList). option_map (λ (a : Piece Entry). a.chunk) (slice_get (if_found o (λ (k : HeldList). k.pieces) []) at)) found) ∙ is))))

-- an entry without a place is unmapped
pub bare_entry : (pool : ℕ) (e : PlacedEntry) → e.place ≡ None → is_placed pool (seen_entry e) ≡ true → unmapped_entry ≡ seen_entry e
bare_entry pool e none placed =
    let seen : seen_entry e ≡ record { place = None; stamp = e.stamp } = ap (λ (o : Option Place). record { place = option_map (λ (p : Place). p.0) o; stamp = e.stamp }) none in
    let stamp : e.stamp ≡ 0 = eqb-true e.stamp 0 (sym (ap (is_placed pool) seen) ∙ placed) in
    sym (seen ∙ ap (λ k. record { place = None; stamp = k }) stamp)

-- ---- one entry more
given_more : (es : List Entry) (e : Entry) (ps : List (Piece Entry)) → piece_set (length es) e (pieces_given es ps) ≡ pieces_given (es ++ e ∷ []) ps
given_more [] e [] = refl
given_more [] e (p ∷ ps) = refl
given_more (x ∷ es) e [] = refl
given_more (x ∷ es) e (p ∷ ps) = ap (λ qs. record p { chunk = x } ∷ qs) (given_more es e ps)

changed_twice : {A : Type 0} (p : A → Bool) (f g h : A → A) (xs : List A) → ((x : A) → p (f x) ≡ p x) → ((x : A) → g (f x) ≡ h x)
    → first_changed p g (first_changed p f xs) ≡ first_changed p h xs
changed_twice p f g h [] stays both = refl
changed_twice p f g h (x ∷ xs) stays both = go (p x) refl (changed_twice p f g h xs stays both)
  where
    go : (b : Bool) → p x ≡ b → first_changed p g (first_changed p f xs) ≡ first_changed p h xs
        → first_changed p g (cond b (f x ∷ xs) (x ∷ first_changed p f xs)) ≡ cond b (h x ∷ xs) (x ∷ first_changed p h xs)
    go true is later =
        ap (λ b. cond b (g (f x) ∷ xs) (f x ∷ first_changed p g xs)) (stays x ∙ is) ∙ ap (λ y. y ∷ xs) (both x)
    go false is later =
        ap (λ b. cond b (g x ∷ first_changed p f xs) (x ∷ first_changed p g (first_changed p f xs))) is ∙ ap (λ ys. x ∷ ys) later

pub with_more : (s : ShelfState) (n : ℕ) (es : List Entry) (e : Entry) → with_piece (with_given s n es) n (length es) e ≡ with_given s n (es ++ e ∷ [])
with_more s n es e =
    ap (λ (hs : List HeldList). record s { held = hs })
    (changed_twice (is_held n) (λ (h : HeldList). record h { pieces = pieces_given es h.pieces }) (λ (h : HeldList). record h { pieces = piece_set (length es) e h.pieces })
    (λ (h : HeldList). record h { pieces = pieces_given (es ++ e ∷ []) h.pieces }) s.held (λ h. refl) (λ h. ap (λ ps. record h { pieces = ps }) (given_more es e h.pieces)))

-- none is given yet
pub none_given : (s : ShelfState) (n : ℕ) → with_given s n [] ≡ s
none_given s n = ap (λ (hs : List HeldList). record s { held = hs }) (changed_same (is_held n) (λ (h : HeldList). h) s.held (λ h found. refl))

-- ---- it may be put
given_behind : (es : List Entry) (ps : List (Piece Entry)) → slice_get (pieces_given es ps) (length es) ≡ slice_get ps (length es)
given_behind [] ps = refl
given_behind (x ∷ es) [] = refl
given_behind (x ∷ es) (p ∷ ps) = given_behind es ps

given_member : (front : List Entry) (e : Entry) (back : List Entry) (ps : List (Piece Entry)) (a : Piece Entry) → slice_get ps (length front) ≡ Some a
    → Contains (pieces_given (front ++ e ∷ back) ps) (record a { chunk = e })
given_member [] e back [] a at = absurd (cc)
given_member [] e back (p ∷ ps) a at =
    let same : p ≡ a = cc in
    subst (λ (q : Piece Entry). Contains (record p { chunk = e } ∷ pieces_given back ps) (record q { chunk = e })) same (here (record p { chunk = e }) (pieces_given back ps))
given_member (x ∷ front) e back [] a at = absurd (cc)
given_member (x ∷ front) e back (p ∷ ps) a at = there (record p { chunk = x }) (pieces_given (front ++ e ∷ back) ps) (record a { chunk = e }) (given_member front e back ps a at)

at_some : {A : Type 0} (k : ℕ) (xs : List A) → k < length xs → (a : A) × (slice_get xs k ≡ Some a)
at_some k [] lt = absurd (omega arith)
at_some zero (x ∷ xs) lt = (x, refl)
at_some (suc k) (x ∷ xs) lt = at_some k xs (omega arith)

passes : {A : Type 0} (t : A → Bool) (xs : List A) (a : A) → list_all t xs ≡ true → Contains xs a → t a ≡ true
passes t [] a all at = absurd (none_in a at)
passes t (x ∷ xs) a all at = ⊎_elim
    (λ is. ap t (sym is) ∙ and_left (t x) (list_all t xs) all)
    (λ rest. passes t xs a (and_right (t x) (list_all t xs) all) rest)
    (first_or_behind x xs a at)

-- an entry agrees with all others
pub all_agree : (pool : ℕ) (all : List (Piece Entry)) (b : Piece Entry) → shares_places pool all ≡ true → Contains all b → list_all (λ (x : Piece Entry). agrees x b) all ≡ true
unfolding shares_places
all_agree pool all b shares member =
    list_all-follows (λ (x : Piece Entry). is_placed pool x.chunk && list_all (agrees x) all) (λ (x : Piece Entry). agrees x b)
    (λ x e. passes (agrees x) all b (and_right (is_placed pool x.chunk) (list_all (agrees x) all) e) member) all shares

-- what all entries pass, and the given ones
module _ (t : Piece Entry → Bool) where
  given_front : (front back : List Entry) (ps : List (Piece Entry)) → list_all t ps ≡ true → list_all t (pieces_given (front ++ back) ps) ≡ true
      → list_all t (pieces_given front ps) ≡ true
  given_front [] back ps old new = old
  given_front (x ∷ front) back [] old new = refl
  given_front (x ∷ front) back (p ∷ ps) old new =
      and_both (t (record p { chunk = x })) (list_all t (pieces_given front ps))
      (and_left (t (record p { chunk = x })) (list_all t (pieces_given (front ++ back) ps)) new)
      (given_front front back ps (and_right (t p) (list_all t ps) old) (and_right (t (record p { chunk = x })) (list_all t (pieces_given (front ++ back) ps)) new))

  pub given_passes : (s : ShelfState) (n : ℕ) (front back : List Entry) → list_all t (shelf_pieces s ++ pieces_given (front ++ back) (pieces_in s n)) ≡ true
      → list_all t (shelf_pieces (with_given s n front)) ≡ true
  given_passes s n front back all =
      let put : HeldList → HeldList = λ h. record h { pieces = pieces_given front h.pieces } in
      let volumes : List (Piece Entry) = flat_map (λ (v : Volume Entry). indexed v.chunks) s.volumes in
      let lists : List (Piece Entry) = flat_map (λ (h : HeldList). h.pieces) s.held in
      let both : (list_all t (shelf_pieces s) && list_all t (pieces_given (front ++ back) (pieces_in s n))) ≡ true =
      sym (list_all-append t (shelf_pieces s) (pieces_given (front ++ back) (pieces_in s n))) ∙ all in
      let parts : (list_all t volumes && list_all t lists) ≡ true =
      sym (list_all-append t volumes lists) ∙ and_left (list_all t (shelf_pieces s)) _ both in
      let given : list_all t (pieces_given (front ++ back) (pieces_in s n)) ≡ true = and_right (list_all t (shelf_pieces s)) _ both in
      let held : list_all (λ (h : HeldList). list_all t h.pieces) s.held ≡ true =
      sym (all-flat_map t (λ (h : HeldList). h.pieces) s.held) ∙ and_right (list_all t volumes) _ parts in
      let changed : list_all (λ (h : HeldList). list_all t h.pieces) (first_changed (is_held n) put s.held) ≡ true =
      all-changed (λ (h : HeldList). list_all t h.pieces) (is_held n) put s.held held
      (λ h found old. given_front front back h.pieces old
      (ap (λ (o : Option HeldList). list_all t (pieces_given (front ++ back) (if_found o (λ (k : HeldList). k.pieces) []))) (sym found) ∙ given)) in
      list_all-append t volumes (flat_map (λ (h : HeldList). h.pieces) (first_changed (is_held n) put s.held))
      ∙ and_both (list_all t volumes) (list_all t (flat_map (λ (h : HeldList). h.pieces) (first_changed (is_held n) put s.held)))
      (and_left (list_all t volumes) _ parts)
      (all-flat_map t (λ (h : HeldList). h.pieces) (first_changed (is_held n) put s.held) ∙ changed)

-- the list with what was given
module _ (s : ShelfState) (n : ℕ) (es : List Entry) where
  pub pieces_then : pieces_in (with_given s n es) n ≡ pieces_given es (pieces_in s n)
  pieces_then = ap (λ (o : Option HeldList). if_found o (λ (h : HeldList). h.pieces) []) (changed_found s n (pieces_given es)) ∙ go (held_in s n)
    where
      none : (es : List Entry) → [] ≡ pieces_given es []
      none [] = refl
      none (x ∷ xs) = refl

      go : (o : Option HeldList) → if_found (option_map (λ (h : HeldList). record h { pieces = pieces_given es h.pieces }) o) (λ (h : HeldList). h.pieces) []
          ≡ pieces_given es (if_found o (λ (h : HeldList). h.pieces) [])
      go None = none es
      go (Some h) = refl

  pub kind_then : image_in (with_given s n es) n ≡ image_in s n
  kind_then = ap (option_map (λ (h : HeldList). h.is_image)) (changed_found s n (pieces_given es)) ∙ go (held_in s n)
    where
      go : (o : Option HeldList) → option_map (λ (h : HeldList). h.is_image) (option_map (λ (h : HeldList). record h { pieces = pieces_given es h.pieces }) o)
          ≡ option_map (λ (h : HeldList). h.is_image) o
      go None = refl
      go (Some h) = refl

module _ (s : ShelfState) (n : ℕ) (front : List Entry) (e : Entry) (back : List Entry) (may : MayGive s n (front ++ e ∷ back)) where
  pub may_one : MayGiveOne (with_given s n front) n (length front) e
  may_one =
      let ps : List (Piece Entry) = pieces_in s n in
      let all : List (Piece Entry) = shelf_pieces s ++ pieces_given (front ++ e ∷ back) ps in
      let size : length (front ++ e ∷ back) ≡ length ps = may.size in
      let long : length (front ++ e ∷ back) ≡ length front + suc (length back) = length-append front (e ∷ back) in
      let found : (a : Piece Entry) × (slice_get ps (length front) ≡ Some a) = at_some (length front) ps (omega (arith, size, long)) in
      let a : Piece Entry = found.0 in
      let then : slice_get (pieces_in (with_given s n front) n) (length front) ≡ Some a =
      ap (λ qs. slice_get qs (length front)) (pieces_then s n front) ∙ given_behind front ps ∙ found.1 in
      let b : Piece Entry = record a { chunk = e } in
      let member : Contains all b = Contains-append_right (shelf_pieces s) (pieces_given (front ++ e ∷ back) ps) b (given_member front e back ps a found.1) in
      let each : SharesEach s.geometry.pool_chunks all = shares_each s.geometry.pool_chunks all may.shares in
      let index : index_at (with_given s n front) n (length front) ≡ a.index = ap (λ (o : Option (Piece Entry)). if_found o (λ (x : Piece Entry). x.index) 0) then in
      record {
        target = kind_then s n front ∙ may.target;
        unmapped = ap (option_map (λ (x : Piece Entry). x.chunk)) then ∙ ap Some (may.bare (length front) a found.1);
        placed = each.placed b member;
        agree = ap (λ i. list_all (λ (x : Piece Entry). agrees x (record { index = i; chunk = e })) (shelf_pieces (with_given s n front))) index
            ∙ given_passes (λ x. agrees x b) s n front (e ∷ back) (all_agree s.geometry.pool_chunks all b may.shares member);
        fresh = may.fresh;
        reserved = may.reserved;
      }

-- ---- entries as the store has them
abbrev pub no_entry : PlacedEntry
no_entry = record { place = None; stamp = 0 }

module _ (entries : List PlacedEntry) (i : ℕ) (lt : i < length entries) where
  next_split : seen_entries (take i entries) ++ seen_entry (get_or entries i no_entry) ∷ seen_entries (drop (i + 1) entries) ≡ seen_entries entries
  next_split =
      sym (map-append seen_entry (take i entries) (get_or entries i no_entry ∷ drop (i + 1) entries))
      ∙ ap (λ (xs : List PlacedEntry). map seen_entry (take i entries ++ xs)) (sym (drop_more entries i no_entry lt))
      ∙ ap (map seen_entry) (take-append-drop i entries)

  next_count : length (seen_entries (take i entries)) ≡ i
  next_count = length-map (take i entries) seen_entry ∙ length-take-le i entries (omega arith)

  pub may_next : (s : ShelfState) (n : ℕ) → MayGive s n (seen_entries entries) → MayGiveOne (with_given s n (seen_entries (take i entries))) n i (seen_entry (get_or entries i no_entry))
  may_next s n may =
      subst (λ k. MayGiveOne (with_given s n (seen_entries (take i entries))) n k (seen_entry (get_or entries i no_entry))) next_count
      (may_one s n (seen_entries (take i entries)) (seen_entry (get_or entries i no_entry)) (seen_entries (drop (i + 1) entries))
      (subst (λ es. MayGive s n es) (sym next_split) may))

  pub next_given : (s : ShelfState) (n : ℕ) → with_piece (with_given s n (seen_entries (take i entries))) n i (seen_entry (get_or entries i no_entry))
      ≡ with_given s n (seen_entries (take (i + 1) entries))
  next_given s n =
      ap (λ k. with_piece (with_given s n (seen_entries (take i entries))) n k (seen_entry (get_or entries i no_entry))) (sym next_count)
      ∙ with_more s n (seen_entries (take i entries)) (seen_entry (get_or entries i no_entry))
      ∙ ap (with_given s n) (sym (map-append seen_entry (take i entries) (get_or entries i no_entry ∷ [])))
      ∙ ap (λ (xs : List PlacedEntry). with_given s n (map seen_entry xs)) (sym (take_more entries i no_entry lt))
