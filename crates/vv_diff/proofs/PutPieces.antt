-- Pieces that are put into a volume one after another.
use Rattle.std.proofs.Common.{ℕ, zero, suc, ◌≡◌, ◌+◌, ◌-◌, ◌/◌, ◌<◌, ◌≤◌, Bool, true, false, cond, not, List, [], ◌∷◌, ◌++◌, map, length, get_or, set, take, count_by, Option, Some, None, find, is_some, slice_get, option_map, refl, sym, ap, ◌∙◌, ⊎_elim, arith, take_all}
use Rattle.std.specs.Prelude.{IsSome}
use Rattle.std.specs.List.{Contains}
use Rattle.std.proofs.lemmas.Bool.{cases_eq, ne_eqb}
use Rattle.std.proofs.lemmas.List.{map-append, take_more}
use Rattle.std.proofs.lemmas.List.Sums.{sum_by-cons}
use Rattle.vv_flat.specs.Lists.{if_found, first_changed, numbers_from, put_at}
use Rattle.vv_flat.specs.State.{Volume, Piece}
use Rattle.vv_flat.specs.Chunks.{Entry, unmapped_entry}
use Rattle.vv_flat.specs.Tasks.{pieces_put}
use Rattle.vv_flat.proofs.Entries.{length-put_at}
use Rattle.vv_vols.specs.Shelf.{ShelfState, is_volume, volume_in, size_in, pieces_in, piece_at, index_at, chunk_at}
use Rattle.vv_vols.specs.Calls.{with_chunks, with_entry, without_held}
use Rattle.vv_vols.specs.Rows.{ShelfView, RoomView, is_own, IsChangeRoom, pages_touched}

put_at_more : {A : Type 0} (is : List ℕ) (vs : List A) (i : ℕ) (v : A) (xs : List A) → length is ≡ length vs → put_at (is ++ i ∷ []) (vs ++ v ∷ []) xs ≡ set (put_at is vs xs) i v
put_at_more [] [] i v xs e = refl
put_at_more [] (w ∷ vs) i v xs e = absurd (omega arith)
put_at_more (j ∷ is) [] i v xs e = absurd (omega arith)
put_at_more (j ∷ is) (w ∷ vs) i v xs e = put_at_more is vs i v (set xs j w) (omega arith)

same_length : {A B C : Type 0} (f : A → B) (g : A → C) (xs : List A) → length (map f xs) ≡ length (map g xs)
same_length f g [] = refl
same_length f g (x ∷ xs) = ap suc (same_length f g xs)

-- one piece more
pub put_more : (ps : List (Piece Entry)) (p : Piece Entry) (chunks : List Entry) → pieces_put (ps ++ p ∷ []) chunks ≡ set (pieces_put ps chunks) p.index p.chunk
put_more ps p chunks =
    ap (λ is. put_at is (map (λ (q : Piece Entry). q.chunk) (ps ++ p ∷ [])) chunks) (map-append (λ (q : Piece Entry). q.index) ps (p ∷ []))
    ∙ ap (λ vs. put_at (map (λ (q : Piece Entry). q.index) ps ++ p.index ∷ []) vs chunks) (map-append (λ (q : Piece Entry). q.chunk) ps (p ∷ []))
    ∙ put_at_more (map (λ (q : Piece Entry). q.index) ps) (map (λ (q : Piece Entry). q.chunk) ps) p.index p.chunk chunks (same_length (λ (q : Piece Entry). q.index) (λ (q : Piece Entry). q.chunk) ps)

put_length : (ps : List (Piece Entry)) (chunks : List Entry) → length (pieces_put ps chunks) ≡ length chunks
put_length ps chunks = length-put_at (map (λ (q : Piece Entry). q.index) ps) (map (λ (q : Piece Entry). q.chunk) ps) chunks

-- ---- a volume changed, and changed again
module _ (n : ℕ) (f g h : List Entry → List Entry) (is : (chunks : List Entry) → g (f chunks) ≡ h chunks) where
  abbrev with_f : (List Entry → List Entry) → Volume Entry → Volume Entry
  with_f k v = record v { chunks = k v.chunks }

  changed_twice : (vs : List (Volume Entry)) → first_changed (is_volume n) (with_f g) (first_changed (is_volume n) (with_f f) vs) ≡ first_changed (is_volume n) (with_f h) vs
  changed_twice [] = refl
  changed_twice (v ∷ vs) = go (is_volume n v) refl (changed_twice vs)
    where
      go : (b : Bool) → is_volume n v ≡ b → first_changed (is_volume n) (with_f g) (first_changed (is_volume n) (with_f f) vs) ≡ first_changed (is_volume n) (with_f h) vs
          → first_changed (is_volume n) (with_f g) (cond b (with_f f v ∷ vs) (v ∷ first_changed (is_volume n) (with_f f) vs)) ≡ cond b (with_f h v ∷ vs) (v ∷ first_changed (is_volume n) (with_f h) vs)
      go true passes later =
          ap (λ b. cond b (with_f g (with_f f v) ∷ vs) (with_f f v ∷ first_changed (is_volume n) (with_f g) vs)) passes
          ∙ ap (λ es. let w : Volume Entry = record v { chunks = es } in w ∷ vs) (is v.chunks)
      go false misses later =
          ap (λ b. cond b (with_f g v ∷ first_changed (is_volume n) (with_f f) vs) (v ∷ first_changed (is_volume n) (with_f g) (first_changed (is_volume n) (with_f f) vs))) misses
          ∙ ap (λ ws. v ∷ ws) later

  pub chunks_twice : (s : ShelfState) → with_chunks (with_chunks s n f) n g ≡ with_chunks s n h
  chunks_twice s = ap (λ vs. record s { volumes = vs }) (changed_twice s.volumes)

found_chunks : (n : ℕ) (f : List Entry → List Entry) (vs : List (Volume Entry)) → find (is_volume n) (first_changed (is_volume n) (λ (v : Volume Entry). record v { chunks = f v.chunks }) vs)
    ≡ option_map (λ (v : Volume Entry). record v { chunks = f v.chunks }) (find (is_volume n) vs)
found_chunks n f [] = refl
found_chunks n f (v ∷ vs) = go (is_volume n v) refl (found_chunks n f vs)
  where
    put : Volume Entry → Volume Entry
    put w = record w { chunks = f w.chunks }

    go : (b : Bool) → is_volume n v ≡ b → find (is_volume n) (first_changed (is_volume n) (λ (w : Volume Entry). record w { chunks = f w.chunks }) vs) ≡ option_map (λ (w : Volume Entry). record w { chunks = f w.chunks }) (find (is_volume n) vs)
        → find (is_volume n) (cond b ((record v { chunks = f v.chunks }) ∷ vs) (v ∷ first_changed (is_volume n) (λ (w : Volume Entry). record w { chunks = f w.chunks }) vs))
        ≡ option_map (λ (w : Volume Entry). record w { chunks = f w.chunks }) (cond b (Some v) (find (is_volume n) vs))
    go true passes later = ap (λ b. cond b (Some (record v { chunks = f v.chunks })) (find (is_volume n) vs)) passes
    go false misses later = ap (λ b. cond b (Some v) (find (is_volume n) (first_changed (is_volume n) (λ (w : Volume Entry). record w { chunks = f w.chunks }) vs))) misses ∙ later

-- ---- the shelf after some pieces
module _ (s : ShelfState) (dst n : ℕ) where
  abbrev pub put_state : ℕ → ShelfState
  put_state k = with_chunks s dst (pieces_put (take k (pieces_in s n)))

  pub put_standing : (k : ℕ) → IsSome (volume_in s dst) → IsSome (volume_in (put_state k) dst)
  put_standing k some = ap (λ o. is_some o) (found_chunks dst (pieces_put (take k (pieces_in s n))) s.volumes) ∙ go (volume_in s dst) some
    where
      go : (o : Option (Volume Entry)) → is_some o ≡ true → is_some (option_map (λ (v : Volume Entry). record v { chunks = pieces_put (take k (pieces_in s n)) v.chunks }) o) ≡ true
      go None e = absurd (cc)
      go (Some v) e = refl

  pub put_size : (k : ℕ) → size_in (put_state k) dst ≡ size_in s dst
  put_size k = ap (λ o. if_found o (λ (v : Volume Entry). length v.chunks) 0) (found_chunks dst (pieces_put (take k (pieces_in s n))) s.volumes) ∙ go (volume_in s dst)
    where
      go : (o : Option (Volume Entry)) → if_found (option_map (λ (v : Volume Entry). record v { chunks = pieces_put (take k (pieces_in s n)) v.chunks }) o) (λ (v : Volume Entry). length v.chunks) 0 ≡ if_found o (λ (v : Volume Entry). length v.chunks) 0
      go None = refl
      go (Some v) = put_length (take k (pieces_in s n)) v.chunks

  pub put_next : (k : ℕ) (p : Piece Entry) → k < length (pieces_in s n) → slice_get (pieces_in s n) k ≡ Some p → with_entry (put_state k) dst p.index p.chunk ≡ put_state (k + 1)
  put_next k p lt there = chunks_twice dst (pieces_put (take k (pieces_in s n))) (λ chunks. set chunks p.index p.chunk) (pieces_put (take (k + 1) (pieces_in s n)))
      (λ chunks. sym (put_more (take k (pieces_in s n)) p chunks) ∙ ap (λ ps. pieces_put ps chunks) (sym (take_more (pieces_in s n) k p lt ∙ ap (λ q. take k (pieces_in s n) ++ q ∷ []) (here (pieces_in s n) k p there)))) s
    where
      here : (ps : List (Piece Entry)) (j : ℕ) (q : Piece Entry) → slice_get ps j ≡ Some q → get_or ps j q ≡ q
      here [] j q e = refl
      here (r ∷ ps) zero q e = cc
      here (r ∷ ps) (suc j) q e = here ps j q e

  pub put_all : (k : ℕ) → length (pieces_in s n) ≤ k → without_held (put_state k) n ≡ with_chunks (without_held s n) dst (pieces_put (pieces_in s n))
  put_all k all = ap (λ ps. with_chunks (without_held s n) dst (pieces_put ps)) (take_all k (pieces_in s n) all)

-- a piece at a position, by its index
pub piece_of : (s : ShelfState) (n at index : ℕ) → option_map (λ (a : Piece Entry). a.index) (piece_at s n at) ≡ Some index
    → (p : Piece Entry) × (piece_at s n at ≡ Some p) × (p.index ≡ index) × (index_at s n at ≡ index) × (chunk_at s n at ≡ p.chunk)
piece_of s n at index e = go (piece_at s n at) refl e
  where
    go : (o : Option (Piece Entry)) → piece_at s n at ≡ o → option_map (λ (a : Piece Entry). a.index) o ≡ Some index
        → (p : Piece Entry) × (o ≡ Some p) × (p.index ≡ index) × (if_found o (λ (a : Piece Entry). a.index) 0 ≡ index) × (if_found o (λ (a : Piece Entry). a.chunk) unmapped_entry ≡ p.chunk)
    go None is e = absurd (cc)
    go (Some p) is e = let same : p.index ≡ index = cc in (p, refl, same, same, refl)

-- ---- a page for each write
abbrev bit : Bool → ℕ
bit b = cond (not b) 1 0

count_some : (f : ℕ → Bool) (a n j : ℕ) → a ≤ j → j < a + n → f j ≡ false → 1 ≤ count_by (λ k. not (f k)) (numbers_from a n)
count_some f a zero j low high is = absurd (omega arith)
count_some f a (suc n) j low high is =
    let sums = sum_by-cons (λ k. cond (not (f k)) 1 0) a (numbers_from (a + 1) n) in
    ⊎_elim
    (λ e. let first : bit (f a) ≡ 1 = ap (λ k. bit (f k)) e ∙ ap bit is in omega arith)
    (λ ne. let rest = count_some f (a + 1) n j (omega arith) (omega arith) is in omega arith)
    (cases_eq a j)

pub room_for_one : (view : ShelfView) (n size index : ℕ) (room : RoomView) → IsChangeRoom view n 0 size room → index < size → is_own view n (index / 64) ≡ false → 1 ≤ room.pages
room_for_one view n size index room good within is =
    let touched : pages_touched 0 size ≡ (0 + size - 1) / 64 + 1 - 0 / 64 = ap (λ b. cond b 0 ((0 + size - 1) / 64 + 1 - 0 / 64)) (ne_eqb size 0 (λ e. absurd (omega arith))) in
    let some = count_some (is_own view n) (0 / 64) (pages_touched 0 size) (index / 64) (omega arith) (omega arith) is in
    omega arith

-- ---- items at positions
pub slice_in : {A : Type 0} (xs : List A) (at : ℕ) (x : A) → slice_get xs at ≡ Some x → Contains xs x
slice_in [] at x e = absurd (cc)
slice_in (y ∷ ys) zero x e = let same : y ≡ x = cc in (0, omega arith, same)
slice_in (y ∷ ys) (suc at) x e = let rest = slice_in ys at x e in (suc rest.0, (let lt = rest.1 in omega arith), rest.2)

pub slice_within : {A : Type 0} (xs : List A) (at : ℕ) (x : A) → slice_get xs at ≡ Some x → at < length xs
slice_within [] at x e = absurd (cc)
slice_within (y ∷ ys) zero x e = omega arith
slice_within (y ∷ ys) (suc at) x e = let rest = slice_within ys at x e in omega arith

-- before the first piece
none_changed : (n : ℕ) (vs : List (Volume Entry)) → vs ≡ first_changed (is_volume n) (λ (v : Volume Entry). record v { chunks = v.chunks }) vs
none_changed n [] = refl
none_changed n (v ∷ vs) = go (is_volume n v) (none_changed n vs)
  where
    go : (b : Bool) → vs ≡ first_changed (is_volume n) (λ (w : Volume Entry). record w { chunks = w.chunks }) vs
        → (v ∷ vs) ≡ cond b (v ∷ vs) (v ∷ first_changed (is_volume n) (λ (w : Volume Entry). record w { chunks = w.chunks }) vs)
    go true later = refl
    go false later = ap (λ ws. v ∷ ws) later

pub put_none : (s : ShelfState) (dst n : ℕ) → s ≡ put_state s dst n 0
put_none s dst n = ap (λ vs. record s { volumes = vs }) (none_changed dst s.volumes)
