-- Tables that share rightly stand for an array in which index and stamp tell the bytes of a chunk.
use Rattle.std.proofs.Common.{◌≡◌, ℕ, ◌==◌, ◌&&◌, ◌||◌, not, refl, ap, ◌∙◌, Bool, true, false, List, [], ◌∷◌, ◌++◌, map, replicate}
use Rattle.std.specs.Prelude.{Option, Some, None, nat_lt, nat_le, unwrap_or, option_map}
use Rattle.std.specs.List.{list_all, flat_map}
use Rattle.std.specs.Str.{bytes_eq}
use Rattle.std.proofs.lemmas.List.{map-append}
use Rattle.std.proofs.lemmas.List.Folds.{list_all-map}
use Rattle.std.proofs.lemmas.Bool.{eqb-true, eq-eqb}
use Rattle.std.proofs.lemmas.Slice.Eq.{bytes_eq-Decides}
use Rattle.vv_flat.specs.Lists.{if_found}
use Rattle.vv_flat.specs.State.{Durable, Volume, RunningClone, RunningCopy, Piece, map_durable, map_volume, map_clone, map_copy, map_piece, indexed, all_pieces}
use Rattle.vv_flat.specs.Chunks.{ChunkValue, Entry, filled, filled_tables, chunk_bytes}
use Rattle.vv_flat.specs.Sharing.{is_placed, both_or_neither, agrees, shares_places, Standing, standing, standings, is_own_stamp, is_shared_rightly, shares, is_told_by_stamp, stamps_tell_bytes}
use Rattle.vv_flat.proofs.MapLists.{map-mapped_from, map-after, map-same}

-- joining lists and then mapping is mapping each and then joining
map-flat_map : {A B C D : Type 0} (f : A → C) (g : B → D) (h : A → List B) (k : C → List D)
    → ((x : A) → map g (h x) ≡ k (f x)) → (xs : List A) → map g (flat_map h xs) ≡ flat_map k (map f xs)
map-flat_map f g h k same [] = refl
map-flat_map f g h k same (x ∷ xs) =
    map-append g (h x) (flat_map h xs) ∙ ap (λ ys. ys ++ map g (flat_map h xs)) (same x)
    ∙ ap (λ ys. k (f x) ++ ys) (map-flat_map f g h k same xs)

map-indexed : {X Y : Type 0} (f : X → Y) (xs : List X) → map (map_piece f) (indexed xs) ≡ indexed (map f xs)
map-indexed f xs =
    map-mapped_from f (map_piece f) (λ i x. record { index = i; chunk = x }) (λ i y. record { index = i; chunk = y })
    (λ i x. refl) 0 xs

-- the pieces of an array whose chunks are replaced
pub map-all_pieces : {X Y : Type 0} (f : X → Y) (d : Durable X) → map (map_piece f) (all_pieces d) ≡ all_pieces (map_durable f d)
map-all_pieces {X} {Y} f d =
    rw (
      map-append (map_piece f)
          (flat_map (λ (v : Volume X). indexed v.chunks) d.volumes
          ++ flat_map (λ (c : RunningClone X). indexed c.image ++ indexed c.target) d.clones)
          (flat_map (λ (c : RunningCopy X). c.pieces) d.copies),
      map-append (map_piece f) (flat_map (λ (v : Volume X). indexed v.chunks) d.volumes)
          (flat_map (λ (c : RunningClone X). indexed c.image ++ indexed c.target) d.clones),
      map-flat_map (map_volume f) (map_piece f) (λ (v : Volume X). indexed v.chunks) (λ (v : Volume Y). indexed v.chunks)
          (λ v. map-indexed f v.chunks) d.volumes,
      map-flat_map (map_clone f) (map_piece f) (λ (c : RunningClone X). indexed c.image ++ indexed c.target)
          (λ (c : RunningClone Y). indexed c.image ++ indexed c.target)
          (λ c. map-append (map_piece f) (indexed c.image) (indexed c.target)
          ∙ ap (λ ys. ys ++ map (map_piece f) (indexed c.target)) (map-indexed f c.image)
          ∙ ap (λ ys. indexed (map f c.image) ++ ys) (map-indexed f c.target)) d.clones,
      map-flat_map (map_copy f) (map_piece f) (λ (c : RunningCopy X). c.pieces) (λ (c : RunningCopy Y). c.pieces)
          (λ c. refl) d.copies,
    )

pieces_of_standing : (o : Option ℕ) (ps : List (Piece Entry)) → map (λ (a : Standing). a.piece) (standing o ps) ≡ ps
pieces_of_standing o ps = map-after _ (λ (a : Standing). a.piece) (λ p. p) (λ p. refl) ps ∙ map-same (λ p. p) (λ p. refl) ps

-- the same list, where the items are taken as they are
flat_map-pieces : {A : Type 0} (h : A → List Standing) (k : A → List (Piece Entry))
    → ((x : A) → map (λ (a : Standing). a.piece) (h x) ≡ k x) → (xs : List A)
    → map (λ (a : Standing). a.piece) (flat_map h xs) ≡ flat_map k xs
flat_map-pieces h k same [] = refl
flat_map-pieces h k same (x ∷ xs) =
    map-append (λ (a : Standing). a.piece) (h x) (flat_map h xs)
    ∙ ap (λ ys. ys ++ map (λ (a : Standing). a.piece) (flat_map h xs)) (same x)
    ∙ ap (λ ys. k x ++ ys) (flat_map-pieces h k same xs)

-- the standing entries of tables are its pieces
pub pieces_of_standings : (d : Durable Entry) → map (λ (a : Standing). a.piece) (standings d) ≡ all_pieces d
unfolding standings
pieces_of_standings d =
    rw (
      map-append (λ (a : Standing). a.piece)
          (flat_map (λ (v : Volume Entry). standing None (indexed v.chunks)) d.volumes
          ++ flat_map (λ (c : RunningClone Entry). standing None (indexed c.image) ++ standing (Some c.number) (indexed c.target)) d.clones)
          (flat_map (λ (c : RunningCopy Entry). standing None c.pieces) d.copies),
      map-append (λ (a : Standing). a.piece) (flat_map (λ (v : Volume Entry). standing None (indexed v.chunks)) d.volumes)
          (flat_map (λ (c : RunningClone Entry). standing None (indexed c.image) ++ standing (Some c.number) (indexed c.target)) d.clones),
      flat_map-pieces (λ (v : Volume Entry). standing None (indexed v.chunks)) (λ v. indexed v.chunks)
          (λ v. pieces_of_standing None (indexed v.chunks)) d.volumes,
      flat_map-pieces (λ (c : RunningClone Entry). standing None (indexed c.image) ++ standing (Some c.number) (indexed c.target))
          (λ c. indexed c.image ++ indexed c.target)
          (λ c. map-append (λ (a : Standing). a.piece) (standing None (indexed c.image)) (standing (Some c.number) (indexed c.target))
          ∙ ap (λ ys. ys ++ map (λ (a : Standing). a.piece) (standing (Some c.number) (indexed c.target))) (pieces_of_standing None (indexed c.image))
          ∙ ap (λ ys. indexed c.image ++ ys) (pieces_of_standing (Some c.number) (indexed c.target))) d.clones,
      flat_map-pieces (λ (c : RunningCopy Entry). standing None c.pieces) (λ c. c.pieces)
          (λ c. pieces_of_standing None c.pieces) d.copies,
    )

pub and_left : (a b : Bool) → (a && b) ≡ true → a ≡ true
and_left true b e = refl
and_left false b e = cc

pub and_right : (a b : Bool) → (a && b) ≡ true → b ≡ true
and_right true b e = e
and_right false b e = cc

pub and_both : (a b : Bool) → a ≡ true → b ≡ true → (a && b) ≡ true
and_both true b e f = f
and_both false b e f = cc

-- what passes a test passes another that follows from it
pub list_all-follows : {A : Type 0} (p q : A → Bool) → ((x : A) → p x ≡ true → q x ≡ true) → (xs : List A)
    → list_all p xs ≡ true → list_all q xs ≡ true
list_all-follows p q h [] e = refl
list_all-follows p q h (x ∷ xs) e =
    and_both (q x) (list_all q xs) (h x (and_left (p x) (list_all p xs) e))
    (list_all-follows p q h xs (and_right (p x) (list_all p xs) e))

-- and what passes two tests passes what follows from both
pub list_all-both : {A : Type 0} (p r q : A → Bool) → ((x : A) → p x ≡ true → r x ≡ true → q x ≡ true) → (xs : List A)
    → list_all p xs ≡ true → list_all r xs ≡ true → list_all q xs ≡ true
list_all-both p r q h [] e f = refl
list_all-both p r q h (x ∷ xs) e f =
    and_both (q x) (list_all q xs) (h x (and_left (p x) (list_all p xs) e) (and_left (r x) (list_all r xs) f))
    (list_all-both p r q h xs (and_right (p x) (list_all p xs) e) (and_right (r x) (list_all r xs) f))

-- the first and the last of four tests
first_and_last : (a b c e : Bool) → (a && b && c && e) ≡ true → (a && e) ≡ true
first_and_last true true true e h = h
first_and_last true true false e h = cc
first_and_last true false c e h = cc
first_and_last false b c e h = cc

-- the rule on sharing has the rule on places
pub shares-places : (d : Durable Entry) → shares d ≡ true → shares_places d.geometry.pool_chunks (all_pieces d) ≡ true
unfolding shares shares_places
shares-places d e =
    let of_pieces : list_all (λ (a : Piece Entry). is_placed d.geometry.pool_chunks a.chunk && list_all (agrees a) (all_pieces d))
    (map (λ (a : Standing). a.piece) (standings d)) ≡ true =
    list_all-map (λ (a : Piece Entry). is_placed d.geometry.pool_chunks a.chunk && list_all (agrees a) (all_pieces d))
    (λ (a : Standing). a.piece) (standings d)
    ∙ list_all-follows (is_shared_rightly d)
    (λ (a : Standing). is_placed d.geometry.pool_chunks a.piece.chunk && list_all (agrees a.piece) (all_pieces d))
    (λ a h. first_and_last (is_placed d.geometry.pool_chunks a.piece.chunk) (nat_le a.piece.chunk.stamp d.lsn)
    (is_own_stamp d.clones a) (list_all (agrees a.piece) (all_pieces d)) h) (standings d) e in
    rw (pieces_of_standings d) at of_pieces

or_true : (a b : Bool) → a ≡ true → (a || b) ≡ true
or_true true b e = refl
or_true false b e = cc

or_true_right : (a b : Bool) → b ≡ true → (a || b) ≡ true
or_true_right true b e = refl
or_true_right false b e = e

bytes_eq-same : (xs : List ℕ) → bytes_eq xs xs ≡ true
bytes_eq-same xs = (bytes_eq-Decides xs xs).1 refl

-- one place has the same bytes, where it is one
one_place : (bytes_at : ℕ → List ℕ) (x y : ℕ) (same zero : Bool) → both_or_neither (x == y) same ≡ true
    → (not same || zero || bytes_eq (bytes_at x) (bytes_at y)) ≡ true
one_place bytes_at x y false zero e = refl
one_place bytes_at x y true zero e = or_true_right _ _ (go (x == y) refl e)
  where
    go : (b : Bool) → (x == y) ≡ b → both_or_neither b true ≡ true → bytes_eq (bytes_at x) (bytes_at y) ≡ true
    go true is f = let one : x ≡ y = eqb-true x y is in rw one (bytes_eq-same (bytes_at y))
    go false is f = cc

-- a chunk that has a place and one that has none differ in stamp
differ : (i j s t : ℕ) (rest : Bool) → not (s == 0) ≡ true → (t == 0) ≡ true → (not ((i == j) && (s == t)) || rest) ≡ true
differ i j s t rest some none = go ((i == j) && (s == t)) refl
  where
    go : (b : Bool) → ((i == j) && (s == t)) ≡ b → (not b || rest) ≡ true
    go false is = refl
    go true is =
        let same : s ≡ t = eqb-true s t (and_right (i == j) (s == t) is) in
        let zero : t ≡ 0 = eqb-true t 0 none in
        let also : (s == 0) ≡ true = eq-eqb s 0 (same ∙ zero) in
        let no : not true ≡ true = rw also at some in cc

told : (pool : ℕ) (bytes_at : ℕ → List ℕ) (zeros : List ℕ) (i j s t : ℕ) (p q : Option ℕ)
    → if_found p (λ x. not (s == 0) && nat_lt x pool) (s == 0) ≡ true
    → if_found q (λ x. not (t == 0) && nat_lt x pool) (t == 0) ≡ true
    → if_found p (λ x. if_found q (λ y. both_or_neither (x == y) ((i == j) && (s == t))) true) true ≡ true
    → (not ((i == j) && (s == t)) || (s == 0) || bytes_eq (unwrap_or (option_map bytes_at p) zeros) (unwrap_or (option_map bytes_at q) zeros)) ≡ true
told pool bytes_at zeros i j s t None q a b e = or_true _ _ (or_true_right _ _ a)
told pool bytes_at zeros i j s t (Some x) None a b e = or_true _ _ (differ i j s t (s == 0) (and_left _ _ a) b)
told pool bytes_at zeros i j s t (Some x) (Some y) a b e = one_place bytes_at x y ((i == j) && (s == t)) (s == 0) e

pub sharing_tells_bytes : (bytes_at : ℕ → List ℕ) (d : Durable Entry) → shares d ≡ true
    → stamps_tell_bytes (filled_tables bytes_at d) ≡ true
unfolding shares_places stamps_tell_bytes
sharing_tells_bytes bytes_at d e =
    let pool = d.geometry.pool_chunks in
    let f : Entry → ChunkValue = filled d.geometry.chunk_blocks bytes_at in
    let zeros : List ℕ = replicate (chunk_bytes d.geometry.chunk_blocks) 0 in
    let placed : list_all (λ (a : Piece Entry). is_placed pool a.chunk && list_all (agrees a) (all_pieces d)) (all_pieces d) ≡ true =
    shares-places d e in
    let all_placed : list_all (λ (a : Piece Entry). is_placed pool a.chunk) (all_pieces d) ≡ true =
    list_all-follows _ (λ (a : Piece Entry). is_placed pool a.chunk) (λ a h. and_left (is_placed pool a.chunk) (list_all (agrees a) (all_pieces d)) h) (all_pieces d) placed in
    let each : list_all (λ (a : Piece Entry). list_all (λ (b : Piece Entry). is_told_by_stamp (map_piece f a) (map_piece f b)) (all_pieces d)) (all_pieces d) ≡ true =
    list_all-follows _ (λ (a : Piece Entry). list_all (λ (b : Piece Entry). is_told_by_stamp (map_piece f a) (map_piece f b)) (all_pieces d))
    (λ a h. list_all-both (λ (b : Piece Entry). is_placed pool b.chunk) (agrees a)
    (λ (b : Piece Entry). is_told_by_stamp (map_piece f a) (map_piece f b))
    (λ b is_b agree. told pool bytes_at zeros a.index b.index a.chunk.stamp b.chunk.stamp a.chunk.place b.chunk.place
    (and_left (is_placed pool a.chunk) (list_all (agrees a) (all_pieces d)) h) is_b agree)
    (all_pieces d) all_placed (and_right (is_placed pool a.chunk) (list_all (agrees a) (all_pieces d)) h))
    (all_pieces d) placed in
    rw (← (map-all_pieces f d))
    (list_all-map (λ (a : Piece ChunkValue). list_all (is_told_by_stamp a) (map (map_piece f) (all_pieces d))) (map_piece f) (all_pieces d)
    ∙ list_all-follows _ (λ (a : Piece Entry). list_all (is_told_by_stamp (map_piece f a)) (map (map_piece f) (all_pieces d)))
    (λ a h. list_all-map (is_told_by_stamp (map_piece f a)) (map_piece f) (all_pieces d) ∙ h) (all_pieces d) each)
