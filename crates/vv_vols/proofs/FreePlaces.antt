-- The pool under a shelf: a place is counted exactly where an entry of the shelf names it, so the pool's free places are
-- those of the shelf; and what places that become fresh make of it.
use Rattle.std.proofs.Common.{ℕ, zero, suc, ◌≡◌, ◌≢◌, ◌+◌, ◌-◌, ◌<◌, ◌==◌, ◌&&◌, ◌↔◌, Bool, true, false, cond, not, filter, fold, count_by, List, [], ◌∷◌, ◌++◌, map, length, get_or, set, refl, sym, ap, ◌∙◌, subst, ⊎_elim, arith, get_or-take, length-take, length-set, get_or-set_other}
use Rattle.std.specs.Prelude.{nat_lt, IsTrue}
use Rattle.std.specs.List.{All, list_all, flat_map}
use Rattle.std.proofs.lemmas.Bool.{cases_lt, ne_eqb, eq-eqb, eqb-true, ltb-true, lt-ltb, le-ltb}
use Rattle.std.proofs.lemmas.List.Elements.{All-head, All-tail}
use Rattle.std.proofs.lemmas.List.Concat.{flat_map-append}
use Rattle.std.proofs.lemmas.List.Sums.{sum_by-cons, sum_by-append}
use Rattle.vv_units.specs.declared.geometry.Geometry.{Geometry}
use Rattle.vv_map.specs.Rooms.{MapState}
use Rattle.vv_map.specs.Pages.{StoreState, list_of, IsMapOf}
use Rattle.vv_pool.specs.declared.place_use.PlaceUse.{PlaceUse}
use Rattle.vv_pool.specs.declared.place_use.PlaceUse.TheVariants.{Counted, Fresh}
use Rattle.vv_pool.specs.Uses.{is_free, is_used, count_in, free_from, made_fresh}
use Rattle.vv_pool.specs.Pool.{PoolState, IsFree, use_of, count_of, used_of, free_of, free_places, lowest_places, used_bit}
use Rattle.vv_pool.proofs.PoolLaws.{free_places-rise, IsFree-free_places}
use Rattle.vv_entries.specs.declared.entry.Entry.{Entry as PlacedEntry}
use Rattle.vv_entries.specs.Entries.{EntriesState, named, named_in, IsCounted}
use Rattle.vv_entries.specs.Owners.{all_entries}
use Rattle.vv_entries.proofs.Named.{name_bit, named-append, named-cons, named-nil}
use Rattle.vv_entries.proofs.Owners.{named_by_lists, none_by_lists, All-back}
use Rattle.vv_flat.specs.Lists.{mapped_from, numbers_from, put_before}
use Rattle.vv_flat.specs.State.{Volume, Piece, indexed}
use Rattle.vv_flat.specs.Chunks.{Entry}
use Rattle.vv_flat.specs.Sharing.{names_place}
use Rattle.vv_flat.specs.NamedPlaces.{is_named, named_count}
use Rattle.vv_flat.proofs.NamedPlaces.{any-counted}
use Rattle.vv_flat.proofs.Shares.{and_left}
use Rattle.vv_vols.specs.Shelf.{HeldList, pieces_of, shelf_pieces, shelf_used, is_shelf_free}
use Rattle.vv_vols.specs.Places.{free_places_of, shelf_free, IsPoolOf}
use Rattle.vv_vols.specs.declared.row.VolumeRow.{VolumeRow}
use Rattle.vv_vols.specs.declared.row.HeldRow.{HeldRow}
use Rattle.vv_vols.specs.Rows.{fresh_from, seen_entry, seen_entries, seen_volume, seen_held, seen_shelf, with_indexes, held_indexes, volume_map, held_map, IsShelf}
use Rattle.vv_vols.proofs.SeenPlaces.{name_seen}
use Rattle.vv_vols.proofs.Kept.{used_are_named}
use Rattle.vv_vols.proofs.OwnKept.{list_len}

-- ---- how often the entries of a shelf name a place
count_from : (p first : ℕ) (es : List PlacedEntry) → count_by (names_place p) (mapped_from (λ i x. record { index = i; chunk = x }) first (seen_entries es)) ≡ named p es
count_from p first [] = sym (named-nil p)
count_from p first (e ∷ es) =
    let more = sum_by-cons (λ (a : Piece Entry). cond (names_place p a) 1 0) (record { index = first; chunk = seen_entry e }) (mapped_from (λ i x. record { index = i; chunk = x }) (first + 1) (seen_entries es)) in
    let bit : cond (names_place p (record { index = first; chunk = seen_entry e })) 1 0 ≡ name_bit p e = ap (λ b. cond b 1 0) (name_seen p first e) in
    let both = named-cons p e es in
    let rest = count_from p (first + 1) es in
    omega arith

count_with : (p : ℕ) (is : List ℕ) (es : List PlacedEntry) → length is ≡ length es → count_by (names_place p) (with_indexes is (seen_entries es)) ≡ named p es
count_with p [] [] size = sym (named-nil p)
count_with p [] (e ∷ es) size = absurd (omega arith)
count_with p (i ∷ is) [] size = absurd (omega arith)
count_with p (i ∷ is) (e ∷ es) size =
    let more = sum_by-cons (λ (a : Piece Entry). cond (names_place p a) 1 0) (record { index = i; chunk = seen_entry e }) (with_indexes is (seen_entries es)) in
    let bit : cond (names_place p (record { index = i; chunk = seen_entry e })) 1 0 ≡ name_bit p e = ap (λ b. cond b 1 0) (name_seen p i e) in
    let both = named-cons p e es in
    let rest = count_with p is es (omega arith) in
    omega arith

volumes_count : (store : StoreState PlacedEntry) (p : ℕ) (rows : List VolumeRow)
    → count_by (names_place p) (flat_map (λ (v : Volume Entry). indexed v.chunks) (map (seen_volume store) rows)) ≡ named p (all_entries store (map volume_map rows))
volumes_count store p [] = sym (named-nil p)
volumes_count store p (r ∷ rows) =
    let split = sum_by-append (λ (a : Piece Entry). cond (names_place p a) 1 0) (indexed (seen_entries (list_of store r.map))) (flat_map (λ (v : Volume Entry). indexed v.chunks) (map (seen_volume store) rows)) in
    let both = named-append p (list_of store r.map) (all_entries store (map volume_map rows)) in
    let first = count_from p 0 (list_of store r.map) in
    let rest = volumes_count store p rows in
    omega arith

held_count : (store : StoreState PlacedEntry) (p : ℕ) (rows : List HeldRow) → All (λ (m : MapState). IsMapOf store m) (map held_map rows)
    → All (λ (row : HeldRow). length (held_indexes row.indexes row.map.len) ≡ row.map.len) rows
    → count_by (names_place p) (flat_map (λ (h : HeldList). h.pieces) (map (seen_held store) rows)) ≡ named p (all_entries store (map held_map rows))
held_count store p [] maps indexes = sym (named-nil p)
held_count store p (r ∷ rows) maps indexes =
    let of = All-head (λ (m : MapState). IsMapOf store m) (held_map r) (map held_map rows) maps in
    let own = All-head (λ (row : HeldRow). length (held_indexes row.indexes row.map.len) ≡ row.map.len) r rows indexes in
    let split = sum_by-append (λ (a : Piece Entry). cond (names_place p a) 1 0) (with_indexes (held_indexes r.indexes r.map.len) (seen_entries (list_of store r.map))) (flat_map (λ (h : HeldList). h.pieces) (map (seen_held store) rows)) in
    let both = named-append p (list_of store r.map) (all_entries store (map held_map rows)) in
    let first = count_with p (held_indexes r.indexes r.map.len) (list_of store r.map) (own ∙ sym (list_len store r.map of)) in
    let rest = held_count store p rows (All-tail (λ (m : MapState). IsMapOf store m) (held_map r) (map held_map rows) maps)
    (All-tail (λ (row : HeldRow). length (held_indexes row.indexes row.map.len) ≡ row.map.len) r rows indexes) in
    omega arith

-- ---- lists of uses
-- the free places are those that pass a test that tells them
free_from-filter : (test : ℕ → Bool) (at : ℕ) (us : List PlaceUse) → ((k : ℕ) → k < length us → is_free (get_or us k (Counted 0)) ≡ test (at + k)) → free_from at us ≡ filter test (numbers_from at (length us))
free_from-filter test at [] tells = refl
free_from-filter test at (u ∷ us) tells =
    let same : at + 0 ≡ at = omega arith in
    let first : is_free u ≡ test at = tells 0 (omega arith) ∙ ap test same in
    let rest = free_from-filter test (at + 1) us (λ k lt. let next : at + suc k ≡ at + 1 + k = omega arith in tells (suc k) (omega arith) ∙ ap test next) in
    ap (λ b. cond b (at ∷ free_from (at + 1) us) (free_from (at + 1) us)) first ∙ ap (λ ps. cond (test at) (at ∷ ps) ps) rest

abbrev bit : Bool → ℕ
bit b = cond b 1 0

-- the used places are those that are counted, and the fresh ones
used_split : (test : ℕ → Bool) (at : ℕ) (us : List PlaceUse) → ((k : ℕ) → k < length us → test (at + k) ≡ not (count_in (get_or us k (Counted 0)) == 0))
    → count_by is_used us ≡ count_by test (numbers_from at (length us)) + length (fresh_from at us)
used_split test at [] tells = refl
used_split test at (Fresh ∷ us) tells =
    let same : at + 0 ≡ at = omega arith in
    let first : bit (test at) ≡ 0 = ap bit (ap test (sym same) ∙ tells 0 (omega arith)) in
    let rest = used_split test (at + 1) us (λ k lt. let next : at + 1 + k ≡ at + suc k = omega arith in ap test next ∙ tells (suc k) (omega arith)) in
    let now : count_by test (at ∷ numbers_from (at + 1) (length us)) ≡ bit (test at) + count_by test (numbers_from (at + 1) (length us)) = sum_by-cons (λ k. bit (test k)) at (numbers_from (at + 1) (length us)) in
    let all : count_by is_used (Fresh ∷ us) ≡ 1 + count_by is_used us = sum_by-cons used_bit Fresh us in
    omega arith
used_split test at (Counted n ∷ us) tells =
    let same : at + 0 ≡ at = omega arith in
    let first : bit (test at) ≡ used_bit (Counted n) = ap bit (ap test (sym same) ∙ tells 0 (omega arith)) in
    let rest = used_split test (at + 1) us (λ k lt. let next : at + 1 + k ≡ at + suc k = omega arith in ap test next ∙ tells (suc k) (omega arith)) in
    let now : count_by test (at ∷ numbers_from (at + 1) (length us)) ≡ bit (test at) + count_by test (numbers_from (at + 1) (length us)) = sum_by-cons (λ k. bit (test k)) at (numbers_from (at + 1) (length us)) in
    let all : count_by is_used (Counted n ∷ us) ≡ used_bit (Counted n) + count_by is_used us = sum_by-cons used_bit (Counted n) us in
    omega arith

abbrev not_fresh : PlaceUse → Bool
not_fresh (Counted n) = true
not_fresh Fresh = false

low_apart : (p at : ℕ) (us : List PlaceUse) → p < at → list_all (λ q. not (q == p)) (fresh_from at us) ≡ true
low_apart p at [] lt = refl
low_apart p at (Fresh ∷ us) lt =
    ap (λ b. not b && list_all (λ q. not (q == p)) (fresh_from (at + 1) us)) (ne_eqb at p (λ e. absurd (omega arith))) ∙ low_apart p (at + 1) us (omega arith)
low_apart p at (Counted n ∷ us) lt = low_apart p (at + 1) us (omega arith)

-- whether a place is none of the fresh ones
fresh_tells : (at p k : ℕ) (us : List PlaceUse) → p ≡ at + k → list_all (λ q. not (q == p)) (fresh_from at us) ≡ not_fresh (get_or us k (Counted 0))
fresh_tells at p k [] e = refl
fresh_tells at p zero (Fresh ∷ us) e = ap (λ b. not b && list_all (λ q. not (q == p)) (fresh_from (at + 1) us)) (eq-eqb at p (omega arith))
fresh_tells at p zero (Counted n ∷ us) e = low_apart p (at + 1) us (omega arith)
fresh_tells at p (suc k) (Fresh ∷ us) e =
    ap (λ b. not b && list_all (λ q. not (q == p)) (fresh_from (at + 1) us)) (ne_eqb at p (λ s. absurd (omega arith))) ∙ fresh_tells (at + 1) p k us (omega arith)
fresh_tells at p (suc k) (Counted n ∷ us) e = fresh_tells (at + 1) p k us (omega arith)

-- a place that becomes fresh
low_in : (p at : ℕ) (us : List PlaceUse) → p < at → put_before (λ q. nat_lt p q) p (fresh_from at us) ≡ p ∷ fresh_from at us
low_in p at [] lt = refl
low_in p at (Fresh ∷ us) lt =
    ap (λ b. cond b (p ∷ at ∷ fresh_from (at + 1) us) (at ∷ put_before (λ q. nat_lt p q) p (fresh_from (at + 1) us))) (lt-ltb p at lt)
low_in p at (Counted n ∷ us) lt = low_in p (at + 1) us (omega arith)

fresh_in : (at k p : ℕ) (us : List PlaceUse) → p ≡ at + k → k < length us → get_or us k (Counted 0) ≢ Fresh → fresh_from at (set us k Fresh) ≡ put_before (λ q. nat_lt p q) p (fresh_from at us)
fresh_in at k p [] e lt other = absurd (omega arith)
fresh_in at zero p (Fresh ∷ us) e lt other = absurd (other refl)
fresh_in at zero p (Counted n ∷ us) e lt other =
    let same : at ≡ p = omega arith in
    ap (λ q. q ∷ fresh_from (at + 1) us) same ∙ sym (low_in p (at + 1) us (omega arith))
fresh_in at (suc k) p (Fresh ∷ us) e lt other =
    ap (λ qs. at ∷ qs) (fresh_in (at + 1) k p us (omega arith) (omega arith) other)
    ∙ sym (ap (λ b. cond b (p ∷ at ∷ fresh_from (at + 1) us) (at ∷ put_before (λ q. nat_lt p q) p (fresh_from (at + 1) us))) (le-ltb p at (omega arith)))
fresh_in at (suc k) p (Counted n ∷ us) e lt other = fresh_in (at + 1) k p us (omega arith) (omega arith) other

-- places that become fresh, in rising order
pub fresh_taken : (us : List PlaceUse) (ps : List ℕ) → ((i : ℕ) → i < length ps → (get_or ps i 0 < length us) × (get_or us (get_or ps i 0) (Counted 0) ≡ Counted 0))
    → ((i j : ℕ) → i < j → j < length ps → get_or ps i 0 < get_or ps j 0) → fresh_from 0 (made_fresh us ps) ≡ fold (λ now p. put_before (λ q. nat_lt p q) p now) (fresh_from 0 us) ps
fresh_taken us [] free rise = refl
fresh_taken us (p ∷ ps) free rise =
    let here = free 0 (omega arith) in
    let within = here.0 in
    let is = here.1 in
    let other : get_or us p (Counted 0) ≢ Fresh = λ e. absurd (cc) in
    fresh_taken (set us p Fresh) ps (λ i lt.
    let q = get_or ps i 0 in
    let above : p < q = rise 0 (suc i) (omega arith) (omega arith) in
    let there = free (suc i) (omega arith) in
    let in_list = there.0 in
    (omega (arith, length-set us p Fresh), get_or-set_other us p q Fresh (Counted 0) (λ e. absurd (omega arith)) ∙ there.1))
    (λ i j lt h. rise (suc i) (suc j) (omega arith) (omega arith))
    ∙ ap (λ now. fold (λ now p. put_before (λ q. nat_lt p q) p now) now ps) (fresh_in 0 p p us (omega arith) within other)

pub fresh_lowest : (pool : PoolState) (n : ℕ) → fresh_from 0 (made_fresh pool.places (lowest_places pool n)) ≡ fold (λ now p. put_before (λ q. nat_lt p q) p now) (fresh_from 0 pool.places) (lowest_places pool n)
fresh_lowest pool n =
    let size = length-take n (free_places pool) in
    let at = λ (i : ℕ) (lt : i < length (lowest_places pool n)). get_or-take n (free_places pool) i 0 (let s = size in omega arith) in
    fresh_taken pool.places (lowest_places pool n) (λ i lt.
    let free = IsFree-free_places pool i (omega arith) in
    (subst (λ p. p < length pool.places) (sym (at i lt)) free.0, subst (λ p. use_of pool p ≡ Counted 0) (sym (at i lt)) free.1))
    (λ i j lt h. let a = at i (omega arith) in let b = at j h in let rise = free_places-rise pool i j lt (omega arith) in omega arith)

pub fresh_one : (pool : PoolState) (p : ℕ) → IsFree pool p → fresh_from 0 (made_fresh pool.places (p ∷ [])) ≡ put_before (λ q. nat_lt p q) p (fresh_from 0 pool.places)
fresh_one pool p free = let is = free.1 in fresh_in 0 p p pool.places (omega arith) free.0 (λ e. absurd (cc))

-- ---- the pool of a shelf
no_twice : (b : Bool) → b ≡ ((true && not (not b)) && true)
no_twice true = refl
no_twice false = refl

free_use : (u : PlaceUse) → is_free u ≡ true → u ≡ Counted 0
free_use (Counted n) h = ap Counted (eqb-true n 0 h)
free_use Fresh h = cc

module _ (geometry : Geometry) (entries : EntriesState) (volumes : List VolumeRow) (held : List HeldRow) (total rooms volume_memory held_memory : ℕ)
    (counted : IsCounted entries.store entries.pool) (kept : IsShelf geometry entries volumes held total rooms volume_memory held_memory) where
  pieces_count : (p : ℕ) → count_by (names_place p) (pieces_of (map (seen_volume entries.store) volumes) (map (seen_held entries.store) held)) ≡ named p (all_entries entries.store (map volume_map volumes ++ map held_map held))
  pieces_count p =
      let store = entries.store in
      let pieces = sum_by-append (λ (a : Piece Entry). cond (names_place p a) 1 0) (flat_map (λ (v : Volume Entry). indexed v.chunks) (map (seen_volume store) volumes)) (flat_map (λ (h : HeldList). h.pieces) (map (seen_held store) held)) in
      let split : named p (all_entries store (map volume_map volumes ++ map held_map held)) ≡ named p (all_entries store (map volume_map volumes)) + named p (all_entries store (map held_map held)) =
      ap (named p) (flat_map-append (list_of store) (map volume_map volumes) (map held_map held)) ∙ named-append p (all_entries store (map volume_map volumes)) (all_entries store (map held_map held)) in
      let vs = volumes_count store p volumes in
      let hs = held_count store p held (All-back (λ (m : MapState). IsMapOf store m) (map volume_map volumes) (map held_map held) kept.lists.lists.maps) kept.indexed in
      omega arith

  -- a place is named by an entry of the shelf exactly where the pool counts it
  pub named_seen : (p : ℕ) → is_named (shelf_pieces (seen_shelf geometry entries volumes held)) p ≡ not (count_of entries.pool p == 0)
  named_seen p =
      let all = all_entries entries.store (map volume_map volumes ++ map held_map held) in
      let same = counted.counted p in
      any-counted (names_place p) (shelf_pieces (seen_shelf geometry entries volumes held)) ∙ ap (λ n. not (n == 0)) (pieces_count p) ∙ ⊎_elim
      (λ some.
      let more = named_by_lists entries.store (map volume_map volumes ++ map held_map held) p counted.tidy kept.lists.lists some in
      ap not (ne_eqb (named p all) 0 (λ e. absurd (omega arith)) ∙ sym (ne_eqb (count_of entries.pool p) 0 (λ e. absurd (omega arith)))))
      (λ none.
      let zero_in : named_in entries.store p ≡ 0 = omega arith in
      let no_more = none_by_lists entries.store (map volume_map volumes ++ map held_map held) p zero_in in
      ap (λ n. not (n == 0)) (no_more ∙ sym (same ∙ zero_in)))
      (cases_lt 0 (named_in entries.store p))

  -- whether a place of the pool is free
  free_seen : (p : ℕ) → p < length entries.pool.places → is_free (use_of entries.pool p) ≡ is_shelf_free (seen_shelf geometry entries volumes held) p
  free_seen p lt =
      let s = seen_shelf geometry entries volumes held in
      let within : nat_lt p geometry.pool_chunks ≡ true = lt-ltb p geometry.pool_chunks (let size = kept.lists.places in omega arith) in
      go (use_of entries.pool p)
      ∙ sym (ap (λ b. (b && not (is_named (shelf_pieces s) p)) && list_all (λ q. not (q == p)) s.fresh) within
      ∙ ap (λ b. (true && not b) && list_all (λ q. not (q == p)) s.fresh) (named_seen p)
      ∙ ap (λ b. (true && not (not (count_of entries.pool p == 0))) && b) (fresh_tells 0 p p entries.pool.places (omega arith)))
    where
      go : (u : PlaceUse) → is_free u ≡ ((true && not (not (count_in u == 0))) && not_fresh u)
      go (Counted n) = no_twice (n == 0)
      go Fresh = refl

  pub free_places_seen : free_places entries.pool ≡ free_places_of (seen_shelf geometry entries volumes held)
  unfolding free_places_of
  free_places_seen =
      free_from-filter (is_shelf_free (seen_shelf geometry entries volumes held)) 0 entries.pool.places (λ k lt. let same : k ≡ 0 + k = omega arith in free_seen k lt ∙ ap (is_shelf_free (seen_shelf geometry entries volumes held)) same)
      ∙ ap (λ n. filter (is_shelf_free (seen_shelf geometry entries volumes held)) (numbers_from 0 n)) kept.lists.places

  pub used_seen : used_of entries.pool ≡ shelf_used (seen_shelf geometry entries volumes held)
  unfolding named_count
  used_seen =
      let s = seen_shelf geometry entries volumes held in
      used_split (is_named (shelf_pieces s)) 0 entries.pool.places (λ k lt. let same : 0 + k ≡ k = omega arith in ap (is_named (shelf_pieces s)) same ∙ named_seen k)
      ∙ ap (λ n. count_by (is_named (shelf_pieces s)) (numbers_from 0 n) + length s.fresh) kept.lists.places
      ∙ sym (used_are_named s kept.lists.shares)

  pub pool_of : IsPoolOf (seen_shelf geometry entries volumes held) entries.pool
  pool_of = record {
    size = kept.lists.places;
    reserved = refl;
    fresh = refl;
    free = free_places_seen;
    used = used_seen;
    named = named_seen;
  }

  pub free_number : free_of entries.pool ≡ shelf_free (seen_shelf geometry entries volumes held)
  free_number = ap (λ n. n - used_of entries.pool - entries.pool.reserved) kept.lists.places ∙ ap (λ n. geometry.pool_chunks - n - entries.pool.reserved) used_seen

  -- what was said of one place
  pub free_told : (b : Bool) (p : ℕ) → (IsTrue b ↔ IsFree entries.pool p) → b ≡ is_shelf_free (seen_shelf geometry entries volumes held) p
  free_told true p told = let f = told.0 refl in sym (ap is_free f.1) ∙ free_seen p f.0
  free_told false p told = no_free (is_shelf_free (seen_shelf geometry entries volumes held) p) refl
    where
      no_free : (b : Bool) → is_shelf_free (seen_shelf geometry entries volumes held) p ≡ b → false ≡ b
      no_free false is = refl
      no_free true is =
          let below = ltb-true p geometry.pool_chunks (and_left _ _ (and_left _ _ is)) in
          let lt : p < length entries.pool.places = let size = kept.lists.places in omega arith in
          let bad = told.1 (lt, free_use (use_of entries.pool p) (free_seen p lt ∙ is)) in
          bad
