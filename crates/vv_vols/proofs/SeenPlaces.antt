-- The fresh places as a shelf is seen to have them, and places that no entry of a shelf names.
use Rattle.std.proofs.Common.{ℕ, suc, ◌≡◌, ◌+◌, ◌==◌, ◌||◌, false, List, [], ◌∷◌, ◌++◌, map, length, get_or, Option, Some, None, option_map, refl, sym, ap, ◌∙◌, subst, ⊎_elim, arith}
use Rattle.std.specs.List.{Contains, flat_map, list_any}
use Rattle.std.proofs.lemmas.Bool.{cases_Bool, cond-true}
use Rattle.std.proofs.lemmas.List.Folds.{list_any-append}
use Rattle.std.proofs.lemmas.List.Concat.{flat_map-append}
use Rattle.vv_units.specs.declared.numbers.Place.{Place}
use Rattle.vv_map.specs.Pages.{StoreState, list_of}
use Rattle.vv_pool.specs.declared.place_use.PlaceUse.{PlaceUse}
use Rattle.vv_pool.specs.declared.place_use.PlaceUse.TheVariants.{Counted, Fresh}
use Rattle.vv_pool.specs.Pool.{PoolState, IsFresh, use_of}
use Rattle.vv_entries.specs.declared.entry.Entry.{Entry as PlacedEntry}
use Rattle.vv_entries.specs.Entries.{named, names, is_place}
use Rattle.vv_entries.specs.Owners.{all_entries}
use Rattle.vv_entries.specs.Changes.{KeepsFresh}
use Rattle.vv_entries.proofs.Named.{named-append, named-cons, name_bit}
use Rattle.vv_flat.specs.Lists.{mapped_from, if_found}
use Rattle.vv_flat.specs.State.{Volume, indexed}
use Rattle.vv_flat.specs.Chunks.{Entry}
use Rattle.vv_flat.specs.Sharing.{names_place}
use Rattle.vv_flat.specs.NamedPlaces.{is_named}
use Rattle.vv_vols.specs.Shelf.{HeldList, pieces_of}
use Rattle.vv_vols.specs.declared.row.VolumeRow.{VolumeRow}
use Rattle.vv_vols.specs.declared.row.HeldRow.{HeldRow}
use Rattle.vv_vols.specs.Rows.{fresh_from, seen_entry, seen_entries, seen_volume, seen_held, with_indexes, held_indexes, volume_map, held_map}
use Rattle.vv_vols.proofs.Members.{first_or_behind, none_in}

-- ---- fresh places
fresh_same : (at : ℕ) (us vs : List PlaceUse) → length us ≡ length vs → ((k : ℕ) → get_or us k (Counted 0) ≡ Fresh → get_or vs k (Counted 0) ≡ Fresh)
    → ((k : ℕ) → get_or vs k (Counted 0) ≡ Fresh → get_or us k (Counted 0) ≡ Fresh) → fresh_from at vs ≡ fresh_from at us
fresh_same at [] [] size there back = refl
fresh_same at [] (v ∷ vs) size there back = absurd (omega arith)
fresh_same at (u ∷ us) [] size there back = absurd (omega arith)
fresh_same at (Fresh ∷ us) (Fresh ∷ vs) size there back = ap (λ ks. at ∷ ks) (fresh_same (at + 1) us vs (omega arith) (λ k. there (suc k)) (λ k. back (suc k)))
fresh_same at (Counted n ∷ us) (Counted m ∷ vs) size there back = fresh_same (at + 1) us vs (omega arith) (λ k. there (suc k)) (λ k. back (suc k))
fresh_same at (Fresh ∷ us) (Counted m ∷ vs) size there back = absurd (let bad = there 0 refl in cc)
fresh_same at (Counted n ∷ us) (Fresh ∷ vs) size there back = absurd (let bad = back 0 refl in cc)

-- a pool that keeps its fresh places is seen to
pub fresh_kept : (old new : PoolState) → KeepsFresh old new → fresh_from 0 new.places ≡ fresh_from 0 old.places
fresh_kept old new keeps = fresh_same 0 old.places new.places (sym keeps.size) keeps.fresh keeps.only

-- a place that is seen to be fresh is fresh
fresh_at : (at : ℕ) (us : List PlaceUse) (p : ℕ) → Contains (fresh_from at us) p → (k : ℕ) × (p ≡ at + k) × (get_or us k (Counted 0) ≡ Fresh)
fresh_at at [] p h = absurd (none_in p h)
fresh_at at (Fresh ∷ us) p h = ⊎_elim
    (λ e. (0, omega arith, refl))
    (λ rest. let f = fresh_at (at + 1) us p rest in let e = f.1 in (suc f.0, omega arith, f.2))
    (first_or_behind at (fresh_from (at + 1) us) p h)
fresh_at at (Counted n ∷ us) p h = let f = fresh_at (at + 1) us p h in let e = f.1 in (suc f.0, omega arith, f.2)

pub is_fresh : (pool : PoolState) (p : ℕ) → Contains (fresh_from 0 pool.places) p → IsFresh pool p
is_fresh pool p h = let f = fresh_at 0 pool.places p h in let e : f.0 ≡ p = let s = f.1 in omega arith in subst (λ k. use_of pool k ≡ Fresh) e f.2

-- ---- places that no entry names
pub name_seen : (p : ℕ) (i : ℕ) (e : PlacedEntry) → names_place p (record { index = i; chunk = seen_entry e }) ≡ names p e
name_seen p i e = go e.place
  where
    go : (o : Option Place) → if_found (option_map (λ (q : Place). q.0) o) (λ q. q == p) false ≡ is_place p o
    go None = refl
    go (Some q) = refl

name_no : (p : ℕ) (e : PlacedEntry) → name_bit p e ≡ 0 → names p e ≡ false
name_no p e h = ⊎_elim (λ yes. let one : name_bit p e ≡ 1 = cond-true (names p e) 1 0 yes in absurd (omega arith)) (λ no_name. no_name) (cases_Bool (names p e))

unnamed_from : (p first : ℕ) (es : List PlacedEntry) → named p es ≡ 0 → list_any (names_place p) (mapped_from (λ i x. record { index = i; chunk = x }) first (seen_entries es)) ≡ false
unnamed_from p first [] none = refl
unnamed_from p first (e ∷ es) none =
    let both = named-cons p e es in
    let rest = unnamed_from p (first + 1) es (omega arith) in
    let bit : name_bit p e ≡ 0 = omega arith in
    ap (λ t. t || list_any (names_place p) (mapped_from (λ i x. record { index = i; chunk = x }) (first + 1) (seen_entries es))) (name_seen p first e ∙ name_no p e bit) ∙ rest

unnamed_with : (p : ℕ) (is : List ℕ) (es : List PlacedEntry) → named p es ≡ 0 → list_any (names_place p) (with_indexes is (seen_entries es)) ≡ false
unnamed_with p [] es none = refl
unnamed_with p (i ∷ is) [] none = refl
unnamed_with p (i ∷ is) (e ∷ es) none =
    let both = named-cons p e es in
    let rest = unnamed_with p is es (omega arith) in
    let bit : name_bit p e ≡ 0 = omega arith in
    ap (λ t. t || list_any (names_place p) (with_indexes is (seen_entries es))) (name_seen p i e ∙ name_no p e bit) ∙ rest

volumes_unnamed : (store : StoreState PlacedEntry) (p : ℕ) (rows : List VolumeRow) → named p (all_entries store (map volume_map rows)) ≡ 0
    → list_any (names_place p) (flat_map (λ (v : Volume Entry). indexed v.chunks) (map (seen_volume store) rows)) ≡ false
volumes_unnamed store p [] none = refl
volumes_unnamed store p (r ∷ rows) none =
    let both = named-append p (list_of store r.map) (all_entries store (map volume_map rows)) in
    let first = unnamed_from p 0 (list_of store r.map) (omega arith) in
    let rest = volumes_unnamed store p rows (omega arith) in
    list_any-append (names_place p) (indexed (seen_entries (list_of store r.map))) (flat_map (λ (v : Volume Entry). indexed v.chunks) (map (seen_volume store) rows))
    ∙ ap (λ t. t || list_any (names_place p) (flat_map (λ (v : Volume Entry). indexed v.chunks) (map (seen_volume store) rows))) first ∙ rest

held_unnamed : (store : StoreState PlacedEntry) (p : ℕ) (rows : List HeldRow) → named p (all_entries store (map held_map rows)) ≡ 0
    → list_any (names_place p) (flat_map (λ (h : HeldList). h.pieces) (map (seen_held store) rows)) ≡ false
held_unnamed store p [] none = refl
held_unnamed store p (r ∷ rows) none =
    let both = named-append p (list_of store r.map) (all_entries store (map held_map rows)) in
    let first = unnamed_with p (held_indexes r.indexes r.map.len) (list_of store r.map) (omega arith) in
    let rest = held_unnamed store p rows (omega arith) in
    list_any-append (names_place p) (with_indexes (held_indexes r.indexes r.map.len) (seen_entries (list_of store r.map))) (flat_map (λ (h : HeldList). h.pieces) (map (seen_held store) rows))
    ∙ ap (λ t. t || list_any (names_place p) (flat_map (λ (h : HeldList). h.pieces) (map (seen_held store) rows))) first ∙ rest

-- a place that no entry of a list names, none of the shelf's pieces names
pub pieces_unnamed : (store : StoreState PlacedEntry) (p : ℕ) (volumes : List VolumeRow) (held : List HeldRow) → named p (all_entries store (map volume_map volumes ++ map held_map held)) ≡ 0
    → is_named (pieces_of (map (seen_volume store) volumes) (map (seen_held store) held)) p ≡ false
pieces_unnamed store p volumes held none =
    let split : named p (all_entries store (map volume_map volumes ++ map held_map held)) ≡ named p (all_entries store (map volume_map volumes)) + named p (all_entries store (map held_map held)) =
    ap (named p) (flat_map-append (list_of store) (map volume_map volumes) (map held_map held)) ∙ named-append p (all_entries store (map volume_map volumes)) (all_entries store (map held_map held)) in
    list_any-append (names_place p) (flat_map (λ (v : Volume Entry). indexed v.chunks) (map (seen_volume store) volumes)) (flat_map (λ (h : HeldList). h.pieces) (map (seen_held store) held))
    ∙ ap (λ t. t || list_any (names_place p) (flat_map (λ (h : HeldList). h.pieces) (map (seen_held store) held))) (volumes_unnamed store p volumes (omega arith))
    ∙ held_unnamed store p held (omega arith)
