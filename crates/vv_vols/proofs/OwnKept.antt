-- Pages that are a list's own, and what a call on one list leaves of them.
use Rattle.std.proofs.Common.{ℕ, zero, suc, ◌≡◌, ◌≢◌, ◌-◌, ◌*◌, ◌<◌, ◌≤◌, ◌==◌, min, Bool, true, false, cond, List, [], ◌∷◌, map, length, get_or, set, Some, find, refl, sym, ap, ◌∙◌, subst, ⊎_elim, arith, length-append}
use Rattle.std.specs.Prelude.{slice_index}
use Rattle.std.specs.List.{All, flat_map}
use Rattle.std.proofs.lemmas.Bool.{cases_eq, eqb-true, eq-eqb}
use Rattle.std.proofs.lemmas.List.Elements.{All-nil, All-cons, All-head, All-tail}
use Rattle.vv_map.specs.Rooms.{MapState}
use Rattle.vv_map.specs.Pages.{StoreState, list_of, page_at, count_at, IsMapOf}
use Rattle.vv_entries.specs.declared.entry.Entry.{Entry as PlacedEntry}
use Rattle.vv_entries.specs.Changes.{Exchanges, TakesUnused}
use Rattle.vv_flat.specs.Lists.{if_found}
use Rattle.vv_vols.specs.declared.row.VolumeRow.{VolumeRow}
use Rattle.vv_vols.specs.declared.row.HeldRow.{HeldRow}
use Rattle.vv_vols.specs.Rows.{is_row, volume_map, held_map, own_pages, seen_pages, own_in, OwnPages, IsFilled}

-- ---- how long a list is
flat_len : {E : Type 0} (f : ℕ → List E) (ns : List ℕ) (n : ℕ) → ((i : ℕ) → i < length ns → length (f (slice_index ns i)) ≡ min 64 (n - 64 * i)) → n ≤ 64 * length ns → length (flat_map f ns) ≡ n
flat_len f [] n sizes few = omega arith
flat_len f (m ∷ ns) n sizes few =
    let first : length (f m) ≡ min 64 (n - 64 * 0) = sizes 0 (omega arith) in
    let rest = flat_len f ns (n - 64) (λ i lt. let s : length (f (slice_index ns i)) ≡ min 64 (n - 64 * suc i) = sizes (suc i) (omega arith) in omega arith) (omega arith) in
    let both = length-append (f m) (flat_map f ns) in
    omega arith

pub list_len : {E : Type 0} (store : StoreState E) (m : MapState) → IsMapOf store m → length (list_of store m) ≡ m.len
list_len store m of = flat_len (page_at store) m.numbers m.len of.sizes (let s = of.size in omega arith)

-- ---- own pages of one list
pub own_is : (store : StoreState PlacedEntry) (ns : List ℕ) (k : ℕ) → get_or (map (λ n. count_at store n == 1) ns) k false ≡ true → (k < length ns) × (count_at store (slice_index ns k) ≡ 1)
own_is store [] k h = absurd (cc)
own_is store (n ∷ ns) zero h = (omega arith, eqb-true (count_at store n) 1 h)
own_is store (n ∷ ns) (suc k) h = let r = own_is store ns k h in let lt = r.0 in (omega arith, r.1)

pub own_from : (store : StoreState PlacedEntry) (ns : List ℕ) (k : ℕ) → k < length ns → count_at store (slice_index ns k) ≡ 1 → get_or (map (λ n. count_at store n == 1) ns) k false ≡ true
own_from store [] k lt one = absurd (omega arith)
own_from store (n ∷ ns) zero lt one = eq-eqb (count_at store n) 1 one
own_from store (n ∷ ns) (suc k) lt one = own_from store ns k (omega arith) one

-- a page that isn't a list's own is named by two at least
pub shared_is : (store : StoreState PlacedEntry) (m : MapState) (k : ℕ) → IsMapOf store m → k < length m.numbers → 2 ≤ count_at store (slice_index m.numbers k) → get_or (own_pages store m) k false ≡ false
shared_is store m k of lt two = go (get_or (own_pages store m) k false) refl
  where
    go : (b : Bool) → get_or (own_pages store m) k false ≡ b → b ≡ false
    go true e = let o = own_is store m.numbers k e in let one = o.1 in absurd (omega arith)
    go false e = refl

module _ (old new : StoreState PlacedEntry) (before after : List ℕ) (ex : Exchanges old new before after) (taken : TakesUnused old before after) where
  pub one_stays : (n : ℕ) → count_at old n ≡ 1 → 1 ≤ count_at new n → count_at new n ≡ 1
  one_stays n one some = let t = taken n (omega arith) in let e = ex.counts n in omega arith

  pub own_stays : (m : MapState) → IsMapOf new m → (k : ℕ) → get_or (own_pages old m) k false ≡ true → get_or (own_pages new m) k false ≡ true
  own_stays m of k own = let o = own_is old m.numbers k own in own_from new m.numbers k o.0 (one_stays (slice_index m.numbers k) o.1 (of.counted k o.0))

  -- a list with one page exchanged for one of its own
  pub own_changed : (m m' : MapState) (j : ℕ) → IsMapOf new m' → length m'.numbers ≡ length m.numbers
      → ((k : ℕ) → k ≢ j → slice_index m'.numbers k ≡ slice_index m.numbers k) → count_at new (slice_index m'.numbers j) ≡ 1
      → (k : ℕ) → get_or (own_pages old m) k false ≡ true → get_or (own_pages new m') k false ≡ true
  own_changed m m' j of size same alone k own =
      let o = own_is old m.numbers k own in
      let lt : k < length m'.numbers = let l = o.0 in omega arith in
      ⊎_elim
      (λ e. own_from new m'.numbers k lt (ap (λ i. count_at new (slice_index m'.numbers i)) e ∙ alone))
      (λ ne. own_from new m'.numbers k lt (one_stays (slice_index m'.numbers k) (ap (count_at old) (same k ne) ∙ o.1) (of.counted k lt)))
      (cases_eq k j)

  -- ---- and of all rows
  pub own_rows : (rows : List VolumeRow) → All (λ (m : MapState). IsMapOf new m) (map volume_map rows)
      → (n k : ℕ) → own_in (map (seen_pages old) rows) n k ≡ true → own_in (map (seen_pages new) rows) n k ≡ true
  own_rows [] maps n k h = h
  own_rows (r ∷ rows) maps n k h = go (is_row n r) (own_rows rows (All-tail (λ (m : MapState). IsMapOf new m) (volume_map r) (map volume_map rows) maps) n k) h
    where
      go : (b : Bool) → (own_in (map (seen_pages old) rows) n k ≡ true → own_in (map (seen_pages new) rows) n k ≡ true)
          → if_found (cond b (Some (seen_pages old r)) (find (λ (p : OwnPages). p.number == n) (map (seen_pages old) rows))) (λ p. get_or p.own k false) false ≡ true
          → if_found (cond b (Some (seen_pages new r)) (find (λ (p : OwnPages). p.number == n) (map (seen_pages new) rows))) (λ p. get_or p.own k false) false ≡ true
      go true later h = own_stays r.map (All-head (λ (m : MapState). IsMapOf new m) (volume_map r) (map volume_map rows) maps) k h
      go false later h = later h

  pub own_set : (rows : List VolumeRow) (i : ℕ) (row' : VolumeRow) → All (λ (m : MapState). IsMapOf new m) (map volume_map (set rows i row'))
      → row'.id.0 ≡ (get_or rows i row').id.0
      → ((k : ℕ) → get_or (own_pages old (get_or rows i row').map) k false ≡ true → get_or (own_pages new row'.map) k false ≡ true)
      → (n k : ℕ) → own_in (map (seen_pages old) rows) n k ≡ true → own_in (map (seen_pages new) (set rows i row')) n k ≡ true
  own_set [] i row' maps number own n k h = h
  own_set (r ∷ rows) zero row' maps number own n k h =
      subst (λ m. if_found (cond (m == n) (Some (seen_pages new row')) (find (λ (p : OwnPages). p.number == n) (map (seen_pages new) rows))) (λ p. get_or p.own k false) false ≡ true) (sym number)
      (go (is_row n r) (own_rows rows (All-tail (λ (m : MapState). IsMapOf new m) (volume_map row') (map volume_map rows) maps) n k) h)
    where
      go : (b : Bool) → (own_in (map (seen_pages old) rows) n k ≡ true → own_in (map (seen_pages new) rows) n k ≡ true)
          → if_found (cond b (Some (seen_pages old r)) (find (λ (p : OwnPages). p.number == n) (map (seen_pages old) rows))) (λ p. get_or p.own k false) false ≡ true
          → if_found (cond b (Some (seen_pages new row')) (find (λ (p : OwnPages). p.number == n) (map (seen_pages new) rows))) (λ p. get_or p.own k false) false ≡ true
      go true later h = own k h
      go false later h = later h
  own_set (r ∷ rows) (suc i) row' maps number own n k h =
      go (is_row n r) (own_set rows i row' (All-tail (λ (m : MapState). IsMapOf new m) (volume_map r) (map volume_map (set rows i row')) maps) number own n k) h
    where
      go : (b : Bool) → (own_in (map (seen_pages old) rows) n k ≡ true → own_in (map (seen_pages new) (set rows i row')) n k ≡ true)
          → if_found (cond b (Some (seen_pages old r)) (find (λ (p : OwnPages). p.number == n) (map (seen_pages old) rows))) (λ p. get_or p.own k false) false ≡ true
          → if_found (cond b (Some (seen_pages new r)) (find (λ (p : OwnPages). p.number == n) (map (seen_pages new) (set rows i row')))) (λ p. get_or p.own k false) false ≡ true
      go true later h = own_stays r.map (All-head (λ (m : MapState). IsMapOf new m) (volume_map r) (map volume_map (set rows i row')) maps) k h
      go false later h = later h

  -- ---- lists that tasks fill
  pub filled_stays : (held : List HeldRow) → All (λ (m : MapState). IsMapOf new m) (map held_map held) → All (IsFilled old) held → All (IsFilled new) held
  filled_stays [] maps filled = All-nil (IsFilled new)
  filled_stays (h ∷ held) maps filled = All-cons (IsFilled new) h held
      (λ image k lt.
      let of = All-head (λ (m : MapState). IsMapOf new m) (held_map h) (map held_map held) maps in
      one_stays (slice_index h.map.numbers k) (All-head (IsFilled old) h held filled image k lt) (of.counted k lt))
      (filled_stays held (All-tail (λ (m : MapState). IsMapOf new m) (held_map h) (map held_map held) maps) (All-tail (IsFilled old) h held filled))

-- ---- the pages of the volume that a call is about
pub own_found : (store : StoreState PlacedEntry) (rows : List VolumeRow) (n k : ℕ) (row : VolumeRow) → find (is_row n) rows ≡ Some row → own_in (map (seen_pages store) rows) n k ≡ get_or (own_pages store row.map) k false
own_found store [] n k row e = absurd (cc)
own_found store (r ∷ rows) n k row e = go (is_row n r) (own_found store rows n k row) e
  where
    go : (b : Bool) → (find (is_row n) rows ≡ Some row → own_in (map (seen_pages store) rows) n k ≡ get_or (own_pages store row.map) k false)
        → cond b (Some r) (find (is_row n) rows) ≡ Some row
        → if_found (cond b (Some (seen_pages store r)) (find (λ (p : OwnPages). p.number == n) (map (seen_pages store) rows))) (λ p. get_or p.own k false) false ≡ get_or (own_pages store row.map) k false
    go true later e = ap (λ o. if_found o (λ (r : VolumeRow). get_or (own_pages store r.map) k false) false) e
    go false later e = later e
