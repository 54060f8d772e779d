-- How many entries name each place after a record that fits: as many more as those that are put in, and as many fewer as those
-- that are gone.
use Rattle.std.proofs.Common.{◌≡◌, ◌<◌, ℕ, zero, suc, ◌+◌, ◌-◌, ◌==◌, ◌&&◌, ◌||◌, not, refl, ap, sym, ◌∙◌, Bool, true, false, cond, List, [], ◌∷◌, ◌++◌, map, length, replicate, set, get_or, arith, length-set}
use Rattle.std.proofs.lemmas.List.{length-map}
use Rattle.std.specs.Prelude.{Option, Some, None, is_none, nat_lt, sum_by}
use Rattle.std.specs.List.{filter, flat_map, list_all, list_any}
use Rattle.std.proofs.lemmas.List.Sums.{sum_by-cons, sum_by-append}
use Rattle.std.proofs.lemmas.Bool.{ltb-true, eqb-true, eq-eqb, ne_eqb}
use Rattle.vv_units.specs.Pairs.{after_set}
use Rattle.vv_units.specs.declared.volume.VolumeKind.TheVariants.{Plain, SnapshotOf, FastCloneOf}
use Rattle.vv_units.specs.declared.field.Field.TheVariants.{Vvol as in_vvol, Snapshot as in_snapshot}
use Rattle.vv_flat.specs.Lists.{if_found, put_at, mapped_from, all_rising}
use Rattle.vv_flat.specs.State.{Durable, Volume, RunningClone, RunningCopy, Piece, Task, Job, Clone, Copy, volume_of, task_of, clone_of, copy_of, indexed, all_pieces, map_clone}
use Rattle.vv_flat.specs.Chunks.{Entry, unmapped_entry, shape_of_tables, placed_entries, touched_indexes, is_in_ranges, unmapped_in}
use Rattle.vv_flat.specs.Space.{is_running, job_target}
use Rattle.vv_flat.specs.Sharing.{names_place, place_count}
use Rattle.vv_flat.specs.Tasks.{is_last, next_piece, turn_indexes, turned_indexes, job_indexes, cloned_volume, clone_goes_on, clone_ends, clone_turned, pieces_put, copy_goes_on, copy_ends, copy_turned, job_turned, turned, cancelled, clone_of_volume, clone_started, with_clone, difference, copy_started, with_copy}
use Rattle.vv_flat.specs.Rules.{is_clone_kept}
use Rattle.vv_flat.specs.Refusals.{Accept, NotFound}
use Rattle.vv_flat.specs.Changes.{Change, MakeContainer, MakeVolume, DeleteVolume, GrowVolume, SetMetadata, Snapshot, FastClone, Revert, Write, Unmap, SetEndpoints, Bind, Unbind, UnbindAll, StartClone, StartCopy, Turn, Cancel, judge, state_checks, effect, apply, changed_indexes, new_stamp, with_volume, and_volume}
use Rattle.vv_flat.specs.Replay.{fits, replayed}
use Rattle.vv_flat.specs.WellFormed.{is_well_formed}
use Rattle.vv_flat.proofs.Sums.{sum-put, sum-removed_found, sum-changed_found}
use Rattle.vv_flat.proofs.NothingChanges.{stamps_found}
use Rattle.vv_flat.proofs.Shares.{and_left, and_right}
use Rattle.vv_flat.proofs.Verdicts.{passed_state, not_refused}
use Rattle.vv_flat.proofs.Steps.{find-passes}
use Rattle.vv_flat.proofs.Kept.{Kept, kept}
use Rattle.vv_flat.proofs.KeepRules.{fits_accepted}
use Rattle.vv_flat.proofs.NewEntries.{above_rises, touched_rise}
use Rattle.vv_laws.proofs.WellFormed.{shape_rules}
use Rattle.vv_laws.proofs.NewStamps.{Clones, clones_of}
use Rattle.vv_laws.proofs.KeptNumbers.{some_of, removed_sum}
use Rattle.vv_laws.proofs.AllocatedVolumes.{kept_long, write_within}
use Rattle.vv_laws.proofs.ListedPieces.{from, none_below}
use Rattle.vv_laws.proofs.UsedCounts.{turn_rises, turn_within, stands_too, Aims, copy_aims}
use Rattle.vv_laws.specs.GoneEntries.{listed, those_at, gone_of_clone, gone_of_copy, gone_of_job, entries_gone, numbered, entries_put}

pub numbered_again : (ps : List (Piece Entry)) → numbered (map (λ (p : Piece Entry). p.index) ps) (map (λ (p : Piece Entry). p.chunk) ps) ≡ ps
numbered_again [] = refl
numbered_again (p ∷ ps) = ap (λ qs. p ∷ qs) (numbered_again ps)

module _ (w : Piece Entry → ℕ) where
  abbrev weigh : List (Piece Entry) → ℕ
  weigh ps = sum_by w ps

  flat_sum : {A : Type 0} (h : A → List (Piece Entry)) (k : A → ℕ) → ((x : A) → sum_by w (h x) ≡ k x) → (xs : List A) → sum_by w (flat_map h xs) ≡ sum_by k xs
  flat_sum h k same [] = refl
  flat_sum h k same (x ∷ xs) =
      let a : sum_by w (h x ++ flat_map h xs) ≡ sum_by w (h x) + sum_by w (flat_map h xs) = sum_by-append w (h x) (flat_map h xs) in
      let c : sum_by k (x ∷ xs) ≡ k x + sum_by k xs = sum_by-cons k x xs in
      let s : sum_by w (h x) ≡ k x = same x in
      let rest : sum_by w (flat_map h xs) ≡ sum_by k xs = flat_sum h k same xs in
      omega (arith, a, c, s, rest)

  -- the weight of the entries that a mark picks
  masked : (m : Piece Entry → Bool) (ps : List (Piece Entry)) → sum_by w (filter m ps) ≡ sum_by (λ p. cond (m p) (w p) 0) ps
  masked m [] = refl
  masked m (p ∷ ps) =
      let rest : sum_by w (filter m ps) ≡ sum_by (λ p. cond (m p) (w p) 0) ps = masked m ps in
      let c : sum_by (λ p. cond (m p) (w p) 0) (p ∷ ps) ≡ cond (m p) (w p) 0 + sum_by (λ p. cond (m p) (w p) 0) ps = sum_by-cons (λ p. cond (m p) (w p) 0) p ps in
      step (m p) rest ∙ sym c
    where
      step : (b : Bool) → sum_by w (filter m ps) ≡ sum_by (λ p. cond (m p) (w p) 0) ps
          → sum_by w (cond b (p ∷ filter m ps) (filter m ps)) ≡ cond b (w p) 0 + sum_by (λ p. cond (m p) (w p) 0) ps
      step true e = let a : sum_by w (p ∷ filter m ps) ≡ w p + sum_by w (filter m ps) = sum_by-cons w p (filter m ps) in omega (arith, a, e)
      step false e = omega (arith, e)

-- one entry put in the place of another
set_sum : (u : Piece Entry → ℕ) (j i k : ℕ) (v : Entry) (xs : List Entry) → j + i ≡ k → i < length xs
    → sum_by u (from j (set xs i v)) + u (record { index = k; chunk = get_or xs i unmapped_entry }) ≡ sum_by u (from j xs) + u (record { index = k; chunk = v })
set_sum u j i k v [] e lt = absurd (omega arith)
set_sum u j zero k v (x ∷ xs) e lt =
    let same : k ≡ j = omega arith in
    let a : sum_by u (from j (v ∷ xs)) ≡ u (record { index = j; chunk = v }) + sum_by u (from (j + 1) xs) = sum_by-cons u (record { index = j; chunk = v }) (from (j + 1) xs) in
    let b : sum_by u (from j (x ∷ xs)) ≡ u (record { index = j; chunk = x }) + sum_by u (from (j + 1) xs) = sum_by-cons u (record { index = j; chunk = x }) (from (j + 1) xs) in
    let c : u (record { index = k; chunk = v }) ≡ u (record { index = j; chunk = v }) = ap (λ n. u (record { index = n; chunk = v })) same in
    let f : u (record { index = k; chunk = x }) ≡ u (record { index = j; chunk = x }) = ap (λ n. u (record { index = n; chunk = x })) same in
    omega (arith, a, b, c, f)
set_sum u j (suc i) k v (x ∷ xs) e lt =
    let rest : sum_by u (from (j + 1) (set xs i v)) + u (record { index = k; chunk = get_or xs i unmapped_entry }) ≡ sum_by u (from (j + 1) xs) + u (record { index = k; chunk = v }) =
    set_sum u (j + 1) i k v xs (omega arith) (omega arith) in
    let a : sum_by u (from j (x ∷ set xs i v)) ≡ u (record { index = j; chunk = x }) + sum_by u (from (j + 1) (set xs i v)) =
    sum_by-cons u (record { index = j; chunk = x }) (from (j + 1) (set xs i v)) in
    let b : sum_by u (from j (x ∷ xs)) ≡ u (record { index = j; chunk = x }) + sum_by u (from (j + 1) xs) = sum_by-cons u (record { index = j; chunk = x }) (from (j + 1) xs) in
    omega (arith, rest, a, b)

-- the one entry at an index: past it there is none
none_at : (u : Piece Entry → ℕ) (k j : ℕ) (xs : List Entry) → k < j → sum_by (λ (p : Piece Entry). cond (k == p.index) (u p) 0) (from j xs) ≡ 0
none_at u k j [] lt = refl
none_at u k j (x ∷ xs) lt =
    let apart : cond (k == j) (u (record { index = j; chunk = x })) 0 ≡ 0 = ap (λ b. cond b (u (record { index = j; chunk = x })) 0) (ne_eqb k j (λ f. omega arith)) in
    let rest : sum_by (λ (p : Piece Entry). cond (k == p.index) (u p) 0) (from (j + 1) xs) ≡ 0 = none_at u k (j + 1) xs (omega arith) in
    let c : sum_by (λ (p : Piece Entry). cond (k == p.index) (u p) 0) (from j (x ∷ xs))
    ≡ cond (k == j) (u (record { index = j; chunk = x })) 0 + sum_by (λ (p : Piece Entry). cond (k == p.index) (u p) 0) (from (j + 1) xs) =
    sum_by-cons (λ (p : Piece Entry). cond (k == p.index) (u p) 0) (record { index = j; chunk = x }) (from (j + 1) xs) in
    omega (arith, apart, rest, c)

one_at : (u : Piece Entry → ℕ) (j i k : ℕ) (xs : List Entry) → j + i ≡ k → i < length xs
    → sum_by (λ (p : Piece Entry). cond (k == p.index) (u p) 0) (from j xs) ≡ u (record { index = k; chunk = get_or xs i unmapped_entry })
one_at u j i k [] e lt = absurd (omega arith)
one_at u j zero k (x ∷ xs) e lt =
    let same : k ≡ j = omega arith in
    let here : cond (k == j) (u (record { index = j; chunk = x })) 0 ≡ u (record { index = j; chunk = x }) =
    ap (λ b. cond b (u (record { index = j; chunk = x })) 0) (eq-eqb k j same) in
    let there : u (record { index = k; chunk = x }) ≡ u (record { index = j; chunk = x }) = ap (λ n. u (record { index = n; chunk = x })) same in
    let rest : sum_by (λ (p : Piece Entry). cond (k == p.index) (u p) 0) (from (j + 1) xs) ≡ 0 = none_at u k (j + 1) xs (omega arith) in
    let c : sum_by (λ (p : Piece Entry). cond (k == p.index) (u p) 0) (from j (x ∷ xs))
    ≡ cond (k == j) (u (record { index = j; chunk = x })) 0 + sum_by (λ (p : Piece Entry). cond (k == p.index) (u p) 0) (from (j + 1) xs) =
    sum_by-cons (λ (p : Piece Entry). cond (k == p.index) (u p) 0) (record { index = j; chunk = x }) (from (j + 1) xs) in
    omega (arith, here, there, rest, c)
one_at u j (suc i) k (x ∷ xs) e lt =
    let apart : cond (k == j) (u (record { index = j; chunk = x })) 0 ≡ 0 = ap (λ b. cond b (u (record { index = j; chunk = x })) 0) (ne_eqb k j (λ f. omega arith)) in
    let rest : sum_by (λ (p : Piece Entry). cond (k == p.index) (u p) 0) (from (j + 1) xs) ≡ u (record { index = k; chunk = get_or xs i unmapped_entry }) =
    one_at u (j + 1) i k xs (omega arith) (omega arith) in
    let c : sum_by (λ (p : Piece Entry). cond (k == p.index) (u p) 0) (from j (x ∷ xs))
    ≡ cond (k == j) (u (record { index = j; chunk = x })) 0 + sum_by (λ (p : Piece Entry). cond (k == p.index) (u p) 0) (from (j + 1) xs) =
    sum_by-cons (λ (p : Piece Entry). cond (k == p.index) (u p) 0) (record { index = j; chunk = x }) (from (j + 1) xs) in
    omega (arith, apart, rest, c)

two_masks : (a b : Bool) (n : ℕ) → (a ≡ true → b ≡ false) → cond (a || b) n 0 ≡ cond a n 0 + cond b n 0
two_masks true true n h = let z : true ≡ false = h refl in cc
two_masks true false n h = omega arith
two_masks false b n h = omega arith

module _ (w : Piece Entry → ℕ) where
  abbrev marked : List ℕ → Piece Entry → ℕ
  marked is p = cond (list_any (λ i. i == p.index) is) (w p) 0

  split_marks : (i : ℕ) (is : List ℕ) → list_any (λ k. k == i) is ≡ false → (ps : List (Piece Entry))
      → sum_by (marked (i ∷ is)) ps ≡ sum_by (λ (p : Piece Entry). cond (i == p.index) (w p) 0) ps + sum_by (marked is) ps
  split_marks i is none [] = refl
  split_marks i is none (p ∷ ps) =
      let here : cond ((i == p.index) || list_any (λ i. i == p.index) is) (w p) 0 ≡ cond (i == p.index) (w p) 0 + marked is p =
      two_masks (i == p.index) (list_any (λ i. i == p.index) is) (w p)
      (λ e. let same : i ≡ p.index = eqb-true i p.index e in ap (λ n. list_any (λ k. k == n) is) (sym same) ∙ none) in
      let rest = split_marks i is none ps in
      let a : sum_by (marked (i ∷ is)) (p ∷ ps) ≡ marked (i ∷ is) p + sum_by (marked (i ∷ is)) ps = sum_by-cons (marked (i ∷ is)) p ps in
      let b : sum_by (λ (p : Piece Entry). cond (i == p.index) (w p) 0) (p ∷ ps) ≡ cond (i == p.index) (w p) 0 + sum_by (λ (p : Piece Entry). cond (i == p.index) (w p) 0) ps =
      sum_by-cons (λ (p : Piece Entry). cond (i == p.index) (w p) 0) p ps in
      let c : sum_by (marked is) (p ∷ ps) ≡ marked is p + sum_by (marked is) ps = sum_by-cons (marked is) p ps in
      omega (arith, here, rest, a, b, c)

  put_marked : (is : List ℕ) (vs xs : List Entry) → all_rising is ≡ true → list_all (λ i. nat_lt i (length xs)) is ≡ true → length is ≡ length vs
      → sum_by w (from 0 (put_at is vs xs)) + sum_by (marked is) (from 0 xs) ≡ sum_by w (from 0 xs) + sum_by w (numbered is vs)
  put_marked [] vs xs rise inside many = ap (λ n. sum_by w (from 0 xs) + n) (none (from 0 xs))
    where
      none : (ps : List (Piece Entry)) → sum_by (λ (p : Piece Entry). 0) ps ≡ 0
      none [] = refl
      none (p ∷ ps) =
          let c : sum_by (λ (p : Piece Entry). 0) (p ∷ ps) ≡ 0 + sum_by (λ (p : Piece Entry). 0) ps = sum_by-cons (λ (p : Piece Entry). 0) p ps in
          let h : sum_by (λ (p : Piece Entry). 0) ps ≡ 0 = none ps in omega (arith, c, h)
  put_marked (i ∷ is) [] xs rise inside many = absurd (omega arith)
  put_marked (i ∷ is) (v ∷ vs) xs rise inside many =
      let ys : List Entry = set xs i v in
      let lt : i < length xs = ltb-true i (length xs) (and_left (nat_lt i (length xs)) _ inside) in
      let apart : list_any (λ k. k == i) is ≡ false = none_below i is rise in
      let rest : sum_by w (from 0 (put_at is vs ys)) + sum_by (marked is) (from 0 ys) ≡ sum_by w (from 0 ys) + sum_by w (numbered is vs) =
      put_marked is vs ys (above_rises i is rise)
      (ap (λ n. list_all (λ k. nat_lt k n) is) (length-set xs i v) ∙ and_right (nat_lt i (length xs)) _ inside) (omega arith) in
      let s : sum_by w (from 0 ys) + w (record { index = i; chunk = get_or xs i unmapped_entry }) ≡ sum_by w (from 0 xs) + w (record { index = i; chunk = v }) =
      set_sum w 0 i i v xs (omega arith) lt in
      let m : sum_by (marked is) (from 0 ys) + marked is (record { index = i; chunk = get_or xs i unmapped_entry })
      ≡ sum_by (marked is) (from 0 xs) + marked is (record { index = i; chunk = v }) =
      set_sum (marked is) 0 i i v xs (omega arith) lt in
      let old : marked is (record { index = i; chunk = get_or xs i unmapped_entry }) ≡ 0 = ap (λ b. cond b (w (record { index = i; chunk = get_or xs i unmapped_entry })) 0) apart in
      let new : marked is (record { index = i; chunk = v }) ≡ 0 = ap (λ b. cond b (w (record { index = i; chunk = v })) 0) apart in
      let split = split_marks i is apart (from 0 xs) in
      let one : sum_by (λ (p : Piece Entry). cond (i == p.index) (w p) 0) (from 0 xs) ≡ w (record { index = i; chunk = get_or xs i unmapped_entry }) =
      one_at w 0 i i xs (omega arith) lt in
      let c : sum_by w (numbered (i ∷ is) (v ∷ vs)) ≡ w (record { index = i; chunk = v }) + sum_by w (numbered is vs) =
      sum_by-cons w (record { index = i; chunk = v }) (numbered is vs) in
      omega (arith, rest, s, m, old, new, split, one, c)

  put_sum : (is : List ℕ) (vs xs : List Entry) → all_rising is ≡ true → list_all (λ i. nat_lt i (length xs)) is ≡ true → length is ≡ length vs
      → sum_by w (from 0 (put_at is vs xs)) + sum_by w (those_at is (from 0 xs)) ≡ sum_by w (from 0 xs) + sum_by w (numbered is vs)
  put_sum is vs xs rise inside many =
      let p = put_marked is vs xs rise inside many in
      let m : sum_by w (those_at is (from 0 xs)) ≡ sum_by (marked is) (from 0 xs) = masked w (λ (p : Piece Entry). list_any (λ i. i == p.index) is) (from 0 xs) in
      omega (arith, p, m)

-- What all entries of a durable part weigh, where unmapped ones weigh nothing.
module _ (w : Piece Entry → ℕ) (free : (i : ℕ) → w (record { index = i; chunk = unmapped_entry }) ≡ 0) where
  abbrev volume_weight : Volume Entry → ℕ
  volume_weight v = sum_by w (indexed v.chunks)

  abbrev clone_weight : RunningClone Entry → ℕ
  clone_weight c = sum_by w (indexed c.image) + sum_by w (indexed c.target)

  abbrev copy_weight : RunningCopy Entry → ℕ
  copy_weight c = sum_by w c.pieces

  abbrev weight : Durable Entry → ℕ
  weight d = sum_by volume_weight d.volumes + sum_by clone_weight d.clones + sum_by copy_weight d.copies

  weight_is : (d : Durable Entry) → sum_by w (all_pieces d) ≡ weight d
  weight_is d =
      let vs : List (Piece Entry) = flat_map (λ (v : Volume Entry). indexed v.chunks) d.volumes in
      let cs : List (Piece Entry) = flat_map (λ (c : RunningClone Entry). indexed c.image ++ indexed c.target) d.clones in
      let ps : List (Piece Entry) = flat_map (λ (c : RunningCopy Entry). c.pieces) d.copies in
      let a : sum_by w ((vs ++ cs) ++ ps) ≡ sum_by w (vs ++ cs) + sum_by w ps = sum_by-append w (vs ++ cs) ps in
      let b : sum_by w (vs ++ cs) ≡ sum_by w vs + sum_by w cs = sum_by-append w vs cs in
      let v : sum_by w vs ≡ sum_by volume_weight d.volumes = flat_sum w (λ (v : Volume Entry). indexed v.chunks) volume_weight (λ v. refl) d.volumes in
      let c : sum_by w cs ≡ sum_by clone_weight d.clones =
      flat_sum w (λ (c : RunningClone Entry). indexed c.image ++ indexed c.target) clone_weight (λ c. sum_by-append w (indexed c.image) (indexed c.target)) d.clones in
      let p : sum_by w ps ≡ sum_by copy_weight d.copies = flat_sum w (λ (c : RunningCopy Entry). c.pieces) copy_weight (λ c. refl) d.copies in
      omega (arith, a, b, v, c, p)

  unmapped_weight : (j n : ℕ) → sum_by w (from j (replicate n unmapped_entry)) ≡ 0
  unmapped_weight j zero = refl
  unmapped_weight j (suc n) =
      let z = free j in
      let rest : sum_by w (from (j + 1) (replicate n unmapped_entry)) ≡ 0 = unmapped_weight (j + 1) n in
      let c : sum_by w (from j (unmapped_entry ∷ replicate n unmapped_entry)) ≡ w (record { index = j; chunk = unmapped_entry }) + sum_by w (from (j + 1) (replicate n unmapped_entry)) =
      sum_by-cons w (record { index = j; chunk = unmapped_entry }) (from (j + 1) (replicate n unmapped_entry)) in
      omega (arith, z, rest, c)

  grown_weight : (j n : ℕ) (xs : List Entry) → sum_by w (from j (xs ++ replicate n unmapped_entry)) ≡ sum_by w (from j xs)
  grown_weight j n [] = unmapped_weight j n
  grown_weight j n (x ∷ xs) =
      let rest : sum_by w (from (j + 1) (xs ++ replicate n unmapped_entry)) ≡ sum_by w (from (j + 1) xs) = grown_weight (j + 1) n xs in
      let a : sum_by w (from j (x ∷ (xs ++ replicate n unmapped_entry))) ≡ w (record { index = j; chunk = x }) + sum_by w (from (j + 1) (xs ++ replicate n unmapped_entry)) =
      sum_by-cons w (record { index = j; chunk = x }) (from (j + 1) (xs ++ replicate n unmapped_entry)) in
      let b : sum_by w (from j (x ∷ xs)) ≡ w (record { index = j; chunk = x }) + sum_by w (from (j + 1) xs) = sum_by-cons w (record { index = j; chunk = x }) (from (j + 1) xs) in
      omega (arith, rest, a, b)

  unmaps_weight : (ranges : List (ℕ × ℕ)) (j : ℕ) (xs : List Entry)
      → sum_by w (from j (mapped_from (λ i (x : Entry). cond (is_in_ranges ranges i && not (x.stamp == 0)) unmapped_entry x) j xs))
      + sum_by w (filter (λ (p : Piece Entry). is_in_ranges ranges p.index && not (p.chunk.stamp == 0)) (from j xs)) ≡ sum_by w (from j xs)
  unmaps_weight ranges j [] = refl
  unmaps_weight ranges j (x ∷ xs) =
      step (is_in_ranges ranges j && not (x.stamp == 0))
      (mapped_from (λ i (x : Entry). cond (is_in_ranges ranges i && not (x.stamp == 0)) unmapped_entry x) (j + 1) xs)
      (filter (λ (p : Piece Entry). is_in_ranges ranges p.index && not (p.chunk.stamp == 0)) (from (j + 1) xs)) (unmaps_weight ranges (j + 1) xs)
    where
      step : (b : Bool) (ys : List Entry) (ps : List (Piece Entry)) → sum_by w (from (j + 1) ys) + sum_by w ps ≡ sum_by w (from (j + 1) xs)
          → sum_by w (from j (cond b unmapped_entry x ∷ ys)) + sum_by w (cond b (record { index = j; chunk = x } ∷ ps) ps) ≡ sum_by w (from j (x ∷ xs))
      step true ys ps h =
          let z = free j in
          let a : sum_by w (from j (unmapped_entry ∷ ys)) ≡ w (record { index = j; chunk = unmapped_entry }) + sum_by w (from (j + 1) ys) =
          sum_by-cons w (record { index = j; chunk = unmapped_entry }) (from (j + 1) ys) in
          let b : sum_by w (record { index = j; chunk = x } ∷ ps) ≡ w (record { index = j; chunk = x }) + sum_by w ps = sum_by-cons w (record { index = j; chunk = x }) ps in
          let c : sum_by w (from j (x ∷ xs)) ≡ w (record { index = j; chunk = x }) + sum_by w (from (j + 1) xs) = sum_by-cons w (record { index = j; chunk = x }) (from (j + 1) xs) in
          omega (arith, h, z, a, b, c)
      step false ys ps h =
          let a : sum_by w (from j (x ∷ ys)) ≡ w (record { index = j; chunk = x }) + sum_by w (from (j + 1) ys) = sum_by-cons w (record { index = j; chunk = x }) (from (j + 1) ys) in
          let c : sum_by w (from j (x ∷ xs)) ≡ w (record { index = j; chunk = x }) + sum_by w (from (j + 1) xs) = sum_by-cons w (record { index = j; chunk = x }) (from (j + 1) xs) in
          omega (arith, h, a, c)

  -- e weighs so much more than d, and so much less
  abbrev Weighs : Durable Entry → Durable Entry → ℕ → ℕ → Type 0
  Weighs d e more less = weight e + less ≡ weight d + more

  module _ (d : Durable Entry) where
    found_weighs : {A : Type 0} (o : Option A) (h : A → Durable Entry) (more : A → List (Piece Entry))
        → ((x : A) → o ≡ Some x → Weighs d (h x) (sum_by w (more x)) 0) → Weighs d (if_found o h d) (sum_by w (if_found o more [])) 0
    found_weighs None h more there = refl
    found_weighs (Some x) h more there = there x refl

    added_weighs : (v : Volume Entry) → Weighs d (and_volume d v) (volume_weight v) 0
    added_weighs v =
        let s = sum-put volume_weight (λ (u : Volume Entry). nat_lt v.number u.number) v d.volumes in
        omega (arith, s)

    changed_weighs : (n : ℕ) (g : Volume Entry → Volume Entry) (v : Volume Entry) → volume_of d n ≡ Some v → (more less : ℕ)
        → volume_weight (g v) + less ≡ volume_weight v + more → Weighs d (with_volume d n g) more less
    changed_weighs n g v found more less goes =
        let s = sum-changed_found volume_weight (λ (u : Volume Entry). u.number == n) g v d.volumes found in
        omega (arith, s, goes)

    listed_weight : (n : ℕ) (v : Volume Entry) → volume_of d n ≡ Some v → sum_by w (listed d n) ≡ volume_weight v
    listed_weight n v found = ap (λ o. sum_by w (if_found o (λ (v : Volume Entry). indexed v.chunks) [])) found

    clone_weighs : (k : Task) (source : ℕ) (values : List Entry) (c : RunningClone Entry) → clone_of d k.number ≡ Some c
        → is_clone_kept (map_clone (λ (e : Entry). e.stamp) c) k ≡ true → length (turn_indexes (map (λ (e : Entry). e.stamp) c.image) k.done) ≡ length values
        → Weighs d (clone_turned (λ (e : Entry). e.stamp) values d k source c) (sum_by w (numbered (turn_indexes (map (λ (e : Entry). e.stamp) c.image) k.done) values)) (sum_by w (gone_of_clone k c))
    clone_weighs k source values c found keeps many =
        let is : List ℕ = turn_indexes (map (λ (e : Entry). e.stamp) c.image) k.done in
        let long : length (map (λ (e : Entry). e.stamp) c.target) ≡ length (map (λ (e : Entry). e.stamp) c.image) = kept_long (map_clone (λ (e : Entry). e.stamp) c) k keeps in
        let within : list_all (λ i. nat_lt i (length c.target)) is ≡ true =
        ap (λ n. list_all (λ i. nat_lt i n) is) (sym (length-map c.target (λ (e : Entry). e.stamp)) ∙ long) ∙ turn_within (map (λ (e : Entry). e.stamp) c.image) k.done in
        go (is_last k (length is)) (put_sum w is values c.target (turn_rises (map (λ (e : Entry). e.stamp) c.image) k.done) within many)
      where
        go : (b : Bool)
            → sum_by w (from 0 (put_at (turn_indexes (map (λ (e : Entry). e.stamp) c.image) k.done) values c.target)) + sum_by w (those_at (turn_indexes (map (λ (e : Entry). e.stamp) c.image) k.done) (from 0 c.target))
            ≡ sum_by w (from 0 c.target) + sum_by w (numbered (turn_indexes (map (λ (e : Entry). e.stamp) c.image) k.done) values)
            → Weighs d (cond b
            (clone_ends d k (length (turn_indexes (map (λ (e : Entry). e.stamp) c.image) k.done)) source c (put_at (turn_indexes (map (λ (e : Entry). e.stamp) c.image) k.done) values c.target))
            (clone_goes_on d k (length (turn_indexes (map (λ (e : Entry). e.stamp) c.image) k.done)) (put_at (turn_indexes (map (λ (e : Entry). e.stamp) c.image) k.done) values c.target)))
            (sum_by w (numbered (turn_indexes (map (λ (e : Entry). e.stamp) c.image) k.done) values))
            (sum_by w (those_at (turn_indexes (map (λ (e : Entry). e.stamp) c.image) k.done) (indexed c.target) ++ cond b (indexed c.image) []))
        go true p =
            let is : List ℕ = turn_indexes (map (λ (e : Entry). e.stamp) c.image) k.done in
            let target : List Entry = put_at is values c.target in
            let a = sum_by-append w (those_at is (indexed c.target)) (indexed c.image) in
            let v = sum-put volume_weight (λ (u : Volume Entry). nat_lt c.number u.number) (cloned_volume c source target) d.volumes in
            let r = sum-removed_found clone_weight (λ (b : RunningClone Entry). b.number == k.number) c d.clones found in
            omega (arith, p, a, v, r)
        go false p =
            let is : List ℕ = turn_indexes (map (λ (e : Entry). e.stamp) c.image) k.done in
            let target : List Entry = put_at is values c.target in
            let a : sum_by w (those_at is (indexed c.target) ++ []) ≡ sum_by w (those_at is (indexed c.target)) + 0 = sum_by-append w (those_at is (indexed c.target)) [] in
            let r = sum-changed_found clone_weight (λ (b : RunningClone Entry). b.number == k.number) (λ b. record b { target = target }) c d.clones found in
            omega (arith, p, a, r)

    copy_weighs : (k : Task) (target : ℕ) (c : RunningCopy Entry) → copy_of d k.number ≡ Some c → Aims d target c
        → Weighs d (copy_turned d k target c) 0 (sum_by w (gone_of_copy d k target c))
    copy_weighs k target c found a = go (is_last k (next_piece k))
      where
        is : List ℕ
        is = map (λ (p : Piece Entry). p.index) c.pieces

        many : length (map (λ (p : Piece Entry). p.index) c.pieces) ≡ length (map (λ (p : Piece Entry). p.chunk) c.pieces)
        many = length-map c.pieces (λ (p : Piece Entry). p.index) ∙ sym (length-map c.pieces (λ (p : Piece Entry). p.chunk))

        go : (b : Bool) → Weighs d (cond b (copy_ends d k target c) (copy_goes_on d k)) 0 (sum_by w (cond b (those_at (map (λ (p : Piece Entry). p.index) c.pieces) (listed d target)) []))
        go true =
            let p = put_sum w (map (λ (p : Piece Entry). p.index) c.pieces) (map (λ (p : Piece Entry). p.chunk) c.pieces) a.volume.chunks a.rise a.within many in
            let v = sum-changed_found volume_weight (λ (v : Volume Entry). v.number == target) (λ v. record v { chunks = pieces_put c.pieces v.chunks }) a.volume d.volumes a.stands in
            let r = sum-removed_found copy_weight (λ (b : RunningCopy Entry). b.number == k.number) c d.copies found in
            let n : sum_by w (numbered (map (λ (p : Piece Entry). p.index) c.pieces) (map (λ (p : Piece Entry). p.chunk) c.pieces)) ≡ sum_by w c.pieces = ap (sum_by w) (numbered_again c.pieces) in
            let l : sum_by w (those_at (map (λ (p : Piece Entry). p.index) c.pieces) (listed d target))
            ≡ sum_by w (those_at (map (λ (p : Piece Entry). p.index) c.pieces) (indexed a.volume.chunks)) =
            ap (λ o. sum_by w (those_at (map (λ (p : Piece Entry). p.index) c.pieces) (if_found o (λ (v : Volume Entry). indexed v.chunks) []))) a.stands in
            omega (arith, p, v, r, n, l)
        go false = refl

    cancelled_weighs : (n : ℕ) → Weighs d (cancelled d n) 0 (sum_by w (entries_gone d (Cancel n)))
    unfolding cancelled
    cancelled_weighs n =
        let c = removed_sum clone_weight (λ (c : RunningClone Entry). c.number == n) d.clones in
        let p = removed_sum copy_weight (λ (c : RunningCopy Entry). c.number == n) d.copies in
        let a = sum_by-append w (if_found (clone_of d n) (λ (c : RunningClone Entry). indexed c.image ++ indexed c.target) []) (if_found (copy_of d n) (λ (c : RunningCopy Entry). c.pieces) []) in
        let x = of_clone (clone_of d n) in
        let y = of_copy (copy_of d n) in
        omega (arith, c, p, a, x, y)
      where
        of_clone : (o : Option (RunningClone Entry)) → sum_by w (if_found o (λ (c : RunningClone Entry). indexed c.image ++ indexed c.target) []) ≡ if_found o clone_weight 0
        of_clone None = refl
        of_clone (Some c) = sum_by-append w (indexed c.image) (indexed c.target)

        of_copy : (o : Option (RunningCopy Entry)) → sum_by w (if_found o (λ (c : RunningCopy Entry). c.pieces) []) ≡ if_found o copy_weight 0
        of_copy None = refl
        of_copy (Some c) = refl

    module _ (rules : Kept (shape_of_tables d)) (clones : Clones Entry (λ (e : Entry). e.stamp) d) where
      job_weighs : (k : Task) (values : List Entry) → task_of d k.number ≡ Some k → (job : Job) → k.job ≡ job
          → length (job_indexes (λ (e : Entry). e.stamp) d k job) ≡ length values
          → Weighs d (job_turned (λ (e : Entry). e.stamp) values d k job) (sum_by w (numbered (job_indexes (λ (e : Entry). e.stamp) d k job) values)) (sum_by w (gone_of_job d k job))
      job_weighs k values found (Clone source) is many = of_clone (clone_of d k.number) refl many
        where
          of_clone : (o : Option (RunningClone Entry)) → clone_of d k.number ≡ o
              → length (if_found o (λ (c : RunningClone Entry). turn_indexes (map (λ (e : Entry). e.stamp) c.image) k.done) []) ≡ length values
              → Weighs d (if_found o (clone_turned (λ (e : Entry). e.stamp) values d k source) d)
              (sum_by w (numbered (if_found o (λ (c : RunningClone Entry). turn_indexes (map (λ (e : Entry). e.stamp) c.image) k.done) []) values)) (sum_by w (if_found o (gone_of_clone k) []))
          of_clone None e many = refl
          of_clone (Some c) e many = clone_weighs k source values c e (clones.kept k c found e) many
      job_weighs k values found (Copy source base target) is many = of_copy (copy_of d k.number) refl
        where
          of_copy : (o : Option (RunningCopy Entry)) → copy_of d k.number ≡ o
              → Weighs d (if_found o (copy_turned d k target) d) 0 (sum_by w (if_found o (gone_of_copy d k target) []))
          of_copy None e = refl
          of_copy (Some c) e = copy_weighs k target c e (copy_aims d rules k target c found e (ap job_target is))

      turn_weighs : (n : ℕ) (values : List Entry) → length (turned_indexes (λ (e : Entry). e.stamp) d n) ≡ length values
          → Weighs d (turned (λ (e : Entry). e.stamp) values d n) (sum_by w (numbered (turned_indexes (λ (e : Entry). e.stamp) d n) values)) (sum_by w (entries_gone d (Turn n)))
      unfolding turned turned_indexes
      turn_weighs n values many = of_task (task_of d n) refl many
        where
          run : (k : Task) → task_of d k.number ≡ Some k → (b : Bool) → length (cond b (job_indexes (λ (e : Entry). e.stamp) d k k.job) []) ≡ length values
              → Weighs d (cond b (job_turned (λ (e : Entry). e.stamp) values d k k.job) d) (sum_by w (numbered (cond b (job_indexes (λ (e : Entry). e.stamp) d k k.job) []) values))
              (sum_by w (cond b (gone_of_job d k k.job) []))
          run k found true many = job_weighs k values found k.job refl many
          run k found false many = refl

          of_task : (o : Option Task) → task_of d n ≡ o → length (if_found o (λ k. cond (is_running k) (job_indexes (λ (e : Entry). e.stamp) d k k.job) []) []) ≡ length values
              → Weighs d (if_found o (λ k. cond (is_running k) (job_turned (λ (e : Entry). e.stamp) values d k k.job) d) d)
              (sum_by w (numbered (if_found o (λ k. cond (is_running k) (job_indexes (λ (e : Entry). e.stamp) d k k.job) []) []) values))
              (sum_by w (if_found o (λ k. cond (is_running k) (gone_of_job d k k.job) []) []))
          of_task None e many = refl
          of_task (Some k) e many =
              let number : k.number ≡ n = eqb-true k.number n (find-passes (λ (u : Task). u.number == n) d.tasks k e) in
              run k (ap (λ m. task_of d m) number ∙ e) (is_running k) many

      module _ (places : List ℕ) where
        -- the new entries of a change
        abbrev values : Change → List Entry
        values change = placed_entries places (new_stamp d change)

        change_weighs : (change : Change) → judge None (shape_of_tables d) change ≡ Accept
            → length (changed_indexes (λ (e : Entry). e.stamp) d change) ≡ length (values change)
            → Weighs d (effect (λ (e : Entry). e.stamp) (values change) unmapped_entry d change) (sum_by w (entries_put d change places)) (sum_by w (entries_gone d change))
        unfolding effect state_checks with_clone with_copy changed_indexes
        change_weighs (MakeContainer quota offers) e many = refl
        change_weighs (MakeVolume h vtype chunks needs) e many =
            let a = added_weighs (record { number = d.lsn + 1; container = h; vtype = vtype; kind = Plain; reverted = 0; needs = needs; metadata = []; chunks = replicate chunks unmapped_entry }) in
            let z : sum_by w (from 0 (replicate chunks unmapped_entry)) ≡ 0 = unmapped_weight 0 chunks in
            omega (arith, a, z)
        change_weighs (DeleteVolume n) e many =
            some_of (volume_of d n) _ (stands_too d n (not_refused (is_none (volume_of (shape_of_tables d) n)) (NotFound in_vvol) (passed_state None (shape_of_tables d) (DeleteVolume n) e 0)))
            (λ v found. let r = sum-removed_found volume_weight (λ (u : Volume Entry). u.number == n) v d.volumes found in
            let l = listed_weight n v found in
            omega (arith, r, l))
        change_weighs (GrowVolume n chunks) e many =
            some_of (volume_of d n) _ (stands_too d n (not_refused (is_none (volume_of (shape_of_tables d) n)) (NotFound in_vvol) (passed_state None (shape_of_tables d) (GrowVolume n chunks) e 0)))
            (λ v found. let g : volume_weight (record v { chunks = v.chunks ++ replicate (chunks - length v.chunks) unmapped_entry }) ≡ volume_weight v = grown_weight 0 (chunks - length v.chunks) v.chunks in
            changed_weighs n (λ v. record v { chunks = v.chunks ++ replicate (chunks - length v.chunks) unmapped_entry }) v found 0 0 (omega (arith, g)))
        change_weighs (SetMetadata n key text) e many =
            some_of (volume_of d n) _ (stands_too d n (not_refused (is_none (volume_of (shape_of_tables d) n)) (NotFound in_vvol) (passed_state None (shape_of_tables d) (SetMetadata n key text) e 0)))
            (λ v found. changed_weighs n (λ v. record v { metadata = after_set v.metadata key text }) v found 0 0 refl)
        change_weighs (Snapshot n) e many =
            found_weighs (volume_of d n) (λ v. and_volume d (record v { number = d.lsn + 1; kind = SnapshotOf (record { 0 = n }) })) (λ (v : Volume Entry). indexed v.chunks)
            (λ v found. added_weighs (record v { number = d.lsn + 1; kind = SnapshotOf (record { 0 = n }) }))
        change_weighs (FastClone n) e many =
            found_weighs (volume_of d n) (λ v. and_volume d (record v { number = d.lsn + 1; kind = FastCloneOf (record { 0 = n }) })) (λ (v : Volume Entry). indexed v.chunks)
            (λ v found. added_weighs (record v { number = d.lsn + 1; kind = FastCloneOf (record { 0 = n }) }))
        change_weighs (Revert n snapshot) e many =
            some_of (volume_of d snapshot) _
            (stands_too d snapshot (not_refused (is_none (volume_of (shape_of_tables d) snapshot)) (NotFound in_snapshot) (passed_state None (shape_of_tables d) (Revert n snapshot) e 1)))
            (λ s at. some_of (volume_of d n) _
            (stands_too d n (not_refused (is_none (volume_of (shape_of_tables d) n)) (NotFound in_vvol) (passed_state None (shape_of_tables d) (Revert n snapshot) e 0)))
            (λ v found. let l = listed_weight n v found in
            let m = listed_weight snapshot s at in
            ap (λ o. weight (if_found o (λ s. with_volume d n (λ v. record v { chunks = s.chunks; reverted = d.lsn + 1 })) d) + sum_by w (listed d n)) at
            ∙ changed_weighs n (λ v. record v { chunks = s.chunks; reverted = d.lsn + 1 }) v found (sum_by w (listed d snapshot)) (sum_by w (listed d n)) (omega (arith, l, m))))
        change_weighs (Write n first blocks) e many =
            some_of (volume_of d n) _ (stands_too d n (not_refused (is_none (volume_of (shape_of_tables d) n)) (NotFound in_vvol) (passed_state None (shape_of_tables d) (Write n first blocks) e 0)))
            (λ v found. let is : List ℕ = touched_indexes d.geometry.chunk_blocks first blocks in
            let within : list_all (λ i. nat_lt i (length v.chunks)) is ≡ true =
            ap (λ m. list_all (λ i. nat_lt i m) is)
            (sym (length-map v.chunks (λ (x : Entry). x.stamp)) ∙ ap length (sym (stamps_found (λ (x : Entry). x.stamp) unmapped_entry d n v found)))
            ∙ write_within (shape_of_tables d) None n first blocks e in
            let p = put_sum w is (values (Write n first blocks)) v.chunks (touched_rise d.geometry.chunk_blocks first blocks) within many in
            let l : sum_by w (those_at is (listed d n)) ≡ sum_by w (those_at is (indexed v.chunks)) =
            ap (λ o. sum_by w (those_at is (if_found o (λ (v : Volume Entry). indexed v.chunks) []))) found in
            changed_weighs n (λ u. record u { chunks = put_at is (values (Write n first blocks)) u.chunks }) v found
            (sum_by w (numbered is (values (Write n first blocks)))) (sum_by w (those_at is (listed d n))) (omega (arith, p, l)))
        change_weighs (Unmap n ranges) e many =
            some_of (volume_of d n) _ (stands_too d n (not_refused (is_none (volume_of (shape_of_tables d) n)) (NotFound in_vvol) (passed_state None (shape_of_tables d) (Unmap n ranges) e 0)))
            (λ v found. let u = unmaps_weight ranges 0 v.chunks in
            let l : sum_by w (entries_gone d (Unmap n ranges)) ≡ sum_by w (filter (λ (p : Piece Entry). is_in_ranges ranges p.index && not (p.chunk.stamp == 0)) (indexed v.chunks)) =
            ap (λ o. sum_by w (filter (λ (p : Piece Entry). is_in_ranges ranges p.index && not (p.chunk.stamp == 0)) (if_found o (λ (v : Volume Entry). indexed v.chunks) []))) found in
            changed_weighs n (λ v. record v { chunks = unmapped_in (λ (e : Entry). e.stamp) unmapped_entry ranges v.chunks }) v found 0 (sum_by w (entries_gone d (Unmap n ranges)))
            (omega (arith, u, l)))
        change_weighs (SetEndpoints host endpoints) e many = refl
        change_weighs (Bind host n) e many = refl
        change_weighs (Unbind host endpoint secondary) e many = refl
        change_weighs (UnbindAll host) e many = refl
        change_weighs (StartClone n) e many =
            found_weighs (volume_of d n) (clone_started (λ (e : Entry). e.stamp) unmapped_entry d n) (λ (v : Volume Entry). indexed v.chunks)
            (λ v found. let s = sum-put clone_weight (λ (b : RunningClone Entry). nat_lt (d.lsn + 1) b.number) (clone_of_volume unmapped_entry (d.lsn + 1) v) d.clones in
            let z : sum_by w (from 0 (replicate (length v.chunks) unmapped_entry)) ≡ 0 = unmapped_weight 0 (length v.chunks) in
            omega (arith, s, z))
        change_weighs (StartCopy source base target) e many =
            found_weighs (volume_of d source) (λ v. if_found (volume_of d base)
            (λ w. copy_started d (Copy source base target) (difference (λ (e : Entry). e.stamp) v.chunks w.chunks)) d)
            (λ (v : Volume Entry). if_found (volume_of d base) (λ (w : Volume Entry). difference (λ (e : Entry). e.stamp) v.chunks w.chunks) [])
            (λ v found. found_weighs (volume_of d base) (λ w. copy_started d (Copy source base target) (difference (λ (e : Entry). e.stamp) v.chunks w.chunks))
            (λ (w : Volume Entry). difference (λ (e : Entry). e.stamp) v.chunks w.chunks)
            (λ b at. let s = sum-put copy_weight (λ (b : RunningCopy Entry). nat_lt (d.lsn + 1) b.number)
            (record { number = d.lsn + 1; pieces = difference (λ (e : Entry). e.stamp) v.chunks b.chunks }) d.copies in
            omega (arith, s)))
        change_weighs (Turn n) e many = turn_weighs n (values (Turn n)) many
        change_weighs (Cancel n) e many = cancelled_weighs n

pub names_after : (tables : Durable Entry) (change : Change) (places : List ℕ) → is_well_formed tables ≡ true → fits tables change places ≡ true → (place : ℕ)
    → place_count (all_pieces (replayed tables change places)) place + place_count (entries_gone tables change) place
    ≡ place_count (all_pieces tables) place + place_count (entries_put tables change places) place
unfolding replayed apply place_count fits
names_after tables change places well fit place =
    let w : Piece Entry → ℕ = λ a. cond (names_place place a) 1 0 in
    let stamp : ℕ = new_stamp tables change in
    let rules : Kept (shape_of_tables tables) = kept (shape_of_tables tables) (shape_rules tables well) in
    let clones : Clones Entry (λ (e : Entry). e.stamp) tables = clones_of (λ (e : Entry). e.stamp) tables rules.form rules.numbers rules.clones in
    let many : length (changed_indexes (λ (e : Entry). e.stamp) tables change) ≡ length (placed_entries places stamp) =
    sym (eqb-true (length places) (length (changed_indexes (λ (e : Entry). e.stamp) tables change)) (and_right _ _ (and_left _ _ (and_left _ _ fit))))
    ∙ sym (length-map places (λ p. record { place = Some p; stamp = stamp })) in
    let goes = change_weighs (λ a. cond (names_place place a) 1 0) (λ i. refl) tables rules clones places change (fits_accepted tables change places fit) many in
    let a = weight_is (λ a. cond (names_place place a) 1 0) (λ i. refl) (effect (λ (e : Entry). e.stamp) (placed_entries places stamp) unmapped_entry tables change) in
    let b = weight_is (λ a. cond (names_place place a) 1 0) (λ i. refl) tables in
    omega (arith, goes, a, b)
