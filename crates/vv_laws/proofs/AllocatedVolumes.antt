-- How many chunks of each volume are allocated after an accepted change, kind by kind.
use Rattle.std.proofs.Common.{◌≡◌, ◌≤◌, ◌<◌, ℕ, zero, suc, ◌+◌, ◌-◌, ◌*◌, ◌/◌, ◌==◌, ◌&&◌, ◌||◌, not, refl, ap, sym, ◌∙◌, Bool, true, false, cond, List, [], ◌∷◌, ◌++◌, map, length, replicate, take, drop, subst, min, arith, length-take}
use Rattle.std.specs.Prelude.{Option, Some, None, is_none, is_some, nat_lt, nat_le, count_by, slice_index}
use Rattle.std.specs.List.{find, list_all}
use Rattle.std.proofs.lemmas.List.Sums.{sum_by-cons}
use Rattle.std.proofs.lemmas.List.Folds.{list_all-map}
use Rattle.std.proofs.lemmas.Bool.{lt-ltb, ltb-false, leb-true, leb-false, eqb-true, eqb-false, eq-eqb, ne_eqb, or_parts}
use Rattle.std.proofs.lemmas.Nat.{div_below}
use Rattle.std.proofs.lemmas.Slice.Eq.{bytes_eq-Decides}
use Rattle.vv_units.specs.Pairs.{after_set}
use Rattle.vv_units.specs.declared.volume.VolumeKind.TheVariants.{Plain, SnapshotOf, FastCloneOf}
use Rattle.vv_units.specs.declared.field.Field.TheVariants.{Vvol as in_vvol, Snapshot as in_snapshot}
use Rattle.vv_flat.specs.Lists.{if_found, first_changed, put_before, first_removed, put_at, indexes_from, numbers_from, all_rising}
use Rattle.vv_flat.specs.State.{Durable, Volume, RunningClone, RunningCopy, Piece, Task, Job, Clone, Copy, volume_of, task_of, clone_of, copy_of}
use Rattle.vv_flat.specs.Chunks.{touched_indexes, touched_first, touched_count, unmapped_in, volume_blocks}
use Rattle.vv_flat.specs.Space.{allocated_count, allocating_pieces, is_running, is_clone, job_target}
use Rattle.vv_flat.specs.Tasks.{is_last, next_piece, turn_indexes, turned_indexes, job_indexes, cloned_volume, clone_goes_on, clone_ends, clone_turned, pieces_put, copy_goes_on, copy_ends, copy_turned, job_turned, turned, cancelled, clone_started, with_clone, difference, copy_started, with_copy}
use Rattle.vv_flat.specs.Bits.{allocated_indexes}
use Rattle.vv_flat.specs.Form.{is_formed}
use Rattle.vv_flat.specs.Rules.{numbers_rule, copies_rule, is_logged, is_source_logged, is_clone_kept, is_copy_kept}
use Rattle.vv_flat.specs.WellFormed.{is_well_formed_shape}
use Rattle.vv_flat.specs.Profiles.{Misfit}
use Rattle.vv_flat.specs.Refusals.{Accept, NotFound, OutOfRange}
use Rattle.vv_flat.specs.Changes.{Change, MakeContainer, MakeVolume, DeleteVolume, GrowVolume, SetMetadata, Snapshot, FastClone, Revert, Write, Unmap, SetEndpoints, Bind, Unbind, UnbindAll, StartClone, StartCopy, Turn, Cancel, judge, state_checks, stamps_of, allocated_of, is_snapshot, effect, apply, apply_shape, changed_indexes, new_stamp, unmapped_count, with_volume, and_volume}
use Rattle.vv_flat.proofs.MapLists.{map-same}
use Rattle.vv_flat.proofs.Shares.{and_left, and_right, and_both, list_all-follows}
use Rattle.vv_flat.proofs.Verdicts.{passed_state, not_refused}
use Rattle.vv_flat.proofs.Steps.{find-passes}
use Rattle.vv_flat.proofs.Known.{all-found}
use Rattle.vv_flat.proofs.Lookups.{find-put_other, find-put_new, find-removed_other, find-changed, none-left}
use Rattle.vv_flat.proofs.Pool.{is_kept, allocated_long}
use Rattle.vv_flat.proofs.Kept.{Kept, kept}
use Rattle.vv_flat.proofs.Charges.{Ordered}
use Rattle.vv_flat.proofs.KeepTasks.{ordered, found-any, none_any, any_none, find-changed_found}
use Rattle.vv_flat.proofs.NewEntries.{all-take, all-swap, indexes_rise, rising-take, rising-drop, touched_rise, first_apart}
use Rattle.vv_laws.proofs.Planning.{numbers_below}
use Rattle.vv_laws.proofs.ChunkBytes.{some_blocks}
use Rattle.vv_laws.proofs.KeptNumbers.{some_of, chunks_are, clone_stands, clone_turn_exact}
use Rattle.vv_laws.proofs.AllocatedCounts.{allocated-zeros, allocated-longer, unmaps_exact, zeros_over, new_over, put_exact}
use Rattle.vv_laws.specs.Counts.{unmaps_count, unmapping_pieces, at_last_turn, allocated_by_turns, unmapped_by_turns, allocated_added, allocated_taken}

-- Options and lists.

pub none_of : {A : Type 0} (o : Option A) → is_none o ≡ true → o ≡ None
none_of None e = refl
none_of (Some x) e = cc

not_some : {A : Type 0} (o : Option A) → is_some o ≡ false → o ≡ None
not_some None e = refl
not_some (Some x) e = cc

pub gone_of : {A : Type 0} (p : A → Bool) (xs : List A) → list_all (λ x. not (p x)) xs ≡ true → find p xs ≡ None
gone_of p xs e = not_some (find p xs) (found-any p xs ∙ any_none p xs e)

never : (is : List ℕ) → count_by (λ _. false) is ≡ 0
never [] = refl
never (i ∷ is) = let c : count_by (λ _. false) (i ∷ is) ≡ 0 + count_by (λ _. false) is = sum_by-cons (λ _. 0) i is in
    let h : count_by (λ _. false) is ≡ 0 = never is in omega (arith, c, h)

all_counted : (p : ℕ → Bool) (xs : List ℕ) → list_all p xs ≡ true → count_by p xs ≡ length xs
all_counted p [] e = refl
all_counted p (x ∷ xs) e =
    let c : count_by p (x ∷ xs) ≡ cond (p x) 1 0 + count_by p xs = sum_by-cons (λ y. cond (p y) 1 0) x xs in
    let one : ◌≡◌ {A = ℕ} (cond (p x) 1 0) 1 = ap (λ b. cond b 1 0) (and_left (p x) (list_all p xs) e) in
    let h : count_by p xs ≡ length xs = all_counted p xs (and_right (p x) (list_all p xs) e) in
    omega (arith, c, one, h)

pub none_more : (b : Bool) (k : ℕ) → k ≡ 0 → cond b k 0 ≡ 0
none_more true k e = e
none_more false k e = refl

-- One stamp put in at some indexes.

pub one_stamp : (is : List ℕ) (s : ℕ) (xs : List ℕ) → (s == 0) ≡ false → all_rising is ≡ true → list_all (λ i. nat_lt i (length xs)) is ≡ true
    → allocated_count (put_at is (map (λ _. s) is) xs) ≡ allocated_count xs + unmapped_count xs is
one_stamp is s xs some rise inside =
    let ids : map (λ (i : ℕ). i) is ≡ is = map-same (λ i. i) (λ i. refl) is in
    let p = put_exact (λ (i : ℕ). i) (λ _. s) is xs (ap all_rising ids ∙ rise) inside in
    let q : allocated_count (put_at is (map (λ _. s) is) xs) ≡ allocated_count (put_at (map (λ (i : ℕ). i) is) (map (λ _. s) is) xs) =
    ap (λ js. allocated_count (put_at js (map (λ _. s) is) xs)) (sym ids) in
    let z : zeros_over (λ (i : ℕ). i) (λ _. s) xs is ≡ 0 =
    ap (λ b. count_by (λ i. b && not (slice_index xs i == 0)) is) some ∙ never is in
    let n : new_over (λ (i : ℕ). i) (λ _. s) xs is ≡ unmapped_count xs is =
    ap (λ b. count_by (λ i. not b && (slice_index xs i == 0)) is) some in
    omega (arith, p, q, z, n)

-- a write inside a volume touches chunks of the volume
pub touched_inside : (B size first blocks : ℕ) → 0 < B → first < size * B → first + blocks ≤ size * B
    → list_all (λ i. nat_lt i size) (touched_indexes B first blocks) ≡ true
touched_inside B size first blocks some start end = go (blocks == 0) refl
  where
    go : (b : Bool) → (blocks == 0) ≡ b
        → list_all (λ i. nat_lt i size) (cond b [] (numbers_from (touched_first B first) (touched_count B first blocks))) ≡ true
    go true is = refl
    go false is =
        let apart : blocks ≡ 0 → ⊥ = eqb-false blocks 0 is in
        let front : first / B < size = div_below first B size some start in
        let last : (first + blocks - 1) / B < size = div_below (first + blocks - 1) B size some (omega arith) in
        numbers_below (touched_first B first) (touched_count B first blocks) size (omega (arith, front, last))

-- Allocated indexes.

inside_step : (k n : ℕ) (ns : List ℕ) (b : Bool) → k < n → list_all (λ i. nat_lt i n) ns ≡ true → list_all (λ i. nat_lt i n) (cond b (k ∷ ns) ns) ≡ true
inside_step k n ns true lt e = and_both (nat_lt k n) _ (lt-ltb k n lt) e
inside_step k n ns false lt e = e

pub indexes_inside : (test : ℕ → ℕ → Bool) (k : ℕ) (xs : List ℕ) → list_all (λ i. nat_lt i (k + length xs)) (indexes_from test k xs) ≡ true
indexes_inside test k [] = refl
indexes_inside test k (x ∷ xs) =
    let n : (k + 1) + length xs ≡ k + length (x ∷ xs) = omega arith in
    inside_step k (k + length (x ∷ xs)) (indexes_from test (k + 1) xs) (test k x) (omega arith)
    (ap (λ m. list_all (λ i. nat_lt i m) (indexes_from test (k + 1) xs)) (sym n) ∙ indexes_inside test (k + 1) xs)

-- where an index is none of the allocated ones, the chunk is unmapped
zero_at : (r : ℕ → Bool) (k : ℕ) (xs : List ℕ) → list_all r (indexes_from (λ i s. not (s == 0)) k xs) ≡ true → (j : ℕ) → r (k + j) ≡ false
    → slice_index xs j ≡ 0
zero_at r k [] e j f = refl
zero_at r k (x ∷ xs) e zero f = here (x == 0) refl e
  where
    here : (b : Bool) → (x == 0) ≡ b → list_all r (cond (not b) (k ∷ indexes_from (λ i s. not (s == 0)) (k + 1) xs) (indexes_from (λ i s. not (s == 0)) (k + 1) xs)) ≡ true
        → x ≡ 0
    here true is g = eqb-true x 0 is
    here false is g =
        let same : k + 0 ≡ k = omega arith in
        let a : r k ≡ true = and_left (r k) _ g in
        let b : r k ≡ false = ap r (sym same) ∙ f in cc
zero_at r k (x ∷ xs) e (suc j) f =
    let same : (k + 1) + j ≡ k + suc j = omega arith in
    zero_at r (k + 1) xs (rest (not (x == 0)) e) j (ap r same ∙ f)
  where
    rest : (b : Bool) → list_all r (cond b (k ∷ indexes_from (λ i s. not (s == 0)) (k + 1) xs) (indexes_from (λ i s. not (s == 0)) (k + 1) xs)) ≡ true
        → list_all r (indexes_from (λ i s. not (s == 0)) (k + 1) xs) ≡ true
    rest true g = and_right (r k) _ g
    rest false g = g

-- What the rule on running clones says of one.

pub kept_copied : (c : RunningClone ℕ) (t : Task) → is_clone_kept c t ≡ true → allocated_indexes c.target ≡ take t.done (allocated_indexes c.image)
kept_copied c t e = (bytes_eq-Decides (allocated_indexes c.target) (take t.done (allocated_indexes c.image))).0 (and_right _ _ (and_left _ _ e))

pub kept_total : (c : RunningClone ℕ) (t : Task) → is_clone_kept c t ≡ true → t.total ≡ allocated_count c.image
kept_total c t e = eqb-true t.total (allocated_count c.image) (and_left _ _ (and_left _ _ (and_left _ _ e)))

pub kept_long : (c : RunningClone ℕ) (t : Task) → is_clone_kept c t ≡ true → length c.target ≡ length c.image
kept_long c t e = eqb-true (length c.target) (length c.image) (and_right _ _ (and_left _ _ (and_left _ _ e)))

-- After its last turn a clone's target has as many allocated chunks as its task copied.
pub clone_count : (c : RunningClone ℕ) (t : Task) (n : ℕ) → is_clone_kept c t ≡ true → (n == 0) ≡ false
    → is_last t (length (turn_indexes (map (λ s. s) c.image) t.done)) ≡ true
    → allocated_count (put_at (turn_indexes (map (λ s. s) c.image) t.done) (map (λ _. n) (turn_indexes (map (λ s. s) c.image) t.done)) c.target) ≡ t.total
clone_count c t n keeps some last =
    let A : List ℕ = allocated_indexes c.image in
    let is : List ℕ = turn_indexes (map (λ s. s) c.image) t.done in
    let same : is ≡ take 16 (drop t.done A) = ap (λ xs. turn_indexes xs t.done) (map-same (λ s. s) (λ s. refl) c.image) in
    let copied : allocated_indexes c.target ≡ take t.done A = kept_copied c t keeps in
    let total : t.total ≡ allocated_count c.image = kept_total c t keeps in
    let long : length c.target ≡ length c.image = kept_long c t keeps in
    let rises : all_rising A ≡ true = indexes_rise (λ i s. not (s == 0)) 0 c.image in
    let apart : list_all (λ i. list_all (λ j. not (j == i)) (take t.done A)) (drop t.done A) ≡ true =
    all-swap (λ j i. not (j == i)) (take t.done A) (drop t.done A) (first_apart t.done A rises) in
    let zeros : list_all (λ i. slice_index c.target i == 0) (take 16 (drop t.done A)) ≡ true =
    list_all-follows (λ i. list_all (λ j. not (j == i)) (take t.done A)) (λ i. slice_index c.target i == 0)
    (λ i e. let front : 0 + i ≡ i = omega arith in
    eq-eqb (slice_index c.target i) 0
    (zero_at (λ j. not (j == i)) 0 c.target (ap (list_all (λ j. not (j == i))) copied ∙ e) i
    (ap (λ k. not (k == i)) front ∙ ap not (eq-eqb i i refl)))) (take 16 (drop t.done A))
    (all-take (λ i. list_all (λ j. not (j == i)) (take t.done A)) 16 (drop t.done A) apart) in
    let counted : unmapped_count c.target is ≡ length is =
    all_counted (λ i. slice_index c.target i == 0) is (ap (list_all (λ i. slice_index c.target i == 0)) same ∙ zeros) in
    let within : list_all (λ i. nat_lt i (length c.target)) (take 16 (drop t.done A)) ≡ true =
    all-take (λ i. nat_lt i (length c.target)) 16 (drop t.done A) (all-later (λ i. nat_lt i (length c.target)) t.done A
    (ap (λ m. list_all (λ i. nat_lt i m) A) (long ∙ (let z : length c.image ≡ 0 + length c.image = omega arith in z)) ∙ indexes_inside (λ i s. not (s == 0)) 0 c.image)) in
    let put : allocated_count (put_at is (map (λ _. n) is) c.target) ≡ allocated_count c.target + unmapped_count c.target is =
    one_stamp is n c.target some (ap all_rising same ∙ rising-take 16 (drop t.done A) (rising-drop t.done A rises))
    (ap (list_all (λ i. nat_lt i (length c.target))) same ∙ within) in
    let all : t.done + length is ≡ t.total = eqb-true (t.done + length is) t.total last in
    let a : length (allocated_indexes c.target) ≡ allocated_count c.target = allocated_long 0 c.target in
    let b : length A ≡ allocated_count c.image = allocated_long 0 c.image in
    let l : length (take t.done A) ≡ min t.done (length A) = length-take t.done A in
    let z : length (allocated_indexes c.target) ≡ length (take t.done A) = ap length copied in
    omega (arith, counted, put, all, a, b, l, z, total)
  where
    all-later : (p : ℕ → Bool) (k : ℕ) (xs : List ℕ) → list_all p xs ≡ true → list_all p (drop k xs) ≡ true
    all-later p zero xs e = e
    all-later p (suc k) [] e = refl
    all-later p (suc k) (x ∷ xs) e = all-later p k xs (and_right (p x) _ e)

-- What a list of volumes holds at a number.

abbrev pub held : List (Volume ℕ) → ℕ → ℕ
held vs m = allocated_count (if_found (find (λ (v : Volume ℕ). v.number == m) vs) (λ (v : Volume ℕ). v.chunks) [])

abbrev held_in : Option (Volume ℕ) → ℕ
held_in o = allocated_count (if_found o (λ (v : Volume ℕ). v.chunks) [])

put_held : (p : Volume ℕ → Bool) (v : Volume ℕ) (vs : List (Volume ℕ)) (n : ℕ) → v.number ≡ n → find (λ (w : Volume ℕ). w.number == n) vs ≡ None
    → (m : ℕ) → held (put_before p v vs) m + 0 ≡ held vs m + cond (m == n) (allocated_count v.chunks) 0
put_held p v vs n is none m = go (m == n) refl
  where
    go : (b : Bool) → (m == n) ≡ b → held (put_before p v vs) m + 0 ≡ held vs m + cond b (allocated_count v.chunks) 0
    go true e =
        let same : m ≡ n = eqb-true m n e in
        let gone : find (λ (w : Volume ℕ). w.number == m) vs ≡ None = ap (λ k. find (λ (w : Volume ℕ). w.number == k) vs) same ∙ none in
        let others : list_all (λ (w : Volume ℕ). not (w.number == m)) vs ≡ true =
        none_any (λ (w : Volume ℕ). w.number == m) vs (sym (found-any (λ (w : Volume ℕ). w.number == m) vs) ∙ ap is_some gone) in
        let here : find (λ (w : Volume ℕ). w.number == m) (put_before p v vs) ≡ Some v =
        find-put_new p (λ (w : Volume ℕ). w.number == m) v vs (eq-eqb v.number m (is ∙ sym same)) others in
        let a : held (put_before p v vs) m ≡ allocated_count v.chunks = ap held_in here in
        let b : held vs m ≡ 0 = ap held_in gone in
        omega (arith, a, b)
    go false e =
        let apart : m ≡ n → ⊥ = eqb-false m n e in
        let same : held (put_before p v vs) m ≡ held vs m =
        ap held_in (find-put_other p (λ (w : Volume ℕ). w.number == m) v vs (ne_eqb v.number m (λ f. apart (sym f ∙ is)))) in
        omega (arith, same)

changed_held : (n : ℕ) (g : Volume ℕ → Volume ℕ) (vs : List (Volume ℕ)) → ((v : Volume ℕ) → (g v).number ≡ v.number)
    → (v : Volume ℕ) → find (λ (w : Volume ℕ). w.number == n) vs ≡ Some v → (more less : ℕ)
    → allocated_count (g v).chunks + less ≡ allocated_count v.chunks + more
    → (m : ℕ) → held (first_changed (λ (w : Volume ℕ). w.number == n) g vs) m + cond (m == n) less 0 ≡ held vs m + cond (m == n) more 0
changed_held n g vs number v found more less goes m = go (m == n) refl
  where
    ws : List (Volume ℕ)
    ws = first_changed (λ (w : Volume ℕ). w.number == n) g vs

    is : v.number ≡ n
    is = eqb-true v.number n (find-passes (λ (w : Volume ℕ). w.number == n) vs v found)

    go : (b : Bool) → (m == n) ≡ b
        → held (first_changed (λ (w : Volume ℕ). w.number == n) g vs) m + cond b less 0 ≡ held vs m + cond b more 0
    go true e =
        let same : m ≡ n = eqb-true m n e in
        let here : find (λ (w : Volume ℕ). w.number == n) (first_changed (λ (w : Volume ℕ). w.number == n) g vs) ≡ Some (g v) =
        find-changed_found (λ (w : Volume ℕ). w.number == n) g v vs found (eq-eqb (g v).number n (number v ∙ is)) in
        let a : held (first_changed (λ (w : Volume ℕ). w.number == n) g vs) m ≡ allocated_count (g v).chunks =
        ap (λ k. held (first_changed (λ (w : Volume ℕ). w.number == n) g vs) k) same ∙ ap held_in here in
        let b : held vs m ≡ allocated_count v.chunks = ap (λ k. held vs k) same ∙ ap held_in found in
        omega (arith, a, b, goes)
    go false e =
        let stays : held (first_changed (λ (w : Volume ℕ). w.number == n) g vs) m ≡ held vs m =
        find-changed (λ (w : Volume ℕ). w.number == n) (λ (w : Volume ℕ). w.number == m) held_in g vs
        (λ w at. ap (λ k. k == m) (number w))
        (λ w at passes. let here : w.number ≡ n = eqb-true w.number n (find-passes (λ (x : Volume ℕ). x.number == n) vs w at) in
        let there : w.number ≡ m = eqb-true w.number m passes in
        let f : (m == n) ≡ true = eq-eqb m n (sym there ∙ here) in cc) in
        omega (arith, stays)

removed_held : (n : ℕ) (vs : List (Volume ℕ)) → all_rising (map (λ (v : Volume ℕ). v.number) vs) ≡ true
    → (m : ℕ) → held (first_removed (λ (w : Volume ℕ). w.number == n) vs) m + cond (m == n) (held vs n) 0 ≡ held vs m + 0
removed_held n vs rise m = go (m == n) refl
  where
    go : (b : Bool) → (m == n) ≡ b → held (first_removed (λ (w : Volume ℕ). w.number == n) vs) m + cond b (held vs n) 0 ≡ held vs m + 0
    go true e =
        let same : m ≡ n = eqb-true m n e in
        let gone : find (λ (w : Volume ℕ). w.number == n) (first_removed (λ (w : Volume ℕ). w.number == n) vs) ≡ None =
        gone_of (λ (w : Volume ℕ). w.number == n) (first_removed (λ (w : Volume ℕ). w.number == n) vs) (none-left (λ (v : Volume ℕ). v.number) n vs rise) in
        let a : held (first_removed (λ (w : Volume ℕ). w.number == n) vs) m ≡ 0 =
        ap (λ k. held (first_removed (λ (w : Volume ℕ). w.number == n) vs) k) same ∙ ap held_in gone in
        let b : held vs m ≡ held vs n = ap (λ k. held vs k) same in
        omega (arith, a, b)
    go false e =
        let apart : m ≡ n → ⊥ = eqb-false m n e in
        let stays : held (first_removed (λ (w : Volume ℕ). w.number == n) vs) m ≡ held vs m =
        ap held_in (find-removed_other (λ (w : Volume ℕ). w.number == n) (λ (w : Volume ℕ). w.number == m)
        (λ w passes. ne_eqb w.number m (λ f. apart (sym f ∙ eqb-true w.number n passes))) vs) in
        omega (arith, stays)

-- e has so many more allocated chunks in volume m than d, and so many fewer
abbrev Allocates : Durable ℕ → Durable ℕ → ℕ → ℕ → ℕ → Type 0
Allocates d e m more less = allocated_of e m + less ≡ allocated_of d m + more

found_same : {A : Type 0} (d : Durable ℕ) (m : ℕ) (o : Option A) (h : A → Durable ℕ) → ((x : A) → Allocates d (h x) m 0 0) → Allocates d (if_found o h d) m 0 0
found_same d m None h there = refl
found_same d m (Some x) h there = there x

-- an accepted write touches chunks of its volume,
pub write_within : (d : Durable ℕ) (misfit : Option Misfit) (n first blocks : ℕ) → judge misfit d (Write n first blocks) ≡ Accept
    → list_all (λ i. nat_lt i (length (stamps_of d n))) (touched_indexes d.geometry.chunk_blocks first blocks) ≡ true
unfolding state_checks
write_within d misfit n first blocks e =
    let B : ℕ = d.geometry.chunk_blocks in
    let size : ℕ = volume_blocks B (stamps_of d n) in
    let parts = or_parts (nat_le size first) (nat_lt size (first + blocks)) (not_refused _ OutOfRange (passed_state misfit d (Write n first blocks) e 1)) in
    touched_inside B (length (stamps_of d n)) first blocks (some_blocks B d.geometry.chunk_size) (leb-false size first parts.0) (ltb-false size (first + blocks) parts.1)

-- and allocates the unmapped ones of them
pub written_count : (d : Durable ℕ) (misfit : Option Misfit) (n first blocks : ℕ) → judge misfit d (Write n first blocks) ≡ Accept
    → (v : Volume ℕ) → volume_of d n ≡ Some v
    → allocated_count (put_at (touched_indexes d.geometry.chunk_blocks first blocks) (map (λ _. d.lsn + 1) (touched_indexes d.geometry.chunk_blocks first blocks)) v.chunks)
    ≡ allocated_count v.chunks + unmapped_count (stamps_of d n) (touched_indexes d.geometry.chunk_blocks first blocks)
written_count d misfit n first blocks e v found =
    let B : ℕ = d.geometry.chunk_blocks in
    let is : List ℕ = touched_indexes B first blocks in
    let same : stamps_of d n ≡ v.chunks = chunks_are d n v found in
    let put = one_stamp is (d.lsn + 1) v.chunks (ne_eqb (d.lsn + 1) 0 (λ f. omega arith)) (touched_rise B first blocks)
    (ap (λ xs. list_all (λ i. nat_lt i (length xs)) is) (sym same) ∙ write_within d misfit n first blocks e) in
    let u : unmapped_count (stamps_of d n) is ≡ unmapped_count v.chunks is = ap (λ xs. unmapped_count xs is) same in
    omega (arith, put, u)

module _ (d : Durable ℕ) (rules : Kept d) (m : ℕ) where
  rising_volumes : all_rising (map (λ (v : Volume ℕ). v.number) d.volumes) ≡ true
  unfolding is_formed
  rising_volumes = and_right _ _ (and_left _ _ (and_left _ _ (and_left _ _ (and_left _ _ (and_left _ _ rules.form)))))

  none_new : find (λ (w : Volume ℕ). w.number == d.lsn + 1) d.volumes ≡ None
  none_new = let o : Ordered d = ordered d rules in gone_of (λ (w : Volume ℕ). w.number == d.lsn + 1) d.volumes o.volumes

  allocated_is : (n : ℕ) (v : Volume ℕ) → volume_of d n ≡ Some v → allocated_of d n ≡ allocated_count v.chunks
  allocated_is n v found = ap held_in found

  -- a change of a volume that stands
  changed_allocates : (n : ℕ) (g : Volume ℕ → Volume ℕ) → ((v : Volume ℕ) → (g v).number ≡ v.number) → is_none (volume_of d n) ≡ false → (more less : ℕ)
      → ((v : Volume ℕ) → volume_of d n ≡ Some v → allocated_count (g v).chunks + less ≡ allocated_count v.chunks + more)
      → Allocates d (with_volume d n g) m (cond (m == n) more 0) (cond (m == n) less 0)
  changed_allocates n g number stands more less goes =
      some_of (volume_of d n) (Allocates d (with_volume d n g) m (cond (m == n) more 0) (cond (m == n) less 0)) stands
      (λ v found. changed_held n g d.volumes number v found more less (goes v found) m)

  same_allocates : (n : ℕ) (g : Volume ℕ → Volume ℕ) → ((v : Volume ℕ) → (g v).number ≡ v.number) → is_none (volume_of d n) ≡ false
      → ((v : Volume ℕ) → allocated_count (g v).chunks ≡ allocated_count v.chunks)
      → Allocates d (with_volume d n g) m 0 0
  same_allocates n g number stands same =
      let c = changed_allocates n g number stands 0 0 (λ v found. let s : allocated_count (g v).chunks ≡ allocated_count v.chunks = same v in omega (arith, s)) in
      let z : cond (m == n) 0 0 ≡ 0 = none_more (m == n) 0 refl in
      omega (arith, c, z)

  copied_allocates : (n : ℕ) (v w : Volume ℕ) → volume_of d n ≡ Some v → w.number ≡ d.lsn + 1 → w.chunks ≡ v.chunks
      → Allocates d (and_volume d w) m (cond (m == d.lsn + 1) (allocated_of d n) 0) 0
  copied_allocates n v w found number chunks =
      put_held (λ (u : Volume ℕ). nat_lt w.number u.number) w d.volumes (d.lsn + 1) number none_new m
      ∙ ap (λ k. allocated_of d m + cond (m == d.lsn + 1) k 0) (ap allocated_count chunks ∙ sym (allocated_is n v found))

  -- Turns.

  clone_allocates : (t : Task) (n source : ℕ) → (n == 0) ≡ false → task_of d t.number ≡ Some t → is_running t ≡ true → is_clone t.job ≡ true
      → (o : Option (RunningClone ℕ)) → clone_of d t.number ≡ o → is_some o ≡ true
      → length (if_found o (λ (c : RunningClone ℕ). turn_indexes (map (λ s. s) c.image) t.done) []) ≡ next_piece t
      → Allocates d (if_found o (clone_turned (λ s. s) (map (λ _. n) (if_found o (λ (c : RunningClone ℕ). turn_indexes (map (λ s. s) c.image) t.done) [])) d t source) d) m
      (cond (is_last t (next_piece t)) (cond (m == t.number) t.total 0) 0) (cond (is_last t (next_piece t)) 0 0)
  clone_allocates t n source some found runs clone None e there exact = cc
  clone_allocates t n source some found runs clone (Some c) e there exact =
      subst (λ k. Allocates d (clone_turned (λ s. s) (map (λ _. n) (turn_indexes (map (λ s. s) c.image) t.done)) d t source c) m
      (cond (is_last t k) (cond (m == t.number) t.total 0) 0) (cond (is_last t k) 0 0)) exact
      (go (is_last t (length is)) refl)
    where
      is : List ℕ
      is = turn_indexes (map (λ s. s) c.image) t.done

      target : List ℕ
      target = put_at is (map (λ _. n) is) c.target

      number : c.number ≡ t.number
      number = eqb-true c.number t.number (find-passes (λ (b : RunningClone ℕ). b.number == t.number) d.clones c e)

      none : find (λ (w : Volume ℕ). w.number == t.number) d.volumes ≡ None
      none =
          let o : Ordered d = ordered d rules in
          none_of (volume_of d t.number)
          (ap (λ k. is_none (volume_of d k)) (sym number)
          ∙ all-found (λ (b : RunningClone ℕ). is_none (volume_of d b.number)) (λ (b : RunningClone ℕ). b.number == t.number) c d.clones o.apart e)

      go : (b : Bool) → is_last t (length (turn_indexes (map (λ s. s) c.image) t.done)) ≡ b
          → Allocates d (cond b
          (clone_ends d t (length (turn_indexes (map (λ s. s) c.image) t.done)) source c (put_at (turn_indexes (map (λ s. s) c.image) t.done) (map (λ _. n) (turn_indexes (map (λ s. s) c.image) t.done)) c.target))
          (clone_goes_on d t (length (turn_indexes (map (λ s. s) c.image) t.done)) (put_at (turn_indexes (map (λ s. s) c.image) t.done) (map (λ _. n) (turn_indexes (map (λ s. s) c.image) t.done)) c.target))) m
          (cond b (cond (m == t.number) t.total 0) 0) (cond b 0 0)
      go true last =
          let total = clone_count c t n (is_kept d t c rules.clones found e) some last in
          put_held (λ (w : Volume ℕ). nat_lt c.number w.number)
          (cloned_volume c source (put_at (turn_indexes (map (λ s. s) c.image) t.done) (map (λ _. n) (turn_indexes (map (λ s. s) c.image) t.done)) c.target))
          d.volumes t.number number none m
          ∙ ap (λ k. allocated_of d m + cond (m == t.number) k 0) total
      go false last = refl

  pub copy_kept : (t : Task) (c : RunningCopy ℕ) → task_of d t.number ≡ Some t → copy_of d t.number ≡ Some c → is_copy_kept d c t ≡ true
  unfolding copies_rule
  copy_kept t c found e =
      let all : if_found (task_of d c.number) (is_copy_kept d c) false ≡ true =
      all-found (λ (b : RunningCopy ℕ). if_found (task_of d b.number) (is_copy_kept d b) false) (λ (b : RunningCopy ℕ). b.number == t.number) c d.copies
      (and_left _ _ (and_left _ _ rules.copies)) e in
      let number : c.number ≡ t.number = eqb-true c.number t.number (find-passes (λ (b : RunningCopy ℕ). b.number == t.number) d.copies c e) in
      let task : task_of d c.number ≡ Some t = ap (λ k. task_of d k) number ∙ found in
      sym (ap (λ o. if_found o (is_copy_kept d c) false) task) ∙ all

  pub target_kept : (t : Task) (c : RunningCopy ℕ) (target : ℕ) → task_of d t.number ≡ Some t → copy_of d t.number ≡ Some c → job_target t.job ≡ Some target
      → if_found (volume_of d target) (λ (v : Volume ℕ). list_all (λ i. nat_lt i (length v.chunks)) (map (λ (p : Piece ℕ). p.index) c.pieces)) false ≡ true
  target_kept t c target found e aims =
      and_right (not (is_snapshot d target)) _
      (sym (ap (λ o. if_found o (λ n. not (is_snapshot d n)
      && if_found (volume_of d n) (λ (v : Volume ℕ). list_all (λ i. nat_lt i (length v.chunks)) (map (λ (p : Piece ℕ). p.index) c.pieces)) false) false) aims)
      ∙ and_right _ _ (copy_kept t c found e))

  -- The target of a running copy stands, and the pieces go into it.
  pub target_stands : (t : Task) (c : RunningCopy ℕ) (target : ℕ) → task_of d t.number ≡ Some t → copy_of d t.number ≡ Some c → job_target t.job ≡ Some target
      → is_none (volume_of d target) ≡ false
  target_stands t c target found e aims = go (volume_of d target) (target_kept t c target found e aims)
    where
      go : (o : Option (Volume ℕ)) → if_found o (λ (v : Volume ℕ). list_all (λ i. nat_lt i (length v.chunks)) (map (λ (p : Piece ℕ). p.index) c.pieces)) false ≡ true
          → is_none o ≡ false
      go None f = cc
      go (Some v) f = refl

  pub pieces_exact : (t : Task) (c : RunningCopy ℕ) (target : ℕ) → task_of d t.number ≡ Some t → copy_of d t.number ≡ Some c → job_target t.job ≡ Some target
      → (v : Volume ℕ) → volume_of d target ≡ Some v
      → allocated_count (pieces_put c.pieces v.chunks) + unmapping_pieces v.chunks c.pieces ≡ allocated_count v.chunks + allocating_pieces v.chunks c.pieces
  pieces_exact t c target found e aims v at =
      let inside : list_all (λ i. nat_lt i (length v.chunks)) (map (λ (p : Piece ℕ). p.index) c.pieces) ≡ true =
      sym (ap (λ o. if_found o (λ (v : Volume ℕ). list_all (λ i. nat_lt i (length v.chunks)) (map (λ (p : Piece ℕ). p.index) c.pieces)) false) at)
      ∙ target_kept t c target found e aims in
      put_exact (λ (p : Piece ℕ). p.index) (λ (p : Piece ℕ). p.chunk) c.pieces v.chunks (and_right _ _ (and_left _ _ (copy_kept t c found e)))
      (sym (list_all-map (λ i. nat_lt i (length v.chunks)) (λ (p : Piece ℕ). p.index) c.pieces) ∙ inside)

  copy_allocates : (t : Task) (target : ℕ) → task_of d t.number ≡ Some t → job_target t.job ≡ Some target
      → (o : Option (RunningCopy ℕ)) → copy_of d t.number ≡ o
      → Allocates d (if_found o (copy_turned d t target) d) m
      (cond (is_last t (next_piece t)) (cond (m == target) (if_found o (λ (c : RunningCopy ℕ). allocating_pieces (stamps_of d target) c.pieces) 0) 0) 0)
      (cond (is_last t (next_piece t)) (cond (m == target) (if_found o (λ (c : RunningCopy ℕ). unmapping_pieces (stamps_of d target) c.pieces) 0) 0) 0)
  copy_allocates t target found aims None e =
      let z : cond (is_last t (next_piece t)) (cond (m == target) 0 0) 0 ≡ 0 =
      none_more (is_last t (next_piece t)) (cond (m == target) 0 0) (none_more (m == target) 0 refl) in
      omega (arith, z)
  copy_allocates t target found aims (Some c) e = go (is_last t (next_piece t))
    where
      go : (b : Bool) → Allocates d (cond b (copy_ends d t target c) (copy_goes_on d t)) m
          (cond b (cond (m == target) (allocating_pieces (stamps_of d target) c.pieces) 0) 0)
          (cond b (cond (m == target) (unmapping_pieces (stamps_of d target) c.pieces) 0) 0)
      go true =
          changed_allocates target (λ v. record v { chunks = pieces_put c.pieces v.chunks }) (λ v. refl) (target_stands t c target found e aims)
          (allocating_pieces (stamps_of d target) c.pieces) (unmapping_pieces (stamps_of d target) c.pieces)
          (λ v at. let p = pieces_exact t c target found e aims v at in
          let a : allocating_pieces (stamps_of d target) c.pieces ≡ allocating_pieces v.chunks c.pieces =
          ap (λ xs. allocating_pieces xs c.pieces) (chunks_are d target v at) in
          let u : unmapping_pieces (stamps_of d target) c.pieces ≡ unmapping_pieces v.chunks c.pieces =
          ap (λ xs. unmapping_pieces xs c.pieces) (chunks_are d target v at) in
          omega (arith, p, a, u))
      go false = refl

  pub task_number : (t : Task) → task_of d t.number ≡ Some t → (t.number == 0) ≡ false
  unfolding numbers_rule
  task_number t found =
      let logged : (is_logged d.lsn t.number && (not (is_running t) || is_source_logged d.lsn t.job)) ≡ true =
      all-found (λ (t : Task). is_logged d.lsn t.number && (not (is_running t) || is_source_logged d.lsn t.job)) (λ (u : Task). u.number == t.number) t d.tasks
      (and_right _ _ (and_left _ _ (and_left _ _ rules.numbers))) found in
      let least : 1 ≤ t.number =
      leb-true 1 t.number
      (and_left (nat_le 1 t.number) (nat_le t.number d.lsn) (and_left (is_logged d.lsn t.number) (not (is_running t) || is_source_logged d.lsn t.job) logged)) in
      ne_eqb t.number 0 (λ f. omega arith)

  job_allocates : (t : Task) (n : ℕ) → (n == 0) ≡ false → task_of d t.number ≡ Some t → is_running t ≡ true → (job : Job) → t.job ≡ job
      → Allocates d (job_turned (λ s. s) (map (λ _. n) (job_indexes (λ s. s) d t job)) d t job) m
      (cond (is_last t (next_piece t)) (allocated_by_turns d t job m) 0) (cond (is_last t (next_piece t)) (unmapped_by_turns d t job m) 0)
  job_allocates t n some found runs (Clone source) e =
      clone_allocates t n source some found runs (ap is_clone e) (clone_of d t.number) refl (clone_stands d rules t found runs (ap is_clone e))
      (clone_turn_exact d rules t found runs (ap is_clone e))
  job_allocates t n some found runs (Copy source base target) e = copy_allocates t target found (ap job_target e) (copy_of d t.number) refl

  turn_allocates : (n : ℕ)
      → Allocates d (turned (λ s. s) (map (λ _. n) (turned_indexes (λ s. s) d n)) d n) m
      (at_last_turn d n (λ t. allocated_by_turns d t t.job m)) (at_last_turn d n (λ t. unmapped_by_turns d t t.job m))
  unfolding turned turned_indexes
  turn_allocates n = of_task (task_of d n) refl
    where
      run : (t : Task) → (n == 0) ≡ false → task_of d t.number ≡ Some t → (b : Bool) → is_running t ≡ b
          → Allocates d (cond b (job_turned (λ s. s) (map (λ _. n) (cond b (job_indexes (λ s. s) d t t.job) [])) d t t.job) d) m
          (cond (b && is_last t (next_piece t)) (allocated_by_turns d t t.job m) 0) (cond (b && is_last t (next_piece t)) (unmapped_by_turns d t t.job m) 0)
      run t some found true runs = job_allocates t n some found runs t.job refl
      run t some found false runs = refl

      of_task : (o : Option Task) → task_of d n ≡ o
          → Allocates d (if_found o (λ t. cond (is_running t) (job_turned (λ s. s) (map (λ _. n) (if_found o (λ t. cond (is_running t) (job_indexes (λ s. s) d t t.job) []) [])) d t t.job) d) d) m
          (if_found o (λ t. cond (is_running t && is_last t (next_piece t)) (allocated_by_turns d t t.job m) 0) 0)
          (if_found o (λ t. cond (is_running t && is_last t (next_piece t)) (unmapped_by_turns d t t.job m) 0) 0)
      of_task None e = refl
      of_task (Some t) e =
          let number : t.number ≡ n = eqb-true t.number n (find-passes (λ (u : Task). u.number == n) d.tasks t e) in
          let found : task_of d t.number ≡ Some t = ap (λ k. task_of d k) number ∙ e in
          run t (ap (λ k. k == 0) (sym number) ∙ task_number t found) found (is_running t) refl

  only_more : (b : Bool) (e : Durable ℕ) (more : ℕ) → Allocates d e m (cond b more 0) (cond b 0 0) → Allocates d e m (cond b more 0) 0
  only_more b e more h = let z : cond b 0 0 ≡ 0 = none_more b 0 refl in omega (arith, h, z)

  only_less : (b : Bool) (e : Durable ℕ) (less : ℕ) → Allocates d e m (cond b 0 0) (cond b less 0) → Allocates d e m 0 (cond b less 0)
  only_less b e less h = let z : cond b 0 0 ≡ 0 = none_more b 0 refl in omega (arith, h, z)

  -- An accepted change allocates so many chunks of each volume, and unmaps so many.
  allocated_go : (misfit : Option Misfit) (change : Change) → judge misfit d change ≡ Accept
      → Allocates d (effect (λ s. s) (map (λ _. new_stamp d change) (changed_indexes (λ s. s) d change)) 0 d change) m
      (allocated_added d change m) (allocated_taken d change m)
  unfolding effect state_checks with_clone with_copy changed_indexes cancelled
  allocated_go misfit (MakeContainer quota offers) e = refl
  allocated_go misfit (MakeVolume k vtype chunks needs) e =
      let v : Volume ℕ = record { number = d.lsn + 1; container = k; vtype = vtype; kind = Plain; reverted = 0; needs = needs; metadata = []; chunks = replicate chunks 0 } in
      let p = put_held (λ (u : Volume ℕ). nat_lt v.number u.number) v d.volumes (d.lsn + 1) refl none_new m in
      let z : cond (m == d.lsn + 1) (allocated_count v.chunks) 0 ≡ 0 = none_more (m == d.lsn + 1) (allocated_count v.chunks) (allocated-zeros chunks) in
      omega (arith, p, z)
  allocated_go misfit (DeleteVolume n) e = removed_held n d.volumes rising_volumes m
  allocated_go misfit (GrowVolume n chunks) e =
      same_allocates n (λ v. record v { chunks = v.chunks ++ replicate (chunks - length v.chunks) 0 }) (λ v. refl)
      (not_refused (is_none (volume_of d n)) (NotFound in_vvol) (passed_state misfit d (GrowVolume n chunks) e 0))
      (λ v. allocated-longer v.chunks (chunks - length v.chunks))
  allocated_go misfit (SetMetadata n key text) e =
      same_allocates n (λ v. record v { metadata = after_set v.metadata key text }) (λ v. refl)
      (not_refused (is_none (volume_of d n)) (NotFound in_vvol) (passed_state misfit d (SetMetadata n key text) e 0)) (λ v. refl)
  allocated_go misfit (Snapshot n) e =
      some_of (volume_of d n) _ (not_refused (is_none (volume_of d n)) (NotFound in_vvol) (passed_state misfit d (Snapshot n) e 0))
      (λ v found. ap (λ o. allocated_of (if_found o (λ v. and_volume d (record v { number = d.lsn + 1; kind = SnapshotOf (record { 0 = n }) })) d) m + 0) found
      ∙ copied_allocates n v (record v { number = d.lsn + 1; kind = SnapshotOf (record { 0 = n }) }) found refl refl)
  allocated_go misfit (FastClone n) e =
      some_of (volume_of d n) _ (not_refused (is_none (volume_of d n)) (NotFound in_vvol) (passed_state misfit d (FastClone n) e 0))
      (λ v found. ap (λ o. allocated_of (if_found o (λ v. and_volume d (record v { number = d.lsn + 1; kind = FastCloneOf (record { 0 = n }) })) d) m + 0) found
      ∙ copied_allocates n v (record v { number = d.lsn + 1; kind = FastCloneOf (record { 0 = n }) }) found refl refl)
  allocated_go misfit (Revert n snapshot) e =
      some_of (volume_of d snapshot) _ (not_refused (is_none (volume_of d snapshot)) (NotFound in_snapshot) (passed_state misfit d (Revert n snapshot) e 1))
      (λ s at. ap (λ o. allocated_of (if_found o (λ s. with_volume d n (λ v. record v { chunks = s.chunks; reverted = d.lsn + 1 })) d) m
      + cond (m == n) (allocated_of d n) 0) at
      ∙ changed_allocates n (λ v. record v { chunks = s.chunks; reverted = d.lsn + 1 }) (λ v. refl)
      (not_refused (is_none (volume_of d n)) (NotFound in_vvol) (passed_state misfit d (Revert n snapshot) e 0))
      (allocated_of d snapshot) (allocated_of d n)
      (λ v found. let a = allocated_is n v found in
      let b = allocated_is snapshot s at in
      omega (arith, a, b)))
  allocated_go misfit (Write n first blocks) e =
      let is : List ℕ = touched_indexes d.geometry.chunk_blocks first blocks in
      only_more (m == n) (with_volume d n (λ v. record v { chunks = put_at is (map (λ _. d.lsn + 1) is) v.chunks })) (unmapped_count (stamps_of d n) is)
      (changed_allocates n (λ v. record v { chunks = put_at is (map (λ _. d.lsn + 1) is) v.chunks }) (λ v. refl)
      (not_refused (is_none (volume_of d n)) (NotFound in_vvol) (passed_state misfit d (Write n first blocks) e 0))
      (unmapped_count (stamps_of d n) is) 0
      (λ v found. let p = written_count d misfit n first blocks e v found in omega (arith, p)))
  allocated_go misfit (Unmap n ranges) e =
      only_less (m == n) (with_volume d n (λ v. record v { chunks = unmapped_in (λ s. s) 0 ranges v.chunks })) (unmaps_count ranges (stamps_of d n))
      (changed_allocates n (λ v. record v { chunks = unmapped_in (λ s. s) 0 ranges v.chunks }) (λ v. refl)
      (not_refused (is_none (volume_of d n)) (NotFound in_vvol) (passed_state misfit d (Unmap n ranges) e 0))
      0 (unmaps_count ranges (stamps_of d n))
      (λ v found. let u = unmaps_exact ranges 0 v.chunks in
      let s : unmaps_count ranges (stamps_of d n) ≡ unmaps_count ranges v.chunks = ap (unmaps_count ranges) (chunks_are d n v found) in
      omega (arith, u, s)))
  allocated_go misfit (SetEndpoints host endpoints) e = refl
  allocated_go misfit (Bind host n) e = refl
  allocated_go misfit (Unbind host endpoint secondary) e = refl
  allocated_go misfit (UnbindAll host) e = refl
  allocated_go misfit (StartClone n) e = found_same d m (volume_of d n) (clone_started (λ s. s) 0 d n) (λ v. refl)
  allocated_go misfit (StartCopy source base target) e =
      found_same d m (volume_of d source) (λ v. if_found (volume_of d base)
      (λ w. copy_started d (Copy source base target) (difference (λ s. s) v.chunks w.chunks)) d)
      (λ v. found_same d m (volume_of d base) (λ w. copy_started d (Copy source base target) (difference (λ s. s) v.chunks w.chunks)) (λ w. refl))
  allocated_go misfit (Turn n) e = turn_allocates n
  allocated_go misfit (Cancel n) e = refl

pub allocated_after : (misfit : Option Misfit) (d : Durable ℕ) (change : Change) → is_well_formed_shape d ≡ true → judge misfit d change ≡ Accept → (n : ℕ)
    → allocated_of (apply_shape d change) n + allocated_taken d change n ≡ allocated_of d n + allocated_added d change n
unfolding apply_shape apply is_well_formed_shape
allocated_after misfit d change well e n = allocated_go d (kept d (and_left _ _ well)) n misfit change e
