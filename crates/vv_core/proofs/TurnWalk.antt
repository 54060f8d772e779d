-- For the indexes of a clone's turn: what is still to be found behind a chunk of its image, and what is found in the end.
use Rattle.std.proofs.Common.{ℕ, zero, suc, ◌≡◌, ◌+◌, ◌-◌, ◌<◌, ◌≤◌, ◌==◌, not, min, Bool, true, false, cond, List, [], ◌∷◌, ◌++◌, map, take, drop, length, Option, Some, None, option_map, slice_get, refl, sym, ap, ◌∙◌, append_assoc, arith}
use Rattle.std.specs.Prelude.{option_and_then, IfOk, Result, Ok, Err, nat_le}
use Rattle.std.specs.List.{list_all}
use Rattle.std.proofs.lemmas.Bool.{leb-true, eq-eqb, ne_eqb, eqb-true}
use Rattle.std.proofs.lemmas.List.{append-nil, length-take}
use Rattle.std.proofs.lemmas.Option.{slice_get-map}
use Rattle.vv_flat.specs.Lists.{if_found, indexes_from}
use Rattle.vv_flat.specs.State.{Job, Clone, Copy, Task, RunningClone, Durable, task_of, clone_of, map_clone}
use Rattle.vv_flat.specs.Chunks.{Entry, shape_of_tables}
use Rattle.vv_flat.specs.Space.{is_running, is_volume_size}
use Rattle.vv_flat.specs.Rules.{sizes_rule}
use Rattle.vv_flat.specs.WellFormed.{is_well_formed}
use Rattle.vv_flat.specs.Tasks.{turn_indexes, turned_indexes, job_indexes}
use Rattle.vv_flat.specs.Changes.{Turn, changed_indexes}
use Rattle.vv_flat.proofs.Kept.{kept}
use Rattle.vv_flat.proofs.Known.{all-found}
use Rattle.vv_flat.proofs.Shares.{and_left, and_right}
use Rattle.vv_flat.proofs.Steps.{find-passes}
use Rattle.vv_laws.proofs.WellFormed.{shape_rules}
use Rattle.vv_entries.specs.declared.entry.Entry.{Entry as PlacedEntry}
use Rattle.vv_vols.specs.Rows.{seen_entry}
use Rattle.vv_vols.proofs.FoundSplit.{found_mapped}
use Rattle.vv_core.specs.Turns.{copied_of, copied_by, image_stamps, next_indexes, with_index, next_of}

abbrev stamp : Entry → ℕ
stamp e = e.stamp

-- ---- lists

none_dropped : (n : ℕ) → drop {A = ℕ} n [] ≡ []
none_dropped zero = refl
none_dropped (suc n) = refl

none_taken : (n : ℕ) → take {A = ℕ} n [] ≡ []
none_taken zero = refl
none_taken (suc n) = refl

drop_at : (xs : List ℕ) (i x : ℕ) → slice_get xs i ≡ Some x → drop i xs ≡ x ∷ drop (suc i) xs
drop_at [] i x at = absurd (cc)
drop_at (y ∷ ys) zero x at = let is : y ≡ x = cc in ap (λ z. z ∷ ys) is
drop_at (y ∷ ys) (suc i) x at = drop_at ys i x at

drop_end : (xs : List ℕ) (i : ℕ) → slice_get xs i ≡ None → drop i xs ≡ []
drop_end [] i at = none_dropped i
drop_end (x ∷ xs) zero at = absurd (cc)
drop_end (x ∷ xs) (suc i) at = drop_end xs i at

get_within : (xs : List ℕ) (i x : ℕ) → slice_get xs i ≡ Some x → i < length xs
get_within [] i x at = absurd (cc)
get_within (y ∷ ys) zero x at = omega arith
get_within (y ∷ ys) (suc i) x at = let rest : i < length ys = get_within ys i x at in omega arith

-- ---- the walk along an image

-- the allocated indexes from an index on
abbrev pub behind : List ℕ → ℕ → List ℕ
behind stamps i = indexes_from (λ k s. not (s == 0)) i (drop i stamps)

pub behind_step : (stamps : List ℕ) (i s : ℕ) → slice_get stamps i ≡ Some s → behind stamps i ≡ with_index i s (behind stamps (i + 1))
behind_step stamps i s at =
    let next : suc i ≡ i + 1 = omega arith in
    ap (indexes_from (λ k s. not (s == 0)) i) (drop_at stamps i s at ∙ ap (λ k. s ∷ drop k stamps) next)

behind_end : (stamps : List ℕ) (i : ℕ) → slice_get stamps i ≡ None → behind stamps i ≡ []
behind_end stamps i at = ap (indexes_from (λ k s. not (s == 0)) i) (drop_end stamps i at)

nothing_more : (found : List ℕ) (ahead : ℕ) → next_of found ahead [] ≡ found
nothing_more found ahead =
    ap (λ xs. found ++ take (16 - length found) xs) (none_dropped ahead) ∙ ap (λ xs. found ++ xs) (none_taken (16 - length found)) ∙ append-nil found

-- the whole is found where the image has no more chunks, or as many are found as a turn copies
pub walk_ends : (stamps found : List ℕ) (ahead i : ℕ) → slice_get stamps i ≡ None → next_of found ahead (behind stamps i) ≡ found
walk_ends stamps found ahead i at = ap (next_of found ahead) (behind_end stamps i at) ∙ nothing_more found ahead

pub walk_full : (found rest : List ℕ) (ahead : ℕ) → 16 ≤ length found → next_of found ahead rest ≡ found
walk_full found rest ahead full =
    let none : 16 - length found ≡ 0 = omega arith in
    ap (λ k. found ++ take k (drop ahead rest)) none ∙ append-nil found

-- A chunk of the image is unmapped, or passed over, or its index is taken.

allocated_index : (i s : ℕ) (rest : List ℕ) → (s ≡ 0 → ⊥) → with_index i s rest ≡ i ∷ rest
allocated_index i s rest some = ap (λ b. cond (not b) (i ∷ rest) rest) (ne_eqb s 0 some)

pub passes_unmapped : (found : List ℕ) (ahead i s : ℕ) (rest : List ℕ) → s ≡ 0 → next_of found ahead (with_index i s rest) ≡ next_of found ahead rest
passes_unmapped found ahead i s rest none = ap (λ b. next_of found ahead (cond (not b) (i ∷ rest) rest)) (eq-eqb s 0 none)

pub passes_over : (found : List ℕ) (ahead i s : ℕ) (rest : List ℕ) → (s ≡ 0 → ⊥) → 0 < ahead
    → next_of found ahead (with_index i s rest) ≡ next_of found (ahead - 1) rest
passes_over found ahead i s rest some more =
    let next : ahead ≡ suc (ahead - 1) = omega arith in
    ap (next_of found ahead) (allocated_index i s rest some) ∙ ap (λ k. next_of found k (i ∷ rest)) next

pub takes_index : (found : List ℕ) (ahead i s : ℕ) (rest : List ℕ) → (s ≡ 0 → ⊥) → ahead ≡ 0 → length found < 16
    → next_of found ahead (with_index i s rest) ≡ next_of (found ++ (i ∷ [])) 0 rest
takes_index found ahead i s rest some none room =
    let one : length (found ++ (i ∷ [])) ≡ length found + 1 = length_more found in
    let left : 16 - length found ≡ suc (16 - length (found ++ (i ∷ []))) = omega (arith, one, room) in
    ap (next_of found ahead) (allocated_index i s rest some) ∙ ap (λ k. next_of found k (i ∷ rest)) none
    ∙ ap (λ k. found ++ take k (i ∷ rest)) left
    ∙ sym (append_assoc found (i ∷ []) (take (16 - length (found ++ (i ∷ []))) rest))
  where
    length_more : (xs : List ℕ) → length (xs ++ (i ∷ [])) ≡ length xs + 1
    length_more [] = refl
    length_more (x ∷ xs) = let rest : length (xs ++ (i ∷ [])) ≡ length xs + 1 = length_more xs in omega arith

-- ---- the image of a running clone

pub stamp_there : (d : Durable Entry) (n i : ℕ) (e : PlacedEntry) → Some (seen_entry e) ≡ option_and_then (λ (c : RunningClone Entry). slice_get c.image i) (clone_of d n)
    → slice_get (image_stamps d n) i ≡ Some e.stamp
stamp_there d n i e at = go (clone_of d n) at
  where
    go : (o : Option (RunningClone Entry)) → Some (seen_entry e) ≡ option_and_then (λ (c : RunningClone Entry). slice_get c.image i) o
        → slice_get (if_found o (λ (c : RunningClone Entry). map stamp c.image) []) i ≡ Some e.stamp
    go None at = absurd (cc)
    go (Some c) at = slice_get-map stamp c.image i ∙ ap (option_map stamp) (sym at)

pub no_stamp_there : (d : Durable Entry) (n i : ℕ) → None ≡ option_and_then (λ (c : RunningClone Entry). slice_get c.image i) (clone_of d n)
    → slice_get (image_stamps d n) i ≡ None
no_stamp_there d n i at = go (clone_of d n) at
  where
    go : (o : Option (RunningClone Entry)) → None ≡ option_and_then (λ (c : RunningClone Entry). slice_get c.image i) o
        → slice_get (if_found o (λ (c : RunningClone Entry). map stamp c.image) []) i ≡ None
    go None at = refl
    go (Some c) at = slice_get-map stamp c.image i ∙ ap (option_map stamp) (sym at)

-- an image has no more chunks than a volume may have
clones_sized : (d : Durable ℕ) → sizes_rule d ≡ true
    → list_all (λ (c : RunningClone ℕ). is_volume_size d.geometry.chunk_blocks (length c.image)) d.clones ≡ true
unfolding sizes_rule
clones_sized d e = and_right _ _ e

image_few : (d : Durable Entry) (n : ℕ) → is_well_formed d ≡ true → length (image_stamps d n) ≤ 1048576
image_few d n well = go (clone_of d n) refl
  where
    go : (o : Option (RunningClone Entry)) → clone_of d n ≡ o → length (if_found o (λ (c : RunningClone Entry). map stamp c.image) []) ≤ 1048576
    go None e = omega arith
    go (Some c) e =
        leb-true (length (map stamp c.image)) 1048576
        (and_right (nat_le 1 (length (map stamp c.image))) _
        (and_left _ _
        (all-found (λ (k : RunningClone ℕ). is_volume_size d.geometry.chunk_blocks (length k.image)) (λ (k : RunningClone ℕ). k.number == n)
        (map_clone stamp c) (map (map_clone stamp) d.clones)
        (clones_sized (shape_of_tables d) (kept (shape_of_tables d) (shape_rules d well)).sizes)
        (found_mapped (λ (k : RunningClone Entry). k.number == n) (map_clone stamp) (λ (k : RunningClone ℕ). k.number == n) (λ k. refl) d.clones c e))))

-- so an index of a chunk of it is far from the end of all numbers
pub index_few : (d : Durable Entry) (n i s : ℕ) → is_well_formed d ≡ true → slice_get (image_stamps d n) i ≡ Some s
    → (i < length (image_stamps d n)) × (i < 1048576)
index_few d n i s well at =
    let within : i < length (image_stamps d n) = get_within (image_stamps d n) i s at in
    let few : length (image_stamps d n) ≤ 1048576 = image_few d n well in
    (within, omega (arith, within, few))

-- ---- the indexes of a turn

image_found : (o : Option (RunningClone Entry)) (done : ℕ)
    → if_found o (λ (c : RunningClone Entry). turn_indexes (map stamp c.image) done) [] ≡ turn_indexes (if_found o (λ (c : RunningClone Entry). map stamp c.image) []) done
image_found None done = sym (ap (take 16) (none_dropped done))
image_found (Some c) done = refl

of_job : (d : Durable Entry) (t : Task) (n done : ℕ) → t.number ≡ n → (j : Job) → copied_of j t.done ≡ Some done
    → job_indexes stamp d t j ≡ next_indexes d n done
of_job d t n done same (Clone volume) e =
    let is : t.done ≡ done = cc in
    ap (λ m. if_found (clone_of d m) (λ (c : RunningClone Entry). turn_indexes (map stamp c.image) t.done) []) same
    ∙ image_found (clone_of d n) t.done ∙ ap (next_indexes d n) is
of_job d t n done same (Copy source base target) e = absurd (cc)

of_no_job : (d : Durable Entry) (t : Task) (j : Job) → copied_of j t.done ≡ None → job_indexes stamp d t j ≡ []
of_no_job d t (Clone volume) e = absurd (cc)
of_no_job d t (Copy source base target) e = refl

-- those of a clone that runs
pub turn_of_running : (d : Durable Entry) (n done : ℕ) → Some done ≡ option_and_then copied_by (task_of d n)
    → next_indexes d n done ≡ changed_indexes stamp d (Turn n)
unfolding changed_indexes turned_indexes
turn_of_running d n done e = go (task_of d n) refl e
  where
    running : (t : Task) → t.number ≡ n → (b : Bool) → Some done ≡ cond b (copied_of t.job t.done) None
        → next_indexes d n done ≡ cond b (job_indexes stamp d t t.job) []
    running t same true e = sym (of_job d t n done same t.job (sym e))
    running t same false e = absurd (cc)

    go : (o : Option Task) → task_of d n ≡ o → Some done ≡ option_and_then copied_by o
        → next_indexes d n done ≡ if_found o (λ t. cond (is_running t) (job_indexes stamp d t t.job) []) []
    go None found e = absurd (cc)
    go (Some t) found e =
        running t (eqb-true t.number n (find-passes (λ (t : Task). t.number == n) d.tasks t found)) (is_running t) e

-- and of any other task
pub turn_of_none : (d : Durable Entry) (n : ℕ) → None ≡ option_and_then copied_by (task_of d n) → [] ≡ changed_indexes stamp d (Turn n)
unfolding changed_indexes turned_indexes
turn_of_none d n e = go (task_of d n) e
  where
    still : (t : Task) (b : Bool) → None ≡ cond b (copied_of t.job t.done) None → [] ≡ cond b (job_indexes stamp d t t.job) []
    still t true e = sym (of_no_job d t t.job (sym e))
    still t false e = refl

    go : (o : Option Task) → None ≡ option_and_then copied_by o → [] ≡ if_found o (λ t. cond (is_running t) (job_indexes stamp d t t.job) []) []
    go None e = refl
    go (Some t) e = still t (is_running t) e

pub few_indexes : (d : Durable Entry) (n done : ℕ) → length (next_indexes d n done) ≤ 16
few_indexes d n done =
    let long : length (next_indexes d n done) ≡ min 16 (length (drop done (indexes_from (λ k s. not (s == 0)) 0 (image_stamps d n)))) =
    length-take 16 (drop done (indexes_from (λ k s. not (s == 0)) 0 (image_stamps d n))) in
    omega (arith, long)

-- what is said of a value, if there is one
pub if_ok : {A E : Type 0} {P Q : A → Type 0} (r : Result A E) → ((x : A) → P x → Q x) → IfOk r P → IfOk r Q
if_ok (Ok x) f h = f x h
if_ok (Err e) f h = h
