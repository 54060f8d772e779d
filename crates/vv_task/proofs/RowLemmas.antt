-- The rows of a table of tasks, looked up and edited, and what a table keeps through its calls.
use Rattle.std.proofs.Common.{◌≡◌, ℕ, ◌+◌, ◌<◌, ◌≤◌, ◌&&◌, not, refl, ap, sym, ◌∙◌, Bool, true, false, cond, List, [], ◌∷◌, ◌++◌, map, length, length-append, set, get_or, arith}
use Rattle.std.specs.Prelude.{Option, Some, None, is_some, nat_lt, nat_le, count_by}
use Rattle.std.specs.List.{find, position, list_all}
use Rattle.std.proofs.lemmas.Bool.{eqb-true}
use Rattle.std.proofs.lemmas.Bool.Decides.{nat_tests}
use Rattle.std.proofs.lemmas.List.{length-map}
use Rattle.std.proofs.lemmas.List.Folds.{list_all-append}
use Rattle.std.proofs.lemmas.List.Sums.{sum_by-append, sum_by-cons}
use Rattle.vv_units.specs.declared.volume.TaskState.{TaskState}
use Rattle.vv_units.specs.declared.volume.TaskState.TheVariants.{Running, Success, Cancelled, Interrupted}
use Rattle.vv_flat.specs.Lists.{if_found, first_changed, first_removed, put_before, all_rising}
use Rattle.vv_flat.specs.State.{Task}
use Rattle.vv_flat.specs.Space.{is_running, is_running_state}
use Rattle.vv_flat.specs.Tasks.{with_room, started, with_task, advanced, task_cancelled}
use Rattle.vv_flat.specs.Restart.{interrupted_task}
use Rattle.vv_flat.proofs.Shares.{and_both, list_all-follows}
use Rattle.vv_flat.proofs.MapLists.{map-after}
use Rattle.vv_flat.proofs.Known.{all-removed}
use Rattle.vv_flat.proofs.Sums.{sum-removed, sum-changed}
use Rattle.vv_flat.proofs.Positions.{found_is, found_passes, changed_step, length-removed}
use Rattle.vv_flat.proofs.Steps.{find-passes}
use Rattle.vv_task.specs.Table.{is_numbered, numbers, is_above_all, task_numbered, runs, noted, IsKept}
use Rattle.vv_flat.proofs.KeepLists.{rising-removed}
use Rattle.vv_flat.proofs.RisingRows.{rising-push, keys-changed, length-changed, put-last, count-all}

pub place_in : {A : Type 0} (p : A → Bool) (xs lent : List A) (r : Option ℕ) → lent ≡ xs → r ≡ position p lent → position p xs ≡ r
place_in p xs lent r e h = ap (λ ys. position p ys) (sym e) ∙ sym h

-- how many run of a task alone
abbrev one : Task → ℕ
one t = cond (is_running t) 1 0

at_most_one : (b : Bool) → cond b 1 0 ≤ 1
at_most_one true = omega arith
at_most_one false = omega arith

-- ---- what is noted of a task that is found
pub note_is : (xs : List Task) (n at more : ℕ) (x y : Task) → position (is_numbered n) xs ≡ Some at → x ≡ get_or xs at x → y ≡ advanced x more
    → set xs at y ≡ noted xs n more
note_is xs n at more x y place is next =
    let found : task_numbered xs n ≡ Some x = found_is (is_numbered n) xs at x place is in
    let same : x.number ≡ n = eqb-true x.number n (found_passes (is_numbered n) xs at x place is) in
    changed_step (is_numbered n) (λ _. advanced x more) xs at x y place is next
    ∙ ap (λ m. first_changed (is_numbered m) (λ _. advanced x more) xs) (sym same)
    ∙ sym (ap (λ o. if_found o (λ t. with_task xs (advanced t more)) xs) found)

-- ---- one task changed
kept-changed : (xs next : List Task) (room more : ℕ) (p : Task → Bool) (g : Task → Task) → IsKept xs room
    → ((x : Task) → p x ≡ true → (g x).number ≡ x.number) → ((x : Task) → find p xs ≡ Some x → one (g x) ≤ one x + 0)
    → next ≡ first_changed p g xs → more ≡ room → IsKept next more
kept-changed xs next room more p g kept keeps fewer is same = record {
  few = rw is (let l = length-changed p g xs in let f = kept.few in omega arith);
  fits = let f = kept.fits in omega arith;
  rise = rw is (ap all_rising (keys-changed (λ (t : Task). t.number) p g keeps xs) ∙ kept.rise);
  few_run = rw is (let c : count_by is_running (first_changed p g xs) ≤ count_by is_running xs + 0 = sum-changed one p g 0 xs fewer in let f = kept.few_run in omega arith);
}

pub kept-cancelled : (xs next : List Task) (room more n : ℕ) → IsKept xs room → next ≡ task_cancelled xs n → more ≡ room → IsKept next more
kept-cancelled xs next room more n kept is same =
    kept-changed xs next room more (is_numbered n) (λ (t : Task). record t { state = Cancelled }) kept (λ x e. refl) (λ x e. omega arith) is same

same_task : (x y : Task) → Some x ≡ Some y → x ≡ y
same_task x y e = cc

noted_kept : (xs next : List Task) (room more n m : ℕ) (o : Option Task) → task_numbered xs n ≡ o → IsKept xs room → if_found o is_running false ≡ true
    → next ≡ if_found o (λ t. with_task xs (advanced t m)) xs → more ≡ room → IsKept next more
noted_kept xs next room more n m None found kept run is same = absurd (cc)
noted_kept xs next room more n m (Some t) found kept run is same =
    let number : t.number ≡ n = eqb-true t.number n (find-passes (is_numbered n) xs t found) in
    kept-changed xs next room more (is_numbered t.number) (λ _. advanced t m) kept
    (λ x e. sym (eqb-true x.number t.number e))
    (λ x e. let other : task_numbered xs n ≡ Some x = ap (λ k. find (is_numbered k) xs) (sym number) ∙ e in
    let u : t ≡ x = same_task t x (sym found ∙ other) in
    let r : one x ≡ 1 = ap one (sym u) ∙ ap (λ b. cond b 1 0) run in
    let l : one (advanced t m) ≤ 1 = at_most_one (is_running (advanced t m)) in omega arith) is same

pub kept-noted : (xs next : List Task) (room more n m : ℕ) → IsKept xs room → runs xs n ≡ true → next ≡ noted xs n m → more ≡ room → IsKept next more
kept-noted xs next room more n m kept run is same = noted_kept xs next room more n m (task_numbered xs n) refl kept run is same

-- ---- all interrupted
stopped : (t : Task) → is_running (interrupted_task t) ≡ false
stopped t = go t.state
  where
    go : (state : TaskState) → is_running (interrupted_task (record t { state = state })) ≡ false
    go Running = refl
    go Success = refl
    go Cancelled = refl
    go Interrupted = refl

number_stays : (t : Task) → (interrupted_task t).number ≡ t.number
number_stays t = go (is_running t)
  where
    go : (b : Bool) → (cond b (record t { state = Interrupted }) t).number ≡ t.number
    go true = refl
    go false = refl

none_run : (xs : List Task) → count_by is_running (map interrupted_task xs) ≡ 0
none_run [] = refl
none_run (x ∷ xs) =
    let c : count_by is_running (map interrupted_task (x ∷ xs)) ≡ one (interrupted_task x) + count_by is_running (map interrupted_task xs) =
    sum_by-cons one (interrupted_task x) (map interrupted_task xs) in
    let z : one (interrupted_task x) ≡ 0 = ap (λ b. cond b 1 0) (stopped x) in
    let t : count_by is_running (map interrupted_task xs) ≡ 0 = none_run xs in
    omega (arith, c, z, t)

pub kept-interrupted : (xs next : List Task) (room more : ℕ) → IsKept xs room → next ≡ map interrupted_task xs → more ≡ room → IsKept next more
kept-interrupted xs next room more kept is same = record {
  few = rw is (let l = length-map xs interrupted_task in let f = kept.few in omega arith);
  fits = let f = kept.fits in omega arith;
  rise = rw is (ap all_rising (map-after interrupted_task (λ (t : Task). t.number) (λ (t : Task). t.number) number_stays xs) ∙ kept.rise);
  few_run = rw is (let z = none_run xs in omega arith);
}

-- ---- one more task
kept-push : (xs next : List Task) (more : ℕ) (t : Task) → length xs < 256 → all_rising (numbers xs) ≡ true → is_above_all t.number xs ≡ true
    → count_by is_running xs + one t ≤ 16 → 256 ≤ more → next ≡ xs ++ t ∷ [] → IsKept next more
kept-push xs next more t few rise above run fits is = record {
  few = rw is (let l = length-append xs (t ∷ []) in omega arith);
  fits = fits;
  rise = rw is (rising-push (λ (u : Task). u.number) t xs above rise);
  few_run = rw is (
      let c : count_by is_running (xs ++ t ∷ []) ≡ count_by is_running xs + count_by is_running (t ∷ []) = sum_by-append one xs (t ∷ []) in
      let d : count_by is_running (t ∷ []) ≡ one t + 0 = sum_by-cons one t [] in
      omega arith);
}

one_of : (t : Task) (n : ℕ) → n ≤ 16 → (t.state ≡ Running → n < 16) → n + one t ≤ 16
one_of t n le may = go t.state may
  where
    go : (state : TaskState) → (state ≡ Running → n < 16) → n + cond (is_running_state state) 1 0 ≤ 16
    go Running h = let l : n < 16 = h refl in omega arith
    go Success h = omega arith
    go Cancelled h = omega arith
    go Interrupted h = omega arith

pub kept-restored : (xs next : List Task) (room more : ℕ) (t : Task) → IsKept xs room → length xs < 256 → is_above_all t.number xs ≡ true
    → (t.state ≡ Running → count_by is_running xs < 16) → next ≡ xs ++ t ∷ [] → room ≤ more → IsKept next more
kept-restored xs next room more t kept few above may is larger =
    kept-push xs next more t few kept.rise above (one_of t (count_by is_running xs) kept.few_run may)
    (let f = kept.fits in omega arith) is

-- ---- room for one more
abbrev ended : Task → Bool
ended t = not (is_running t)

is_le : (m n : ℕ) → nat_le m n ≡ true → m ≤ n
is_le m n h = grind (arith, nat_tests)

is_not_le : (m n : ℕ) → nat_le m n ≡ false → n < m
is_not_le m n h = grind (arith, nat_tests)

-- where fewer run than there are, one doesn't
some_ended : (xs : List Task) → count_by is_running xs < length xs → is_some (find ended xs) ≡ true
some_ended xs fewer = go (find ended xs) refl
  where
    go : (o : Option Task) → find ended xs ≡ o → is_some o ≡ true
    go None e = let c = count-all is_running xs e in absurd (omega arith)
    go (Some t) e = refl

room_case : (xs : List Task) (b : Bool) → nat_le 256 (length xs) ≡ b → length xs ≤ 256 → count_by is_running xs < 16
    → length (cond b (first_removed ended xs) xs) < 256
room_case xs true is few run =
    let full : 256 ≤ length xs = is_le 256 (length xs) is in
    let l = length-removed ended xs (some_ended xs (omega arith)) in
    omega arith
room_case xs false is few run = is_not_le 256 (length xs) is

pub room_left : (xs : List Task) (room : ℕ) → IsKept xs room → count_by is_running xs < 16 → length (with_room xs) < 256
room_left xs room kept run = room_case xs (nat_le 256 (length xs)) refl kept.few run

above_case : (n : ℕ) (xs : List Task) (b : Bool) → is_above_all n xs ≡ true → is_above_all n (cond b (first_removed ended xs) xs) ≡ true
above_case n xs true h = all-removed (λ (t : Task). nat_lt t.number n) ended xs h
above_case n xs false h = h

above_room : (n : ℕ) (xs : List Task) → is_above_all n xs ≡ true → is_above_all n (with_room xs) ≡ true
above_room n xs h = above_case n xs (nat_le 256 (length xs)) h

rise_case : (xs : List Task) (b : Bool) → all_rising (numbers xs) ≡ true → all_rising (numbers (cond b (first_removed ended xs) xs)) ≡ true
rise_case xs true h = rising-removed (λ (t : Task). t.number) ended xs h
rise_case xs false h = h

run_case : (xs : List Task) (b : Bool) → count_by is_running (cond b (first_removed ended xs) xs) ≤ count_by is_running xs
run_case xs true = sum-removed one ended xs
run_case xs false = omega arith

pub kept-started : (xs made next : List Task) (room more : ℕ) (t : Task) → IsKept xs room → is_above_all t.number xs ≡ true → count_by is_running xs < 16
    → made ≡ with_room xs → next ≡ made ++ t ∷ [] → room ≤ more → IsKept next more
kept-started xs made next room more t kept above run makes is larger =
    let fewer : count_by is_running (with_room xs) ≤ count_by is_running xs = run_case xs (nat_le 256 (length xs)) in
    let last : one t ≤ 1 = at_most_one (is_running t) in
    kept-push (with_room xs) next more t (room_left xs room kept run) (rise_case xs (nat_le 256 (length xs)) kept.rise) (above_room t.number xs above)
    (omega arith) (let f = kept.fits in omega arith) (is ∙ ap (λ ys. ys ++ t ∷ []) makes)

not_below : (m n : ℕ) → nat_lt m n ≡ true → not (nat_lt n m) ≡ true
not_below m n h = grind (arith, nat_tests)

-- a task above all others, put in order, is the last
pub put_above : (xs : List Task) (t : Task) → is_above_all t.number xs ≡ true → put_before (λ (u : Task). nat_lt t.number u.number) t xs ≡ xs ++ t ∷ []
put_above xs t above =
    put-last (λ (u : Task). nat_lt t.number u.number) t xs
    (list_all-follows (λ (u : Task). nat_lt u.number t.number) (λ (u : Task). not (nat_lt t.number u.number))
    (λ u h. not_below u.number t.number h) xs above)

pub start_is : (xs made next now : List Task) (row t : Task) → xs ≡ now → made ≡ with_room xs → next ≡ made ++ row ∷ [] → row ≡ t
    → is_above_all t.number now ≡ true → next ≡ started now t
start_is xs made next now row t view makes is same above =
    is ∙ ap (λ u. made ++ u ∷ []) same ∙ ap (λ ys. ys ++ t ∷ []) (makes ∙ ap with_room view)
    ∙ sym (put_above (with_room now) t (above_room t.number now above))

-- ---- the next number
next_above : (m n : ℕ) → nat_lt m n ≡ true → nat_lt m (n + 1) ≡ true
next_above m n h = grind (arith, nat_tests)

above_next : (n : ℕ) → (nat_lt n (n + 1) && true) ≡ true
above_next n = grind (arith, nat_tests)

-- the next number is above all, and above a task of this number too
above-push : (xs : List Task) (t : Task) → is_above_all t.number xs ≡ true → is_above_all (t.number + 1) (xs ++ t ∷ []) ≡ true
above-push xs t above =
    list_all-append (λ (u : Task). nat_lt u.number (t.number + 1)) xs (t ∷ [])
    ∙ and_both (list_all (λ (u : Task). nat_lt u.number (t.number + 1)) xs) (nat_lt t.number (t.number + 1) && true)
    (list_all-follows (λ (u : Task). nat_lt u.number t.number) (λ (u : Task). nat_lt u.number (t.number + 1))
    (λ u h. next_above u.number t.number h) xs above) (above_next t.number)

above-started : (xs : List Task) (t : Task) → is_above_all t.number xs ≡ true → is_above_all (t.number + 1) (started xs t) ≡ true
above-started xs t above =
    ap (λ ys. is_above_all (t.number + 1) ys) (put_above (with_room xs) t (above_room t.number xs above))
    ∙ above-push (with_room xs) t (above_room t.number xs above)

pub next_restored : (xs next : List Task) (t : Task) (n : ℕ) → t.number ≡ n → is_above_all n xs ≡ true → next ≡ xs ++ t ∷ [] → is_above_all (n + 1) next ≡ true
next_restored xs next t n number above is =
    ap (λ ys. is_above_all (n + 1) ys) is ∙ ap (λ m. is_above_all (m + 1) (xs ++ t ∷ [])) (sym number)
    ∙ above-push xs t (ap (λ m. is_above_all m xs) number ∙ above)

pub next_started : (xs next : List Task) (t : Task) (n : ℕ) → t.number ≡ n → is_above_all n xs ≡ true → next ≡ started xs t → is_above_all (n + 1) next ≡ true
next_started xs next t n number above is =
    ap (λ ys. is_above_all (n + 1) ys) is ∙ ap (λ m. is_above_all (m + 1) (started xs t)) (sym number)
    ∙ above-started xs t (ap (λ m. is_above_all m xs) number ∙ above)
