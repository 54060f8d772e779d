-- What running tasks hold, task after task. This serves the running clones and copies.
use Rattle.std.proofs.Common.{ℕ, zero, suc, ◌≡◌, ◌+◌, ◌≤◌, Bool, true, false, cond, List, [], ◌∷◌, ◌++◌, length, take, drop, refl, ap, sym, ◌∙◌, arith}
use Rattle.std.specs.Prelude.{Option, Some, None, option_map, slice_get}
use Rattle.std.specs.List.{flat_map}
use Rattle.vv_flat.specs.Lists.{if_found}
use Rattle.vv_flat.specs.State.{Task, RunningClone, RunningCopy, Durable}
use Rattle.vv_flat.specs.Chunks.{Entry}
use Rattle.vv_flat.specs.Space.{is_running, is_clone}
use Rattle.vv_vols.specs.declared.head.Head.{Head}
use Rattle.vv_record.specs.Spelling.{list_spelling}
use Rattle.vv_tables.specs.Places.{clone_with}
use Rattle.vv_laws.proofs.ListParts.{drop-drop, drop-past}
use Rattle.vv_area.specs.Spelling.{clone_spelling, copy_spelling, piece_spelling, runs_spelling}
use Rattle.vv_spell.specs.declared.runs.Next.{Next}
use Rattle.vv_spell.specs.Window.{WindowState, behind}
use Rattle.vv_spell.specs.Runs.{pieces_at, full_clone, rest_from}
use Rattle.vv_spell.proofs.WindowLemmas.{behind_more, behind_nothing}
use Rattle.vv_spell.proofs.Found.{one_there, none_there}

pub clone_is : (d : Durable Entry) (i n : ℕ) (head : Head)
    → Some (clone_with n head) ≡ option_map (λ (c : RunningClone Entry). record c { image = []; target = [] }) (slice_get d.clones i)
    → slice_get d.clones i ≡ Some (full_clone d i n head)
clone_is d i n head e = go (slice_get d.clones i) e
  where
    go : (o : Option (RunningClone Entry)) → Some (clone_with n head) ≡ option_map (λ (c : RunningClone Entry). record c { image = []; target = [] }) o
        → o ≡ Some (record (clone_with n head) { image = if_found o (λ (c : RunningClone Entry). c.image) []; target = if_found o (λ (c : RunningClone Entry). c.target) [] })
    go None e = absurd (cc)
    go (Some c) e =
        let same : clone_with n head ≡ record c { image = []; target = [] } = cc in
        ap (λ (k : RunningClone Entry). Some (record k { image = c.image; target = c.target })) (sym same)

pub no_clone : (d : Durable Entry) (i : ℕ) → None ≡ option_map (λ (c : RunningClone Entry). record c { image = []; target = [] }) (slice_get d.clones i)
    → flat_map clone_spelling (take 1 (drop i d.clones)) ≡ []
no_clone d i e = none_there clone_spelling d.clones i (go (slice_get d.clones i) e)
  where
    go : (o : Option (RunningClone Entry)) → None ≡ option_map (λ (c : RunningClone Entry). record c { image = []; target = [] }) o → o ≡ None
    go None e = refl
    go (Some c) e = absurd (cc)

pub copy_is : (d : Durable Entry) (i n : ℕ) → Some n ≡ option_map (λ (c : RunningCopy Entry). c.number) (slice_get d.copies i)
    → flat_map copy_spelling (take 1 (drop i d.copies)) ≡ list_spelling 4 piece_spelling (pieces_at d i)
copy_is d i n e = go (slice_get d.copies i) refl e
  where
    go : (o : Option (RunningCopy Entry)) → slice_get d.copies i ≡ o → Some n ≡ option_map (λ (c : RunningCopy Entry). c.number) o
        → flat_map copy_spelling (take 1 (drop i d.copies)) ≡ list_spelling 4 piece_spelling (pieces_at d i)
    go None at e = absurd (cc)
    go (Some c) at e =
        one_there copy_spelling d.copies i c at
        ∙ ap (λ (o : Option (RunningCopy Entry)). list_spelling 4 piece_spelling (if_found o (λ (k : RunningCopy Entry). k.pieces) [])) (sym at)

pub no_copy : (d : Durable Entry) (i : ℕ) → None ≡ option_map (λ (c : RunningCopy Entry). c.number) (slice_get d.copies i)
    → flat_map copy_spelling (take 1 (drop i d.copies)) ≡ []
no_copy d i e = none_there copy_spelling d.copies i (go (slice_get d.copies i) e)
  where
    go : (o : Option (RunningCopy Entry)) → None ≡ option_map (λ (c : RunningCopy Entry). c.number) o → o ≡ None
    go None e = refl
    go (Some c) e = absurd (cc)

-- the tasks from one on
tasks_from : (ts : List Task) (i : ℕ) (t : Task) → slice_get ts i ≡ Some t → drop i ts ≡ t ∷ drop (i + 1) ts
tasks_from [] i t at = absurd (cc)
tasks_from (u ∷ us) zero t at = let same : u ≡ t = cc in ap (λ v. v ∷ us) same
tasks_from (u ∷ us) (suc i) t at =
    let e : suc i + 1 ≡ suc (i + 1) = omega arith in
    tasks_from us i t at ∙ ap (λ m. t ∷ drop m (u ∷ us)) (sym e)

spelled : (t : Task) (ts : List Task) (clones : List (RunningClone Entry)) (copies : List (RunningCopy Entry)) (r k : Bool)
    → is_running t ≡ r → is_clone t.job ≡ k
    → runs_spelling (t ∷ ts) clones copies ≡ cond r (cond k (flat_map clone_spelling (take 1 clones) ++ runs_spelling ts (drop 1 clones) copies) (flat_map copy_spelling (take 1 copies) ++ runs_spelling ts clones (drop 1 copies))) (runs_spelling ts clones copies)
unfolding runs_spelling
spelled t ts clones copies r k runs is_one =
    ap (λ b. cond b (cond (is_clone t.job) (flat_map clone_spelling (take 1 clones) ++ runs_spelling ts (drop 1 clones) copies) (flat_map copy_spelling (take 1 copies) ++ runs_spelling ts clones (drop 1 copies))) (runs_spelling ts clones copies)) runs
    ∙ ap (λ b. cond r (cond b (flat_map clone_spelling (take 1 clones) ++ runs_spelling ts (drop 1 clones) copies) (flat_map copy_spelling (take 1 copies) ++ runs_spelling ts clones (drop 1 copies))) (runs_spelling ts clones copies)) is_one

from : (d : Durable Entry) (i : ℕ) (next : Next) (t : Task) → slice_get d.tasks i ≡ Some t
    → rest_from d i next ≡ runs_spelling (t ∷ drop (i + 1) d.tasks) (drop next.clones d.clones) (drop next.copies d.copies)
from d i next t at = ap (λ ts. runs_spelling ts (drop next.clones d.clones) (drop next.copies d.copies)) (tasks_from d.tasks i t at)

pub run_other : (d : Durable Entry) (i : ℕ) (next : Next) (t : Task) → slice_get d.tasks i ≡ Some t → is_running t ≡ false
    → rest_from d (i + 1) next ≡ rest_from d i next
run_other d i next t at runs =
    sym (from d i next t at ∙ spelled t (drop (i + 1) d.tasks) (drop next.clones d.clones) (drop next.copies d.copies) false (is_clone t.job) runs refl)

pub run_clone : (s u : WindowState) (d : Durable Entry) (i : ℕ) (next : Next) (t : Task) → slice_get d.tasks i ≡ Some t → is_running t ≡ true → is_clone t.job ≡ true
    → u ≡ behind s (flat_map clone_spelling (take 1 (drop next.clones d.clones)))
    → behind u (rest_from d (i + 1) (record { clones = next.clones + 1; copies = next.copies })) ≡ behind s (rest_from d i next)
run_clone s u d i next t at runs is_one put =
    let x : List ℕ = flat_map clone_spelling (take 1 (drop next.clones d.clones)) in
    let rest : List ℕ = rest_from d (i + 1) (record { clones = next.clones + 1; copies = next.copies }) in
    let step : rest_from d i next ≡ x ++ rest =
    from d i next t at ∙ spelled t (drop (i + 1) d.tasks) (drop next.clones d.clones) (drop next.copies d.copies) true true runs is_one
    ∙ ap (λ cs. x ++ runs_spelling (drop (i + 1) d.tasks) cs (drop next.copies d.copies)) (drop-drop 1 next.clones d.clones) in
    ap (λ w. behind w rest) put ∙ behind_more s x rest ∙ ap (behind s) (sym step)

pub run_copy : (s u : WindowState) (d : Durable Entry) (i : ℕ) (next : Next) (t : Task) → slice_get d.tasks i ≡ Some t → is_running t ≡ true → is_clone t.job ≡ false
    → u ≡ behind s (flat_map copy_spelling (take 1 (drop next.copies d.copies)))
    → behind u (rest_from d (i + 1) (record { clones = next.clones; copies = next.copies + 1 })) ≡ behind s (rest_from d i next)
run_copy s u d i next t at runs is_one put =
    let x : List ℕ = flat_map copy_spelling (take 1 (drop next.copies d.copies)) in
    let rest : List ℕ = rest_from d (i + 1) (record { clones = next.clones; copies = next.copies + 1 }) in
    let step : rest_from d i next ≡ x ++ rest =
    from d i next t at ∙ spelled t (drop (i + 1) d.tasks) (drop next.clones d.clones) (drop next.copies d.copies) true false runs is_one
    ∙ ap (λ cs. x ++ runs_spelling (drop (i + 1) d.tasks) (drop next.clones d.clones) cs) (drop-drop 1 next.copies d.copies) in
    ap (λ w. behind w rest) put ∙ behind_more s x rest ∙ ap (behind s) (sym step)

pub run_done : (s t : WindowState) (d : Durable Entry) (i : ℕ) (next : Next) (text : List ℕ) → length d.tasks ≤ i → behind t (rest_from d i next) ≡ behind s text → t ≡ behind s text
unfolding runs_spelling
run_done s t d i next text le e =
    let none : rest_from d i next ≡ [] = ap (λ ts. runs_spelling ts (drop next.clones d.clones) (drop next.copies d.copies)) (drop-past i d.tasks le) in
    sym (behind_nothing t) ∙ sym (ap (behind t) none) ∙ e
