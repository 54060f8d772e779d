-- What a reader tells in the end stays as it reads and is fed.
use Rattle.std.proofs.Common.{◌≡◌, ℕ, ◌+◌, ◌<◌, ◌≤◌, Bool, true, false, cond, eqb, List, [], ◌++◌, length, take, drop, refl, sym, ap, subst, ◌∙◌, arith, append_assoc, append-nil, length-append, length-take-le, inl, inr}
use Rattle.std.specs.Prelude.{Result, Ok, Err}
use Rattle.std.proofs.lemmas.Bool.{cases_lt, eqb-true, eqb-false, leb-true}
use Rattle.std.proofs.lemmas.List.{take-append-drop, drop_all}
use Rattle.vv_units.specs.declared.geometry.Geometry.{Geometry}
use Rattle.vv_fields.specs.Fields.{ReaderState}
use Rattle.vv_record.specs.declared.record.RecordFault.{RecordFault}
use Rattle.vv_record.specs.declared.record.RecordFault.TheVariants as fault
use Rattle.vv_record.specs.Reading.{Reading, Read, Fault, then_read, Fails}
use Rattle.vv_record.specs.Records.{ended}
use Rattle.vv_flat.specs.State.{Durable}
use Rattle.vv_flat.specs.Chunks.{Entry}
use Rattle.vv_area.specs.Area.{tables_in}
use Rattle.vv_area_reader.specs.Progress.{Progress}
use Rattle.vv_area_reader.specs.Steps.{step_at}
use Rattle.vv_area_reader.specs.Rest.{rest_at, rest_of}
use Rattle.vv_area_reader.specs.Told.{AreaReading, moved_by, told, new_reading}
use Rattle.vv_area_reader.specs.Making.{step_limit, HasEnough, FailsAt, passed_by, is_whole_at}
use Rattle.vv_area_reader.specs.declared.stage.Stage.{Stage}
use Rattle.vv_area_reader.specs.declared.stage.Stage.TheVariants as stage
use Rattle.vv_area_reader.proofs.Local.{within, among, Carried}
use Rattle.vv_area_reader.proofs.LocalRests.{local_step, local_rest}
use Rattle.vv_area_reader.proofs.Short.{Stays}
use Rattle.vv_area_reader.proofs.ShortSteps.{short_step}
use Rattle.vv_area_reader.proofs.StepLaws.{step_law, nothing_left, all_left}

-- ---- places moved

same_bool : (b c : Bool) → (b ≡ true → c ≡ true) → (c ≡ true → b ≡ true) → b ≡ c
same_bool true true there back = refl
same_bool true false there back = sym (there refl)
same_bool false true there back = back refl
same_bool false false there back = refl

eqb_from : (m n : ℕ) → m ≡ n → eqb m n ≡ true
eqb_from m n e = eqb_by m n (eqb m n) refl e
  where
    eqb_by : (m n : ℕ) (b : Bool) → eqb m n ≡ b → m ≡ n → eqb m n ≡ true
    eqb_by m n true is e = is
    eqb_by m n false is e = absurd (eqb-false m n is e)

same_end : (a x m n : ℕ) → m ≡ a + n → eqb (a + x) m ≡ eqb x n
same_end a x m n is =
    same_bool (eqb (a + x) m) (eqb x n)
    (λ e. let same : a + x ≡ m = eqb-true (a + x) m e in eqb_from x n (omega arith))
    (λ e. let same : x ≡ n = eqb-true x n e in eqb_from (a + x) m (omega arith))

moved_end : {D : Type 0} (n a x : ℕ) (v : D) (b : Bool) → moved_by n (cond b (Ok v) (Err (a + x))) ≡ moved_by (n + a) (cond b (Ok v) (Err x))
moved_end n a x v true = refl
moved_end n a x v false = ap (λ (k : ℕ). Err k) (omega arith)

-- what is read at the end of the bytes ends alike where others stand before them
ended_moved : {D : Type 0} (n : ℕ) (before window : List ℕ) (part total : Reading D) → Carried before window [] part total → moved_by n (ended total) ≡ moved_by (n + length before) (ended part)
ended_moved n before window (Read v behind) total h =
    let size : length (before ++ (window ++ [])) ≡ length before + length behind.bytes =
    ap (λ (w : List ℕ). length (before ++ w)) (append-nil window) ∙ length-append before window ∙ ap (λ (w : List ℕ). length before + length w) (sym h.0)
    in
    ap (λ t. moved_by n (ended t)) h.2
    ∙ ap (λ (b : Bool). moved_by n (cond b (Ok v) (Err (length before + behind.at)))) (same_end (length before) behind.at (length (before ++ (window ++ []))) (length behind.bytes) size)
    ∙ moved_end n (length before) behind.at v (eqb behind.at (length behind.bytes))
ended_moved n before window (Fault at) total h =
    ap (λ t. moved_by n (ended t)) (h.1 (λ last. refl)) ∙ ap (λ (k : ℕ). Err k) (omega arith)

-- ---- a step

-- what was read is behind
cut_off : (spelling : ℕ) (q : Progress) (passed i : ℕ) (w coming : List ℕ) → i ≤ length w
    → moved_by passed (ended (rest_of spelling q (record { bytes = w ++ coming; at = i }))) ≡ moved_by (passed + i) (ended (rest_of spelling q (within (drop i w ++ coming) 0)))
cut_off spelling q passed i w coming inside =
    let front : List ℕ = take i w in
    let window : List ℕ = drop i w ++ coming in
    let size : length front ≡ i = length-take-le i w inside in
    let there = (local_rest spelling q.begun q.stage).carries front window [] 0 (omega arith) in
    let bytes_are : front ++ (window ++ []) ≡ w ++ coming =
    ap (λ (x : List ℕ). front ++ x) (append-nil window) ∙ sym (append_assoc front (drop i w) coming) ∙ ap (λ (x : List ℕ). x ++ coming) (take-append-drop i w)
    in
    let place_is : length front + 0 ≡ i = omega arith in
    ap (λ (b : List ℕ). moved_by passed (ended (rest_of spelling q (record { bytes = b; at = i })))) (sym bytes_are)
    ∙ ap (λ (k : ℕ). moved_by passed (ended (rest_of spelling q (record { bytes = front ++ (window ++ []); at = k })))) (sym place_is)
    ∙ ended_moved passed front window (rest_of spelling q (within window 0)) (rest_of spelling q (among front window [] 0)) there
    ∙ ap (λ (k : ℕ). moved_by (passed + k) (ended (rest_of spelling q (within window 0)))) size

pub record StepPassed (r : AreaReading) (q : Progress) (n : ℕ) : Type 0 where
  pub inside : n ≤ length r.waiting
  pub tells : (coming : List ℕ) → told r coming ≡ told (passed_by r q n) coming

-- what the step makes of the bytes, also with others behind them
step_carries : (r : AreaReading) (coming : List ℕ) → Carried [] r.waiting coming (step_at r.spelling r.progress.begun r.progress.stage (within r.waiting 0)) (step_at r.spelling r.progress.begun r.progress.stage (within (r.waiting ++ coming) 0))
step_carries r coming = (local_step r.spelling r.progress.begun r.progress.stage).carries [] r.waiting coming 0 (omega arith)

abbrev the_step : AreaReading → List ℕ → Reading Progress
the_step r coming = step_at r.spelling r.progress.begun r.progress.stage (within (r.waiting ++ coming) 0)

told_after : (r : AreaReading) (coming : List ℕ) → told r coming ≡ moved_by r.passed (ended (then_read (the_step r coming) (rest_of r.spelling)))
unfolding told
told_after r coming = ap (λ reading. moved_by r.passed (ended reading)) (step_law r.spelling r.progress.begun r.progress.stage (within (r.waiting ++ coming) 0))

told_is : (r : AreaReading) (coming : List ℕ) → told r coming ≡ moved_by r.passed (ended (rest_of r.spelling r.progress (within (r.waiting ++ coming) 0)))
unfolding told
told_is r coming = refl

step_read : (r : AreaReading) (coming : List ℕ) (q : Progress) (behind : ReaderState) → Carried [] r.waiting coming (Read q behind) (the_step r coming) → told r coming ≡ told (passed_by r q behind.at) coming
step_read r coming q behind h =
    let place_is : 0 + behind.at ≡ behind.at = omega arith in
    told_after r coming ∙ ap (λ reading. moved_by r.passed (ended (then_read reading (rest_of r.spelling)))) h.2
    ∙ ap (λ (k : ℕ). moved_by r.passed (ended (rest_of r.spelling q (record { bytes = r.waiting ++ coming; at = k })))) place_is
    ∙ cut_off r.spelling q r.passed behind.at r.waiting coming h.1
    ∙ sym (told_is (passed_by r q behind.at) coming)

pub step_passes : (r : AreaReading) (q : Progress) (behind : ReaderState) → step_at r.spelling r.progress.begun r.progress.stage (within r.waiting 0) ≡ Read q behind → StepPassed r q behind.at
step_passes r q behind e =
    let carried : (coming : List ℕ) → Carried [] r.waiting coming (Read q behind) (the_step r coming) =
    λ coming. subst (λ part. Carried [] r.waiting coming part (the_step r coming)) e (step_carries r coming)
    in
    record { inside = (carried []).1; tells = λ coming. step_read r coming q behind (carried coming) }

-- A step doesn't fail at the end of the bytes where enough wait.
fails_inside : (r : AreaReading) (at : ℕ) → step_at r.spelling r.progress.begun r.progress.stage (within r.waiting 0) ≡ Fault at → step_limit ≤ length r.waiting → at < length r.waiting
fails_inside r at e left =
    subst (λ reading. Stays step_limit (within r.waiting 0) reading) e ((short_step r.spelling r.progress.begun r.progress.stage).stays (within r.waiting 0) (omega arith))

is_last : (r : AreaReading) (at : ℕ) (coming : List ℕ) → step_at r.spelling r.progress.begun r.progress.stage (within r.waiting 0) ≡ Fault at → HasEnough r coming → at ≡ length r.waiting → coming ≡ []
is_last r at coming e enough here =
    elim (cases_lt (length r.waiting) step_limit) [
      | inl lt ↦ enough lt
      | inr le ↦ let inside = fails_inside r at e le in absurd (omega arith)
    ]

pub record StepFailed (r : AreaReading) (at : ℕ) : Type 0 where
  pub inside : at ≤ length r.waiting
  pub tells : (coming : List ℕ) → HasEnough r coming → told r coming ≡ Err (r.passed + at)

pub step_fails : (r : AreaReading) (at : ℕ) → step_at r.spelling r.progress.begun r.progress.stage (within r.waiting 0) ≡ Fault at → StepFailed r at
step_fails r at e =
    let carried : (coming : List ℕ) → Carried [] r.waiting coming (Fault at) (the_step r coming) =
    λ coming. subst (λ part. Carried [] r.waiting coming part (the_step r coming)) e (step_carries r coming)
    in
    let place_is : 0 + at ≡ at = omega arith in
    record {
      inside = (carried []).0;
      tells = λ coming enough.
          told_after r coming ∙ ap (λ reading. moved_by r.passed (ended (then_read reading (rest_of r.spelling)))) ((carried coming).1 (is_last r at coming e enough))
          ∙ ap (λ (k : ℕ). Err (r.passed + k)) place_is;
    }

-- ---- the start, bytes fed, and the end

moved_by_0 : {D : Type 0} (told_in : Result D ℕ) → moved_by 0 told_in ≡ told_in
moved_by_0 (Ok v) = refl
moved_by_0 (Err at) = ap (λ (k : ℕ). Err k) (omega arith)

pub told_at_start : (geometry : Geometry) (spelling : ℕ) (area : List ℕ) → told (new_reading geometry spelling) area ≡ tables_in geometry spelling area
unfolding told tables_in
told_at_start geometry spelling area =
    moved_by_0 (ended (rest_of spelling (new_reading geometry spelling).progress (within area 0)))
    ∙ ap (λ reading. ended reading) (sym (all_left geometry spelling (within area 0)))

pub told_when_fed : (r : AreaReading) (front coming : List ℕ) → told r (front ++ coming) ≡ told (record r { waiting = r.waiting ++ front }) coming
unfolding told
told_when_fed r front coming = ap (λ (b : List ℕ). moved_by r.passed (ended (rest_of r.spelling r.progress (within b 0)))) (sym (append_assoc r.waiting front coming))

whole_read : (spelling : ℕ) (d : Durable Entry) (at : Stage) (reader : ReaderState) → is_whole_at d at ≡ true → rest_at spelling d at reader ≡ Read d reader
whole_read spelling d stage.Start reader h = absurd (cc)
whole_read spelling d (stage.Containers left) reader h = absurd (cc)
whole_read spelling d (stage.Volumes left) reader h = absurd (cc)
whole_read spelling d (stage.VolumeEntries head so_far left volumes) reader h = absurd (cc)
whole_read spelling d (stage.Contexts left) reader h = absurd (cc)
whole_read spelling d (stage.Bindings left) reader h = absurd (cc)
whole_read spelling d (stage.Tasks left) reader h = absurd (cc)
whole_read spelling d (stage.Runs next) reader h = nothing_left spelling next d reader (drop_all next d.tasks (leb-true (length d.tasks) next h))
whole_read spelling d (stage.Image head so_far left next) reader h = absurd (cc)
whole_read spelling d (stage.Target head so_far left next) reader h = absurd (cc)
whole_read spelling d (stage.Pieces own so_far left next) reader h = absurd (cc)

told_whole : (r : AreaReading) (coming : List ℕ) → is_whole_at r.progress.begun r.progress.stage ≡ true
    → told r coming ≡ moved_by r.passed (cond (eqb 0 (length (r.waiting ++ coming))) (Ok r.progress.begun) (Err 0))
told_whole r coming h = told_is r coming ∙ ap (λ reading. moved_by r.passed (ended reading)) (whole_read r.spelling r.progress.begun r.progress.stage (within (r.waiting ++ coming) 0) h)

-- Bytes follow the tables.
pub told_too_much : (r : AreaReading) (coming : List ℕ) → is_whole_at r.progress.begun r.progress.stage ≡ true → 0 < length r.waiting → told r coming ≡ Err r.passed
told_too_much r coming h some =
    let more : eqb 0 (length (r.waiting ++ coming)) ≡ false = not_zero (length (r.waiting ++ coming)) (omega (arith, length-append r.waiting coming)) in
    told_whole r coming h ∙ ap (λ (b : Bool). moved_by r.passed (cond b (Ok r.progress.begun) (Err 0))) more ∙ ap (λ (k : ℕ). Err k) (omega arith)
  where
    not_by : (n : ℕ) (b : Bool) → eqb 0 n ≡ b → 0 < n → eqb 0 n ≡ false
    not_by n true is lt = let e : 0 ≡ n = eqb-true 0 n is in absurd (omega arith)
    not_by n false is lt = is

    not_zero : (n : ℕ) → 0 < n → eqb 0 n ≡ false
    not_zero n lt = not_by n (eqb 0 n) refl lt

-- Nothing follows them.
pub told_tables : (r : AreaReading) → is_whole_at r.progress.begun r.progress.stage ≡ true → r.waiting ≡ [] → told r [] ≡ Ok r.progress.begun
told_tables r h none = told_whole r [] h ∙ ap (λ (w : List ℕ). moved_by r.passed (cond (eqb 0 (length (w ++ []))) (Ok r.progress.begun) (Err 0))) none

pub made_fails : (r : AreaReading) (e : RecordFault) → Fails e (step_at r.spelling r.progress.begun r.progress.stage (within r.waiting 0)) → FailsAt e r
made_fails r (fault.Bad at) h = let failed = step_fails r at h in (failed.inside, failed.tells)
made_fails r fault.NoMemory h = tt
