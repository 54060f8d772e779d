-- The laws of the spelling of tables.
use Rattle.std.proofs.Common.{◌≡◌, ℕ, ◌&&◌, Bool, true, false, cond, eqb, nat_le, List, [], ◌∷◌, ◌++◌, length, take, drop, Ok, Err, refl, sym, ap, subst, ◌∙◌, append_assoc, arith}
use Rattle.std.proofs.lemmas.Bool.{and_parts, and_from, eqb-true, eq-eqb, le-leb}
use Rattle.std.proofs.lemmas.List.{append-nil, drop_all}
use Rattle.std.specs.List.{flat_map, list_all}
use Rattle.vv_fields.specs.Fields.{ReaderState, AreBytes}
use Rattle.vv_units.specs.declared.geometry.Geometry.{Geometry}
use Rattle.vv_record.specs.Reading.{Reading, Read, Fault, then_read, done}
use Rattle.vv_record.specs.Records.{ended}
use Rattle.vv_record.proofs.Stands.{Stands, Stands-then, Stands-front, Stands-nothing, Stands-here, IsReader, IsReader-behind, moved, then_read_is}
use Rattle.vv_record.proofs.Spells.{Spells, number_spells, done_is}
use Rattle.vv_flat.specs.State.{Task, RunningClone, RunningCopy, Durable}
use Rattle.vv_flat.specs.Space.{is_running, is_clone}
use Rattle.vv_flat.specs.Chunks.{Entry}
use Rattle.vv_area.specs.Forms.{running_clone, running_copy, Runs, no_runs, with_clone, with_copy, next_clone, next_copy, runs, tables}
use Rattle.vv_area.specs.Spelling.{clone_spelling, copy_spelling, runs_spelling, area_spelling, is_clone_row, is_clone_of, are_pieces, is_copy_of, are_runs, is_spellable}
use Rattle.vv_area.specs.Area.{tables_in}
use Rattle.vv_area.proofs.Rests.{SpellsRest, then_rest, done_rest, same_rest}
use Rattle.vv_area.proofs.FormLaws.{and_assoc, and_true, clone_rest, copy_rest, containers_spells, volumes_spells, contexts_spells, bindings_spells, tasks_spells}

-- ---- what running tasks hold

-- the runs with more of them
abbrev added : Runs → List (RunningClone Entry) → List (RunningCopy Entry) → Runs
added before clones copies = record { clones = before.clones ++ clones; copies = before.copies ++ copies }

abbrev AreReadAgain : ℕ → List Task → Type 0
AreReadAgain spelling ts =
    (before : Runs) (clones : List (RunningClone Entry)) (copies : List (RunningCopy Entry)) (reader behind : ReaderState)
    → are_runs spelling ts clones copies ≡ true → Stands reader (runs_spelling ts clones copies) behind → runs spelling ts before reader ≡ Read (added before clones copies) behind

clone_again : (spelling own : ℕ) (ts : List Task) → AreReadAgain spelling ts → (before : Runs) (clones : List (RunningClone Entry)) (copies : List (RunningCopy Entry)) (reader behind : ReaderState)
    → (nat_le 1 (length clones) && list_all (is_clone_of spelling own) (take 1 clones) && are_runs spelling ts (drop 1 clones) copies) ≡ true
    → Stands reader (flat_map clone_spelling (take 1 clones) ++ runs_spelling ts (drop 1 clones) copies) behind
    → then_read (next_clone spelling own before reader) (runs spelling ts) ≡ Read (added before clones copies) behind
unfolding next_clone
clone_again spelling own ts more before [] copies reader behind h p = absurd cc
clone_again spelling own ts more before (c ∷ cs) copies reader behind h p =
    let both = and_parts (nat_le 1 (length (c ∷ cs)) && list_all (is_clone_of spelling own) (c ∷ [])) (are_runs spelling ts cs copies) h in
    let one = and_parts (is_clone_of spelling own c) true (and_parts _ (list_all (is_clone_of spelling own) (c ∷ [])) both.0).1 in
    let row = and_parts (eqb c.number own) (is_clone_row spelling c) one.0 in
    let q = Stands-front reader (clone_spelling c ++ []) (runs_spelling ts cs copies) behind p in
    let middle = moved (length (clone_spelling c ++ [])) reader in
    let there : Stands reader (clone_spelling c) middle = subst (λ x. Stands reader x middle) (append-nil (clone_spelling c)) q.0 in
    let first = (clone_rest spelling own).again c reader middle (eqb-true c.number own row.0) row.1 there in
    let last = more (with_clone before c) cs copies middle behind both.1 q.1 in
    rw first (last ∙ ap (λ x. Read (record { clones = x; copies = before.copies ++ copies }) behind) (append_assoc before.clones (c ∷ []) cs))

copy_again : (spelling own : ℕ) (ts : List Task) → AreReadAgain spelling ts → (before : Runs) (clones : List (RunningClone Entry)) (copies : List (RunningCopy Entry)) (reader behind : ReaderState)
    → (nat_le 1 (length copies) && list_all (is_copy_of own) (take 1 copies) && are_runs spelling ts clones (drop 1 copies)) ≡ true
    → Stands reader (flat_map copy_spelling (take 1 copies) ++ runs_spelling ts clones (drop 1 copies)) behind
    → then_read (next_copy own before reader) (runs spelling ts) ≡ Read (added before clones copies) behind
unfolding next_copy
copy_again spelling own ts more before clones [] reader behind h p = absurd cc
copy_again spelling own ts more before clones (c ∷ cs) reader behind h p =
    let both = and_parts (nat_le 1 (length (c ∷ cs)) && list_all (is_copy_of own) (c ∷ [])) (are_runs spelling ts clones cs) h in
    let one = and_parts (is_copy_of own c) true (and_parts _ (list_all (is_copy_of own) (c ∷ [])) both.0).1 in
    let row = and_parts (eqb c.number own) (are_pieces c.pieces) one.0 in
    let q = Stands-front reader (copy_spelling c ++ []) (runs_spelling ts clones cs) behind p in
    let middle = moved (length (copy_spelling c ++ [])) reader in
    let there : Stands reader (copy_spelling c) middle = subst (λ x. Stands reader x middle) (append-nil (copy_spelling c)) q.0 in
    let first = (copy_rest own).again c reader middle (eqb-true c.number own row.0) row.1 there in
    let last = more (with_copy before c) clones cs middle behind both.1 q.1 in
    rw first (last ∙ ap (λ x. Read (record { clones = before.clones ++ clones; copies = x }) behind) (append_assoc before.copies (c ∷ []) cs))

step_again : (spelling : ℕ) (t : Task) (ts : List Task) → AreReadAgain spelling ts → (runs_on of_clone : Bool) (before : Runs) (clones : List (RunningClone Entry)) (copies : List (RunningCopy Entry)) (reader behind : ReaderState)
    → cond runs_on (cond of_clone (nat_le 1 (length clones) && list_all (is_clone_of spelling t.number) (take 1 clones) && are_runs spelling ts (drop 1 clones) copies)
    (nat_le 1 (length copies) && list_all (is_copy_of t.number) (take 1 copies) && are_runs spelling ts clones (drop 1 copies))) (are_runs spelling ts clones copies) ≡ true
    → Stands reader (cond runs_on (cond of_clone (flat_map clone_spelling (take 1 clones) ++ runs_spelling ts (drop 1 clones) copies)
    (flat_map copy_spelling (take 1 copies) ++ runs_spelling ts clones (drop 1 copies))) (runs_spelling ts clones copies)) behind
    → then_read ((cond runs_on (cond of_clone (next_clone spelling t.number before) (next_copy t.number before)) (done before)) reader) (runs spelling ts) ≡ Read (added before clones copies) behind
step_again spelling t ts more true true before clones copies reader behind h p = clone_again spelling t.number ts more before clones copies reader behind h p
step_again spelling t ts more true false before clones copies reader behind h p = copy_again spelling t.number ts more before clones copies reader behind h p
step_again spelling t ts more false of_clone before clones copies reader behind h p = more before clones copies reader behind h p

nothing_left : {A : Type 0} (xs : List A) → eqb (length xs) 0 ≡ true → xs ≡ []
nothing_left [] h = refl
nothing_left (x ∷ xs) h = let e = eqb-true (length (x ∷ xs)) 0 h in absurd (omega arith)

runs_again : (spelling : ℕ) (ts : List Task) → AreReadAgain spelling ts
unfolding runs are_runs runs_spelling
runs_again spelling [] before clones copies reader behind h p =
    let both = and_parts (eqb (length clones) 0) (eqb (length copies) 0) h in
    let no_clone = nothing_left clones both.0 in
    let no_copy = nothing_left copies both.1 in
    rw (no_clone, no_copy, Stands-nothing reader behind p, append-nil before.clones, append-nil before.copies) refl
runs_again spelling (t ∷ ts) before clones copies reader behind h p =
    step_again spelling t ts (runs_again spelling ts) (is_running t) (is_clone t.job) before clones copies reader behind h p

-- what was read, with its spelling
record Taken (spelling : ℕ) (ts : List Task) (before r : Runs) (reader behind : ReaderState) : Type 0 where
  clones : List (RunningClone Entry)
  copies : List (RunningCopy Entry)
  all : added before clones copies ≡ r
  stands : Stands reader (runs_spelling ts clones copies) behind
  passes : are_runs spelling ts clones copies ≡ true

abbrev AreTaken : ℕ → List Task → Type 0
AreTaken spelling ts = (before r : Runs) (reader behind : ReaderState) → IsReader reader → runs spelling ts before reader ≡ Read r behind → Taken spelling ts before r reader behind

-- what the first task holds and what the others hold
record StepTaken (spelling : ℕ) (t : Task) (ts : List Task) (runs_on of_clone : Bool) (before r : Runs) (reader behind : ReaderState) : Type 0 where
  clones : List (RunningClone Entry)
  copies : List (RunningCopy Entry)
  all : added before clones copies ≡ r
  stands : Stands reader (cond runs_on (cond of_clone (flat_map clone_spelling (take 1 clones) ++ runs_spelling ts (drop 1 clones) copies)
      (flat_map copy_spelling (take 1 copies) ++ runs_spelling ts clones (drop 1 copies))) (runs_spelling ts clones copies)) behind
  passes : cond runs_on (cond of_clone (nat_le 1 (length clones) && list_all (is_clone_of spelling t.number) (take 1 clones) && are_runs spelling ts (drop 1 clones) copies)
      (nat_le 1 (length copies) && list_all (is_copy_of t.number) (take 1 copies) && are_runs spelling ts clones (drop 1 copies))) (are_runs spelling ts clones copies) ≡ true

step_takes : (spelling : ℕ) (t : Task) (ts : List Task) → AreTaken spelling ts → (runs_on of_clone : Bool) (before r : Runs) (reader behind : ReaderState) → IsReader reader
    → then_read ((cond runs_on (cond of_clone (next_clone spelling t.number before) (next_copy t.number before)) (done before)) reader) (runs spelling ts) ≡ Read r behind
    → StepTaken spelling t ts runs_on of_clone before r reader behind
unfolding next_clone next_copy
step_takes spelling t ts more true true before r reader behind h e =
    let k = then_read_is (next_clone spelling t.number before reader) (runs spelling ts) r behind e in
    let j = then_read_is (running_clone spelling t.number reader) (λ c. done (with_clone before c)) k.0 k.1 k.2 in
    let c = j.0 in
    let d = done_is (with_clone before c) k.0 j.1 k.1 j.3 in
    let u = (clone_rest spelling t.number).takes c reader j.1 h j.2 in
    let middle_reader = IsReader-behind h u.1 in
    let rest : runs spelling ts (with_clone before c) j.1 ≡ Read r behind = rw (d.0, d.1) k.3 in
    let v = more (with_clone before c) r j.1 behind middle_reader rest in
    let row = and_from _ _ (eq-eqb c.number t.number u.0) u.2 in
    let front : Stands reader (clone_spelling c ++ []) j.1 = subst (λ x. Stands reader x j.1) (sym (append-nil (clone_spelling c))) u.1 in
    record {
      clones = c ∷ v.clones;
      copies = v.copies;
      all = ap (λ x. record { clones = x; copies = before.copies ++ v.copies }) (sym (append_assoc before.clones (c ∷ []) v.clones)) ∙ v.all;
      stands = Stands-then front v.stands;
      passes = and_from (nat_le 1 (length (c ∷ v.clones)) && list_all (is_clone_of spelling t.number) (c ∷ [])) (are_runs spelling ts v.clones v.copies) (and_from (nat_le 1 (length (c ∷ v.clones))) (list_all (is_clone_of spelling t.number) (c ∷ [])) (le-leb 1 (length (c ∷ v.clones)) (omega arith)) (and_from (is_clone_of spelling t.number c) true row refl)) v.passes;
    }
step_takes spelling t ts more true false before r reader behind h e =
    let k = then_read_is (next_copy t.number before reader) (runs spelling ts) r behind e in
    let j = then_read_is (running_copy t.number reader) (λ c. done (with_copy before c)) k.0 k.1 k.2 in
    let c = j.0 in
    let d = done_is (with_copy before c) k.0 j.1 k.1 j.3 in
    let u = (copy_rest t.number).takes c reader j.1 h j.2 in
    let middle_reader = IsReader-behind h u.1 in
    let rest : runs spelling ts (with_copy before c) j.1 ≡ Read r behind = rw (d.0, d.1) k.3 in
    let v = more (with_copy before c) r j.1 behind middle_reader rest in
    let row = and_from _ _ (eq-eqb c.number t.number u.0) u.2 in
    let front : Stands reader (copy_spelling c ++ []) j.1 = subst (λ x. Stands reader x j.1) (sym (append-nil (copy_spelling c))) u.1 in
    record {
      clones = v.clones;
      copies = c ∷ v.copies;
      all = ap (λ x. record { clones = before.clones ++ v.clones; copies = x }) (sym (append_assoc before.copies (c ∷ []) v.copies)) ∙ v.all;
      stands = Stands-then front v.stands;
      passes = and_from (nat_le 1 (length (c ∷ v.copies)) && list_all (is_copy_of t.number) (c ∷ [])) (are_runs spelling ts v.clones v.copies) (and_from (nat_le 1 (length (c ∷ v.copies))) (list_all (is_copy_of t.number) (c ∷ [])) (le-leb 1 (length (c ∷ v.copies)) (omega arith)) (and_from (is_copy_of t.number c) true row refl)) v.passes;
    }
step_takes spelling t ts more false of_clone before r reader behind h e =
    let v = more before r reader behind h e in
    record { clones = v.clones; copies = v.copies; all = v.all; stands = v.stands; passes = v.passes }

runs_take : (spelling : ℕ) (ts : List Task) → AreTaken spelling ts
unfolding runs are_runs runs_spelling
runs_take spelling [] before r reader behind h e =
    let d = done_is before r reader behind e in
    record {
      clones = [];
      copies = [];
      all = rw (append-nil before.clones, append-nil before.copies) d.0;
      stands = subst (λ x. Stands reader [] x) d.1 (Stands-here reader h);
      passes = refl;
    }
runs_take spelling (t ∷ ts) before r reader behind h e =
    let v = step_takes spelling t ts (runs_take spelling ts) (is_running t) (is_clone t.job) before r reader behind h e in
    record { clones = v.clones; copies = v.copies; all = v.all; stands = v.stands; passes = v.passes }

runs_spells : (spelling : ℕ) (ts : List Task) → Spells (runs spelling ts no_runs) (λ r. runs_spelling ts r.clones r.copies) (λ r. are_runs spelling ts r.clones r.copies)
runs_spells spelling ts = record {
  again = λ r reader behind h p. runs_again spelling ts no_runs r.clones r.copies reader behind h p;
  takes = λ r reader behind h e.
      let v = runs_take spelling ts no_runs r reader behind h e in
      (subst (λ x. Stands reader (runs_spelling ts x.clones x.copies) behind) v.all v.stands, subst (λ x. are_runs spelling ts x.clones x.copies ≡ true) v.all v.passes);
}

-- ---- the whole

tables_rest : (geometry : Geometry) (spelling : ℕ) → SpellsRest (tables geometry spelling) (area_spelling spelling) (is_spellable spelling) (λ d. d.geometry ≡ geometry)
unfolding tables area_spelling is_spellable
tables_rest geometry spelling =
    same_rest (λ d f. refl) (λ d f. simp (and_assoc, and_true))
    (then_rest (number_spells 8) (λ d. d.lsn) _ _ _ _ (λ lsn.
    then_rest containers_spells (λ d. d.containers) _ _ _ _ (λ containers.
    then_rest (volumes_spells spelling) (λ d. d.volumes) _ _ _ _ (λ volumes.
    then_rest contexts_spells (λ d. d.contexts) _ _ _ _ (λ contexts.
    then_rest bindings_spells (λ d. d.bindings) _ _ _ _ (λ bindings.
    then_rest tasks_spells (λ d. d.tasks) _ (λ d. runs_spelling d.tasks d.clones d.copies ++ []) (λ d. are_runs spelling d.tasks d.clones d.copies && true) _ (λ jobs.
    same_rest (λ d f. ap (λ ts. runs_spelling ts d.clones d.copies ++ []) (sym f.1)) (λ d f. ap (λ ts. are_runs spelling ts d.clones d.copies && true) (sym f.1))
    (then_rest (runs_spells spelling jobs) (λ d. record { clones = d.clones; copies = d.copies }) _ _ _ _ (λ held.
    done_rest (record { geometry = geometry; lsn = lsn; containers = containers; volumes = volumes; contexts = contexts; bindings = bindings; tasks = jobs; clones = held.clones; copies = held.copies }) _
    (λ v f. rw (← f.1, ← f.0.1, ← f.0.0.1, ← f.0.0.0.1, ← f.0.0.0.0.1, ← f.0.0.0.0.0.1, ← f.0.0.0.0.0.0.1, ← f.0.0.0.0.0.0.0) refl)
    (((((((refl, refl), refl), refl), refl), refl), refl), refl))))))))))

abbrev start : List ℕ → ReaderState
start bytes = record { bytes = bytes; at = 0 }

cond_ok : {A : Type 0} (b : Bool) (x y : A) (at : ℕ) → cond b (Ok x) (Err at) ≡ Ok y → (b ≡ true) × (x ≡ y)
cond_ok true x y at e = (refl, cc)
cond_ok false x y at e = absurd cc

ended_is : {A : Type 0} (reading : Reading A) (value : A) → ended reading ≡ Ok value → (behind : ReaderState) × (reading ≡ Read value behind) × (behind.at ≡ length behind.bytes)
ended_is (Read x behind) value e =
    let c = cond_ok (eqb behind.at (length behind.bytes)) x value behind.at e in
    (behind, ap (λ v. Read v behind) c.1, eqb-true _ _ c.0)
ended_is (Fault at) value e = absurd cc

pub read_is_spelled : (geometry : Geometry) (spelling : ℕ) (bytes : List ℕ) (d : Durable Entry) → AreBytes bytes → tables_in geometry spelling bytes ≡ Ok d
    → (bytes ≡ area_spelling spelling d) × (is_spellable spelling d ≡ true) × (d.geometry ≡ geometry)
unfolding tables_in
read_is_spelled geometry spelling bytes d h e =
    let t = ended_is (tables geometry spelling (start bytes)) d e in
    let behind = t.0 in
    let k = (tables_rest geometry spelling).takes d (start bytes) behind (record { are_bytes = h; within = omega arith }) t.1 in
    let nothing : drop behind.at behind.bytes ≡ [] = drop_all behind.at behind.bytes (omega (arith, t.2)) in
    (k.1.rest ∙ ap (λ (x : List ℕ). area_spelling spelling d ++ x) nothing ∙ append-nil (area_spelling spelling d), k.2, k.0)

pub spelled_is_read : (spelling : ℕ) (d : Durable Entry) → is_spellable spelling d ≡ true → tables_in d.geometry spelling (area_spelling spelling d) ≡ Ok d
unfolding tables_in
spelled_is_read spelling d h =
    let text = area_spelling spelling d in
    let behind : ReaderState = record { bytes = text; at = length text } in
    let nothing : drop (length text) text ≡ [] = drop_all (length text) text (omega arith) in
    let p : Stands (start text) text behind = record { same = refl; place = omega arith; within = omega arith; rest = sym (ap (λ (x : List ℕ). text ++ x) nothing ∙ append-nil text) } in
    rw ((tables_rest d.geometry spelling).again d (start text) behind refl h p, eq-eqb (length text) (length text) refl) refl

same_read : (geometry : Geometry) (spelling : ℕ) (text : List ℕ) (c d : Durable Entry) → tables_in geometry spelling text ≡ Ok c → tables_in geometry spelling text ≡ Ok d → c ≡ d
same_read geometry spelling text c d p q = let e = sym p ∙ q in cc

pub one_table : (spelling : ℕ) (c d : Durable Entry) → is_spellable spelling c ≡ true → is_spellable spelling d ≡ true → c.geometry ≡ d.geometry → area_spelling spelling c ≡ area_spelling spelling d → c ≡ d
one_table spelling c d h k g e =
    let p : tables_in d.geometry spelling (area_spelling spelling d) ≡ Ok c = subst (λ x. tables_in d.geometry spelling x ≡ Ok c) e (subst (λ x. tables_in x spelling (area_spelling spelling c) ≡ Ok c) g (spelled_is_read spelling c h)) in
    same_read d.geometry spelling (area_spelling spelling d) c d p (spelled_is_read spelling d k)
