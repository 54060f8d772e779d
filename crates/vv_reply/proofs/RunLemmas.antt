-- The first of the maximal runs of equal bytes, for the writer of runs.
use Rattle.std.proofs.Common.{◌≡◌, ℕ, suc, ◌+◌, ◌<◌, ◌≤◌, ◌++◌, List, [], ◌∷◌, Bool, true, false, cond, refl, sym, ap, ◌∙◌, length, drop, get_or, arith, append_assoc, append-nil, subst, true≢false}
use Rattle.std.specs.Prelude.{◌==◌, codes}
use Rattle.std.specs.List.{prefix_len}
use Rattle.std.proofs.lemmas.Bool.{eqb-true, eq-eqb, cond-true, cond-false}
use Rattle.std.proofs.lemmas.Bool.Decides.{nat_tests}
use Rattle.std.proofs.lemmas.List.{nil_from_length}
use Rattle.std.proofs.lemmas.List.Sums.{prefix_len-le-length}
use Rattle.vv_reply.specs.Runs.{onto_run, runs_of, run_text, runs_text}

-- how many bytes at the front are b
abbrev pub front_run : ℕ → List ℕ → ℕ
front_run b bytes = prefix_len (λ c. c == b) bytes

drop_more : (n c : ℕ) (bytes : List ℕ) → drop (1 + n) (c ∷ bytes) ≡ drop n bytes
drop_more n c bytes = let e : 1 + n ≡ suc n = omega arith in ap (λ k. drop k (c ∷ bytes)) e

-- b before bytes whose first is b
run_same : (b : ℕ) (bytes : List ℕ)
    → runs_of (b ∷ bytes) ≡ (b, front_run b bytes + 1) ∷ runs_of (drop (front_run b bytes) bytes)
    → onto_run b (runs_of (b ∷ bytes)) ≡ (b, 1 + front_run b bytes + 1) ∷ runs_of (drop (1 + front_run b bytes) (b ∷ bytes))
run_same b bytes first =
    let n = front_run b bytes in
    let longer : n + 1 + 1 ≡ 1 + n + 1 = omega arith in
    ap (onto_run b) first
    ∙ cond-true (b == b) ((b, n + 1 + 1) ∷ runs_of (drop n bytes)) ((b, 1) ∷ (b, n + 1) ∷ runs_of (drop n bytes)) (eq-eqb b b refl)
    ∙ ap (λ (k : ℕ). (b, k) ∷ runs_of (drop n bytes)) longer
    ∙ sym (ap (λ (rest : List ℕ). (b, 1 + n + 1) ∷ runs_of rest) (drop_more n b bytes))

-- b before bytes whose first is another
run_other : (b c : ℕ) (bytes : List ℕ) → (b == c) ≡ false
    → runs_of (c ∷ bytes) ≡ (c, front_run c bytes + 1) ∷ runs_of (drop (front_run c bytes) bytes)
    → onto_run b (runs_of (c ∷ bytes)) ≡ (b, 1) ∷ runs_of (c ∷ bytes)
run_other b c bytes other first =
    let n = front_run c bytes in
    ap (onto_run b) first
    ∙ cond-false (b == c) ((c, n + 1 + 1) ∷ runs_of (drop n bytes)) ((b, 1) ∷ (c, n + 1) ∷ runs_of (drop n bytes)) other
    ∙ ap (λ (rest : List (ℕ × ℕ)). (b, 1) ∷ rest) (sym first)

-- b before bytes whose first is c
run_step : (b c : ℕ) (bytes : List ℕ) (same : Bool) → (c == b) ≡ same
    → runs_of (c ∷ bytes) ≡ (c, front_run c bytes + 1) ∷ runs_of (drop (front_run c bytes) bytes)
    → onto_run b (runs_of (c ∷ bytes)) ≡ (b, cond same (1 + front_run b bytes) 0 + 1) ∷ runs_of (drop (cond same (1 + front_run b bytes) 0) (c ∷ bytes))
run_step b c bytes true is first =
    let Holds : ℕ → Type 0 = λ d. runs_of (d ∷ bytes) ≡ (d, front_run d bytes + 1) ∷ runs_of (drop (front_run d bytes) bytes)
    → onto_run b (runs_of (d ∷ bytes)) ≡ (b, 1 + front_run b bytes + 1) ∷ runs_of (drop (1 + front_run b bytes) (d ∷ bytes)) in
    subst Holds (sym (eqb-true c b is)) (run_same b bytes) first
run_step b c bytes false is first = run_other b c bytes (grind (arith, nat_tests)) first

pub first_run : (b : ℕ) (bytes : List ℕ) → runs_of (b ∷ bytes) ≡ (b, front_run b bytes + 1) ∷ runs_of (drop (front_run b bytes) bytes)
first_run b [] = refl
first_run b (c ∷ bytes) = run_step b c bytes (c == b) refl (first_run c bytes)

front_run_first : (b : ℕ) (bytes : List ℕ) → front_run b (b ∷ bytes) ≡ 1 + front_run b bytes
front_run_first b bytes = cond-true (b == b) (1 + front_run b bytes) 0 (eq-eqb b b refl)

-- The first run is cut off the front of bytes that begin with b.
pub cut_run : (b n : ℕ) (bytes : List ℕ) → n ≡ front_run b (b ∷ bytes) → runs_of (b ∷ bytes) ≡ (b, n) ∷ runs_of (drop n (b ∷ bytes))
cut_run b n bytes is =
    let count : n ≡ 1 + front_run b bytes = is ∙ front_run_first b bytes in
    first_run b bytes
    ∙ ap (λ (rest : List ℕ). (b, front_run b bytes + 1) ∷ runs_of rest) (sym (ap (λ k. drop k (b ∷ bytes)) count ∙ drop_more (front_run b bytes) b bytes))
    ∙ ap (λ (k : ℕ). (b, k) ∷ runs_of (drop n (b ∷ bytes))) (omega arith)

pub front_run_bound : (b : ℕ) (bytes : List ℕ) → front_run b bytes ≤ length bytes
front_run_bound b bytes = prefix_len-le-length (λ c. c == b) bytes

pub front_run_some : (b : ℕ) (bytes : List ℕ) → 0 < length bytes → get_or bytes 0 0 ≡ b → 0 < front_run b bytes
front_run_some b [] some first = absurd (omega arith)
front_run_some b (c ∷ bytes) some first =
    let P : ℕ → Type 0 = λ d. 0 < front_run b (d ∷ bytes) in
    subst P (sym first) (omega (arith, front_run_first b bytes))

-- a run, a comma and more runs
comma_before : (run : ℕ × ℕ) (b : ℕ) (bytes : List ℕ)
    → runs_text (run ∷ runs_of (b ∷ bytes)) ≡ run_text run ++ codes "," ++ runs_text (runs_of (b ∷ bytes))
comma_before run b bytes =
    ap (λ (rest : List (ℕ × ℕ)). runs_text (run ∷ rest)) (first_run b bytes)
    ∙ sym (ap (λ (rest : List (ℕ × ℕ)). run_text run ++ codes "," ++ runs_text rest) (first_run b bytes))

-- The text of the first run, and then that of what is left, with a comma between them.
pub text_of_more : (b n : ℕ) (rest after : List ℕ) → 0 < length rest → get_or rest 0 0 ≡ b → n ≡ front_run b rest → after ≡ drop n rest
    → 0 < length after → runs_text (runs_of rest) ≡ run_text (b, n) ++ codes "," ++ runs_text (runs_of after)
text_of_more b n [] after some first is is_after more = absurd (omega arith)
text_of_more b n (c ∷ bytes) [] some first is is_after more = absurd (omega arith)
text_of_more b n (c ∷ bytes) (d ∷ after) some first is is_after more =
    let Holds : ℕ → Type 0 = λ e. n ≡ front_run b (e ∷ bytes) → (d ∷ after) ≡ drop n (e ∷ bytes)
    → runs_text (runs_of (e ∷ bytes)) ≡ run_text (b, n) ++ codes "," ++ runs_text (runs_of (d ∷ after)) in
    subst Holds (sym first) (λ is is_after. ap runs_text (cut_run b n bytes is)
    ∙ ap (λ (rest : List ℕ). runs_text ((b, n) ∷ runs_of rest)) (sym is_after) ∙ comma_before (b, n) d after) is is_after

-- The text of the last run.
pub text_of_last : (b n : ℕ) (rest after : List ℕ) → 0 < length rest → get_or rest 0 0 ≡ b → n ≡ front_run b rest → after ≡ drop n rest
    → after ≡ [] → runs_text (runs_of rest) ≡ run_text (b, n)
text_of_last b n [] after some first is is_after none = absurd (omega arith)
text_of_last b n (c ∷ bytes) after some first is is_after none =
    let Holds : ℕ → Type 0 = λ e. n ≡ front_run b (e ∷ bytes) → after ≡ drop n (e ∷ bytes) → runs_text (runs_of (e ∷ bytes)) ≡ run_text (b, n) in
    subst Holds (sym first) (λ is is_after. ap runs_text (cut_run b n bytes is)
    ∙ ap (λ (rest : List ℕ). runs_text ((b, n) ∷ runs_of rest)) (sym is_after ∙ none)) is is_after

-- What was written and what is left to write, after a run and a comma.
pub more_written : (before between now : List ℕ) (b n : ℕ) (rest after : List ℕ) → 0 < length rest → get_or rest 0 0 ≡ b → n ≡ front_run b rest → after ≡ drop n rest
    → 0 < length after → between ≡ before ++ run_text (b, n) → now ≡ between ++ codes ","
    → now ++ runs_text (runs_of after) ≡ before ++ runs_text (runs_of rest)
more_written before between now b n rest after some first is is_after more run comma =
    let text = runs_text (runs_of after) in
    let written : now ≡ (before ++ run_text (b, n)) ++ codes "," = comma ∙ ap (λ (front : List ℕ). front ++ codes ",") run in
    ap (λ (front : List ℕ). front ++ text) (written ∙ append_assoc before (run_text (b, n)) (codes ","))
    ∙ append_assoc before (run_text (b, n) ++ codes ",") text
    ∙ ap (λ (back : List ℕ). before ++ back) (sym (text_of_more b n rest after some first is is_after more))

-- what a test for an empty list tells
pub not_empty : (xs : List ℕ) (b : Bool) → b ≡ (length xs == 0) → b ≡ false → 0 < length xs
not_empty [] b is not = absurd (true≢false (sym is ∙ not))
not_empty (x ∷ xs) b is not = omega arith

pub empty : (xs : List ℕ) (b : Bool) → b ≡ (length xs == 0) → b ≡ true → xs ≡ []
empty xs b is so = nil_from_length xs (eqb-true (length xs) 0 (sym is ∙ so))

-- and after the last run
pub last_written : (before now : List ℕ) (b n : ℕ) (rest after : List ℕ) → 0 < length rest → get_or rest 0 0 ≡ b → n ≡ front_run b rest → after ≡ drop n rest
    → after ≡ [] → now ≡ before ++ run_text (b, n)
    → now ++ runs_text (runs_of after) ≡ before ++ runs_text (runs_of rest)
last_written before now b n rest after some first is is_after none run =
    ap (λ (left : List ℕ). now ++ runs_text (runs_of left)) none ∙ append-nil now ∙ run
    ∙ ap (λ (back : List ℕ). before ++ back) (sym (text_of_last b n rest after some first is is_after none))
