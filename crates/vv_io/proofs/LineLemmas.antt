-- How bytes are cut into lines: for the reader of lines.
use Rattle.std.proofs.Common.{◌≡◌, ℕ, zero, suc, ◌+◌, ◌-◌, ◌<◌, ◌≤◌, ◌++◌, List, [], ◌∷◌, Bool, true, false, not, cond, refl, sym, ap, ◌∙◌, length, take, drop, arith, append_assoc, append-nil, length-take, None}
use Rattle.std.specs.Prelude.{Option, nat_lt, ◌==◌, min}
use Rattle.std.proofs.lemmas.List.{take_all}
use Rattle.std.proofs.lemmas.List.Sums.{prefix_len-le-length}
use Rattle.std.proofs.lemmas.Bool.{cond-true, cond-false}
use Rattle.std.proofs.lemmas.Bool.Decides.{nat_tests}
use Rattle.vv_io.specs.Lines.{given_for, lines_from}
use Rattle.vv_io.specs.Reading.{front_len, kept_of}

pub front_bound : (bytes : List ℕ) → front_len bytes ≤ length bytes
front_bound bytes = prefix_len-le-length (λ b. not (b == 10)) bytes

-- Takes of joined bytes.
take_none : (n : ℕ) → ◌≡◌ {A = List ℕ} (take n []) []
take_none zero = refl
take_none (suc n) = refl

pub take-append : (n : ℕ) (xs ys : List ℕ) → take n (xs ++ ys) ≡ take n xs ++ take (n - length xs) ys
take-append n [] ys =
    let same : n ≡ n - length {A = ℕ} [] = omega arith in
    ap (λ k. take k ys) same ∙ ap (λ zs. zs ++ take (n - length {A = ℕ} []) ys) (sym (take_none n))
take-append zero (x ∷ xs) ys = let none : 0 ≡ 0 - length (x ∷ xs) = omega arith in ap (λ k. take k ys) none
take-append (suc n) (x ∷ xs) ys =
    let less : n - length xs ≡ suc n - length (x ∷ xs) = omega arith in
    ap (λ zs. x ∷ zs) (take-append n xs ys) ∙ ap (λ k. x ∷ take n xs ++ take k ys) less

-- a take at a minimum, where the other number is the length
pub take-min : (n count : ℕ) (xs : List ℕ) → count ≤ length xs → take n (take count xs) ≡ take (min count n) xs
take-min zero count xs within = let none : 0 ≡ min count 0 = omega arith in ap (λ k. take k xs) none
take-min (suc n) zero xs within = let none : 0 ≡ min 0 (suc n) = omega arith in ap (λ k. take k xs) none
take-min (suc n) (suc count) [] within = sym (take_none (min (suc count) (suc n)))
take-min (suc n) (suc count) (x ∷ xs) within =
    let more : suc (min count n) ≡ min (suc count) (suc n) = omega arith in
    ap (λ zs. x ∷ zs) (take-min n count xs (omega arith)) ∙ ap (λ k. take k (x ∷ xs)) more

-- What is kept of a line goes on as what is kept of the whole.
kept_room : (n : ℕ) (line more : List ℕ) → take (n - length (take n line)) more ≡ take (n - length line) more
kept_room n line more = let same : n - length (take n line) ≡ n - length line = omega (arith, length-take n line) in ap (λ k. take k more) same

pub kept_more : (limit : ℕ) (line more : List ℕ) → kept_of limit (kept_of limit line ++ more) ≡ kept_of limit (line ++ more)
kept_more limit line more =
    let n : ℕ = limit + 1 in
    let again : take n (take n line) ≡ take n line = take_all n (take n line) (omega (arith, length-take n line)) in
    take-append n (take n line) more ∙ ap (λ (front : List ℕ). front ++ take (n - length (take n line)) more) again
    ∙ ap (λ (back : List ℕ). take n line ++ back) (kept_room n line more) ∙ sym (take-append n line more)

given_long : (limit : ℕ) (line : List ℕ) → limit < length line → given_for limit line ≡ None ∷ []
unfolding given_for
given_long limit line long = cond-true (nat_lt limit (length line)) _ _ (grind (arith, nat_tests))

given_kept_by : (limit : ℕ) (line : List ℕ) (b : Bool) → nat_lt limit (length line) ≡ b → given_for limit (kept_of limit line) ≡ given_for limit line
given_kept_by limit line true is =
    let long : limit < length line = grind (arith, nat_tests) in
    given_long limit (kept_of limit line) (omega (arith, length-take (limit + 1) line)) ∙ sym (given_long limit line long)
given_kept_by limit line false is =
    let short : length line ≤ limit + 1 = grind (arith, nat_tests) in
    ap (given_for limit) (take_all (limit + 1) line short)

pub given_kept : (limit : ℕ) (line : List ℕ) → given_for limit (kept_of limit line) ≡ given_for limit line
given_kept limit line = given_kept_by limit line (nat_lt limit (length line)) refl

take_more : (n c : ℕ) (bytes : List ℕ) → take (1 + n) (c ∷ bytes) ≡ c ∷ take n bytes
take_more n c bytes = let e : 1 + n ≡ suc n = omega arith in ap (λ k. take k (c ∷ bytes)) e

drop_past : (n c : ℕ) (bytes : List ℕ) → drop (1 + n + 1) (c ∷ bytes) ≡ drop (n + 1) bytes
drop_past n c bytes = let e : 1 + n + 1 ≡ suc (n + 1) = omega arith in ap (λ k. drop k (c ∷ bytes)) e

-- The line begun ends at the first LF.
found_step : (limit c : ℕ) (line bytes rest : List ℕ) (b : Bool) (n : ℕ)
    → ((front : List ℕ) → n < length bytes
    → lines_from limit front (bytes ++ rest) ≡ given_for limit (front ++ take n bytes) ++ lines_from limit [] (drop (n + 1) bytes ++ rest))
    → cond (not b) (1 + n) 0 < suc (length bytes)
    → cond b (given_for limit line ++ lines_from limit [] (bytes ++ rest)) (lines_from limit (line ++ c ∷ []) (bytes ++ rest))
    ≡ given_for limit (line ++ take (cond (not b) (1 + n) 0) (c ∷ bytes)) ++ lines_from limit [] (drop (cond (not b) (1 + n) 0 + 1) (c ∷ bytes) ++ rest)
found_step limit c line bytes rest true n goes inside =
    ap (λ (front : List ℕ). given_for limit front ++ lines_from limit [] (bytes ++ rest)) (sym (append-nil line))
found_step limit c line bytes rest false n goes inside =
    goes (line ++ c ∷ []) (omega arith)
    ∙ ap (λ (front : List ℕ). given_for limit front ++ lines_from limit [] (drop (n + 1) bytes ++ rest))
    (append_assoc line (c ∷ []) (take n bytes) ∙ ap (λ (back : List ℕ). line ++ back) (sym (take_more n c bytes)))
    ∙ ap (λ (back : List ℕ). given_for limit (line ++ take (1 + n) (c ∷ bytes)) ++ lines_from limit [] (back ++ rest)) (sym (drop_past n c bytes))

pub cut_found : (limit : ℕ) (line bytes rest : List ℕ) → front_len bytes < length bytes
    → lines_from limit line (bytes ++ rest)
    ≡ given_for limit (line ++ take (front_len bytes) bytes) ++ lines_from limit [] (drop (front_len bytes + 1) bytes ++ rest)
cut_found limit line [] rest inside = absurd (omega arith)
cut_found limit line (c ∷ bytes) rest inside =
    found_step limit c line bytes rest (c == 10) (front_len bytes) (λ front. cut_found limit front bytes rest) inside

-- Without an LF the line begun goes on.
none_step : (limit c : ℕ) (line bytes rest : List ℕ) (b : Bool) (n : ℕ)
    → ((front : List ℕ) → n ≡ length bytes → lines_from limit front (bytes ++ rest) ≡ lines_from limit (front ++ bytes) rest)
    → cond (not b) (1 + n) 0 ≡ suc (length bytes)
    → cond b (given_for limit line ++ lines_from limit [] (bytes ++ rest)) (lines_from limit (line ++ c ∷ []) (bytes ++ rest))
    ≡ lines_from limit (line ++ c ∷ bytes) rest
none_step limit c line bytes rest true n goes all = absurd (omega arith)
none_step limit c line bytes rest false n goes all =
    goes (line ++ c ∷ []) (omega arith) ∙ ap (λ (front : List ℕ). lines_from limit front rest) (append_assoc line (c ∷ []) bytes)

pub cut_none : (limit : ℕ) (line bytes rest : List ℕ) → front_len bytes ≡ length bytes
    → lines_from limit line (bytes ++ rest) ≡ lines_from limit (line ++ bytes) rest
cut_none limit line [] rest all = ap (λ (front : List ℕ). lines_from limit front rest) (sym (append-nil line))
cut_none limit line (c ∷ bytes) rest all =
    none_step limit c line bytes rest (c == 10) (front_len bytes) (λ front. cut_none limit front bytes rest) all

-- What is kept of the line begun has the same lines behind it.
kept_step : (limit c : ℕ) (line rest : List ℕ) (b : Bool)
    → ((front : List ℕ) → lines_from limit (kept_of limit front) rest ≡ lines_from limit front rest)
    → cond b (given_for limit (kept_of limit line) ++ lines_from limit [] rest) (lines_from limit (kept_of limit line ++ c ∷ []) rest)
    ≡ cond b (given_for limit line ++ lines_from limit [] rest) (lines_from limit (line ++ c ∷ []) rest)
kept_step limit c line rest true goes =
    ap (λ (front : List (Option (List ℕ))). front ++ lines_from limit [] rest) (given_kept limit line)
kept_step limit c line rest false goes =
    sym (goes (kept_of limit line ++ c ∷ [])) ∙ ap (λ (front : List ℕ). lines_from limit front rest) (kept_more limit line (c ∷ [])) ∙ goes (line ++ c ∷ [])

pub lines_kept : (limit : ℕ) (line rest : List ℕ) → lines_from limit (kept_of limit line) rest ≡ lines_from limit line rest
lines_kept limit line [] = given_kept limit line
lines_kept limit line (c ∷ rest) = kept_step limit c line rest (c == 10) (λ front. lines_kept limit front rest)

pub given_none : (limit : ℕ) → given_for limit [] ≡ []
unfolding given_for
given_none limit = cond-false (nat_lt limit 0) _ _ (grind (arith, nat_tests))
