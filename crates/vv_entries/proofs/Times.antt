-- How often a number stands in a list.
use Rattle.std.proofs.Common.{ℕ, zero, suc, ◌≡◌, ◌≢◌, ◌+◌, ◌<◌, ◌≤◌, ◌==◌, cond, List, [], ◌∷◌, ◌++◌, length, slice_index, set, refl, sym, ap, ◌∙◌, ⊎_elim, arith}
use Rattle.std.proofs.lemmas.Bool.{cases_eq, cond-true, cond-false, eq-eqb, ne_eqb}
use Rattle.std.proofs.lemmas.List.Sums.{sum_by-cons, sum_by-append, sum_by-set}
use Rattle.vv_entries.specs.Changes.{times}

-- 1 where two numbers are the same
abbrev pub same_bit : ℕ → ℕ → ℕ
same_bit m n = cond (m == n) 1 0

pub same_bit_yes : (m n : ℕ) → m ≡ n → same_bit m n ≡ 1
same_bit_yes m n e = cond-true _ 1 0 (eq-eqb m n e)

pub same_bit_no : (m n : ℕ) → m ≢ n → same_bit m n ≡ 0
same_bit_no m n ne = cond-false _ 1 0 (ne_eqb m n ne)

pub times-nil : (n : ℕ) → times n [] ≡ 0
unfolding times
times-nil n = refl

pub times-cons : (n m : ℕ) (ms : List ℕ) → times n (m ∷ ms) ≡ same_bit m n + times n ms
unfolding times
times-cons n m ms = sum_by-cons (λ k. same_bit k n) m ms

pub times-append : (n : ℕ) (ms ks : List ℕ) → times n (ms ++ ks) ≡ times n ms + times n ks
unfolding times
times-append n ms ks = sum_by-append (λ k. same_bit k n) ms ks

pub times-set : (n : ℕ) (ns : List ℕ) (i m : ℕ) → i < length ns → times n (set ns i m) + same_bit (slice_index ns i) n ≡ times n ns + same_bit m n
unfolding times
times-set n ns i m h = sum_by-set (λ k. same_bit k n) ns i m 0 h

-- a number that stands nowhere, and one that stands somewhere
pub times_out : (n : ℕ) (ns : List ℕ) → ((i : ℕ) → i < length ns → slice_index ns i ≢ n) → times n ns ≡ 0
times_out n [] out = times-nil n
times_out n (m ∷ ms) out =
    let first = same_bit_no m n (out 0 (omega arith)) in
    let rest = times_out n ms (λ i lt. out (suc i) (omega arith)) in
    omega (arith, times-cons n m ms)

pub times_in : (n : ℕ) (ns : List ℕ) (i : ℕ) → i < length ns → slice_index ns i ≡ n → 1 ≤ times n ns
times_in n [] i h e = absurd (omega arith)
times_in n (m ∷ ms) zero h e = let first = same_bit_yes m n e in omega (arith, times-cons n m ms)
times_in n (m ∷ ms) (suc i) h e = let rest = times_in n ms i (omega arith) e in omega (arith, times-cons n m ms)

pub out_from_times : (n : ℕ) (ns : List ℕ) → times n ns ≡ 0 → (i : ℕ) → i < length ns → slice_index ns i ≢ n
out_from_times n ns none i h e = let one = times_in n ns i h e in omega arith

abbrev pub Stands : ℕ → List ℕ → Type 0
Stands n ns = (i : ℕ) × (i < length ns) × (slice_index ns i ≡ n)

pub times_stands : (n : ℕ) (ns : List ℕ) → 1 ≤ times n ns → Stands n ns
times_stands n [] h = absurd (omega (arith, times-nil n))
times_stands n (m ∷ ms) h = ⊎_elim
    (λ e. (0, omega arith, e))
    (λ ne. let first = same_bit_no m n ne in
    let rest = times_stands n ms (omega (arith, times-cons n m ms)) in
    (suc rest.0, omega (arith, rest.1), rest.2))
    (cases_eq m n)

-- numbers that are all different
abbrev pub Apart : List ℕ → Type 0
Apart ns = (i j : ℕ) → i < j → j < length ns → slice_index ns i ≢ slice_index ns j

pub apart_rest : (m : ℕ) (ms : List ℕ) → Apart (m ∷ ms) → Apart ms
apart_rest m ms apart i j lt h = apart (suc i) (suc j) (omega arith) (omega arith)

pub times_first : (m : ℕ) (ms : List ℕ) → Apart (m ∷ ms) → times m ms ≡ 0
times_first m ms apart = times_out m ms (λ i lt e. apart 0 (suc i) (omega arith) (omega arith) (sym e))

pub times_apart : (n : ℕ) (ns : List ℕ) → Apart ns → times n ns ≤ 1
times_apart n [] apart = omega (arith, times-nil n)
times_apart n (m ∷ ms) apart =
    let rest = times_apart n ms (apart_rest m ms apart) in
    ⊎_elim
    (λ e. let none : times n ms ≡ 0 = ap (λ k. times k ms) (sym e) ∙ times_first m ms apart in
    let first = same_bit_yes m n e in omega (arith, times-cons n m ms))
    (λ ne. let first = same_bit_no m n ne in omega (arith, times-cons n m ms))
    (cases_eq m n)

-- each of some different numbers stands at most as often as it is counted, where it is counted at all
pub times_counted : (f : ℕ → ℕ) (n : ℕ) (ns : List ℕ) → Apart ns → ((i : ℕ) → i < length ns → 1 ≤ f (slice_index ns i)) → times n ns ≤ f n
times_counted f n [] apart one = omega (arith, times-nil n)
times_counted f n (m ∷ ms) apart one =
    let rest = times_counted f n ms (apart_rest m ms apart) (λ i lt. one (suc i) (omega arith)) in
    ⊎_elim
    (λ e. let none : times n ms ≡ 0 = ap (λ k. times k ms) (sym e) ∙ times_first m ms apart in
    let first = same_bit_yes m n e in
    let some : 1 ≤ f m = one 0 (omega arith) in
    let same : f m ≡ f n = ap f e in omega (arith, times-cons n m ms))
    (λ ne. let first = same_bit_no m n ne in omega (arith, times-cons n m ms))
    (cases_eq m n)
