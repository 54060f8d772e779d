-- What a store keeps when a page is placed, raised or lowered.
use Rattle.std.proofs.Common.{ℕ, zero, suc, ◌≡◌, ◌+◌, ◌^◌, ◌<◌, ◌==◌, cond, List, [], ◌∷◌, ◌++◌, length, slice_index, set, replicate, count_by, refl, sym, ap, ◌∙◌, subst, ⊎_elim, arith, get_or-set_same, get_or-set_other, length-set}
use Rattle.std.proofs.lemmas.Bool.{cases_lt, cond-true, cond-false, eq-eqb, ne_eqb}
use Rattle.std.proofs.lemmas.List.{get_or_past, get_or_append_left, get_or_push, length_push}
use Rattle.std.proofs.lemmas.List.Sums.{sum_by-set, count_by-le-length, sum_by_push, sum_by-cons, sum_by-append}
use Rattle.vv_map.specs.Pages.{IsStore}

-- 1 where nothing is counted
abbrev pub zero_bit : ℕ → ℕ
zero_bit count = cond (count == 0) 1 0

pub zero_bit_yes : (n : ℕ) → n ≡ 0 → zero_bit n ≡ 1
zero_bit_yes n h = cond-true _ 1 0 (eq-eqb n 0 h)

pub zero_bit_no : (n : ℕ) → 0 < n → zero_bit n ≡ 0
zero_bit_no n h = cond-false _ 1 0 (ne_eqb n 0 (λ e. omega arith))

abbrev pub zeros : List ℕ → ℕ
zeros counts = count_by (λ count. count == 0) counts

pub zeros-set : (counts : List ℕ) (at n : ℕ) → at < length counts → zeros (set counts at n) + zero_bit (slice_index counts at) ≡ zeros counts + zero_bit n
zeros-set counts at n h = sum_by-set zero_bit counts at n 0 h

pub within_from_count : (counts : List ℕ) (at : ℕ) → 0 < slice_index counts at → at < length counts
within_from_count counts at h = ⊎_elim (λ lt. lt) (λ ge. let z = get_or_past counts at 0 ge in absurd (omega arith)) (cases_lt at (length counts))

-- a place that counts leaves room for one more unused page
pub unused_fits : {E : Type 0} (pages : List (List E)) (counts unused : List ℕ) (memory at : ℕ) → IsStore pages counts unused memory → 0 < slice_index counts at → length unused < memory
unused_fits pages counts unused memory at kept some =
    let change = zeros-set counts at 0 (within_from_count counts at some) in
    let most = count_by-le-length (λ count. count == 0) (set counts at 0) in
    let size = length-set counts at 0 in
    let no = zero_bit_no (slice_index counts at) some in
    let yes = zero_bit_yes 0 refl in
    omega (arith, kept.same, kept.room, kept.all)

-- the last unused page gets entries
pub kept-place : {E : Type 0} (pages : List (List E)) (counts rest : List ℕ) (memory number : ℕ) (page : List E) → IsStore pages counts (rest ++ number ∷ []) memory → (number < length counts) × (slice_index counts number ≡ 0) × IsStore (set pages number page) (set counts number 1) rest memory
kept-place pages counts rest memory number page kept =
    let last : length rest < length (rest ++ number ∷ []) = omega (arith, length_push rest number) in
    let at_last : slice_index (rest ++ number ∷ []) (length rest) ≡ number = get_or_push rest number 0 (length rest) refl in
    let within : number < length counts = subst (λ n. n < length counts) at_last (kept.within (length rest) last) in
    let was : slice_index counts number ≡ 0 = ap (slice_index counts) (sym at_last) ∙ kept.zero (length rest) last in
    let same = λ (i : ℕ) (lt : i < length rest). get_or_append_left rest (number ∷ []) 0 i lt in
    let longer = length_push rest number in
    let other = λ (i : ℕ) (lt : i < length rest) (e : slice_index rest i ≡ number). kept.apart i (length rest) lt last (same i lt ∙ e ∙ sym at_last) in
    let size = length-set counts number 1 in (
      within,
      was,
      record {
        same = omega (arith, kept.same, length-set pages number page);
        few = omega (arith, kept.few, length-set pages number page);
        room = omega (arith, kept.room, length-set pages number page);
        within = λ i lt. subst (λ n. slice_index rest i < n) (sym size) (subst (λ n. n < length counts) (same i lt) (kept.within i (omega arith)));
        zero = λ i lt. get_or-set_other counts number (slice_index rest i) 1 0 (other i lt) ∙ ap (slice_index counts) (sym (same i lt)) ∙ kept.zero i (omega arith);
        apart = λ i j lt h e. kept.apart i j lt (omega arith) (same i (omega arith) ∙ e ∙ sym (same j h));
        all = let change = zeros-set counts number 1 within in
            let yes = zero_bit_yes (slice_index counts number) was in
            let no = zero_bit_no 1 (omega arith) in
            omega (arith, kept.all);
      },
    )

-- a page that was named once goes to the unused ones
pub kept-lower : {E : Type 0} (pages : List (List E)) (counts unused : List ℕ) (memory number : ℕ) (page : List E) → IsStore pages counts unused memory → slice_index counts number ≡ 1 → IsStore (set pages number page) (set counts number 0) (unused ++ number ∷ []) memory
kept-lower pages counts unused memory number page kept one =
    let within : number < length counts = within_from_count counts number (omega arith) in
    let size = length-set counts number 0 in
    let longer = length_push unused number in
    let at_last : slice_index (unused ++ number ∷ []) (length unused) ≡ number = get_or_push unused number 0 (length unused) refl in
    let same = λ (i : ℕ) (lt : i < length unused). get_or_append_left unused (number ∷ []) 0 i lt in
    let other = λ (i : ℕ) (lt : i < length unused) (e : slice_index unused i ≡ number). let z = kept.zero i lt in let o : slice_index counts (slice_index unused i) ≡ 1 = ap (slice_index counts) e ∙ one in let bad : ⊥ = omega arith in bad in
    record {
      same = omega (arith, kept.same, length-set pages number page);
      few = omega (arith, kept.few, length-set pages number page);
      room = omega (arith, kept.room, length-set pages number page);
      within = λ i lt. ⊎_elim
          (λ old. subst (λ n. slice_index (unused ++ number ∷ []) i < n) (sym size) (subst (λ n. n < length counts) (sym (same i old)) (kept.within i old)))
          (λ ge. let e : i ≡ length unused = omega arith in
          subst (λ k. slice_index (unused ++ number ∷ []) k < length (set counts number 0)) (sym e) (omega (arith, at_last)))
          (cases_lt i (length unused));
      zero = λ i lt. ⊎_elim
          (λ old. ap (slice_index (set counts number 0)) (same i old) ∙ get_or-set_other counts number (slice_index unused i) 0 0 (other i old) ∙ kept.zero i old)
          (λ ge. let e : i ≡ length unused = omega arith in
          ap (λ k. slice_index (set counts number 0) (slice_index (unused ++ number ∷ []) k)) e ∙ ap (slice_index (set counts number 0)) at_last ∙ get_or-set_same counts number 0 0 within)
          (cases_lt i (length unused));
      apart = λ i j lt h e. ⊎_elim
          (λ old. kept.apart i j lt old (sym (same i (omega arith)) ∙ e ∙ same j old))
          (λ ge. let k : j ≡ length unused = omega arith in
          other i (omega arith) (sym (same i (omega arith)) ∙ e ∙ ap (slice_index (unused ++ number ∷ [])) k ∙ at_last))
          (cases_lt j (length unused));
      all = let change = zeros-set counts number 0 within in
          let no = zero_bit_no (slice_index counts number) (omega arith) in
          let yes = zero_bit_yes 0 refl in
          omega (arith, kept.all);
    }

-- the same, by what the calls on the vectors say
pub kept-placed : {E : Type 0} (pages : List (List E)) (counts unused rest : List ℕ) (memory memory' number : ℕ) (page : List E) → IsStore pages counts unused memory → unused ≡ rest ++ number ∷ [] → memory' ≡ memory → (number < length counts) × (slice_index counts number ≡ 0) × IsStore (set pages number page) (set counts number 1) rest memory'
kept-placed pages counts unused rest memory memory' number page kept split same =
    let found = kept-place pages counts rest memory number page (subst (λ (us : List ℕ). IsStore pages counts us memory) split kept) in
    (found.0, found.1, subst (λ m. IsStore (set pages number page) (set counts number 1) rest m) (sym same) found.2)

pub kept-lowered : {E : Type 0} (pages : List (List E)) (counts unused unused' : List ℕ) (memory memory' number left : ℕ) (page : List E) → IsStore pages counts unused memory → slice_index counts number ≡ 1 → left ≡ 0 → unused' ≡ unused ++ number ∷ [] → memory' ≡ memory → IsStore (set pages number page) (set counts number left) unused' memory'
kept-lowered pages counts unused unused' memory memory' number left page kept one none pushed same =
    subst (λ m. IsStore (set pages number page) (set counts number left) unused' m) (sym same)
    (subst (λ (us : List ℕ). IsStore (set pages number page) (set counts number left) us memory) (sym pushed)
    (subst (λ n. IsStore (set pages number page) (set counts number n) (unused ++ number ∷ []) memory) (sym none)
    (kept-lower pages counts unused memory number page kept one)))

zeros-push : (counts : List ℕ) (n : ℕ) → zeros (counts ++ n ∷ []) ≡ zeros counts + zero_bit n
zeros-push counts n = sum_by_push zero_bit counts n

-- one unused page more, for which there is memory
pub kept-extend : {E : Type 0} (pages : List (List E)) (counts unused : List ℕ) (memory : ℕ) → IsStore pages counts unused memory → length pages < memory → length pages + 1 < 2 ^ 32 → IsStore (pages ++ [] ∷ []) (counts ++ 0 ∷ []) (unused ++ length pages ∷ []) memory
kept-extend pages counts unused memory kept fits few =
    let n = length pages in
    let pages_more = length_push pages [] in
    let counts_more = length_push counts 0 in
    let unused_more = length_push unused n in
    let at_last : slice_index (unused ++ n ∷ []) (length unused) ≡ n = get_or_push unused n 0 (length unused) refl in
    let same = λ (i : ℕ) (lt : i < length unused). get_or_append_left unused (n ∷ []) 0 i lt in
    record {
      same = omega (arith, kept.same, pages_more, counts_more);
      few = omega (arith, pages_more);
      room = omega (arith, pages_more);
      within = λ i lt. ⊎_elim
          (λ old. let e = same i old in let low = kept.within i old in omega (arith, e, low, counts_more))
          (λ ge. let e : i ≡ length unused = omega (arith, unused_more) in
          subst (λ k. slice_index (unused ++ n ∷ []) k < length (counts ++ 0 ∷ [])) (sym e) (omega (arith, at_last, counts_more, kept.same)))
          (cases_lt i (length unused));
      zero = λ i lt. ⊎_elim
          (λ old. ap (slice_index (counts ++ 0 ∷ [])) (same i old) ∙ get_or_append_left counts (0 ∷ []) 0 (slice_index unused i) (kept.within i old) ∙ kept.zero i old)
          (λ ge. let e : i ≡ length unused = omega (arith, unused_more) in
          ap (λ k. slice_index (counts ++ 0 ∷ []) (slice_index (unused ++ n ∷ []) k)) e ∙ ap (slice_index (counts ++ 0 ∷ [])) at_last ∙ get_or_push counts 0 0 n kept.same)
          (cases_lt i (length unused));
      apart = λ i j lt h e. ⊎_elim
          (λ old. kept.apart i j lt old (sym (same i (omega arith)) ∙ e ∙ same j old))
          (λ ge. let k : j ≡ length unused = omega (arith, unused_more) in
          let low = kept.within i (omega arith) in
          let is : slice_index unused i ≡ n = sym (same i (omega arith)) ∙ e ∙ ap (slice_index (unused ++ n ∷ [])) k ∙ at_last in
          let bad : ⊥ = omega (arith, low, is, kept.same) in bad)
          (cases_lt j (length unused));
      all = let more = zeros-push counts 0 in let yes = zero_bit_yes 0 refl in omega (arith, kept.all, more, yes, unused_more);
    }

zeros-replicate : (n : ℕ) → zeros (replicate n 0) ≡ n
zeros-replicate zero = refl
zeros-replicate (suc n) =
    let more : zeros (replicate (suc n) 0) ≡ zero_bit 0 + zeros (replicate n 0) = sum_by-cons zero_bit 0 (replicate n 0) in
    let yes = zero_bit_yes 0 refl in
    omega (arith, zeros-replicate n)

-- so many unused pages more
pub zeros-extended : (counts : List ℕ) (n : ℕ) → zeros (counts ++ replicate n 0) ≡ zeros counts + n
zeros-extended counts n = sum_by-append zero_bit counts (replicate n 0) ∙ ap (λ k. zeros counts + k) (zeros-replicate n)
