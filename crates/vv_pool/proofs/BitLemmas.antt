-- Bits of words: what a write to a word changes, and where the next bit is.
use Rattle.std.proofs.Common.{ℕ, ◌≡◌, ◌≢◌, ◌+◌, ◌-◌, ◌*◌, ◌/◌, ◌%◌, ◌^◌, ◌<◌, ◌≤◌, min, List, [], ◌∷◌, ◌++◌, length, get_or, slice_index, set, replicate, bit_or, bit_and, refl, sym, ap, ◌∙◌, subst, ⊎_elim, arith, get_or-set_same, get_or-set_other, length-set}
use Rattle.std.specs.Int.{bit_at, w64, bit_not, trailing_zeros}
use Rattle.std.proofs.lemmas.Bool.{cases_eq, cases_lt, cond-true, cond-false, lt-ltb, le-ltb}
use Rattle.std.proofs.lemmas.List.{get_or_past, get_or_append_left, get_or-replicate, length-replicate, length-append, get_or_at, append-nil}
use Rattle.std.proofs.lemmas.Nat.{pow_pos, shr-shr, le_or_r, one_shl, div-add-mod', mod_below, pow_below}
use Rattle.std.proofs.lemmas.Nat.Bits.{bit_at_set_same, bit_at_set_other, bit_at_clear_same, bit_at_clear_other, bit_at-zero, bit_at_ones, bit_at_ones_above, bit_at-trailing_zeros, bit_at_above}
use Rattle.vv_pool.specs.Bits.{bit_of, below, IsFilled, NoBits, IsNextBit, Puts, Summarizes, SummarizesBut}

rest_below : (k : ℕ) → k % 64 < 64
rest_below k = omega arith

-- two numbers in one word differ by their bits
rest_differs : (k at : ℕ) → k ≢ at → k / 64 ≡ at / 64 → k % 64 ≢ at % 64
rest_differs k at ne same e = ne (omega arith)

-- the bit at a number whose word was written
bit_of-set_same : (words : List ℕ) (k at x : ℕ) → at < 64 * length words → k / 64 ≡ at / 64 → bit_of (set words (at / 64) x) k ≡ bit_at x (k % 64)
bit_of-set_same words k at x h e =
    ap (λ w. bit_at (get_or (set words (at / 64) x) w 0) (k % 64)) e
    ∙ ap (λ y. bit_at y (k % 64)) (get_or-set_same words (at / 64) x 0 (omega arith))

bit_of-set_other : (words : List ℕ) (k at x : ℕ) → k / 64 ≢ at / 64 → bit_of (set words (at / 64) x) k ≡ bit_of words k
bit_of-set_other words k at x ne = ap (λ w. bit_at w (k % 64)) (get_or-set_other words (at / 64) (k / 64) x 0 ne)

-- a word with one bit more
abbrev with_bit : List ℕ → ℕ → ℕ
with_bit words at = bit_or (get_or words (at / 64) 0) (1 * 2 ^ (at % 64) % 2 ^ 64)

insert_here : (words : List ℕ) (at : ℕ) → at < 64 * length words → bit_of (set words (at / 64) (with_bit words at)) at ≡ 1
insert_here words at h =
    bit_of-set_same words at at (with_bit words at) h refl ∙ bit_at_set_same w64 (get_or words (at / 64) 0) (at % 64) (rest_below at)

insert_others : (words : List ℕ) (at k : ℕ) → at < 64 * length words → k ≢ at → bit_of (set words (at / 64) (with_bit words at)) k ≡ bit_of words k
insert_others words at k h ne = ⊎_elim
    (λ same. bit_of-set_same words k at (with_bit words at) h same
    ∙ bit_at_set_other w64 (get_or words (at / 64) 0) (at % 64) (rest_below at) (k % 64) (rest_differs k at ne same)
    ∙ ap (λ w. bit_at (get_or words w 0) (k % 64)) (sym same))
    (λ other. bit_of-set_other words k at (with_bit words at) other)
    (cases_eq (k / 64) (at / 64))

insert_word : (words : List ℕ) (at : ℕ) → at < 64 * length words → 0 < get_or (set words (at / 64) (with_bit words at)) (at / 64) 0
insert_word words at h =
    let same = get_or-set_same words (at / 64) (with_bit words at) 0 (omega arith) in
    omega (arith, le_or_r (get_or words (at / 64) 0) (1 * 2 ^ (at % 64) % 2 ^ 64), one_shl (at % 64) 64 (rest_below at), pow_pos (at % 64))

-- a word with one bit less
abbrev without_bit : List ℕ → ℕ → ℕ
without_bit words at = bit_and (get_or words (at / 64) 0) (bit_not w64 (1 * 2 ^ (at % 64) % 2 ^ 64))

remove_here : (words : List ℕ) (at : ℕ) → at < 64 * length words → bit_of (set words (at / 64) (without_bit words at)) at ≡ 0
remove_here words at h =
    bit_of-set_same words at at (without_bit words at) h refl ∙ bit_at_clear_same w64 (get_or words (at / 64) 0) (at % 64) (rest_below at)

remove_others : (words : List ℕ) (at k : ℕ) → at < 64 * length words → k ≢ at → bit_of (set words (at / 64) (without_bit words at)) k ≡ bit_of words k
remove_others words at k h ne = ⊎_elim
    (λ same. bit_of-set_same words k at (without_bit words at) h same
    ∙ bit_at_clear_other w64 (get_or words (at / 64) 0) (at % 64) (rest_below at) (k % 64) (rest_below k) (rest_differs k at ne same)
    ∙ ap (λ w. bit_at (get_or words w 0) (k % 64)) (sym same))
    (λ other. bit_of-set_other words k at (without_bit words at) other)
    (cases_eq (k / 64) (at / 64))

-- a word past the last has no bit
pub bit_of_past : (words : List ℕ) (k : ℕ) → length words ≤ k / 64 → bit_of words k ≡ 0
bit_of_past words k h = ap (λ w. bit_at w (k % 64)) (get_or_past words (k / 64) 0 h) ∙ bit_at-zero (k % 64)

-- a word that is 0 has no bit
pub bit_of_empty : (words : List ℕ) (k : ℕ) → slice_index words (k / 64) ≡ 0 → bit_of words k ≡ 0
bit_of_empty words k h = ap (λ w. bit_at w (k % 64)) h ∙ bit_at-zero (k % 64)

zero_div : (w m : ℕ) → 0 < m → w / m ≡ 0 → w < m
zero_div w m h e =
    let parts = subst (λ q. q * m + w % m ≡ w) e (div-add-mod' w m) in
    omega (arith, parts, mod_below w m h)

-- the bits of a word from one on, where a shift leaves none
pub none_in_word : (words : List ℕ) (from : ℕ) → slice_index words (from / 64) / 2 ^ (from % 64) ≡ 0 → NoBits words from (64 * (from / 64) + 64)
none_in_word words from h = record {
  each = λ k low high.
      let same : k / 64 ≡ from / 64 = omega arith in
      ap (λ w. bit_at (get_or words w 0) (k % 64)) same
      ∙ bit_at_above (slice_index words (from / 64)) (from % 64) (k % 64)
      (zero_div (slice_index words (from / 64)) (2 ^ (from % 64)) (pow_pos (from % 64)) h) (omega arith);
}

pub none_past : (words : List ℕ) (from : ℕ) → length words ≤ from / 64 → NoBits words from (64 * (from / 64) + 64)
none_past words from h = record { each = λ k low high. bit_of_past words k (omega arith) }

-- bit i of a word that is shifted is bit s + i of the word
bit_at-shifted : (w s i : ℕ) → bit_at (w / 2 ^ s) i ≡ bit_at w (s + i)
bit_at-shifted w s i = ap (λ n. n % 2) (shr-shr w s i)

-- a bit of a word has a place in it
bit_within : (w i : ℕ) → w < 2 ^ 64 → bit_at w i ≡ 1 → i < 64
bit_within w i h e = ⊎_elim (λ lt. lt) (λ ge. let z = bit_at_above w 64 i h ge in absurd (omega arith)) (cases_lt i 64)

module _ (words : List ℕ) (from t : ℕ) (fits : slice_index words (from / 64) < 2 ^ 64) where
  -- the bit at from + i, in the word of from
  bit_of-shifted : (i : ℕ) → from % 64 + i < 64 → bit_of words (from + i) ≡ bit_at (slice_index words (from / 64) / 2 ^ (from % 64)) i
  bit_of-shifted i h =
      let word : (from + i) / 64 ≡ from / 64 = omega arith in
      let rest : (from + i) % 64 ≡ from % 64 + i = omega arith in
      ap (λ w. bit_at (get_or words w 0) ((from + i) % 64)) word
      ∙ ap (bit_at (slice_index words (from / 64))) rest
      ∙ sym (bit_at-shifted (slice_index words (from / 64)) (from % 64) i)

  pub next_is : bit_at (slice_index words (from / 64) / 2 ^ (from % 64)) t ≡ 1 → ((i : ℕ) → i < t → bit_at (slice_index words (from / 64) / 2 ^ (from % 64)) i ≡ 0) → (from % 64 + t < 64) × IsNextBit words from (from + t)
  next_is here before =
      let within : from % 64 + t < 64 = bit_within (slice_index words (from / 64)) (from % 64 + t) fits (sym (bit_at-shifted (slice_index words (from / 64)) (from % 64) t) ∙ here) in (
        within,
        record {
          later = omega arith;
          here = bit_of-shifted t within ∙ here;
          none_before = record {
            each = λ k low high.
                let e : from + (k - from) ≡ k = omega arith in
                subst (λ n. bit_of words n ≡ 0) e (bit_of-shifted (k - from) (omega arith) ∙ before (k - from) (omega arith));
          };
        },
      )

-- what a shift and the count of its zeros give
pub next_found : (words : List ℕ) (from : ℕ) → slice_index words (from / 64) < 2 ^ 64 → 0 < slice_index words (from / 64) / 2 ^ (from % 64) → slice_index words (from / 64) / 2 ^ (from % 64) < 2 ^ 64 → (from % 64 + trailing_zeros w64 (slice_index words (from / 64) / 2 ^ (from % 64)) < 64) × IsNextBit words from (from + trailing_zeros w64 (slice_index words (from / 64) / 2 ^ (from % 64)))
next_found words from fits some small =
    let found = bit_at-trailing_zeros w64 (slice_index words (from / 64) / 2 ^ (from % 64)) some small in
    next_is words from (trailing_zeros w64 (slice_index words (from / 64) / 2 ^ (from % 64))) fits found.1 found.2

below_yes : (k n : ℕ) → k < n → below k n ≡ 1
below_yes k n h = cond-true _ 1 0 (lt-ltb k n h)

below_no : (k n : ℕ) → n ≤ k → below k n ≡ 0
below_no k n h = cond-false _ 1 0 (le-ltb k n h)

-- two stretches without a number, one behind the other
pub none_joined : (words : List ℕ) (from mid to end : ℕ) → NoBits words from mid → NoBits words mid to → end ≡ to → NoBits words from end
none_joined words from mid to end before behind e = record {
  each = λ k low high. ⊎_elim (λ lt. before.each k low lt) (λ ge. behind.each k ge (omega arith)) (cases_lt k mid);
}

pub next_after : (words : List ℕ) (from mid at : ℕ) → from ≤ mid → NoBits words from mid → IsNextBit words mid at → IsNextBit words from at
next_after words from mid at le before next = record {
  later = omega (arith, next.later);
  here = next.here;
  none_before = none_joined words from mid at at before next.none_before refl;
}

-- all bits of so many words
abbrev full_words : ℕ → List ℕ
full_words n = replicate n (2 ^ 64 - 1)

-- the words of the numbers below 64 * m + r: full ones, and where r is not 0 one more
full_below : (m r k : ℕ) → k / 64 < m → (rest : List ℕ) → bit_of (full_words m ++ rest) k ≡ below k (64 * m + r)
full_below m r k h rest =
    let within : k / 64 < length (full_words m) = omega (arith, length-replicate m (2 ^ 64 - 1)) in
    let word : slice_index (full_words m ++ rest) (k / 64) ≡ 2 ^ 64 - 1 = get_or_append_left (full_words m) rest 0 (k / 64) within ∙ get_or-replicate m (k / 64) (2 ^ 64 - 1) 0 h in
    ap (λ w. bit_at w (k % 64)) word ∙ bit_at_ones 64 (k % 64) (rest_below k) ∙ sym (below_yes k (64 * m + r) (omega arith))

-- .. where r is 0
bits-full : (m k : ℕ) → bit_of (full_words m) k ≡ below k (64 * m)
bits-full m k = let whole : 64 * m + 0 ≡ 64 * m = omega arith in ⊎_elim
    (λ lt. subst (λ ws. bit_of ws k ≡ below k (64 * m)) (append-nil (full_words m)) (full_below m 0 k lt [] ∙ ap (below k) whole))
    (λ ge. bit_of_past (full_words m) k (omega (arith, length-replicate m (2 ^ 64 - 1))) ∙ sym (below_no k (64 * m) (omega arith)))
    (cases_lt (k / 64) m)

bits-part : (m r k : ℕ) → r < 64 → bit_of (full_words m ++ (2 ^ r - 1) ∷ []) k ≡ below k (64 * m + r)
bits-part m r k small = ⊎_elim
    (λ lt. full_below m r k lt ((2 ^ r - 1) ∷ []))
    (λ ge. ⊎_elim
    (λ e. let word : slice_index (full_words m ++ (2 ^ r - 1) ∷ []) (k / 64) ≡ 2 ^ r - 1 = get_or_at (full_words m) (2 ^ r - 1) [] 0 (k / 64) (omega (arith, length-replicate m (2 ^ 64 - 1))) in
    ap (λ w. bit_at w (k % 64)) word ∙ ⊎_elim
    (λ in_it. bit_at_ones r (k % 64) in_it ∙ sym (below_yes k (64 * m + r) (omega arith)))
    (λ past. bit_at_ones_above r (k % 64) past ∙ sym (below_no k (64 * m + r) (omega arith)))
    (cases_lt (k % 64) r))
    (λ ne. bit_of_past (full_words m ++ (2 ^ r - 1) ∷ []) k (omega (arith, length-replicate m (2 ^ 64 - 1), length-append (full_words m) ((2 ^ r - 1) ∷ []))) ∙ sym (below_no k (64 * m + r) (omega arith)))
    (cases_eq (k / 64) m))
    (cases_lt (k / 64) m)

words-full : (m j : ℕ) → min 1 (slice_index (full_words m) j) ≡ below j m
words-full m j = ⊎_elim
    (λ lt. ap (min 1) (get_or-replicate m j (2 ^ 64 - 1) 0 lt) ∙ sym (below_yes j m lt))
    (λ ge. ap (min 1) (get_or_past (full_words m) j 0 (omega (arith, length-replicate m (2 ^ 64 - 1)))) ∙ sym (below_no j m ge))
    (cases_lt j m)

words-part : (m r j : ℕ) → 0 < r → min 1 (slice_index (full_words m ++ (2 ^ r - 1) ∷ []) j) ≡ below j (m + 1)
words-part m r j some = ⊎_elim
    (λ lt. let within : j < length (full_words m) = omega (arith, length-replicate m (2 ^ 64 - 1)) in
    ap (min 1) (get_or_append_left (full_words m) ((2 ^ r - 1) ∷ []) 0 j within ∙ get_or-replicate m j (2 ^ 64 - 1) 0 lt) ∙ sym (below_yes j (m + 1) (omega arith)))
    (λ ge. ⊎_elim
    (λ e. let p = pow_below 0 r some in
    let one : min 1 (2 ^ r - 1) ≡ 1 = omega arith in
    ap (min 1) (get_or_at (full_words m) (2 ^ r - 1) [] 0 j (omega (arith, length-replicate m (2 ^ 64 - 1)))) ∙ one ∙ sym (below_yes j (m + 1) (omega arith)))
    (λ ne. ap (min 1) (get_or_past (full_words m ++ (2 ^ r - 1) ∷ []) j 0 (omega (arith, length-replicate m (2 ^ 64 - 1), length-append (full_words m) ((2 ^ r - 1) ∷ [])))) ∙ sym (below_no j (m + 1) (omega arith)))
    (cases_eq j m))
    (cases_lt j m)

-- what a fill makes where the last word is full
pub filled_full : (ws : List ℕ) (n : ℕ) → n % 64 ≤ 0 → ws ≡ full_words (n / 64) → IsFilled ws n
filled_full ws n none e = subst (λ (vs : List ℕ). IsFilled vs n) (sym e) (record {
  bits = λ k. bits-full (n / 64) k ∙ ap (below k) (omega arith);
  some_in_each = λ j. words-full (n / 64) j ∙ ap (below j) (sym (length-replicate (n / 64) (2 ^ 64 - 1)));
  covers = omega (arith, length-replicate (n / 64) (2 ^ 64 - 1));
  few = omega (arith, length-replicate (n / 64) (2 ^ 64 - 1));
})

-- .. and where it is not
pub filled_part : (ws : List ℕ) (n : ℕ) → 0 < n % 64 → ws ≡ full_words (n / 64) ++ (1 * 2 ^ (n % 64) % 2 ^ 64 - 1) ∷ [] → IsFilled ws n
filled_part ws n some e =
    let word : 1 * 2 ^ (n % 64) % 2 ^ 64 - 1 ≡ 2 ^ (n % 64) - 1 = ap (λ x. x - 1) (one_shl (n % 64) 64 (rest_below n)) in
    let size : length (full_words (n / 64) ++ (2 ^ (n % 64) - 1) ∷ []) ≡ n / 64 + 1 = omega (arith, length-append (full_words (n / 64)) ((2 ^ (n % 64) - 1) ∷ []), length-replicate (n / 64) (2 ^ 64 - 1)) in
    subst (λ (vs : List ℕ). IsFilled vs n) (sym (e ∙ ap (λ x. full_words (n / 64) ++ x ∷ []) word)) (record {
      bits = λ k. bits-part (n / 64) (n % 64) k (rest_below n) ∙ ap (below k) (omega arith);
      some_in_each = λ j. words-part (n / 64) (n % 64) j some ∙ ap (below j) (sym size);
      covers = omega arith;
      few = omega arith;
    })

pub insert_puts : (words : List ℕ) (at : ℕ) → at < 64 * length words → Puts words (set words (at / 64) (with_bit words at)) at 1
insert_puts words at h = record {
  here = insert_here words at h;
  others = λ k ne. insert_others words at k h ne;
  size = length-set words (at / 64) (with_bit words at);
}

pub remove_puts : (words : List ℕ) (at : ℕ) → at < 64 * length words → Puts words (set words (at / 64) (without_bit words at)) at 0
remove_puts words at h = record {
  here = remove_here words at h;
  others = λ k ne. remove_others words at k h ne;
  size = length-set words (at / 64) (without_bit words at);
}

-- the bit of number 64 * w + i
bit_of-word : (words : List ℕ) (w i : ℕ) → i < 64 → bit_of words (64 * w + i) ≡ bit_at (slice_index words w) i
bit_of-word words w i h =
    let word : (64 * w + i) / 64 ≡ w = omega arith in
    let rest : (64 * w + i) % 64 ≡ i = omega arith in
    ap (λ v. bit_at (get_or words v 0) ((64 * w + i) % 64)) word ∙ ap (bit_at (slice_index words w)) rest

-- the lowest bit of a word
pub first_is : (words : List ℕ) (w : ℕ) → 0 < slice_index words w → slice_index words w < 2 ^ 64 → (trailing_zeros w64 (slice_index words w) < 64) × IsNextBit words (64 * w) (w * 64 + trailing_zeros w64 (slice_index words w))
first_is words w some small =
    let found = bit_at-trailing_zeros w64 (slice_index words w) some small in
    let t = trailing_zeros w64 (slice_index words w) in
    let turned : w * 64 + t ≡ 64 * w + t = omega arith in (
      found.0,
      subst (λ n. IsNextBit words (64 * w) n) (sym turned) (record {
        later = omega arith;
        here = bit_of-word words w t found.0 ∙ found.1;
        none_before = record {
          each = λ k low high.
              let before : k - 64 * w < t = omega arith in
              let e : 64 * w + (k - 64 * w) ≡ k = omega arith in
              subst (λ n. bit_of words n ≡ 0) e (bit_of-word words w (k - 64 * w) (omega (arith, found.0)) ∙ found.2 (k - 64 * w) before);
        };
      }),
    )

pub within_from_some : (words : List ℕ) (w : ℕ) → 0 < slice_index words w → w < length words
within_from_some words w some = ⊎_elim (λ lt. lt) (λ ge. let z = get_or_past words w 0 ge in absurd (omega arith)) (cases_lt w (length words))

module _ (upper lower : List ℕ) (summary : Summarizes upper lower) where
  -- a word whose number is not in the summary has no bit
  bit_of-unmarked : (k : ℕ) → bit_of upper (k / 64) ≡ 0 → bit_of lower k ≡ 0
  bit_of-unmarked k h = bit_of_empty lower k (let e = summary.each (k / 64) in omega arith)

  -- a word whose number is in the summary has some
  pub some_in_marked : (w : ℕ) → bit_of upper w ≡ 1 → 0 < slice_index lower w
  some_in_marked w h = let e = summary.each w in omega arith

  pub next_by_summary : (from w at : ℕ) → NoBits lower from (64 * (from / 64) + 64) → IsNextBit upper (from / 64 + 1) w → IsNextBit lower (64 * w) at → IsNextBit lower from at
  next_by_summary from w at none up low = record {
    later = omega (arith, up.later, low.later);
    here = low.here;
    none_before = none_joined lower from (64 * (from / 64) + 64) at at none
        (none_joined lower (64 * (from / 64) + 64) (64 * w) at at
        (record { each = λ k l h. bit_of-unmarked k (up.none_before.each (k / 64) (omega arith) (omega arith)) })
        low.none_before refl)
        refl;
  }

  pub none_by_summary : (from : ℕ) → NoBits lower from (64 * (from / 64) + 64) → ((j : ℕ) → from / 64 + 1 ≤ j → bit_of upper j ≡ 0) → (k : ℕ) → from ≤ k → bit_of lower k ≡ 0
  none_by_summary from none up k le = ⊎_elim
      (λ lt. none.each k le lt)
      (λ ge. bit_of-unmarked k (up (k / 64) (omega arith)))
      (cases_lt k (64 * (from / 64) + 64))

-- a summary that is brought up to date at one word
pub summary-noted : (upper upper' lower : List ℕ) (word : ℕ) → SummarizesBut upper lower word → Puts upper upper' word (min 1 (slice_index lower word)) → Summarizes upper' lower
summary-noted upper upper' lower word but puts = record {
  covers = omega (arith, but.covers, puts.size);
  each = λ j. ⊎_elim
      (λ e. ap (bit_of upper') e ∙ puts.here ∙ ap (λ w. min 1 (slice_index lower w)) (sym e))
      (λ ne. puts.others j ne ∙ but.each j ne)
      (cases_eq j word);
}

-- a summary after a write to one word
pub but_after : (upper lower lower' : List ℕ) (word : ℕ) → Summarizes upper lower → ((j : ℕ) → j ≢ word → slice_index lower' j ≡ slice_index lower j) → length lower' ≡ length lower → SummarizesBut upper lower' word
but_after upper lower lower' word summary others size = record {
  covers = omega (arith, summary.covers);
  each = λ j ne. summary.each j ∙ ap (min 1) (sym (others j ne));
}

-- a summary of filled words
pub summary-filled : (upper lower : List ℕ) (n : ℕ) → IsFilled lower n → IsFilled upper (length lower) → Summarizes upper lower
summary-filled upper lower n low up = record {
  covers = up.covers;
  each = λ j. up.bits j ∙ sym (low.some_in_each j);
}
