-- Parts of lists: takes and drops of joined lists, bytes that are overwritten seen through a part of the list, and numbers
-- in a row cut into parts.
use Rattle.std.proofs.Common.{◌≡◌, ◌≤◌, ◌<◌, ℕ, zero, suc, ◌+◌, ◌-◌, refl, ap, sym, ◌∙◌, List, [], ◌∷◌, ◌++◌, take, drop, length, arith, length-take, length-drop}
use Rattle.std.specs.Prelude.{min}
use Rattle.std.specs.List.{flat_map}
use Rattle.std.proofs.lemmas.List.{append_assoc}
use Rattle.vv_flat.specs.Lists.{numbers_from}
use Rattle.vv_flat.specs.Chunks.{overwritten}

module _ {A : Type 0} where
  take_none : (n : ℕ) → ◌≡◌ {A = List A} (take n []) []
  take_none zero = refl
  take_none (suc n) = refl

  drop_none : (n : ℕ) → ◌≡◌ {A = List A} (drop n []) []
  drop_none zero = refl
  drop_none (suc n) = refl

  pub take-append : (n : ℕ) (xs ys : List A) → take n (xs ++ ys) ≡ take n xs ++ take (n - length xs) ys
  take-append n [] ys =
      let same : n ≡ n - length {A = A} [] = omega arith in
      ap (λ k. take k ys) same ∙ ap (λ zs. zs ++ take (n - length {A = A} []) ys) (sym (take_none n))
  take-append zero (x ∷ xs) ys = let none : 0 ≡ 0 - length (x ∷ xs) = omega arith in ap (λ k. take k ys) none
  take-append (suc n) (x ∷ xs) ys =
      let less : n - length xs ≡ suc n - length (x ∷ xs) = omega arith in
      ap (λ zs. x ∷ zs) (take-append n xs ys) ∙ ap (λ k. x ∷ take n xs ++ take k ys) less

  pub drop-append : (n : ℕ) (xs ys : List A) → drop n (xs ++ ys) ≡ drop n xs ++ drop (n - length xs) ys
  drop-append n [] ys =
      let same : n ≡ n - length {A = A} [] = omega arith in
      ap (λ k. drop k ys) same ∙ ap (λ zs. zs ++ drop (n - length {A = A} []) ys) (sym (drop_none n))
  drop-append zero (x ∷ xs) ys = let none : 0 ≡ 0 - length (x ∷ xs) = omega arith in ap (λ k. x ∷ xs ++ drop k ys) none
  drop-append (suc n) (x ∷ xs) ys =
      let less : n - length xs ≡ suc n - length (x ∷ xs) = omega arith in
      drop-append n xs ys ∙ ap (λ k. drop n xs ++ drop k ys) less

  pub take-take : (n m : ℕ) (xs : List A) → take n (take m xs) ≡ take (min n m) xs
  take-take zero m xs = let none : 0 ≡ min 0 m = omega arith in ap (λ k. take k xs) none
  take-take (suc n) zero xs = let none : 0 ≡ min (suc n) 0 = omega arith in ap (λ k. take k xs) none
  take-take (suc n) (suc m) [] = sym (take_none (min (suc n) (suc m)))
  take-take (suc n) (suc m) (x ∷ xs) =
      let more : suc (min n m) ≡ min (suc n) (suc m) = omega arith in
      ap (λ zs. x ∷ zs) (take-take n m xs) ∙ ap (λ k. take k (x ∷ xs)) more

  pub drop-drop : (n m : ℕ) (xs : List A) → drop n (drop m xs) ≡ drop (m + n) xs
  drop-drop n zero xs = let same : n ≡ 0 + n = omega arith in ap (λ k. drop k xs) same
  drop-drop n (suc m) [] = drop_none n ∙ sym (drop_none (suc m + n))
  drop-drop n (suc m) (x ∷ xs) =
      let more : suc (m + n) ≡ suc m + n = omega arith in
      drop-drop n m xs ∙ ap (λ k. drop k (x ∷ xs)) more

  pub drop-of_take : (n m : ℕ) (xs : List A) → drop n (take m xs) ≡ take (m - n) (drop n xs)
  drop-of_take zero m xs = let same : m ≡ m - 0 = omega arith in ap (λ k. take k xs) same
  drop-of_take (suc n) zero xs = let none : 0 ≡ 0 - suc n = omega arith in ap (λ k. take k (drop (suc n) xs)) none
  drop-of_take (suc n) (suc m) [] = sym (take_none (suc m - suc n))
  drop-of_take (suc n) (suc m) (x ∷ xs) =
      let less : m - n ≡ suc m - suc n = omega arith in
      drop-of_take n m xs ∙ ap (λ k. take k (drop n xs)) less

  pub drop-past : (n : ℕ) (xs : List A) → length xs ≤ n → drop n xs ≡ []
  drop-past n [] le = drop_none n
  drop-past zero (x ∷ xs) le = absurd (omega arith)
  drop-past (suc n) (x ∷ xs) le = drop-past n xs (omega arith)

  pub take-past : (n : ℕ) (xs : List A) → length xs ≤ n → take n xs ≡ xs
  take-past n [] le = take_none n
  take-past zero (x ∷ xs) le = absurd (omega arith)
  take-past (suc n) (x ∷ xs) le = ap (λ ys. x ∷ ys) (take-past n xs (omega arith))

-- A part of a list in which bytes are overwritten is the old part with the bytes that come to lie in it overwritten.
pub part_overwritten : (size from at : ℕ) (bytes new : List ℕ) → at + length new ≤ length bytes
    → take size (drop from (overwritten bytes at new))
    ≡ overwritten (take size (drop from bytes)) (at - from) (take (size - (at - from)) (drop (from - at) new))
part_overwritten size from at bytes new le =
    let old : List ℕ = drop from bytes in
    let mine : List ℕ = drop (from - at) new in
    let front : List ℕ = take (at - from) old in
    let rest : List ℕ = drop (at + length new) bytes in
    let n : ℕ = length new in
    let long_front : length (take at bytes) ≡ at = length-take at bytes ∙ omega arith in
    let dropped : drop from (overwritten bytes at new) ≡ front ++ (mine ++ drop ((from - at) - n) rest) =
    ap (drop from) (append_assoc (take at bytes) new rest) ∙ drop-append from (take at bytes) (new ++ rest)
    ∙ ap (λ zs. zs ++ drop (from - length (take at bytes)) (new ++ rest)) (drop-of_take from at bytes)
    ∙ ap (λ k. front ++ drop (from - k) (new ++ rest)) long_front
    ∙ ap (λ zs. front ++ zs) (drop-append (from - at) new rest) in
    let long_old : length old ≡ length bytes - from = length-drop from bytes in
    let long_front_part : length front ≡ min (at - from) (length old) = length-take (at - from) old in
    let front_is : length front ≡ at - from = omega (arith, long_old, long_front_part, le) in
    let long_mine : length mine ≡ n - (from - at) = length-drop (from - at) new in
    let taken : take size (front ++ (mine ++ drop ((from - at) - n) rest))
    ≡ take size front ++ (take (size - (at - from)) mine ++ take ((size - (at - from)) - (n - (from - at))) (drop ((from - at) - n) rest)) =
    take-append size front (mine ++ drop ((from - at) - n) rest)
    ∙ ap (λ k. take size front ++ take (size - k) (mine ++ drop ((from - at) - n) rest)) front_is
    ∙ ap (λ zs. take size front ++ zs)
    (take-append (size - (at - from)) mine (drop ((from - at) - n) rest)
    ∙ ap (λ k. take (size - (at - from)) mine ++ take ((size - (at - from)) - k) (drop ((from - at) - n) rest)) long_mine) in
    let first : take size front ≡ take (at - from) (take size old) =
    take-take size (at - from) old ∙ ap (λ k. take k old) (omega arith) ∙ sym (take-take (at - from) size old) in
    let long_part : length (take (size - (at - from)) mine) ≡ min (size - (at - from)) (n - (from - at)) =
    length-take (size - (at - from)) mine ∙ ap (λ k. min (size - (at - from)) k) long_mine in
    let last : take ((size - (at - from)) - (n - (from - at))) (drop ((from - at) - n) rest)
    ≡ drop ((at - from) + length (take (size - (at - from)) mine)) (take size old) =
    last_part size from at n bytes
    ∙ ap (λ k. drop ((at - from) + k) (take size old)) (sym long_part) in
    ap (take size) dropped ∙ taken ∙ ap (λ zs. zs ++ (take (size - (at - from)) mine ++ take ((size - (at - from)) - (n - (from - at))) (drop ((from - at) - n) rest))) first
    ∙ ap (λ zs. take (at - from) (take size old) ++ (take (size - (at - from)) mine ++ zs)) last
    ∙ sym (append_assoc (take (at - from) (take size old)) (take (size - (at - from)) mine)
    (drop ((at - from) + length (take (size - (at - from)) mine)) (take size old)))
  where
    last_part : (size from at n : ℕ) (bytes : List ℕ)
        → take ((size - (at - from)) - (n - (from - at))) (drop ((from - at) - n) (drop (at + n) bytes))
        ≡ drop ((at - from) + min (size - (at - from)) (n - (from - at))) (take size (drop from bytes))
    last_part size from at n bytes =
        let k : ℕ = (at - from) + min (size - (at - from)) (n - (from - at)) in
        let same_count : (size - (at - from)) - (n - (from - at)) ≡ size - k = omega arith in
        ap (λ zs. take ((size - (at - from)) - (n - (from - at))) zs) (drop-drop ((from - at) - n) (at + n) bytes)
        ∙ ap (λ m. take m (drop (at + n + ((from - at) - n)) bytes)) same_count
        ∙ past (size - k) refl
        ∙ ap (λ zs. take (size - k) zs) (sym (drop-drop k from bytes))
        ∙ sym (drop-of_take k size (drop from bytes))
      where
        past : (m : ℕ) → size - ((at - from) + min (size - (at - from)) (n - (from - at))) ≡ m
            → take m (drop (at + n + ((from - at) - n)) bytes)
            ≡ take m (drop (from + ((at - from) + min (size - (at - from)) (n - (from - at)))) bytes)
        past zero e = refl
        past (suc m) e = ap (λ j. take (suc m) (drop j bytes)) (omega arith)

-- Numbers in a row.
pub numbers-append : (from n m : ℕ) → numbers_from from (n + m) ≡ numbers_from from n ++ numbers_from (from + n) m
numbers-append from zero m = ap (λ k. numbers_from from k) (omega arith) ∙ ap (λ k. numbers_from k m) (omega arith)
numbers-append from (suc n) m =
    let one : suc n + m ≡ suc (n + m) = omega arith in
    let next : (from + 1) + n ≡ from + suc n = omega arith in
    ap (λ k. numbers_from from k) one
    ∙ ap (λ zs. from ∷ zs) (numbers-append (from + 1) n m ∙ ap (λ k. numbers_from (from + 1) n ++ numbers_from k m) next)

-- what gives nothing of each number gives nothing of all
pub none_of_numbers : {B : Type 0} (f : ℕ → List B) (from count : ℕ) → ((i : ℕ) → from ≤ i → i < from + count → f i ≡ [])
    → flat_map f (numbers_from from count) ≡ []
none_of_numbers f from zero h = refl
none_of_numbers f from (suc count) h =
    ap (λ zs. zs ++ flat_map f (numbers_from (from + 1) count)) (h from (omega arith) (omega arith))
    ∙ none_of_numbers f (from + 1) count (λ i least most. h i (omega arith) (omega arith))
