-- Pieces of texts.
use Rattle.std.proofs.Common.{◌≡◌, ℕ, zero, suc, ◌+◌, ◌-◌, ◌*◌, List, [], ◌∷◌, ◌++◌, length, take, drop, refl, sym, ap, ◌∙◌, arith, length-drop}
use Rattle.std.specs.List.{flat_map}
use Rattle.std.proofs.lemmas.List.{drop-drop, drop_at}
use Rattle.vv_area.specs.Pieces.{bytes_within}

take-both : (n : ℕ) (xs ys : List ℕ) → take n (xs ++ ys) ≡ take n xs ++ take (n - length xs) ys
take-both n [] ys = let k : n - 0 ≡ n = omega arith in take_none n ys k
  where
    take_none : (n : ℕ) (ys : List ℕ) → n - 0 ≡ n → take n ys ≡ take n [] ++ take (n - 0) ys
    take_none zero ys e = ap (λ m. take m ys) (sym e)
    take_none (suc n) ys e = ap (λ m. take m ys) (sym e)
take-both zero (x ∷ xs) ys = let k : 0 - length (x ∷ xs) ≡ 0 = omega arith in ap (λ m. take m ys) (sym k)
take-both (suc n) (x ∷ xs) ys =
    let k : suc n - length (x ∷ xs) ≡ n - length xs = omega arith in
    ap (λ zs. x ∷ zs) (take-both n xs ys) ∙ ap (λ m. x ∷ (take n xs ++ take m ys)) (sym k)

drop-both : (n : ℕ) (xs ys : List ℕ) → drop n (xs ++ ys) ≡ drop n xs ++ drop (n - length xs) ys
drop-both n [] ys = let k : n - 0 ≡ n = omega arith in drop_none n ys k
  where
    drop_none : (n : ℕ) (ys : List ℕ) → n - 0 ≡ n → drop n ys ≡ drop n [] ++ drop (n - 0) ys
    drop_none zero ys e = ap (λ m. drop m ys) (sym e)
    drop_none (suc n) ys e = ap (λ m. drop m ys) (sym e)
drop-both zero (x ∷ xs) ys = let k : 0 - length (x ∷ xs) ≡ 0 = omega arith in ap (λ m. x ∷ (xs ++ drop m ys)) (sym k)
drop-both (suc n) (x ∷ xs) ys =
    let k : suc n - length (x ∷ xs) ≡ n - length xs = omega arith in
    drop-both n xs ys ∙ ap (λ m. drop n xs ++ drop m ys) (sym k)

pub cut_texts : (at n : ℕ) (xs ys : List ℕ) → bytes_within at n (xs ++ ys) ≡ bytes_within at n xs ++ bytes_within (at - length xs) (n - (length xs - at)) ys
cut_texts at n xs ys =
    ap (take n) (drop-both at xs ys) ∙ take-both n (drop at xs) (drop (at - length xs) ys)
    ∙ ap (λ m. take n (drop at xs) ++ take (n - m) (drop (at - length xs) ys)) (length-drop at xs)

none_taken : (n : ℕ) → [] ≡ take {A = ℕ} n []
none_taken zero = refl
none_taken (suc n) = refl

none_dropped : (n : ℕ) → drop {A = ℕ} n [] ≡ []
none_dropped zero = refl
none_dropped (suc n) = refl

take_then : (m n : ℕ) (text : List ℕ) → take (m + n) text ≡ take m text ++ take n (drop m text)
take_then zero n text = let k : 0 + n ≡ n = omega arith in ap (λ m. take m text) k
take_then (suc m) n [] = let k : suc m + n ≡ suc (m + n) = omega arith in ap (λ m. take {A = ℕ} m []) k ∙ none_taken n
take_then (suc m) n (x ∷ text) = let k : suc m + n ≡ suc (m + n) = omega arith in ap (λ m. take m (x ∷ text)) k ∙ ap (λ zs. x ∷ zs) (take_then m n text)

pub cut_piece : (at m n : ℕ) (text : List ℕ) → bytes_within at (m + n) text ≡ bytes_within at m text ++ bytes_within (at + m) n text
cut_piece at m n text = take_then m n (drop at text) ∙ ap (λ rest. take m (drop at text) ++ take n rest) (drop-drop m at text)

pub drop_items : {A : Type 0} (w : ℕ) (item : A → List ℕ) → ((x : A) → length (item x) ≡ w) → (k : ℕ) (xs : List A) → drop (w * k) (flat_map item xs) ≡ flat_map item (drop k xs)
drop_items w item each zero xs = let e : w * 0 ≡ 0 = omega arith in ap (λ m. drop m (flat_map item xs)) e
drop_items w item each (suc k) [] = none_dropped (w * suc k)
drop_items w item each (suc k) (x ∷ xs) =
    let e : w * suc k ≡ w + w * k = omega arith in
    let s = each x in
    let first : drop w (item x ++ flat_map item xs) ≡ flat_map item xs = drop_at (item x) (flat_map item xs) w s in
    ap (λ m. drop m (item x ++ flat_map item xs)) e ∙ sym (drop-drop (w * k) w (item x ++ flat_map item xs)) ∙ ap (drop (w * k)) first ∙ drop_items w item each k xs
