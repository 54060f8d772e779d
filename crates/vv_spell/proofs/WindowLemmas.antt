-- A window and the text that is put: two texts behind one another are put as one, and what becomes of the window where a
-- text is ahead of it or behind it as a whole. These serve the window and all that is put.
use Rattle.std.proofs.Common.{◌≡◌, ◌≤◌, ℕ, zero, suc, ◌+◌, ◌-◌, ◌*◌, List, [], ◌∷◌, ◌++◌, length, map, take, drop, refl, sym, ap, ◌∙◌, arith, length-take, length-drop, length-append, append-nil, get_or, ◌<◌, inl, inr}
use Rattle.std.specs.Prelude.{min, slice_get, Some}
use Rattle.std.specs.List.{flat_map}
use Rattle.std.specs.Int.{bytes_high_first}
use Rattle.std.proofs.lemmas.List.{append_assoc, take-append-drop}
use Rattle.std.proofs.lemmas.Bool.{cases_lt}
use Rattle.std.proofs.lemmas.Grind.{flat_map-append}
use Rattle.vv_area.specs.Pieces.{bytes_within}
use Rattle.vv_area.proofs.PieceLemmas.{cut_texts}
use Rattle.vv_laws.proofs.ListParts.{take-append, drop-append, take-take, drop-drop, drop-past, take-past}
use Rattle.vv_spell.specs.Window.{WindowState, behind}

-- windows are equal by their parts
same_window : (w v : WindowState) → w.ahead ≡ v.ahead → w.written ≡ v.written → w.free ≡ v.free → w ≡ v
same_window w v a b c =
    ap (λ n. record { ahead = n; written = w.written; free = w.free }) a
    ∙ ap (λ xs. record { ahead = v.ahead; written = xs; free = w.free }) b
    ∙ ap (λ xs. record { ahead = v.ahead; written = v.written; free = xs }) c

take_none : (n : ℕ) → take {A = ℕ} n [] ≡ []
take_none zero = refl
take_none (suc n) = refl

drop_none : (n : ℕ) → drop {A = ℕ} n [] ≡ []
drop_none zero = refl
drop_none (suc n) = refl

pub behind_more : (w : WindowState) (xs ys : List ℕ) → behind (behind w xs) ys ≡ behind w (xs ++ ys)
unfolding behind
behind_more w xs ys =
    let lengths : length (xs ++ ys) ≡ length xs + length ys = length-append xs ys in
    let left : length (drop (length xs - w.ahead) w.free) ≡ length w.free - (length xs - w.ahead) = length-drop (length xs - w.ahead) w.free in
    let a : w.ahead - length xs - length ys ≡ w.ahead - length (xs ++ ys) = omega (arith, lengths) in
    let cut = cut_texts w.ahead (length w.free) xs ys in
    let b : (w.written ++ bytes_within w.ahead (length w.free) xs) ++ bytes_within (w.ahead - length xs) (length (drop (length xs - w.ahead) w.free)) ys ≡ w.written ++ bytes_within w.ahead (length w.free) (xs ++ ys) =
    append_assoc w.written (bytes_within w.ahead (length w.free) xs) (bytes_within (w.ahead - length xs) (length (drop (length xs - w.ahead) w.free)) ys)
    ∙ ap (λ n. w.written ++ (bytes_within w.ahead (length w.free) xs ++ bytes_within (w.ahead - length xs) n ys)) left
    ∙ ap (λ zs. w.written ++ zs) (sym cut) in
    let sums : (length xs - w.ahead) + (length ys - (w.ahead - length xs)) ≡ length (xs ++ ys) - w.ahead = omega (arith, lengths) in
    let c : drop (length ys - (w.ahead - length xs)) (drop (length xs - w.ahead) w.free) ≡ drop (length (xs ++ ys) - w.ahead) w.free =
    drop-drop (length ys - (w.ahead - length xs)) (length xs - w.ahead) w.free ∙ ap (λ n. drop n w.free) sums in
    same_window (behind (behind w xs) ys) (behind w (xs ++ ys)) a b c

pub behind_nothing : (w : WindowState) → behind w [] ≡ w
unfolding behind
behind_nothing w =
    let a : w.ahead - length {A = ℕ} [] ≡ w.ahead = omega arith in
    let b : w.written ++ bytes_within w.ahead (length w.free) [] ≡ w.written =
    ap (λ zs. w.written ++ take (length w.free) zs) (drop_none w.ahead) ∙ ap (λ zs. w.written ++ zs) (take_none (length w.free)) ∙ append-nil w.written in
    let none : length {A = ℕ} [] - w.ahead ≡ 0 = omega arith in
    same_window (behind w []) w a b (ap (λ n. drop n w.free) none)

-- a text that is ahead as a whole
pub behind_ahead : (w : WindowState) (text : List ℕ) → length text ≤ w.ahead → behind w text ≡ record w { ahead = w.ahead - length text }
unfolding behind
behind_ahead w text le =
    let b : w.written ++ bytes_within w.ahead (length w.free) text ≡ w.written =
    ap (λ zs. w.written ++ take (length w.free) zs) (drop-past w.ahead text le) ∙ ap (λ zs. w.written ++ zs) (take_none (length w.free)) ∙ append-nil w.written in
    let none : length text - w.ahead ≡ 0 = omega (arith, le) in
    same_window (behind w text) (record w { ahead = w.ahead - length text }) refl b (ap (λ n. drop n w.free) none)

-- a text behind it as a whole
pub behind_full : (w : WindowState) (text : List ℕ) → w.ahead ≡ 0 → w.free ≡ [] → behind w text ≡ w
unfolding behind
behind_full w text none full =
    let a : w.ahead - length text ≡ w.ahead = omega (arith, none) in
    let b : w.written ++ bytes_within w.ahead (length w.free) text ≡ w.written =
    ap (λ zs. w.written ++ take (length zs) (drop w.ahead text)) full ∙ append-nil w.written in
    let c : drop (length text - w.ahead) w.free ≡ w.free = ap (drop (length text - w.ahead)) full ∙ drop_none (length text - w.ahead) ∙ sym full in
    same_window (behind w text) w a b c

-- texts that are put one behind the other
pub put_end : (s t : WindowState) (x : List ℕ) → t ≡ behind s x → t ≡ behind s (x ++ [])
put_end s t x last = last ∙ ap (behind s) (sym (append-nil x))

-- two texts
pub put_two : (s t u : WindowState) (x y : List ℕ) → t ≡ behind s x → u ≡ behind t y → u ≡ behind s (x ++ y)
put_two s t u x y first then = then ∙ ap (λ w. behind w y) first ∙ behind_more s x y

-- one item more of a list
one_more : {A : Type 0} (item : A → List ℕ) (xs : List A) (k : ℕ) (x : A) → slice_get xs k ≡ Some x → flat_map item (take (k + 1) xs) ≡ flat_map item (take k xs) ++ item x
one_more item [] k x at = absurd (cc)
one_more item (y ∷ xs) zero x at = let same : y ≡ x = cc in ap (λ z. item z ++ []) same ∙ append-nil (item x)
one_more item (y ∷ xs) (suc k) x at =
    let e : suc k + 1 ≡ suc (k + 1) = omega arith in
    ap (λ m. flat_map item (take m (y ∷ xs))) e ∙ ap (λ zs. item y ++ zs) (one_more item xs k x at) ∙ sym (append_assoc (item y) (flat_map item (take k xs)) (item x))

pub put_more : {A : Type 0} (s t u : WindowState) (item : A → List ℕ) (xs : List A) (k : ℕ) (x : A)
    → t ≡ behind s (flat_map item (take k xs)) → slice_get xs k ≡ Some x → u ≡ behind t (item x) → u ≡ behind s (flat_map item (take (k + 1) xs))
put_more s t u item xs k x before at then = put_two s t u (flat_map item (take k xs)) (item x) before then ∙ ap (behind s) (sym (one_more item xs k x at))

item_at : {A : Type 0} (xs : List A) (k : ℕ) (x : A) → k < length xs → x ≡ get_or xs k x → slice_get xs k ≡ Some x
item_at [] k x lt is = absurd (omega (arith, lt))
item_at (y ∷ xs) zero x lt is = ap Some (sym is)
item_at (y ∷ xs) (suc k) x lt is = item_at xs k x (omega (arith, lt)) is

-- .. of a slice
pub put_next : {A : Type 0} (s t u : WindowState) (item : A → List ℕ) (xs : List A) (k : ℕ) (x : A)
    → k < length xs → t ≡ behind s (flat_map item (take k xs)) → x ≡ get_or xs k x → u ≡ behind t (item x) → u ≡ behind s (flat_map item (take (k + 1) xs))
put_next s t u item xs k x lt before is then = put_more s t u item xs k x before (item_at xs k x lt is) then

get_within : {A : Type 0} (xs : List A) (k : ℕ) (d : A) → k < length xs → slice_get xs k ≡ Some (get_or xs k d)
get_within [] k d lt = absurd (omega (arith, lt))
get_within (y ∷ xs) zero d lt = refl
get_within (y ∷ xs) (suc k) d lt = get_within xs k d (omega (arith, lt))

-- .. of a slice of numbers or the like
pub put_got : {A : Type 0} (s t u : WindowState) (item : A → List ℕ) (xs : List A) (k : ℕ) (d : A)
    → k < length xs → t ≡ behind s (flat_map item (take k xs)) → u ≡ behind t (item (get_or xs k d)) → u ≡ behind s (flat_map item (take (k + 1) xs))
put_got s t u item xs k d lt before then = put_more s t u item xs k (get_or xs k d) before (get_within xs k d lt) then

-- .. of a list whose items are put by their places
pub put_placed : {A : Type 0} (s t u : WindowState) (item : A → List ℕ) (xs : List A) (k : ℕ)
    → k < length xs → t ≡ behind s (flat_map item (take k xs)) → ((x : A) → slice_get xs k ≡ Some x → u ≡ behind t (item x)) → u ≡ behind s (flat_map item (take (k + 1) xs))
put_placed s t u item [] k lt before at = absurd (omega (arith, lt))
put_placed s t u item (y ∷ ys) k lt before at = let is = get_within (y ∷ ys) k y lt in put_more s t u item (y ∷ ys) k (get_or (y ∷ ys) k y) before is (at (get_or (y ∷ ys) k y) is)

-- no item
pub put_none : (s : WindowState) → s ≡ behind s []
put_none s = sym (behind_nothing s)

-- all items of a list
pub put_all : {A : Type 0} (s t : WindowState) (item : A → List ℕ) (xs : List A) (k : ℕ) → t ≡ behind s (flat_map item (take k xs)) → length xs ≤ k → t ≡ behind s (flat_map item xs)
put_all s t item xs k e le = e ∙ ap (λ ys. behind s (flat_map item ys)) (take-past k xs le)

-- items of one length that are ahead as a whole
pub passed_items : {A : Type 0} (s : WindowState) (item : A → List ℕ) (bytes : ℕ) → ((x : A) → length (item x) ≡ bytes) → (xs : List A) (k : ℕ) → k ≤ length xs → bytes * k ≤ s.ahead
    → record s { ahead = s.ahead - bytes * k } ≡ behind s (flat_map item (take k xs))
passed_items s item bytes each xs k le ahead =
    let long : length (flat_map item (take k xs)) ≡ bytes * k = lengths item bytes each xs k le in
    ap (λ n. record s { ahead = s.ahead - n }) (sym long) ∙ sym (behind_ahead s (flat_map item (take k xs)) (omega (arith, long, ahead)))
  where
    lengths : {A : Type 0} (item : A → List ℕ) (bytes : ℕ) → ((x : A) → length (item x) ≡ bytes) → (xs : List A) (k : ℕ) → k ≤ length xs → length (flat_map item (take k xs)) ≡ bytes * k
    lengths item bytes each xs zero le = omega arith
    lengths item bytes each [] (suc k) le = absurd (omega (arith, le))
    lengths item bytes each (x ∷ xs) (suc k) le =
        let e : bytes * suc k ≡ bytes + bytes * k = omega arith in
        omega (arith, length-append (item x) (flat_map item (take k xs)), each x, lengths item bytes each xs k (omega (arith, le)), e)

-- where all that follows is behind the window, all items are put
pub put_no_more : {A : Type 0} (s t : WindowState) (item : A → List ℕ) (xs : List A) (k : ℕ) → t ≡ behind s (flat_map item (take k xs)) → ((text : List ℕ) → behind t text ≡ t) → t ≡ behind s (flat_map item xs)
put_no_more s t item xs k before full =
    put_two s t t (flat_map item (take k xs)) (flat_map item (drop k xs)) before (sym (full (flat_map item (drop k xs))))
    ∙ ap (behind s) (sym (flat_map-append item (take k xs) (drop k xs)) ∙ ap (flat_map item) (take-append-drop k xs))

-- n items more of a list
pub put_part : {A : Type 0} (s t u : WindowState) (item : A → List ℕ) (xs : List A) (k n : ℕ)
    → t ≡ behind s (flat_map item (take k xs)) → u ≡ behind t (flat_map item (take n (drop k xs))) → u ≡ behind s (flat_map item (take (k + n) xs))
put_part s t u item xs k n before then =
    put_two s t u (flat_map item (take k xs)) (flat_map item (take n (drop k xs))) before then
    ∙ ap (behind s) (sym (flat_map-append item (take k xs) (take n (drop k xs))) ∙ ap (flat_map item) (sym (take-then k n xs)))
  where
    take-then : {A : Type 0} (k n : ℕ) (xs : List A) → take (k + n) xs ≡ take k xs ++ take n (drop k xs)
    take-then zero n xs = let e : 0 + n ≡ n = omega arith in ap (λ m. take m xs) e
    take-then {A} (suc k) zero [] = let e : suc k + 0 ≡ suc k = omega arith in ap (λ m. take {A = A} m []) e
    take-then {A} (suc k) (suc n) [] = let e : suc k + suc n ≡ suc (k + suc n) = omega arith in ap (λ m. take {A = A} m []) e
    take-then (suc k) n (x ∷ xs) = let e : suc k + n ≡ suc (k + n) = omega arith in ap (λ m. take m (x ∷ xs)) e ∙ ap (λ zs. x ∷ zs) (take-then k n xs)

-- items of mapped ones
pub flat_map-mapped : {A B : Type 0} (f : A → B) (item : B → List ℕ) (xs : List A) → flat_map (λ x. item (f x)) xs ≡ flat_map item (map f xs)
flat_map-mapped f item [] = refl
flat_map-mapped f item (x ∷ xs) = ap (λ zs. item (f x) ++ zs) (flat_map-mapped f item xs)

-- what is copied: the bytes behind the first n become those of the rest of a text
pub copied_behind : (ahead n : ℕ) (into text : List ℕ) → n ≤ length into
    → behind (record { ahead = ahead; written = take n into; free = drop n into }) text
    ≡ record {
      ahead = ahead - length text;
      written = take (n + min (length (drop n into)) (length (drop ahead text))) (take n into ++ (take (length (drop n into)) (drop ahead text) ++ drop (length (drop ahead text)) (drop n into)));
      free = drop (n + min (length (drop n into)) (length (drop ahead text))) (take n into ++ (take (length (drop n into)) (drop ahead text) ++ drop (length (drop ahead text)) (drop n into)));
    }
unfolding behind
copied_behind ahead n into text le =
    let front : List ℕ = take n into in
    let free : List ℕ = drop n into in
    let rest : List ℕ = drop ahead text in
    let k : ℕ = min (length free) (length rest) in
    let part : List ℕ = take (length free) rest in
    let tail : List ℕ = drop (length rest) free in
    let long : length front ≡ n = length-take n into ∙ omega (arith, le) in
    let part_long : length part ≡ k = length-take (length free) rest ∙ omega arith in
    let past : (n + k) - length front ≡ k = omega (arith, long) in
    let whole : take (n + k) front ≡ front = take-past (n + k) front (omega (arith, long)) in
    let none : drop (n + k) front ≡ [] = drop-past (n + k) front (omega (arith, long)) in
    let over : k - length part ≡ 0 = omega (arith, part_long) in
    let part_whole : take k part ≡ part = take-past k part (omega (arith, part_long)) in
    let part_none : drop k part ≡ [] = drop-past k part (omega (arith, part_long)) in
    let b : take (n + k) (front ++ (part ++ tail)) ≡ front ++ part =
    take-append (n + k) front (part ++ tail)
    ∙ ap (λ zs. zs ++ take ((n + k) - length front) (part ++ tail)) whole
    ∙ ap (λ m. front ++ take m (part ++ tail)) past
    ∙ ap (λ zs. front ++ zs) (take-append k part tail)
    ∙ ap (λ m. front ++ (take k part ++ take m tail)) over
    ∙ ap (λ zs. front ++ (zs ++ [])) part_whole
    ∙ ap (λ zs. front ++ zs) (append-nil part) in
    let same_drop : length text - ahead ≡ length rest = sym (length-drop ahead text) in
    let c : drop (n + k) (front ++ (part ++ tail)) ≡ tail =
    drop-append (n + k) front (part ++ tail)
    ∙ ap (λ zs. zs ++ drop ((n + k) - length front) (part ++ tail)) none
    ∙ ap (λ m. drop m (part ++ tail)) past
    ∙ drop-append k part tail
    ∙ ap (λ zs. zs ++ drop (k - length part) tail) part_none
    ∙ ap (λ m. drop m tail) over in
    same_window _ _ refl (sym b) (ap (λ m. drop m free) same_drop ∙ sym c)

-- no part of memory goes further than its end
take_within : (n : ℕ) (into : List ℕ) → take (min n (length into)) into ≡ take n into
take_within n into = sym (take-take n (length into) into) ∙ ap (take n) (take-past (length into) into (omega arith))

drop_within : (n : ℕ) (into : List ℕ) → drop (min n (length into)) into ≡ drop n into
drop_within n into = elim (cases_lt (length into) n) [
  | inl more ↦ let e : min n (length into) ≡ length into = omega (arith, more) in
      ap (λ m. drop m into) e ∙ drop-past (length into) into (omega arith) ∙ sym (drop-past n into (omega (arith, more)))
  | inr le ↦ let e : min n (length into) ≡ n = omega (arith, le) in ap (λ m. drop m into) e
]

pub copied_so : (ahead written ahead' count : ℕ) (into text content : List ℕ)
    → let n = min written (length into) in
    ahead' ≡ ahead - length text
    → count ≡ n + min (length (drop n into)) (length (drop ahead text))
    → content ≡ take n into ++ (take (length (drop n into)) (drop ahead text) ++ drop (length (drop ahead text)) (drop n into))
    → ◌≡◌ {A = WindowState} (record { ahead = ahead'; written = take count content; free = drop count content }) (behind (record { ahead = ahead; written = take written into; free = drop written into }) text)
copied_so ahead written ahead' count into text content a b c =
    let n : ℕ = min written (length into) in
    let k : ℕ = n + min (length (drop n into)) (length (drop ahead text)) in
    let last : List ℕ = take n into ++ (take (length (drop n into)) (drop ahead text) ++ drop (length (drop ahead text)) (drop n into)) in
    same_window (record { ahead = ahead'; written = take count content; free = drop count content }) (record { ahead = ahead - length text; written = take k last; free = drop k last })
    a (ap (λ m. take m content) b ∙ ap (take k) c) (ap (λ m. drop m content) b ∙ ap (drop k) c)
    ∙ sym (copied_behind ahead n into text (omega arith))
    ∙ ap (λ w. behind w text) (same_window (record { ahead = ahead; written = take n into; free = drop n into }) (record { ahead = ahead; written = take written into; free = drop written into }) refl (take_within written into) (drop_within written into))

-- the lowest bytes of a number of eight
pub lowest_bytes : (k n x : ℕ) → n ≤ k → drop (k - n) (bytes_high_first k x) ≡ bytes_high_first n x
lowest_bytes zero n x h = let e : n ≡ 0 = omega (arith, h) in rw e refl
lowest_bytes (suc k) zero x h = drop-past (suc k - 0) (bytes_high_first (suc k) x) (omega (arith, length_bytes (suc k) x))
  where
    length_bytes : (k x : ℕ) → length (bytes_high_first k x) ≡ k
    length_bytes zero x = refl
    length_bytes (suc k) x = let h : length (bytes_high_first k x) ≡ k = length_bytes k x in ap suc h
lowest_bytes (suc k) (suc n) x h = elim (cases_lt k (suc n)) [
  | inl more ↦ let e : suc n ≡ suc k = omega (arith, h, more) in let none : suc k - suc k ≡ 0 = omega arith in
      ap (λ m. drop m (bytes_high_first (suc k) x)) (ap (λ m. suc k - m) e ∙ none) ∙ ap (λ m. bytes_high_first m x) (sym e)
  | inr le ↦ let e : suc k - suc n ≡ suc (k - suc n) = omega (arith, le) in
      ap (λ m. drop m (bytes_high_first (suc k) x)) e ∙ lowest_bytes k (suc n) x le
]
