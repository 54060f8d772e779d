-- Texts that are put together in another grouping, and members behind one another. It serves the writers of replies.
use Rattle.std.proofs.Common.{◌≡◌, ℕ, ◌+◌, ◌*◌, ◌^◌, ◌<◌, ◌≤◌, ◌++◌, ◌⊎◌, inl, inr, List, [], ◌∷◌, length, map, take, get_or, decimal, refl, sym, ap, ◌∙◌, arith, append_assoc, append-nil, eqb}
use Rattle.std.proofs.lemmas.List.{take_more, map-append, length-map, length-take-le, take_all}
use Rattle.std.proofs.lemmas.Option.{slice_get_within, get_or_from_slice_get, slice_get-get_or}
use Rattle.std.proofs.lemmas.Bool.{cond-false}
use Rattle.std.specs.Prelude.{Some, None, slice_get}
use Rattle.std.proofs.lemmas.Fmt.{length-decimal-le, length-decimal-le_succ}
use Rattle.std.proofs.lemmas.Bool.Decides.{nat_tests, leb_tells}
use Rattle.std.specs.Prelude.{codes}
use Rattle.vv_reply.specs.Objects.{behind, opened, key, separated, comma_behind}
use Rattle.vv_reply.specs.Runs.{hex_text, hex_texts}

pub around : (text a b c : List ℕ) → ((text ++ a) ++ b) ++ c ≡ text ++ ((a ++ b) ++ c)
around text a b c =
    ap (λ front. front ++ c) (append_assoc text a b) ∙ append_assoc text (a ++ b) c

pub around_five : (text a b c d e : List ℕ) → ((((text ++ a) ++ b) ++ c) ++ d) ++ e ≡ text ++ ((((a ++ b) ++ c) ++ d) ++ e)
around_five text a b c d e =
    ap (λ front. (front ++ d) ++ e) (around text a b c) ∙ around text ((a ++ b) ++ c) d e

pub behind-append : (text : List ℕ) (xs ys : List (List ℕ × List ℕ)) → behind text (xs ++ ys) ≡ behind (behind text xs) ys
behind-append text [] ys = refl
behind-append text (x ∷ xs) ys = behind-append (text ++ codes "," ++ key x.0 ++ x.1) xs ys

pub opened-append : (xs ys : List (List ℕ × List ℕ)) → 0 < length xs → opened (xs ++ ys) ≡ behind (opened xs) ys
opened-append [] ys some = absurd (omega arith)
opened-append (x ∷ xs) ys some = behind-append (codes "{" ++ key x.0 ++ x.1) xs ys

-- one more item
taken_more : {X : Type 0} (xs : List X) (i : ℕ) (x : X) → i < length xs → x ≡ get_or xs i x → take (i + 1) xs ≡ take i xs ++ x ∷ []
taken_more xs i x within is = take_more xs i x within ∙ ap (λ y. take i xs ++ y ∷ []) (sym is)

pub mapped_more : {X Y : Type 0} (f : X → Y) (text now new : List Y) (xs : List X) (i : ℕ) (x : X) → i < length xs → x ≡ get_or xs i x
    → now ≡ text ++ map f (take i xs) → new ≡ now ++ f x ∷ [] → new ≡ text ++ map f (take (i + 1) xs)
mapped_more f text now new xs i x within is before more =
    more ∙ ap (λ front. front ++ f x ∷ []) before ∙ append_assoc text (map f (take i xs)) (f x ∷ [])
    ∙ ap (λ back. text ++ back) (sym (ap (map f) (taken_more xs i x within is) ∙ map-append f (take i xs) (x ∷ [])))

-- the digits of one more byte
hex_append : (xs : List ℕ) (x : ℕ) → hex_texts (xs ++ x ∷ []) ≡ hex_texts xs ++ hex_text x
hex_append [] x = append-nil (hex_text x)
hex_append (y ∷ ys) x = ap (λ back. hex_text y ++ back) (hex_append ys x) ∙ sym (append_assoc (hex_text y) (hex_texts ys) (hex_text x))

pub hex_more : (text now new xs : List ℕ) (i x : ℕ) → i < length xs → x ≡ get_or xs i x
    → now ≡ text ++ hex_texts (take i xs) → new ≡ now ++ hex_text x → new ≡ text ++ hex_texts (take (i + 1) xs)
hex_more text now new xs i x within is before more =
    more ∙ ap (λ front. front ++ hex_text x) before ∙ append_assoc text (hex_texts (take i xs)) (hex_text x)
    ∙ ap (λ back. text ++ back) (sym (ap hex_texts (taken_more xs i x within is) ∙ hex_append (take i xs) x))

-- a text behind others, with a comma between
separated_snoc : (first : List ℕ) (texts : List (List ℕ)) (text : List ℕ) → separated ((first ∷ texts) ++ text ∷ []) ≡ separated (first ∷ texts) ++ codes "," ++ text
separated_snoc first [] text = refl
separated_snoc first (next ∷ texts) text =
    ap (λ back. (first ++ codes ",") ++ back) (separated_snoc next texts text)
    ∙ sym (around (first ++ codes ",") (separated (next ∷ texts)) (codes ",") text)

comma_some : (n : ℕ) → 0 < n → comma_behind n ≡ codes ","
comma_some n some = cond-false (eqb n 0) [] (codes ",") (grind (arith, nat_tests))

separated_step : (before now between new : List ℕ) (texts : List (List ℕ)) (text : List ℕ) (n : ℕ) → n ≡ length texts
    → now ≡ before ++ separated texts → between ≡ now ++ comma_behind n → new ≡ between ++ text → new ≡ before ++ separated (texts ++ text ∷ [])
separated_step before now between new [] text n is so_far comma more =
    let none : between ≡ before = comma ∙ ap (λ k. now ++ comma_behind k) is ∙ append-nil now ∙ so_far ∙ append-nil before in
    more ∙ ap (λ front. front ++ text) none
separated_step before now between new (first ∷ texts) text n is so_far comma more =
    let behind : between ≡ (before ++ separated (first ∷ texts)) ++ codes "," =
    comma ∙ ap (λ back. now ++ back) (comma_some n (omega arith)) ∙ ap (λ front. front ++ codes ",") so_far in
    more ∙ ap (λ front. front ++ text) behind ∙ around before (separated (first ∷ texts)) (codes ",") text
    ∙ ap (λ back. before ++ back) (sym (separated_snoc first texts text))

pub listed_more : {X : Type 0} (f : X → List ℕ) (before now between new : List ℕ) (xs : List X) (i : ℕ) (x : X) → i < length xs → x ≡ get_or xs i x
    → length (map f (take i xs)) ≡ i → now ≡ before ++ separated (map f (take i xs)) → between ≡ now ++ comma_behind i → new ≡ between ++ f x
    → new ≡ before ++ separated (map f (take (i + 1) xs))
listed_more f before now between new xs i x within is count so_far comma more =
    separated_step before now between new (map f (take i xs)) (f x) i (sym count) so_far comma more
    ∙ ap (λ texts. before ++ separated texts) (sym (ap (map f) (taken_more xs i x within is) ∙ map-append f (take i xs) (x ∷ [])))

-- the item at a place, and none past the last

pub within_list : {X : Type 0} (xs : List X) (i : ℕ) (x : X) → slice_get xs i ≡ Some x → i < length xs
within_list xs i x some = slice_get_within xs i x some

pub item_at : {X : Type 0} (xs : List X) (i : ℕ) (x : X) → slice_get xs i ≡ Some x → x ≡ get_or xs i x
item_at xs i x some = sym (get_or_from_slice_get xs i x x some)

pub past_list : {X : Type 0} (xs : List X) (i : ℕ) → slice_get xs i ≡ None → (i < length xs → ⊥)
past_list [] i none within = omega arith
past_list (x ∷ xs) i none within =
    let found = slice_get-get_or (x ∷ xs) i x within in
    cc

-- A number has no more digits than 9 times itself without 8.
pub decimal_short : (n : ℕ) → 1 ≤ n → n < 2 ^ 64 → (n < 10) ⊎ (10 ≤ n) → length (decimal n) + 8 ≤ 9 * n
decimal_short n some small (inl few) = omega (arith, length-decimal-le 1 n (omega arith) (omega arith) small)
decimal_short n some small (inr many) = omega (arith, length-decimal-le_succ n small)

pub below_or_above : (n : ℕ) → (n < 10) ⊎ (10 ≤ n)
below_or_above n = elim (leb_tells 10 n) [ inl above ↦ inr above.1 | inr below ↦ inl below.1 ]

pub front_count : {X : Type 0} (f : X → List ℕ) (xs : List X) (i : ℕ) → i ≤ length xs → length (map f (take i xs)) ≡ i
front_count f xs i within = length-map (take i xs) f ∙ length-take-le i xs within

at_least : {X : Type 0} (xs : List X) (i : ℕ) → slice_get xs i ≡ None → length xs ≤ i
at_least xs i none = elim (leb_tells (length xs) i) [ inl past ↦ past.1 | inr within ↦ absurd (past_list xs i none within.1) ]

pub all_listed : {X : Type 0} (f : X → List ℕ) (before now : List ℕ) (xs : List X) (i : ℕ) → slice_get xs i ≡ None
    → now ≡ before ++ separated (map f (take i xs)) → now ≡ before ++ separated (map f xs)
all_listed f before now xs i none so_far =
    so_far ∙ ap (λ front. before ++ separated (map f front)) (take_all i xs (at_least xs i none))
