-- Lists of JSON values as pairs of hexadecimal digits and numbers. It serves the readers of a line's bytes.
use Rattle.std.proofs.Common.{◌≡◌, ℕ, ◌+◌, ◌-◌, ◌*◌, ◌/◌, ◌<◌, ◌≤◌, suc, cond, leb, List, [], ◌∷◌, ◌++◌, length, replicate, drop, get_or, Option, Some, None, refl, sym, ap, ◌∙◌, append_assoc, arith, length-append, add-one, drop-cons}
use Rattle.std.specs.List.{concat}
use Rattle.std.proofs.lemmas.Bool.{cond-false, cond-true}
use Rattle.std.proofs.lemmas.Option.{cond_some}
use Rattle.std.proofs.lemmas.Bool.Decides.{nat_tests}
use Rattle.serde_json.specs.declared.value.Value.{Value}
use Rattle.serde_json.specs.Data.{Data, Items, item}
use Rattle.serde_json.specs.View.{view, items_view}
use Rattle.vv_calls.specs.Steps.{◌>>=◌}
use Rattle.vv_calls.specs.Hexadecimal.{byte_of, hex_bytes}
use Rattle.vv_calls.specs.Payload.{payload_limit, pair_of, pair_in, pair_bytes, repeated_bytes, spelled_bytes, pairs_bytes, within_limit, joined_onto}
use Rattle.vv_calls.proofs.Repeats.{length-repeated}

-- a list of another length than two is no pair
pub no_pair : (values : List Value) → (length values ≡ 2 → ⊥) → pair_of (items_view values) ≡ None
no_pair [] other = refl
no_pair (x ∷ []) other = refl
no_pair (x ∷ y ∷ []) other = absurd (other refl)
no_pair (x ∷ y ∷ z ∷ rest) other = refl

-- a byte before the others
spelled_step : (byte : Option ℕ) (others : Option (List ℕ)) (bytes : List ℕ) (n : ℕ)
    → ((tail : List ℕ) → others ≡ Some tail → 2 * length tail ≡ n)
    → (byte >>= λ b. others >>= λ bs. Some (b ∷ bs)) ≡ Some bytes → 2 * length bytes ≡ suc (suc n)
spelled_step None others bytes n half e = cc
spelled_step (Some b) None bytes n half e = cc
spelled_step (Some b) (Some bs) bytes n half e =
    let h = half bs refl in
    let same : bytes ≡ b ∷ bs = cc in
    rw same (omega (arith, h))

-- two digits spell a byte
pub length-hex_bytes : (digits bytes : List ℕ) → hex_bytes digits ≡ Some bytes → 2 * length bytes ≡ length digits
length-hex_bytes [] bytes e = grind arith
length-hex_bytes (digit ∷ []) bytes e = cc
length-hex_bytes (high ∷ low ∷ rest) bytes e =
    spelled_step (byte_of high low) (hex_bytes rest) bytes (length rest) (λ tail t. length-hex_bytes rest tail t) e

-- more than the limit
too_long : (bytes : List ℕ) → payload_limit < length bytes → within_limit bytes ≡ None
too_long bytes long = cond-false (leb (length bytes) payload_limit) (Some bytes) None (grind (arith, nat_tests))

-- what the bytes of one pair and those of the others are together
abbrev both_onto : List ℕ → Option (List ℕ) → Option (List ℕ) → Option (List ℕ)
both_onto front here rest = (here >>= λ x. rest >>= λ y. Some (x ++ y)) >>= λ back. within_limit (front ++ back)

taken_onto : (front bytes : List ℕ) (rest : Option (List ℕ)) → both_onto front (Some bytes) rest ≡ (rest >>= λ back. within_limit ((front ++ bytes) ++ back))
taken_onto front bytes (Some back) = ap within_limit (sym (append_assoc front bytes back))
taken_onto front bytes None = refl

long_onto : (front bytes : List ℕ) (rest : Option (List ℕ)) → payload_limit < length front + length bytes → both_onto front (Some bytes) rest ≡ None
long_onto front bytes (Some back) long = too_long (front ++ (bytes ++ back)) (omega (arith, length-append front (bytes ++ back), length-append bytes back))
long_onto front bytes None long = refl

-- a pair without bytes
pub refused_onto : (front : List ℕ) (pair : Data) (rest : Items) → pair_bytes pair ≡ None → joined_onto front (item pair rest) ≡ None
refused_onto front pair rest none = ap (λ here. both_onto front here (pairs_bytes rest)) none

pub appended_onto : (front bytes : List ℕ) (pair : Data) (rest : Items) → pair_bytes pair ≡ Some bytes → joined_onto front (item pair rest) ≡ joined_onto (front ++ bytes) rest
appended_onto front bytes pair rest some = ap (λ here. both_onto front here (pairs_bytes rest)) some ∙ taken_onto front bytes (pairs_bytes rest)

-- what is spelled, as far as it is known
spelled_is : (digits : Option (List ℕ)) (bytes : List ℕ) → (digits >>= λ found. cond (leb 1 (length found)) (Some found) None) ≡ Some bytes → digits ≡ Some bytes
spelled_is None bytes e = cc
spelled_is (Some found) bytes e = ap Some (cond_some (leb 1 (length found)) found bytes e).1

counted : (bytes : List ℕ) (times : ℕ) → 1 ≤ length bytes → (cond (leb 1 (length bytes)) (Some bytes) None >>= λ found. Some (concat (replicate times found))) ≡ Some (concat (replicate times bytes))
counted bytes times some = ap (λ found. found >>= λ found. Some (concat (replicate times found))) (cond-true (leb 1 (length bytes)) (Some bytes) None (grind (arith, nat_tests)))

-- a pair without digits
pub empty_pair : (pair : Data) (digits : List ℕ) (times : ℕ) → pair_in pair ≡ Some (digits, times) → length digits ≡ 0 → pair_bytes pair ≡ None
empty_pair pair [] times is none = ap (λ parts. parts >>= repeated_bytes) is
empty_pair pair (digit ∷ digits) times is none = absurd (omega arith)

pub good_pair : (pair : Data) (digits : List ℕ) (times : ℕ) (bytes : List ℕ) → pair_in pair ≡ Some (digits, times) → 0 < length digits → hex_bytes digits ≡ Some bytes → pair_bytes pair ≡ Some (concat (replicate times bytes))
good_pair pair digits times bytes is some spelled =
    ap (λ parts. parts >>= repeated_bytes) is
    ∙ ap (λ found. (found >>= λ found. cond (leb 1 (length found)) (Some found) None) >>= λ found. Some (concat (replicate times found))) spelled
    ∙ counted bytes times (omega (arith, length-hex_bytes digits bytes spelled))

-- a pair of which the bytes are too many, whatever follows it
long_spelled : (front : List ℕ) (pair : Data) (rest : Items) (digits : List ℕ) (times : ℕ) (spelled : Option (List ℕ))
    → pair_in pair ≡ Some (digits, times) → spelled_bytes digits ≡ spelled
    → payload_limit < length front + length digits / 2 * times → joined_onto front (item pair rest) ≡ None
long_spelled front pair rest digits times None is spells long =
    refused_onto front pair rest (ap (λ parts. parts >>= repeated_bytes) is ∙ ap (λ found. found >>= λ found. Some (concat (replicate times found))) spells)
long_spelled front pair rest digits times (Some bytes) is spells long =
    let here : pair_bytes pair ≡ Some (concat (replicate times bytes)) =
    ap (λ parts. parts >>= repeated_bytes) is ∙ ap (λ found. found >>= λ found. Some (concat (replicate times found))) spells
    in
    let half = length-hex_bytes digits bytes (spelled_is (hex_bytes digits) bytes spells) in
    let whole : length digits / 2 ≡ length bytes = omega (arith, half) in
    let count = length-repeated times bytes in
    let long' : payload_limit < length front + length bytes * times = rw whole at long in
    ap (λ found. both_onto front found (pairs_bytes rest)) here
    ∙ long_onto front (concat (replicate times bytes)) (pairs_bytes rest) (omega (arith, count, long'))

pub long_pair : (front : List ℕ) (pair : Data) (rest : Items) (digits : List ℕ) (times : ℕ) → pair_in pair ≡ Some (digits, times)
    → payload_limit < length front + length digits / 2 * times → joined_onto front (item pair rest) ≡ None
long_pair front pair rest digits times is long = long_spelled front pair rest digits times (spelled_bytes digits) is refl long

-- the pair at a place, and those behind it
pub items_at : (values : List Value) (i : ℕ) (value : Value) → i < length values → value ≡ get_or values i value
    → items_view (drop i values) ≡ item (view value) (items_view (drop (i + 1) values))
items_at values i value within is =
    let cut = drop-cons values i value within in
    rw (add-one, cut, ← is) refl

-- The room that a pair was found to need is the room that its bytes take.
pub within_room : (limit used digits times bytes product : ℕ) → 2 * bytes ≡ digits → product ≡ digits / 2 * times → product ≤ limit - used → used ≤ limit → used + times * bytes ≤ limit
within_room limit used digits times bytes product half is fits within =
    let whole : digits / 2 ≡ bytes = omega (arith, half) in
    let product' : product ≡ bytes * times = rw whole at is in
    omega (arith, product', fits, within)
