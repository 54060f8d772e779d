-- Which texts are identifiers: for the readers of identifiers, and for the law that a written one is read.
use Rattle.std.proofs.Common.{◌≡◌, ◌≢◌, ℕ, ◌+◌, ◌-◌, ◌%◌, ◌<◌, ◌≤◌, ◌&&◌, ◌⊎◌, inl, inr, List, Bool, true, false, Some, None, refl, sym, ap, ◌∙◌, length, drop, arith, length-drop, Result, Ok, Err, IsOk, IfOk, ◌↔◌, true≢false}
use Rattle.std.specs.Result.{result_ok}
use Rattle.std.specs.Prelude.{Option, option_and_then, ◌==◌, nat_eq, nat_lt, nat_le, All}
use Rattle.std.specs.List.{starts_with, AllByRecursion}
use Rattle.std.specs.Int.{w128, to_be_bytes, from_be_bytes}
use Rattle.std.proofs.lemmas.List.Elements.{All-from_recursion}
use Rattle.std.proofs.lemmas.Bool.{cond-false, cond-true}
use Rattle.std.proofs.lemmas.Bool.Decides.{eqb_tells, nat_tests}
use Rattle.std.proofs.Math.Bool.{cond}
use Rattle.uuid.specs.Text.{lower, parsed, parsed_hyphenated, parsed_simple, digits_of, has_hyphens}
use Rattle.uuid.proofs.OrderLemmas.{from_be_bytes-to_be_bytes_16}
use Rattle.uuid.proofs.RoundTrips.{parses_hyphenated_text}
use Rattle.vv_units.specs.Identifiers.{identifier_limit, identifier_prefix, first_uuid, uuid_of, identifier_text, uuid_in, number_in, identifier_of}

-- nothing is chosen either way
chosen_none : {X : Type 0} (b : Bool) (o : Option X) → o ≡ None → cond b o None ≡ None
chosen_none true o none = none
chosen_none false o none = refl

and-false : (a b : Bool) → a ≡ false → (a && b) ≡ false
and-false a b fails = rw fails refl

-- a text of another length isn't in hyphenated form
parsed_hyphenated-length : (s : List ℕ) → length s ≢ 36 → parsed_hyphenated s ≡ None
parsed_hyphenated-length s other =
    elim (eqb_tells (length s) 36) [
      | inl same ↦ absurd (other same.1)
      | inr differs ↦ cond-false ((length s == 36) && has_hyphens s) (parsed_simple (digits_of s)) None (and-false _ _ differs.0)
    ]

parsed-hyphenated : (s : List ℕ) → length s ≡ 36 → parsed s ≡ parsed_hyphenated s
parsed-hyphenated s long = rw long refl

pub uuid_in-no_prefix : (text : List ℕ) → starts_with nat_eq text identifier_prefix ≡ false → uuid_in text ≡ None
unfolding uuid_in
uuid_in-no_prefix text none = cond-false (starts_with nat_eq text identifier_prefix) (parsed_hyphenated (drop 8 text)) None none

pub uuid_in-length : (text : List ℕ) → length text ≢ 44 → uuid_in text ≡ None
unfolding uuid_in
uuid_in-length text other =
    chosen_none (starts_with nat_eq text identifier_prefix) (parsed_hyphenated (drop 8 text))
    (parsed_hyphenated-length (drop 8 text) (λ same. other (omega (arith, length-drop 8 text, same))))

pub uuid_in-parsed : (text : List ℕ) → length text ≡ 44 → starts_with nat_eq text identifier_prefix ≡ true → uuid_in text ≡ parsed (drop 8 text)
unfolding uuid_in
uuid_in-parsed text long prefix =
    cond-true (starts_with nat_eq text identifier_prefix) (parsed_hyphenated (drop 8 text)) None prefix
    ∙ sym (parsed-hyphenated (drop 8 text) (omega (arith, length-drop 8 text)))

-- a number inside the range of identifiers, or outside it
inside : (v : ℕ) → first_uuid ≤ v → v < first_uuid + identifier_limit
    → cond (nat_le first_uuid v && nat_lt v (first_uuid + identifier_limit)) (Some (v - first_uuid)) None ≡ Some (v - first_uuid)
inside v low high = grind (arith, nat_tests)

outside : (v : ℕ) → (v < first_uuid) ⊎ (first_uuid + identifier_limit ≤ v)
    → cond (nat_le first_uuid v && nat_lt v (first_uuid + identifier_limit)) (Some (v - first_uuid)) None ≡ None
outside v out = grind (arith, nat_tests)

pub number_in-inside : (uuid : List ℕ) (v : ℕ) → v ≡ from_be_bytes w128 uuid
    → first_uuid ≤ v → v < first_uuid + identifier_limit → number_in uuid ≡ Some (v - first_uuid)
unfolding number_in
number_in-inside uuid v is low high =
    ap (λ (w : ℕ). cond (nat_le first_uuid w && nat_lt w (first_uuid + identifier_limit)) (Some (w - first_uuid)) None) (sym is) ∙ inside v low high

pub number_in-outside : (uuid : List ℕ) (v : ℕ) → v ≡ from_be_bytes w128 uuid
    → (v < first_uuid) ⊎ (first_uuid + identifier_limit ≤ v) → number_in uuid ≡ None
unfolding number_in
number_in-outside uuid v is out =
    ap (λ (w : ℕ). cond (nat_le first_uuid w && nat_lt w (first_uuid + identifier_limit)) (Some (w - first_uuid)) None) (sym is) ∙ outside v out

-- the prefix stands at the front of what is written
written_prefix : (number : ℕ) → starts_with nat_eq (identifier_text number) identifier_prefix ≡ true
written_prefix number = refl

uuid_length : (number : ℕ) → length (uuid_of number) ≡ 16
unfolding uuid_of
uuid_length number = refl

byte_fits : (n : ℕ) → n % 256 < 256
byte_fits n = omega arith

-- the bytes of a UUID are bytes
uuid_fits : (number : ℕ) → All (λ b. b < 256) (uuid_of number)
unfolding uuid_of
uuid_fits number =
    let each : AllByRecursion (λ b. b < 256) (to_be_bytes w128 (first_uuid + number)) = (byte_fits _, (byte_fits _, (byte_fits _, (byte_fits _, (byte_fits _, (byte_fits _, (byte_fits _, (byte_fits _, (byte_fits _, (byte_fits _, (byte_fits _, (byte_fits _, (byte_fits _, (byte_fits _, (byte_fits _, (byte_fits _, tt)))))))))))))))) in
    All-from_recursion (λ b. b < 256) (to_be_bytes w128 (first_uuid + number)) each

uuid_number : (number : ℕ) → number < identifier_limit → from_be_bytes w128 (uuid_of number) ≡ first_uuid + number
unfolding uuid_of
uuid_number number small = from_be_bytes-to_be_bytes_16 (first_uuid + number) (omega arith)

written_uuid : (number : ℕ) → uuid_in (identifier_text number) ≡ Some (uuid_of number)
unfolding uuid_in
written_uuid number =
    cond-true (starts_with nat_eq (identifier_text number) identifier_prefix) (parsed_hyphenated (drop 8 (identifier_text number))) None (written_prefix number)
    ∙ sym (parses_hyphenated_text lower (uuid_of number) (inl refl) (uuid_length number) (uuid_fits number))

pub read_back : (number : ℕ) → number < identifier_limit → identifier_of (identifier_text number) ≡ Some number
read_back number small =
    ap (option_and_then number_in) (written_uuid number)
    ∙ number_in-inside (uuid_of number) (first_uuid + number) (sym (uuid_number number small)) (omega arith) (omega arith)
    ∙ ap Some (omega arith)

refused : {E : Type 0} (e : E) (t : List ℕ) (o : Option (List ℕ)) → parsed t ≡ o
    → (IsOk {T = List ℕ} (Err e) ↔ ((u : List ℕ) × (parsed t ≡ Some u))) → None ≡ parsed t
refused e t None is ok = sym is
refused e t (Some u) is ok = absurd (true≢false (sym (ok.1 (u, is))))

-- what a parse found, from its two clauses
pub parse_found : {E : Type 0} (r : Result (List ℕ) E) (t : List ℕ) → (IsOk r ↔ ((u : List ℕ) × (parsed t ≡ Some u)))
    → IfOk r (λ u. Some u ≡ parsed t) → result_ok r ≡ parsed t
parse_found (Ok u) t ok bytes = bytes
parse_found (Err e) t ok bytes = refused e t (parsed t) refl ok
