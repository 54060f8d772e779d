-- What the crate `hex` decodes is what the digits spell. It serves the reader of hexadecimal texts.
use Rattle.std.proofs.Common.{◌≡◌, ℕ, ◌+◌, ◌*◌, ◌%◌, List, [], ◌∷◌, length, eqb, Option, Some, None, Result, Ok, Err, refl, sym, arith}
use Rattle.std.proofs.lemmas.Bool.{cond_both, eqb-true}
use Rattle.std.specs.Result.{result_ok}
use Rattle.hex.specs.Hex.{decode_of, decode_pairs, digit_or_error, hex_digit_value, pair_value, ◌>>=◌}
use Rattle.hex.specs.declared.error.FromHexError.{FromHexError}
use Rattle.hex.specs.declared.error.FromHexError.TheVariants.{OddLength}
use Rattle.vv_calls.specs.Steps.{◌>>=◌ as ◌>=>◌}
use Rattle.vv_calls.specs.Hexadecimal.{byte_of, hex_bytes}

-- a byte of two digits whose values are known
pair_step : (high low i : ℕ) (h l : Option ℕ)
    → result_ok (digit_or_error high i h >>= λ x. digit_or_error low (i + 1) l >>= λ y. Ok (x * 16 + y))
    ≡ (h >=> λ x. l >=> λ y. Some (x * 16 + y))
pair_step high low i (Some h) (Some l) = refl
pair_step high low i (Some h) None = refl
pair_step high low i None l = refl

list_step : (byte : Result ℕ FromHexError) (bytes : Result (List ℕ) FromHexError)
    → result_ok (byte >>= λ b. bytes >>= λ bs. Ok (b ∷ bs)) ≡ (result_ok byte >=> λ b. result_ok bytes >=> λ bs. Some (b ∷ bs))
list_step (Ok b) (Ok bs) = refl
list_step (Ok b) (Err e) = refl
list_step (Err e) bytes = refl

-- the pairs of digits, one after another
decoded_pairs : (i : ℕ) (text : List ℕ) → result_ok (decode_pairs i text) ≡ hex_bytes text
unfolding decode_pairs
decoded_pairs i [] = refl
decoded_pairs i (digit ∷ []) = refl
decoded_pairs i (high ∷ low ∷ rest) =
    rw (list_step (pair_value high low i) (decode_pairs (i + 2) rest), pair_step high low i (hex_digit_value high) (hex_digit_value low), decoded_pairs (i + 2) rest) refl

-- an odd number of digits spells nothing
spelled_odd : (text : List ℕ) → length text % 2 ≡ 1 → hex_bytes text ≡ None
spelled_odd [] odd = absurd (omega arith)
spelled_odd (digit ∷ []) odd = refl
spelled_odd (high ∷ low ∷ rest) odd =
    rw (spelled_odd rest (omega arith)) (elim (byte_of high low) as (λ b. (b >=> λ x. None >=> λ xs. Some (x ∷ xs)) ≡ None) [ Some b ↦ refl | None ↦ refl ])

pub decoded_spells : (text : List ℕ) → result_ok (decode_of text) ≡ hex_bytes text
decoded_spells text =
    cond_both (eqb (length text % 2) 1) (Err OddLength) (decode_pairs 0 text) (λ r. result_ok r ≡ hex_bytes text)
    (λ odd. sym (spelled_odd text (eqb-true (length text % 2) 1 odd))) (λ even. decoded_pairs 0 text)
