-- What a line reads as, by what was found. It serves the reader of lines.
use Rattle.std.proofs.Common.{◌≡◌, ℕ, ◌<◌, ◌≤◌, List, length, Bool, true, false, cond, None, Err, refl, ap, ◌∙◌, ltb, arith}
use Rattle.std.specs.Str.{IsUtf8, is_utf8}
use Rattle.std.proofs.lemmas.Bool.{cond-false, cond-true}
use Rattle.std.proofs.lemmas.Bool.Decides.{nat_tests}
use Rattle.std.proofs.lemmas.Str.{IsUtf8-from_is_utf8, is_utf8-from_IsUtf8}
use Rattle.serde_json.specs.Read as json
use Rattle.vv_calls.specs.declared.call.LineFault.TheVariants.{NotJson, LineTooLong}
use Rattle.vv_calls.specs.Lines.{line_limit, value_of, reading_of, line_reading}

no_text_value : (bytes : List ℕ) (test : Bool) → is_utf8 bytes ≡ test → (IsUtf8 bytes → ⊥) → cond test (json.read bytes) None ≡ None
no_text_value bytes true is other = absurd (other (IsUtf8-from_is_utf8 bytes is))
no_text_value bytes false is other = refl

-- bytes that are too many
pub reading-long : (bytes : List ℕ) → line_limit < length bytes → line_reading bytes ≡ Err LineTooLong
unfolding line_reading
reading-long bytes long = cond-true (ltb line_limit (length bytes)) (Err LineTooLong) (reading_of (value_of bytes)) (grind (arith, nat_tests))

short_reading : (bytes : List ℕ) → length bytes ≤ line_limit → line_reading bytes ≡ reading_of (value_of bytes)
unfolding line_reading
short_reading bytes short = cond-false (ltb line_limit (length bytes)) (Err LineTooLong) (reading_of (value_of bytes)) (grind (arith, nat_tests))

-- bytes that are no UTF-8
pub reading-no_text : (bytes : List ℕ) → length bytes ≤ line_limit → (IsUtf8 bytes → ⊥) → line_reading bytes ≡ Err NotJson
reading-no_text bytes short other = short_reading bytes short ∙ ap reading_of (no_text_value bytes (is_utf8 bytes) refl other)

-- a text
pub reading-text : (bytes : List ℕ) → length bytes ≤ line_limit → IsUtf8 bytes → line_reading bytes ≡ reading_of (json.read bytes)
reading-text bytes short text = short_reading bytes short ∙ ap (λ test. reading_of (cond test (json.read bytes) None)) (is_utf8-from_IsUtf8 bytes text)
