-- The words of the command line: how many they are, and what the numbers among them are.
use Rattle.std.proofs.Common.{◌≡◌, ℕ, ◌<◌, ◌≤◌, ◌^◌, ◌&&◌, List, [], ◌∷◌, Bool, true, false, Result, Ok, Err, refl, sym, ap, ◌∙◌, length, get_or, arith, string_bytes, String, Global, Some, None, rules, true≢false, IsTrue, ◌↔◌}
use Rattle.std.specs.Prelude.{◌==◌, nat_le, nat_lt, Option, IsSome, IfSome}
use Rattle.std.specs.List.{list_all}
use Rattle.std.specs.Str.Parse.{digits_value, digits_value_after, ParsesUnsigned}
use Rattle.std.proofs.lemmas.Str.Parse.{IsNumeralModel, numerals_by_fold, parse_digits}
use Rattle.std.specs.Result.{result_ok, OkIff}
use Rattle.std.proofs.lemmas.Bool.{cond-true, cond-false}
use Rattle.std.proofs.lemmas.Bool.Decides.{nat_tests}
use Rattle.vv_units.specs.Sizes.{IsGeometry, is_chunk_size}
use Rattle.vv_units.specs.declared.geometry.Geometry.{Geometry}
use Rattle.vv_journal.specs.Geometries.{is_geometry, limits_of, sizes_if, geometry_of}
use Rattle.vv_journal.proofs.Headers.{geometry_from}
use Rattle.vv_run.specs.Words.{is_digit, number_of_word, run_asked, new_asked, generate_asked, load_asked, requested_by}

-- What two words ask for, what three, five and seven do, and that others ask for nothing. A function that is told equal words
-- gives the same.

same_three : {A B : Type 0} (f : A → A → A → B) (a b c x y z : A) → a ≡ x → b ≡ y → c ≡ z → f a b c ≡ f x y z
same_three f a b c x y z p q r = cc

same_six : {A B : Type 0} (f : A → A → A → A → A → A → B) (a b c d e g t u v x y z : A) → a ≡ t → b ≡ u → c ≡ v → d ≡ x → e ≡ y → g ≡ z → f a b c d e g ≡ f t u v x y z
same_six f a b c d e g t u v x y z p q r s w o = cc

seen_word : (seen : List ℕ) (word other : String Global) → seen ≡ string_bytes word → word ≡ other → seen ≡ string_bytes other
seen_word seen word other is same = is ∙ ap (λ (w : String Global). string_bytes w) same

pub two_words : (ws : List (String Global)) (verb : String Global) (seen : List ℕ) → 2 ≤ length ws → length ws < 3
    → verb ≡ get_or ws 0 verb → seen ≡ string_bytes verb → run_asked seen ≡ requested_by ws
two_words [] verb seen most least is_verb is = absurd (omega arith)
two_words (w0 ∷ []) verb seen most least is_verb is = absurd (omega arith)
two_words (w0 ∷ w1 ∷ []) verb seen most least is_verb is =
    ap run_asked (seen_word seen verb w0 is is_verb)
two_words (w0 ∷ w1 ∷ w2 ∷ ws) verb seen most least is_verb is = absurd (omega arith)

pub three_words : (ws : List (String Global)) (verb seed lines : String Global) (v s l : List ℕ) → 3 ≤ length ws → length ws < 4
    → verb ≡ get_or ws 0 verb → seed ≡ get_or ws 1 seed → lines ≡ get_or ws 2 lines
    → v ≡ string_bytes verb → s ≡ string_bytes seed → l ≡ string_bytes lines
    → generate_asked v s l ≡ requested_by ws
three_words [] verb seed lines v s l most least is_verb is_seed is_lines vs ss ls = absurd (omega arith)
three_words (w0 ∷ []) verb seed lines v s l most least is_verb is_seed is_lines vs ss ls = absurd (omega arith)
three_words (w0 ∷ w1 ∷ []) verb seed lines v s l most least is_verb is_seed is_lines vs ss ls = absurd (omega arith)
three_words (w0 ∷ w1 ∷ w2 ∷ []) verb seed lines v s l most least is_verb is_seed is_lines vs ss ls =
    same_three generate_asked v s l (string_bytes w0) (string_bytes w1) (string_bytes w2) (seen_word v verb w0 vs is_verb) (seen_word s seed w1 ss is_seed) (seen_word l lines w2 ls is_lines)
three_words (w0 ∷ w1 ∷ w2 ∷ w3 ∷ ws) verb seed lines v s l most least is_verb is_seed is_lines vs ss ls = absurd (omega arith)

pub four_words : (ws : List (String Global)) → 4 ≤ length ws → length ws < 5 → requested_by ws ≡ None
four_words [] most least = absurd (omega arith)
four_words (w0 ∷ []) most least = absurd (omega arith)
four_words (w0 ∷ w1 ∷ []) most least = absurd (omega arith)
four_words (w0 ∷ w1 ∷ w2 ∷ []) most least = absurd (omega arith)
four_words (w0 ∷ w1 ∷ w2 ∷ w3 ∷ []) most least = refl
four_words (w0 ∷ w1 ∷ w2 ∷ w3 ∷ w4 ∷ ws) most least = absurd (omega arith)

pub five_words : (ws : List (String Global)) (verb chunks blocks entries : String Global) (v c b m : List ℕ) → 5 ≤ length ws → length ws < 6
    → verb ≡ get_or ws 0 verb → chunks ≡ get_or ws 2 chunks → blocks ≡ get_or ws 3 blocks → entries ≡ get_or ws 4 entries
    → v ≡ string_bytes verb → c ≡ string_bytes chunks → b ≡ string_bytes blocks → m ≡ string_bytes entries
    → new_asked v c b m ≡ requested_by ws
five_words [] verb chunks blocks entries v c b m most least is_verb is_chunks is_blocks is_entries vs cs bs ms = absurd (omega arith)
five_words (w0 ∷ []) verb chunks blocks entries v c b m most least is_verb is_chunks is_blocks is_entries vs cs bs ms = absurd (omega arith)
five_words (w0 ∷ w1 ∷ []) verb chunks blocks entries v c b m most least is_verb is_chunks is_blocks is_entries vs cs bs ms = absurd (omega arith)
five_words (w0 ∷ w1 ∷ w2 ∷ []) verb chunks blocks entries v c b m most least is_verb is_chunks is_blocks is_entries vs cs bs ms = absurd (omega arith)
five_words (w0 ∷ w1 ∷ w2 ∷ w3 ∷ []) verb chunks blocks entries v c b m most least is_verb is_chunks is_blocks is_entries vs cs bs ms = absurd (omega arith)
five_words (w0 ∷ w1 ∷ w2 ∷ w3 ∷ w4 ∷ []) verb chunks blocks entries v c b m most least is_verb is_chunks is_blocks is_entries vs cs bs ms =
    ap (λ (w : List ℕ). new_asked w c b m) (vs ∙ ap (λ (w : String Global). string_bytes w) is_verb)
    ∙ ap (λ (w : List ℕ). new_asked (string_bytes w0) w b m) (cs ∙ ap (λ (w : String Global). string_bytes w) is_chunks)
    ∙ ap (λ (w : List ℕ). new_asked (string_bytes w0) (string_bytes w2) w m) (bs ∙ ap (λ (w : String Global). string_bytes w) is_blocks)
    ∙ ap (λ (w : List ℕ). new_asked (string_bytes w0) (string_bytes w2) (string_bytes w3) w) (ms ∙ ap (λ (w : String Global). string_bytes w) is_entries)
five_words (w0 ∷ w1 ∷ w2 ∷ w3 ∷ w4 ∷ w5 ∷ ws) verb chunks blocks entries v c b m most least is_verb is_chunks is_blocks is_entries vs cs bs ms = absurd (omega arith)

pub six_words : (ws : List (String Global)) → 6 ≤ length ws → length ws < 7 → requested_by ws ≡ None
six_words [] most least = absurd (omega arith)
six_words (w0 ∷ []) most least = absurd (omega arith)
six_words (w0 ∷ w1 ∷ []) most least = absurd (omega arith)
six_words (w0 ∷ w1 ∷ w2 ∷ []) most least = absurd (omega arith)
six_words (w0 ∷ w1 ∷ w2 ∷ w3 ∷ []) most least = absurd (omega arith)
six_words (w0 ∷ w1 ∷ w2 ∷ w3 ∷ w4 ∷ []) most least = absurd (omega arith)
six_words (w0 ∷ w1 ∷ w2 ∷ w3 ∷ w4 ∷ w5 ∷ []) most least = refl
six_words (w0 ∷ w1 ∷ w2 ∷ w3 ∷ w4 ∷ w5 ∷ w6 ∷ ws) most least = absurd (omega arith)

pub seven_words : (ws : List (String Global)) (verb chunks blocks entries seed lines : String Global) (v c b m s l : List ℕ) → 7 ≤ length ws → length ws < 8
    → verb ≡ get_or ws 0 verb → chunks ≡ get_or ws 2 chunks → blocks ≡ get_or ws 3 blocks → entries ≡ get_or ws 4 entries → seed ≡ get_or ws 5 seed → lines ≡ get_or ws 6 lines
    → v ≡ string_bytes verb → c ≡ string_bytes chunks → b ≡ string_bytes blocks → m ≡ string_bytes entries → s ≡ string_bytes seed → l ≡ string_bytes lines
    → load_asked v c b m s l ≡ requested_by ws
seven_words [] verb chunks blocks entries seed lines v c b m s l most least is_verb is_chunks is_blocks is_entries is_seed is_lines vs cs bs ms ss ls = absurd (omega arith)
seven_words (w0 ∷ []) verb chunks blocks entries seed lines v c b m s l most least is_verb is_chunks is_blocks is_entries is_seed is_lines vs cs bs ms ss ls = absurd (omega arith)
seven_words (w0 ∷ w1 ∷ []) verb chunks blocks entries seed lines v c b m s l most least is_verb is_chunks is_blocks is_entries is_seed is_lines vs cs bs ms ss ls = absurd (omega arith)
seven_words (w0 ∷ w1 ∷ w2 ∷ []) verb chunks blocks entries seed lines v c b m s l most least is_verb is_chunks is_blocks is_entries is_seed is_lines vs cs bs ms ss ls = absurd (omega arith)
seven_words (w0 ∷ w1 ∷ w2 ∷ w3 ∷ []) verb chunks blocks entries seed lines v c b m s l most least is_verb is_chunks is_blocks is_entries is_seed is_lines vs cs bs ms ss ls = absurd (omega arith)
seven_words (w0 ∷ w1 ∷ w2 ∷ w3 ∷ w4 ∷ []) verb chunks blocks entries seed lines v c b m s l most least is_verb is_chunks is_blocks is_entries is_seed is_lines vs cs bs ms ss ls = absurd (omega arith)
seven_words (w0 ∷ w1 ∷ w2 ∷ w3 ∷ w4 ∷ w5 ∷ []) verb chunks blocks entries seed lines v c b m s l most least is_verb is_chunks is_blocks is_entries is_seed is_lines vs cs bs ms ss ls = absurd (omega arith)
seven_words (w0 ∷ w1 ∷ w2 ∷ w3 ∷ w4 ∷ w5 ∷ w6 ∷ []) verb chunks blocks entries seed lines v c b m s l most least is_verb is_chunks is_blocks is_entries is_seed is_lines vs cs bs ms ss ls =
    same_six load_asked v c b m s l (string_bytes w0) (string_bytes w2) (string_bytes w3) (string_bytes w4) (string_bytes w5) (string_bytes w6)
    (seen_word v verb w0 vs is_verb) (seen_word c chunks w2 cs is_chunks) (seen_word b blocks w3 bs is_blocks) (seen_word m entries w4 ms is_entries)
    (seen_word s seed w5 ss is_seed) (seen_word l lines w6 ls is_lines)
seven_words (w0 ∷ w1 ∷ w2 ∷ w3 ∷ w4 ∷ w5 ∷ w6 ∷ w7 ∷ ws) verb chunks blocks entries seed lines v c b m s l most least is_verb is_chunks is_blocks is_entries is_seed is_lines vs cs bs ms ss ls = absurd (omega arith)

pub fewer_words : (ws : List (String Global)) → length ws < 2 → requested_by ws ≡ None
fewer_words [] few = refl
fewer_words (w0 ∷ []) few = refl
fewer_words (w0 ∷ w1 ∷ ws) few = absurd (omega arith)

pub more_words : (ws : List (String Global)) → 8 ≤ length ws → requested_by ws ≡ None
more_words [] many = absurd (omega arith)
more_words (w0 ∷ []) many = absurd (omega arith)
more_words (w0 ∷ w1 ∷ []) many = absurd (omega arith)
more_words (w0 ∷ w1 ∷ w2 ∷ []) many = absurd (omega arith)
more_words (w0 ∷ w1 ∷ w2 ∷ w3 ∷ []) many = absurd (omega arith)
more_words (w0 ∷ w1 ∷ w2 ∷ w3 ∷ w4 ∷ []) many = absurd (omega arith)
more_words (w0 ∷ w1 ∷ w2 ∷ w3 ∷ w4 ∷ w5 ∷ []) many = absurd (omega arith)
more_words (w0 ∷ w1 ∷ w2 ∷ w3 ∷ w4 ∷ w5 ∷ w6 ∷ []) many = absurd (omega arith)
more_words (w0 ∷ w1 ∷ w2 ∷ w3 ∷ w4 ∷ w5 ∷ w6 ∷ w7 ∷ ws) many = refl

-- ---- sizes

none_if : (b c p : ℕ) (test : Bool) (is : is_geometry b c p ≡ test) → (IsGeometry b c p → ⊥) → sizes_if b c p test is ≡ None
none_if b c p true inside out = absurd (out (limits_of b c p inside))
none_if b c p false outside out = refl

-- numbers outside the limits are no sizes
pub no_sizes : (b c p : ℕ) → (IsGeometry b c p → ⊥) → geometry_of b c p ≡ None
unfolding geometry_of
no_sizes b c p out = none_if b c p (is_geometry b c p) refl out

blocks_small : (b : ℕ) → IsTrue (is_chunk_size b) → b ≤ 2048
blocks_small b is = grind (arith, nat_tests)

pub large_blocks : (b c p : ℕ) → 2 ^ 32 ≤ b → geometry_of b c p ≡ None
large_blocks b c p large = no_sizes b c p (λ inside. let small : b ≤ 2048 = blocks_small b inside.chunk_size in omega (arith, large, small))

pub large_chunks : (b c p : ℕ) → 2 ^ 32 ≤ c → geometry_of b c p ≡ None
large_chunks b c p large = no_sizes b c p (λ inside. let few : c ≤ 262144 = inside.few_chunks in omega (arith, large, few))

pub large_map : (b c p : ℕ) → 2 ^ 32 ≤ p → geometry_of b c p ≡ None
large_map b c p large = no_sizes b c p (λ inside. let few : p ≤ 1048576 = inside.map_to in omega (arith, large, few))

-- what is made of three numbers, by whether they are inside the limits
pub made_sizes : (result : Option Geometry) (b c p : ℕ) → (IsSome result ↔ IsGeometry b c p)
    → IfSome result (λ g. (g.chunk_blocks ≡ b) × (g.pool_chunks ≡ c) × (g.map_chunks ≡ p)) → result ≡ geometry_of b c p
made_sizes None b c p valid value = sym (no_sizes b c p (λ inside. not_some (valid.1 inside)))
  where
    not_some : IsSome {T = Geometry} None → ⊥
    not_some is = absurd (cc)
made_sizes (Some g) b c p valid value = sym (geometry_from b c p g (sym value.0) (sym value.1) (sym value.2))

-- ---- numbers

all_four : (n v : ℕ) → 0 < n → n ≤ 20 → v < 2 ^ 64 → (nat_le 1 n && nat_le n 20 && true && nat_lt v (2 ^ 64)) ≡ true
all_four n v some few small = grind (arith, nat_tests)

last_fails : (b : Bool) (v : ℕ) → (v < 2 ^ 64 → ⊥) → (b && nat_lt v (2 ^ 64)) ≡ false
last_fails true v large = grind (arith, nat_tests)
last_fails false v large = refl

-- the tests for decimal digits are those of std's reading of numbers
own : IsNumeralModel (λ word. list_all is_digit word ≡ true) (digits_value 10)
own = numerals_by_fold _ (search rules) (digits_value_after 10) (search rules)

-- a number among the words, by whether it is below 2^64
number_inside : (word : List ℕ) → 0 < length word → length word ≤ 20 → list_all is_digit word ≡ true → digits_value 10 word < 2 ^ 64
    → number_of_word word ≡ Some (digits_value 10 word)
number_inside word some few digits small =
    cond-true (nat_le 1 (length word) && nat_le (length word) 20 && list_all is_digit word && nat_lt (digits_value 10 word) (2 ^ 64)) _ _
    (rw digits (all_four (length word) (digits_value 10 word) some few small))

number_outside : (word : List ℕ) → (digits_value 10 word < 2 ^ 64 → ⊥) → number_of_word word ≡ None
number_outside word large =
    cond-false (nat_le 1 (length word) && nat_le (length word) 20 && list_all is_digit word && nat_lt (digits_value 10 word) (2 ^ 64)) _ _
    (last_fails (nat_le 1 (length word) && nat_le (length word) 20 && list_all is_digit word) (digits_value 10 word) large)

-- what is parsed of 1 to 20 digits
pub parsed_number : {E : Type 0} (word : List ℕ) (r : Result ℕ E) → ParsesUnsigned 64 10 word r
    → 0 < length word → length word ≤ 20 → list_all is_digit word ≡ true → result_ok r ≡ number_of_word word
parsed_number {E} word r parsed some few digits = read r (parse_digits own 64 word r parsed digits)
  where
    read : (r : Result ℕ E) → OkIff r ((0 < length word) × (digits_value 10 word < 2 ^ 64)) (digits_value 10 word) → result_ok r ≡ number_of_word word
    read (Ok n) is = ap Some is.1 ∙ sym (number_inside word some few digits is.0.1)
    read (Err e) not = sym (number_outside word (λ small. not (some, small)))

-- what a test for an empty word tells
pub not_empty : (xs : List ℕ) (b : Bool) → b ≡ (length xs == 0) → b ≡ false → 0 < length xs
not_empty [] b is not = absurd (true≢false (sym is ∙ not))
not_empty (x ∷ xs) b is not = omega arith
