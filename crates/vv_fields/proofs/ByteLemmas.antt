-- The bytes of a number, and the number of bytes: each gives the other back.
use Rattle.std.proofs.Common.{◌≡◌, ℕ, zero, suc, ◌+◌, ◌*◌, ◌/◌, ◌%◌, ◌^◌, ◌<◌, List, [], ◌∷◌, ◌++◌, length, take, drop, refl, sym, ap, ◌∙◌, arith, inl, inr, add-zero}
use Rattle.std.specs.Int.{byte_at}
use Rattle.std.proofs.Math.Nat.{pow-suc, pow-succ', one-le-pow, mul-add-div_right, mul-add-mod_self_right, mod-eq_of_lt, mul_assoc, mul_comm}
use Rattle.std.proofs.Math.Arith.{mod-mul}
use Rattle.std.proofs.lemmas.Bool.{cases_lt}
use Rattle.std.proofs.lemmas.Nat.{mul-add-lt, div-mul-add, pow-add, mod_below}
use Rattle.std.proofs.lemmas.List.{length-take, get_or-drop, get_or-take, get_or_past}
use Rattle.vv_fields.specs.Fields.{be_bytes, be_number, AreBytes}

-- a number has as many bytes as are asked for
pub length-be_bytes : (n number : ℕ) → length (be_bytes n number) ≡ n
unfolding be_bytes
length-be_bytes zero number = refl
length-be_bytes (suc n) number = ap suc (length-be_bytes n number)

-- byte k of a number, as one quotient for all k
byte_at_is : (k number : ℕ) → byte_at k number ≡ number / 256 ^ k % 256
byte_at_is zero number = omega arith
byte_at_is (suc k) number = refl

-- a power of 256 is not 0
power_above_0 : (k : ℕ) → 0 < 256 ^ k
power_above_0 k = omega (arith, one-le-pow k 256 (omega arith))

-- the lowest n bytes make the number up to a multiple of 256 ^ n
pub be_number-be_bytes : (n number : ℕ) → be_number (be_bytes n number) ≡ number % 256 ^ n
unfolding be_bytes be_number
be_number-be_bytes zero number = omega arith
be_number-be_bytes (suc n) number =
    let split : number % 256 ^ suc n ≡ (number / 256 ^ n % 256) * 256 ^ n + number % 256 ^ n = ap (λ (p : ℕ). number % p) (pow-succ' 256 n) ∙ mod-mul number (omega arith) (power_above_0 n) in
    let rest = be_number-be_bytes n number in
    let size = length-be_bytes n number in
    rw (size, byte_at_is n number, rest) (sym split)

-- and the number itself, where it fits them
pub number_again : (n number : ℕ) → number < 256 ^ n → be_number (be_bytes n number) ≡ number
number_again n number h = be_number-be_bytes n number ∙ mod-eq_of_lt h

-- a number of so many bytes fits them
pub be_number-below : (bytes : List ℕ) → AreBytes bytes → be_number bytes < 256 ^ length bytes
unfolding be_number
be_number-below [] h = omega arith
be_number-below (byte ∷ bytes) h =
    let rest : be_number bytes < 256 ^ length bytes = be_number-below bytes (λ i. h (suc i)) in
    rw pow-suc (omega (arith, mul-add-lt byte (256 ^ length bytes) (be_number bytes) 256 (h 0) rest))

-- equal heads and equal rests
same_cells : {x y : ℕ} {xs ys : List ℕ} → x ≡ y → xs ≡ ys → x ∷ xs ≡ y ∷ ys
same_cells p q = cc

-- the factors in another order
regrouped : (a p d : ℕ) → a * (p * (d * 256)) ≡ a * d * 256 * p
regrouped a p d = ap (λ (x : ℕ). a * x) (mul_comm p (d * 256)) ∙ sym (mul_assoc a (d * 256) p) ∙ ap (λ (x : ℕ). x * p) (sym (mul_assoc a d 256))

-- A multiple of a power of 256 is not seen in the bytes below it.
be_bytes-high : (n d a number : ℕ) → be_bytes n (a * 256 ^ (n + d) + number) ≡ be_bytes n number
unfolding be_bytes
be_bytes-high zero d a number = refl
be_bytes-high (suc n) d a number =
    let places : suc n + d ≡ n + suc d = omega arith in
    let rest : be_bytes n (a * 256 ^ (suc n + d) + number) ≡ be_bytes n number = rw places (be_bytes-high n (suc d) a number) in
    let power : a * 256 ^ (suc n + d) ≡ a * 256 ^ d * 256 * 256 ^ n = ap (λ (k : ℕ). a * 256 ^ k) places ∙ ap (λ (p : ℕ). a * p) (pow-add 256 n (suc d)) ∙ ap (λ (p : ℕ). a * (256 ^ n * p)) (pow-suc 256 d) ∙ regrouped a (256 ^ n) (256 ^ d) in
    let byte : byte_at n (a * 256 ^ (suc n + d) + number) ≡ byte_at n number = byte_at_is n (a * 256 ^ (suc n + d) + number) ∙ ap (λ (p : ℕ). (p + number) / 256 ^ n % 256) power ∙ ap (λ (q : ℕ). q % 256) (mul-add-div_right (power_above_0 n) (a * 256 ^ d * 256) number) ∙ mul-add-mod_self_right (a * 256 ^ d) 256 (number / 256 ^ n) ∙ sym (byte_at_is n number) in
    same_cells byte rest

-- the bytes of the number of bytes are these bytes
pub be_bytes-be_number : (bytes : List ℕ) → AreBytes bytes → be_bytes (length bytes) (be_number bytes) ≡ bytes
unfolding be_bytes be_number
be_bytes-be_number [] h = refl
be_bytes-be_number (byte ∷ bytes) h =
    let bytes_h : AreBytes bytes = λ i. h (suc i) in
    let below = be_number-below bytes bytes_h in
    let first : byte_at (length bytes) (byte * 256 ^ length bytes + be_number bytes) ≡ byte = byte_at_is (length bytes) (byte * 256 ^ length bytes + be_number bytes) ∙ ap (λ (q : ℕ). q % 256) (div-mul-add byte (256 ^ length bytes) (be_number bytes) below) ∙ mod-eq_of_lt (h 0) in
    let rest : be_bytes (length bytes) (byte * 256 ^ length bytes + be_number bytes) ≡ bytes = ap (λ (k : ℕ). be_bytes (length bytes) (byte * 256 ^ k + be_number bytes)) (sym (add-zero (length bytes))) ∙ be_bytes-high (length bytes) 0 byte (be_number bytes) ∙ be_bytes-be_number bytes bytes_h in
    same_cells first rest

-- a byte is the one byte of its number
pub be_bytes-1 : (byte : ℕ) → byte < 256 → be_bytes 1 byte ≡ byte ∷ []
unfolding be_bytes
be_bytes-1 byte h = ap (λ (x : ℕ). x ∷ []) (mod-eq_of_lt h)

-- each byte of a number is a byte
pub AreBytes-be_bytes : (n number : ℕ) → AreBytes (be_bytes n number)
unfolding be_bytes
AreBytes-be_bytes zero number i = omega arith
AreBytes-be_bytes (suc n) number zero = rw byte_at_is (mod_below (number / 256 ^ n) 256 (omega arith))
AreBytes-be_bytes (suc n) number (suc i) = AreBytes-be_bytes n number i

-- and so are the rest, the front and two lists together
pub AreBytes-drop : (n : ℕ) (bytes : List ℕ) → AreBytes bytes → AreBytes (drop n bytes)
AreBytes-drop n bytes h i = rw get_or-drop (h (n + i))

pub AreBytes-take : (n : ℕ) (bytes : List ℕ) → AreBytes bytes → AreBytes (take n bytes)
AreBytes-take n bytes h i =
    elim (cases_lt i n) [
      | inl lt ↦ rw (get_or-take n bytes i 0 lt) (h i)
      | inr le ↦ rw (get_or_past (take n bytes) i 0 (omega (arith, length-take n bytes))) (omega arith)
    ]

pub AreBytes-append : (xs ys : List ℕ) → AreBytes xs → AreBytes ys → AreBytes (xs ++ ys)
AreBytes-append [] ys h k i = k i
AreBytes-append (x ∷ xs) ys h k zero = h zero
AreBytes-append (x ∷ xs) ys h k (suc i) = AreBytes-append xs ys (λ j. h (suc j)) k i
