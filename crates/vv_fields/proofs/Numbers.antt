-- The number of 1, 2, 4 or 8 bytes is what `from_be_bytes` makes of them.
use Rattle.std.proofs.Common.{◌≡◌, ℕ, List, [], ◌∷◌, length, arith}
use Rattle.std.specs.Int.{w8, w16, w32, w64, from_be_bytes}
use Rattle.vv_fields.specs.Fields.{be_number}

pub number_of_1 : (bytes : List ℕ) → length bytes ≡ 1 → from_be_bytes w8 bytes ≡ be_number bytes
unfolding be_number
number_of_1 [] l = absurd cc
number_of_1 (a ∷ []) l = omega arith
number_of_1 (a ∷ b ∷ bytes) l = absurd cc

pub number_of_2 : (bytes : List ℕ) → length bytes ≡ 2 → from_be_bytes w16 bytes ≡ be_number bytes
unfolding be_number
number_of_2 [] l = absurd cc
number_of_2 (a ∷ []) l = absurd cc
number_of_2 (a ∷ b ∷ []) l = omega arith
number_of_2 (a ∷ b ∷ c ∷ bytes) l = absurd cc

pub number_of_4 : (bytes : List ℕ) → length bytes ≡ 4 → from_be_bytes w32 bytes ≡ be_number bytes
unfolding be_number
number_of_4 [] l = absurd cc
number_of_4 (a ∷ []) l = absurd cc
number_of_4 (a ∷ b ∷ []) l = absurd cc
number_of_4 (a ∷ b ∷ c ∷ []) l = absurd cc
number_of_4 (a ∷ b ∷ c ∷ d ∷ []) l = omega arith
number_of_4 (a ∷ b ∷ c ∷ d ∷ e ∷ bytes) l = absurd cc

pub number_of_8 : (bytes : List ℕ) → length bytes ≡ 8 → from_be_bytes w64 bytes ≡ be_number bytes
unfolding be_number
number_of_8 [] l = absurd cc
number_of_8 (a ∷ []) l = absurd cc
number_of_8 (a ∷ b ∷ []) l = absurd cc
number_of_8 (a ∷ b ∷ c ∷ []) l = absurd cc
number_of_8 (a ∷ b ∷ c ∷ d ∷ []) l = absurd cc
number_of_8 (a ∷ b ∷ c ∷ d ∷ e ∷ []) l = absurd cc
number_of_8 (a ∷ b ∷ c ∷ d ∷ e ∷ f ∷ []) l = absurd cc
number_of_8 (a ∷ b ∷ c ∷ d ∷ e ∷ f ∷ g ∷ []) l = absurd cc
number_of_8 (a ∷ b ∷ c ∷ d ∷ e ∷ f ∷ g ∷ h ∷ []) l = omega arith
number_of_8 (a ∷ b ∷ c ∷ d ∷ e ∷ f ∷ g ∷ h ∷ i ∷ bytes) l = absurd (omega arith)
