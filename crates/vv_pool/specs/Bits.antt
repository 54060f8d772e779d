-- Sets of numbers as bits of words of 64, and what a summary of the words says. Used by the index of free places alone.
use Rattle.std.specs.Prelude.{ℕ, ◌≡◌, ◌≢◌, ◌+◌, ◌*◌, ◌/◌, ◌%◌, ◌^◌, ◌<◌, ◌≤◌, List, length, slice_index, min, nat_lt, if◌then◌else◌}
use Rattle.std.specs.Int.{bit_at}

-- 1 where number k is in the set, and else 0
abbrev pub bit_of : List ℕ → ℕ → ℕ
bit_of words k = bit_at (slice_index words (k / 64)) (k % 64)

-- 1 where k is below n, and else 0
abbrev pub below : ℕ → ℕ → ℕ
below k n = if nat_lt k n then 1 else 0

-- The words of the numbers below n: no word more than they take.
pub record IsFilled (words : List ℕ) (n : ℕ) : Type 0 where
  pub bits : (k : ℕ) → bit_of words k ≡ below k n
  pub some_in_each : (j : ℕ) → min 1 (slice_index words j) ≡ below j (length words)
  pub covers : n ≤ 64 * length words
  pub few : length words ≤ n / 64 + 1

-- No number from `from` on and below `to` is in the set.
pub record NoBits (words : List ℕ) (from to : ℕ) : Type 0 where
  pub each : (k : ℕ) → from ≤ k → k < to → bit_of words k ≡ 0

-- `at` is the least number of the set from `from` on.
pub record IsNextBit (words : List ℕ) (from at : ℕ) : Type 0 where
  pub later : from ≤ at
  pub here : bit_of words at ≡ 1
  pub none_before : NoBits words from at

-- The set changed at one number at most: there its bit is `bit`.
pub record Puts (old new : List ℕ) (at bit : ℕ) : Type 0 where
  pub here : bit_of new at ≡ bit
  pub others : (k : ℕ) → k ≢ at → bit_of new k ≡ bit_of old k
  pub size : length new ≡ length old

-- A number is in the upper set exactly where the lower word of that number is not 0.
pub record Summarizes (upper lower : List ℕ) : Type 0 where
  pub covers : length lower ≤ 64 * length upper
  pub each : (j : ℕ) → bit_of upper j ≡ min 1 (slice_index lower j)

-- .. but for one word
pub record SummarizesBut (upper lower : List ℕ) (word : ℕ) : Type 0 where
  pub covers : length lower ≤ 64 * length upper
  pub each : (j : ℕ) → j ≢ word → bit_of upper j ≡ min 1 (slice_index lower j)

-- Words with a summary, and a summary of that.
pub record IsIndex (words groups top : List ℕ) : Type 0 where
  pub of_words : Summarizes groups words
  pub of_groups : Summarizes top groups
  pub few : length words < 2 ^ 58
  pub few_groups : length groups < 2 ^ 58
  pub few_top : length top < 2 ^ 58
