-- What a pool is: the use of each of its places, and how many of the free ones are reserved.
use Rattle.std.specs.Prelude.{ℕ, ◌≡◌, ◌+◌, ◌-◌, ◌*◌, ◌^◌, ◌<◌, ◌≤◌, List, length, take, find, count_by, slice_index_or, slice_set, Option, Result, Ok, Err, nat_le, if◌then◌else◌}
use Rattle.vv_pool.specs.declared.place_use.PlaceUse.{PlaceUse}
use Rattle.vv_pool.specs.declared.place_use.PlaceUse.TheVariants.{Counted, Fresh}
use Rattle.vv_pool.specs.declared.full.Full.{Full}
use Rattle.vv_pool.specs.Uses.{is_free, is_used, count_in, free_from, made_fresh}
use Rattle.vv_pool.specs.Bits.{bit_of}

-- The use of each place, in order, and the number of reserved places.
pub record PoolState : Type 0 where
  pub places : List PlaceUse
  pub reserved : ℕ

-- the use of a place: past the last one no entry names it
abbrev pub use_of : PoolState → ℕ → PlaceUse
use_of pool place = slice_index_or pool.places place (Counted 0)

-- how many entries name a place
abbrev pub count_of : PoolState → ℕ → ℕ
count_of pool place = count_in (use_of pool place)

abbrev pub IsFresh : PoolState → ℕ → Type 0
IsFresh pool place = use_of pool place ≡ Fresh

-- the place is one of the pool's, and neither counted nor fresh
abbrev pub IsFree : PoolState → ℕ → Type 0
IsFree pool place = (place < length pool.places) × (use_of pool place ≡ Counted 0)

-- how many places are counted or fresh
abbrev pub used_of : PoolState → ℕ
used_of pool = count_by is_used pool.places

-- how many places may be taken: those that are neither used nor reserved
abbrev pub free_of : PoolState → ℕ
free_of pool = length pool.places - used_of pool - pool.reserved

-- the places that are neither counted nor fresh, in rising order
abbrev pub free_places : PoolState → List ℕ
free_places pool = free_from 0 pool.places

-- the lowest n of them
abbrev pub lowest_places : PoolState → ℕ → List ℕ
lowest_places pool n = take n (free_places pool)

-- the lowest of them from `from` on
abbrev pub lowest_free : PoolState → ℕ → Option ℕ
lowest_free pool from = find (λ place. nat_le from place) (free_places pool)

-- whether n places may be taken
abbrev pub room_for : PoolState → ℕ → Result (Unit {0}) Full
room_for pool n = if nat_le n (free_of pool) then Ok tt else Err (record { free = free_of pool; asked = n })

-- one place got another use
abbrev pub with_use : PoolState → ℕ → PlaceUse → PoolState
with_use pool place use_now = record { places = slice_set pool.places place use_now; reserved = pool.reserved }

-- a place is named by so many entries
abbrev pub with_count : PoolState → ℕ → ℕ → PoolState
with_count pool place count = with_use pool place (Counted count)

-- these places are fresh
abbrev pub with_fresh : PoolState → List ℕ → PoolState
with_fresh pool places = record { places = made_fresh pool.places places; reserved = pool.reserved }

-- so many places are reserved
abbrev pub with_reserved : PoolState → ℕ → PoolState
with_reserved pool reserved = record { places = pool.places; reserved = reserved }

-- 1 where a place of this use is free, and else 0
abbrev pub free_bit : PlaceUse → ℕ
free_bit use_now = if is_free use_now then 1 else 0

-- 1 where a place of this use is counted or fresh, and else 0
abbrev pub used_bit : PlaceUse → ℕ
used_bit use_now = if is_used use_now then 1 else 0

-- What a pool keeps beside the uses: the free places as bits, and the number of used ones.
pub record IsKept (places : List PlaceUse) (vacant : List ℕ) (used reserved : ℕ) : Type 0 where
  pub tells : (k : ℕ) → bit_of vacant k ≡ free_bit (slice_index_or places k Fresh)
  pub covers : length places ≤ 64 * length vacant
  pub counted : used ≡ count_by is_used places
  pub room : used + reserved ≤ length places
  pub few : length places < 2 ^ 32
