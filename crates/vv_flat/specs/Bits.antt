-- The bitmaps of VASA 2.0, over stamps. What exactly a bit says is this project's own: no bytes are compared, so a
-- rewrite of the same bytes sets the unshared bit, and a chunk that both volumes have unmapped leaves it clear.
use Rattle.std.specs.Prelude.{ℕ, ◌==◌, Bool, not, List, map, take, drop, slice_index, count_by}
use Rattle.vv_flat.specs.Lists.{mapped_from, indexes_from}

-- a chunk is allocated where its stamp is not 0
abbrev pub allocated_bits : List ℕ → List Bool
allocated_bits stamps = map (λ s. not (s == 0)) stamps

-- a chunk is unshared against a base where the stamps differ, the base having stamp 0 past its end
abbrev pub is_unshared : List ℕ → ℕ → ℕ → Bool
is_unshared base i s = not (s == slice_index base i)

abbrev pub unshared_bits : List ℕ → List ℕ → List Bool
unshared_bits stamps base = mapped_from (is_unshared base) 0 stamps

abbrev pub unshared_count : List ℕ → List ℕ → ℕ
unshared_count stamps base = count_by (λ b. b) (unshared_bits stamps base)

-- so many bits from a first one on
abbrev pub bits_within : ℕ → ℕ → List Bool → List Bool
bits_within first count bits = take count (drop first bits)

-- the indexes of the allocated chunks, and of those that are unshared against a base
abbrev pub allocated_indexes : List ℕ → List ℕ
allocated_indexes stamps = indexes_from (λ i s. not (s == 0)) 0 stamps

abbrev pub unshared_indexes : List ℕ → List ℕ → List ℕ
unshared_indexes stamps base = indexes_from (is_unshared base) 0 stamps
