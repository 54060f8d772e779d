-- The stamps that the bits of a bitmap are told by.
use Rattle.std.specs.Prelude.{ℕ, ◌*◌, Bool, List, [], map, take, drop, Option, Some, None}
use Rattle.vv_units.specs.declared.numbers.VolumeId.{VolumeId}
use Rattle.vv_entries.specs.declared.entry.Entry.{Entry as PlacedEntry}
use Rattle.vv_flat.specs.Chunks.{Entry}
use Rattle.vv_flat.specs.Bits.{unshared_bits}
use Rattle.vv_vols.specs.Shelf.{ShelfState, chunks_in}

-- the stamps of a volume's chunks
abbrev pub stamps_in : ShelfState → ℕ → List ℕ
stamps_in s n = map (λ (e : Entry). e.stamp) (chunks_in s n)

-- those of a base, where there is one
abbrev pub base_stamps : ShelfState → Option VolumeId → List ℕ
base_stamps s None = []
base_stamps s (Some base) = stamps_in s base.0

-- the stamps of entries
abbrev pub stamps_of : List PlacedEntry → List ℕ
stamps_of entries = map (λ (e : PlacedEntry). e.stamp) entries

-- the bits of a volume against a base, or against nothing
abbrev pub bits_in : ShelfState → ℕ → Option VolumeId → List Bool
bits_in s n base = unshared_bits (stamps_in s n) (base_stamps s base)

-- those of the k-th 64 chunks, or of as many as there are
abbrev pub page_bits : List ℕ → List ℕ → ℕ → List Bool
page_bits stamps base k = unshared_bits (take 64 (drop (64 * k) stamps)) (take 64 (drop (64 * k) base))
