-- When tables share places of the pool rightly: each stands for a flat array in which no volume shares anything. This
-- is this project's own.
use Rattle.std.specs.Prelude.{ℕ, ◌==◌, ◌&&◌, ◌||◌, Bool, true, false, not, List, ◌++◌, map, filter, count_by, fold, min, Option, Some, None, unwrap_or, nat_le, nat_lt, if◌then◌else◌}
use Rattle.std.specs.List.{flat_map, list_all}
use Rattle.vv_flat.specs.Lists.{if_found}
use Rattle.vv_flat.specs.State.{Volume, RunningClone, Piece, RunningCopy, Durable, indexed, all_pieces}
use Rattle.std.specs.Str.{bytes_eq}
use Rattle.vv_flat.specs.Chunks.{ChunkValue, Entry}

-- An entry has a place exactly where its stamp is not 0, and the place is one of the pool.
abbrev pub is_placed : ℕ → Entry → Bool
is_placed pool_chunks e = if_found e.place (λ p. not (e.stamp == 0) && nat_lt p pool_chunks) (e.stamp == 0)

abbrev pub both_or_neither : Bool → Bool → Bool
both_or_neither a b = if a then b else not b

-- Two entries with a place have the same one exactly where index and stamp are the same.
abbrev pub agrees : Piece Entry → Piece Entry → Bool
agrees a b =
    if_found a.chunk.place
    (λ p. if_found b.chunk.place
    (λ q. both_or_neither (p == q) ((a.index == b.index) && (a.chunk.stamp == b.chunk.stamp))) true) true

-- whether all entries of some lists, each with its index, do so
unfoldable pub shares_places : ℕ → List (Piece Entry) → Bool
shares_places pool_chunks all =
    list_all (λ (a : Piece Entry). is_placed pool_chunks a.chunk && list_all (agrees a) all) all

-- How many of the entries of some lists name a place. It is a count of names: where two lists share a page, an entry of
-- the page is named by both, though a store of pages counts it once.
abbrev pub names_place : ℕ → Piece Entry → Bool
names_place p a = if_found a.chunk.place (λ q. q == p) false

unfoldable pub place_count : List (Piece Entry) → ℕ → ℕ
place_count all p = count_by (names_place p) all

-- An entry of tables where it stands: in the target of a running clone, or in another list.
pub record Standing : Type 0 where
  pub target_of : Option ℕ
  pub piece : Piece Entry

abbrev pub standing : Option ℕ → List (Piece Entry) → List Standing
standing clone pieces = map (λ a. record { target_of = clone; piece = a }) pieces

-- the entries of all volumes, images, targets and copies
unfoldable pub standings : Durable Entry → List Standing
standings d =
    flat_map (λ (v : Volume Entry). standing None (indexed v.chunks)) d.volumes
    ++ flat_map (λ (c : RunningClone Entry). standing None (indexed c.image) ++ standing (Some c.number) (indexed c.target)) d.clones
    ++ flat_map (λ (c : RunningCopy Entry). standing None c.pieces) d.copies

-- The number of a running clone is a stamp in its own target alone.
abbrev pub is_own_stamp : List (RunningClone Entry) → Standing → Bool
is_own_stamp clones a =
    list_all (λ (c : RunningClone Entry). not (a.piece.chunk.stamp == c.number)
    || if_found a.target_of (λ n. n == c.number) false) clones

-- an entry that breaks nothing of what sharing rightly is
abbrev pub is_shared_rightly : Durable Entry → Standing → Bool
is_shared_rightly d a =
    is_placed d.geometry.pool_chunks a.piece.chunk && nat_le a.piece.chunk.stamp d.lsn && is_own_stamp d.clones a
    && list_all (agrees a.piece) (all_pieces d)

unfoldable pub shares : Durable Entry → Bool
unfolding standings
shares d = list_all (is_shared_rightly d) (standings d)

-- the number by which an entry without a place counts
abbrev pub no_place : ℕ
no_place = 4294967295

-- the least place of the entries that break it
unfoldable pub least_broken : Durable Entry → ℕ
unfolding standings
least_broken d =
    fold (λ least (a : Standing). min least (unwrap_or a.piece.chunk.place no_place)) no_place
    (filter (λ a. not (is_shared_rightly d a)) (standings d))

-- Two chunks of the flat array at one index and with one stamp, not 0, have the same bytes.
abbrev pub is_told_by_stamp : Piece ChunkValue → Piece ChunkValue → Bool
is_told_by_stamp a b =
    not ((a.index == b.index) && (a.chunk.stamp == b.chunk.stamp)) || (a.chunk.stamp == 0) || bytes_eq a.chunk.bytes b.chunk.bytes

unfoldable pub stamps_tell_bytes : Durable ChunkValue → Bool
stamps_tell_bytes d =
    list_all (λ (a : Piece ChunkValue). list_all (is_told_by_stamp a) (all_pieces d)) (all_pieces d)
