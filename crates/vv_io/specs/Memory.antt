-- A source and a sink in memory, for tests: what they hold, and which of their calls fail.
use Rattle.std.specs.Prelude.{ℕ, ◌+◌, ◌-◌, ◌^◌, ◌==◌, ◌&&◌, ◌||◌, ◌++◌, Bool, List, length, drop, min, nat_lt, nat_le}
use Rattle.std.specs.List.{list_any}

-- a count goes up by one, and stands still at the end of its 64 bits
abbrev pub counted : ℕ → ℕ
counted n = min (n + 1) (2 ^ 64 - 1)

-- The bytes left, the most that one read gives, the numbers of the reads that fail, how many reads came, and how many failed.
pub record SourceState : Type 0 where
  pub left : List ℕ
  pub piece : ℕ
  pub fail : List ℕ
  pub reads : ℕ
  pub faults : ℕ

-- the next read is listed as one that fails
abbrev pub read_fails : SourceState → Bool
read_fails s = list_any (λ n. n == s.reads) s.fail

-- how many bytes the next read gives, if it doesn't fail and there is so much room
abbrev pub read_count : SourceState → ℕ → ℕ
read_count s room = min (min s.piece room) (length s.left)

abbrev pub after_failed_read : SourceState → SourceState
after_failed_read s = record s { reads = counted s.reads; faults = counted s.faults }

abbrev pub after_read : SourceState → ℕ → SourceState
after_read s n = record s { left = drop n s.left; reads = counted s.reads }

-- The bytes taken, how many there may be, the numbers of the writes that fail, how many writes came, and how many failed.
pub record SinkState : Type 0 where
  pub taken : List ℕ
  pub room : ℕ
  pub fail : List ℕ
  pub writes : ℕ
  pub faults : ℕ

-- the next write is listed as one that fails, or there is no room for any of its bytes
abbrev pub write_fails : SinkState → ℕ → Bool
write_fails s asked = list_any (λ n. n == s.writes) s.fail || (nat_lt 0 asked && nat_le s.room (length s.taken))

-- how many bytes the next write takes of so many, if it doesn't fail
abbrev pub write_count : SinkState → ℕ → ℕ
write_count s asked = min asked (s.room - length s.taken)

abbrev pub after_failed_write : SinkState → SinkState
after_failed_write s = record s { writes = counted s.writes; faults = counted s.faults }

abbrev pub after_write : SinkState → List ℕ → SinkState
after_write s bytes = record s { taken = s.taken ++ bytes; writes = counted s.writes }
