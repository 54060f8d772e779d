-- What a list over pages is, and what memory was taken for one.
use Rattle.std.specs.Prelude.{ℕ, List}

-- A list over pages: the numbers of its pages, in order, how many entries it has, and for the numbers of how many pages it
-- has memory.
pub record MapState : Type 0 where
  pub numbers : List ℕ
  pub len : ℕ
  pub memory : ℕ

-- Memory for so many pages, and for the numbers of a list of so many pages.
pub record RoomState : Type 0 where
  pub pages : ℕ
  pub numbers : ℕ
