-- What a call of a reader of lines does, answer by answer.
use Rattle.std.specs.Prelude.{◌≡◌, ◌≤◌, ℕ, ◌+◌, List, [], ◌∷◌, length, true, false, Option, Some, None, Result, Ok, Err}
use Rattle.std.specs.Io.KnownBytes.{Consumes, IsAtEnd}
use Rattle.vv_io.specs.Streams.{ConsumesOrForgets}
use Rattle.vv_io.specs.Reading.{ReaderState, Gives, OnePast, lines_ahead, script_limit}
use Rattle.vv_io.specs.declared.line_answer.Next.{Next}
use Rattle.vv_io.specs.declared.line_answer.Next.TheVariants.{Line, TooLong, End, TooMuch}

-- Bytes of the source were taken, within the most of a script, and these lines were given. Nothing is taken behind the end.
pub record Gave (old new : ReaderState) (given : List (Option (List ℕ))) (before after : Option (List ℕ)) : Type 0 where
  pub bytes : List ℕ
  pub consumed : Consumes before after bytes
  pub counted : new.taken ≡ old.taken + length bytes
  pub lines : Gives old bytes given new
  pub within : new.taken ≤ script_limit
  pub at_end : new.is_ended ≡ true → old.is_ended ≡ false → IsAtEnd after
  pub behind_end : old.is_ended ≡ true → (bytes ≡ []) × (after ≡ before) × (new.is_ended ≡ true)

-- The source gave its end, and no line is left.
pub record GaveAll (old new : ReaderState) (before after : Option (List ℕ)) : Type 0 where
  pub gave : Gave old new [] before after
  pub ended : new.is_ended ≡ true
  pub none_left : lines_ahead new [] ≡ []

-- A byte past the most of a script was taken, and those before it ended no line.
pub record WentPast (old new : ReaderState) (before after : Option (List ℕ)) : Type 0 where
  pub past : OnePast old new before after
  pub one : length new.waiting ≡ 1
  pub before_end : old.is_ended ≡ false

-- The source failed, and the bytes taken before it did ended no line.
pub record GaveNone (old new : ReaderState) (before after : Option (List ℕ)) : Type 0 where
  pub bytes : List ℕ
  pub consumed : ConsumesOrForgets before after bytes
  pub counted : new.taken ≡ old.taken + length bytes
  pub lines : Gives old bytes [] new
  pub within : new.taken ≤ script_limit
  pub all_seen : new.waiting ≡ []
  pub before_end : new.is_ended ≡ false
  pub was_before_end : old.is_ended ≡ false

abbrev pub NextIs : {E : Type 0} → Result Next E → ReaderState → ReaderState → Option (List ℕ) → Option (List ℕ) → Type 0
NextIs (Ok Line) old new before after = Gave old new (Some new.line ∷ []) before after
NextIs (Ok TooLong) old new before after = Gave old new (None ∷ []) before after
NextIs (Ok End) old new before after = GaveAll old new before after
NextIs (Ok TooMuch) old new before after = WentPast old new before after
NextIs (Err e) old new before after = GaveNone old new before after
