-- A reader of lines: what it has, and what a call of it does.
use Rattle.std.specs.Prelude.{◌≡◌, ◌<◌, ℕ, ◌+◌, ◌^◌, List, [], ◌∷◌, ◌++◌, length, Bool, true, false, Option, Some, None, Result, Ok, Err, MatchResult, ⊤, if◌then◌else◌, ◌==◌, not, take, drop}
use Rattle.std.specs.List.{prefix_len}
use Rattle.std.specs.Io.KnownBytes.{Consumes}
use Rattle.vv_io.specs.Lines.{line_feed, lines_from}
use Rattle.vv_io.specs.Streams.{ConsumesOrForgets}
use Rattle.vv_io.specs.declared.line_answer.Next.{Next}
use Rattle.vv_io.specs.declared.line_answer.Next.TheVariants.{Line, TooLong, End, TooMuch}

-- the most bytes of a script
abbrev pub script_limit : ℕ
script_limit = 2 ^ 30

-- The most bytes of a line, the line given last or the front of the one begun (as much as tells whether it is above the
-- limit), whether it was given, the bytes that were taken and not yet looked at, how many bytes were taken, and whether
-- the source gave its end.
pub record ReaderState : Type 0 where
  pub limit : ℕ
  pub line : List ℕ
  pub is_given : Bool
  pub waiting : List ℕ
  pub taken : ℕ
  pub is_ended : Bool

-- At most one byte past the most of a script was taken. It is not looked at, and there is no end behind it.
abbrev pub AtMostOnePast : ℕ → ℕ → Bool → Type 0
AtMostOnePast taken waiting is_ended = script_limit < taken → (taken ≡ script_limit + 1) × (waiting ≡ 1) × (is_ended ≡ false)

-- a reader that took nothing
abbrev pub new_reader : ℕ → ReaderState
new_reader limit = record { limit = limit; line = []; is_given = false; waiting = []; taken = 0; is_ended = false }

-- the line begun, which has no LF
abbrev pub begun : ReaderState → List ℕ
begun s = if s.is_given then [] else s.line

-- what is still given for the lines of what the reader has, with these bytes behind it
abbrev pub lines_ahead : ReaderState → List ℕ → List (Option (List ℕ))
lines_ahead s rest = lines_from s.limit (begun s) (s.waiting ++ rest)

-- what an answer gives
abbrev pub given_as : Option Next → List ℕ → List (Option (List ℕ))
given_as (Some Line) line = Some line ∷ []
given_as (Some TooLong) line = None ∷ []
given_as (Some End) line = []
given_as (Some TooMuch) line = []
given_as None line = []

abbrev pub given_by : {E : Type 0} → Result Next E → List ℕ → List (Option (List ℕ))
given_by (Ok next) line = given_as (Some next) line
given_by (Err e) line = []

-- The same lines are given in the end, these first, whatever comes behind. Nothing comes behind the end.
abbrev pub Gives : ReaderState → List ℕ → List (Option (List ℕ)) → ReaderState → Type 0
Gives old bytes given new =
    (rest : List ℕ) → (new.is_ended ≡ true → rest ≡ []) → lines_ahead old (bytes ++ rest) ≡ given ++ lines_ahead new rest

-- A call took these bytes of the source, and gave these lines.
pub record Took {T E : Type 0} (old new : ReaderState) (result : Result T E) (given : List (Option (List ℕ))) (before after : Option (List ℕ)) : Type 0 where
  pub bytes : List ℕ
  pub consumed : MatchResult result (λ _. Consumes before after bytes) (λ _. ConsumesOrForgets before after bytes)
  pub counted : new.taken ≡ old.taken + length bytes
  pub lines : Gives old bytes given new
  pub same_limit : new.limit ≡ old.limit

-- The bytes to the most of a script were taken and looked at, and gave no line; one more was taken, and waits.
pub record OnePast (old new : ReaderState) (before after : Option (List ℕ)) : Type 0 where
  pub front : List ℕ
  pub counted : old.taken + length front ≡ script_limit
  pub consumed : Consumes before after (front ++ new.waiting)
  pub lines : (rest : List ℕ) → lines_ahead old (front ++ rest) ≡ lines_from new.limit (begun new) rest

-- how many bytes stand before the first LF
abbrev pub front_len : List ℕ → ℕ
front_len bytes = prefix_len (λ b. not (b == line_feed)) bytes

-- as much of a line as tells whether it is above the limit
abbrev pub kept_of : ℕ → List ℕ → List ℕ
kept_of limit line = take (limit + 1) line

-- the waiting bytes to the first LF went to the line begun
abbrev pub after_cut : ReaderState → ReaderState
after_cut s = record s {
  line = kept_of s.limit (s.line ++ take (front_len s.waiting) s.waiting);
  waiting = drop (front_len s.waiting + 1) s.waiting;
}

-- what an answer of a round gives, if it is one
abbrev pub given_in : {E : Type 0} → Result (Option Next) E → List ℕ → List (Option (List ℕ))
given_in (Ok next) line = given_as next line
given_in (Err e) line = []

-- it tells of a line
abbrev pub IsLine : Next → Type 0
IsLine Line = ⊤
IsLine TooLong = ⊤
IsLine End = ⊥
IsLine TooMuch = ⊥

-- it tells of a line, or of the end where the source gave it
abbrev pub IsAnswer : Next → Bool → Type 0
IsAnswer Line is_ended = ⊤
IsAnswer TooLong is_ended = ⊤
IsAnswer End is_ended = is_ended ≡ true
IsAnswer TooMuch is_ended = ⊥
