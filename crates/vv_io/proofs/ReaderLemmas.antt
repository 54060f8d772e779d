-- What a reader of lines gives round by round: for its loops.
use Rattle.std.proofs.Common.{◌≡◌, ℕ, ◌+◌, ◌<◌, ◌≤◌, ◌++◌, List, [], Bool, true, false, cond, refl, sym, ap, ◌∙◌, length, take, drop, arith, append-nil}
use Rattle.std.specs.Prelude.{Option, nat_lt}
use Rattle.std.proofs.lemmas.List.{drop_all, take_all}
use Rattle.std.proofs.lemmas.Bool.Decides.{nat_tests}
use Rattle.vv_io.specs.Lines.{given_for, lines_from}
use Rattle.vv_io.specs.Reading.{ReaderState, begun, lines_ahead, front_len, kept_of, after_cut, Gives}
use Rattle.vv_io.proofs.LineLemmas.{given_kept, given_none, cut_found, cut_none, lines_kept}

-- the same limit, line and bytes give the same lines
from_parts : (a b : ℕ) (l m w v rest : List ℕ) → a ≡ b → l ≡ m → w ≡ v → lines_from a l (w ++ rest) ≡ lines_from b m (v ++ rest)
from_parts a b l m w v rest same_limit same_line same_bytes =
    ap (λ k. lines_from k l (w ++ rest)) same_limit ∙ ap (λ (line : List ℕ). lines_from b line (w ++ rest)) same_line
    ∙ ap (λ (bytes : List ℕ). lines_from b m (bytes ++ rest)) same_bytes

begun_ungiven : (s : ReaderState) → s.is_given ≡ false → begun s ≡ s.line
begun_ungiven s ungiven = ap (λ (b : Bool). cond b [] s.line) ungiven

-- The lines that a reader had since the last line that was given.
pub record Rounds (old now : ReaderState) : Type 0 where
  pub lines : (rest : List ℕ) → (now.is_ended ≡ true → rest ≡ []) → lines_ahead old rest ≡ lines_ahead now rest
  pub ungiven : now.is_given ≡ false
  pub limit : now.limit ≡ old.limit
  pub taken : now.taken ≡ old.taken
  pub ended : now.is_ended ≡ old.is_ended

pub rounds_none : (old : ReaderState) → old.is_given ≡ false → Rounds old old
rounds_none old ungiven = record { lines = λ rest end. refl; ungiven = ungiven; limit = refl; taken = refl; ended = refl }

-- A line that ends by LF is looked at.
passes_line : (now mid new : ReaderState) (given : List (Option (List ℕ))) (rest : List ℕ) → now.is_given ≡ false → mid ≡ after_cut now
    → front_len now.waiting < length now.waiting → given_for mid.limit mid.line ≡ given → begun new ≡ [] → new.limit ≡ mid.limit → new.waiting ≡ mid.waiting
    → lines_ahead now rest ≡ given ++ lines_ahead new rest
passes_line now mid new given rest ungiven cut found gives begins same_limit same_waiting =
    let n : ℕ = front_len now.waiting in
    let back : List ℕ = drop (n + 1) now.waiting in
    let whole : List ℕ = now.line ++ take n now.waiting in
    let front_is : given_for now.limit whole ≡ given =
    sym (given_kept now.limit whole) ∙ ap (λ (s : ReaderState). given_for s.limit s.line) (sym cut) ∙ gives in
    let limit_is : now.limit ≡ new.limit = ap (λ (s : ReaderState). s.limit) (sym cut) ∙ sym same_limit in
    let waiting_is : back ≡ new.waiting = ap (λ (s : ReaderState). s.waiting) (sym cut) ∙ sym same_waiting in
    ap (λ (line : List ℕ). lines_from now.limit line (now.waiting ++ rest)) (begun_ungiven now ungiven)
    ∙ cut_found now.limit now.line now.waiting rest found
    ∙ ap (λ (front : List (Option (List ℕ))). front ++ lines_from now.limit [] (back ++ rest)) front_is
    ∙ ap (λ (lines : List (Option (List ℕ))). given ++ lines) (from_parts now.limit new.limit [] (begun new) back new.waiting rest limit_is (sym begins) waiting_is)

-- Without an LF all waiting bytes go to the line begun.
passes_all : (now new : ReaderState) (rest : List ℕ) → now.is_given ≡ false → new ≡ after_cut now
    → front_len now.waiting ≡ length now.waiting → lines_ahead now rest ≡ lines_ahead new rest
passes_all now new rest ungiven cut none =
    let n : ℕ = front_len now.waiting in
    let whole_is : take n now.waiting ≡ now.waiting = take_all n now.waiting (omega arith) in
    let none_left : [] ≡ drop (n + 1) now.waiting = sym (drop_all (n + 1) now.waiting (omega arith)) in
    ap (λ (line : List ℕ). lines_from now.limit line (now.waiting ++ rest)) (begun_ungiven now ungiven)
    ∙ cut_none now.limit now.line now.waiting rest none
    ∙ sym (lines_kept now.limit (now.line ++ now.waiting) rest)
    ∙ ap (λ (more : List ℕ). lines_from now.limit (kept_of now.limit (now.line ++ more)) rest) (sym whole_is)
    ∙ from_parts now.limit now.limit (kept_of now.limit (now.line ++ take n now.waiting)) (begun (after_cut now)) [] (drop (n + 1) now.waiting) rest
    refl (sym (begun_ungiven (after_cut now) ungiven)) none_left
    ∙ ap (λ (s : ReaderState). lines_ahead s rest) (sym cut)

-- A line ended: what the reader is then.
pub record Ended (mid new : ReaderState) (given : List (Option (List ℕ))) : Type 0 where
  pub gives : given_for mid.limit mid.line ≡ given
  pub begins : begun new ≡ []
  pub limit : new.limit ≡ mid.limit
  pub waiting : new.waiting ≡ mid.waiting
  pub taken : new.taken ≡ mid.taken
  pub ended : new.is_ended ≡ mid.is_ended

pub is_found : (n m : ℕ) (b : Bool) → b ≡ nat_lt n m → b ≡ true → n < m
is_found n m b is yes_found = grind (arith, nat_tests)

pub is_none : (n m : ℕ) (b : Bool) → b ≡ nat_lt n m → b ≡ false → n ≤ m → n ≡ m
is_none n m b is no_found bound = let least : m ≤ n = grind (arith, nat_tests) in omega arith

pub round_gives : (old now mid new : ReaderState) (given : List (Option (List ℕ))) → Rounds old now → mid ≡ after_cut now
    → front_len now.waiting < length now.waiting → Ended mid new given → Gives old [] given new
round_gives old now mid new given before cut found ended rest end =
    before.lines rest (λ is. end (ended.ended ∙ ap (λ (s : ReaderState). s.is_ended) cut ∙ is))
    ∙ passes_line now mid new given rest before.ungiven cut found ended.gives ended.begins ended.limit ended.waiting

pub round_goes_on : (old now mid new : ReaderState) → Rounds old now → mid ≡ after_cut now
    → front_len now.waiting < length now.waiting → Ended mid new [] → new.is_given ≡ false → Rounds old new
round_goes_on old now mid new before cut found ended ungiven = record {
  lines = λ rest end. round_gives old now mid new [] before cut found ended rest end;
  ungiven = ungiven;
  limit = ended.limit ∙ ap (λ (s : ReaderState). s.limit) cut ∙ before.limit;
  taken = ended.taken ∙ ap (λ (s : ReaderState). s.taken) cut ∙ before.taken;
  ended = ended.ended ∙ ap (λ (s : ReaderState). s.is_ended) cut ∙ before.ended;
}

pub round_ends : (old now new : ReaderState) → Rounds old now → new ≡ after_cut now → front_len now.waiting ≡ length now.waiting → Rounds old new
round_ends old now new before cut none = record {
  lines = λ rest end.
      before.lines rest (λ is. end (ap (λ (s : ReaderState). s.is_ended) cut ∙ is)) ∙ passes_all now new rest before.ungiven cut none;
  ungiven = ap (λ (s : ReaderState). s.is_given) cut ∙ before.ungiven;
  limit = ap (λ (s : ReaderState). s.limit) cut ∙ before.limit;
  taken = ap (λ (s : ReaderState). s.taken) cut ∙ before.taken;
  ended = ap (λ (s : ReaderState). s.is_ended) cut ∙ before.ended;
}

pub none_waits : (now new : ReaderState) → new ≡ after_cut now → front_len now.waiting ≡ length now.waiting → new.waiting ≡ []
none_waits now new cut none = ap (λ (s : ReaderState). s.waiting) cut ∙ drop_all (front_len now.waiting + 1) now.waiting (omega arith)

-- The last line, behind which nothing comes.
pub last_gives : (old new : ReaderState) (given : List (Option (List ℕ))) → old.waiting ≡ [] → old.is_ended ≡ true → old.is_given ≡ false
    → Ended old new given → (none : given_for new.limit [] ≡ []) → Gives old [] given new
last_gives old new given waits at_end ungiven ended none rest end =
    let nothing : rest ≡ [] = end (ended.ended ∙ at_end) in
    let empty : old.waiting ++ rest ≡ [] = ap (λ (w : List ℕ). w ++ rest) waits ∙ nothing in
    let still : new.waiting ++ rest ≡ [] = ap (λ (w : List ℕ). w ++ rest) (ended.waiting ∙ waits) ∙ nothing in
    let behind : lines_ahead new rest ≡ [] =
    ap (λ (w : List ℕ). lines_from new.limit (begun new) w) still ∙ ap (given_for new.limit) ended.begins ∙ none in
    ap (λ (w : List ℕ). lines_from old.limit (begun old) w) empty ∙ ap (given_for old.limit) (begun_ungiven old ungiven) ∙ ended.gives
    ∙ sym (append-nil given) ∙ ap (λ (lines : List (Option (List ℕ))). given ++ lines) (sym behind)

-- With no line begun and no byte waiting no line is left.
pub nothing_ahead : (s : ReaderState) → begun s ≡ [] → s.waiting ≡ [] → lines_ahead s [] ≡ []
nothing_ahead s begins waits =
    ap (λ (w : List ℕ). lines_from s.limit (begun s) (w ++ [])) waits ∙ ap (given_for s.limit) begins ∙ given_none s.limit
