-- What was read of a script, call by call: for the loop that serves it.
use Rattle.std.proofs.Common.{◌≡◌, ℕ, ◌+◌, ◌-◌, ◌<◌, ◌≤◌, ◌++◌, List, [], ◌∷◌, Bool, true, false, cond, refl, sym, ap, ◌∙◌, subst, length, take, drop, arith, append_assoc, append-nil, length-append, Some, None, Result, Ok, Err}
use Rattle.std.specs.Prelude.{Option, IfSome, IsErr, nat_lt}
use Rattle.std.specs.Io.KnownBytes.{Consumes, IsAtEnd}
use Rattle.std.proofs.lemmas.List.{take_all, take_at, drop_at}
use Rattle.std.proofs.lemmas.Bool.Decides.{nat_tests}
use Rattle.vv_calls.specs.Lines.{line_limit}
use Rattle.vv_io.specs.Streams.{ConsumesOrForgets}
use Rattle.vv_io.specs.Lines.{lines_from, lines_in, ended_in}
use Rattle.vv_io.specs.Reading.{ReaderState, begun, lines_ahead, new_reader, given_by, Took, OnePast, script_limit}
use Rattle.vv_io.specs.declared.line_answer.Next.{Next}
use Rattle.vv_io.specs.declared.line_answer.Next.TheVariants.{Line, TooLong, End, TooMuch}
use Rattle.vv_io.proofs.LineLemmas.{take-append}
use Rattle.vv_io.proofs.TakingLemmas.{consumes_nothing, consumes_more, consumes_then_stops}
use Rattle.vv_io.proofs.EndedLemmas.{all_ended, leads_ended, lines_grow}
use Rattle.vv_run.specs.Lines.{lines_of, ended_lines_of, lines_answered}
use Rattle.vv_run.specs.Reading.{Gave, WentPast, GaveNone, NextIs}

-- What a reader of lines promises of its next answer, put together for each answer.

empty_by_count : (bytes : List ℕ) (a b : ℕ) → b ≡ a + length bytes → b ≡ a → bytes ≡ []
empty_by_count [] a b counted same = refl
empty_by_count (c ∷ bytes) a b counted same = absurd (omega arith)

not_past : (limit n : ℕ) → (limit < n → ⊥) → n ≤ limit
not_past limit n not_over = omega arith

not_true : (b : Bool) → (b ≡ true → ⊥) → b ≡ false
not_true true never = absurd (never refl)
not_true false never = refl

gave : {E : Type 0} (next : Next) (old new : ReaderState) (given : List (Option (List ℕ))) (before after : Option (List ℕ))
    → (took : Took {T = Next} {E = E} old new (Ok next) given before after)
    → (new.is_ended ≡ true → old.is_ended ≡ false → IsAtEnd after)
    → (old.is_ended ≡ true → (after ≡ before) × (new.is_ended ≡ true) × (new.taken ≡ old.taken))
    → new.taken ≤ script_limit → Gave old new given before after
gave next old new given before after took at_end behind within = record {
  bytes = took.bytes;
  consumed = took.consumed;
  counted = took.counted;
  lines = took.lines;
  within = within;
  at_end = at_end;
  behind_end = λ is. (empty_by_count took.bytes old.taken new.taken took.counted (behind is).2, (behind is).0, (behind is).1);
}

pub next_is : {E : Type 0} (result : Result Next E) (old new : ReaderState) (before after : Option (List ℕ))
    → Took old new result (given_by result new.line) before after
    → (result ≡ Ok End → (new.is_ended ≡ true) × (lines_ahead new [] ≡ []))
    → (new.is_ended ≡ true → old.is_ended ≡ false → IsAtEnd after)
    → (old.is_ended ≡ true → (after ≡ before) × (new.is_ended ≡ true) × (new.taken ≡ old.taken))
    → (result ≡ Ok TooMuch → (new.taken ≡ script_limit + 1) × (length new.waiting ≡ 1) × (new.is_ended ≡ false))
    → (script_limit < new.taken → result ≡ Ok TooMuch)
    → (result ≡ Ok TooMuch → old.taken ≤ script_limit → OnePast old new before after)
    → (IsErr result → (new.waiting ≡ []) × (new.is_ended ≡ false))
    → old.taken ≤ script_limit → NextIs result old new before after
next_is (Ok Line) old new before after took end at_end behind too_much past one_past failed within =
    gave Line old new (Some new.line ∷ []) before after took at_end behind (not_past script_limit new.taken (λ over. let is = past over in cc))
next_is (Ok TooLong) old new before after took end at_end behind too_much past one_past failed within =
    gave TooLong old new (None ∷ []) before after took at_end behind (not_past script_limit new.taken (λ over. let is = past over in cc))
next_is (Ok End) old new before after took end at_end behind too_much past one_past failed within = record {
  gave = gave End old new [] before after took at_end behind (not_past script_limit new.taken (λ over. let is = past over in cc));
  ended = (end refl).0;
  none_left = (end refl).1;
}
next_is (Ok TooMuch) old new before after took end at_end behind too_much past one_past failed within = record {
  past = one_past refl within;
  one = (too_much refl).1;
  before_end = not_true old.is_ended (λ is. let ended = (behind is).1 in let not_ended = (too_much refl).2 in cc);
}
next_is (Err e) old new before after took end at_end behind too_much past one_past failed within = record {
  bytes = took.bytes;
  consumed = took.consumed;
  counted = took.counted;
  lines = took.lines;
  within = not_past script_limit new.taken (λ over. let is = past over in cc);
  all_seen = (failed refl).0;
  before_end = (failed refl).1;
  was_before_end = not_true old.is_ended (λ is. let ended = (behind is).1 in let not_ended = (failed refl).1 in cc);
}

-- A script that nothing was read of.
pub gave_nothing : (left : Option (List ℕ)) → Gave (new_reader line_limit) (new_reader line_limit) [] left left
gave_nothing left = record {
  bytes = [];
  consumed = consumes_nothing left;
  counted = omega arith;
  lines = λ rest end. refl;
  within = omega arith;
  at_end = λ ended. absurd (cc);
  behind_end = λ ended. absurd (cc);
}

end_goes_on : (b : Bool) (mid after : Option (List ℕ)) → (b ≡ true → IsAtEnd mid) → (b ≡ true → after ≡ mid) → (b ≡ false → IsAtEnd after) → IsAtEnd after
end_goes_on true mid after was same now = subst IsAtEnd (sym (same refl)) (was refl)
end_goes_on false mid after was same now = now refl

-- One call behind others.
pub gave_more : (old mid new : ReaderState) (first second : List (Option (List ℕ))) (left between now : Option (List ℕ))
    → Gave old mid first left between → Gave mid new second between now → Gave old new (first ++ second) left now
gave_more old mid new first second left between now so_far more = record {
  bytes = so_far.bytes ++ more.bytes;
  consumed = consumes_more left between now so_far.bytes more.bytes so_far.consumed more.consumed;
  counted = omega (arith, so_far.counted, more.counted, length-append so_far.bytes more.bytes);
  lines = λ rest end.
      ap (lines_ahead old) (append_assoc so_far.bytes more.bytes rest)
      ∙ so_far.lines (more.bytes ++ rest) (λ is. ap (λ (bytes : List ℕ). bytes ++ rest) (more.behind_end is).0 ∙ end (more.behind_end is).2)
      ∙ ap (λ (lines : List (Option (List ℕ))). first ++ lines) (more.lines rest end)
      ∙ sym (append_assoc first second (lines_ahead new rest));
  within = more.within;
  at_end = λ ended before.
      end_goes_on mid.is_ended between now (λ was. so_far.at_end was before) (λ was. (more.behind_end was).1) (λ was. more.at_end ended was);
  behind_end = λ is.
      let one = so_far.behind_end is in
      let two = more.behind_end one.2 in
      (ap (λ (bytes : List ℕ). bytes ++ more.bytes) one.0 ∙ two.0, two.1 ∙ one.1, two.2);
}

-- the same of a line that is equal
pub gave_as : (old new : ReaderState) (line other : List ℕ) (before after : Option (List ℕ)) → Gave old new (Some line ∷ []) before after → other ≡ line
    → Gave old new (Some other ∷ []) before after
gave_as old new line other before after more same =
    let P : List ℕ → Type 0 = λ l. Gave old new (Some l ∷ []) before after in
    subst P (sym same) more

-- how many lines may still be given, at most
abbrev pub lines_left : ReaderState → ℕ
lines_left reader = length (lines_ahead reader []) + (script_limit + 1 - reader.taken)

pub fewer_left : (old new : ReaderState) (line : Option (List ℕ)) (before after : Option (List ℕ)) → Gave old new (line ∷ []) before after
    → lines_left new < lines_left old
fewer_left old new line before after more =
    let given : length (lines_ahead old (more.bytes ++ [])) ≡ 1 + length (lines_ahead new []) = ap length (more.lines [] (λ ended. refl)) ∙ omega arith in
    let grown : length (lines_ahead old (more.bytes ++ [])) ≤ length (lines_from old.limit (begun old) old.waiting) + length (more.bytes ++ []) =
    lines_grow old.limit (begun old) old.waiting (more.bytes ++ []) in
    let was : length (lines_ahead old []) ≡ length (lines_from old.limit (begun old) old.waiting) =
    ap (λ (w : List ℕ). length (lines_from old.limit (begun old) w)) (append-nil old.waiting) in
    let bytes : length (more.bytes ++ []) ≡ length more.bytes = ap length (append-nil more.bytes) in
    omega (arith, more.counted, more.within)

-- The source gave its end: all its lines were given, and it told no more than the most of a script.
pub told_all : (new : ReaderState) (given : List (Option (List ℕ))) (left now : Option (List ℕ)) → Gave (new_reader line_limit) new given left now
    → new.is_ended ≡ true → lines_ahead new [] ≡ [] → IfSome left (λ told. (given ≡ lines_of told) × (length told ≤ script_limit))
told_all new given None now all ended none_left = tt
told_all new given (Some told) None all ended none_left = absurd all.consumed
told_all new given (Some told) (Some rest) all ended none_left =
    let told_is : told ≡ all.bytes ++ [] = all.consumed ∙ ap (λ (back : List ℕ). all.bytes ++ back) (all.at_end ended refl) in (
      sym (ap (lines_in line_limit) told_is ∙ all.lines [] (λ is. refl) ∙ ap (λ (lines : List (Option (List ℕ))). given ++ lines) none_left ∙ append-nil given),
      omega (arith, ap length told_is, length-append all.bytes [], all.counted, all.within),
    )

-- The source failed: the lines that end in the bytes taken were given.
pub record Front (given : List (Option (List ℕ))) (left now : Option (List ℕ)) : Type 0 where
  pub front : List ℕ
  pub within : length front ≤ script_limit
  pub consumed : ConsumesOrForgets left now front
  pub lines : given ≡ ended_lines_of front

pub front_given : (mid new : ReaderState) (given : List (Option (List ℕ))) (left between now : Option (List ℕ))
    → Gave (new_reader line_limit) mid given left between → GaveNone mid new between now → Front given left now
front_given mid new given left between now so_far more = record {
  front = so_far.bytes ++ more.bytes;
  within = omega (arith, so_far.counted, more.counted, more.within, length-append so_far.bytes more.bytes);
  consumed = consumes_then_stops left between now so_far.bytes more.bytes so_far.consumed more.consumed;
  lines = all_ended line_limit new.limit [] (so_far.bytes ++ more.bytes) (begun new) given (λ rest.
      ap (lines_in line_limit) (append_assoc so_far.bytes more.bytes rest)
      ∙ so_far.lines (more.bytes ++ rest) (λ is. absurd (let was = more.was_before_end in cc))
      ∙ ap (λ (lines : List (Option (List ℕ))). given ++ lines)
      (more.lines rest (λ is. absurd (let was = more.before_end in cc)) ∙ ap (λ (w : List ℕ). lines_from new.limit (begun new) (w ++ rest)) more.all_seen));
}

one_past : (given : List (Option (List ℕ))) (told front waiting : List ℕ) (now : Option (List ℕ)) → given ≡ ended_in line_limit front
    → length front ≡ script_limit → length waiting ≡ 1 → Consumes (Some told) now (front ++ waiting)
    → (given ≡ ended_lines_of (take script_limit told)) × (script_limit < length told) × (now ≡ Some (drop (script_limit + 1) told))
one_past given told front waiting None lines full one consumed = absurd consumed
one_past given told front waiting (Some rest) lines full one consumed =
    let count : length (front ++ waiting) ≡ script_limit + 1 = omega (arith, length-append front waiting) in
    let front_is : take script_limit told ≡ front =
    ap (take script_limit) (consumed ∙ append_assoc front waiting rest) ∙ take_at front (waiting ++ rest) script_limit full in (
      lines ∙ ap (ended_in line_limit) (sym front_is),
      omega (arith, ap length consumed, length-append (front ++ waiting) rest),
      ap Some (sym (ap (drop (script_limit + 1)) consumed ∙ drop_at (front ++ waiting) rest (script_limit + 1) count)),
    )

-- A byte past the most of a script was taken: the lines that end before it were given.
pub told_past : (mid new : ReaderState) (given : List (Option (List ℕ))) (left between now : Option (List ℕ))
    → Gave (new_reader line_limit) mid given left between → WentPast mid new between now
    → IfSome left (λ told. (given ≡ ended_lines_of (take script_limit told)) × (script_limit < length told) × (now ≡ Some (drop (script_limit + 1) told)))
told_past mid new given None between now so_far more = tt
told_past mid new given (Some told) between now so_far more =
    one_past given told (so_far.bytes ++ more.past.front) new.waiting now
    (all_ended line_limit new.limit [] (so_far.bytes ++ more.past.front) (begun new) given (λ rest.
    ap (lines_in line_limit) (append_assoc so_far.bytes more.past.front rest)
    ∙ so_far.lines (more.past.front ++ rest) (λ is. absurd (let was = more.before_end in cc))
    ∙ ap (λ (lines : List (Option (List ℕ))). given ++ lines) (more.past.lines rest)))
    (omega (arith, so_far.counted, more.past.counted, length-append so_far.bytes more.past.front))
    more.one
    (let P : List ℕ → Type 0 = λ bytes. Consumes (Some told) now bytes in
    subst P (sym (append_assoc so_far.bytes more.past.front new.waiting))
    (consumes_more (Some told) between now so_far.bytes (more.past.front ++ new.waiting) so_far.consumed more.past.consumed))

lead_by : (new : ReaderState) (given : List (Option (List ℕ))) (told rest : List ℕ) → (all : Gave (new_reader line_limit) new given (Some told) (Some rest))
    → (b : Bool) → nat_lt script_limit (length told) ≡ b
    → (unserved : List (Option (List ℕ))) × (cond b (ended_lines_of (take script_limit told)) (lines_of told) ≡ given ++ unserved)
lead_by new given told rest all false within =
    (lines_ahead new rest, ap (lines_in line_limit) all.consumed ∙ all.lines rest (λ ended. all.at_end ended refl))
lead_by new given told rest all true over =
    let past : script_limit < length told = grind (arith, nat_tests) in
    let less : length all.bytes ≤ script_limit = omega (arith, all.counted, all.within) in
    let more : List ℕ = take (script_limit - length all.bytes) rest in
    let front_is : take script_limit told ≡ all.bytes ++ more =
    ap (take script_limit) all.consumed ∙ take-append script_limit all.bytes rest ∙ ap (λ (front : List ℕ). front ++ more) (take_all script_limit all.bytes less) in
    let leads = leads_ended line_limit new.limit [] all.bytes (begun new) new.waiting given
    (λ behind. all.lines behind (λ ended.
    let none : rest ≡ [] = all.at_end ended refl in
    absurd (omega (arith, ap length all.consumed, length-append all.bytes rest, ap length none)))) more in
    (leads.0, ap (ended_in line_limit) front_is ∙ leads.1)

-- What was given leads the lines that are answered where nothing fails.
pub lead_of : (new : ReaderState) (given : List (Option (List ℕ))) (left now : Option (List ℕ)) → Gave (new_reader line_limit) new given left now
    → IfSome left (λ told. (unserved : List (Option (List ℕ))) × (lines_answered told ≡ given ++ unserved))
lead_of new given None now all = tt
lead_of new given (Some told) None all = absurd all.consumed
lead_of new given (Some told) (Some rest) all = lead_by new given told rest all (nat_lt script_limit (length told)) refl
