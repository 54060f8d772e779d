-- What a reader of lines took and gave, call by call: for the loop of its `next`.
use Rattle.std.proofs.Common.{◌≡◌, ℕ, ◌+◌, ◌-◌, ◌<◌, ◌≤◌, ◌++◌, List, [], Bool, true, false, cond, refl, sym, ap, ◌∙◌, length, arith, append_assoc, length-append, subst, Some, None, Ok, Err, inl, inr}
use Rattle.std.specs.Prelude.{Option, ◌⊎◌}
use Rattle.std.specs.Io.KnownBytes.{Consumes}
use Rattle.vv_io.specs.Streams.{ConsumesOrForgets}
use Rattle.vv_io.specs.Reading.{ReaderState, begun, lines_ahead, given_as, Gives, Took, OnePast, script_limit}
use Rattle.vv_io.specs.declared.line_answer.Next.{Next}

pub consumes_nothing : (old : Option (List ℕ)) → Consumes old old []
consumes_nothing None = tt
consumes_nothing (Some xs) = refl

pub consumes_more : (a b c : Option (List ℕ)) (xs ys : List ℕ) → Consumes a b xs → Consumes b c ys → Consumes a c (xs ++ ys)
consumes_more None b c xs ys first second = tt
consumes_more (Some us) None c xs ys first second = absurd first
consumes_more (Some us) (Some vs) None xs ys first second = absurd second
consumes_more (Some us) (Some vs) (Some ws) xs ys first second =
    first ∙ ap (λ (back : List ℕ). xs ++ back) second ∙ sym (append_assoc xs ys ws)

pub consumes_then_stops : (a b c : Option (List ℕ)) (xs ys : List ℕ) → Consumes a b xs → ConsumesOrForgets b c ys → ConsumesOrForgets a c (xs ++ ys)
consumes_then_stops None b c xs ys first second = tt
consumes_then_stops (Some us) None c xs ys first second = absurd first
consumes_then_stops (Some us) (Some vs) None xs ys first second =
    (second.0, first ∙ ap (λ (back : List ℕ). xs ++ back) second.1 ∙ sym (append_assoc xs ys second.0))
consumes_then_stops (Some us) (Some vs) (Some ws) xs ys first second =
    first ∙ ap (λ (back : List ℕ). xs ++ back) second ∙ sym (append_assoc xs ys ws)

-- what was taken since a call began, with no line given
pub record Progress (old now : ReaderState) (before after : Option (List ℕ)) : Type 0 where
  pub bytes : List ℕ
  pub consumed : Consumes before after bytes
  pub counted : now.taken ≡ old.taken + length bytes
  pub lines : Gives old bytes [] now
  pub same_limit : now.limit ≡ old.limit

pub progress_none : (old now : ReaderState) (left : Option (List ℕ)) → now ≡ record old { line = begun old; is_given = false } → Progress old now left left
progress_none old now left is = record {
  bytes = [];
  consumed = consumes_nothing left;
  counted = ap (λ (s : ReaderState). s.taken) is ∙ omega arith;
  lines = λ rest end. ap (λ (s : ReaderState). lines_ahead s rest) (sym is);
  same_limit = ap (λ (s : ReaderState). s.limit) is;
}

-- Nothing comes behind the end.
abbrev pub EndStays : ReaderState → List ℕ → ReaderState → Type 0
EndStays now bytes new = now.is_ended ≡ true → (bytes ≡ []) × (new.is_ended ≡ true)

joined_lines : (old now new : ReaderState) (first second : List ℕ) (given : List (Option (List ℕ))) → Gives old first [] now → Gives now second given new
    → EndStays now second new → Gives old (first ++ second) given new
joined_lines old now new first second given before more stays rest end =
    ap (lines_ahead old) (append_assoc first second rest)
    ∙ before (second ++ rest) (λ is. ap (λ (bytes : List ℕ). bytes ++ rest) (stays is).0 ∙ end (stays is).1)
    ∙ more rest end

joined_count : (a b c : ℕ) (first second : List ℕ) → b ≡ a + length first → c ≡ b + length second → c ≡ a + length (first ++ second)
joined_count a b c first second one two = omega (arith, length-append first second)

pub progress_more : {T E : Type 0} (old now new : ReaderState) (t : T) (before mid after : Option (List ℕ)) → Progress old now before mid
    → (more : Took {T = T} {E = E} now new (Ok t) [] mid after) → EndStays now more.bytes new → Progress old new before after
progress_more old now new t before mid after so_far more stays = record {
  bytes = so_far.bytes ++ more.bytes;
  consumed = consumes_more before mid after so_far.bytes more.bytes so_far.consumed more.consumed;
  counted = joined_count old.taken now.taken new.taken so_far.bytes more.bytes so_far.counted more.counted;
  lines = joined_lines old now new so_far.bytes more.bytes [] so_far.lines more.lines stays;
  same_limit = more.same_limit ∙ so_far.same_limit;
}

pub took_more : {T U E : Type 0} (old now new : ReaderState) (t : T) (u : U) (given : List (Option (List ℕ))) (before mid after : Option (List ℕ))
    → Progress old now before mid → (more : Took {T = T} {E = E} now new (Ok t) given mid after) → EndStays now more.bytes new
    → Took {T = U} {E = E} old new (Ok u) given before after
took_more old now new t u given before mid after so_far more stays = record {
  bytes = so_far.bytes ++ more.bytes;
  consumed = consumes_more before mid after so_far.bytes more.bytes so_far.consumed more.consumed;
  counted = joined_count old.taken now.taken new.taken so_far.bytes more.bytes so_far.counted more.counted;
  lines = joined_lines old now new so_far.bytes more.bytes given so_far.lines more.lines stays;
  same_limit = more.same_limit ∙ so_far.same_limit;
}

pub took_stopped : {T U E : Type 0} (old now new : ReaderState) (e f : E) (before mid after : Option (List ℕ))
    → Progress old now before mid → (more : Took {T = T} {E = E} now new (Err e) [] mid after) → EndStays now more.bytes new
    → Took {T = U} {E = E} old new (Err f) [] before after
took_stopped old now new e f before mid after so_far more stays = record {
  bytes = so_far.bytes ++ more.bytes;
  consumed = consumes_then_stops before mid after so_far.bytes more.bytes so_far.consumed more.consumed;
  counted = joined_count old.taken now.taken new.taken so_far.bytes more.bytes so_far.counted more.counted;
  lines = joined_lines old now new so_far.bytes more.bytes [] so_far.lines more.lines stays;
  same_limit = more.same_limit ∙ so_far.same_limit;
}

pub took_so_far : {U E : Type 0} (old now : ReaderState) (u : U) (before after : Option (List ℕ)) → Progress old now before after
    → Took {T = U} {E = E} old now (Ok u) [] before after
took_so_far old now u before after so_far = record {
  bytes = so_far.bytes;
  consumed = so_far.consumed;
  counted = so_far.counted;
  lines = so_far.lines;
  same_limit = so_far.same_limit;
}

-- Nothing was taken in a round that gave lines.
pub took_none : {T E : Type 0} (old mid new : ReaderState) (t : T) (given : List (Option (List ℕ))) (left : Option (List ℕ))
    → Gives old [] [] mid → Gives mid [] given new → new.is_ended ≡ mid.is_ended → new.taken ≡ old.taken → new.limit ≡ old.limit
    → Took {T = T} {E = E} old new (Ok t) given left left
took_none old mid new t given left first second ended taken limit = record {
  bytes = [];
  consumed = consumes_nothing left;
  counted = taken ∙ omega arith;
  lines = λ rest end. first rest (λ is. end (ended ∙ is)) ∙ second rest end;
  same_limit = limit;
}

-- a round leaves less to read
pub less_left : (before after : ℕ) (ended : Bool) → before ≤ after → before ≤ script_limit → (ended ≡ true) ⊎ (before < after)
    → (script_limit + 1 - after) + cond ended 0 1 < (script_limit + 1 - before) + 1
less_left before after true later within less = omega arith
less_left before after false later within (inl is) = absurd (cc)
less_left before after false later within (inr more) = omega arith

-- a round that gave no line
pub progress_round : {E : Type 0} (old now new : ReaderState) (next : Option Next) (before mid after : Option (List ℕ)) → Progress old now before mid
    → Took {T = Option Next} {E = E} now new (Ok next) (given_as next new.line) mid after → next ≡ None → now.is_ended ≡ false → Progress old new before after
progress_round old now new None before mid after so_far more is before_end =
    progress_more old now new None before mid after so_far more (λ at_end. absurd (cc))
progress_round old now new (Some answer) before mid after so_far more is before_end = absurd (cc)

-- one past the most of a script was taken, behind what was taken since the call began
pub progress_past : (old now new : ReaderState) (before mid after : Option (List ℕ)) → Progress old now before mid → now.is_ended ≡ false
    → OnePast now new mid after → OnePast old new before after
progress_past old now new before mid after so_far before_end more = record {
  front = so_far.bytes ++ more.front;
  counted = omega (arith, so_far.counted, more.counted, length-append so_far.bytes more.front);
  consumed =
      let P : List ℕ → Type 0 = λ bytes. Consumes before after bytes in
      subst P (sym (append_assoc so_far.bytes more.front new.waiting))
      (consumes_more before mid after so_far.bytes (more.front ++ new.waiting) so_far.consumed more.consumed);
  lines = λ rest. ap (lines_ahead old) (append_assoc so_far.bytes more.front rest)
      ∙ so_far.lines (more.front ++ rest) (λ ended. absurd (cc))
      ∙ more.lines rest;
}
