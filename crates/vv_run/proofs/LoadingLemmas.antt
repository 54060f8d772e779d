-- Runs behind one another, with what is counted of their reports: for the loop that serves a generated script.
use Rattle.std.proofs.Common.{◌≡◌, inl, inr, ℕ, zero, suc, ◌+◌, ◌-◌, ◌^◌, ◌<◌, ◌≤◌, ◌++◌, List, [], ◌∷◌, Bool, true, false, not, length, take, drop, refl, sym, ap, ◌∙◌, subst, arith, append_assoc, append-nil, length-drop, true≢false, Some, None}
use Rattle.std.specs.Prelude.{Option, ◌==◌, nat_lt, min}
use Rattle.std.proofs.lemmas.List.{take_all}
use Rattle.std.proofs.lemmas.Bool.{cond-true, cond-false}
use Rattle.std.proofs.lemmas.Bool.Decides.{nat_tests}
use Rattle.vv_disk.specs.Images.{EachImage, LeavesOnly}
use Rattle.vv_disk.proofs.Moments.{started, leaves_weaker, leaves_joined}
use Rattle.vv_flat.specs.Profiles.{Capability}
use Rattle.vv_calls.specs.Lines.{line_limit}
use Rattle.vv_io.specs.Lines.{given_for, has_more, lines_in}
use Rattle.vv_io.specs.Reading.{front_len}
use Rattle.vv_io.proofs.LineLemmas.{front_bound, cut_found, cut_none, given_none}
use Rattle.vv_meaning.specs.Steps.{State, Report}
use Rattle.vv_array.specs.Faults.{HasItsCause}
use Rattle.vv_array.specs.Moments.{StandsForOne, StandsBetween}
use Rattle.vv_run.specs.declared.tally.Tally.{Tally}
use Rattle.vv_run.specs.Bounds.{one_if, reads_told, writes_told, AreBounded}
use Rattle.vv_run.specs.Lines.{lines_of}
use Rattle.vv_run.specs.Loading.{says_ok, accepted_in, refused_in, last_of, last_text, summary_text, loaded_text}
use Rattle.vv_run.specs.Runs.{Reported}
use Rattle.vv_run.specs.Steps.{LineStep, Run, last_state, StandsForAny, StandsInRun}
use Rattle.vv_run.specs.Tallies.{none_counted, seen_last, Counts}
use Rattle.vv_run.proofs.BoundLemmas.{bounded_none, bounded_more}

-- ---- two runs behind one another

run_joined : (capabilities : List Capability) (old : State) (xs : List (Option (List ℕ))) (rs : List Report) (ss : List State) (ys : List (Option (List ℕ))) (qs : List Report) (ts : List State)
    → Run capabilities old xs rs ss → Run capabilities (last_state old ss) ys qs ts → Run capabilities old (xs ++ ys) (rs ++ qs) (ss ++ ts)
run_joined capabilities old [] [] [] ys qs ts run more = more
run_joined capabilities old [] [] (s ∷ ss) ys qs ts run more = absurd run
run_joined capabilities old [] (r ∷ rs) ss ys qs ts run more = absurd run
run_joined capabilities old (x ∷ xs) [] ss ys qs ts run more = absurd run
run_joined capabilities old (x ∷ xs) (r ∷ rs) [] ys qs ts run more = absurd run
run_joined capabilities old (x ∷ xs) (r ∷ rs) (s ∷ ss) ys qs ts run more = (run.0, run_joined capabilities s xs rs ss ys qs ts run.1 more)

last_joined : (old : State) (ss ts : List State) → last_state old (ss ++ ts) ≡ last_state (last_state old ss) ts
last_joined old [] ts = refl
last_joined old (s ∷ ss) ts = last_joined s ss ts

any_ahead : (states more : List State) (image : List ℕ) → StandsForAny states image → StandsForAny (states ++ more) image
any_ahead [] more image stands = absurd stands
any_ahead (s ∷ states) more image (inl here) = inl here
any_ahead (s ∷ states) more image (inr there) = inr (any_ahead states more image there)

any_behind : (states more : List State) (image : List ℕ) → StandsForAny more image → StandsForAny (states ++ more) image
any_behind [] more image stands = stands
any_behind (s ∷ states) more image stands = inr (any_behind states more image stands)

any_last : (old : State) (states : List State) (image : List ℕ) → StandsForOne (last_state old states) image → StandsInRun old states image
any_last old [] image stands = inl stands
any_last old (s ∷ states) image stands = inr (any_last s states image stands)

in_first : (old : State) (ss ts : List State) → EachImage (StandsInRun old (ss ++ ts)) (StandsInRun old ss)
in_first old ss ts image stands = any_ahead (old ∷ ss) ts image stands

in_second : (old : State) (ss ts : List State) → EachImage (StandsInRun old (ss ++ ts)) (StandsInRun (last_state old ss) ts)
in_second old ss ts image (inl here) = any_ahead (old ∷ ss) ts image (any_last old ss image here)
in_second old ss ts image (inr there) = any_behind (old ∷ ss) ts image there

reads_joined : (rs qs : List Report) → reads_told (rs ++ qs) ≡ reads_told rs + reads_told qs
reads_joined [] qs = omega arith
reads_joined (r ∷ rs) qs = let rest = reads_joined rs qs in omega (arith, rest)

writes_joined : (rs qs : List Report) → writes_told (rs ++ qs) ≡ writes_told rs + writes_told qs
writes_joined [] qs = omega arith
writes_joined (r ∷ rs) qs = let rest = writes_joined rs qs in omega (arith, rest)

bounded_joined : (r0 r1 r2 w0 w1 w2 : ℕ) (rs qs : List Report) → AreBounded r0 r1 w0 w1 rs → AreBounded r1 r2 w1 w2 qs → r1 ≤ r2 → w1 ≤ w2 → AreBounded r0 r2 w0 w2 (rs ++ qs)
bounded_joined r0 r1 r2 w0 w1 w2 rs qs first second reads_later writes_later = record {
  reads = λ below.
      let before : r1 < 2 ^ 64 - 1 = omega (arith, below, reads_later) in
      let till = first.reads before in
      let here = second.reads below in
      let both = reads_joined rs qs in
      omega (arith, till, here, both);
  writes = λ below.
      let before : w1 < 2 ^ 64 - 1 = omega (arith, below, writes_later) in
      let till = first.writes before in
      let here = second.writes below in
      let both = writes_joined rs qs in
      omega (arith, till, here, both);
}

-- ---- what is counted of reports

accepted_joined : (rs qs : List Report) → accepted_in (rs ++ qs) ≡ accepted_in rs + accepted_in qs
accepted_joined [] qs = omega arith
accepted_joined (r ∷ rs) qs = let rest = accepted_joined rs qs in omega (arith, rest)

refused_joined : (rs qs : List Report) → refused_in (rs ++ qs) ≡ refused_in rs + refused_in qs
refused_joined [] qs = omega arith
refused_joined (r ∷ rs) qs = let rest = refused_joined rs qs in omega (arith, rest)

last_of_joined : (before : Option Report) (rs qs : List Report) → last_of before (rs ++ qs) ≡ last_of (last_of before rs) qs
last_of_joined before [] qs = refl
last_of_joined before (r ∷ rs) qs = last_of_joined (Some r) rs qs

pub counts_joined : (old mid new : Tally) (rs qs : List Report) → Counts old mid rs → Counts mid new qs → Counts old new (rs ++ qs)
counts_joined old mid new rs qs first second = record {
  accepted = omega (arith, first.accepted, second.accepted, accepted_joined rs qs);
  refused = omega (arith, first.refused, second.refused, refused_joined rs qs);
  last = second.last ∙ ap (λ (before : Option Report). last_of before qs) first.last ∙ sym (last_of_joined (seen_last old.last) rs qs);
}

pub counts_none : (tally : Tally) → Counts tally tally []
counts_none tally = record { accepted = omega arith; refused = omega arith; last = refl }

one_of : (b : Bool) → one_if b + one_if (not b) ≡ 1
one_of true = refl
one_of false = refl

-- each report is counted once
all_counted : (reports : List Report) → accepted_in reports + refused_in reports ≡ length reports
all_counted [] = refl
all_counted (r ∷ reports) =
    let here = one_of (says_ok r.answer) in
    let rest = all_counted reports in
    omega (arith, here, rest)

-- what is written of a tally is what is written of the reports
pub tally_text : (tally : Tally) (reports : List Report) → Counts none_counted tally reports
    → last_text (seen_last tally.last) ++ summary_text (tally.accepted + tally.refused) tally.accepted tally.refused ≡ loaded_text reports
tally_text tally reports counts =
    let accepted : tally.accepted ≡ accepted_in reports = omega (arith, counts.accepted) in
    let refused : tally.refused ≡ refused_in reports = omega (arith, counts.refused) in
    let lines : tally.accepted + tally.refused ≡ length reports = omega (arith, accepted, refused, all_counted reports) in
    ap (λ (last : Option Report). last_text last ++ summary_text (tally.accepted + tally.refused) tally.accepted tally.refused) counts.last
    ∙ ap (λ (n : ℕ). last_text (last_of None reports) ++ summary_text n tally.accepted tally.refused) lines
    ∙ ap (λ (n : ℕ). last_text (last_of None reports) ++ summary_text (length reports) n tally.refused) accepted
    ∙ ap (λ (n : ℕ). last_text (last_of None reports) ++ summary_text (length reports) (accepted_in reports) n) refused

-- ---- the lines of a text

pub given_long : (limit : ℕ) (line : List ℕ) → limit < length line → given_for limit line ≡ None ∷ []
unfolding given_for
given_long limit line long = cond-true (nat_lt limit (length line)) _ _ (grind (arith, nat_tests))

pub given_short : (limit : ℕ) (line : List ℕ) → length line ≤ limit → has_more line ≡ true → given_for limit line ≡ Some line ∷ []
unfolding given_for
given_short limit line short more = cond-false (nat_lt limit (length line)) _ _ (grind (arith, nat_tests)) ∙ cond-true (has_more line) _ _ more

pub given_blank : (limit : ℕ) (line : List ℕ) → length line ≤ limit → has_more line ≡ false → given_for limit line ≡ []
unfolding given_for
given_blank limit line short blank = cond-false (nat_lt limit (length line)) _ _ (grind (arith, nat_tests)) ∙ cond-false (has_more line) _ _ blank

drop_one_more : (n : ℕ) (xs : List ℕ) → drop 1 (drop n xs) ≡ drop (n + 1) xs
drop_one_more zero [] = refl
drop_one_more zero (x ∷ xs) = refl
drop_one_more (suc n) [] = let more : suc n + 1 ≡ suc (suc n) = omega arith in ap (λ k. drop {A = ℕ} k []) (sym more)
drop_one_more (suc n) (x ∷ xs) = let more : suc n + 1 ≡ suc (n + 1) = omega arith in drop_one_more n xs ∙ ap (λ k. drop k (x ∷ xs)) (sym more)

drop_nothing : (n : ℕ) (xs : List ℕ) → length xs ≤ n → drop n xs ≡ []
drop_nothing zero [] all = refl
drop_nothing zero (x ∷ xs) all = absurd (omega arith)
drop_nothing (suc n) [] all = refl
drop_nothing (suc n) (x ∷ xs) all = drop_nothing n xs (omega arith)

-- the first line of bytes, and what stands behind its LF
cut_by : (limit n : ℕ) (bytes : List ℕ) (b : Bool) → nat_lt n (length bytes) ≡ b → n ≡ front_len bytes
    → lines_in limit bytes ≡ given_for limit (take n bytes) ++ lines_in limit (drop (min (length (drop n bytes)) 1) (drop n bytes))
cut_by limit n bytes true inside is =
    let some : n < length bytes = grind (arith, nat_tests) in
    let front : front_len bytes < length bytes = omega (arith, some, is) in
    let one : min (length (drop n bytes)) 1 ≡ 1 = omega (arith, some, length-drop n bytes) in
    let behind : drop (min (length (drop n bytes)) 1) (drop n bytes) ≡ drop (front_len bytes + 1) bytes =
    ap (λ k. drop k (drop n bytes)) one ∙ drop_one_more n bytes ∙ ap (λ k. drop (k + 1) bytes) is in
    ap (lines_in limit) (sym (append-nil bytes)) ∙ cut_found limit [] bytes [] front
    ∙ ap (λ (rest : List ℕ). given_for limit (take (front_len bytes) bytes) ++ lines_in limit rest) (append-nil (drop (front_len bytes + 1) bytes) ∙ sym behind)
    ∙ ap (λ k. given_for limit (take k bytes) ++ lines_in limit (drop (min (length (drop n bytes)) 1) (drop n bytes))) (sym is)
cut_by limit n bytes false outside is =
    let all : length bytes ≤ n = grind (arith, nat_tests) in
    let whole : front_len bytes ≡ length bytes = omega (arith, all, is, front_bound bytes) in
    let none : drop n bytes ≡ [] = drop_nothing n bytes all in
    ap (lines_in limit) (sym (append-nil bytes)) ∙ cut_none limit [] bytes [] whole
    ∙ ap (given_for limit) (sym (take_all n bytes all)) ∙ sym (append-nil (given_for limit (take n bytes)))
    ∙ ap (λ (rest : List (Option (List ℕ))). given_for limit (take n bytes) ++ rest) (sym (given_none limit))
    ∙ ap (λ (rest : List ℕ). given_for limit (take n bytes) ++ lines_in limit (drop (min (length rest) 1) rest)) (sym none)

pub first_cut : (limit n : ℕ) (bytes line behind rest : List ℕ) → n ≡ front_len bytes → line ≡ take n bytes → behind ≡ drop n bytes → rest ≡ drop (min (length behind) 1) behind
    → lines_in limit bytes ≡ given_for limit line ++ lines_in limit rest
first_cut limit n bytes line behind rest is line_is behind_is rest_is =
    cut_by limit n bytes (nat_lt n (length bytes)) refl is
    ∙ ap (λ (l : List ℕ). given_for limit l ++ lines_in limit (drop (min (length (drop n bytes)) 1) (drop n bytes))) (sym line_is)
    ∙ ap (λ (b : List ℕ). given_for limit line ++ lines_in limit (drop (min (length b) 1) b)) (sym behind_is)
    ∙ ap (λ (r : List ℕ). given_for limit line ++ lines_in limit r) (sym rest_is)

empty_of : (xs : List ℕ) → length xs ≡ 0 → xs ≡ []
empty_of [] none = refl
empty_of (x ∷ xs) none = absurd (omega arith)

-- what a test for more bytes tells
pub none_left : (xs : List ℕ) (b : Bool) → b ≡ (length xs == 0) → b ≡ true → xs ≡ []
none_left xs true is over = empty_of xs (grind (arith, nat_tests))
none_left xs false is over = absurd (true≢false (sym over))

-- ---- a line that was served, and lines behind one another

module _ {D : Type 0} (moment : D → ℕ) (left_since : D → ℕ → List ℕ → Type 0) (reads writes : D → ℕ) where
  abbrev pub Bounds : D → D → List Report → Type 0
  Bounds first disk = AreBounded (reads first) (reads disk) (writes first) (writes disk)

  -- no line was served
  pub reported_none : (capabilities : List Capability) (start : State) (told : List Report → Type 0) (stands : State → Type 0) (disk : D)
      → told [] → stands start → EachImage (StandsForOne start) (left_since disk (moment disk))
      → Reported capabilities start told stands (LeavesOnly moment left_since disk disk) (Bounds disk disk) []
  reported_none capabilities start told stands disk nothing now each = record {
    reports = [];
    states = [];
    run = tt;
    told_so = nothing;
    stands_for = now;
    leaves_only = started moment left_since disk (StandsInRun start []) (λ image left. inl (each image left));
    bounded = bounded_none (reads disk) (writes disk);
  }

  between_in_one : (old new : State) → EachImage (StandsInRun old (new ∷ [])) (StandsBetween old new)
  between_in_one old new image (inl before) = inl before
  between_in_one old new image (inr after) = inr (inl after)

  -- one line was
  pub reported_one : (capabilities : List Capability) (start : State) (line : Option (List ℕ)) (r : Report) (told : List Report → Type 0) (stands : State → Type 0) (disk next : D)
      → (new : State) × stands new × LineStep capabilities start line r.recovered r.answer new × LeavesOnly moment left_since disk next (StandsBetween start new)
      → told (r ∷ []) → HasItsCause (reads disk) (reads next) (writes disk) (writes next) r.answer → reads disk ≤ reads next → writes disk ≤ writes next
      → Reported capabilities start told stands (LeavesOnly moment left_since disk next) (Bounds disk next) (line ∷ [])
  reported_one capabilities start line r told stands disk next served tells cause reads_later writes_later = record {
    reports = r ∷ [];
    states = served.0 ∷ [];
    run = (served.2, tt);
    told_so = tells;
    stands_for = served.1;
    leaves_only = leaves_weaker moment left_since disk next (StandsBetween start served.0) (StandsInRun start (served.0 ∷ [])) (between_in_one start served.0) served.3;
    bounded = bounded_more (reads disk) (reads disk) (reads next) (writes disk) (writes disk) (writes next) [] r (bounded_none (reads disk) (writes disk)) cause reads_later writes_later;
  }

  pub reported_joined : (capabilities : List Capability) (start : State) (first second both : List Report → Type 0) (stands stands_next : State → Type 0) (old mid new : D)
      (xs ys : List (Option (List ℕ)))
      → ((rs qs : List Report) → first rs → second qs → both (rs ++ qs))
      → (so_far : Reported capabilities start first stands (LeavesOnly moment left_since old mid) (Bounds old mid) xs)
      → Reported capabilities (last_state start so_far.states) second stands_next (LeavesOnly moment left_since mid new) (Bounds mid new) ys
      → reads mid ≤ reads new → writes mid ≤ writes new
      → Reported capabilities start both stands_next (LeavesOnly moment left_since old new) (Bounds old new) (xs ++ ys)
  reported_joined capabilities start first second both stands stands_next old mid new xs ys joins so_far more reads_later writes_later = record {
    reports = so_far.reports ++ more.reports;
    states = so_far.states ++ more.states;
    run = run_joined capabilities start xs so_far.reports so_far.states ys more.reports more.states so_far.run more.run;
    told_so = joins so_far.reports more.reports so_far.told_so more.told_so;
    stands_for = subst stands_next (sym (last_joined start so_far.states more.states)) more.stands_for;
    leaves_only = leaves_joined moment left_since old mid new (StandsInRun start (so_far.states ++ more.states))
        (leaves_weaker moment left_since old mid (StandsInRun start so_far.states) (StandsInRun start (so_far.states ++ more.states)) (in_first start so_far.states more.states) so_far.leaves_only)
        (leaves_weaker moment left_since mid new (StandsInRun (last_state start so_far.states) more.states) (StandsInRun start (so_far.states ++ more.states))
        (in_second start so_far.states more.states) more.leaves_only);
    bounded = bounded_joined (reads old) (reads mid) (reads new) (writes old) (writes mid) (writes new) so_far.reports more.reports so_far.bounded more.bounded reads_later writes_later;
  }

  -- The lines of a text before what is left of it were served, from each state with which it may have begun.
  pub record Served (capabilities : List Capability) (text rest : List ℕ) (counted : List Report → Type 0) (entry stands : State → Type 0) (first disk : D) : Type 0 where
    pub lines : List (Option (List ℕ))
    pub cut : lines_of text ≡ lines ++ lines_of rest
    pub serving : (start : State) → entry start → Reported capabilities start counted stands (LeavesOnly moment left_since first disk) (Bounds first disk) lines

  pub served_none : (capabilities : List Capability) (text : List ℕ) (tally : Tally) (entry stands : State → Type 0) (disk : D)
      → ((start : State) → entry start → stands start × EachImage (StandsForOne start) (left_since disk (moment disk)))
      → Served capabilities text text (Counts tally tally) entry stands disk disk
  served_none capabilities text tally entry stands disk begins = record {
    lines = [];
    cut = refl;
    serving = λ start at_entry. reported_none capabilities start (Counts tally tally) stands disk (counts_none tally) (begins start at_entry).0 (begins start at_entry).1;
  }

  pub served_more : (capabilities : List Capability) (text rest behind : List ℕ) (given : List (Option (List ℕ))) (none old new : Tally) (entry stands stands_next : State → Type 0)
      (first disk next : D)
      → Served capabilities text rest (Counts none old) entry stands first disk → lines_of rest ≡ given ++ lines_of behind
      → ((start : State) → entry start → (state : State) → stands state → Reported capabilities state (Counts old new) stands_next (LeavesOnly moment left_since disk next) (Bounds disk next) given)
      → reads disk ≤ reads next → writes disk ≤ writes next
      → Served capabilities text behind (Counts none new) entry stands_next first next
  served_more capabilities text rest behind given none old new entry stands stands_next first disk next so_far cut more reads_later writes_later = record {
    lines = so_far.lines ++ given;
    cut = so_far.cut ∙ ap (λ (ls : List (Option (List ℕ))). so_far.lines ++ ls) cut ∙ sym (append_assoc so_far.lines given (lines_of behind));
    serving = λ start at_entry.
        let till : Reported capabilities start (Counts none old) stands (LeavesOnly moment left_since first disk) (Bounds first disk) so_far.lines = so_far.serving start at_entry in
        reported_joined capabilities start (Counts none old) (Counts old new) (Counts none new) stands stands_next first disk next so_far.lines given
        (λ rs qs. counts_joined none old new rs qs) till (more start at_entry (last_state start till.states) till.stands_for) reads_later writes_later;
  }

  pub served_whole : (capabilities : List Capability) (text rest : List ℕ) (counted : List Report → Type 0) (entry stands : State → Type 0) (first disk : D)
      → Served capabilities text rest counted entry stands first disk → rest ≡ [] → (start : State) → entry start
      → Reported capabilities start counted stands (LeavesOnly moment left_since first disk) (Bounds first disk) (lines_of text)
  served_whole capabilities text rest counted entry stands first disk served none start at_entry =
      let P : List (Option (List ℕ)) → Type 0 = λ ls. Reported capabilities start counted stands (LeavesOnly moment left_since first disk) (Bounds first disk) ls in
      let nothing : lines_of rest ≡ [] = ap lines_of none ∙ given_none line_limit in
      subst P (sym (served.cut ∙ ap (λ (ls : List (Option (List ℕ))). served.lines ++ ls) nothing ∙ append-nil served.lines)) (served.serving start at_entry)

-- the same run, with other words on its reports and on the array
pub reported_over : (capabilities : List Capability) (start : State) (told told-new : List Report → Type 0) (stands stands-new : State → Type 0)
    (leaves leaves-new : (List ℕ → Type 0) → Type 0) (bounds bounds-new : List Report → Type 0) (lines : List (Option (List ℕ)))
    → ((reports : List Report) → told reports → told-new reports) → ((state : State) → stands state → stands-new state)
    → ((P : List ℕ → Type 0) → EachImage P (StandsForOne start) → leaves P → leaves-new P) → ((reports : List Report) → bounds reports → bounds-new reports)
    → Reported capabilities start told stands leaves bounds lines → Reported capabilities start told-new stands-new leaves-new bounds-new lines
reported_over capabilities start told told-new stands stands-new leaves leaves-new bounds bounds-new lines tell stand leave bound is = record {
  reports = is.reports;
  states = is.states;
  run = is.run;
  told_so = tell is.reports is.told_so;
  stands_for = stand _ is.stands_for;
  leaves_only = leave (StandsInRun start is.states) (λ image here. inl here) is.leaves_only;
  bounded = bound is.reports is.bounded;
}
