-- What a sink took, piece by piece: for the loop that writes a reply.
use Rattle.std.proofs.Common.{◌≡◌, ℕ, ◌<◌, ◌++◌, List, [], length, take, drop, refl, sym, ap, ◌∙◌, append_assoc, append-nil, length-append, Some, None, subst, arith}
use Rattle.std.specs.Prelude.{Option, Result, Ok, Err, OnErr}
use Rattle.std.specs.Io.KnownBytes.{Appends}
use Rattle.std.proofs.lemmas.List.{take-append-drop}
use Rattle.vv_io.specs.Streams.{KeepsOrForgets}
use Rattle.vv_run.specs.Writing.{AppendsOrForgets, StopsWithin}

pub appends_nothing : (old : Option (List ℕ)) → Appends old old []
appends_nothing None = tt
appends_nothing (Some xs) = sym (append-nil xs)

pub appends_more : (a b c : Option (List ℕ)) (xs ys : List ℕ) → Appends a b xs → Appends b c ys → Appends a c (xs ++ ys)
appends_more None b c xs ys first second = tt
appends_more (Some us) None c xs ys first second = absurd first
appends_more (Some us) (Some vs) None xs ys first second = absurd second
appends_more (Some us) (Some vs) (Some ws) xs ys first second =
    second ∙ ap (λ (front : List ℕ). front ++ ys) first ∙ append_assoc us xs ys

pub appends_then_stops : (a b c : Option (List ℕ)) (xs : List ℕ) → Appends a b xs → KeepsOrForgets b c → AppendsOrForgets a c xs
appends_then_stops None b c xs first second = tt
appends_then_stops (Some us) None c xs first second = absurd first
appends_then_stops (Some us) (Some vs) None xs first second = tt
appends_then_stops (Some us) (Some vs) (Some ws) xs first second = second ∙ first

pub stops_after : (a b c : Option (List ℕ)) (xs ys : List ℕ) → Appends a b xs → AppendsOrForgets b c ys → AppendsOrForgets a c (xs ++ ys)
stops_after None b c xs ys first second = tt
stops_after (Some us) None c xs ys first second = absurd first
stops_after (Some us) (Some vs) None xs ys first second = tt
stops_after (Some us) (Some vs) (Some ws) xs ys first second =
    second ∙ ap (λ (front : List ℕ). front ++ ys) first ∙ append_assoc us xs ys

-- the first of two texts was cut, or the second one behind the whole of the first

pub cut_first : (old new : Option (List ℕ)) (first second : List ℕ) → StopsWithin old new first → StopsWithin old new (first ++ second)
cut_first old new first second cut = record {
  part = cut.part;
  more = cut.more ++ second;
  whole = sym (append_assoc cut.part cut.more second) ∙ ap (λ (front : List ℕ). front ++ second) cut.whole;
  proper = omega (arith, cut.proper, length-append cut.more second);
  taken = cut.taken;
}

pub cut_second : (old mid new : Option (List ℕ)) (first second : List ℕ) → Appends old mid first → StopsWithin mid new second → StopsWithin old new (first ++ second)
cut_second old mid new first second whole cut = record {
  part = first ++ cut.part;
  more = cut.more;
  whole = append_assoc first cut.part cut.more ∙ ap (λ (back : List ℕ). first ++ back) cut.whole;
  proper = cut.proper;
  taken = stops_after old mid new first cut.part whole cut.taken;
}

-- what was written of some bytes so far, and what is left of them
pub record Wrote (old now : Option (List ℕ)) (bytes rest : List ℕ) : Type 0 where
  pub part : List ℕ
  pub whole : part ++ rest ≡ bytes
  pub taken : Appends old now part

pub wrote_nothing : (old : Option (List ℕ)) (bytes : List ℕ) → Wrote old old bytes bytes
wrote_nothing old bytes = record { part = []; whole = refl; taken = appends_nothing old }

pub wrote_more : (old now new : Option (List ℕ)) (bytes rest left : List ℕ) (n : ℕ) → Wrote old now bytes rest
    → Appends now new (take n rest) → left ≡ drop n rest → Wrote old new bytes left
wrote_more old now new bytes rest left n before more is = record {
  part = before.part ++ take n rest;
  whole = append_assoc before.part (take n rest) left
      ∙ ap (λ (back : List ℕ). before.part ++ back) (ap (λ (back : List ℕ). take n rest ++ back) is ∙ take-append-drop n rest) ∙ before.whole;
  taken = appends_more old now new before.part (take n rest) before.taken more;
}

pub wrote_all : (old now : Option (List ℕ)) (bytes rest : List ℕ) → Wrote old now bytes rest → rest ≡ [] → Appends old now bytes
wrote_all old now bytes rest before none =
    let P : List ℕ → Type 0 = λ part. Appends old now part in
    subst P (sym (append-nil before.part) ∙ ap (λ (back : List ℕ). before.part ++ back) (sym none) ∙ before.whole) before.taken

pub stops : (old now new : Option (List ℕ)) (bytes rest : List ℕ) → Wrote old now bytes rest → 0 < length rest
    → KeepsOrForgets now new → StopsWithin old new bytes
stops old now new bytes rest before some keeps = record {
  part = before.part;
  more = rest;
  whole = before.whole;
  proper = some;
  taken = appends_then_stops old now new before.part before.taken keeps;
}

-- .. by how the second was written
pub report_cut_later : {E : Type 0} (result : Result (Unit {0}) E) (old mid new : Option (List ℕ)) (first second : List ℕ) → Appends old mid first
    → OnErr result (StopsWithin mid new second) → OnErr result (StopsWithin old new (first ++ second))
report_cut_later (Ok u) old mid new first second whole cut = tt
report_cut_later (Err e) old mid new first second whole cut = cut_second old mid new first second whole cut
