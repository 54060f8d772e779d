-- How a generated script that was served ends: for the functions that load one.
use Rattle.std.proofs.Common.{◌≡◌, ◌⊎◌, ◌∙◌, inl, inr, ℕ, ◌+◌, ◌++◌, List, false, refl, sym, ap, append_assoc, subst}
use Rattle.std.specs.Prelude.{Option, Some, Result, Ok, Err, OnOk, OnErr, codes, decimal}
use Rattle.std.specs.Io.KnownBytes.{Appends}
use Rattle.vv_units.specs.Causes.{Rose}
use Rattle.vv_units.specs.declared.geometry.Geometry.{Geometry}
use Rattle.vv_data.specs.Layout.{disk_len}
use Rattle.vv_reply.specs.Objects.{key}
use Rattle.vv_meaning.specs.Steps.{Report}
use Rattle.vv_run.specs.declared.tally.Tally.{Tally}
use Rattle.vv_run.specs.declared.words.Command.TheVariants.{New, Run}
use Rattle.vv_run.specs.declared.words.Recipe.{Recipe}
use Rattle.vv_run.specs.declared.words.Request.{Request}
use Rattle.vv_run.specs.declared.words.Request.TheVariants as request
use Rattle.vv_run.specs.declared.status.Status.{Status}
use Rattle.vv_run.specs.declared.status.Status.TheVariants as status
use Rattle.vv_run.specs.Loading.{last_text, summary_text, loaded_text, GenerateEnds, LoadEnds}
use Rattle.vv_run.specs.Status.{is_unserved, Stopped}
use Rattle.vv_run.specs.Tallies.{none_counted, seen_last, Counts}
use Rattle.vv_run.specs.Writing.{StopsWithin}
use Rattle.vv_run.proofs.StreamLemmas.{cut_first, cut_second, appends_more}
use Rattle.vv_run.proofs.LoadingLemmas.{tally_text}

-- ---- the summary, piece by piece

pub cut_at_first : (s0 s1 : Option (List ℕ)) (a b c d : List ℕ) → StopsWithin s0 s1 a → StopsWithin s0 s1 (((a ++ b) ++ c) ++ d)
cut_at_first s0 s1 a b c d cut = cut_first s0 s1 ((a ++ b) ++ c) d (cut_first s0 s1 (a ++ b) c (cut_first s0 s1 a b cut))

pub cut_at_second : (s0 s1 s2 : Option (List ℕ)) (a b c d : List ℕ) → Appends s0 s1 a → StopsWithin s1 s2 b → StopsWithin s0 s2 (((a ++ b) ++ c) ++ d)
cut_at_second s0 s1 s2 a b c d first cut = cut_first s0 s2 ((a ++ b) ++ c) d (cut_first s0 s2 (a ++ b) c (cut_second s0 s1 s2 a b first cut))

pub cut_at_third : (s0 s1 s2 s3 : Option (List ℕ)) (a b c d : List ℕ) → Appends s0 s1 a → Appends s1 s2 b → StopsWithin s2 s3 c → StopsWithin s0 s3 (((a ++ b) ++ c) ++ d)
cut_at_third s0 s1 s2 s3 a b c d first second cut =
    cut_first s0 s3 ((a ++ b) ++ c) d (cut_second s0 s2 s3 (a ++ b) c (appends_more s0 s1 s2 a b first second) cut)

pub three_appended : (s0 s1 s2 s3 : Option (List ℕ)) (a b c : List ℕ) → Appends s0 s1 a → Appends s1 s2 b → Appends s2 s3 c → Appends s0 s3 ((a ++ b) ++ c)
three_appended s0 s1 s2 s3 a b c first second third = appends_more s0 s2 s3 (a ++ b) c (appends_more s0 s1 s2 a b first second) third

abbrev pub lines_part : ℕ → List ℕ
lines_part n = codes "{\"lines\":" ++ decimal n

abbrev pub ok_part : ℕ → List ℕ
ok_part n = codes ",\"ok\":" ++ decimal n

abbrev pub refused_part : ℕ → List ℕ
refused_part n = codes ",\"refused\":" ++ decimal n

joined : (t c k n : List ℕ) → t ++ ((c ++ k) ++ n) ≡ ((t ++ c) ++ k) ++ n
joined t c k n = sym (append_assoc t (c ++ k) n) ∙ ap (λ (front : List ℕ). front ++ n) (sym (append_assoc t c k))

pub summary_parts : (lines accepted refused : ℕ)
    → ((lines_part lines ++ ok_part accepted) ++ refused_part refused) ++ codes "}\n" ≡ summary_text lines accepted refused
summary_parts lines accepted refused =
    ap (λ (front : List ℕ). (front ++ refused_part refused) ++ codes "}\n") (joined (lines_part lines) (codes ",") (key (codes "ok")) (decimal accepted))
    ∙ ap (λ (front : List ℕ). front ++ codes "}\n")
    (joined (((lines_part lines ++ codes ",") ++ key (codes "ok")) ++ decimal accepted) (codes ",") (key (codes "refused")) (decimal refused))

-- .. by how a piece was written

pub on_err : {T E : Type 0} (result : Result T E) (X : Type 0) → X → OnErr result X
on_err (Ok value) X holds = tt
on_err (Err e) X holds = holds

pub ok_later : {E : Type 0} (result : Result (Unit {0}) E) (s0 s1 s2 : Option (List ℕ)) (a b : List ℕ) → Appends s0 s1 a → OnOk result (Appends s1 s2 b) → OnOk result (Appends s0 s2 (a ++ b))
ok_later (Ok u) s0 s1 s2 a b first second = appends_more s0 s1 s2 a b first second
ok_later (Err e) s0 s1 s2 a b first second = tt

-- ---- what was written of a tally, said of the reports

pub wrote_tally : (wrote : List ℕ → Type 0) (tally : Tally) (reports : List Report) → Counts none_counted tally reports
    → wrote (last_text (seen_last tally.last) ++ summary_text (tally.accepted + tally.refused) tally.accepted tally.refused) → wrote (loaded_text reports)
wrote_tally wrote tally reports counts written = subst wrote (tally_text tally reports counts) written

-- ---- how a load ends

pub ends_over : (result : Status) (before after : Option (List ℕ)) (served served-new : (List Report → Type 0) → Type 0)
    → ((told : List Report → Type 0) → served told → served-new told) → LoadEnds result before after served → LoadEnds result before after served-new
ends_over status.Done before after served served-new goes ends = goes (λ reports. Appends before after (loaded_text reports)) ends
ends_over status.SinkFault before after served served-new goes ends = goes (λ reports. StopsWithin before after (loaded_text reports)) ends
ends_over status.NoMemory before after served served-new goes ends = tt
ends_over status.DeviceFault before after served served-new goes ends = tt
ends_over (status.WrongSize needed found) before after served served-new goes ends = tt
ends_over status.BadWords before after served served-new goes ends = absurd ends
ends_over status.SourceFault before after served served-new goes ends = absurd ends
ends_over status.NotFormatted before after served served-new goes ends = absurd ends
ends_over (status.Damaged damage) before after served served-new goes ends = absurd ends
ends_over status.TooMuch before after served served-new goes ends = absurd ends

pub not_opened : (geometry : Geometry) → New geometry ≡ Run → ⊥
not_opened geometry is = absurd (cc)

-- no image could be made
pub stopped_ends : (result : Status) (geometry : Geometry) (size : ℕ) (told : Option (List ℕ)) (r r-now w w-now : ℕ) (before after : Option (List ℕ))
    (served : (List Report → Type 0) → Type 0) → Stopped (New geometry) size told r r-now w w-now result → LoadEnds result before after served
stopped_ends status.Done geometry size told r r-now w w-now before after served stopped = absurd stopped
stopped_ends status.SinkFault geometry size told r r-now w w-now before after served stopped = absurd stopped
stopped_ends status.NoMemory geometry size told r r-now w w-now before after served stopped = tt
stopped_ends status.DeviceFault geometry size told r r-now w w-now before after served stopped = tt
stopped_ends (status.WrongSize needed found) geometry size told r r-now w w-now before after served stopped = tt
stopped_ends status.BadWords geometry size told r r-now w w-now before after served stopped = absurd stopped
stopped_ends status.SourceFault geometry size told r r-now w w-now before after served stopped = absurd stopped
stopped_ends status.NotFormatted geometry size told r r-now w w-now before after served stopped = absurd (not_opened geometry stopped.0)
stopped_ends (status.Damaged damage) geometry size told r r-now w w-now before after served stopped = absurd (not_opened geometry stopped.0)
stopped_ends status.TooMuch geometry size told r r-now w w-now before after served stopped = absurd stopped

-- with no fault it ended well, or there was no memory

pub made_whole : (result : Status) (geometry : Geometry) (size : ℕ) (told : Option (List ℕ)) (r r-now w w-now : ℕ)
    → Stopped (New geometry) size told r r-now w w-now result → size ≡ disk_len geometry
    → (Rose r r-now → ⊥) → (Rose w w-now → ⊥) → (result ≡ status.Done) ⊎ (result ≡ status.NoMemory)
made_whole status.Done geometry size told r r-now w w-now stopped is no_read no_write = inl refl
made_whole status.SinkFault geometry size told r r-now w w-now stopped is no_read no_write = absurd stopped
made_whole status.NoMemory geometry size told r r-now w w-now stopped is no_read no_write = inr refl
made_whole status.DeviceFault geometry size told r r-now w w-now (inl rose) is no_read no_write = absurd (no_read rose)
made_whole status.DeviceFault geometry size told r r-now w w-now (inr rose) is no_read no_write = absurd (no_write rose)
made_whole (status.WrongSize needed found) geometry size told r r-now w w-now stopped is no_read no_write = absurd (stopped.2 (stopped.1 ∙ is ∙ sym stopped.0))
made_whole status.BadWords geometry size told r r-now w w-now stopped is no_read no_write = absurd stopped
made_whole status.SourceFault geometry size told r r-now w w-now stopped is no_read no_write = absurd stopped
made_whole status.NotFormatted geometry size told r r-now w w-now stopped is no_read no_write = absurd (not_opened geometry stopped.0)
made_whole (status.Damaged damage) geometry size told r r-now w w-now stopped is no_read no_write = absurd (not_opened geometry stopped.0)
made_whole status.TooMuch geometry size told r r-now w w-now stopped is no_read no_write = absurd stopped

-- .. where its lines were served
pub loaded_whole : (result : Status) (before after : Option (List ℕ)) (served : (List Report → Type 0) → Type 0) (A : Type 0)
    → is_unserved result ≡ false → LoadEnds result before after served → (result ≡ status.SinkFault → A) → (A → ⊥)
    → (result ≡ status.Done) ⊎ (result ≡ status.NoMemory)
loaded_whole status.Done before after served A is ends sink no_sink = inl refl
loaded_whole status.SinkFault before after served A is ends sink no_sink = absurd (no_sink (sink refl))
loaded_whole status.NoMemory before after served A is ends sink no_sink = inr refl
loaded_whole status.DeviceFault before after served A is ends sink no_sink = absurd (cc)
loaded_whole (status.WrongSize needed found) before after served A is ends sink no_sink = absurd (cc)
loaded_whole status.BadWords before after served A is ends sink no_sink = absurd ends
loaded_whole status.SourceFault before after served A is ends sink no_sink = absurd ends
loaded_whole status.NotFormatted before after served A is ends sink no_sink = absurd ends
loaded_whole (status.Damaged damage) before after served A is ends sink no_sink = absurd ends
loaded_whole status.TooMuch before after served A is ends sink no_sink = absurd ends

pub generated_whole : (result : Status) (before after : Option (List ℕ)) (text : List ℕ) (A : Type 0)
    → GenerateEnds result before after text → (result ≡ status.SinkFault → A) → (A → ⊥) → (result ≡ status.Done) ⊎ (result ≡ status.NoMemory)
generated_whole status.Done before after text A ends sink no_sink = inl refl
generated_whole status.SinkFault before after text A ends sink no_sink = absurd (no_sink (sink refl))
generated_whole status.NoMemory before after text A ends sink no_sink = inr refl
generated_whole status.DeviceFault before after text A ends sink no_sink = absurd ends
generated_whole (status.WrongSize needed found) before after text A ends sink no_sink = absurd ends
generated_whole status.BadWords before after text A ends sink no_sink = absurd ends
generated_whole status.SourceFault before after text A ends sink no_sink = absurd ends
generated_whole status.NotFormatted before after text A ends sink no_sink = absurd ends
generated_whole (status.Damaged damage) before after text A ends sink no_sink = absurd ends
generated_whole status.TooMuch before after text A ends sink no_sink = absurd ends

-- ---- what the words ask for

pub same_generated : (k : Option Request) (a b : Recipe) → k ≡ Some (request.Generate a) → k ≡ Some (request.Generate b) → a ≡ b
same_generated k a b e f = cc

pub same_sizes : (k : Option Request) (s t : Geometry) (a b : Recipe) → k ≡ Some (request.Load s a) → k ≡ Some (request.Load t b) → s ≡ t
same_sizes k s t a b e f = cc

pub same_loaded : (k : Option Request) (s t : Geometry) (a b : Recipe) → k ≡ Some (request.Load s a) → k ≡ Some (request.Load t b) → a ≡ b
same_loaded k s t a b e f = cc
