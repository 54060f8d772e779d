-- What an array that was made or opened stands for, and what is told where none could be: for the function that begins a run.
use Rattle.std.proofs.Common.{◌≡◌, inl, inr, ℕ, List, false, Some, None, Ok, Err, refl, sym, ap, ◌∙◌, subst}
use Rattle.std.specs.Prelude.{Option, IfSome}
use Rattle.vv_units.specs.declared.geometry.Geometry.{Geometry}
use Rattle.vv_units.specs.declared.damage.DiskFault.TheVariants as disk_fault
use Rattle.vv_disk.specs.Images.{EachImage}
use Rattle.vv_flat.specs.State.{Durable, Array, empty_array}
use Rattle.vv_flat.specs.Chunks.{Entry, ChunkValue}
use Rattle.vv_flat.specs.Restart.{restarted}
use Rattle.vv_journal.specs.Log.{Log, Holds}
use Rattle.vv_journal.specs.declared.opening.OpenFault.{OpenFault}
use Rattle.vv_journal.specs.declared.opening.OpenFault.TheVariants as journal
use Rattle.vv_image.specs.Opening.{Found, opened}
use Rattle.vv_image.specs.Standing.{Stands, array_over, array_found, array_in}
use Rattle.vv_reply.specs.Replies.{recovered_text}
use Rattle.vv_meaning.specs.Steps.{State, Up}
use Rattle.vv_core.specs.Core.{CoreState}
use Rattle.vv_journal.specs.Calls.{JournalState}
use Rattle.vv_array.specs.Seen.{ArrayView, IsUp, IsDown}
use Rattle.vv_array.specs.Standing.{StandsFor, StandsKept, UpOn, flat_over}
use Rattle.vv_array.specs.Moments.{StandsForOne}
use Rattle.vv_array.specs.Making.{IsMakingFault}
use Rattle.vv_array.specs.Opening.{IsOpened, OpensAs, StandsOpened, IsFoundFault, HasArrayCause}
use Rattle.vv_array.specs.declared.fault.ArrayFault.{ArrayFault}
use Rattle.vv_array.specs.declared.fault.ArrayFault.TheVariants as array
use Rattle.vv_run.specs.declared.words.Command.TheVariants.{New, Run}
use Rattle.vv_run.specs.declared.status.Status.TheVariants as status
use Rattle.vv_run.specs.Replies.{recovered_line}
use Rattle.vv_run.specs.Starts.{IsKept, IsStart, head_of}
use Rattle.vv_run.specs.Status.{is_before_disk, status_of, status_for, IsUnformatted, IsOpenable, EndsAsFound, Stopped}

-- ---- what is told of a content

told_has : (told : Option (List ℕ)) (P : List ℕ → Type 0) (c : List ℕ) → told ≡ Some c → IfSome told P → P c
told_has told P c e has = subst (λ (t : Option (List ℕ)). IfSome t P) e has

told_goes : (told : Option (List ℕ)) (P Q : List ℕ → Type 0) → ((c : List ℕ) → P c → Q c) → IfSome told P → IfSome told Q
told_goes None P Q goes has = tt
told_goes (Some c) P Q goes has = goes c has

-- ---- the array that an image stands for

found_over : (image : List ℕ) (found : Found) (tables : Durable Entry) (m : Array ChunkValue) → found ≡ Ok tables → array_found image found ≡ Some m → array_over image tables ≡ m
found_over image (Err fault) tables m is e = absurd (cc)
found_over image (Ok d) tables m is e = same_some (array_over image tables) m (ap (array_found image) (sym is) ∙ e)
  where
    same_some : (a b : Array ChunkValue) → Some a ≡ Some b → a ≡ b
    same_some a b same = cc

stands_over : (image : List ℕ) (tables : Durable Entry) (m : Array ChunkValue) → opened image ≡ Ok tables → Stands image m → array_over image tables ≡ m
unfolding array_in
stands_over image tables m is stands = found_over image (opened image) tables m is stands

restarted_found : (image : List ℕ) (found : Found) (m : Array ChunkValue) → array_found image found ≡ Some m → restarted m ≡ m
restarted_found image (Err fault) m e = absurd (cc)
restarted_found image (Ok d) m e =
    let same : array_over image d ≡ m = found_over image (Ok d) d m refl e in
    subst (λ (a : Array ChunkValue). restarted a ≡ a) same refl

-- an array that an image stands for has nothing waiting
restarted_stands : (image : List ℕ) (m : Array ChunkValue) → Stands image m → restarted m ≡ m
unfolding array_in
restarted_stands image m stands = restarted_found image (opened image) m stands

-- the one image of a disk that is kept stands for its state
pub kept_stands : (told : Option (List ℕ)) (images : List ℕ → Type 0) (start : State) → IsKept told images start → EachImage (StandsForOne start) images
kept_stands told images start kept image is =
    let there : StandsKept kept.array kept.content = record {
      log = kept.log;
      holds = kept.holds;
      stands = subst (λ (a : Array ChunkValue). Stands kept.content a) (sym (restarted_stands kept.content kept.array kept.stands)) kept.stands;
    } in
    let of_image : StandsKept kept.array image = subst (λ (x : List ℕ). StandsKept kept.array x) (sym (kept.only image is)) there in
    subst (λ (s : State). StandsForOne s image) (sym kept.start_is) of_image

-- ---- an array that was opened

flat_found : (c : List ℕ) (journal : JournalState) (core : CoreState) (m : Array ChunkValue) → IsOpened journal core c → Stands c m → flat_over c core.array ≡ m
flat_found c journal core m is stands =
    ap (λ (v : _). record (array_over c core.array.durable) { volatile = v }) is.waiting ∙ stands_over c core.array.durable m is.tables stands

pub opened_stands : (view : ArrayView) (n : ℕ) (told now : Option (List ℕ)) (images images_now : List ℕ → Type 0) (start : State)
    → IfSome told (OpensAs view n) → IfSome told (λ c. (log : Log) → Holds log c → StandsOpened view c now images_now) → IsKept told images start
    → StandsFor view now images_now start × (recovered_line (Some n) ≡ head_of (Some Run) start)
opened_stands (IsDown geometry) n told now images images_now start opens stands kept =
    absurd (told_has told (OpensAs (IsDown geometry) n) kept.content kept.told_is opens)
opened_stands (IsUp journal core) n told now images images_now start opens stands kept =
    let is = told_has told (OpensAs (IsUp journal core) n) kept.content kept.told_is opens in
    let up : UpOn journal core.array now images_now (flat_over kept.content core.array) =
    told_has told (λ c. (log : Log) → Holds log c → StandsOpened (IsUp journal core) c now images_now) kept.content kept.told_is stands kept.log kept.holds in
    let same : flat_over kept.content core.array ≡ kept.array = flat_found kept.content journal core kept.array is.0 kept.stands in
    let there : UpOn journal core.array now images_now kept.array = subst (λ (m : Array ChunkValue). UpOn journal core.array now images_now m) same up in (
      subst (λ (s : State). StandsFor (IsUp journal core) now images_now s) (sym kept.start_is) there,
      ap recovered_text (is.1 ∙ ap (λ (m : Array ChunkValue). m.durable.lsn) same) ∙ ap (head_of (Some Run)) (sym kept.start_is),
    )

-- ---- an array that was made

pub made_stands : (view : ArrayView) (geometry : Geometry) (size : ℕ) (told now : Option (List ℕ)) (images images_now : List ℕ → Type 0) (start : State)
    → StandsFor view now images_now (Up (empty_array geometry)) → IsStart (Some (New geometry)) size told images start
    → StandsFor view now images_now start × (recovered_line None ≡ head_of (Some (New geometry)) start)
made_stands view geometry size told now images images_now start stands at_start =
    (subst (λ (s : State). StandsFor view now images_now s) (sym at_start.1) stands, refl)

-- ---- none was made or opened

not_both : (found : Found) (tables : Durable Entry) (fault : OpenFault) → found ≡ Ok tables → found ≡ Err fault → ⊥
not_both found tables fault is e = absurd (cc)

pub is_openable : (view : ArrayView) (n : ℕ) (told : Option (List ℕ)) → IfSome told (OpensAs view n) → IfSome told IsOpenable
is_openable (IsUp journal core) n told opens = told_goes told (OpensAs (IsUp journal core) n) IsOpenable (λ c is fault e. not_both (opened c) core.array.durable fault is.0.tables e) opens
is_openable (IsDown geometry) n told opens = told_goes told (OpensAs (IsDown geometry) n) IsOpenable (λ c is. absurd is) opens

pub stopped_opening : (fault : ArrayFault) (size : ℕ) (told : Option (List ℕ)) (r r-now w w-now : ℕ)
    → IfSome told (IsFoundFault fault) → HasArrayCause r r-now w w-now fault → Stopped Run size told r r-now w w-now (status_of fault)
stopped_opening (array.NotFormatted found) size told r r-now w w-now is cause =
    (refl, told_goes told (IsFoundFault (array.NotFormatted found)) IsUnformatted (λ c e. (found, e)) is)
stopped_opening (array.Damaged damage) size told r r-now w w-now is cause = (refl, is)
stopped_opening (array.Disk disk_fault.Read) size told r r-now w w-now is cause = inl cause
stopped_opening (array.Disk disk_fault.Write) size told r r-now w w-now is cause = inr cause
stopped_opening array.NoMemory size told r r-now w w-now is cause = tt

pub stopped_making : (fault : ArrayFault) (geometry : Geometry) (size : ℕ) (told : Option (List ℕ)) (r r-now w w-now : ℕ)
    → IsMakingFault w w-now fault → Stopped (New geometry) size told r r-now w w-now (status_of fault)
stopped_making (array.NotFormatted found) geometry size told r r-now w w-now is = absurd is
stopped_making (array.Damaged damage) geometry size told r r-now w w-now is = absurd is
stopped_making (array.Disk fault) geometry size told r r-now w w-now is = inr is.1
stopped_making array.NoMemory geometry size told r r-now w w-now is = tt

same_err : (found : Found) (a b : OpenFault) → found ≡ Err a → found ≡ Err b → a ≡ b
same_err found a b e f = cc

pub ends_as_found : (fault : ArrayFault) (told : Option (List ℕ)) → IfSome told (IsFoundFault fault) → IfSome told (EndsAsFound (status_of fault))
ends_as_found (array.NotFormatted found) told is =
    told_goes told (IsFoundFault (array.NotFormatted found)) (EndsAsFound status.NotFormatted)
    (λ c e fault f. inl (ap status_for (same_err (opened c) (journal.NotFormatted found) fault e f))) is
ends_as_found (array.Damaged damage) told is =
    told_goes told (IsFoundFault (array.Damaged damage)) (EndsAsFound (status.Damaged damage))
    (λ c e fault f. inl (ap status_for (same_err (opened c) (journal.Damaged damage) fault e f))) is
ends_as_found (array.Disk cause) told is = told_goes told (IsFoundFault (array.Disk cause)) (EndsAsFound status.DeviceFault) (λ c e fault f. inr (inl refl)) is
ends_as_found array.NoMemory told is = told_goes told (IsFoundFault array.NoMemory) (EndsAsFound status.NoMemory) (λ c e fault f. inr (inr refl)) is

-- a fault of the array is told after its disk was looked at
pub after_disk : (fault : ArrayFault) → is_before_disk (status_of fault) ≡ false
after_disk (array.NotFormatted found) = refl
after_disk (array.Damaged damage) = refl
after_disk (array.Disk cause) = refl
after_disk array.NoMemory = refl
