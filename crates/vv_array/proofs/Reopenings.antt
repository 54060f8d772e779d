-- How a call for which the image is opened again is a step: what the image that is read stands for is the array of the state,
-- or one of the two. This serves calls of an array that is down, and restarts.
use Rattle.std.proofs.Common.{◌≡◌, ◌⊎◌, inl, inr, ⊎_elim, ℕ, Bool, true, false, List, Option, None, Some, Ok, Err, IfSome, refl, ap, ◌∙◌, subst}
use Rattle.vv_units.specs.declared.damage.DiskFault.TheVariants as disk
use Rattle.vv_units.specs.declared.damage.Part.TheVariants.{Gate}
use Rattle.vv_units.specs.declared.geometry.Geometry.{Geometry}
use Rattle.vv_disk.specs.Images.{EachImage, LeavesOnly}
use Rattle.vv_disk.proofs.Moments.{leaves_weaker, leaves_joined}
use Rattle.vv_flat.specs.State.{Durable, Array, Volatile}
use Rattle.vv_flat.specs.Chunks.{Entry, ChunkValue, filled_tables}
use Rattle.vv_flat.specs.Profiles.{Capability}
use Rattle.vv_flat.specs.Restart.{restarted}
use Rattle.vv_calls.specs.Lines.{line_reading}
use Rattle.vv_calls.specs.declared.call.Call.{Call}
use Rattle.vv_calls.specs.declared.call.Call.TheVariants as call
use Rattle.vv_reply.specs.declared.reply.Reply.{Reply}
use Rattle.vv_reply.specs.declared.reply.Reply.TheVariants.{Refused}
use Rattle.vv_reply.specs.declared.reply.Refusal.{Refusal}
use Rattle.vv_reply.specs.declared.reply.Refusal.TheVariants as refusal
use Rattle.vv_journal.specs.Log.{Log, Holds}
use Rattle.vv_journal.specs.declared.opening.OpenFault.{OpenFault}
use Rattle.vv_journal.specs.declared.opening.OpenFault.TheVariants as journal
use Rattle.vv_image.specs.Opening.{Found, opened}
use Rattle.vv_image.specs.Standing.{array_in, array_found, array_over, bytes_at_place, Stands}
use Rattle.vv_meaning.specs.Steps as step
use Rattle.vv_meaning.specs.Steps.{State, Up, Down, Step, CallStep, ReopenedStep, is_restart, no_memory}
use Rattle.vv_array.specs.Seen.{ArrayView, IsUp, IsDown}
use Rattle.vv_array.specs.Standing.{UpOn, StandsFor, StandsKept, flat_over}
use Rattle.vv_array.specs.Moments.{StandsForOne, StandsBetween}
use Rattle.vv_array.specs.Opening.{IsFoundFault, OpensAs, StandsOpened}
use Rattle.vv_array.specs.Executing.{IsStep, is_reopening, IsUndamaged}
use Rattle.vv_array.specs.Reopening.{refusal_for}
use Rattle.vv_array.specs.declared.fault.ArrayFault.{ArrayFault}
use Rattle.vv_array.specs.declared.fault.ArrayFault.TheVariants as fault
use Rattle.vv_array.proofs.StateImages.{stands_each}

-- ---- what is told of a content

some_here : {A : Type 0} (o : Option A) (P : A → Type 0) (x : A) → o ≡ Some x → IfSome o P → P x
some_here o P x is has = subst (λ (t : Option _). IfSome t P) is has

-- ---- what the image stands for

-- the tables for which an image stands
found_tables : (image : List ℕ) (f : Found) (m : Array ChunkValue) → array_found image f ≡ Some m → (d : Durable Entry) × (f ≡ Ok d) × (array_over image d ≡ m)
found_tables image (Ok d) m is = (d, refl, some_one (array_over image d) m is)
  where
    some_one : (a b : Array ChunkValue) → Some a ≡ Some b → a ≡ b
    some_one a b same = cc
found_tables image (Err f) m is = absurd cc

stands_tables : (image : List ℕ) (m : Array ChunkValue) → Stands image m → (d : Durable Entry) × (opened image ≡ Ok d) × (array_over image d ≡ m)
unfolding array_in
stands_tables image m stands = found_tables image (opened image) m stands

-- the tables that were opened are those of the image
tables_same : (f : Found) (d e : Durable Entry) → f ≡ Ok d → f ≡ Ok e → e ≡ d
tables_same f d e is was = cc

-- An image that is kept is opened as the array for which it stands.
opened_stands : (view : ArrayView) (n : ℕ) (m : Array ChunkValue) (c : List ℕ) (told : Option (List ℕ)) (images : List ℕ → Type 0) → StandsKept m c → OpensAs view n c
    → ((log : Log) → Holds log c → StandsOpened view c told images) → StandsFor view told images (Up (restarted m)) × (n ≡ m.durable.lsn)
opened_stands (IsUp j core) n m c told images kept opens stands =
    let found = stands_tables c (restarted m) kept.stands in
    let same : core.array.durable ≡ found.0 = tables_same (opened c) found.0 core.array.durable found.1 opens.0.tables in
    let over : array_over c core.array.durable ≡ restarted m = ap (λ (d : Durable Entry). array_over c d) same ∙ found.2 in
    let flat : flat_over c core.array ≡ restarted m =
    ap {B = Array ChunkValue} (λ (v : Volatile). record { durable = filled_tables (bytes_at_place core.array.durable.geometry c) core.array.durable; volatile = v }) opens.0.waiting ∙ over in (
      subst (λ (x : Array ChunkValue). UpOn j core.array told images x) flat (stands kept.log kept.holds),
      opens.1 ∙ ap (λ (x : Array ChunkValue). x.durable.lsn) over,
    )
opened_stands (IsDown geometry) n m c told images kept opens stands = absurd opens

-- an image that stands for an array has no fault
no_fault : (image : List ℕ) (m : Array ChunkValue) (f : OpenFault) → Stands image m → opened image ≡ Err f → ⊥
no_fault image m f stands is = ok_is_err (opened image) (stands_tables image m stands).0 f (stands_tables image m stands).1 is
  where
    ok_is_err : (x : Found) (d : Durable Entry) (g : OpenFault) → x ≡ Ok d → x ≡ Err g → ⊥
    ok_is_err x d g good bad = cc

kept_undamaged : (f : ArrayFault) (m : Array ChunkValue) (image : List ℕ) → StandsKept m image → IsFoundFault f image → IsUndamaged (Refused (refusal_for f))
kept_undamaged (fault.NotFormatted found) m image kept is damage same = no_fault image (restarted m) (journal.NotFormatted found) kept.stands is
kept_undamaged (fault.Damaged found) m image kept is damage same = no_fault image (restarted m) (journal.Damaged found) kept.stands is
kept_undamaged (fault.Disk disk.Read) m image kept is damage same = absurd cc
kept_undamaged (fault.Disk disk.Write) m image kept is damage same = absurd cc
kept_undamaged fault.NoMemory m image kept is damage same = absurd cc

one_undamaged : (f : ArrayFault) (state : State) (image : List ℕ) → StandsForOne state image → IsFoundFault f image → IsUndamaged (Refused (refusal_for f))
one_undamaged f (Up m) image stands is = kept_undamaged f m image stands is
one_undamaged f (Down a b) image stands is = ⊎_elim (λ kept. kept_undamaged f a image kept is) (λ kept. kept_undamaged f b image kept is) stands

-- Where an array stands on the disk, no damage is told.
pub fault_undamaged : (f : ArrayFault) (view : ArrayView) (told : Option (List ℕ)) (images : List ℕ → Type 0) (state : State) → StandsFor view told images state
    → (c : List ℕ) × (told ≡ Some c) × images c → IfSome told (IsFoundFault f) → IsUndamaged (Refused (refusal_for f))
fault_undamaged f view told images state stands content found =
    one_undamaged f state content.0 (stands_each view told images state stands content.0 content.2) (some_here told (IsFoundFault f) content.0 content.1 found)

-- ---- a reopening that fails

memory_or_fault : (f : ArrayFault) → (refusal_for f ≡ refusal.NoMemory) ⊎ step.IsReopenFault (Refused (refusal_for f))
memory_or_fault (fault.NotFormatted found) = inr (step.Damaged (record { part = Gate; place = 0; found = found }) refl)
memory_or_fault (fault.Damaged damage) = inr (step.Damaged damage refl)
memory_or_fault (fault.Disk disk.Read) = inr (step.ReadFault refl)
memory_or_fault (fault.Disk disk.Write) = inr (step.WriteFault refl)
memory_or_fault fault.NoMemory = inl refl

restart_is : (c : Call) → is_restart c ≡ true → c ≡ call.Restart
restart_is call.Restart is = refl
restart_is c is = absurd cc

restart_line : (line : List ℕ) (c : Call) → is_restart c ≡ true → line_reading line ≡ Ok c → line_reading line ≡ Ok call.Restart
restart_line line c is e = e ∙ ap (λ (x : Call). Ok x) (restart_is c is)

told_none : (f : ArrayFault) → refusal_for f ≡ refusal.NoMemory → Refused (refusal_for f) ≡ no_memory
told_none f is = ap (λ (r : Refusal). Refused r) is

failed_restart : (capabilities : List Capability) (m : Array ChunkValue) (c : Call) (f : ArrayFault) → is_restart c ≡ true → IsStep capabilities (Up m) c None (Refused (refusal_for f)) (Down m m)
failed_restart capabilities m c f is line e =
    ⊎_elim (λ none. step.RestartWithoutMemory m refl (restart_line line c is e) refl (told_none f none) refl)
    (λ told. step.RestartFailed m refl (restart_line line c is e) refl told refl) (memory_or_fault f)

failed_reopening : (capabilities : List Capability) (a b : Array ChunkValue) (c : Call) (f : ArrayFault) → IsStep capabilities (Down a b) c None (Refused (refusal_for f)) (Down a b)
failed_reopening capabilities a b c f line e =
    ⊎_elim (λ none. step.NoMemory refl (told_none f none) refl)
    (λ told. step.ReopenFailed a b c refl e refl told refl) (memory_or_fault f)

module _ {D : Type 0} (moment : D → ℕ) (left_since : D → ℕ → List ℕ → Type 0) (old new : D) (capabilities : List Capability) (c : Call) (told later : Option (List ℕ)) (images laters : List ℕ → Type 0) (geometry : Geometry) where
  -- The image couldn't be opened again: the array is down, over images from before.
  pub failed_step : (f : ArrayFault) (view : ArrayView) (before : State) → is_reopening view c ≡ true → StandsFor view told images before → EachImage images laters → LeavesOnly moment left_since old new images
      → (after : State) × StandsFor (IsDown geometry) later laters after × IsStep capabilities before c None (Refused (refusal_for f)) after × LeavesOnly moment left_since old new (StandsBetween before after)
  failed_step f (IsUp j core) (Up m) is stands fewer left =
      let each : EachImage (StandsKept m) images = stands_each (IsUp j core) told images (Up m) stands in (
        Down m m,
        (λ image here. inl (each image (fewer image here))),
        failed_restart capabilities m c f is,
        leaves_weaker moment left_since old new images (StandsBetween (Up m) (Down m m)) (λ image here. inl (each image here)) left,
      )
  failed_step f (IsDown g) (Down a b) is stands fewer left = (
    Down a b,
    (λ image here. stands image (fewer image here)),
    failed_reopening capabilities a b c f,
    leaves_weaker moment left_since old new images (StandsBetween (Down a b) (Down a b)) (λ image here. inl (stands image here)) left,
  )
  failed_step f (IsUp j core) (Down a b) is stands fewer left = absurd stands
  failed_step f (IsDown g) (Up m) is stands fewer left = absurd stands

-- ---- a reopening that succeeds

-- what stands for an array that was restarted stands for it
kept_restarted : (m : Array ChunkValue) → EachImage (StandsKept m) (StandsKept (restarted m))
kept_restarted m image kept = record { log = kept.log; holds = kept.holds; stands = kept.stands }

true_is_no_false : (b : Bool) → b ≡ true → b ≡ false → ⊥
true_is_no_false b is was = cc

-- A restart of an array that is up was done by the reopening.
restarted_step : (capabilities : List Capability) (m : Array ChunkValue) (c : Call) (n : ℕ) (answer : Reply) (after : State) → is_restart c ≡ true → n ≡ m.durable.lsn
    → ReopenedStep capabilities (restarted m) c answer after → IsStep capabilities (Up m) c (Some n) answer after
restarted_step capabilities m c n answer after is number (step.Restarted yes_restart answered next) line e =
    step.Restarted m refl (restart_line line c is e) (ap (λ (k : ℕ). Some k) number) answered next
restarted_step capabilities m c n answer after is number (step.Called no_restart called) line e = absurd (true_is_no_false (is_restart c) is no_restart)

opened_step : (capabilities : List Capability) (a b m : Array ChunkValue) (c : Call) (n : ℕ) (answer : Reply) (after : State) → (m ≡ a) ⊎ (m ≡ b) → n ≡ m.durable.lsn
    → ReopenedStep capabilities (restarted m) c answer after → IsStep capabilities (Down a b) c (Some n) answer after
opened_step capabilities a b m c n answer after one number served line e = step.Reopened a b m c refl e one (ap (λ (k : ℕ). Some k) number) served

module _ {D : Type 0} (moment : D → ℕ) (left_since : D → ℕ → List ℕ → Type 0) (old mid new : D) (capabilities : List Capability) (c : Call) (answer : Reply) (n : ℕ) (opened_view new_view : ArrayView) (told here later : Option (List ℕ)) (images heres laters : List ℕ → Type 0) where
  -- what a call that was served from a state leaves, which stands for what these images stood for
  left_joined : (before from after : State) → EachImage (StandsForOne before) images → EachImage (StandsForOne before) (StandsForOne from)
      → LeavesOnly moment left_since old mid images → LeavesOnly moment left_since mid new (StandsBetween from after) → LeavesOnly moment left_since old new (StandsBetween before after)
  left_joined before from after each same first second =
      leaves_joined moment left_since old mid new (StandsBetween before after)
      (leaves_weaker moment left_since old mid images (StandsBetween before after) (λ image is. inl (each image is)) first)
      (leaves_weaker moment left_since mid new (StandsBetween from after) (StandsBetween before after) (λ image left. ⊎_elim (λ was. inl (same image was)) (λ now. inr now) left) second)

  down_served : (a b m : Array ChunkValue) → (m ≡ a) ⊎ (m ≡ b) → EachImage (StandsForOne (Down a b)) (StandsKept m) → (k : List ℕ) → StandsKept m k → OpensAs opened_view n k → ((log : Log) → Holds log k → StandsOpened opened_view k here heres)
      → EachImage (StandsForOne (Down a b)) images → LeavesOnly moment left_since old mid images
      → ((x : Array ChunkValue) → StandsFor opened_view here heres (Up x) → (after : State) × StandsFor new_view later laters after × ReopenedStep capabilities x c answer after × LeavesOnly moment left_since mid new (StandsBetween (Up x) after))
      → (after : State) × StandsFor new_view later laters after × IsStep capabilities (Down a b) c (Some n) answer after × LeavesOnly moment left_since old new (StandsBetween (Down a b) after)
  down_served a b m one for_one k kept opens stands each first served =
      let up = opened_stands opened_view n m k here heres kept opens stands in
      let s = served (restarted m) up.0 in (
        s.0,
        s.1,
        opened_step capabilities a b m c n answer s.0 one up.1 s.2,
        left_joined (Down a b) (Up (restarted m)) s.0 each (λ image was. for_one image (kept_restarted m image was)) first s.3,
      )

  -- The image was opened again, and the call was served by the array that stands on it.
  pub reopened_step : (view : ArrayView) (before : State) → is_reopening view c ≡ true → StandsFor view told images before
      → (k : List ℕ) × (told ≡ Some k) × images k → IfSome told (OpensAs opened_view n)
      → IfSome told (λ k. (log : Log) → Holds log k → StandsOpened opened_view k here heres)
      → LeavesOnly moment left_since old mid images
      → ((x : Array ChunkValue) → StandsFor opened_view here heres (Up x) → (after : State) × StandsFor new_view later laters after × ReopenedStep capabilities x c answer after × LeavesOnly moment left_since mid new (StandsBetween (Up x) after))
      → (after : State) × StandsFor new_view later laters after × IsStep capabilities before c (Some n) answer after × LeavesOnly moment left_since old new (StandsBetween before after)
  reopened_step (IsUp j core) (Up m) is stands content opens up first served =
      let each : EachImage (StandsKept m) images = stands_each (IsUp j core) told images (Up m) stands in
      let here_up = opened_stands opened_view n m content.0 here heres (each content.0 content.2) (some_here told (OpensAs opened_view n) content.0 content.1 opens)
      (some_here told (λ k. (log : Log) → Holds log k → StandsOpened opened_view k here heres) content.0 content.1 up) in
      let s = served (restarted m) here_up.0 in (
        s.0,
        s.1,
        restarted_step capabilities m c n answer s.0 is here_up.1 s.2,
        left_joined (Up m) (Up (restarted m)) s.0 each (kept_restarted m) first s.3,
      )
  reopened_step (IsDown g) (Down a b) is stands content opens up first served =
      let k = content.0 in
      let opens_k = some_here told (OpensAs opened_view n) k content.1 opens in
      let up_k = some_here told (λ k. (log : Log) → Holds log k → StandsOpened opened_view k here heres) k content.1 up in
      ⊎_elim (λ kept. down_served a b a (inl refl) (λ image was. inl was) k kept opens_k up_k stands first served)
      (λ kept. down_served a b b (inr refl) (λ image was. inr was) k kept opens_k up_k stands first served)
      (stands k content.2)
  reopened_step (IsUp j core) (Down a b) is stands content opens up first served = absurd stands
  reopened_step (IsDown g) (Up m) is stands content opens up first served = absurd stands

-- ---- a call without a reopening

module _ {D : Type 0} (moment : D → ℕ) (left_since : D → ℕ → List ℕ → Type 0) (old new : D) (capabilities : List Capability) (c : Call) (answer : Reply) (new_view : ArrayView) (told later : Option (List ℕ)) (images laters : List ℕ → Type 0) where
  pub called_step : (view : ArrayView) (before : State) → is_reopening view c ≡ false → StandsFor view told images before
      → ((m : Array ChunkValue) → StandsFor view told images (Up m) → (after : State) × StandsFor new_view later laters after × CallStep capabilities m c answer after × LeavesOnly moment left_since old new (StandsBetween (Up m) after))
      → (after : State) × StandsFor new_view later laters after × IsStep capabilities before c None answer after × LeavesOnly moment left_since old new (StandsBetween before after)
  called_step (IsUp j core) (Up m) is stands served =
      let s = served m stands in
      (s.0, s.1, (λ line e. step.Called m c refl e is refl s.2), s.3)
  called_step (IsUp j core) (Down a b) is stands served = absurd stands
  called_step (IsDown g) before is stands served = absurd cc
