-- What holds of an array that is up while calls of its journal write to the disk: it stays up, and each image that a crash
-- leaves stands for it. It serves the switch to the other half.
use Rattle.std.proofs.Common.{◌≡◌, ℕ, ◌+◌, true, List, [], ◌++◌, length, take, drop, Option, None, Some, IfSome, Ok, refl, sym, ap, ◌∙◌, subst, ⊎_elim, arith}
use Rattle.std.proofs.Math.Seq.{take-length}
use Rattle.std.proofs.lemmas.List.{take-append-drop, take-take, drop-take}
use Rattle.vv_units.specs.declared.geometry.Geometry.{Geometry}
use Rattle.vv_disk.specs.Images.{EachImage, LeavesOnly, ToldWithin}
use Rattle.vv_disk.specs.ImageLaws.{DiffersWithin-same}
use Rattle.vv_disk.proofs.Moments.{started, leaves_weaker, leaves_joined}
use Rattle.vv_data.specs.Layout.{chunks_at}
use Rattle.vv_flat.specs.State.{Durable, Array}
use Rattle.vv_flat.specs.Chunks.{Entry, ChunkValue}
use Rattle.vv_flat.specs.Restart.{restarted}
use Rattle.vv_flat.specs.WellFormed.{is_well_formed}
use Rattle.vv_laws.proofs.OtherContents.{same_filled}
use Rattle.vv_area.specs.Spelling.{area_spelling}
use Rattle.vv_journal.specs.Log.{Log, Holds}
use Rattle.vv_journal.specs.Calls.{JournalState, journal_of, HasChunksOf, HoldsOver, HoldsEither}
use Rattle.vv_journal.specs.Switches.{SwitchingState, other_half, IsSwitchFrom, HasTables, switched_log}
use Rattle.vv_journal.proofs.Callers.{chunk_from_before, chunk_still_told, switched_continues}
use Rattle.vv_image.specs.Opening.{log_tables}
use Rattle.vv_image.specs.Standing.{bytes_at_place}
use Rattle.vv_image.proofs.Records.{new_log}
use Rattle.vv_image.proofs.FoundArrays.{array_of_log}
use Rattle.vv_array.specs.Standing.{flat_over, HasNamed, StandsKept, UpOn}
use Rattle.vv_array.specs.SwitchSteps.{IsSwitchOf, HasFirst, KeepsUp}

-- ---- the same bytes at the named places

-- the flat array is that of any content with these bytes
flat_of_named : (a : Array Entry) (content other : List ℕ) → HasNamed a.durable content other → flat_over other a ≡ flat_over content a
flat_of_named a content other named =
    ap (λ (d : Durable ChunkValue). let m : Array ChunkValue = record { durable = d; volatile = a.volatile } in m)
    (same_filled (bytes_at_place a.durable.geometry other) (bytes_at_place a.durable.geometry content) a.durable named)

-- an image that holds a log for the tables, with these bytes, stands for the array
image_kept : (log : Log) (a : Array Entry) (content : List ℕ) (m : Array ChunkValue) → log_tables log ≡ Ok a.durable → flat_over content a ≡ m
    → (image : List ℕ) → Holds log image → HasNamed a.durable content image → StandsKept m image
image_kept log a content m tables is image holds named = record {
  log = log;
  holds = holds;
  stands =
      array_of_log log image a.durable holds.is tables
      ∙ ap (λ (x : Array ChunkValue). Some (restarted x)) (flat_of_named a content image named ∙ is);
}

-- each image of an array that is up stands for it
pub up_images : (journal : JournalState) (a : Array Entry) (told : Option (List ℕ)) (images : List ℕ → Type 0) (m : Array ChunkValue)
    → UpOn journal a told images m → EachImage (StandsKept m) images
up_images journal a told images m up image is =
    image_kept up.log a up.content m up.tables up.array_is image (up.holds image is) (up.named image is)

-- an image with chunks from before has the named bytes
named_before : (d : Durable Entry) (geometry : Geometry) (content : List ℕ) (images : List ℕ → Type 0) → geometry ≡ d.geometry
    → EachImage (HasNamed d content) images → EachImage (HasNamed d content) (HasChunksOf geometry images)
named_before d geometry content images same each image has place named =
    let there : HasChunksOf d.geometry images image = subst (λ (g : Geometry). HasChunksOf g images image) same has in
    let from = chunk_from_before d.geometry (record { 0 = place }) images image there in
    from.2 ∙ each from.0 from.1 place named

-- and so has what is told
pub record ToldLater (d : Durable Entry) (content : List ℕ) (told : Option (List ℕ)) : Type 0 where
  pub later : List ℕ
  pub is : told ≡ Some later
  pub named : HasNamed d content later

named_told : (d : Durable Entry) (geometry : Geometry) (content : List ℕ) (told0 told1 : Option (List ℕ)) → geometry ≡ d.geometry → told0 ≡ Some content
    → ToldWithin 0 (chunks_at geometry) told0 told1 → ToldLater d content told1
named_told d geometry content None told1 same is within = absurd cc
named_told d geometry content (Some c) None same is within = absurd within
named_told d geometry content (Some c) (Some later) same is within = record {
  later = later;
  is = refl;
  named = λ place named.
      subst (λ (g : Geometry). bytes_at_place g later place ≡ bytes_at_place g content place) same
      (chunk_still_told geometry (record { 0 = place }) content (Some c) (Some later) is within);
}

-- ---- one call

-- It is up over a log for the same tables that each image holds over chunks from before.
up_again : (journal new : JournalState) (log : Log) (geometry : Geometry) (a : Array Entry) (told0 told1 : Option (List ℕ)) (images0 images1 : List ℕ → Type 0) (m : Array ChunkValue)
    → UpOn journal a told0 images0 m → geometry ≡ a.durable.geometry → new ≡ journal_of log → log_tables log ≡ Ok a.durable
    → EachImage (Holds log) images1 → EachImage (HasChunksOf geometry images0) images1 → ToldWithin 0 (chunks_at geometry) told0 told1 → UpOn new a told1 images1 m
up_again journal new log geometry a told0 told1 images0 images1 m up same continues tables holds chunks within =
    let told = named_told a.durable geometry up.content told0 told1 same up.told_is within in
    record {
      log = log;
      continues = continues;
      holds = holds;
      tables = tables;
      content = told.later;
      told_is = told.is;
      named = λ image is place named.
          named_before a.durable geometry up.content images0 same up.named image (chunks image is) place named
          ∙ sym (told.named place named);
      array_is = flat_of_named a up.content told.later told.named ∙ up.array_is;
    }

-- the sizes of the log that a journal continues
sizes_of : (journal : JournalState) (log : Log) → journal ≡ journal_of log → log.geometry ≡ journal.geometry
sizes_of journal log continues = sym (ap (λ (j : JournalState). j.geometry) continues)

-- a switch from the half of a journal is one from the half of its log
pub switch_from : (journal : JournalState) (log : Log) (switching : SwitchingState) → journal ≡ journal_of log → IsSwitchOf journal switching → IsSwitchFrom log switching
switch_from journal log switching continues is =
    is ∙ ap (λ (j : JournalState). record { geometry = j.geometry; half = other_half j.half; done = switching.done; len = switching.len }) continues

module _ {D : Type 0} (content : D → Option (List ℕ)) (images : D → List ℕ → Type 0) (moment : D → ℕ) (left_since : D → ℕ → List ℕ → Type 0) where
  -- before the first call
  pub keeps_still : (disk : D) (journal : JournalState) (a : Array Entry) (m : Array ChunkValue) → EachImage (images disk) (left_since disk (moment disk))
      → UpOn journal a (content disk) (images disk) m → KeepsUp content images moment left_since disk disk journal a m
  keeps_still disk journal a m now up = record {
    up = up;
    left = started moment left_since disk (StandsKept m) (λ image left. up_images journal a (content disk) (images disk) m up image (now image left));
  }

  -- two calls, one after the other
  pub keeps_joined : (old mid new : D) (first second : JournalState) (a : Array Entry) (m : Array ChunkValue) → KeepsUp content images moment left_since old mid first a m
      → KeepsUp content images moment left_since mid new second a m → KeepsUp content images moment left_since old new second a m
  keeps_joined old mid new first second a m one two = record {
    up = two.up;
    left = leaves_joined moment left_since old mid new (StandsKept m) one.left two.left;
  }

  -- a call that leaves the log as it is
  pub step_keeps : (old new : D) (journal : JournalState) (a : Array Entry) (m : Array ChunkValue) → (up : UpOn journal a (content old) (images old) m)
      → journal.geometry ≡ a.durable.geometry → EachImage (HoldsOver up.log (images old)) (images new) → LeavesOnly moment left_since old new (HoldsOver up.log (images old))
      → ToldWithin 0 (chunks_at journal.geometry) (content old) (content new) → KeepsUp content images moment left_since old new journal a m
  step_keeps old new journal a m up sizes each leaves within =
      let same : up.log.geometry ≡ journal.geometry = sizes_of journal up.log up.continues in
      let told : ToldWithin 0 (chunks_at up.log.geometry) (content old) (content new) = subst (λ (g : Geometry). ToldWithin 0 (chunks_at g) (content old) (content new)) (sym same) within in
      record {
        up = up_again journal journal up.log up.log.geometry a (content old) (content new) (images old) (images new) m up (same ∙ sizes) up.continues up.tables
            (λ image is. (each image is).0) (λ image is. (each image is).1) told;
        left = leaves_weaker moment left_since old new (HoldsOver up.log (images old)) (StandsKept m)
            (λ image has. image_kept up.log a up.content m up.tables up.array_is image has.0 (named_before a.durable up.log.geometry up.content (images old) (same ∙ sizes) up.named image has.1)) leaves;
      }

  -- The end of a switch to the area of the tables, failed or not: what a crash leaves.
  pub switch_leaves : (old new : D) (journal : JournalState) (a : Array Entry) (m : Array ChunkValue) → (up : UpOn journal a (content old) (images old) m)
      → journal.geometry ≡ a.durable.geometry → is_well_formed a.durable ≡ true
      → LeavesOnly moment left_since old new (HoldsEither up.log (switched_log up.log (area_spelling 2 a.durable)) (images old)) → LeavesOnly moment left_since old new (StandsKept m)
  switch_leaves old new journal a m up sizes well leaves =
      let same : up.log.geometry ≡ a.durable.geometry = sizes_of journal up.log up.continues ∙ sizes in
      let after : Log = switched_log up.log (area_spelling 2 a.durable) in
      let tables : log_tables after ≡ Ok a.durable = new_log after a.durable well same refl refl refl in
      leaves_weaker moment left_since old new (HoldsEither up.log after (images old)) (StandsKept m)
      (λ image has.
      let named = named_before a.durable up.log.geometry up.content (images old) same up.named image has.1 in
      ⊎_elim (λ before. image_kept up.log a up.content m up.tables up.array_is image before named) (λ now. image_kept after a up.content m tables up.array_is image now named) has.0)
      leaves

  -- and where it succeeded
  pub switch_keeps : (old new : D) (journal next : JournalState) (switching : SwitchingState) (a : Array Entry) (m : Array ChunkValue) → (up : UpOn journal a (content old) (images old) m)
      → journal.geometry ≡ a.durable.geometry → is_well_formed a.durable ≡ true → IsSwitchOf journal switching
      → next ≡ record { geometry = switching.geometry; half = switching.half; records = 0 }
      → EachImage (HoldsOver (switched_log up.log (area_spelling 2 a.durable)) (images old)) (images new)
      → ToldWithin 0 (chunks_at journal.geometry) (content old) (content new) → UpOn next a (content new) (images new) m
  switch_keeps old new journal next switching a m up sizes well switch is each within =
      let same : up.log.geometry ≡ journal.geometry = sizes_of journal up.log up.continues in
      let after : Log = switched_log up.log (area_spelling 2 a.durable) in
      let tables : log_tables after ≡ Ok a.durable = new_log after a.durable well (same ∙ sizes) refl refl refl in
      let told : ToldWithin 0 (chunks_at up.log.geometry) (content old) (content new) = subst (λ (g : Geometry). ToldWithin 0 (chunks_at g) (content old) (content new)) (sym same) within in
      up_again journal next after up.log.geometry a (content old) (content new) (images old) (images new) m up (same ∙ sizes)
      (switched_continues up.log (area_spelling 2 a.durable) switching next (switch_from journal up.log switching up.continues switch) is) tables
      (λ image has. (each image has).0) (λ image has. (each image has).1) told

-- ---- the calls of a switch

-- what is told of an untouched content
pub told_same : (at n : ℕ) (told : Option (List ℕ)) → ToldWithin at n told told
told_same at n None = refl
told_same at n (Some c) = DiffersWithin-same at n c

-- a switch goes on
pub switch_on : (journal : JournalState) (old new : SwitchingState) (done : ℕ) → IsSwitchOf journal old → new ≡ record old { done = done } → IsSwitchOf journal new
switch_on journal old new done switch is =
    subst (λ (s : SwitchingState). IsSwitchOf journal s) (sym is) (ap (λ (s : SwitchingState). record s { done = done }) switch)

-- a switch with the sizes and the half for it is one from the half of its journal
pub switch_of : (journal : JournalState) (switching : SwitchingState) (done len : ℕ) → switching ≡ record { geometry = journal.geometry; half = other_half journal.half; done = done; len = len } → IsSwitchOf journal switching
switch_of journal switching done len is = subst (λ (s : SwitchingState). IsSwitchOf journal s) (sym is) refl

-- what a call of a switch says of the images of an old disk and of a new one, or of the moments between, for any log that they hold
abbrev pub ForAnyLog : SwitchingState → (List ℕ → Type 0) → (Log → Type 0) → Type 0
ForAnyLog switching images P = (log : Log) → IsSwitchFrom log switching → EachImage (Holds log) images → P log

module _ {D : Type 0} (content : D → Option (List ℕ)) (images : D → List ℕ → Type 0) (moment : D → ℕ) (left_since : D → ℕ → List ℕ → Type 0) where
  -- a piece of the tables is written, or a part of it
  pub piece_keeps : (old new : D) (switching : SwitchingState) (a : Array Entry) → switching.geometry ≡ a.durable.geometry
      → ForAnyLog switching (images old) (λ log. EachImage (HoldsOver log (images old)) (images new))
      → ForAnyLog switching (images old) (λ log. LeavesOnly moment left_since old new (HoldsOver log (images old)))
      → ToldWithin 0 (chunks_at switching.geometry) (content old) (content new)
      → (journal : JournalState) → (m : Array ChunkValue) → IsSwitchOf journal switching → UpOn journal a (content old) (images old) m → KeepsUp content images moment left_since old new journal a m
  piece_keeps old new switching a sizes each leaves within journal m switch up =
      let from : IsSwitchFrom up.log switching = switch_from journal up.log switching up.continues switch in
      let same : switching.geometry ≡ journal.geometry = ap (λ (s : SwitchingState). s.geometry) switch in
      step_keeps content images moment left_since old new journal a m up (sym same ∙ sizes) (each up.log from up.holds) (leaves up.log from up.holds)
      (subst (λ (g : Geometry). ToldWithin 0 (chunks_at g) (content old) (content new)) same within)

  -- a switch ends, or fails: what a crash leaves
  pub end_leaves : (old mid new : D) (journal : JournalState) (switching : SwitchingState) (a : Array Entry) (m : Array ChunkValue) → journal.geometry ≡ a.durable.geometry → is_well_formed a.durable ≡ true
      → IsSwitchOf journal switching → KeepsUp content images moment left_since old mid journal a m
      → ForAnyLog switching (images mid) (λ log. LeavesOnly moment left_since mid new (HoldsEither log (switched_log log (area_spelling 2 a.durable)) (images mid)))
      → LeavesOnly moment left_since old new (StandsKept m)
  end_leaves old mid new journal switching a m sizes well switch keeps leaves =
      let from : IsSwitchFrom keeps.up.log switching = switch_from journal keeps.up.log switching keeps.up.continues switch in
      leaves_joined moment left_since old mid new (StandsKept m) keeps.left
      (switch_leaves content images moment left_since mid new journal a m keeps.up sizes well (leaves keeps.up.log from keeps.up.holds))

  -- and that it stands where the switch ended
  pub end_stands : (mid new : D) (journal next : JournalState) (switching : SwitchingState) (a : Array Entry) (m : Array ChunkValue) → journal.geometry ≡ a.durable.geometry → is_well_formed a.durable ≡ true
      → IsSwitchOf journal switching → UpOn journal a (content mid) (images mid) m → next ≡ record { geometry = switching.geometry; half = switching.half; records = 0 }
      → ForAnyLog switching (images mid) (λ log. EachImage (HoldsOver (switched_log log (area_spelling 2 a.durable)) (images mid)) (images new))
      → ToldWithin 0 (chunks_at switching.geometry) (content mid) (content new) → UpOn next a (content new) (images new) m
  end_stands mid new journal next switching a m sizes well switch up is each within =
      let from : IsSwitchFrom up.log switching = switch_from journal up.log switching up.continues switch in
      let same : switching.geometry ≡ journal.geometry = ap (λ (s : SwitchingState). s.geometry) switch in
      switch_keeps content images moment left_since mid new journal next switching a m up sizes well switch is (each up.log from up.holds)
      (subst (λ (g : Geometry). ToldWithin 0 (chunks_at g) (content mid) (content new)) same within)

-- ---- the tables that are written

-- as many bytes as there are is all of them
pub all_first : (switching : SwitchingState) (d : Durable Entry) (told : Option (List ℕ)) → switching.done ≡ length (area_spelling 2 d)
    → HasFirst switching d told → IfSome told (HasTables switching (area_spelling 2 d))
all_first switching d told all has =
    let whole : take switching.done (area_spelling 2 d) ≡ area_spelling 2 d = ap (λ (n : ℕ). take n (area_spelling 2 d)) all ∙ take-length (area_spelling 2 d) in
    subst (λ (tables : List ℕ). IfSome told (HasTables switching tables)) whole has

-- nothing was written yet
pub none_first : (switching : SwitchingState) (d : Durable Entry) (told : Option (List ℕ)) → switching.done ≡ 0
    → IfSome told (HasTables switching []) → HasFirst switching d told
none_first switching d told none has =
    let nothing : [] ≡ take switching.done (area_spelling 2 d) = sym (ap (λ (n : ℕ). take n (area_spelling 2 d)) none) in
    subst (λ (tables : List ℕ). IfSome told (HasTables switching tables)) nothing has

take_more : (a n : ℕ) (l : List ℕ) → take (a + n) l ≡ take a l ++ take n (drop a l)
take_more a n l =
    sym (take-append-drop a (take (a + n) l))
    ∙ ap (λ (front : List ℕ). front ++ drop a (take (a + n) l)) (take-take a (a + n) l (omega arith))
    ∙ ap (λ (rest : List ℕ). take a l ++ rest) (drop-take a n l)

-- one piece more
pub more_first : (old new : SwitchingState) (d : Durable Entry) (told0 told1 : Option (List ℕ)) (piece : List ℕ) (at n : ℕ) → at ≡ old.done → new ≡ record old { done = at + n }
    → piece ≡ take n (drop at (area_spelling 2 d))
    → ((tables : List ℕ) → IfSome told0 (HasTables old tables) → IfSome told1 (HasTables new (tables ++ piece)))
    → HasFirst old d told0 → HasFirst new d told1
more_first old new d told0 told1 piece at n here counted is step has =
    let area : List ℕ = area_spelling 2 d in
    let done : new.done ≡ old.done + n = ap (λ (s : SwitchingState). s.done) counted ∙ ap (λ (k : ℕ). k + n) here in
    let joined : take old.done area ++ piece ≡ take new.done area =
    ap (λ (l : List ℕ). take old.done area ++ l) (is ∙ ap (λ (k : ℕ). take n (drop k area)) here)
    ∙ sym (take_more old.done n area) ∙ ap (λ (k : ℕ). take k area) (sym done) in
    subst (λ (tables : List ℕ). IfSome told1 (HasTables new tables)) joined (step (take old.done area) has)
