-- What a crash may leave over the calls of this crate.
use Rattle.std.proofs.Common.{◌≡◌, inl, inr, ⊎_elim, ℕ, ◌+◌, ◌<◌, ◌≤◌, List, [], ◌∷◌, length, get_or, Option, None, Some, IfSome, IsSomeAnd, option_map, Result, Ok, Err, OnOk, OnErr, sym, ap, ◌∙◌, subst, arith}
use Rattle.vv_units.specs.declared.geometry.Geometry.{Geometry}
use Rattle.vv_disk.specs.Images.{overwritten, DiffersWithin, ToldWithin, EachImage, OnlyTold, LeavesOnly}
use Rattle.vv_disk.specs.ImageLaws.{DiffersWithin-same, overwritten_within}
use Rattle.vv_disk.proofs.Bytes.{within_wider, within_twice}
use Rattle.vv_disk.proofs.Moments.{started, leaves_weaker, leaves_joined}
use Rattle.vv_data.specs.Layout.{chunks_at}
use Rattle.vv_journal.specs.Half.{gates_at, slot_at, payload_at}
use Rattle.vv_journal.specs.Log.{Log, Holds, with_record}
use Rattle.vv_journal.specs.Calls.{JournalState, journal_of, ChangedWithin, LiesIn, HasChunksOf, HoldsOver, HoldsAppended}
use Rattle.vv_journal.proofs.Bytes.{byte_written}
use Rattle.vv_journal.proofs.Appended.{slot_kept, gate_open, gate_either}

pub on_ok : {T E : Type 0} (r : Result T E) (P : Type 0) → P → OnOk r P
on_ok (Ok x) P p = p
on_ok (Err e) P p = tt

pub on_err : {T E : Type 0} (r : Result T E) (P : Type 0) → P → OnErr r P
on_err (Ok x) P p = tt
on_err (Err e) P p = p

-- ---- ranges

pub unchanged : (at n : ℕ) (images : List ℕ → Type 0) → EachImage (ChangedWithin at n images) images
unchanged at n images image is = (image, is, DiffersWithin-same at n image)

pub changed_wider : (at n low m : ℕ) (images : List ℕ → Type 0) → low ≤ at → at + n ≤ low + m → EachImage (ChangedWithin low m images) (ChangedWithin at n images)
changed_wider at n low m images from to image changed = (changed.0, changed.1, within_wider at n low m changed.0 image from to changed.2)

-- two changes inside one range
pub changed_twice : (at n low m : ℕ) (first second : List ℕ → Type 0) → low ≤ at → at + n ≤ low + m → EachImage (ChangedWithin low m first) second → EachImage (ChangedWithin low m first) (ChangedWithin at n second)
changed_twice at n low m first second from to each image changed =
    let earlier = each changed.0 changed.1 in
    (earlier.0, earlier.1, within_twice low m earlier.0 changed.0 image earlier.2 (within_wider at n low m changed.0 image from to changed.2))

each_then : (P Q images : List ℕ → Type 0) → EachImage Q P → EachImage P images → EachImage Q images
each_then P Q images next each image is = next image (each image is)

module _ {D : Type 0} (moment : D → ℕ) (left_since : D → ℕ → List ℕ → Type 0) where
  -- before the first call
  pub begun : (disk : D) (at n : ℕ) (images : List ℕ → Type 0) → ((image : List ℕ) → left_since disk (moment disk) image → images image) → LeavesOnly moment left_since disk disk (ChangedWithin at n images)
  begun disk at n images now = started moment left_since disk (ChangedWithin at n images) (λ image left. unchanged at n images image (now image left))

  -- what changed inside a range changed inside a wider one
  pub leaves_within : (old new : D) (at n low m : ℕ) (images : List ℕ → Type 0) → LiesIn at n low m → LeavesOnly moment left_since old new (ChangedWithin at n images) → LeavesOnly moment left_since old new (ChangedWithin low m images)
  leaves_within old new at n low m images lies leaves =
      leaves_weaker moment left_since old new (ChangedWithin at n images) (ChangedWithin low m images) (changed_wider at n low m images lies.from lies.to) leaves

  -- and then it changed inside a part of it again
  pub then_within : (old mid new : D) (at n low m : ℕ) (first second : List ℕ → Type 0) → LiesIn at n low m → LeavesOnly moment left_since old mid (ChangedWithin low m first) → EachImage (ChangedWithin low m first) second
      → LeavesOnly moment left_since mid new (ChangedWithin at n second) → LeavesOnly moment left_since old new (ChangedWithin low m first)
  then_within old mid new at n low m first second lies so_far each leaves =
      leaves_joined moment left_since old mid new (ChangedWithin low m first) so_far
      (leaves_weaker moment left_since mid new (ChangedWithin at n second) (ChangedWithin low m first) (changed_twice at n low m first second lies.from lies.to each) leaves)

-- ---- contents that may be told

pub told_written : (told0 told1 : Option (List ℕ)) (at : ℕ) (bytes : List ℕ) → told1 ≡ option_map (λ c. overwritten c at bytes) told0 → ToldWithin at (length bytes) told0 told1
told_written None told1 at bytes is = is
told_written (Some c) told1 at bytes is = subst (λ t. IsSomeAnd t (DiffersWithin at (length bytes) c)) (sym is) (overwritten_within c at bytes)

pub told_wider : (at n low m : ℕ) (told0 told1 : Option (List ℕ)) → low ≤ at → at + n ≤ low + m → ToldWithin at n told0 told1 → ToldWithin low m told0 told1
told_wider at n low m None told1 from to is = is
told_wider at n low m (Some c) None from to is = is
told_wider at n low m (Some c) (Some d) from to is = within_wider at n low m c d from to is

pub told_twice : (low m : ℕ) (told0 told1 told2 : Option (List ℕ)) → ToldWithin low m told0 told1 → ToldWithin low m told1 told2 → ToldWithin low m told0 told2
told_twice low m None told1 told2 first second = subst (λ t. ToldWithin low m t told2) first second
told_twice low m (Some c) None told2 first second = absurd first
told_twice low m (Some c) (Some d) None first second = second
told_twice low m (Some c) (Some d) (Some e) first second = within_twice low m c d e first second

-- ---- chunks

pub chunks_kept : (geometry : Geometry) (at n : ℕ) (images : List ℕ → Type 0) → at + n ≤ chunks_at geometry → EachImage (HasChunksOf geometry images) (ChangedWithin at n images)
chunks_kept geometry at n images le image changed = changed_wider at n 0 (chunks_at geometry) images (omega arith) (omega (arith, le)) image changed

pub chunks_kept_twice : (geometry : Geometry) (at n : ℕ) (first second : List ℕ → Type 0) → at + n ≤ chunks_at geometry → EachImage (HasChunksOf geometry first) second → EachImage (HasChunksOf geometry first) (ChangedWithin at n second)
chunks_kept_twice geometry at n first second le each image changed = changed_twice at n 0 (chunks_at geometry) first second (omega arith) (omega (arith, le)) each image changed

-- one change more of an image that has the chunks of an earlier one
pub chunks_still : (geometry : Geometry) (at n : ℕ) (images : List ℕ → Type 0) (mid image : List ℕ) → at + n ≤ chunks_at geometry → DiffersWithin at n mid image → HasChunksOf geometry images mid → HasChunksOf geometry images image
chunks_still geometry at n images mid image le is chunks =
    (chunks.0, chunks.1, within_twice 0 (chunks_at geometry) chunks.0 mid image chunks.2 (within_wider at n 0 (chunks_at geometry) mid image (omega arith) (omega (arith, le)) is))

-- ---- an append

-- where the next record of a log goes
abbrev pub next_slot : JournalState → ℕ
next_slot journal = slot_at journal.geometry journal.half journal.records

abbrev pub next_gate : JournalState → ℕ
next_gate journal = gates_at journal.geometry journal.half + journal.records

-- the record stands in its slot, over the chunks that were read before, and its gate isn't open
pub record Staged (log : Log) (payload : List ℕ) (told0 : Option (List ℕ)) (image : List ℕ) : Type 0 where
  pub holds : Holds log image
  pub slot : payload_at (next_slot (journal_of log)) image ≡ Some payload
  pub chunks : HasChunksOf log.geometry (λ c. told0 ≡ Some c) image

-- an image that is told has the chunks of the one that was told before
told_chunks : (geometry : Geometry) (at n : ℕ) (told0 told1 : Option (List ℕ)) (first image : List ℕ) → at + n ≤ chunks_at geometry → told0 ≡ Some first → ToldWithin at n told0 told1 → told1 ≡ Some image → HasChunksOf geometry (λ c. told0 ≡ Some c) image
told_chunks geometry at n told0 told1 first image le is0 within is1 =
    let there : ToldWithin at n (Some first) (Some image) = subst (λ t. ToldWithin at n (Some first) t) is1 (subst (λ t. ToldWithin at n t told1) is0 within) in
    (first, is0, within_wider at n 0 (chunks_at geometry) first image (omega arith) (omega (arith, le)) there)

-- the chunks that are read now are those of an image now
chunks_of_told : (geometry : Geometry) (told0 : Option (List ℕ)) (first : List ℕ) (images : List ℕ → Type 0) → told0 ≡ Some first → images first → EachImage (HasChunksOf geometry images) (HasChunksOf geometry (λ c. told0 ≡ Some c))
chunks_of_told geometry told0 first images is0 here image has =
    let same : has.0 ≡ first = let e = has.1 in cc in
    (has.0, subst images (sym same) here, has.2)

module _ (log : Log) (payload : List ℕ) (told0 : Option (List ℕ)) (first : List ℕ) (images : List ℕ → Type 0) (is0 : told0 ≡ Some first) (here : images first) (each : EachImage (Holds log) images) where
  -- the slot was written, or a part of it
  pub slot_either : (at : ℕ) → at ≡ next_slot (journal_of log) → at + 4096 ≤ chunks_at log.geometry → EachImage (HoldsAppended log payload told0 images) (ChangedWithin at 4096 images)
  slot_either at is le image changed =
      inl (slot_kept log at 4096 changed.0 image (omega (arith, is)) changed.2 (each changed.0 changed.1), chunks_kept log.geometry at 4096 images le image changed)

  -- and then it is on the disk
  pub slot_staged : (at : ℕ) (told : Option (List ℕ)) (mids : List ℕ → Type 0) → at ≡ next_slot (journal_of log) → at + 4096 ≤ chunks_at log.geometry → EachImage (ChangedWithin at 4096 images) mids → ToldWithin at 4096 told0 told → OnlyTold told mids
      → IfSome told (λ c. payload_at at c ≡ Some payload) → EachImage (Staged log payload told0) mids
  slot_staged at told mids is le changed within only stands image left =
      let from = changed image left in
      let there : payload_at at image ≡ Some payload = subst (λ t. IfSome t (λ c. payload_at at c ≡ Some payload)) (only image left) stands in
      record {
        holds = slot_kept log at 4096 from.0 image (omega (arith, is)) from.2 (each from.0 from.1);
        slot = ap (λ (k : ℕ). payload_at k image) (sym is) ∙ there;
        chunks = told_chunks log.geometry at 4096 told0 told first image le is0 within (only image left);
      }

  -- the gate was written, or not
  pub gate_written_either : (gate : ℕ) (mids : List ℕ → Type 0) → gate ≡ next_gate (journal_of log) → gate + 1 ≤ chunks_at log.geometry → length log.records < 256 → EachImage (Staged log payload told0) mids
      → EachImage (HoldsAppended log payload told0 images) (ChangedWithin gate 1 mids)
  gate_written_either gate mids is le room staged image changed =
      let from = staged changed.0 changed.1 in
      let within : DiffersWithin (next_gate (journal_of log)) 1 changed.0 image = subst (λ k. DiffersWithin k 1 changed.0 image) is changed.2 in
      let chunks = chunks_kept_twice log.geometry gate 1 (λ c. told0 ≡ Some c) mids le (λ mid left. (staged mid left).chunks) image changed in
      ⊎_elim (λ before. inl (before, chunks_of_told log.geometry told0 first images is0 here image chunks)) (λ after. inr (after, chunks))
      (gate_either log payload changed.0 image room within from.holds from.slot)

  -- and then it is on the disk
  pub gate_opened : (gate : ℕ) (mids news : List ℕ → Type 0) (mid : List ℕ) (told : Option (List ℕ)) → gate ≡ next_gate (journal_of log) → gate + 1 ≤ chunks_at log.geometry → gate + 1 ≤ length mid → length log.records < 256
      → Staged log payload told0 mid → told ≡ Some (overwritten mid gate (1 ∷ [])) → OnlyTold told news → EachImage (HoldsOver (with_record log payload) (λ c. told0 ≡ Some c)) news
  gate_opened gate mids news mid told is le fits room staged content only image left =
      let same : image ≡ overwritten mid gate (1 ∷ []) = let e = only image left in cc in
      let gate_within : DiffersWithin gate 1 mid image = subst (λ d. DiffersWithin gate 1 mid d) (sym same) (overwritten_within mid gate (1 ∷ [])) in
      let within : DiffersWithin (next_gate (journal_of log)) 1 mid image = subst (λ k. DiffersWithin k 1 mid image) is gate_within in
      let one : get_or image (next_gate (journal_of log)) 0 ≡ 1 = ap (λ (k : ℕ). get_or image k 0) (sym is) ∙ ap (λ (d : List ℕ). get_or d gate 0) same ∙ byte_written mid gate 1 (omega (arith, fits)) in (
        gate_open log payload mid image room within staged.holds staged.slot one,
        chunks_still log.geometry gate 1 (λ c. told0 ≡ Some c) mid image le gate_within staged.chunks,
      )
