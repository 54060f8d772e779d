-- What the steps of a switch do to the log of an image: the other half changes, and then the selector.
use Rattle.std.proofs.Common.{◌≡◌, ◌⊎◌, inl, inr, ⊎_elim, ℕ, zero, suc, ◌+◌, ◌*◌, ◌≤◌, List, [], ◌∷◌, ◌++◌, length, get_or, take, drop, Option, Some, None, IfSome, option_map, refl, sym, ap, ◌∙◌, subst, arith, length-append}
use Rattle.std.proofs.lemmas.Bool.{cases_eq}
use Rattle.std.proofs.lemmas.List.{drop-drop}
use Rattle.vv_units.specs.declared.geometry.Geometry.{Geometry}
use Rattle.vv_fields.specs.Fields.{be_number}
use Rattle.vv_disk.specs.Images.{bytes_at, overwritten, DiffersWithin, EachImage, OnlyTold}
use Rattle.vv_disk.specs.ImageLaws.{length-overwritten, overwritten_within}
use Rattle.vv_disk.proofs.Bytes.{bytes_at-overwritten}
use Rattle.vv_data.specs.Layout.{area_bytes, half_bytes, half_at, chunks_at, disk_len}
use Rattle.vv_journal.specs.Header.{half_of, number_at}
use Rattle.vv_journal.specs.Half.{second_spelling, gates_at, gates_of, open_count, IsShutBehind}
use Rattle.vv_journal.specs.Log.{Log, Holds}
use Rattle.vv_journal.specs.Calls.{JournalState, journal_of, ChangedWithin, HasChunksOf, HoldsOver, HoldsEither}
use Rattle.vv_journal.specs.Switches.{SwitchingState, other_half, IsSwitchFrom, HasTables, switched_log}
use Rattle.vv_journal.proofs.Parts.{parts_of, header_in}
use Rattle.vv_journal.proofs.Kept.{Apart, header_kept}
use Rattle.vv_journal.proofs.Appended.{few_records, holds_kept, Stands, stands_of, stands_kept, holds_from}
use Rattle.vv_journal.proofs.Bytes.{apart_written, byte_written}
use Rattle.vv_journal.proofs.Crash.{chunks_kept, chunks_still, chunks_kept_twice}
use Rattle.vv_journal.proofs.Made.{no_open, shut_behind, no_records, second_area}

-- ---- contents that may be told

pub told_any : (told : Option (List ℕ)) (P : List ℕ → Type 0) → ((c : List ℕ) → P c) → IfSome told P
told_any None P all = tt
told_any (Some c) P all = all c

pub told_then : (told0 told1 : Option (List ℕ)) (f : List ℕ → List ℕ) (size : ℕ) (P Q : List ℕ → Type 0) → ((c : List ℕ) → told0 ≡ Some c → length c ≡ size) → told1 ≡ option_map f told0
    → ((c : List ℕ) → length c ≡ size → P c → Q (f c)) → IfSome told0 P → IfSome told1 Q
told_then None told1 f size P Q sized is next was = subst (λ t. IfSome t Q) (sym is) tt
told_then (Some c) told1 f size P Q sized is next was = subst (λ t. IfSome t Q) (sym is) (next c (sized c refl) was)

-- ---- the other half

pub half_low : (log : Log) (image : List ℕ) → Holds log image → log.half ≤ 1
half_low log image holds = omega (arith, (parts_of log image holds.is).half)

other_apart : (geometry : Geometry) (half records at n : ℕ) → half ≤ 1 → records ≤ 256 → half_at geometry (other_half half) ≤ at → at + n ≤ half_at geometry (other_half half) + half_bytes geometry → Apart at n (half_at geometry half) (area_bytes geometry + 256 + 4096 * records)
other_apart geometry zero records at n low few from to = inl (omega (arith, few, from))
other_apart geometry (suc zero) records at n low few from to = inr (omega (arith, to))
other_apart geometry (suc (suc half)) records at n low few from to = absurd (omega (arith, low))

other_fits : (geometry : Geometry) (half at n : ℕ) → half ≤ 1 → at + n ≤ half_at geometry (other_half half) + half_bytes geometry → at + n ≤ chunks_at geometry
other_fits geometry zero at n low to = omega (arith, to)
other_fits geometry (suc zero) at n low to = omega (arith, to)
other_fits geometry (suc (suc half)) at n low to = absurd (omega (arith, low))

-- the other half may hold anything
pub other_over : (log : Log) (images : List ℕ → Type 0) → EachImage (Holds log) images → (s : SwitchingState) → IsSwitchFrom log s → (at n : ℕ) → half_at s.geometry s.half ≤ at → at + n ≤ half_at s.geometry s.half + half_bytes s.geometry
    → EachImage (HoldsOver log images) (ChangedWithin at n images)
other_over log images each s switch at n from to image changed =
    let holds = each changed.0 changed.1 in
    let low = half_low log changed.0 holds in
    let few = few_records log changed.0 (parts_of log changed.0 holds.is) in
    let from_there = subst (λ (t : SwitchingState). half_at t.geometry t.half ≤ at) switch from in
    let to_there = subst (λ (t : SwitchingState). at + n ≤ half_at t.geometry t.half + half_bytes t.geometry) switch to in
    let behind_header : 4096 ≤ at = omega (arith, from_there) in (
      holds_kept log at n changed.0 image (omega (arith, behind_header)) (inl (omega (arith, behind_header))) (other_apart log.geometry log.half (length log.records) at n low few from_there to_there) changed.2 holds,
      chunks_kept log.geometry at n images (other_fits log.geometry log.half at n low to_there) image changed,
    )

-- ---- the tables

pub begun_from : (log : Log) (journal : JournalState) (s : SwitchingState) (len : ℕ) → journal ≡ journal_of log → s ≡ record { geometry = journal.geometry; half = other_half journal.half; done = 0; len = len } → IsSwitchFrom log s
begun_from log journal s len continues is =
    let there : s ≡ record { geometry = log.geometry; half = other_half log.half; done = 0; len = len } = is ∙ ap (λ (j : JournalState). record { geometry = j.geometry; half = other_half j.half; done = 0; len = len }) continues in
    subst (λ (t : SwitchingState). IsSwitchFrom log t) (sym there) refl

pub has_begun : (s : SwitchingState) (at : ℕ) (disk field : List ℕ) → at ≡ half_at s.geometry s.half → s.done ≡ 0 → at + 8 ≤ length disk → length field ≡ 8 → be_number field ≡ second_spelling + s.len → HasTables s [] (overwritten disk at field)
has_begun s at disk field is none fits eight number = record {
  count = sym none;
  field =
      ap (λ (k : ℕ). number_at 8 k (overwritten disk at field)) (sym is)
      ∙ ap (λ (n : ℕ). be_number (bytes_at at n (overwritten disk at field))) (sym eight)
      ∙ ap be_number (bytes_at-overwritten disk at field (omega (arith, fits, eight))) ∙ number;
  bytes = ap (λ (n : ℕ). bytes_at (half_at s.geometry s.half + 8) n (overwritten disk at field)) none;
}

take_add : (a b : ℕ) (l : List ℕ) → take (a + b) l ≡ take a l ++ take b (drop a l)
take_add zero b l = ap (λ (n : ℕ). take n l) (let e : zero + b ≡ b = omega arith in e)
take_add (suc a) b [] = ap (λ (n : ℕ). take n []) (let e : suc a + b ≡ suc (a + b) = omega arith in e) ∙ nothing b
  where
    nothing : (n : ℕ) → ◌≡◌ {A = List ℕ} [] (take n [])
    nothing zero = refl
    nothing (suc n) = refl
take_add (suc a) b (x ∷ l) = ap (λ (n : ℕ). take n (x ∷ l)) (let e : suc a + b ≡ suc (a + b) = omega arith in e) ∙ ap (λ (r : List ℕ). x ∷ r) (take_add a b l)

pub has_more : (s : SwitchingState) (tables piece disk : List ℕ) (at : ℕ) → at ≡ half_at s.geometry s.half + 8 + s.done → at + length piece ≤ length disk → HasTables s tables disk → HasTables (record s { done = s.done + length piece }) (tables ++ piece) (overwritten disk at piece)
has_more s tables piece disk at is fits has =
    let start = half_at s.geometry s.half in
    let now = overwritten disk at piece in
    let fresh : bytes_at at (length piece) now ≡ piece = bytes_at-overwritten disk at piece fits in
    record {
      count = length-append tables piece ∙ ap (λ (n : ℕ). n + length piece) has.count;
      field = ap be_number (apart_written disk at start 8 piece (inl (omega (arith, is)))) ∙ has.field;
      bytes =
          take_add s.done (length piece) (drop (start + 8) now)
          ∙ ap (λ (l : List ℕ). l ++ take (length piece) (drop s.done (drop (start + 8) now))) (apart_written disk at (start + 8) s.done piece (inl (omega (arith, is))) ∙ has.bytes)
          ∙ ap (λ (l : List ℕ). tables ++ take (length piece) l) (drop-drop s.done (start + 8) now)
          ∙ ap (λ (k : ℕ). tables ++ bytes_at k (length piece) now) (sym is)
          ∙ ap (λ (l : List ℕ). tables ++ l) fresh;
    }

-- ---- the gates of the other half are shut

-- the new log stands in the other half, while the old one is selected
pub record Ready (log : Log) (tables : List ℕ) (images : List ℕ → Type 0) (image : List ℕ) : Type 0 where
  pub holds : Holds log image
  pub stands : Stands (switched_log log tables) image
  pub chunks : HasChunksOf log.geometry images image

shut_fit : (geometry : Geometry) (half : ℕ) → half ≤ 1 → gates_at geometry (other_half half) + 256 ≤ disk_len geometry
shut_fit geometry zero low = omega arith
shut_fit geometry (suc zero) low = omega arith
shut_fit geometry (suc (suc half)) low = absurd (omega (arith, low))

pub shut_stands : (log : Log) (tables disk shut : List ℕ) → Holds log disk → 8 + length tables ≤ area_bytes log.geometry → number_at 8 (half_at log.geometry (other_half log.half)) disk ≡ second_spelling + length tables
    → bytes_at (half_at log.geometry (other_half log.half) + 8) (length tables) disk ≡ tables → length shut ≡ 256 → ((i : ℕ) → get_or shut i 0 ≡ 0) → Stands (switched_log log tables) (overwritten disk (gates_at log.geometry (other_half log.half)) shut)
shut_stands log tables disk shut holds fits field bytes size zeros =
    let g = log.geometry in
    let h = other_half log.half in
    let now = overwritten disk (gates_at g h) shut in
    let parts = parts_of log disk holds.is in
    let low = half_low log disk holds in
    let fit = shut_fit g log.half low in
    let gates : gates_of g h now ≡ shut = ap (λ (n : ℕ). bytes_at (gates_at g h) n now) (sym size) ∙ bytes_at-overwritten disk (gates_at g h) shut (omega (arith, size, fit, parts.size)) in
    record {
      header = header_kept (gates_at g h) (length shut) disk now (omega arith) (overwritten_within disk (gates_at g h) shut) ∙ parts.header;
      size = length-overwritten disk (gates_at g h) shut ∙ parts.size;
      area = second_area (header_in log) h (length tables) tables now
          (ap be_number (apart_written disk (gates_at g h) (half_at g h) 8 shut (inl (omega (arith, fits)))) ∙ field) fits
          (apart_written disk (gates_at g h) (half_at g h + 8) (length tables) shut (inl (omega (arith, fits))) ∙ bytes);
      records = no_records g h now (ap open_count gates ∙ no_open shut zeros);
      kept = subst IsShutBehind (sym gates) (shut_behind shut zeros);
    }

-- the same of the tables of a switch
pub tables_stand : (log : Log) (s : SwitchingState) (tables disk shut : List ℕ) (at : ℕ) → IsSwitchFrom log s → s.done ≡ s.len → 8 + s.len ≤ area_bytes s.geometry → at ≡ gates_at s.geometry s.half → HasTables s tables disk → length shut ≡ 256 → ((i : ℕ) → get_or shut i 0 ≡ 0)
    → Holds log disk → Stands (switched_log log tables) (overwritten disk at shut)
tables_stand log s tables disk shut at switch whole fits is has size zeros holds =
    let there : at ≡ gates_at log.geometry (other_half log.half) = is ∙ ap (λ (t : SwitchingState). gates_at t.geometry t.half) switch in
    let len : s.len ≡ length tables = sym (has.count ∙ whole) in
    let field : number_at 8 (half_at log.geometry (other_half log.half)) disk ≡ second_spelling + length tables =
    ap (λ (t : SwitchingState). number_at 8 (half_at t.geometry t.half) disk) (sym switch) ∙ has.field ∙ ap (λ (n : ℕ). second_spelling + n) len in
    let bytes : bytes_at (half_at log.geometry (other_half log.half) + 8) (length tables) disk ≡ tables =
    ap (λ (n : ℕ). bytes_at (half_at log.geometry (other_half log.half) + 8) n disk) has.count
    ∙ ap (λ (t : SwitchingState). bytes_at (half_at t.geometry t.half + 8) s.done disk) (sym switch) ∙ has.bytes in
    let room : 8 + length tables ≤ area_bytes log.geometry = subst (λ (t : SwitchingState). 8 + length tables ≤ area_bytes t.geometry) switch (omega (arith, fits, len)) in
    subst (λ (k : ℕ). Stands (switched_log log tables) (overwritten disk k shut)) (sym there) (shut_stands log tables disk shut holds room field bytes size zeros)

-- ---- the selector

module _ (log : Log) (tables old new : List ℕ) (is : DiffersWithin 512 1 old new) (holds : Holds log old) (stands : Stands (switched_log log tables) old) where
  pub selector_same : half_of new ≡ log.half → Holds log new
  selector_same half = holds_from log new half (stands_kept log 512 1 old new (omega arith) (inr (omega arith)) is (stands_of log old holds))

  pub selector_other : half_of new ≡ other_half log.half → Holds (switched_log log tables) new
  selector_other half = holds_from (switched_log log tables) new half (stands_kept (switched_log log tables) 512 1 old new (omega arith) (inr (omega arith)) is stands)

  pub selector_either : Holds log new ⊎ Holds (switched_log log tables) new
  selector_either =
      let low = half_low log old holds in
      ⊎_elim (λ same. inl (selector_same same)) (λ other. inr (selector_other (omega (arith, low, other)))) (cases_eq (half_of new) log.half)

module _ (log : Log) (tables : List ℕ) (images : List ℕ → Type 0) where
  -- the gates were written, or some of them
  pub shut_either : EachImage (HoldsEither log (switched_log log tables) images) (HoldsOver log images)
  shut_either image over = (inl over.0, over.1)

  -- the selector was written, or not
  pub selected_either : (mids : List ℕ → Type 0) → EachImage (Ready log tables images) mids → EachImage (HoldsEither log (switched_log log tables) images) (ChangedWithin 512 1 mids)
  selected_either mids ready image changed =
      let from = ready changed.0 changed.1 in (
        selector_either log tables changed.0 image changed.2 from.holds from.stands,
        chunks_kept_twice log.geometry 512 1 images mids (omega arith) (λ mid left. (ready mid left).chunks) image changed,
      )

  -- and then it is on the disk
  pub selected : (selector : ℕ) (mid : List ℕ) (told : Option (List ℕ)) (news : List ℕ → Type 0) → selector ≡ other_half log.half → Ready log tables images mid → told ≡ Some (overwritten mid 512 (selector ∷ [])) → OnlyTold told news → EachImage (HoldsOver (switched_log log tables) images) news
  selected selector mid told news other ready content only image left =
      let same : image ≡ overwritten mid 512 (selector ∷ []) = let e = only image left in cc in
      let within : DiffersWithin 512 1 mid image = subst (λ d. DiffersWithin 512 1 mid d) (sym same) (overwritten_within mid 512 (selector ∷ [])) in
      let size = (parts_of log mid ready.holds.is).size in
      let low = half_low log mid ready.holds in
      let byte : get_or image 512 0 ≡ selector = ap (λ (d : List ℕ). get_or d 512 0) same ∙ byte_written mid 512 selector (omega (arith, size)) in
      let half : half_of image ≡ other_half log.half = omega (arith, byte, other, low) in (
        selector_other log tables mid image within ready.holds ready.stands half,
        chunks_still log.geometry 512 1 images mid image (omega arith) within ready.chunks,
      )
