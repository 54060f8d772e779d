-- What an array that is up is on each image, and how it stays up: where chunks were written at places that no entry names,
-- where the log stands over chunks from before, and where it has one record more. It serves all calls of an array that is up.
use Rattle.std.proofs.Common.{◌≡◌, ◌⊎◌, inl, inr, ⊎_elim, ℕ, zero, suc, ◌+◌, ◌*◌, ◌-◌, ◌<◌, ◌≤◌, ◌==◌, ◌||◌, Bool, true, false, not, List, [], ◌∷◌, map, take, drop, length, Option, None, Some, Ok, IfSome, IsSomeAnd, refl, sym, ap, ◌∙◌, subst, arith}
use Rattle.std.specs.Prelude.{nat_lt}
use Rattle.std.specs.List.{list_all, list_any}
use Rattle.std.proofs.Math.Nat.{mul-le-mul_right}
use Rattle.std.proofs.lemmas.Bool.{and_parts, and_from, cases_lt, eqb-true}
use Rattle.std.proofs.lemmas.List.{drop_all, length-drop, take-take}
use Rattle.vv_units.specs.declared.geometry.Geometry.{Geometry}
use Rattle.vv_units.specs.declared.numbers.Place.{Place}
use Rattle.vv_disk.specs.Images.{DiffersWithin, ToldWithin, Follows, EachImage}
use Rattle.vv_disk.specs.ImageLaws.{DiffersWithin-same}
use Rattle.vv_disk.proofs.Bytes.{bytes_behind}
use Rattle.vv_data.specs.Layout.{chunk_bytes, chunks_at, disk_len, place_range}
use Rattle.vv_data.proofs.Places.{place_behind}
use Rattle.vv_flat.specs.State.{Durable, Array, all_pieces, empty_volatile}
use Rattle.vv_flat.specs.Chunks.{Entry, ChunkValue, filled, filled_tables, placed_entries, unmapped_entry}
use Rattle.vv_flat.specs.Sharing.{place_count}
use Rattle.vv_flat.specs.NamedPlaces.{is_named}
use Rattle.vv_flat.specs.Changes.{Change, new_stamp}
use Rattle.vv_flat.specs.Flat.{new_values, flat_after}
use Rattle.vv_flat.specs.Replay.{is_fresh, fits, replayed}
use Rattle.vv_flat.specs.Logs.{record_fits, after_record, has_turn_indexes}
use Rattle.vv_flat.specs.Restart.{restarted}
use Rattle.vv_flat.proofs.Filled.{geometry-apply}
use Rattle.vv_flat.proofs.NamedPlaces.{named-counted}
use Rattle.vv_laws.proofs.OtherContents.{same_filled, record_with_content}
use Rattle.vv_record.specs.declared.record.Event.{Event}
use Rattle.vv_record.specs.declared.record.Record.{Record}
use Rattle.vv_record.specs.Records.{record_in}
use Rattle.vv_event.specs.Events.{change_of, places_of, indexes_of, log_record}
use Rattle.vv_journal.specs.Half.{slot_at}
use Rattle.vv_journal.specs.Log.{Log, Holds, with_record}
use Rattle.vv_journal.specs.Calls.{JournalState, HasChunksOf, HoldsOver, HoldsAppended}
use Rattle.vv_journal.proofs.Parts.{parts_of}
use Rattle.vv_journal.proofs.Appended.{slot_kept, few_records}
use Rattle.vv_journal.proofs.Switched.{half_low}
use Rattle.vv_journal.proofs.Callers.{appended_continues, chunk_from_before}
use Rattle.vv_image.specs.Opening.{log_tables}
use Rattle.vv_image.specs.Standing.{bytes_at_place}
use Rattle.vv_image.proofs.Records.{log_more}
use Rattle.vv_image.proofs.FoundArrays.{array_of_log}
use Rattle.vv_calls.specs.declared.call.Call.{Call}
use Rattle.vv_core.specs.Core.{applied}
use Rattle.vv_array.specs.Standing.{flat_over, HasNamed, StandsKept, UpOn}
use Rattle.vv_array.specs.Chunks.{DiffersAt, ToldAt, HasNew, HasNewOf, flat_applied}

-- ---- each image of an array that is up stands for it

abbrev waiting_none : Durable ChunkValue → Array ChunkValue
waiting_none d = record { durable = d; volatile = empty_volatile }

pub up_stands : (journal : JournalState) (a : Array Entry) (told : Option (List ℕ)) (images : List ℕ → Type 0) (m : Array ChunkValue)
    → UpOn journal a told images m → EachImage (StandsKept m) images
up_stands journal a told images m up image is = record {
  log = up.log;
  holds = up.holds image is;
  stands =
      array_of_log up.log image a.durable (up.holds image is).is up.tables
      ∙ ap (λ (d : Durable ChunkValue). Some (waiting_none d))
      (same_filled (bytes_at_place a.durable.geometry image) (bytes_at_place a.durable.geometry up.content) a.durable (up.named image is))
      ∙ ap (λ (x : Array ChunkValue). Some (restarted x)) up.array_is;
}

-- where there are fewer images, or others that were among them
pub up_fewer : (journal : JournalState) (a : Array Entry) (told : Option (List ℕ)) (images fewer : List ℕ → Type 0) (m : Array ChunkValue)
    → EachImage images fewer → UpOn journal a told images m → UpOn journal a told fewer m
up_fewer journal a told images fewer m each up = record {
  log = up.log;
  continues = up.continues;
  holds = λ image is. up.holds image (each image is);
  tables = up.tables;
  content = up.content;
  told_is = up.told_is;
  named = λ image is. up.named image (each image is);
  array_is = up.array_is;
}

-- the sizes of its log are those of its tables
pub log_sizes : (journal : JournalState) (a : Array Entry) (told : Option (List ℕ)) (images : List ℕ → Type 0) (m : Array ChunkValue)
    → (up : UpOn journal a told images m) → journal.geometry ≡ a.durable.geometry → up.log.geometry ≡ a.durable.geometry
log_sizes journal a told images m up sizes = sym (ap (λ (j : JournalState). j.geometry) up.continues) ∙ sizes

-- ---- what is told of a content

pub told_later : (at n : ℕ) (told later : Option (List ℕ)) (c : List ℕ) → told ≡ Some c → ToldWithin at n told later
    → (d : List ℕ) × (later ≡ Some d) × DiffersWithin at n c d
told_later at n None later c e within = absurd cc
told_later at n (Some b) None c e within = absurd within
told_later at n (Some b) (Some d) c e within =
    let same : b ≡ c = cc in
    (d, refl, subst (λ (x : List ℕ). DiffersWithin at n x d) same within)

pub told_same : (at n : ℕ) (told : Option (List ℕ)) → ToldWithin at n told told
told_same at n None = refl
told_same at n (Some c) = DiffersWithin-same at n c

pub told_written_at : (geometry : Geometry) (places : List ℕ) (told later : Option (List ℕ)) (c : List ℕ) → told ≡ Some c → ToldAt geometry places told later
    → (d : List ℕ) × (later ≡ Some d) × DiffersAt geometry places c d
told_written_at geometry places None later c e written = absurd cc
told_written_at geometry places (Some b) None c e written = absurd written
told_written_at geometry places (Some b) (Some d) c e written =
    let same : b ≡ c = cc in
    (d, refl, subst (λ (x : List ℕ). DiffersAt geometry places x d) same written)

pub told_has : (told : Option (List ℕ)) (P : List ℕ → Type 0) (c : List ℕ) → told ≡ Some c → IfSome told P → P c
told_has told P c e has = subst (λ (t : Option (List ℕ)). IfSome t P) e has

same_told : (told : Option (List ℕ)) (c d : List ℕ) → told ≡ Some c → told ≡ Some d → d ≡ c
same_told told c d e f = cc

-- ---- chunks written at places that no entry names

-- a place behind the pool has no bytes
no_bytes : (geometry : Geometry) (image : List ℕ) (place : ℕ) → length image ≡ disk_len geometry → geometry.pool_chunks ≤ place → bytes_at_place geometry image place ≡ []
no_bytes geometry image place size le =
    let behind : length image ≤ chunks_at geometry + place * chunk_bytes geometry = omega (arith, size, mul-le-mul_right (chunk_bytes geometry) le) in
    ap (λ (l : List ℕ). take (chunk_bytes geometry) l) (drop_all (chunks_at geometry + place * chunk_bytes geometry) image behind) ∙ take_nothing (chunk_bytes geometry)
  where
    take_nothing : (n : ℕ) → take {A = ℕ} n [] ≡ []
    take_nothing zero = refl
    take_nothing (suc n) = refl

any_passes : (r : ℕ → Bool) (n : ℕ) (xs : List ℕ) → list_all r xs ≡ true → list_any (λ p. p == n) xs ≡ true → r n ≡ true
any_passes r n [] e f = absurd cc
any_passes r n (x ∷ xs) e f = go (x == n) refl f (λ g. any_passes r n xs (and_parts (r x) (list_all r xs) e).1 g)
  where
    go : (b : Bool) → (x == n) ≡ b → (b || list_any (λ p. p == n) xs) ≡ true → (list_any (λ p. p == n) xs ≡ true → r n ≡ true) → r n ≡ true
    go true is g there = ap r (sym (eqb-true x n is)) ∙ (and_parts (r x) (list_all r xs) e).0
    go false is g there = there g

-- a place that is named is no fresh one
named_apart : (d : Durable Entry) (places : List ℕ) (place : ℕ) → list_all (is_fresh d) places ≡ true → is_named (all_pieces d) place ≡ true → list_any (λ p. p == place) places ≡ false
named_apart d places place fresh named = go (list_any (λ p. p == place) places) refl
  where
    go : (b : Bool) → list_any (λ p. p == place) places ≡ b → b ≡ false
    go false is = refl
    go true is =
        let fresh_here : is_fresh d place ≡ true = any_passes (is_fresh d) place places fresh is in
        let none : (place_count (all_pieces d) place == 0) ≡ true = (and_parts (nat_lt place d.geometry.pool_chunks) (place_count (all_pieces d) place == 0) fresh_here).1 in
        let not_named : is_named (all_pieces d) place ≡ false = named-counted (all_pieces d) place ∙ ap not none in
        cc

-- the bytes at places that are named stay
pub named_stays : (d : Durable Entry) (places : List ℕ) (old new : List ℕ) → length old ≡ disk_len d.geometry → list_all (is_fresh d) places ≡ true → DiffersAt d.geometry places old new
    → (place : ℕ) → is_named (all_pieces d) place ≡ true → bytes_at_place d.geometry new place ≡ bytes_at_place d.geometry old place
named_stays d places old new size fresh differs place named = by (cases_lt place d.geometry.pool_chunks)
  where
    by : (place < d.geometry.pool_chunks) ⊎ (d.geometry.pool_chunks ≤ place) → bytes_at_place d.geometry new place ≡ bytes_at_place d.geometry old place
    by (inl lt) = differs.others place lt (named_apart d places place fresh named)
    by (inr le) = no_bytes d.geometry new place (differs.size ∙ size) le ∙ sym (no_bytes d.geometry old place size le)

below_chunks : (geometry : Geometry) (half records : ℕ) → half ≤ 1 → records ≤ 256 → slot_at geometry half records ≤ chunks_at geometry
below_chunks geometry zero records low few = omega (arith, few)
below_chunks geometry (suc zero) records low few = omega (arith, few)
below_chunks geometry (suc (suc half)) records low few = absurd (omega (arith, low))

-- a change behind the front is one within the rest
behind_front : (geometry : Geometry) (places old new : List ℕ) → DiffersAt geometry places old new → DiffersWithin (chunks_at geometry) (length old) old new
behind_front geometry places old new differs = record {
  size = differs.size;
  before = differs.front;
  behind = past new (omega (arith, differs.size)) ∙ sym (past old (omega arith));
}
  where
    past : (l : List ℕ) → length l ≤ length old → drop (length old) (drop (chunks_at geometry) l) ≡ []
    past l le = drop_all (length old) (drop (chunks_at geometry) l) (omega (arith, le, length-drop (chunks_at geometry) l))

-- an image holds the log that it held
pub still_holds : (log : Log) (geometry : Geometry) (places old new : List ℕ) → log.geometry ≡ geometry → DiffersAt geometry places old new → Holds log old → Holds log new
still_holds log geometry places old new sizes differs holds =
    slot_kept log (chunks_at log.geometry) (length old) old new
    (below_chunks log.geometry log.half (length log.records) (half_low log old holds) (few_records log old (parts_of log old holds.is)))
    (subst (λ (g : Geometry). DiffersWithin (chunks_at g) (length old) old new) (sym sizes) (behind_front geometry places old new differs))
    holds

-- Chunks were written at fresh places: the array is up as it was.
pub up_written : (journal : JournalState) (a : Array Entry) (told later : Option (List ℕ)) (images laters : List ℕ → Type 0) (m : Array ChunkValue) (places : List ℕ)
    → journal.geometry ≡ a.durable.geometry → list_all (is_fresh a.durable) places ≡ true → (c : List ℕ) × (told ≡ Some c) × images c
    → ToldAt a.durable.geometry places told later → Follows (DiffersAt a.durable.geometry places) images laters
    → UpOn journal a told images m → UpOn journal a later laters m
up_written journal a told later images laters m places sizes fresh is_image written follows up =
    let g : Geometry = a.durable.geometry in
    let same_sizes : up.log.geometry ≡ g = log_sizes journal a told images m up sizes in
    let next = told_written_at g places told later up.content up.told_is written in
    let size : (image : List ℕ) → images image → length image ≡ disk_len g = λ image is. (parts_of up.log image (up.holds image is).is).size ∙ ap disk_len same_sizes in
    let content_is : up.content ≡ is_image.0 = same_told told is_image.0 up.content is_image.1 up.told_is in
    let content_size : length up.content ≡ disk_len g = ap length content_is ∙ size is_image.0 is_image.2 in
    let content_stays : (place : ℕ) → is_named (all_pieces a.durable) place ≡ true → bytes_at_place g next.0 place ≡ bytes_at_place g up.content place =
    named_stays a.durable places up.content next.0 content_size fresh next.2 in
    record {
      log = up.log;
      continues = up.continues;
      holds = λ image is.
          let from = follows image is in still_holds up.log g places from.0 image same_sizes from.2 (up.holds from.0 from.1);
      tables = up.tables;
      content = next.0;
      told_is = next.1;
      named = λ image is place named.
          let from = follows image is in
          named_stays a.durable places from.0 image (size from.0 from.1) fresh from.2 place named
          ∙ up.named from.0 from.1 place named
          ∙ sym (content_stays place named);
      array_is =
          ap {B = Array ChunkValue} (λ (d : Durable ChunkValue). record { durable = d; volatile = a.volatile })
          (same_filled (bytes_at_place g next.0) (bytes_at_place g up.content) a.durable content_stays)
          ∙ up.array_is;
    }

-- ---- the log over chunks from before

pub up_over : (journal : JournalState) (a : Array Entry) (told : Option (List ℕ)) (images : List ℕ → Type 0) (m : Array ChunkValue)
    → (up : UpOn journal a told images m) → journal.geometry ≡ a.durable.geometry → UpOn journal a told (HoldsOver up.log images) m
up_over journal a told images m up sizes =
    let same_sizes : up.log.geometry ≡ a.durable.geometry = log_sizes journal a told images m up sizes in
    record {
      log = up.log;
      continues = up.continues;
      holds = λ image over. over.0;
      tables = up.tables;
      content = up.content;
      told_is = up.told_is;
      named = λ image over place named.
          let from = chunk_from_before up.log.geometry (record { 0 = place }) images image over.1 in
          subst (λ (g : Geometry). bytes_at_place g image place ≡ bytes_at_place g from.0 place) same_sizes from.2
          ∙ up.named from.0 from.1 place named;
      array_is = up.array_is;
    }

-- ---- the log with one record more

-- a record without the mark is done to the tables as they stand
unmarked_after : (d : Durable Entry) (r : Record) → r.first_after_open ≡ false → after_record d (log_record r) ≡ replayed d (change_of r.event) (places_of r.event)
unfolding after_record
unmarked_after d r is = rw is refl

-- and fits where its change fits them
pub unmarked_fits : (d : Durable Entry) (r : Record) → r.first_after_open ≡ false → fits d (change_of r.event) (places_of r.event) ≡ true
    → has_turn_indexes d (change_of r.event) (indexes_of r.event) ≡ true → record_fits d (log_record r) ≡ true
unfolding record_fits
unmarked_fits d r is fit indexes =
    rw is (and_from (fits d (change_of r.event) (places_of r.event)) (has_turn_indexes d (change_of r.event) (indexes_of r.event)) fit indexes)

sizes_stay : (d : Durable Entry) (change : Change) (places : List ℕ) → (replayed d change places).geometry ≡ d.geometry
unfolding replayed
sizes_stay d change places = geometry-apply (λ (e : Entry). e.stamp) (placed_entries places (new_stamp d change)) unmapped_entry d change

-- new chunks are told by their bytes
filled_again : (blocks : ℕ) (f g : ℕ → List ℕ) → ((place : ℕ) → f place ≡ g place) → (places : List ℕ) (stamp : ℕ) → map (filled blocks f) (placed_entries places stamp) ≡ map (filled blocks g) (placed_entries places stamp)
filled_again blocks f g same [] stamp = refl
filled_again blocks f g same (place ∷ places) stamp =
    ap (λ (bytes : List ℕ). let x : ChunkValue = record { stamp = stamp; bytes = bytes } in x ∷ map (filled blocks f) (placed_entries places stamp)) (same place)
    ∙ ap (λ (xs : List ChunkValue). filled blocks g (record { place = Some place; stamp = stamp }) ∷ xs) (filled_again blocks f g same places stamp)

-- where the front alone changes, the bytes of all places stay
front_changes : (geometry : Geometry) (old new : List ℕ) → DiffersWithin 0 (chunks_at geometry) old new → (place : ℕ) → bytes_at_place geometry new place ≡ bytes_at_place geometry old place
front_changes geometry old new within place =
    bytes_behind 0 (chunks_at geometry) (place_range geometry (record { 0 = place })).at (place_range geometry (record { 0 = place })).len old new
    (omega (arith, place_behind geometry (record { 0 = place }))) within

-- The flat array of the tables after a record, over a content whose chunks are those of an earlier one that has the new ones.
flat_recorded : (a : Array Entry) (m : Array ChunkValue) (c : Call) (r : Record) (bytes content later : List ℕ)
    → flat_over content a ≡ m → HasNewOf a r.event m bytes content
    → ((place : ℕ) → bytes_at_place a.durable.geometry later place ≡ bytes_at_place a.durable.geometry content place)
    → flat_over later (applied a c r.event) ≡ flat_applied a m c r.event bytes
unfolding applied
flat_recorded a m c r bytes content later is new same =
    let g : Geometry = a.durable.geometry in
    let change : Change = change_of r.event in
    let places : List ℕ = places_of r.event in
    let after : Durable Entry = replayed a.durable change places in
    let values : map (filled g.chunk_blocks (bytes_at_place g later)) (placed_entries places (new_stamp a.durable change)) ≡ new_values (filled_tables (bytes_at_place g content) a.durable) change bytes =
    filled_again g.chunk_blocks (bytes_at_place g later) (bytes_at_place g content) same places (new_stamp a.durable change)
    ∙ new
    ∙ ap (λ (x : Array ChunkValue). new_values x.durable change bytes) (sym is) in
    let durable : filled_tables (bytes_at_place after.geometry later) after ≡ flat_after m.durable change bytes =
    ap (λ (h : Geometry). filled_tables (bytes_at_place h later) after) (sizes_stay a.durable change places)
    ∙ record_with_content (bytes_at_place g content) (bytes_at_place g later) a.durable change places bytes (λ place named. same place) values
    ∙ ap (λ (x : Array ChunkValue). flat_after x.durable change bytes) is in
    ap {B = Array ChunkValue} (λ (d : Durable ChunkValue). record { durable = d; volatile = (applied a c r.event).volatile }) durable

recorded_tables : (log : Log) (a : Array Entry) (c : Call) (r : Record) (payload : List ℕ) → log_tables log ≡ Ok a.durable → record_in payload ≡ Ok r → r.first_after_open ≡ false
    → record_fits a.durable (log_record r) ≡ true → log_tables (with_record log payload) ≡ Ok (applied a c r.event).durable
unfolding applied
recorded_tables log a c r payload tables spelled unmarked fit =
    log_more log payload r a.durable tables spelled fit ∙ ap (λ (d : Durable Entry). Ok d) (unmarked_after a.durable r unmarked)

pub recorded_sizes : (a : Array Entry) (c : Call) (r : Record) → (applied a c r.event).durable.geometry ≡ a.durable.geometry
unfolding applied
recorded_sizes a c r = sizes_stay a.durable (change_of r.event) (places_of r.event)

-- The log has a record more, over the chunks that were read before: the array is up as the one after the record's call.
pub up_recorded : (journal new : JournalState) (a : Array Entry) (told later : Option (List ℕ)) (images : List ℕ → Type 0) (m : Array ChunkValue) (c : Call) (r : Record) (payload bytes : List ℕ)
    → (up : UpOn journal a told images m) → journal.geometry ≡ a.durable.geometry → new ≡ record journal { records = journal.records + 1 }
    → record_in payload ≡ Ok r → r.first_after_open ≡ false → record_fits a.durable (log_record r) ≡ true
    → ToldWithin 0 (chunks_at journal.geometry) told later → IfSome told (HasNewOf a r.event m bytes)
    → UpOn new (applied a c r.event) later (HoldsOver (with_record up.log payload) (λ content. told ≡ Some content)) (flat_applied a m c r.event bytes)
up_recorded journal new a told later images m c r payload bytes up sizes counted spelled unmarked fit within has =
    let g : Geometry = a.durable.geometry in
    let log_g : up.log.geometry ≡ g = log_sizes journal a told images m up sizes in
    let next = told_later 0 (chunks_at journal.geometry) told later up.content up.told_is within in
    let within_g : DiffersWithin 0 (chunks_at g) up.content next.0 = subst (λ (h : Geometry). DiffersWithin 0 (chunks_at h) up.content next.0) sizes next.2 in
    let same : (place : ℕ) → bytes_at_place g next.0 place ≡ bytes_at_place g up.content place = front_changes g up.content next.0 within_g in
    let over : (image : List ℕ) → HasChunksOf up.log.geometry (λ content. told ≡ Some content) image → (place : ℕ) → bytes_at_place g image place ≡ bytes_at_place g up.content place =
    λ image has_chunks place.
    let from = chunk_from_before up.log.geometry (record { 0 = place }) (λ content. told ≡ Some content) image has_chunks in
    let was : from.0 ≡ up.content = same_told told up.content from.0 up.told_is from.1 in
    subst (λ (h : Geometry). bytes_at_place h image place ≡ bytes_at_place h from.0 place) log_g from.2
    ∙ ap (λ (l : List ℕ). bytes_at_place g l place) was in
    record {
      log = with_record up.log payload;
      continues = appended_continues up.log payload journal new up.continues counted;
      holds = λ image is. is.0;
      tables = recorded_tables up.log a c r payload up.tables spelled unmarked fit;
      content = next.0;
      told_is = next.1;
      named = λ image is place named.
          subst (λ (h : Geometry). bytes_at_place h image place ≡ bytes_at_place h next.0 place) (sym (recorded_sizes a c r))
          (over image is.1 place ∙ sym (same place));
      array_is = flat_recorded a m c r bytes up.content next.0 up.array_is (told_has told (HasNewOf a r.event m bytes) up.content up.told_is has) same;
    }

-- What a crash while the record is added may leave: the array from before or the one after.
pub up_appended : (journal : JournalState) (a : Array Entry) (told : Option (List ℕ)) (images : List ℕ → Type 0) (m : Array ChunkValue) (c : Call) (r : Record) (payload bytes : List ℕ)
    → (up : UpOn journal a told images m) → journal.geometry ≡ a.durable.geometry
    → record_in payload ≡ Ok r → r.first_after_open ≡ false → record_fits a.durable (log_record r) ≡ true → IfSome told (HasNewOf a r.event m bytes)
    → EachImage (λ image. StandsKept m image ⊎ StandsKept (flat_applied a m c r.event bytes) image) (HoldsAppended up.log payload told images)
up_appended journal a told images m c r payload bytes up sizes spelled unmarked fit has image left =
    ⊎_elim
    (λ over. inl (up_stands journal a told (HoldsOver up.log images) m (up_over journal a told images m up sizes) image over))
    (λ over. inr (up_stands (record journal { records = journal.records + 1 }) (applied a c r.event) told (HoldsOver (with_record up.log payload) (λ content. told ≡ Some content)) (flat_applied a m c r.event bytes)
    (up_recorded journal (record journal { records = journal.records + 1 }) a told told images m c r payload bytes up sizes refl spelled unmarked fit (told_same 0 (chunks_at journal.geometry) told) has) image over))
    left

-- ---- new chunks, written ahead of their record

pub differs_same : (geometry : Geometry) (places image : List ℕ) → DiffersAt geometry places image image
differs_same geometry places image = record { size = refl; front = refl; others = λ place lt out. refl }

pub told_at_same : (geometry : Geometry) (places : List ℕ) (told : Option (List ℕ)) → ToldAt geometry places told told
told_at_same geometry places None = refl
told_at_same geometry places (Some c) = differs_same geometry places c

-- what a crash may leave of the chunks leaves the array
pub written_left : (journal : JournalState) (a : Array Entry) (told : Option (List ℕ)) (images : List ℕ → Type 0) (m : Array ChunkValue) (places : List ℕ)
    → journal.geometry ≡ a.durable.geometry → list_all (is_fresh a.durable) places ≡ true → (c : List ℕ) × (told ≡ Some c) × images c
    → UpOn journal a told images m → EachImage (StandsKept m) (λ image. (earlier : List ℕ) × images earlier × DiffersAt a.durable.geometry places earlier image)
written_left journal a told images m places sizes fresh is_image up =
    up_stands journal a told (λ image. (earlier : List ℕ) × images earlier × DiffersAt a.durable.geometry places earlier image) m
    (up_written journal a told told images (λ image. (earlier : List ℕ) × images earlier × DiffersAt a.durable.geometry places earlier image) m places sizes fresh is_image
    (told_at_same a.durable.geometry places told) (λ image changed. changed) up)

told_from : (told : Option (List ℕ)) (P : List ℕ → Type 0) (c : List ℕ) → told ≡ Some c → P c → IfSome told P
told_from told P c e has = subst (λ (t : Option (List ℕ)). IfSome t P) (sym e) has

-- the new chunks that were written are those of the flat array
pub written_new : (journal : JournalState) (a : Array Entry) (told later : Option (List ℕ)) (images : List ℕ → Type 0) (m : Array ChunkValue) (e : Event) (bytes : List ℕ)
    → ToldAt a.durable.geometry (places_of e) told later
    → ((c d : List ℕ) → told ≡ Some c → later ≡ Some d → HasNew a.durable (change_of e) (places_of e) (new_values (filled_tables (bytes_at_place a.durable.geometry c) a.durable) (change_of e) bytes) d)
    → UpOn journal a told images m → IfSome later (HasNewOf a e m bytes)
written_new journal a told later images m e bytes written new up =
    let next = told_written_at a.durable.geometry (places_of e) told later up.content up.told_is written in
    told_from later (HasNewOf a e m bytes) next.0 next.1
    (subst (λ (x : Array ChunkValue). HasNew a.durable (change_of e) (places_of e) (new_values x.durable (change_of e) bytes) next.0) up.array_is
    (new up.content next.0 up.told_is next.1))
