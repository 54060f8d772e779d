-- The whole of an image that is opened: its head, its area and its slots together. They serve opening an image.
use Rattle.std.proofs.Common.{◌≡◌, ◌⊎◌, ⊎_elim, ◌&&◌, ℕ, ◌≤◌, ◌<◌, true, eqb, leb, List, length, get_or, Option, None, Some, IfSome, option_map, Ok, Err, refl, sym, ap, ◌∙◌, subst}
use Rattle.std.proofs.lemmas.Bool.{and_parts, eq-eqb, cond-true}
use Rattle.vv_units.specs.declared.geometry.Geometry.{Geometry}
use Rattle.vv_units.specs.declared.damage.Part.TheVariants.{Area as in_area}
use Rattle.vv_flat.specs.Lists.{if_found}
use Rattle.vv_flat.specs.State.{Durable, empty_volatile}
use Rattle.vv_flat.specs.Chunks.{Entry}
use Rattle.vv_disk.specs.Images.{OnlyTold}
use Rattle.vv_data.specs.Layout.{header_bytes}
use Rattle.vv_journal.specs.declared.opening.LogHead.{LogHead}
use Rattle.vv_journal.specs.declared.opening.OpenFault.{OpenFault}
use Rattle.vv_journal.specs.declared.opening.OpenFault.TheVariants as journal
use Rattle.vv_journal.specs.Header.{Header, header_of, half_of, is_formatted, is_version, magic, number_at}
use Rattle.vv_journal.specs.Geometries.{geometry_of}
use Rattle.vv_journal.specs.Half.{Area, area_of, is_area, length_field, tables_at}
use Rattle.vv_journal.specs.Log.{Log, Holds, log_of}
use Rattle.vv_journal.specs.Calls.{JournalState, journal_of}
use Rattle.vv_journal.specs.Openings.{damaged, open_fault, fault_behind, IsOfDisk, HasHead, HasRead, gate_of_next, journal_at, journal_at_first}
use Rattle.vv_journal.proofs.Options.{guard_parts, length-given}
use Rattle.vv_journal.proofs.Parts.{area_parts}
use Rattle.vv_journal.proofs.Replayed.{read_all}
use Rattle.vv_image.specs.Opening.{Found, behind, slots, area_tables, opened}
use Rattle.vv_image.specs.Standing.{bytes_at_place}
use Rattle.vv_image.proofs.Slots.{opened_by_log}
use Rattle.vv_core.specs.Core.{CoreState}
use Rattle.vv_array.specs.declared.fault.ArrayFault.{ArrayFault}
use Rattle.vv_array.specs.declared.fault.ArrayFault.TheVariants.{NotFormatted, Damaged, Disk, NoMemory}
use Rattle.vv_array.specs.Standing.{UpOn, flat_over}
use Rattle.vv_array.specs.Seen.{ArrayView, IsUp}
use Rattle.vv_array.specs.Opening.{IsOpened, IsFoundFault, OpensAs, StandsOpened}
use Rattle.vv_array.specs.OpeningSteps.{IsFaultIn, fault_of_open, area_found, slots_found, HasReplayed}

-- ---- an image with a head has no fault ahead of its area

head_formatted : (image : List ℕ) (header : Header) → header_of image ≡ Some header → is_formatted image ≡ true
unfolding header_of
head_formatted image header e =
    let guard = guard_parts (is_formatted image && (eqb (number_at 8 8 image) magic && is_version (number_at 4 16 image) (number_at 4 28 image)))
    (option_map (λ geometry. record { geometry = geometry; version = number_at 4 16 image }) (geometry_of (number_at 4 20 image) (number_at 4 24 image) (number_at 4 28 image))) header e in
    (and_parts _ _ guard.0).0

abbrev header_with : (head : LogHead) → ℕ → Header
header_with head version = record { geometry = head.geometry; version = version }

abbrev area_with : LogHead → List ℕ → Area
area_with head image = record { spelling = head.spelling; tables = tables_at head.geometry head.half head.area_len image }

head_opens : (head : LogHead) (image : List ℕ) → HasHead head image → open_fault image ≡ None
unfolding open_fault
head_opens head image has =
    let formatted = and_parts (leb header_bytes (length image)) (eqb (get_or image 0 0) 165) (head_formatted image (header_with head has.version) has.header) in
    let area = area_parts (header_with head has.version) head.half image (area_with head image) has.area in
    cond-true _ _ _ formatted.0 ∙ cond-true _ _ _ formatted.1 ∙ ap (λ (o : Option Header). fault_behind o image) has.header
    ∙ cond-true _ _ _ (eq-eqb _ _ has.size)
    ∙ cond-true _ _ _ (ap (λ (h : ℕ). is_area (header_with head has.version) (length_field head.geometry h image)) has.half ∙ area.test)

-- ---- it is opened by its area and its slots

with_half : (head : LogHead) (version half : ℕ) (image : List ℕ) → half ≡ head.half → area_of (header_with head version) head.half image ≡ Some (area_with head image)
    → if_found (area_of (header_with head version) half image) (λ (area : Area). behind (slots head.geometry half image 256 0) (area_tables head.geometry half area.spelling area.tables)) (Err (damaged in_area 0 half))
    ≡ behind (slots_found (journal_at_first head) image) (area_found head image)
with_half head version half image is area = rw is (rw area refl)

pub opened_with_head : (head : LogHead) (image : List ℕ) → HasHead head image → opened image ≡ behind (slots_found (journal_at_first head) image) (area_found head image)
unfolding opened
opened_with_head head image has =
    rw (head_opens head image has) (rw has.header (with_half head has.version (half_of image) image has.half has.area))

-- ---- faults

fault_first : (image : List ℕ) (fault : OpenFault) → open_fault image ≡ Some fault → opened image ≡ Err fault
unfolding opened
fault_first image fault is = rw is refl

-- the head can't be read
pub head_fails : (told again : Option (List ℕ)) (fault : OpenFault) (same : ArrayFault) → again ≡ told → same ≡ fault_of_open fault → (IsOfDisk fault ⊎ IfSome again (λ c. open_fault c ≡ Some fault)) → IfSome told (IsFoundFault same)
head_fails None again fault same is tells wrong = tt
head_fails (Some c) again fault same is tells wrong =
    subst (λ (f : ArrayFault). IsFoundFault f c) (sym tells)
    (⊎_elim (λ of_disk. disk_failed fault of_disk) (λ there. by fault (subst (λ o. IfSome o (λ c. open_fault c ≡ Some fault)) is there)) wrong)
  where
    disk_failed : (fault : OpenFault) → IsOfDisk fault → IsFoundFault (fault_of_open fault) c
    disk_failed (journal.NotFormatted found) of_disk = absurd of_disk
    disk_failed (journal.Damaged damage) of_disk = absurd of_disk
    disk_failed (journal.Disk fault) of_disk = tt

    by : (fault : OpenFault) → open_fault c ≡ Some fault → IsFoundFault (fault_of_open fault) c
    by (journal.NotFormatted found) here = fault_first c (journal.NotFormatted found) here
    by (journal.Damaged damage) here = fault_first c (journal.Damaged damage) here
    by (journal.Disk fault) here = tt

found_as : (image : List ℕ) (found : Found) (fault : ArrayFault) → opened image ≡ found → IsFaultIn found fault → IsFoundFault fault image
found_as image found (NotFormatted n) is wrong = is ∙ wrong
found_as image found (Damaged damage) is wrong = is ∙ wrong
found_as image found (Disk fault) is wrong = tt
found_as image found NoMemory is wrong = tt

area_ahead : (next : Durable Entry → Found) (x : Found) (fault : ArrayFault) → IsFaultIn x fault → IsFaultIn (behind next x) fault
area_ahead next x (NotFormatted n) is = ap (behind next) is
area_ahead next x (Damaged damage) is = ap (behind next) is
area_ahead next x (Disk fault) is = tt
area_ahead next x NoMemory is = tt

-- the area isn't taken
pub area_fails : (told : Option (List ℕ)) (head : LogHead) (fault : ArrayFault) → IfSome told (λ c. IsFaultIn (area_found head c) fault) → IfSome told (λ c. HasHead head c → IsFoundFault fault c)
area_fails None head fault wrong = tt
area_fails (Some c) head fault wrong = λ has.
    found_as c (behind (slots_found (journal_at_first head) c) (area_found head c)) fault (opened_with_head head c has)
    (area_ahead (slots_found (journal_at_first head) c) (area_found head c) fault wrong)

-- a slot isn't
pub slots_fail : (told again : Option (List ℕ)) (head : LogHead) (begun : JournalState) (first : Durable Entry) (fault : ArrayFault) → again ≡ told → begun ≡ journal_at_first head
    → IfSome told (λ c. area_found head c ≡ Ok first) → IfSome again (λ c. IsFaultIn (slots_found begun c first) fault) → IfSome told (λ c. HasHead head c → IsFoundFault fault c)
slots_fail None again head begun first fault same is tables wrong = tt
slots_fail (Some c) again head begun first fault same is tables wrong = λ has.
    found_as c (slots_found begun c first) fault
    (opened_with_head head c has ∙ ap (behind (slots_found (journal_at_first head) c)) tables ∙ ap (λ (j : JournalState). slots_found j c first) (sym is))
    (subst (λ o. IfSome o (λ c. IsFaultIn (slots_found begun c first) fault)) same wrong)

-- ---- the array that is opened

-- the journal continues the log that the image holds
continued : (head : LogHead) (now : JournalState) (image : List ℕ) (records : List (List ℕ)) → now ≡ journal_at head now.records → now.records ≤ 256 → HasHead head image → HasRead now records image
    → (now.records < 256 → gate_of_next now image ≡ 1 → ⊥) → (log : Log) → log_of image ≡ Some log → now ≡ journal_of log
continued head now image records is few has read shut log holds =
    let here : HasRead (journal_at head now.records) records image = subst (λ (j : JournalState). HasRead j records image) is read in
    let ends : now.records < 256 → gate_of_next (journal_at head now.records) image ≡ 1 → ⊥ = λ lt. subst (λ (j : JournalState). gate_of_next j image ≡ 1 → ⊥) is (shut lt) in
    let held = read_all head now.records image records few has here ends in
    let count : length records ≡ now.records = length-given _ now.records records here.payloads in
    let same : Some held.0 ≡ Some log = sym held.1 ∙ holds in
    is ∙ ap (λ (n : ℕ). journal_at head n) (sym count) ∙ sym held.2 ∙ ap journal_of (some_log held.0 log same)
  where
    some_log : (a b : Log) → Some a ≡ Some b → a ≡ b
    some_log a b e = cc

pub image_opened : (told again : Option (List ℕ)) (head : LogHead) (begun now : JournalState) (first : Durable Entry) (core : CoreState) → again ≡ told → begun ≡ journal_at_first head → now.geometry ≡ begun.geometry → now.half ≡ begun.half → now.records ≤ 256
    → IfSome told (λ c. area_found head c ≡ Ok first) → IfSome again (HasReplayed begun now first core.array.durable)
    → core.array.volatile ≡ empty_volatile → core.array.durable.geometry ≡ first.geometry → first.geometry ≡ head.geometry → IfSome told (λ c. HasHead head c → IsOpened now core c)
image_opened None again head begun now first core same is geometry half few tables all waiting sizes sized = tt
image_opened (Some c) again head begun now first core same is geometry half few tables all waiting sizes sized = λ has.
    let replayed : HasReplayed begun now first core.array.durable c = subst (λ o. IfSome o (HasReplayed begun now first core.array.durable)) same all in
    let of_head : now.geometry ≡ head.geometry = geometry ∙ ap (λ (j : JournalState). j.geometry) is in
    let of_half : now.half ≡ head.half = half ∙ ap (λ (j : JournalState). j.half) is in
    record {
      tables =
          opened_with_head head c has ∙ ap (behind (slots_found (journal_at_first head) c)) tables
          ∙ ap (λ (j : JournalState). slots_found j c first) (sym is) ∙ replayed.finds;
      waiting = waiting;
      sizes = of_head ∙ sym sized ∙ sym sizes;
      continues = continued head now c replayed.records (same_parts now head of_head of_half) few has replayed.read replayed.shut;
    }
  where
    same_parts : (j : JournalState) (head : LogHead) → j.geometry ≡ head.geometry → j.half ≡ head.half → j ≡ journal_at head j.records
    same_parts j head geometry half =
        ap (λ (g : Geometry). let k : JournalState = record { geometry = g; half = j.half; records = j.records } in k) geometry
        ∙ ap (λ (h : ℕ). let k : JournalState = record { geometry = head.geometry; half = h; records = j.records } in k) half

-- it stands on a disk whose one image is what is read
up_opened : (c : List ℕ) (journal : JournalState) (core : CoreState) (now : Option (List ℕ)) (images : List ℕ → Type 0) → now ≡ Some c → OnlyTold now images → IsOpened journal core c → (log : Log) → Holds log c
    → UpOn journal core.array now images (flat_over c core.array)
up_opened c journal core now images is only opens log holds =
    let same : (image : List ℕ) → images image → c ≡ image = λ image left. some_image c image (sym is ∙ only image left) in
    record {
      log = log;
      continues = opens.continues log holds.is;
      holds = λ image left. subst (Holds log) (same image left) holds;
      tables = sym (opened_by_log log c holds.is) ∙ opens.tables;
      content = c;
      told_is = is;
      named = λ image left place named. ap (λ (i : List ℕ). bytes_at_place core.array.durable.geometry i place) (sym (same image left));
      array_is = refl;
    }
  where
    some_image : (c image : List ℕ) → Some c ≡ Some image → c ≡ image
    some_image c image e = cc

-- it is opened as told
pub opens_as : (told again : Option (List ℕ)) (head : LogHead) (journal : JournalState) (core : CoreState) (n : ℕ) (array : ArrayView) → again ≡ told → array ≡ IsUp journal core → n ≡ core.array.durable.lsn
    → IfSome again (HasHead head) → IfSome again (λ c. HasHead head c → IsOpened journal core c) → IfSome told (OpensAs array n)
opens_as None again head journal core n array same is number has opens = tt
opens_as (Some c) again head journal core n array same is number has opens =
    let head_here : HasHead head c = subst (λ o. IfSome o (HasHead head)) same has in
    let opens_here : HasHead head c → IsOpened journal core c = subst (λ o. IfSome o (λ c. HasHead head c → IsOpened journal core c)) same opens in
    subst (λ (a : ArrayView). OpensAs a n c) (sym is) (opens_here head_here, number)

pub stands_as : (told now : Option (List ℕ)) (journal : JournalState) (core : CoreState) (n : ℕ) (array : ArrayView) (images : List ℕ → Type 0) → array ≡ IsUp journal core → now ≡ told → OnlyTold now images → IfSome told (OpensAs array n)
    → IfSome told (λ c. (log : Log) → Holds log c → StandsOpened array c now images)
stands_as None now journal core n array images is same only opens = tt
stands_as (Some c) now journal core n array images is same only opens = λ log holds.
    subst (λ (a : ArrayView). StandsOpened a c now images) (sym is)
    (up_opened c journal core now images same only (subst (λ (a : ArrayView). OpensAs a n c) is opens).0 log holds)
