-- The tables of an area that was fed to a reader, and what is told where it isn't taken. They serve opening an image.
use Rattle.std.proofs.Common.{◌≡◌, ℕ, ◌+◌, ◌≤◌, List, [], ◌++◌, take, drop, Option, None, Some, IfSome, Result, Ok, Err, refl, sym, ap, ◌∙◌, subst, append_assoc, arith}
use Rattle.std.proofs.lemmas.List.{take-take, drop-drop, drop-take, take-append-drop}
use Rattle.vv_data.proofs.Places.{part_of}
use Rattle.vv_units.specs.declared.geometry.Geometry.{Geometry}
use Rattle.vv_units.specs.declared.damage.Part.TheVariants as part
use Rattle.vv_fields.specs.Fields.{AreBytes}
use Rattle.vv_fields.proofs.ByteLemmas.{AreBytes-append}
use Rattle.vv_flat.specs.State.{Durable, empty_volatile}
use Rattle.vv_flat.specs.Chunks.{Entry}
use Rattle.vv_flat.specs.Rules.{first_fault}
use Rattle.vv_disk.specs.Images.{bytes_at}
use Rattle.vv_data.specs.Layout.{half_at}
use Rattle.vv_area.specs.Area.{tables_in, IsFaultOf}
use Rattle.vv_area.specs.declared.fault.AreaFault.{AreaFault}
use Rattle.vv_area.specs.declared.fault.AreaFault.TheVariants as area
use Rattle.vv_area.proofs.AreaLaws.{read_is_spelled}
use Rattle.vv_area_reader.specs.Told.{AreaReading}
use Rattle.vv_journal.specs.declared.opening.LogHead.{LogHead}
use Rattle.vv_journal.specs.Half.{tables_at}
use Rattle.vv_journal.specs.Calls.{JournalState}
use Rattle.vv_journal.specs.Openings.{damaged, journal_at_first}
use Rattle.vv_image.specs.Opening.{Found, ruled, spelled, area_tables}
use Rattle.vv_core.specs.Core.{CoreState}
use Rattle.vv_core.specs.Areas.{IsReading, TellsCore}
use Rattle.vv_array.specs.declared.fault.ArrayFault.{ArrayFault}
use Rattle.vv_array.specs.OpeningSteps.{IsFed, FeedsOn, FailsOn, IsFaultIn, fault_of_area, area_found}

-- ---- faults

fed_fault : (half : ℕ) (fault : AreaFault) (found : Result (Durable Entry) ℕ) → IsFaultOf fault found → IsFaultIn (spelled half found) (fault_of_area half fault)
fed_fault half (area.Bad at) found is = ap (spelled half) is
fed_fault half (area.Rule rule what) found is = absurd is
fed_fault half area.NoMemory found is = tt

rule_broken : (half : ℕ) (rule what : ℕ) (d : Durable Entry) → first_fault d ≡ Some (record { rule = rule; found = what }) → ruled d ≡ Err (damaged part.Rule rule what)
rule_broken half rule what d is = rw is refl

told_fault : (half : ℕ) (fault : AreaFault) (found : Result (Durable Entry) ℕ) → TellsCore (Err fault) found → IsFaultIn (spelled half found) (fault_of_area half fault)
told_fault half (area.Bad at) (Ok d) is = absurd is
told_fault half (area.Bad at) (Err place) is = ap (λ (n : ℕ). let f : Found = Err (damaged part.Area n half) in f) (sym is)
told_fault half (area.Rule rule what) (Ok d) is = rule_broken half rule what d is
told_fault half (area.Rule rule what) (Err place) is = absurd is
told_fault half area.NoMemory (Ok d) is = tt
told_fault half area.NoMemory (Err place) is = tt

no_rule_broken : (d : Durable Entry) → first_fault d ≡ None → ruled d ≡ Ok d
no_rule_broken d is = rw is refl

-- the tables of a core that was made
pub record IsMade (half : ℕ) (found : Result (Durable Entry) ℕ) (core : CoreState) : Type 0 where
  pub tables : spelled half found ≡ Ok core.array.durable
  pub reads : found ≡ Ok core.array.durable
  pub waiting : core.array.volatile ≡ empty_volatile

core_made : (half : ℕ) (found : Result (Durable Entry) ℕ) (core : CoreState) → TellsCore (Ok core) found → IsMade half found core
core_made half (Err at) core is = absurd is
core_made half (Ok d) core is =
    let same : core.array.durable ≡ d = ap (λ a. a.durable) is.1 in
    record {
      tables = no_rule_broken d is.0 ∙ ap (λ (t : Durable Entry). let f : Found = Ok t in f) (sym same);
      reads = ap (λ (t : Durable Entry). let r : Result (Durable Entry) ℕ = Ok t in r) (sym same);
      waiting = ap (λ a. a.volatile) is.1;
    }

-- ---- bytes

-- more bytes from a place on
bytes_more : (from at n : ℕ) (image : List ℕ) → bytes_at from (at + n) image ≡ bytes_at from at image ++ bytes_at (from + at) n image
bytes_more from at n image =
    split at n (drop from image) ∙ ap (λ (l : List ℕ). take at (drop from image) ++ take n l) (drop-drop at from image)
  where
    split : (i m : ℕ) (l : List ℕ) → take (i + m) l ≡ take i l ++ take m (drop i l)
    split i m l =
        sym (take-append-drop i (take (i + m) l))
        ∙ ap (λ (x : List ℕ). x ++ drop i (take (i + m) l)) (take-take i (i + m) l (omega arith))
        ∙ ap (λ (x : List ℕ). take i l ++ x) (drop-take i m l)

-- the reader before the first piece
pub none_fed : (reader : AreaReading) (head : LogHead) (told : Option (List ℕ)) → IsReading reader head.geometry head.spelling [] → IsFed reader head 0 told
none_fed reader head told reads = record { fed = []; bytes = λ i. omega arith; reads = reads; is = none_told told }
  where
    none_told : (told : Option (List ℕ)) → IfSome told (λ c. [] ≡ tables_at head.geometry head.half 0 c)
    none_told None = tt
    none_told (Some c) = refl

-- ---- a piece

-- a piece behind what was fed, in the area of a content
piece_stands : (head : LogHead) (at count : ℕ) (fed piece c : List ℕ) → fed ≡ tables_at head.geometry head.half at c
    → ((n : ℕ) → at + count ≤ n → piece ≡ bytes_at at count (tables_at head.geometry head.half n c))
    → fed ++ piece ≡ tables_at head.geometry head.half (at + count) c
piece_stands head at count fed piece c before read =
    let start : ℕ = half_at head.geometry head.half + 8 in
    let le : at + count ≤ at + count = omega arith in
    ap (λ (l : List ℕ). l ++ piece) before
    ∙ ap (λ (l : List ℕ). bytes_at start at c ++ l) (read (at + count) le ∙ sym (part_of start at count (at + count) c le))
    ∙ sym (bytes_more start at count c)

-- with what comes behind it, it is the whole area
whole_area_again : (head : LogHead) (to : ℕ) (fed piece c : List ℕ) → to ≤ head.area_len → fed ++ piece ≡ tables_at head.geometry head.half to c
    → fed ++ (piece ++ drop to (tables_at head.geometry head.half head.area_len c)) ≡ tables_at head.geometry head.half head.area_len c
whole_area_again head to fed piece c le is =
    let start : ℕ = half_at head.geometry head.half + 8 in
    let whole : List ℕ = tables_at head.geometry head.half head.area_len c in
    sym (append_assoc fed piece (drop to whole))
    ∙ ap (λ (l : List ℕ). l ++ drop to whole) (is ∙ sym (take-take to head.area_len (drop start c) le))
    ∙ take-append-drop to whole

pub piece_fed : (old new : AreaReading) (head : LogHead) (at count : ℕ) (told : Option (List ℕ)) (piece : List ℕ) → IsFed old head at told → AreBytes piece
    → IfSome told (λ c. (n : ℕ) → at + count ≤ n → piece ≡ bytes_at at count (tables_at head.geometry head.half n c)) → FeedsOn old new piece
    → IsFed new head (at + count) told
piece_fed old new head at count told piece before are read feeds = record {
  fed = before.fed ++ piece;
  bytes = AreBytes-append before.fed piece before.bytes are;
  reads = feeds head.geometry head.spelling before.fed before.reads;
  is = by told before.is read;
}
  where
    by : (told : Option (List ℕ)) → IfSome told (λ c. before.fed ≡ tables_at head.geometry head.half at c) → IfSome told (λ c. (n : ℕ) → at + count ≤ n → piece ≡ bytes_at at count (tables_at head.geometry head.half n c))
        → IfSome told (λ c. before.fed ++ piece ≡ tables_at head.geometry head.half (at + count) c)
    by None is read = tt
    by (Some c) is read = piece_stands head at count before.fed piece c is read

fails_within : (head : LogHead) (fault : AreaFault) (c area : List ℕ) → IsFaultOf fault (tables_in head.geometry head.spelling area) → area ≡ tables_at head.geometry head.half head.area_len c
    → IsFaultIn (area_found head c) (fault_of_area head.half fault)
unfolding area_tables
fails_within head fault c area is same =
    fed_fault head.half fault (tables_in head.geometry head.spelling (tables_at head.geometry head.half head.area_len c))
    (subst (λ (l : List ℕ). IsFaultOf fault (tables_in head.geometry head.spelling l)) same is)

pub piece_fails : (old : AreaReading) (head : LogHead) (at count : ℕ) (told : Option (List ℕ)) (piece : List ℕ) (fault : AreaFault) → at + count ≤ head.area_len → IsFed old head at told
    → IfSome told (λ c. (n : ℕ) → at + count ≤ n → piece ≡ bytes_at at count (tables_at head.geometry head.half n c)) → FailsOn old piece fault
    → IfSome told (λ c. IsFaultIn (area_found head c) (fault_of_area head.half fault))
piece_fails old head at count None piece fault le before read fails = tt
piece_fails old head at count (Some c) piece fault le before read fails =
    let coming : List ℕ = drop (at + count) (tables_at head.geometry head.half head.area_len c) in
    fails_within head fault c (before.fed ++ (piece ++ coming)) (fails head.geometry head.spelling before.fed before.reads coming)
    (whole_area_again head (at + count) before.fed piece c le (piece_stands head at count before.fed piece c before.is read))

-- ---- the end

-- what a reader tells of each area that was fed to it
abbrev pub TellsOf : AreaReading → Result CoreState AreaFault → Type 0
TellsOf reader result = (geometry : Geometry) → (spelling : ℕ) → (area : List ℕ) → IsReading reader geometry spelling area → TellsCore result (tables_in geometry spelling area)

-- The core has the tables of the area.
pub record IsCoreOf (head : LogHead) (told : Option (List ℕ)) (core : CoreState) : Type 0 where
  pub tables : IfSome told (λ c. area_found head c ≡ Ok core.array.durable)
  pub waiting : core.array.volatile ≡ empty_volatile
  pub sizes : core.array.durable.geometry ≡ head.geometry

made_within : (head : LogHead) (core : CoreState) (c area : List ℕ) → spelled head.half (tables_in head.geometry head.spelling area) ≡ Ok core.array.durable → area ≡ tables_at head.geometry head.half head.area_len c
    → area_found head c ≡ Ok core.array.durable
unfolding area_tables
made_within head core c area is same = ap (λ (l : List ℕ). spelled head.half (tables_in head.geometry head.spelling l)) (sym same) ∙ is

pub core_finished : (reader : AreaReading) (head : LogHead) (told : Option (List ℕ)) (core : CoreState) → IsFed reader head head.area_len told → TellsOf reader (Ok core) → IsCoreOf head told core
core_finished reader head told core fed tells =
    let made : IsMade head.half (tables_in head.geometry head.spelling fed.fed) core = core_made head.half (tables_in head.geometry head.spelling fed.fed) core (tells head.geometry head.spelling fed.fed fed.reads) in
    record {
      tables = by told fed.is made.tables;
      waiting = made.waiting;
      sizes = (read_is_spelled head.geometry head.spelling fed.fed core.array.durable fed.bytes made.reads).2;
    }
  where
    by : (told : Option (List ℕ)) → IfSome told (λ c. fed.fed ≡ tables_at head.geometry head.half head.area_len c) → spelled head.half (tables_in head.geometry head.spelling fed.fed) ≡ Ok core.array.durable
        → IfSome told (λ c. area_found head c ≡ Ok core.array.durable)
    by None is made = tt
    by (Some c) is made = made_within head core c fed.fed made is

ends_within : (head : LogHead) (fault : AreaFault) (c area : List ℕ) → TellsCore (Err fault) (tables_in head.geometry head.spelling area) → area ≡ tables_at head.geometry head.half head.area_len c
    → IsFaultIn (area_found head c) (fault_of_area head.half fault)
unfolding area_tables
ends_within head fault c area is same =
    told_fault head.half fault (tables_in head.geometry head.spelling (tables_at head.geometry head.half head.area_len c))
    (subst (λ (l : List ℕ). TellsCore (Err fault) (tables_in head.geometry head.spelling l)) same is)

pub end_fails : (reader : AreaReading) (head : LogHead) (told : Option (List ℕ)) (fault : AreaFault) → IsFed reader head head.area_len told → TellsOf reader (Err fault)
    → IfSome told (λ c. IsFaultIn (area_found head c) (fault_of_area head.half fault))
end_fails reader head None fault fed tells = tt
end_fails reader head (Some c) fault fed tells =
    ends_within head fault c fed.fed (tells head.geometry head.spelling fed.fed fed.reads) fed.is

-- what is told of the same content, by another name
pub fault_told_as : (told : Option (List ℕ)) (found : List ℕ → Found) (fault same : ArrayFault) → same ≡ fault → IfSome told (λ c. IsFaultIn (found c) fault) → IfSome told (λ c. IsFaultIn (found c) same)
fault_told_as told found fault same is tells = subst (λ (f : ArrayFault). IfSome told (λ c. IsFaultIn (found c) f)) (sym is) tells

-- what was read by the journal of an image with this head
pub read_by : (told : Option (List ℕ)) (j : JournalState) (head : LogHead) (at count : ℕ) (piece : List ℕ) → j ≡ journal_at_first head
    → IfSome told (λ c. (n : ℕ) → at + count ≤ n → piece ≡ bytes_at at count (tables_at j.geometry j.half n c))
    → IfSome told (λ c. (n : ℕ) → at + count ≤ n → piece ≡ bytes_at at count (tables_at head.geometry head.half n c))
read_by told j head at count piece is read =
    subst (λ (k : JournalState). IfSome told (λ c. (n : ℕ) → at + count ≤ n → piece ≡ bytes_at at count (tables_at k.geometry k.half n c))) is read
