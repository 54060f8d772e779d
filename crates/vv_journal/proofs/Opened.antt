-- What is read of an image says what the image holds.
use Rattle.std.proofs.Common.{◌≡◌, ◌≢◌, ℕ, zero, suc, ◌+◌, ◌*◌, ◌<◌, ◌≤◌, ◌&&◌, ◌||◌, Bool, true, false, eqb, leb, List, [], ◌∷◌, length, get_or, take, drop, Option, Some, None, IfSome, option_map, Result, Ok, Err, OnOk, refl, sym, ap, ◌∙◌, arith}
use Rattle.std.specs.Int.{w32, w64, from_be_bytes}
use Rattle.std.proofs.lemmas.Bool.{and_parts, and_from, and_right, le-leb, lt-leb, eq-eqb, eqb-true, ne_eqb, cond-true, cond-false}
use Rattle.std.proofs.lemmas.List.{get_or-take, get_or-drop, take-take}
use Rattle.vv_units.specs.Sizes.{is_chunk_size}
use Rattle.vv_units.specs.declared.geometry.Geometry.{Geometry}
use Rattle.vv_units.specs.declared.damage.Part.TheVariants.{Header as in_header, Length as in_length, Area as in_area}
use Rattle.vv_fields.specs.Fields.{be_number}
use Rattle.vv_fields.proofs.Numbers.{number_of_4, number_of_8}
use Rattle.vv_disk.specs.Images.{bytes_at}
use Rattle.vv_data.specs.Layout.{header_bytes, disk_len}
use Rattle.vv_data.proofs.Places.{part_of}
use Rattle.vv_journal.specs.declared.opening.Fields.{Fields}
use Rattle.vv_journal.specs.declared.opening.LogHead.{LogHead}
use Rattle.vv_journal.specs.declared.opening.OpenFault.{OpenFault}
use Rattle.vv_journal.specs.declared.opening.OpenFault.TheVariants.{NotFormatted, Damaged, Disk}
use Rattle.vv_journal.specs.Header.{Header, header_of, half_of, is_formatted, is_version, magic, number_at}
use Rattle.vv_journal.specs.Half.{is_area, length_field, length_in, spelling_in, payload_at, payload_limit, tables_at}
use Rattle.vv_journal.specs.Openings.{damaged, header_fault, is_known_version, is_pool_size, is_map_size, fault_behind, open_fault, HasFields, HasHead, IsDamage, HasDiskCause}
use Rattle.vv_journal.specs.Geometries.{is_geometry, sizes_if, geometry_of}
use Rattle.vv_journal.specs.Log.{Log, log_of}
use Rattle.vv_journal.proofs.Options.{guard_parts, map_parts}
use Rattle.vv_journal.proofs.Parts.{area_from, area_parts, header_in, area_in, parts_of, payload_from}
use Rattle.vv_journal.proofs.Kept.{front_bytes}
use Rattle.vv_journal.proofs.Headers.{header_from}

-- ---- numbers

front_of_4 : (rest : List ℕ) → 4 ≤ length rest → get_or rest 0 0 ∷ get_or rest 1 0 ∷ get_or rest 2 0 ∷ get_or rest 3 0 ∷ [] ≡ take 4 rest
front_of_4 [] le = absurd (omega (arith, le))
front_of_4 (a ∷ []) le = absurd (omega (arith, le))
front_of_4 (a ∷ b ∷ []) le = absurd (omega (arith, le))
front_of_4 (a ∷ b ∷ c ∷ []) le = absurd (omega (arith, le))
front_of_4 (a ∷ b ∷ c ∷ d ∷ rest) le = refl

front_of_8 : (rest : List ℕ) → 8 ≤ length rest → get_or rest 0 0 ∷ get_or rest 1 0 ∷ get_or rest 2 0 ∷ get_or rest 3 0 ∷ get_or rest 4 0 ∷ get_or rest 5 0 ∷ get_or rest 6 0 ∷ get_or rest 7 0 ∷ [] ≡ take 8 rest
front_of_8 [] le = absurd (omega (arith, le))
front_of_8 (a ∷ []) le = absurd (omega (arith, le))
front_of_8 (a ∷ b ∷ []) le = absurd (omega (arith, le))
front_of_8 (a ∷ b ∷ c ∷ []) le = absurd (omega (arith, le))
front_of_8 (a ∷ b ∷ c ∷ d ∷ []) le = absurd (omega (arith, le))
front_of_8 (a ∷ b ∷ c ∷ d ∷ e ∷ []) le = absurd (omega (arith, le))
front_of_8 (a ∷ b ∷ c ∷ d ∷ e ∷ f ∷ []) le = absurd (omega (arith, le))
front_of_8 (a ∷ b ∷ c ∷ d ∷ e ∷ f ∷ g ∷ []) le = absurd (omega (arith, le))
front_of_8 (a ∷ b ∷ c ∷ d ∷ e ∷ f ∷ g ∷ h ∷ rest) le = refl

pub four_at : (bytes rest : List ℕ) (at : ℕ) → rest ≡ drop at bytes → 4 ≤ length rest → from_be_bytes w32 (get_or rest 0 0 ∷ get_or rest 1 0 ∷ get_or rest 2 0 ∷ get_or rest 3 0 ∷ []) ≡ number_at 4 at bytes
four_at bytes rest at is le =
    number_of_4 (get_or rest 0 0 ∷ get_or rest 1 0 ∷ get_or rest 2 0 ∷ get_or rest 3 0 ∷ []) refl
    ∙ ap be_number (front_of_4 rest le ∙ ap (λ (l : List ℕ). take 4 l) is)

pub eight_at : (bytes rest : List ℕ) (at : ℕ) → rest ≡ drop at bytes → 8 ≤ length rest
    → from_be_bytes w64 (get_or rest 0 0 ∷ get_or rest 1 0 ∷ get_or rest 2 0 ∷ get_or rest 3 0 ∷ get_or rest 4 0 ∷ get_or rest 5 0 ∷ get_or rest 6 0 ∷ get_or rest 7 0 ∷ []) ≡ number_at 8 at bytes
eight_at bytes rest at is le =
    number_of_8 (get_or rest 0 0 ∷ get_or rest 1 0 ∷ get_or rest 2 0 ∷ get_or rest 3 0 ∷ get_or rest 4 0 ∷ get_or rest 5 0 ∷ get_or rest 6 0 ∷ get_or rest 7 0 ∷ []) refl
    ∙ ap be_number (front_of_8 rest le ∙ ap (λ (l : List ℕ). take 8 l) is)

-- ---- contents that may be told

pub on_ok_then : {T E : Type 0} (r : Result T E) (P Q : Type 0) → (P → Q) → OnOk r P → OnOk r Q
on_ok_then (Ok x) P Q next p = next p
on_ok_then (Err e) P Q next p = tt

pub told_next : (told : Option (List ℕ)) (P Q : List ℕ → Type 0) → ((c : List ℕ) → P c → Q c) → IfSome told P → IfSome told Q
told_next None P Q next p = tt
told_next (Some c) P Q next p = next c p

-- two facts, and the length
pub told_both : (told : Option (List ℕ)) (size : ℕ) (P Q R : List ℕ → Type 0) → ((c : List ℕ) → told ≡ Some c → length c ≡ size) → ((c : List ℕ) → length c ≡ size → P c → Q c → R c) → IfSome told P → IfSome told Q → IfSome told R
told_both None size P Q R sized next p q = tt
told_both (Some c) size P Q R sized next p q = next c (sized c refl) p q

-- ---- slots

-- a part of the bytes that were read
read_part : (at n i m : ℕ) (got image : List ℕ) → got ≡ bytes_at at n image → i + m ≤ n → bytes_at (at + i) m image ≡ bytes_at i m got
read_part at n i m got image is le = part_of at i m n image le ∙ ap (λ (l : List ℕ). bytes_at i m l) (sym is)

read_front : (at n m : ℕ) (got image : List ℕ) → got ≡ bytes_at at n image → m ≤ n → bytes_at at m image ≡ bytes_at 0 m got
read_front at n m got image is le = ap (λ (k : ℕ). bytes_at k m image) (let e : at ≡ at + 0 = omega arith in e) ∙ read_part at n 0 m got image is (omega (arith, le))

pub gate_read : (at : ℕ) (got image : List ℕ) → got ≡ bytes_at at 1 image → get_or got 0 0 ≡ 1 → get_or image at 0 ≡ 1
gate_read at [] image is one = absurd (omega (arith, one))
gate_read at (g ∷ rest) image is one = gate_from image at g rest is one
  where
    gate_from : (image : List ℕ) (at g : ℕ) (rest : List ℕ) → g ∷ rest ≡ bytes_at at 1 image → g ≡ 1 → get_or image at 0 ≡ 1
    gate_from [] zero g rest is one = absurd cc
    gate_from [] (suc at) g rest is one = absurd cc
    gate_from (x ∷ image) zero g rest is one = let e : g ≡ x = cc in sym e ∙ one
    gate_from (x ∷ image) (suc at) g rest is one = gate_from image at g rest is one

pub slot_bad : (at : ℕ) (head image : List ℕ) → head ≡ bytes_at at 8 image → number_at 4 4 head ≢ 0 → payload_at at image ≡ None
slot_bad at head image is bad =
    let zeros : number_at 4 (at + 4) image ≡ number_at 4 4 head = ap be_number (read_part at 8 4 4 head image is (omega arith)) in
    cond-false _ _ _ (and_right _ _ (ne_eqb _ _ (λ zero. bad (sym zeros ∙ zero))))

pub slot_good : (at len : ℕ) (head got image : List ℕ) → head ≡ bytes_at at 8 image → number_at 4 0 head ≡ len → len ≤ payload_limit → number_at 4 4 head ≡ 0 → got ≡ bytes_at (at + 8) len image → payload_at at image ≡ Some got
slot_good at len head got image is measure le zeros bytes =
    payload_from at len image got (ap be_number (read_front at 8 4 head image is (omega arith)) ∙ measure) le (ap be_number (read_part at 8 4 4 head image is (omega arith)) ∙ zeros) (sym bytes)

-- ---- the fields of a header

module _ (bytes : List ℕ) where
  pub wrong_words : (w : ℕ) → w ≡ number_at 8 8 bytes → w ≢ magic → header_fault bytes ≡ Some (damaged in_header 8 w)
  unfolding header_fault
  wrong_words w is wrong = cond-false _ _ _ (ne_eqb _ _ (λ e. wrong (is ∙ e))) ∙ ap (λ (k : ℕ). Some (damaged in_header 8 k)) (sym is)

  pub wrong_version : (v : ℕ) → number_at 8 8 bytes ≡ magic → v ≡ number_at 4 16 bytes → is_known_version v ≡ false → header_fault bytes ≡ Some (damaged in_header 16 v)
  unfolding header_fault
  wrong_version v words is wrong =
      cond-true _ _ _ (eq-eqb _ _ words) ∙ cond-false _ _ _ (ap is_known_version (sym is) ∙ wrong) ∙ ap (λ (k : ℕ). Some (damaged in_header 16 k)) (sym is)

  pub wrong_blocks : (v b : ℕ) → number_at 8 8 bytes ≡ magic → v ≡ number_at 4 16 bytes → is_known_version v ≡ true → b ≡ number_at 4 20 bytes → is_chunk_size b ≡ false → header_fault bytes ≡ Some (damaged in_header 20 b)
  unfolding header_fault
  wrong_blocks v b words version known is wrong =
      cond-true _ _ _ (eq-eqb _ _ words) ∙ cond-true _ _ _ (ap is_known_version (sym version) ∙ known) ∙ cond-false _ _ _ (ap is_chunk_size (sym is) ∙ wrong) ∙ ap (λ (k : ℕ). Some (damaged in_header 20 k)) (sym is)

  pub wrong_pool : (v b p : ℕ) → number_at 8 8 bytes ≡ magic → v ≡ number_at 4 16 bytes → is_known_version v ≡ true → b ≡ number_at 4 20 bytes → is_chunk_size b ≡ true → p ≡ number_at 4 24 bytes → is_pool_size b p ≡ false → header_fault bytes ≡ Some (damaged in_header 24 p)
  unfolding header_fault
  wrong_pool v b p words version known blocks sized is wrong =
      cond-true _ _ _ (eq-eqb _ _ words) ∙ cond-true _ _ _ (ap is_known_version (sym version) ∙ known) ∙ cond-true _ _ _ (ap is_chunk_size (sym blocks) ∙ sized)
      ∙ cond-false _ _ _ (ap (λ (k : ℕ). is_pool_size k (number_at 4 24 bytes)) (sym blocks) ∙ ap (is_pool_size b) (sym is) ∙ wrong) ∙ ap (λ (k : ℕ). Some (damaged in_header 24 k)) (sym is)

  pub wrong_map : (v b p m : ℕ) → number_at 8 8 bytes ≡ magic → v ≡ number_at 4 16 bytes → is_known_version v ≡ true → b ≡ number_at 4 20 bytes → is_chunk_size b ≡ true → p ≡ number_at 4 24 bytes → is_pool_size b p ≡ true → m ≡ number_at 4 28 bytes → is_map_size v m ≡ false
      → header_fault bytes ≡ Some (damaged in_header 28 m)
  unfolding header_fault
  wrong_map v b p m words version known blocks sized pool few is wrong =
      cond-true _ _ _ (eq-eqb _ _ words) ∙ cond-true _ _ _ (ap is_known_version (sym version) ∙ known) ∙ cond-true _ _ _ (ap is_chunk_size (sym blocks) ∙ sized)
      ∙ cond-true _ _ _ (ap (λ (k : ℕ). is_pool_size k (number_at 4 24 bytes)) (sym blocks) ∙ ap (is_pool_size b) (sym pool) ∙ few)
      ∙ cond-false _ _ _ (ap (λ (k : ℕ). is_map_size k (number_at 4 28 bytes)) (sym version) ∙ ap (is_map_size v) (sym is) ∙ wrong) ∙ ap (λ (k : ℕ). Some (damaged in_header 28 k)) (sym is)

or_and : (a b c : Bool) → (a || b) ≡ true → (a || c) ≡ true → (a || (b && c)) ≡ true
or_and true b c x y = refl
or_and false true c x y = y
or_and false false c x y = x

pub version_from : (version map_chunks : ℕ) → is_known_version version ≡ true → is_map_size version map_chunks ≡ true → is_version version map_chunks ≡ true
version_from version map_chunks known map =
    or_and (eqb version 2) (eqb version 1) (leb map_chunks 262144) known (and_parts _ _ (and_parts _ _ map).1).1

pub told_three : (told : Option (List ℕ)) (P Q R S : List ℕ → Type 0) → IfSome told P → IfSome told Q → IfSome told R → ((c : List ℕ) → P c → Q c → R c → S c) → IfSome told S
told_three None P Q R S p q r next = tt
told_three (Some c) P Q R S p q r next = next c p q r

pub told_sized : (told : Option (List ℕ)) (size : ℕ) (P Q : List ℕ → Type 0) → ((c : List ℕ) → told ≡ Some c → length c ≡ size) → IfSome told P → ((c : List ℕ) → length c ≡ size → P c → Q c) → IfSome told Q
told_sized None size P Q sized p next = tt
told_sized (Some c) size P Q sized p next = next c (sized c refl) p

pub told_length : (told : Option (List ℕ)) (size : ℕ) (Q : List ℕ → Type 0) → ((c : List ℕ) → told ≡ Some c → length c ≡ size) → ((c : List ℕ) → length c ≡ size → Q c) → IfSome told Q
told_length None size Q sized next = tt
told_length (Some c) size Q sized next = next c (sized c refl)

-- ---- opening

pub no_cause : (fault : OpenFault) (reads_before reads_now writes_before writes_now : ℕ) → IsDamage fault → HasDiskCause reads_before reads_now writes_before writes_now fault
no_cause (NotFormatted found) reads_before reads_now writes_before writes_now is = tt
no_cause (Damaged damage) reads_before reads_now writes_before writes_now is = tt
no_cause (Disk fault) reads_before reads_now writes_before writes_now is = absurd is

-- the fields of the first 32 bytes are those of the image
same_number : (n i : ℕ) (bytes image : List ℕ) → bytes ≡ bytes_at 0 32 image → i + n ≤ 32 → number_at n i image ≡ number_at n i bytes
same_number n i bytes image is le =
    let same : take 32 image ≡ take 32 bytes = sym (take-take 32 32 image (omega arith)) ∙ ap (λ (l : List ℕ). take 32 l) (sym is) in
    ap be_number (front_bytes 32 i n bytes image le same)

same_first : (bytes image : List ℕ) → bytes ≡ bytes_at 0 32 image → get_or image 0 0 ≡ get_or bytes 0 0
same_first bytes image is = sym (get_or-take 32 image 0 0 (omega arith)) ∙ ap (λ (l : List ℕ). get_or l 0 0) (sym is)

same_fault : (bytes image : List ℕ) → bytes ≡ bytes_at 0 32 image → header_fault image ≡ header_fault bytes
unfolding header_fault
same_fault bytes image is =
    let words = same_number 8 8 bytes image is (omega arith) in
    let version = same_number 4 16 bytes image is (omega arith) in
    let blocks = same_number 4 20 bytes image is (omega arith) in
    let pool = same_number 4 24 bytes image is (omega arith) in
    let map = same_number 4 28 bytes image is (omega arith) in
    rw (words, version, blocks, pool, map) refl

-- an image whose first bytes have these fields has a header
pub fields_give : (fields : Fields) (bytes image : List ℕ) → bytes ≡ bytes_at 0 32 image → header_bytes ≤ length image → get_or bytes 0 0 ≡ 165 → HasFields fields bytes → header_of image ≡ Some (record { geometry = fields.geometry; version = fields.version })
fields_give fields bytes image is long first has =
    header_from image fields.geometry fields.version
    (and_from _ _ (le-leb _ _ long) (eq-eqb _ _ (same_first bytes image is ∙ first)))
    (same_number 8 8 bytes image is (omega arith) ∙ has.words)
    (same_number 4 16 bytes image is (omega arith) ∙ has.version)
    has.known
    (same_number 4 20 bytes image is (omega arith) ∙ has.chunk_blocks)
    (same_number 4 24 bytes image is (omega arith) ∙ has.pool_chunks)
    (same_number 4 28 bytes image is (omega arith) ∙ has.map_chunks)

pub too_short : (image : List ℕ) (len : ℕ) → length image ≡ len → len < header_bytes → open_fault image ≡ Some (NotFormatted len)
unfolding open_fault
too_short image len is lt = cond-false _ _ _ (let few : length image < header_bytes = omega (arith, is, lt) in lt-leb header_bytes (length image) few) ∙ ap (λ (k : ℕ). Some (NotFormatted k)) is

pub not_formatted : (bytes image : List ℕ) (found : ℕ) → bytes ≡ bytes_at 0 32 image → header_bytes ≤ length image → get_or bytes 0 0 ≢ 165 → found ≡ get_or bytes 0 0 → open_fault image ≡ Some (NotFormatted found)
unfolding open_fault
not_formatted bytes image found is long other tells =
    let first = same_first bytes image is in
    cond-true _ _ _ (le-leb _ _ long) ∙ cond-false _ _ _ (ne_eqb _ _ (λ e. other (sym first ∙ e))) ∙ ap (λ (k : ℕ). Some (NotFormatted k)) (first ∙ sym tells)

-- behind the first byte
formatted_fault : (bytes image : List ℕ) → bytes ≡ bytes_at 0 32 image → header_bytes ≤ length image → get_or bytes 0 0 ≡ 165 → open_fault image ≡ fault_behind (header_of image) image
unfolding open_fault
formatted_fault bytes image is long first = cond-true _ _ _ (le-leb _ _ long) ∙ cond-true _ _ _ (eq-eqb _ _ (same_first bytes image is ∙ first))

pub wrong_length : (header : Header) (bytes image : List ℕ) (needed len : ℕ) → bytes ≡ bytes_at 0 32 image → header_bytes ≤ length image → get_or bytes 0 0 ≡ 165 → header_of image ≡ Some header → needed ≡ disk_len header.geometry → length image ≡ len → len ≢ needed → open_fault image ≡ Some (damaged in_length needed len)
wrong_length header bytes image needed len is long first has need size other =
    formatted_fault bytes image is long first ∙ ap (λ (o : Option Header). fault_behind o image) has
    ∙ cond-false _ _ _ (ne_eqb _ _ (λ e. other (sym size ∙ e ∙ sym need)))
    ∙ ap (λ (k : ℕ). Some (damaged in_length k (length image))) (sym need) ∙ ap (λ (k : ℕ). Some (damaged in_length needed k)) size

pub wrong_area : (header : Header) (bytes image : List ℕ) (half field : ℕ) → bytes ≡ bytes_at 0 32 image → header_bytes ≤ length image → get_or bytes 0 0 ≡ 165 → header_of image ≡ Some header → length image ≡ disk_len header.geometry → half_of image ≡ half
    → length_field header.geometry half image ≡ field → is_area header field ≡ false → open_fault image ≡ Some (damaged in_area 0 half)
wrong_area header bytes image half field is long first has size selected measure wrong =
    formatted_fault bytes image is long first ∙ ap (λ (o : Option Header). fault_behind o image) has
    ∙ cond-true _ _ _ (eq-eqb _ _ size)
    ∙ cond-false _ _ _ (ap (λ (h : ℕ). is_area header (length_field header.geometry h image)) selected ∙ ap (is_area header) measure ∙ wrong)
    ∙ ap (λ (k : ℕ). Some (damaged in_area 0 k)) selected

pub head_stands : (head : LogHead) (version : ℕ) (image : List ℕ) (field : ℕ) → header_of image ≡ Some (record { geometry = head.geometry; version = version }) → half_of image ≡ head.half → length image ≡ disk_len head.geometry
    → length_field head.geometry head.half image ≡ field → is_area (record { geometry = head.geometry; version = version }) field ≡ true → spelling_in field ≡ head.spelling → length_in field ≡ head.area_len → HasHead head image
head_stands head version image field header half size measure test spelling len = record {
  version = version;
  header = header;
  half = half;
  size = size;
  area =
      area_from (record { geometry = head.geometry; version = version }) head.half field (tables_at head.geometry head.half head.area_len image) image measure test (ap (λ (n : ℕ). tables_at head.geometry head.half n image) len)
      ∙ ap (λ (s : ℕ). Some (record { spelling = s; tables = tables_at head.geometry head.half head.area_len image })) spelling;
}

pub byte_read : (at : ℕ) (got image : List ℕ) → got ≡ bytes_at at 1 image → get_or image at 0 ≡ get_or got 0 0
byte_read at got image is =
    ap (λ (k : ℕ). get_or image k 0) (let e : at ≡ at + 0 = omega arith in e) ∙ sym (get_or-drop at image 0 0) ∙ sym (get_or-take 1 (drop at image) 0 0 (omega arith)) ∙ ap (λ (l : List ℕ). get_or l 0 0) (sym is)

pub number_read : (at : ℕ) (got image : List ℕ) → got ≡ bytes_at at 8 image → number_at 8 at image ≡ number_at 8 0 got
number_read at got image is = ap be_number (read_front at 8 8 got image is (omega arith))

-- ---- a header has no wrong field

some_if : (b c p : ℕ) (test : Bool) (e : is_geometry b c p ≡ test) (g : Geometry) → sizes_if b c p test e ≡ Some g → test ≡ true
some_if b c p true e g is = refl
some_if b c p false e g is = absurd cc

geometry_some : (b c p : ℕ) (g : Geometry) → geometry_of b c p ≡ Some g → is_geometry b c p ≡ true
unfolding geometry_of
geometry_some b c p g is = some_if b c p (is_geometry b c p) refl g is

or_parts_and : (a b c : Bool) → (a || (b && c)) ≡ true → ((a || b) ≡ true) × ((a || c) ≡ true)
or_parts_and true b c e = (refl, refl)
or_parts_and false true c e = (refl, e)
or_parts_and false false c e = absurd cc

fields_right : (image : List ℕ) → number_at 8 8 image ≡ magic → is_version (number_at 4 16 image) (number_at 4 28 image) ≡ true → is_geometry (number_at 4 20 image) (number_at 4 24 image) (number_at 4 28 image) ≡ true → header_fault image ≡ None
unfolding header_fault
fields_right image words version sizes =
    let known = or_parts_and (eqb (number_at 4 16 image) 2) (eqb (number_at 4 16 image) 1) (leb (number_at 4 28 image) 262144) version in
    let b = number_at 4 20 image in
    let c = number_at 4 24 image in
    let m = number_at 4 28 image in
    let size = and_parts (is_chunk_size b) (leb 1 c && (leb c 262144 && (leb (c * b) 8388608 && (leb 64 m && leb m 1048576)))) sizes in
    let some = and_parts (leb 1 c) (leb c 262144 && (leb (c * b) 8388608 && (leb 64 m && leb m 1048576))) size.1 in
    let few = and_parts (leb c 262144) (leb (c * b) 8388608 && (leb 64 m && leb m 1048576)) some.1 in
    let small = and_parts (leb (c * b) 8388608) (leb 64 m && leb m 1048576) few.1 in
    let map = and_parts (leb 64 m) (leb m 1048576) small.1 in
    cond-true _ _ _ (eq-eqb _ _ words) ∙ cond-true _ _ _ known.0 ∙ cond-true _ _ _ size.0 ∙ cond-true _ _ _ (and_from _ _ some.0 (and_from _ _ few.0 small.0))
    ∙ cond-true _ _ _ (and_from _ _ map.0 (and_from _ _ map.1 known.1))

header_right : (image : List ℕ) (header : Header) → header_of image ≡ Some header → header_fault image ≡ None
unfolding header_of
header_right image header e =
    let guard = guard_parts (is_formatted image && (eqb (number_at 8 8 image) magic && is_version (number_at 4 16 image) (number_at 4 28 image)))
    (option_map (λ geometry. record { geometry = geometry; version = number_at 4 16 image }) (geometry_of (number_at 4 20 image) (number_at 4 24 image) (number_at 4 28 image))) header e in
    let tests = and_parts _ _ (and_parts _ _ guard.0).1 in
    let geometry = map_parts (λ (geometry : Geometry). record { geometry = geometry; version = number_at 4 16 image }) (geometry_of (number_at 4 20 image) (number_at 4 24 image) (number_at 4 28 image)) header guard.1 in
    fields_right image (eqb-true _ _ tests.0) tests.1 (geometry_some _ _ _ geometry.0 geometry.1)

formatted_of : (image : List ℕ) (header : Header) → header_of image ≡ Some header → is_formatted image ≡ true
unfolding header_of
formatted_of image header e =
    let guard = guard_parts (is_formatted image && (eqb (number_at 8 8 image) magic && is_version (number_at 4 16 image) (number_at 4 28 image)))
    (option_map (λ geometry. record { geometry = geometry; version = number_at 4 16 image }) (geometry_of (number_at 4 20 image) (number_at 4 24 image) (number_at 4 28 image))) header e in
    (and_parts _ _ guard.0).0

no_header_by : (image : List ℕ) (fault : OpenFault) (header : Option Header) → header_of image ≡ header → header_fault image ≡ Some fault → header ≡ None
no_header_by image fault None is e = refl
no_header_by image fault (Some header) is e = let right = header_right image header is in absurd cc

pub wrong_header : (fault : OpenFault) (bytes image : List ℕ) → bytes ≡ bytes_at 0 32 image → header_bytes ≤ length image → get_or bytes 0 0 ≡ 165 → header_fault bytes ≡ Some fault → open_fault image ≡ Some fault
wrong_header fault bytes image is long first e =
    let wrong : header_fault image ≡ Some fault = same_fault bytes image is ∙ e in
    formatted_fault bytes image is long first ∙ ap (λ (o : Option Header). fault_behind o image) (no_header_by image fault (header_of image) refl wrong) ∙ wrong

-- ---- an image that holds a log has no fault

pub log_opens : (log : Log) (image : List ℕ) → log_of image ≡ Some log → open_fault image ≡ None
unfolding open_fault
log_opens log image e =
    let parts = parts_of log image e in
    let formatted = and_parts (leb header_bytes (length image)) (eqb (get_or image 0 0) 165) (formatted_of image (header_in log) parts.header) in
    let area = area_parts (header_in log) log.half image (area_in log) parts.area in
    cond-true _ _ _ formatted.0 ∙ cond-true _ _ _ formatted.1 ∙ ap (λ (o : Option Header). fault_behind o image) parts.header
    ∙ cond-true _ _ _ (eq-eqb _ _ parts.size)
    ∙ cond-true _ _ _ (ap (λ (h : ℕ). is_area (header_in log) (length_field log.geometry h image)) parts.half ∙ area.test)

pub fault_means_no_log : (image : List ℕ) (fault : OpenFault) (log : Option Log) → log_of image ≡ log → open_fault image ≡ Some fault → log ≡ None
fault_means_no_log image fault None is e = refl
fault_means_no_log image fault (Some log) is e = let none = log_opens log image is in absurd cc

pub told_three_sized : (told : Option (List ℕ)) (size : ℕ) (P Q R S : List ℕ → Type 0) → ((c : List ℕ) → told ≡ Some c → length c ≡ size) → IfSome told P → IfSome told Q → IfSome told R → ((c : List ℕ) → length c ≡ size → P c → Q c → R c → S c) → IfSome told S
told_three_sized None size P Q R S sized p q r next = tt
told_three_sized (Some c) size P Q R S sized p q r next = next c (sized c refl) p q r
