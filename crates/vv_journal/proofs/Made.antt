-- What stands in an image that was made afresh, and in a half that was.
use Rattle.std.proofs.Common.{◌≡◌, inl, inr, ℕ, ◌+◌, ◌-◌, ◌%◌, ◌≤◌, true, leb, List, [], ◌∷◌, length, get_or, Option, None, Some, IfSome, option_map, refl, sym, ap, ◌∙◌, subst, arith}
use Rattle.std.proofs.lemmas.Bool.{and_from, or_left, le-leb, eq-eqb}
use Rattle.std.proofs.lemmas.Bool.{cond-true}
use Rattle.vv_units.specs.declared.geometry.Geometry.{Geometry}
use Rattle.vv_fields.specs.Fields.{be_number}
use Rattle.vv_disk.specs.Images.{bytes_at, overwritten}
use Rattle.vv_disk.specs.ImageLaws.{length-overwritten, overwritten_within}
use Rattle.vv_disk.proofs.Bytes.{bytes_at-overwritten, byte_before, byte_behind}
use Rattle.vv_data.specs.Layout.{area_bytes, half_at, disk_len}
use Rattle.vv_journal.specs.Header.{Header, is_formatted, magic, number_at}
use Rattle.vv_journal.specs.Half.{all_given, area_of, gates_at, gates_of, length_in, second_spelling, open_count, IsShutBehind, payload_at, records_of, slot_at}
use Rattle.vv_journal.specs.Log.{Holds, fresh_log}
use Rattle.vv_journal.proofs.Parts.{log_from, area_from}
use Rattle.vv_journal.proofs.Gates.{open_is}
use Rattle.vv_journal.proofs.Headers.{header_from}
use Rattle.vv_journal.proofs.Bytes.{apart_written, byte_written, part_written}

-- ---- a half with shut gates

pub no_open : (gates : List ℕ) → ((i : ℕ) → get_or gates i 0 ≡ 0) → open_count gates ≡ 0
no_open gates shut = open_is gates 0 (λ i lt. absurd (omega (arith, lt))) (λ one. absurd (omega (arith, one, shut 0)))

pub shut_behind : (gates : List ℕ) → ((i : ℕ) → get_or gates i 0 ≡ 0) → IsShutBehind gates
shut_behind gates shut i le one = absurd (omega (arith, one, shut i))

pub no_records : (geometry : Geometry) (half : ℕ) (image : List ℕ) → open_count (gates_of geometry half image) ≡ 0 → records_of geometry half image ≡ Some []
no_records geometry half image none = ap (all_given (λ index. payload_at (slot_at geometry half index) image)) none

-- ---- an area of spelling 2

second_field : (len : ℕ) → leb second_spelling (second_spelling + len) ≡ true
second_field len = le-leb second_spelling (second_spelling + len) (omega arith)

length_again : (len : ℕ) → length_in (second_spelling + len) ≡ len
length_again len = cond-true (leb second_spelling (second_spelling + len)) (second_spelling + len - second_spelling) (second_spelling + len) (second_field len) ∙ omega arith

pub second_area : (header : Header) (half len : ℕ) (tables image : List ℕ) → number_at 8 (half_at header.geometry half) image ≡ second_spelling + len → 8 + len ≤ area_bytes header.geometry → bytes_at (half_at header.geometry half + 8) len image ≡ tables
    → area_of header half image ≡ Some (record { spelling = 2; tables = tables })
second_area header half len tables image field fits bytes =
    let again = length_again len in
    area_from header half (second_spelling + len) tables image field
    (and_from _ _ (le-leb _ _ (omega (arith, fits, again))) (or_left _ _ (second_field len)))
    (ap (λ (n : ℕ). bytes_at (half_at header.geometry half + 8) n image) again ∙ bytes)
    ∙ ap (λ (s : ℕ). Some (record { spelling = s; tables = tables })) (cond-true (leb second_spelling (second_spelling + len)) 2 1 (second_field len))

-- ---- a fresh image, but for the format's byte before that is set

module _ (geometry : Geometry) (disk head field tables shut : List ℕ) where
  abbrev pub headed : List ℕ
  headed = overwritten disk 8 head

  abbrev pub selected : List ℕ
  selected = overwritten headed 512 (0 ∷ [])

  abbrev pub measured : List ℕ
  measured = overwritten selected (half_at geometry 0) field

  abbrev pub tabled : List ℕ
  tabled = overwritten measured (half_at geometry 0 + 8) tables

  abbrev pub gated : List ℕ
  gated = overwritten tabled (gates_at geometry 0) shut

  abbrev pub made : List ℕ
  made = overwritten gated 0 (165 ∷ [])

  pub made_holds : length disk ≡ disk_len geometry → 8 + length tables ≤ area_bytes geometry
      → length head ≡ 24 → be_number (bytes_at 0 8 head) ≡ magic → be_number (bytes_at 8 4 head) ≡ 2 → be_number (bytes_at 12 4 head) ≡ geometry.chunk_blocks → be_number (bytes_at 16 4 head) ≡ geometry.pool_chunks → be_number (bytes_at 20 4 head) ≡ geometry.map_chunks
      → length field ≡ 8 → be_number field ≡ second_spelling + length tables → length shut ≡ 256 → ((i : ℕ) → get_or shut i 0 ≡ 0)
      → Holds (fresh_log geometry tables) made
  made_holds size fits head_size words version blocks pool map field_size number shut_size zeros =
      let headed_long : length headed ≡ disk_len geometry = length-overwritten disk 8 head ∙ size in
      let selected_long : length selected ≡ disk_len geometry = length-overwritten headed 512 (0 ∷ []) ∙ headed_long in
      let measured_long : length measured ≡ disk_len geometry = length-overwritten selected (half_at geometry 0) field ∙ selected_long in
      let tabled_long : length tabled ≡ disk_len geometry = length-overwritten measured (half_at geometry 0 + 8) tables ∙ measured_long in
      let gated_long : length gated ≡ disk_len geometry = length-overwritten tabled (gates_at geometry 0) shut ∙ tabled_long in
      let made_long : length made ≡ disk_len geometry = length-overwritten gated 0 (165 ∷ []) ∙ gated_long in
      -- what stands in the first half from the end of the header on
      let last : (i m : ℕ) → 1 ≤ i → bytes_at i m made ≡ bytes_at i m gated = λ i m le. apart_written gated 0 i m (165 ∷ []) (inr (omega (arith, le))) in
      -- a field of the header
      let kept : (i m : ℕ) → i + m ≤ 24 → bytes_at (8 + i) m made ≡ bytes_at i m head = λ i m le.
      last (8 + i) m (omega arith)
      ∙ apart_written tabled (gates_at geometry 0) (8 + i) m shut (inl (omega (arith, le)))
      ∙ apart_written measured (half_at geometry 0 + 8) (8 + i) m tables (inl (omega (arith, le)))
      ∙ apart_written selected (half_at geometry 0) (8 + i) m field (inl (omega (arith, le)))
      ∙ apart_written headed 512 (8 + i) m (0 ∷ []) (inl (omega (arith, le)))
      ∙ part_written disk 8 i m head (omega (arith, size, head_size)) (omega (arith, le, head_size)) in
      let first : get_or made 0 0 ≡ 165 = byte_written gated 0 165 (omega (arith, gated_long)) in
      let formatted : is_formatted made ≡ true = and_from _ _ (le-leb _ _ (omega (arith, made_long))) (eq-eqb _ _ first) in
      let header = header_from made geometry 2 formatted
      (ap be_number (kept 0 8 (omega arith)) ∙ words) (ap be_number (kept 8 4 (omega arith)) ∙ version) refl
      (ap be_number (kept 12 4 (omega arith)) ∙ blocks) (ap be_number (kept 16 4 (omega arith)) ∙ pool) (ap be_number (kept 20 4 (omega arith)) ∙ map) in
      let selector : get_or made 512 0 ≡ 0 =
      byte_behind 0 1 512 gated made (omega arith) (overwritten_within gated 0 (165 ∷ []))
      ∙ byte_before (gates_at geometry 0) (length shut) 512 tabled gated (omega arith) (overwritten_within tabled (gates_at geometry 0) shut)
      ∙ byte_before (half_at geometry 0 + 8) (length tables) 512 measured tabled (omega arith) (overwritten_within measured (half_at geometry 0 + 8) tables)
      ∙ byte_before (half_at geometry 0) (length field) 512 selected measured (omega arith) (overwritten_within selected (half_at geometry 0) field)
      ∙ byte_written headed 512 0 (omega (arith, headed_long)) in
      let measure : number_at 8 (half_at geometry 0) made ≡ second_spelling + length tables =
      ap be_number (last (half_at geometry 0) 8 (omega arith)
      ∙ apart_written tabled (gates_at geometry 0) (half_at geometry 0) 8 shut (inl (omega arith))
      ∙ apart_written measured (half_at geometry 0 + 8) (half_at geometry 0) 8 tables (inl (omega arith))
      ∙ ap (λ (n : ℕ). bytes_at (half_at geometry 0) n measured) (sym field_size)
      ∙ bytes_at-overwritten selected (half_at geometry 0) field (omega (arith, selected_long, field_size))) ∙ number in
      let bytes : bytes_at (half_at geometry 0 + 8) (length tables) made ≡ tables =
      last (half_at geometry 0 + 8) (length tables) (omega arith)
      ∙ apart_written tabled (gates_at geometry 0) (half_at geometry 0 + 8) (length tables) shut (inl (omega (arith, fits)))
      ∙ bytes_at-overwritten measured (half_at geometry 0 + 8) tables (omega (arith, measured_long, fits)) in
      let gates : gates_of geometry 0 made ≡ shut =
      last (gates_at geometry 0) 256 (omega arith)
      ∙ ap (λ (n : ℕ). bytes_at (gates_at geometry 0) n gated) (sym shut_size)
      ∙ bytes_at-overwritten tabled (gates_at geometry 0) shut (omega (arith, tabled_long, shut_size)) in
      let none : open_count (gates_of geometry 0 made) ≡ 0 = ap open_count gates ∙ no_open shut zeros in
      record {
        is = log_from (fresh_log geometry tables) made (record {
          header = header;
          half = ap (λ (b : ℕ). b % 2) selector;
          size = made_long;
          area = second_area (record { geometry = geometry; version = 2 }) 0 (length tables) tables made measure fits bytes;
          records = no_records geometry 0 made none;
        });
        kept = subst IsShutBehind (sym gates) (shut_behind shut zeros);
      }

  -- and what is told of it
  pub made_told : (told0 told1 told2 told3 : Option (List ℕ)) (start gates : ℕ) → start ≡ half_at geometry 0 → gates ≡ gates_at geometry 0
      → told1 ≡ option_map (λ c. overwritten (overwritten c 8 head) 512 (0 ∷ [])) told0
      → told2 ≡ option_map (λ c. overwritten (overwritten c start field) (start + 8) tables) told1
      → told3 ≡ option_map (λ c. overwritten c gates shut) told2
      → told0 ≡ Some disk → told3 ≡ Some gated
  made_told told0 told1 told2 told3 start gates at_start at_gates headed_is measured_is gated_is is =
      let one : told1 ≡ Some selected = headed_is ∙ ap (option_map (λ c. overwritten (overwritten c 8 head) 512 (0 ∷ []))) is in
      let two : told2 ≡ Some tabled = measured_is ∙ ap (option_map (λ c. overwritten (overwritten c start field) (start + 8) tables)) one ∙ ap (λ (k : ℕ). Some (overwritten (overwritten selected k field) (k + 8) tables)) at_start in
      gated_is ∙ ap (option_map (λ c. overwritten c gates shut)) two ∙ ap (λ (k : ℕ). Some (overwritten tabled k shut)) at_gates

-- what is read, if anything is told, is a fresh image but for the format's byte
pub told_some : (told0 told1 told2 told3 : Option (List ℕ)) (head field tables shut : List ℕ) (geometry : Geometry) (start gates size : ℕ) → ((d : List ℕ) → told0 ≡ Some d → length d ≡ size) → start ≡ half_at geometry 0 → gates ≡ gates_at geometry 0
    → told1 ≡ option_map (λ c. overwritten (overwritten c 8 head) 512 (0 ∷ [])) told0
    → told2 ≡ option_map (λ c. overwritten (overwritten c start field) (start + 8) tables) told1
    → told3 ≡ option_map (λ c. overwritten c gates shut) told2
    → ((d : List ℕ) → length d ≡ size → Holds (fresh_log geometry tables) (made geometry d head field tables shut))
    → IfSome told3 (λ c. Holds (fresh_log geometry tables) (overwritten c 0 (165 ∷ [])))
told_some None told1 told2 told3 head field tables shut geometry start gates size fits at_start at_gates one two three holds =
    let none : told3 ≡ None = three ∙ ap (option_map (λ c. overwritten c gates shut)) (two ∙ ap (option_map (λ c. overwritten (overwritten c start field) (start + 8) tables)) one) in
    subst (λ t. IfSome t (λ c. Holds (fresh_log geometry tables) (overwritten c 0 (165 ∷ [])))) (sym none) tt
told_some (Some d) told1 told2 told3 head field tables shut geometry start gates size fits at_start at_gates one two three holds =
    let is : told3 ≡ Some (gated geometry d head field tables shut) = made_told geometry d head field tables shut (Some d) told1 told2 told3 start gates at_start at_gates one two three refl in
    subst (λ t. IfSome t (λ c. Holds (fresh_log geometry tables) (overwritten c 0 (165 ∷ [])))) (sym is) (holds d (fits d refl))
