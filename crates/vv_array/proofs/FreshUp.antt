-- An array on an image that was just made stands for the empty array. It serves making an image.
use Rattle.std.proofs.Common.{◌≡◌, ℕ, ◌+◌, ◌≤◌, Bool, true, false, List, length, take, drop, Option, Some, refl, sym, ap, ◌∙◌, subst, arith}
use Rattle.std.proofs.Math.Seq.{take-length}
use Rattle.vv_units.specs.declared.geometry.Geometry.{Geometry}
use Rattle.vv_disk.specs.Images.{EachImage}
use Rattle.vv_data.specs.Layout.{area_bytes}
use Rattle.vv_flat.specs.State.{Array, all_pieces, empty_durable, empty_array}
use Rattle.vv_flat.specs.Chunks.{Entry}
use Rattle.vv_flat.specs.NamedPlaces.{is_named}
use Rattle.vv_laws.proofs.WellFormed.{empty_well}
use Rattle.vv_area.specs.Spelling.{area_spelling}
use Rattle.vv_journal.specs.Log.{Holds, fresh_log}
use Rattle.vv_journal.specs.Calls.{JournalState, journal_of}
use Rattle.vv_image.proofs.Records.{new_log}
use Rattle.vv_array.specs.Standing.{UpOn}
use Rattle.vv_array.specs.Making.{empty_area}

-- empty tables name no place
none_named : (geometry : Geometry) (place : ℕ) → is_named (all_pieces (empty_durable {X = Entry} geometry)) place ≡ false
none_named geometry place = refl

not_both : (b : Bool) → b ≡ false → b ≡ true → ⊥
not_both b no_one some = absurd (cc)

up_empty : (geometry : Geometry) (journal : JournalState) (told : Option (List ℕ)) (images : List ℕ → Type 0) (content : List ℕ)
    → journal ≡ journal_of (fresh_log geometry (empty_area geometry)) → EachImage (Holds (fresh_log geometry (empty_area geometry))) images → told ≡ Some content
    → UpOn journal (empty_array geometry) told images (empty_array geometry)
up_empty geometry journal told images content continues holds is = record {
  log = fresh_log geometry (empty_area geometry);
  continues = continues;
  holds = holds;
  tables = new_log (fresh_log geometry (empty_area geometry)) (empty_durable geometry) (empty_well geometry) refl refl refl refl;
  content = content;
  told_is = is;
  named = λ image has place named. absurd (not_both (is_named (all_pieces (empty_durable {X = Entry} geometry)) place) (none_named geometry place) named);
  array_is = refl;
}

pub up_fresh : (geometry : Geometry) (journal : JournalState) (a : Array Entry) (told : Option (List ℕ)) (images : List ℕ → Type 0) (content : List ℕ)
    → a ≡ empty_array geometry → journal ≡ journal_of (fresh_log geometry (empty_area geometry)) → EachImage (Holds (fresh_log geometry (empty_area geometry))) images → told ≡ Some content
    → UpOn journal a told images (empty_array geometry)
up_fresh geometry journal a told images content empty continues holds is =
    subst (λ (b : Array Entry). UpOn journal b told images (empty_array geometry)) (sym empty) (up_empty geometry journal told images content continues holds is)

-- ---- the area

-- a piece of the area of empty tables that is as long as the area is all of it
pub whole_area : (geometry : Geometry) (a : Array Entry) (piece : List ℕ) (n : ℕ) → a ≡ empty_array geometry → piece ≡ take n (drop 0 (area_spelling 2 a.durable))
    → n ≡ length (area_spelling 2 a.durable) → piece ≡ empty_area geometry
whole_area geometry a piece n empty is all =
    is ∙ ap (λ (k : ℕ). take k (area_spelling 2 a.durable)) all ∙ take-length (area_spelling 2 a.durable)
    ∙ ap (λ (b : Array Entry). area_spelling 2 b.durable) empty

-- and it fits a half
pub area_fits : (geometry : Geometry) (a : Array Entry) (len n : ℕ) → a ≡ empty_array geometry → 8 + len ≤ area_bytes a.durable.geometry → n ≡ len → 8 + n ≤ area_bytes geometry
area_fits geometry a len n empty fits same =
    let there : 8 + len ≤ area_bytes geometry = subst (λ (b : Array Entry). 8 + len ≤ area_bytes b.durable.geometry) empty fits in
    omega (arith, there, same)
