-- Bits that are asked for of a volume, and what the shelf of tables tells of a volume that stands.
use Rattle.std.proofs.Common.{ℕ, ◌≡◌, ◌+◌, ◌-◌, ◌≤◌, ◌==◌, Bool, true, false, cond, List, [], ◌++◌, map, length, take, drop, Option, Some, None, option_map, Result, Ok, Err, unwrap_or, nat_lt, is_none, refl, sym, ap, subst, ◌∙◌, arith}
use Rattle.std.specs.Prelude.{IsSome}
use Rattle.std.specs.List.{find}
use Rattle.std.proofs.lemmas.List.{length-map, length-drop, length-take-le}
use Rattle.std.proofs.Math.Seq.{take-append_seam}
use Rattle.vv_units.specs.declared.field.Field.{Field}
use Rattle.vv_units.specs.declared.field.Field.TheVariants as field
use Rattle.vv_flat.specs.Lists.{if_found}
use Rattle.vv_flat.specs.State.{Volume, Durable, volume_of}
use Rattle.vv_flat.specs.Chunks.{Entry, shape_of_tables}
use Rattle.vv_flat.specs.Bits.{allocated_bits, unshared_bits, bits_within}
use Rattle.vv_flat.specs.Changes.{stamps_of, size_of}
use Rattle.vv_flat.proofs.Entries.{length-mapped_from}
use Rattle.vv_vols.specs.Shelf.{volume_in, size_in}
use Rattle.vv_vols.specs.Rows.{ShelfView}
use Rattle.vv_bitmap.specs.Stamps.{stamps_in}
use Rattle.vv_tables.specs.Seen.{TablesView, IsShelfOf}
use Rattle.vv_tables.proofs.ShapeVolumes.{shaped, headless, shape_found, size_is}
use Rattle.vv_reply.specs.declared.reply.Answer.TheVariants.{Bits}
use Rattle.vv_reply.specs.declared.reply.Reply.{Reply}
use Rattle.vv_reply.specs.declared.reply.Reply.TheVariants.{Done, Refused}
use Rattle.vv_reply.specs.declared.reply.Refusal.TheVariants.{InvalidArgument}
use Rattle.vv_meaning.specs.Calls.{bits_from, bits_asked}
use Rattle.vv_plan.specs.declared.bitmaps.BitRange.{BitRange}
use Rattle.vv_plan.specs.BitRanges.{range_from, range_asked}

-- ---- ranges of bits
-- the reply to a range
abbrev pub range_told : List Bool → Result BitRange Field → Reply
range_told bits (Ok range) = Done (Bits (bits_within range.first range.count bits))
range_told bits (Err name) = Refused (InvalidArgument name)

told_from : (bits : List Bool) (first count : ℕ) → range_told bits (range_from (length bits) first count) ≡ bits_from bits first count
told_from bits first count = go (nat_lt (length bits) first) (nat_lt (length bits - first) count)
  where
    go : (past short : Bool)
        → range_told bits (cond {A = Result BitRange Field} past (Err field.First) (cond {A = Result BitRange Field} short (Err field.Count) (Ok (record { first = first; count = count }))))
        ≡ cond past (Refused (InvalidArgument field.First)) (cond short (Refused (InvalidArgument field.Count)) (Done (Bits (bits_within first count bits))))
    go true short = refl
    go false true = refl
    go false false = refl

pub range_is : (bits : List Bool) (size : ℕ) (first count : Option ℕ) → length bits ≡ size → range_told bits (range_asked size first count) ≡ bits_asked bits first count
range_is bits size first count is =
    subst (λ n. range_told bits (range_asked n first count) ≡ bits_asked bits first count) is
    (told_from bits (unwrap_or first 0) (unwrap_or count (length bits - unwrap_or first 0)))

abbrev ok_range : BitRange → Result BitRange Field
ok_range range = Ok range

fits : (size first count : ℕ) (range : BitRange) → range_from size first count ≡ Ok range → range.first + range.count ≤ size
fits size first count range e = go (nat_lt size first) (nat_lt (size - first) count) refl refl e
  where
    same : (whole : BitRange) → ok_range whole ≡ ok_range range → whole ≡ range
    same whole e = cc

    go : (past short : Bool) → nat_lt size first ≡ past → nat_lt (size - first) count ≡ short
        → cond {A = Result BitRange Field} past (Err field.First) (cond {A = Result BitRange Field} short (Err field.Count) (Ok (record { first = first; count = count }))) ≡ Ok range
        → range.first + range.count ≤ size
    go true short is_past is_short e = absurd (cc)
    go false true is_past is_short e = absurd (cc)
    go false false is_past is_short e =
        let a : first ≡ range.first = ap (λ (r : BitRange). r.first) (same (record { first = first; count = count }) e) in
        let b : count ≡ range.count = ap (λ (r : BitRange). r.count) (same (record { first = first; count = count }) e) in
        grind (arith, is_past, is_short, a, b)

-- a range that is answered lies inside the volume
pub range_fits : (size : ℕ) (first count : Option ℕ) (range : BitRange) → range_asked size first count ≡ Ok range → range.first + range.count ≤ size
range_fits size first count range e = fits size (unwrap_or first 0) (unwrap_or count (size - unwrap_or first 0)) range e

pub length-allocated : (stamps : List ℕ) → length (allocated_bits stamps) ≡ length stamps
length-allocated stamps = length-map stamps _

pub length-unshared : (stamps base : List ℕ) → length (unshared_bits stamps base) ≡ length stamps
length-unshared stamps base = length-mapped_from _ 0 stamps

-- bits that are filled in at the length of their memory
pub filled : (first count len n : ℕ) (out rest bits : List Bool) → len ≡ n → n ≡ count → out ≡ bits_within first n bits → first + count ≤ length bits
    → take len (out ++ rest) ≡ bits_within first count bits
filled first count len n out rest bits is_len is_count is within =
    let left : n ≤ length (drop first bits) = omega (arith, length-drop first bits, is_count, within) in
    let size : length out ≡ n = ap length is ∙ length-take-le n (drop first bits) left in
    ap (λ k. take k (out ++ rest)) (is_len ∙ sym size) ∙ take-append_seam out rest ∙ is ∙ ap (λ k. bits_within first k bits) is_count

-- ---- volumes of the shelf
same_none : {A B : Type 0} (f : A → B) (o : Option A) → is_none (option_map f o) ≡ is_none o
same_none f None = refl
same_none f (Some x) = refl

-- whether a volume stands is told by its head
pub missing_is : {A : Type 0} (d : Durable Entry) (n : ℕ) (f : A → Volume Entry) (head : Option A) → option_map f head ≡ option_map headless (volume_of d n)
    → is_none head ≡ is_none (volume_of (shape_of_tables d) n)
missing_is d n f head e =
    sym (same_none f head) ∙ ap (λ (o : Option (Volume Entry)). is_none o) e ∙ same_none headless (volume_of d n)
    ∙ sym (same_none shaped (volume_of d n)) ∙ ap (λ (o : Option (Volume ℕ)). is_none o) (sym (shape_found d n))

found_is : (o : Option (Volume Entry)) → is_none (option_map shaped o) ≡ false → IsSome o
found_is None e = absurd (cc)
found_is (Some v) e = refl

volumes_are : (t : TablesView) (view : ShelfView) (n : ℕ) → IsShelfOf t view → volume_in view.shelf n ≡ volume_of t.durable n
volumes_are t view n is = ap (λ (vs : List (Volume Entry)). find (λ (v : Volume Entry). v.number == n) vs) is.volumes

pub stands_in : (t : TablesView) (view : ShelfView) (n : ℕ) → IsShelfOf t view → is_none (volume_of (shape_of_tables t.durable) n) ≡ false → IsSome (volume_in view.shelf n)
stands_in t view n is there =
    subst (λ (o : Option (Volume Entry)). IsSome o) (sym (volumes_are t view n is))
    (found_is (volume_of t.durable n) (ap (λ (o : Option (Volume ℕ)). is_none o) (sym (shape_found t.durable n)) ∙ there))

pub size_seen : (t : TablesView) (view : ShelfView) (n : ℕ) → IsShelfOf t view → size_in view.shelf n ≡ size_of (shape_of_tables t.durable) n
size_seen t view n is =
    ap (λ (o : Option (Volume Entry)). if_found o (λ (v : Volume Entry). length v.chunks) 0) (volumes_are t view n is) ∙ size_is t.durable n

stamps_found : (o : Option (Volume Entry)) → map (λ (e : Entry). e.stamp) (if_found o (λ (v : Volume Entry). v.chunks) []) ≡ if_found (option_map shaped o) (λ (v : Volume ℕ). v.chunks) []
stamps_found None = refl
stamps_found (Some v) = refl

pub stamps_seen : (t : TablesView) (view : ShelfView) (n : ℕ) → IsShelfOf t view → stamps_in view.shelf n ≡ stamps_of (shape_of_tables t.durable) n
stamps_seen t view n is =
    ap (λ (o : Option (Volume Entry)). map (λ (e : Entry). e.stamp) (if_found o (λ (v : Volume Entry). v.chunks) [])) (volumes_are t view n is)
    ∙ stamps_found (volume_of t.durable n)
    ∙ ap (λ (o : Option (Volume ℕ)). if_found o (λ (v : Volume ℕ). v.chunks) []) (sym (shape_found t.durable n))
