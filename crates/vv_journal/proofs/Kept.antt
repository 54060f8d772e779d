-- What stays of a log where an image changes within a range.
use Rattle.std.proofs.Common.{◌≡◌, ◌⊎◌, inl, inr, ℕ, ◌+◌, ◌≤◌, ◌%◌, List, length, get_or, take, drop, Some, refl, sym, ap, ◌∙◌, arith}
use Rattle.std.proofs.lemmas.List.{take-take, drop-take, get_or-take}
use Rattle.vv_units.specs.declared.geometry.Geometry.{Geometry}
use Rattle.vv_disk.specs.Images.{bytes_at, DiffersWithin}
use Rattle.vv_disk.proofs.Bytes.{bytes_apart, byte_before, byte_behind}
use Rattle.vv_data.specs.Layout.{area_bytes, half_at}
use Rattle.vv_fields.specs.Fields.{be_number}
use Rattle.vv_journal.specs.Header.{Header, header_of, half_of, number_at}
use Rattle.vv_journal.specs.Half.{Area, area_of, length_field, length_in, tables_at, gates_at, gates_of, payload_at}
use Rattle.vv_journal.proofs.Parts.{area_parts, area_from, payload_parts, payload_from}

-- the range of m bytes from s on doesn't meet that of n bytes from at on
abbrev pub Apart : ℕ → ℕ → ℕ → ℕ → Type 0
Apart at n s m = (s + m ≤ at) ⊎ (at + n ≤ s)

-- nor does a part of it
pub part_apart : (at n s m i k : ℕ) → s ≤ i → i + k ≤ s + m → Apart at n s m → Apart at n i k
part_apart at n s m i k from to (inl le) = inl (omega (arith, from, to, le))
part_apart at n s m i k from to (inr le) = inr (omega (arith, from, to, le))

-- bytes of a front that is the same
pub front_bytes : (k i m : ℕ) (old new : List ℕ) → i + m ≤ k → take k new ≡ take k old → bytes_at i m new ≡ bytes_at i m old
front_bytes k i m old new le same = front new ∙ ap (λ (l : List ℕ). drop i (take (i + m) l)) same ∙ sym (front old)
  where
    front : (l : List ℕ) → bytes_at i m l ≡ drop i (take (i + m) (take k l))
    front l = sym (drop-take i m l) ∙ ap (λ (r : List ℕ). drop i r) (sym (take-take (i + m) k l le))

-- the header is that of the first 32 bytes
pub same_header : (old new : List ℕ) → take 32 new ≡ take 32 old → length new ≡ length old → header_of new ≡ header_of old
unfolding header_of
same_header old new same size =
    let first : get_or new 0 0 ≡ get_or old 0 0 = sym (get_or-take 32 new 0 0 (omega arith)) ∙ ap (λ (l : List ℕ). get_or l 0 0) same ∙ get_or-take 32 old 0 0 (omega arith) in
    let words : bytes_at 8 8 new ≡ bytes_at 8 8 old = front_bytes 32 8 8 old new (omega arith) same in
    let version : bytes_at 16 4 new ≡ bytes_at 16 4 old = front_bytes 32 16 4 old new (omega arith) same in
    let blocks : bytes_at 20 4 new ≡ bytes_at 20 4 old = front_bytes 32 20 4 old new (omega arith) same in
    let pool : bytes_at 24 4 new ≡ bytes_at 24 4 old = front_bytes 32 24 4 old new (omega arith) same in
    let map : bytes_at 28 4 new ≡ bytes_at 28 4 old = front_bytes 32 28 4 old new (omega arith) same in
    rw (size, first, words, version, blocks, pool, map) refl

pub header_kept : (at n : ℕ) (old new : List ℕ) → 32 ≤ at → DiffersWithin at n old new → header_of new ≡ header_of old
header_kept at n old new le is = same_header old new (sym (take-take 32 at new le) ∙ ap (λ (l : List ℕ). take 32 l) is.before ∙ take-take 32 at old le) is.size

pub half_kept : (at n : ℕ) (old new : List ℕ) → Apart at n 512 1 → DiffersWithin at n old new → half_of new ≡ half_of old
half_kept at n old new (inl le) is = ap (λ (b : ℕ). b % 2) (byte_before at n 512 old new (omega (arith, le)) is)
half_kept at n old new (inr le) is = ap (λ (b : ℕ). b % 2) (byte_behind at n 512 old new le is)

pub number_kept : (at n k i : ℕ) (old new : List ℕ) → Apart at n i k → DiffersWithin at n old new → number_at k i new ≡ number_at k i old
number_kept at n k i old new apart is = ap be_number (bytes_apart at n i k old new apart is)

pub gates_kept : (at n : ℕ) (geometry : Geometry) (half : ℕ) (old new : List ℕ) → Apart at n (gates_at geometry half) 256 → DiffersWithin at n old new → gates_of geometry half new ≡ gates_of geometry half old
gates_kept at n geometry half old new apart is = bytes_apart at n (gates_at geometry half) 256 old new apart is

pub area_kept : (at n : ℕ) (header : Header) (half : ℕ) (area : Area) (old new : List ℕ) → Apart at n (half_at header.geometry half) (area_bytes header.geometry) → DiffersWithin at n old new → area_of header half old ≡ Some area → area_of header half new ≡ Some area
area_kept at n header half area old new apart is e =
    let parts = area_parts header half old area e in
    let start = half_at header.geometry half in
    let field = length_field header.geometry half old in
    let same_field : length_field header.geometry half new ≡ field = number_kept at n 8 start old new (part_apart at n start (area_bytes header.geometry) start 8 (omega arith) (omega (arith, parts.fits)) apart) is in
    let same_bytes : tables_at header.geometry half (length_in field) new ≡ tables_at header.geometry half (length_in field) old = bytes_apart at n (start + 8) (length_in field) old new (part_apart at n start (area_bytes header.geometry) (start + 8) (length_in field) (omega arith) (omega (arith, parts.fits)) apart) is in
    area_from header half field _ new same_field parts.test same_bytes ∙ ap (λ (a : Area). Some a) parts.is

pub payload_kept : (at n s : ℕ) (payload old new : List ℕ) → Apart at n s 4096 → DiffersWithin at n old new → payload_at s old ≡ Some payload → payload_at s new ≡ Some payload
payload_kept at n s payload old new apart is e =
    let parts = payload_parts s old payload e in
    let len = number_at 4 s old in
    payload_from s len new payload
    (number_kept at n 4 s old new (part_apart at n s 4096 s 4 (omega arith) (omega arith) apart) is)
    parts.fits
    (number_kept at n 4 (s + 4) old new (part_apart at n s 4096 (s + 4) 4 (omega arith) (omega arith) apart) is ∙ parts.zeros)
    (bytes_apart at n (s + 8) len old new (part_apart at n s 4096 (s + 8) len (omega arith) (omega (arith, parts.fits)) apart) is ∙ parts.is)
