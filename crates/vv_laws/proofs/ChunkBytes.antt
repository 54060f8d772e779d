-- Reading and writing chunk by chunk.
use Rattle.std.proofs.Common.{◌≡◌, ◌≤◌, ◌<◌, ℕ, zero, suc, ◌+◌, ◌-◌, ◌*◌, ◌/◌, ◌==◌, refl, ap, sym, ◌∙◌, Bool, true, false, cond, List, [], ◌∷◌, ◌++◌, map, take, drop, length, arith, length-take}
use Rattle.std.specs.Prelude.{unwrap_or, option_map, min}
use Rattle.std.specs.List.{flat_map, list_all}
use Rattle.std.proofs.lemmas.Bool.{eqb-true, eqb-false}
use Rattle.std.proofs.lemmas.List.{length-append, append-nil}
use Rattle.std.proofs.lemmas.Grind.{flat_map-append}
use Rattle.std.proofs.lemmas.Option.{slice_get_past}
use Rattle.std.proofs.lemmas.Nat.{le-div}
use Rattle.std.proofs.Math.Nat.{suc-mul, mul_assoc, div-mul-le_self, lt-div-mul-add, mul-le-mul_right}
use Rattle.vv_units.specs.Sizes.{block_bytes, is_chunk_size}
use Rattle.vv_flat.specs.Lists.{numbers_from}
use Rattle.vv_flat.specs.Chunks.{ChunkValue, chunk_bytes, bytes_of, blocks_read, overwritten, chunk_in, touched_first, touched_count, touched_indexes, written_values}
use Rattle.vv_flat.specs.Parts.{are_whole, bytes_in, chunk_start, part_read, part_written}
use Rattle.vv_flat.proofs.Shares.{and_left, and_right}
use Rattle.vv_laws.proofs.ListParts.{take-append, drop-append, drop-of_take, drop-past, take-past, part_overwritten, numbers-append, none_of_numbers}

pub some_blocks : (B : ℕ) → is_chunk_size B ≡ true → 0 < B
some_blocks zero e = absurd (cc)
some_blocks (suc B) e = omega arith

abbrev whole_bytes : List ChunkValue → ℕ → Bool
whole_bytes chunks size = list_all (λ (x : ChunkValue). length x.bytes == size) chunks

one_whole : (size : ℕ) (x : ChunkValue) (xs : List ChunkValue) → whole_bytes (x ∷ xs) size ≡ true → length x.bytes ≡ size
one_whole size x xs e = eqb-true (length x.bytes) size (and_left (length x.bytes == size) _ e)

pub bytes_long : (size : ℕ) (xs : List ChunkValue) → whole_bytes xs size ≡ true → length (bytes_of xs) ≡ length xs * size
bytes_long size [] e = omega arith
bytes_long size (x ∷ xs) e =
    let one : length x.bytes ≡ size = one_whole size x xs e in
    let rest : length (bytes_of xs) ≡ length xs * size = bytes_long size xs (and_right (length x.bytes == size) _ e) in
    let joined : length (bytes_of (x ∷ xs)) ≡ length x.bytes + length (bytes_of xs) = length-append x.bytes (bytes_of xs) in
    let more : suc (length xs) * size ≡ length xs * size + size = suc-mul (length xs) size in
    omega (arith, one, rest, joined, more)

-- The chunk at an index of the joined bytes is the chunk that stands there.
chunk_found : (size i : ℕ) (xs : List ChunkValue) → whole_bytes xs size ≡ true
    → take size (drop (i * size) (bytes_of xs)) ≡ bytes_in xs i
chunk_found size i [] e = take-past size (drop (i * size) []) (none (drop-past (i * size) [] (omega arith))) ∙ drop-past (i * size) [] (omega arith)
  where
    none : ◌≡◌ {A = List ℕ} (drop (i * size) []) [] → length {A = ℕ} (drop (i * size) []) ≤ size
    none f = let z : length {A = ℕ} (drop (i * size) []) ≡ 0 = ap length f in omega arith
chunk_found size zero (x ∷ xs) e =
    let one : length x.bytes ≡ size = one_whole size x xs e in
    let start : zero * size ≡ 0 = omega arith in
    let rest : size - length x.bytes ≡ 0 = omega arith in
    ap (λ k. take size (drop k (x.bytes ++ bytes_of xs))) start
    ∙ take-append size x.bytes (bytes_of xs)
    ∙ ap (λ k. take size x.bytes ++ take k (bytes_of xs)) rest
    ∙ append-nil (take size x.bytes) ∙ take-past size x.bytes (omega arith)
chunk_found size (suc i) (x ∷ xs) e =
    let one : length x.bytes ≡ size = one_whole size x xs e in
    let more : suc i * size ≡ i * size + size = suc-mul i size in
    let past : length x.bytes ≤ suc i * size = omega arith in
    let rest : suc i * size - length x.bytes ≡ i * size = omega arith in
    ap (take size)
    (drop-append (suc i * size) x.bytes (bytes_of xs)
    ∙ ap (λ zs. zs ++ drop (suc i * size - length x.bytes) (bytes_of xs)) (drop-past (suc i * size) x.bytes past)
    ∙ ap (λ k. drop k (bytes_of xs)) rest)
    ∙ chunk_found size i xs (and_right (length x.bytes == size) _ e)

pub chunk_is : (B i : ℕ) (chunks : List ChunkValue) → are_whole B chunks ≡ true → chunk_in B (bytes_of chunks) i ≡ bytes_in chunks i
chunk_is B i chunks e = chunk_found (chunk_bytes B) i chunks e

-- The new value of each chunk of a write is the old chunk with its part replaced.
pub write_by_parts : (B : ℕ) (chunks : List ChunkValue) (first : ℕ) (new : List ℕ) (stamp : ℕ) → are_whole B chunks ≡ true
    → first * block_bytes + length new ≤ length chunks * chunk_bytes B
    → written_values B chunks first new stamp
    ≡ map {A = ℕ} {B = ChunkValue} (λ i. record { stamp = stamp; bytes = part_written (chunk_bytes B) (chunk_start B i) (first * block_bytes) new (bytes_in chunks i) })
    (touched_indexes B first (length new / block_bytes))
unfolding written_values
write_by_parts B chunks first new stamp whole le = each (touched_indexes B first (length new / block_bytes))
  where
    long : length (bytes_of chunks) ≡ length chunks * chunk_bytes B
    long = bytes_long (chunk_bytes B) chunks whole

    one : (i : ℕ) → chunk_in B (overwritten (bytes_of chunks) (first * block_bytes) new) i
        ≡ part_written (chunk_bytes B) (chunk_start B i) (first * block_bytes) new (bytes_in chunks i)
    one i =
        let l = long in
        part_overwritten (chunk_bytes B) (chunk_start B i) (first * block_bytes) (bytes_of chunks) new (omega (arith, l, le))
        ∙ ap (λ bytes. part_written (chunk_bytes B) (chunk_start B i) (first * block_bytes) new bytes) (chunk_is B i chunks whole)

    each : (is : List ℕ)
        → map {A = ℕ} {B = ChunkValue} (λ i. record { stamp = stamp; bytes = chunk_in B (overwritten (bytes_of chunks) (first * block_bytes) new) i }) is
        ≡ map {A = ℕ} {B = ChunkValue} (λ i. record { stamp = stamp; bytes = part_written (chunk_bytes B) (chunk_start B i) (first * block_bytes) new (bytes_in chunks i) }) is
    each [] = refl
    each (i ∷ is) =
        ap (λ (bytes : List ℕ). record { stamp = stamp; bytes = bytes } ∷ map {A = ℕ} {B = ChunkValue} (λ i. record { stamp = stamp; bytes = chunk_in B (overwritten (bytes_of chunks) (first * block_bytes) new) i }) is) (one i)
        ∙ ap (λ zs. record { stamp = stamp; bytes = part_written (chunk_bytes B) (chunk_start B i) (first * block_bytes) new (bytes_in chunks i) } ∷ zs) (each is)

-- What is read is the joined parts of all chunks,
read_parts : (size at count j : ℕ) (xs : List ChunkValue) (g : ℕ → List ℕ) → whole_bytes xs size ≡ true
    → ((i : ℕ) → g (j + i) ≡ bytes_in xs i)
    → drop (at - j * size) (take (at + count - j * size) (bytes_of xs))
    ≡ flat_map (λ i. part_read (i * size) at count (g i)) (numbers_from j (length xs))
read_parts size at count j [] g e same =
    drop-past (at - j * size) (take (at + count - j * size) []) (short (take-past (at + count - j * size) [] (omega arith)))
  where
    short : ◌≡◌ {A = List ℕ} (take (at + count - j * size) []) [] → length {A = ℕ} (take (at + count - j * size) []) ≤ at - j * size
    short f = let z : length {A = ℕ} (take (at + count - j * size) []) ≡ 0 = ap length f in omega arith
read_parts size at count j (x ∷ xs) g e same =
    let one : length x.bytes ≡ size = one_whole size x xs e in
    let m : ℕ = at + count - j * size in
    let p : ℕ = at - j * size in
    let here : g j ≡ x.bytes = ap g (sym (nothing j)) ∙ same 0 in
    let next : suc j * size ≡ j * size + size = suc-mul j size in
    let plus : j + 1 ≡ suc j = omega arith in
    let later : (j + 1) * size ≡ j * size + size = ap (λ k. k * size) plus ∙ next in
    let taken : take m (x.bytes ++ bytes_of xs) ≡ take m x.bytes ++ take (m - length x.bytes) (bytes_of xs) = take-append m x.bytes (bytes_of xs) in
    let m_less : m - length x.bytes ≡ at + count - (j + 1) * size = omega (arith, one, later) in
    let dropped : drop p (take m x.bytes ++ take (m - length x.bytes) (bytes_of xs))
    ≡ drop p (take m x.bytes) ++ drop (p - length (take m x.bytes)) (take (m - length x.bytes) (bytes_of xs)) =
    drop-append p (take m x.bytes) (take (m - length x.bytes) (bytes_of xs)) in
    let long : length (take m x.bytes) ≡ min m size = length-take m x.bytes ∙ ap (λ k. min m k) one in
    let rest : drop (p - length (take m x.bytes)) (take (m - length x.bytes) (bytes_of xs))
    ≡ drop (at - (j + 1) * size) (take (at + count - (j + 1) * size) (bytes_of xs)) =
    ap (λ k. drop k (take (m - length x.bytes) (bytes_of xs))) (ap (λ k. p - k) long)
    ∙ ap (λ k. drop (p - min m size) (take k (bytes_of xs))) m_less
    ∙ reached (at - j * size) (at + count - j * size) size (at - (j + 1) * size) (at + count - (j + 1) * size) (bytes_of xs) (omega (arith, later)) (omega (arith, later)) in
    ap (drop p) taken ∙ dropped
    ∙ ap (λ zs. zs ++ drop (p - length (take m x.bytes)) (take (m - length x.bytes) (bytes_of xs))) (ap (λ bytes. drop p (take m bytes)) (sym here))
    ∙ ap (λ zs. part_read (j * size) at count (g j) ++ zs)
    (rest ∙ read_parts size at count (j + 1) xs g (and_right (length x.bytes == size) _ e) (λ i. ap g (shifted j i) ∙ same (suc i)))
  where
    nothing : (j : ℕ) → j + 0 ≡ j
    nothing j = omega arith

    shifted : (j i : ℕ) → (j + 1) + i ≡ j + suc i
    shifted j i = omega arith

    -- past the taken part of the chunk nothing is taken of the later ones, or all of it was taken
    reached : (p m size q n : ℕ) (zs : List ℕ) → q ≡ p - size → n ≡ m - size → drop (p - min m size) (take n zs) ≡ drop q (take n zs)
    reached p m size q zero zs e f = drop-past (p - min m size) [] (omega arith) ∙ sym (drop-past q [] (omega arith))
    reached p m size q (suc n) zs e f = ap (λ k. drop k (take (suc n) zs)) (omega arith)

past_end : (chunks : List ChunkValue) (i : ℕ) → length chunks ≤ i → bytes_in chunks i ≡ []
past_end chunks i le = ap (λ o. unwrap_or (option_map (λ (x : ChunkValue). x.bytes) o) []) (slice_get_past chunks i le)

within_size : (size i : ℕ) (xs : List ChunkValue) → whole_bytes xs size ≡ true → length (bytes_in xs i) ≤ size
within_size size i [] e = omega arith
within_size size zero (x ∷ xs) e = let one = one_whole size x xs e in omega arith
within_size size (suc i) (x ∷ xs) e = within_size size i xs (and_right (length x.bytes == size) _ e)

none_read : (start at count : ℕ) (bytes : List ℕ) → bytes ≡ [] → part_read start at count bytes ≡ []
none_read start at count bytes e =
    ap (part_read start at count) e
    ∙ ap (drop (at - start)) (take-past (at + count - start) [] (omega arith)) ∙ drop-past (at - start) [] (omega arith)

-- and of the touched ones alone: of the others it takes nothing.
module _ (B : ℕ) (some : 0 < B) (first blocks : ℕ) (chunks : List ChunkValue) (whole : are_whole B chunks ≡ true) where
  abbrev part_at : ℕ → List ℕ
  part_at i = part_read (chunk_start B i) (first * block_bytes) (blocks * block_bytes) (bytes_in chunks i)

  behind : (i : ℕ) → length chunks ≤ i → part_at i ≡ []
  behind i le = none_read (chunk_start B i) (first * block_bytes) (blocks * block_bytes) (bytes_in chunks i) (past_end chunks i le)

  ahead : (i : ℕ) → i < first / B → part_at i ≡ []
  ahead i lt =
      let whole_before : first / B * B ≤ first = div-mul-le_self first B in
      let next : suc i ≤ first / B = omega arith in
      let some_before : suc i * B ≤ first / B * B = mul-le-mul_right B next in
      let more : suc i * B ≡ i * B + B = suc-mul i B in
      let start : i * (B * 512) ≡ i * B * 512 = sym (mul_assoc i B 512) in
      let few : length (bytes_in chunks i) ≤ B * 512 = within_size (B * 512) i chunks whole in
      let taken : length (take (first * 512 + blocks * 512 - i * (B * 512)) (bytes_in chunks i))
      ≡ min (first * 512 + blocks * 512 - i * (B * 512)) (length (bytes_in chunks i)) =
      length-take (first * 512 + blocks * 512 - i * (B * 512)) (bytes_in chunks i) in
      drop-past (first * 512 - i * (B * 512)) (take (first * 512 + blocks * 512 - i * (B * 512)) (bytes_in chunks i))
      (omega (arith, whole_before, some_before, more, start, few, taken))

  after : (i : ℕ) → (first + blocks - 1) / B + 1 ≤ i → 0 < blocks → part_at i ≡ []
  after i le lt =
      let last : first + blocks - 1 < (first + blocks - 1) / B * B + B = lt-div-mul-add some in
      let more : suc ((first + blocks - 1) / B) * B ≡ (first + blocks - 1) / B * B + B = suc-mul ((first + blocks - 1) / B) B in
      let next : suc ((first + blocks - 1) / B) ≤ i = omega arith in
      let reaches : suc ((first + blocks - 1) / B) * B ≤ i * B = mul-le-mul_right B next in
      let start : i * (B * 512) ≡ i * B * 512 = sym (mul_assoc i B 512) in
      let none : first * 512 + blocks * 512 - i * (B * 512) ≡ 0 = omega (arith, last, more, reaches, start, lt) in
      ap (λ k. drop (first * 512 - i * (B * 512)) (take k (bytes_in chunks i))) none ∙ drop-past (first * 512 - i * (B * 512)) [] (omega arith)

  touched_parts : 0 < blocks → flat_map part_at (numbers_from 0 (length chunks)) ≡ flat_map part_at (numbers_from (touched_first B first) (touched_count B first blocks))
  touched_parts lt =
      let t : ℕ = first / B in
      let c : ℕ = (first + blocks - 1) / B + 1 - first / B in
      let size : ℕ = length chunks in
      let front : first / B * B ≤ first = div-mul-le_self first B in
      let order : first / B ≤ (first + blocks - 1) / B = le-div (first / B) (first + blocks - 1) B some (omega arith) in
      let more : ℕ = (t + c) - size in
      let less : ℕ = size - (t + c) in
      let longer : flat_map part_at (numbers_from 0 (size + more)) ≡ flat_map part_at (numbers_from 0 size) ++ flat_map part_at (numbers_from (0 + size) more) =
      ap (flat_map part_at) (numbers-append 0 size more) ∙ flat_map-append part_at (numbers_from 0 size) (numbers_from (0 + size) more) in
      let none_more : flat_map part_at (numbers_from (0 + size) more) ≡ [] = none_of_numbers part_at (0 + size) more (λ i least most. behind i (omega arith)) in
      let same : size + more ≡ t + (c + less) = omega arith in
      let split : flat_map part_at (numbers_from 0 (t + (c + less)))
      ≡ flat_map part_at (numbers_from 0 t) ++ (flat_map part_at (numbers_from (0 + t) c) ++ flat_map part_at (numbers_from (0 + t + c) less)) =
      ap (flat_map part_at) (numbers-append 0 t (c + less))
      ∙ flat_map-append part_at (numbers_from 0 t) (numbers_from (0 + t) (c + less))
      ∙ ap (λ zs. flat_map part_at (numbers_from 0 t) ++ zs)
      (ap (flat_map part_at) (numbers-append (0 + t) c less) ∙ flat_map-append part_at (numbers_from (0 + t) c) (numbers_from (0 + t + c) less)) in
      let none_ahead : flat_map part_at (numbers_from 0 t) ≡ [] = none_of_numbers part_at 0 t (λ i least most. ahead i (omega arith)) in
      let none_after : flat_map part_at (numbers_from (0 + t + c) less) ≡ [] =
      none_of_numbers part_at (0 + t + c) less (λ i least most. after i (omega arith) lt) in
      let from : 0 + t ≡ t = omega arith in
      sym (append-nil (flat_map part_at (numbers_from 0 size)))
      ∙ ap (λ zs. flat_map part_at (numbers_from 0 size) ++ zs) (sym none_more)
      ∙ sym longer ∙ ap (λ n. flat_map part_at (numbers_from 0 n)) same ∙ split
      ∙ ap (λ zs. zs ++ (flat_map part_at (numbers_from (0 + t) c) ++ flat_map part_at (numbers_from (0 + t + c) less))) none_ahead
      ∙ ap (λ zs. flat_map part_at (numbers_from (0 + t) c) ++ zs) none_after
      ∙ append-nil (flat_map part_at (numbers_from (0 + t) c))
      ∙ ap (λ k. flat_map part_at (numbers_from k c)) from

  none_parts : blocks ≡ 0 → flat_map part_at (numbers_from 0 (length chunks)) ≡ []
  none_parts z =
      none_of_numbers part_at 0 (length chunks)
      (λ i least most. let same : blocks * 512 ≡ 0 = omega (arith, z) in
      let taken : length (take (first * 512 + blocks * 512 - chunk_start B i) (bytes_in chunks i))
      ≡ min (first * 512 + blocks * 512 - chunk_start B i) (length (bytes_in chunks i)) =
      length-take (first * 512 + blocks * 512 - chunk_start B i) (bytes_in chunks i) in
      drop-past (first * 512 - chunk_start B i) (take (first * 512 + blocks * 512 - chunk_start B i) (bytes_in chunks i)) (omega (arith, same, taken)))

  pub read_by_parts : blocks_read chunks first blocks ≡ flat_map part_at (touched_indexes B first blocks)
  read_by_parts =
      let count : first * 512 + blocks * 512 - first * 512 ≡ blocks * 512 = omega arith in
      let from : first * 512 - 0 * (B * 512) ≡ first * 512 = omega arith in
      let till : first * 512 + blocks * 512 - 0 * (B * 512) ≡ first * 512 + blocks * 512 = omega arith in
      sym (drop-of_take (first * 512) (first * 512 + blocks * 512) (bytes_of chunks)
      ∙ ap (λ k. take k (drop (first * 512) (bytes_of chunks))) count)
      ∙ ap (λ k. drop k (take (first * 512 + blocks * 512) (bytes_of chunks))) (sym from)
      ∙ ap (λ k. drop (first * 512 - 0 * (B * 512)) (take k (bytes_of chunks))) (sym till)
      ∙ read_parts (B * 512) (first * 512) (blocks * 512) 0 chunks (bytes_in chunks) whole (λ i. ap (bytes_in chunks) (zero_add i))
      ∙ touched (blocks == 0) refl
    where
      zero_add : (i : ℕ) → 0 + i ≡ i
      zero_add i = omega arith

      touched : (b : Bool) → (blocks == 0) ≡ b
          → flat_map part_at (numbers_from 0 (length chunks)) ≡ flat_map part_at (cond b [] (numbers_from (touched_first B first) (touched_count B first blocks)))
      touched true is = none_parts (eqb-true blocks 0 is)
      touched false is = let apart : blocks ≡ 0 → ⊥ = eqb-false blocks 0 is in touched_parts (omega (arith, apart))
