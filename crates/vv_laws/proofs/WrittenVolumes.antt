-- What a write does to the bytes of a volume.
use Rattle.std.proofs.Common.{◌≡◌, ◌≤◌, ◌<◌, ℕ, zero, suc, ◌+◌, ◌-◌, ◌*◌, ◌/◌, ◌==◌, refl, ap, sym, ◌∙◌, Bool, true, false, cond, List, [], ◌∷◌, ◌++◌, map, take, drop, length, set, arith, length-take, length-drop, length-set}
use Rattle.std.specs.Prelude.{Some, min, nat_lt}
use Rattle.std.proofs.lemmas.Bool.{eqb-true, eqb-false, eq-eqb, ltb-true, ltb-false}
use Rattle.std.proofs.lemmas.List.{length-append, append-nil, take-append-drop}
use Rattle.std.proofs.lemmas.Nat.{le-div}
use Rattle.std.proofs.Math.Nat.{suc-mul, mul_assoc, div-mul-le_self, lt-div-mul-add, mul-le-mul_right}
use Rattle.vv_units.specs.Sizes.{block_bytes, is_chunk_size}
use Rattle.vv_flat.specs.Lists.{if_found, put_at, numbers_from}
use Rattle.vv_flat.specs.State.{Durable, Volume, volume_of}
use Rattle.vv_flat.specs.Chunks.{ChunkValue, bytes_of, overwritten, chunk_in, touched_first, touched_count, touched_indexes, written_values, written}
use Rattle.vv_flat.specs.Parts.{are_whole, bytes_in}
use Rattle.vv_flat.specs.Changes.{Write, effect, apply}
use Rattle.vv_flat.specs.Flat.{new_values, flat_after}
use Rattle.vv_flat.proofs.Entries.{length-put_at}
use Rattle.vv_flat.proofs.Steps.{find-passes}
use Rattle.vv_flat.proofs.KeepTasks.{find-changed_found}
use Rattle.vv_flat.proofs.Lookups.{find-changed}
use Rattle.vv_laws.proofs.ListParts.{drop-past, take-past, drop-drop, part_overwritten}
use Rattle.vv_laws.proofs.ChunkBytes.{chunk_is, bytes_long, some_blocks}

-- Chunks put into a list.

set_here : (xs : List ChunkValue) (k : ℕ) (v : ChunkValue) → k < length xs → bytes_in (set xs k v) k ≡ v.bytes
set_here [] k v lt = absurd (omega arith)
set_here (x ∷ xs) zero v lt = refl
set_here (x ∷ xs) (suc k) v lt = set_here xs k v (omega arith)

set_there : (xs : List ChunkValue) (k i : ℕ) (v : ChunkValue) → (i ≡ k → ⊥) → bytes_in (set xs k v) i ≡ bytes_in xs i
set_there [] k i v other = refl
set_there (x ∷ xs) zero zero v other = absurd (other refl)
set_there (x ∷ xs) zero (suc i) v other = refl
set_there (x ∷ xs) (suc k) zero v other = refl
set_there (x ∷ xs) (suc k) (suc i) v other = set_there xs k i v (λ e. other (ap suc e))

module _ (g : ℕ → ChunkValue) where
  put_outside : (from count i : ℕ) (xs : List ChunkValue) → (from ≤ i → i < from + count → ⊥)
      → bytes_in (put_at (numbers_from from count) (map g (numbers_from from count)) xs) i ≡ bytes_in xs i
  put_outside from zero i xs other = refl
  put_outside from (suc count) i xs other =
      put_outside (from + 1) count i (set xs from (g from)) (λ least most. other (omega arith) (omega arith))
      ∙ set_there xs from i (g from) (λ e. other (omega arith) (omega arith))

  put_inside : (from count i : ℕ) (xs : List ChunkValue) → from ≤ i → i < from + count → i < length xs
      → bytes_in (put_at (numbers_from from count) (map g (numbers_from from count)) xs) i ≡ (g i).bytes
  put_inside from zero i xs least most lt = absurd (omega arith)
  put_inside from (suc count) i xs least most lt =
      let long : length (set xs from (g from)) ≡ length xs = length-set xs from (g from) in
      go (i == from) refl (λ other. put_inside (from + 1) count i (set xs from (g from)) (omega (arith, other)) (omega arith) (omega (arith, long)))
    where
      go : (b : Bool) → (i == from) ≡ b
          → ((i ≡ from → ⊥) → bytes_in (put_at (numbers_from (from + 1) count) (map g (numbers_from (from + 1) count)) (set xs from (g from))) i ≡ (g i).bytes)
          → bytes_in (put_at (numbers_from (from + 1) count) (map g (numbers_from (from + 1) count)) (set xs from (g from))) i ≡ (g i).bytes
      go true is there =
          let same : i ≡ from = eqb-true i from is in
          put_outside (from + 1) count i (set xs from (g from)) (λ le more. omega arith)
          ∙ ap (bytes_in (set xs from (g from))) same ∙ set_here xs from (g from) (omega arith) ∙ ap (λ k. (g k).bytes) (sym same)
      go false is there = there (eqb-false i from is)

-- A list of chunks has the bytes whose parts they are.
rebuilt : (size : ℕ) (ys : List ChunkValue) (bytes : List ℕ) → length bytes ≡ length ys * size
    → ((i : ℕ) → i < length ys → bytes_in ys i ≡ take size (drop (i * size) bytes)) → bytes_of ys ≡ bytes
rebuilt size [] bytes long each = let none : length bytes ≤ 0 = omega arith in sym (drop-past 0 bytes none)
rebuilt size (y ∷ ys) bytes long each =
    let more : suc (length ys) * size ≡ length ys * size + size = suc-mul (length ys) size in
    let start : zero * size ≡ 0 = omega arith in
    let here : y.bytes ≡ take size bytes = each zero (omega arith) ∙ ap (λ k. take size (drop k bytes)) start in
    let left : length (drop size bytes) ≡ length ys * size = length-drop size bytes ∙ omega (arith, long, more) in
    ap (λ zs. zs ++ bytes_of ys) here
    ∙ ap (λ zs. take size bytes ++ zs)
    (rebuilt size ys (drop size bytes) left
    (λ i lt. each (suc i) (omega arith)
    ∙ ap (take size) (ap (λ k. drop k bytes) (suc-mul i size ∙ swapped (i * size) size) ∙ sym (drop-drop (i * size) size bytes))))
    ∙ take-append-drop size bytes
  where
    swapped : (a b : ℕ) → a + b ≡ b + a
    swapped a b = omega arith

pub written_long : (bytes new : List ℕ) (at : ℕ) → at + length new ≤ length bytes → length (overwritten bytes at new) ≡ length bytes
written_long bytes new at le =
    let a : length (overwritten bytes at new) ≡ length (take at bytes ++ new) + length (drop (at + length new) bytes) =
    length-append (take at bytes ++ new) (drop (at + length new) bytes) in
    let b : length (take at bytes ++ new) ≡ length (take at bytes) + length new = length-append (take at bytes) new in
    let c : length (take at bytes) ≡ min at (length bytes) = length-take at bytes in
    let e : length (drop (at + length new) bytes) ≡ length bytes - (at + length new) = length-drop (at + length new) bytes in
    omega (arith, a, b, c, e, le)

nothing_written : (old : List ℕ) (at : ℕ) → overwritten old at [] ≡ old
nothing_written old at =
    ap (λ zs. zs ++ drop (at + length {A = ℕ} []) old) (append-nil (take at old))
    ∙ ap (λ k. take at old ++ drop k old) (same at) ∙ take-append-drop at old
  where
    same : (n : ℕ) → n + length {A = ℕ} [] ≡ n
    same n = omega arith

-- The bytes of a volume after a write are the old ones with the new ones at their place.
module _ (B : ℕ) (some : 0 < B) (chunks : List ChunkValue) (whole : are_whole B chunks ≡ true) (first blocks stamp : ℕ) (new : List ℕ)
    (new_long : length new ≡ blocks * 512) (inside : first * 512 + length new ≤ length chunks * (B * 512)) where
  abbrev after : List ℕ
  after = overwritten (bytes_of chunks) (first * 512) new

  abbrev value : ℕ → ChunkValue
  value i = record { stamp = stamp; bytes = chunk_in B after i }

  old_long : length (bytes_of chunks) ≡ length chunks * (B * 512)
  old_long = bytes_long (B * 512) chunks whole

  -- a chunk that isn't touched keeps its bytes
  before_it : (i : ℕ) → i < first / B → (i * (B * 512)) + B * 512 ≤ first * 512
  before_it i lt =
      let whole_before : first / B * B ≤ first = div-mul-le_self first B in
      let next : suc i ≤ first / B = omega arith in
      let some_before : suc i * B ≤ first / B * B = mul-le-mul_right B next in
      let more : suc i * B ≡ i * B + B = suc-mul i B in
      let start : i * (B * 512) ≡ i * B * 512 = sym (mul_assoc i B 512) in
      omega (arith, whole_before, some_before, more, start)

  after_it : (i : ℕ) → (first + blocks - 1) / B + 1 ≤ i → 0 < blocks → first * 512 + blocks * 512 ≤ i * (B * 512)
  after_it i le lt =
      let last : first + blocks - 1 < (first + blocks - 1) / B * B + B = lt-div-mul-add some in
      let more : suc ((first + blocks - 1) / B) * B ≡ (first + blocks - 1) / B * B + B = suc-mul ((first + blocks - 1) / B) B in
      let next : suc ((first + blocks - 1) / B) ≤ i = omega arith in
      let reaches : suc ((first + blocks - 1) / B) * B ≤ i * B = mul-le-mul_right B next in
      let start : i * (B * 512) ≡ i * B * 512 = sym (mul_assoc i B 512) in
      omega (arith, last, more, reaches, start, lt)

  abbrev part_of : ℕ → List ℕ
  part_of i = take (B * 512 - (first * 512 - i * (B * 512))) (drop (i * (B * 512) - first * 512) new)

  untouched : (i : ℕ) → part_of i ≡ [] → bytes_in chunks i ≡ chunk_in B after i
  untouched i none =
      let long = old_long in
      sym (part_overwritten (B * 512) (i * (B * 512)) (first * 512) (bytes_of chunks) new (omega (arith, long, inside))
      ∙ ap (λ part. overwritten (chunk_in B (bytes_of chunks) i) (first * 512 - i * (B * 512)) part) none
      ∙ nothing_written (chunk_in B (bytes_of chunks) i) (first * 512 - i * (B * 512))
      ∙ chunk_is B i chunks whole)

  none_before : (i : ℕ) → i < first / B → part_of i ≡ []
  none_before i lt =
      let le = before_it i lt in
      let none : B * 512 - (first * 512 - i * (B * 512)) ≡ 0 = omega (arith, le) in
      ap (λ k. take k (drop (i * (B * 512) - first * 512) new)) none

  none_after : (i : ℕ) → length new ≤ i * (B * 512) - first * 512 → part_of i ≡ []
  none_after i le =
      ap (take (B * 512 - (first * 512 - i * (B * 512)))) (drop-past (i * (B * 512) - first * 512) new le)
      ∙ take-past (B * 512 - (first * 512 - i * (B * 512))) [] (omega arith)

  put_bytes : (b : Bool) → (blocks == 0) ≡ b → (i : ℕ) → i < length chunks
      → bytes_in (put_at (cond b [] (numbers_from (touched_first B first) (touched_count B first blocks)))
      (map value (cond b [] (numbers_from (touched_first B first) (touched_count B first blocks)))) chunks) i ≡ chunk_in B after i
  put_bytes true is i lt = let z : blocks ≡ 0 = eqb-true blocks 0 is in untouched i (none_after i (omega (arith, z, new_long)))
  put_bytes false is i lt =
      let apart : blocks ≡ 0 → ⊥ = eqb-false blocks 0 is in
      let front : first / B * B ≤ first = div-mul-le_self first B in
      let order : first / B ≤ (first + blocks - 1) / B = le-div (first / B) (first + blocks - 1) B some (omega (arith, apart)) in
      of_front (nat_lt i (first / B)) refl order apart
    where
      behind : (n m : ℕ) → nat_lt n m ≡ false → m ≤ n
      behind n m e = ltb-false n m e

      of_end : (b : Bool) → nat_lt i ((first + blocks - 1) / B + 1) ≡ b → first / B ≤ i → first / B ≤ (first + blocks - 1) / B → (blocks ≡ 0 → ⊥)
          → bytes_in (put_at (numbers_from (touched_first B first) (touched_count B first blocks))
          (map value (numbers_from (touched_first B first) (touched_count B first blocks))) chunks) i ≡ chunk_in B after i
      of_end true e least order apart =
          let most : i < (first + blocks - 1) / B + 1 = ltb-true i ((first + blocks - 1) / B + 1) e in
          put_inside value (touched_first B first) (touched_count B first blocks) i chunks least (omega (arith, most, order)) lt
      of_end false e least order apart =
          let past : (first + blocks - 1) / B + 1 ≤ i = ltb-false i ((first + blocks - 1) / B + 1) e in
          let far = after_it i past (omega (arith, apart)) in
          put_outside value (touched_first B first) (touched_count B first blocks) i chunks (λ le more. omega (arith, past, order, more))
          ∙ untouched i (none_after i (omega (arith, far, new_long)))

      of_front : (b : Bool) → nat_lt i (first / B) ≡ b → first / B ≤ (first + blocks - 1) / B → (blocks ≡ 0 → ⊥)
          → bytes_in (put_at (numbers_from (touched_first B first) (touched_count B first blocks))
          (map value (numbers_from (touched_first B first) (touched_count B first blocks))) chunks) i ≡ chunk_in B after i
      of_front true e order apart =
          let before : i < first / B = ltb-true i (first / B) e in
          put_outside value (touched_first B first) (touched_count B first blocks) i chunks (λ le more. omega (arith, before, le))
          ∙ untouched i (none_before i before)
      of_front false e order apart = of_end (nat_lt i ((first + blocks - 1) / B + 1)) refl (behind i (first / B) e) order apart

  pub written_bytes : bytes_of (written B chunks first new stamp) ≡ after
  unfolding written_values
  written_bytes =
      let count : length new / 512 ≡ blocks = omega (arith, new_long) in
      let is : List ℕ = touched_indexes B first blocks in
      let same : written B chunks first new stamp ≡ put_at is (map value is) chunks =
      ap (λ n. put_at (touched_indexes B first n) (map value (touched_indexes B first n)) chunks) count in
      let long : length (put_at is (map value is) chunks) ≡ length chunks = length-put_at is (map value is) chunks in
      let all = old_long in
      let after_long : length after ≡ length (bytes_of chunks) = written_long (bytes_of chunks) new (first * 512) (omega (arith, all, inside)) in
      let sizes : length (put_at is (map value is) chunks) * (B * 512) ≡ length chunks * (B * 512) = ap (λ n. n * (B * 512)) long in
      ap bytes_of same
      ∙ rebuilt (B * 512) (put_at is (map value is) chunks) after (omega (arith, sizes, all, after_long))
      (λ i lt. put_bytes (blocks == 0) refl i (omega (arith, lt, long)))

-- A write in an array: its volume has the written chunks,
pub volume_written : (d : Durable ChunkValue) (n first blocks : ℕ) (bytes : List ℕ) (v : Volume ChunkValue) → volume_of d n ≡ Some v
    → (length bytes == blocks * block_bytes) ≡ true
    → volume_of (flat_after d (Write n first blocks) bytes) n ≡ Some (record v { chunks = written d.geometry.chunk_blocks v.chunks first bytes (d.lsn + 1) })
unfolding flat_after apply effect new_values
volume_written d n first blocks bytes v found e =
    let long : length bytes ≡ blocks * 512 = eqb-true (length bytes) (blocks * 512) e in
    let count : length bytes / 512 ≡ blocks = omega (arith, long) in
    let is : v.number ≡ n = eqb-true v.number n (find-passes (λ (w : Volume ChunkValue). w.number == n) d.volumes v found) in
    let values : List ChunkValue = if_found (volume_of d n) (λ (w : Volume ChunkValue). written_values d.geometry.chunk_blocks w.chunks first bytes (d.lsn + 1)) [] in
    let same : values ≡ written_values d.geometry.chunk_blocks v.chunks first bytes (d.lsn + 1) =
    ap (λ o. if_found o (λ (w : Volume ChunkValue). written_values d.geometry.chunk_blocks w.chunks first bytes (d.lsn + 1)) []) found in
    find-changed_found (λ (w : Volume ChunkValue). w.number == n)
    (λ (w : Volume ChunkValue). record w { chunks = put_at (touched_indexes d.geometry.chunk_blocks first blocks) values w.chunks }) v d.volumes found
    (eq-eqb v.number n is)
    ∙ ap (λ (xs : List ChunkValue). Some (record v { chunks = put_at (touched_indexes d.geometry.chunk_blocks first blocks) xs v.chunks })) same
    ∙ ap (λ k. Some (record v { chunks = put_at (touched_indexes d.geometry.chunk_blocks first k) (written_values d.geometry.chunk_blocks v.chunks first bytes (d.lsn + 1)) v.chunks })) (sym count)

-- and every other volume stays.
pub others_stay : (d : Durable ChunkValue) (n m first blocks : ℕ) (bytes : List ℕ) → (m == n) ≡ false
    → volume_of (flat_after d (Write n first blocks) bytes) m ≡ volume_of d m
unfolding flat_after apply effect
others_stay d n m first blocks bytes other =
    find-changed (λ (w : Volume ChunkValue). w.number == n) (λ (w : Volume ChunkValue). w.number == m) (λ o. o)
    (λ w. record w { chunks = put_at (touched_indexes d.geometry.chunk_blocks first blocks) (new_values d (Write n first blocks) bytes) w.chunks }) d.volumes
    (λ w found. refl)
    (λ w found at. let here : w.number ≡ n = eqb-true w.number n (find-passes (λ (x : Volume ChunkValue). x.number == n) d.volumes w found) in
    let there : w.number ≡ m = eqb-true w.number m at in
    let f : (m == n) ≡ true = eq-eqb m n (sym there ∙ here) in cc)

-- A write's volume has the new bytes at their place.
pub volume_bytes_written : (B : ℕ) → is_chunk_size B ≡ true → (chunks : List ChunkValue) → are_whole B chunks ≡ true → (first blocks stamp : ℕ) (new : List ℕ)
    → (length new == blocks * block_bytes) ≡ true → first + blocks ≤ length chunks * B
    → bytes_of (written B chunks first new stamp) ≡ overwritten (bytes_of chunks) (first * block_bytes) new
volume_bytes_written B size chunks whole first blocks stamp new has inside =
    let long : length new ≡ blocks * 512 = eqb-true (length new) (blocks * 512) has in
    let times : length chunks * (B * 512) ≡ length chunks * B * 512 = sym (mul_assoc (length chunks) B 512) in
    written_bytes B (some_blocks B size) chunks whole first blocks stamp new long (omega (arith, long, times, inside))
