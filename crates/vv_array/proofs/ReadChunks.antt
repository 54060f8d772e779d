-- Reading blocks chunk by chunk, and a chunk around a piece of it. It serves the reading and the writing of blocks.
use Rattle.std.proofs.Common.{◌≡◌, ℕ, zero, suc, ◌+◌, ◌-◌, ◌*◌, ◌/◌, ◌<◌, ◌≤◌, Bool, true, List, [], ◌∷◌, ◌++◌, length, get_or, take, drop, replicate, Option, None, Some, Result, Ok, Err, OnOk, IfSome, refl, sym, ap, ◌∙◌, subst, arith, append_assoc, length-take, length-drop}
use Rattle.std.specs.Prelude.{option_map}
use Rattle.std.specs.List.{list_all}
use Rattle.std.proofs.lemmas.List.{take_at, length-append, append-nil, length-map, length-replicate}
use Rattle.std.proofs.Math.Nat.{mul_assoc, mul-le-mul_right, div-mul-le_self, lt-div-mul-add}
use Rattle.std.proofs.Math.Seq.{take-add}
use Rattle.vv_units.specs.declared.geometry.Geometry.{Geometry}
use Rattle.vv_units.specs.declared.numbers.Place.{Place}
use Rattle.vv_disk.specs.Images.{bytes_at}
use Rattle.vv_data.specs.Layout.{chunk_bytes, chunks_at, disk_len}
use Rattle.vv_data.proofs.Places.{part_of}
use Rattle.vv_flat.specs.Lists.{if_found, numbers_from}
use Rattle.vv_flat.specs.State.{Volume, Durable, volume_of, map_volume}
use Rattle.vv_flat.specs.Chunks.{ChunkValue, Entry, filled, filled_tables, unmapped_entry, shape_of_tables, bytes_of, blocks_read, overwritten, volume_blocks, touched_first, touched_count, touched_indexes}
use Rattle.vv_flat.specs.Changes.{size_of}
use Rattle.vv_flat.specs.Parts.{are_whole, bytes_in, chunk_start, part_written}
use Rattle.vv_flat.specs.WellFormed.{is_well_formed}
use Rattle.vv_flat.proofs.Shares.{and_left, and_right}
use Rattle.vv_flat.proofs.Kept.{kept}
use Rattle.vv_flat.proofs.NothingChanges.{stamps_found}
use Rattle.vv_laws.proofs.WellFormed.{shape_rules}
use Rattle.vv_laws.proofs.ListParts.{drop-drop, drop-past, take-past}
use Rattle.vv_laws.proofs.ChunkBytes.{chunk_is, some_blocks}
use Rattle.vv_laws.proofs.Planning.{length-numbers}
use Rattle.vv_tables.proofs.AcceptedWrites.{blocks_few, size_few, touched_are, touched_end}
use Rattle.vv_meaning.specs.Meaning.{blocks_at}
use Rattle.vv_image.specs.Standing.{bytes_at_place}
use Rattle.vv_core.specs.Entries.{place_in_volume, place_in_image}
use Rattle.vv_array.specs.ChunkBytes.{place_number, stored, volume_chunk, image_chunk, volume_size, image_size}
use Rattle.vv_array.proofs.ChunkValues.{place_long, volume_stored, image_stored, volume_whole, volume_filled}

-- ---- how long a chunk is

pub stored_long : (g : Geometry) (content : List ℕ) (place : Option Place) → length content ≡ disk_len g → IfSome place (λ p. p.0 < g.pool_chunks) → length (stored g content (place_number place)) ≡ chunk_bytes g
stored_long g content None size low = length-replicate (chunk_bytes g) 0
stored_long g content (Some p) size low = place_long g content p.0 size low

pub stored_short : (g : Geometry) (content : List ℕ) (place : Option ℕ) → length (stored g content place) ≤ chunk_bytes g
stored_short g content None = let long : length (replicate {A = ℕ} (chunk_bytes g) 0) ≡ chunk_bytes g = length-replicate (chunk_bytes g) 0 in omega (arith, long)
stored_short g content (Some p) =
    let cut = length-take (chunk_bytes g) (drop (chunks_at g + p * chunk_bytes g) content) in
    omega (arith, cut)

pub volume_chunk_short : (d : Durable Entry) (content : List ℕ) (n i : ℕ) → i < volume_size d n → length (volume_chunk (filled_tables (bytes_at_place d.geometry content) d) n i) ≤ chunk_bytes d.geometry
volume_chunk_short d content n i lt =
    let short : length (stored d.geometry content (place_in_volume d n i)) ≤ chunk_bytes d.geometry = stored_short d.geometry content (place_in_volume d n i) in
    let same : length (stored d.geometry content (place_in_volume d n i)) ≡ length (volume_chunk (filled_tables (bytes_at_place d.geometry content) d) n i) =
    ap length (volume_stored d content n i (place_in_volume d n i) lt refl) in
    omega (arith, short, same)

-- ---- a chunk around a piece

-- a buffer of which the front was read, then a piece was put in, and then the rest was read
around : (size at : ℕ) (buffer front put back chunk piece : List ℕ) → length buffer ≡ size → length chunk ≡ size → at + length piece ≤ size
    → front ≡ bytes_at 0 (length (take at buffer)) chunk → put ≡ piece
    → (let first : List ℕ = front ++ drop at buffer in
    let second : List ℕ = take at first ++ (put ++ drop (at + length piece - at) (drop at first)) in
    back ≡ bytes_at (at + length piece) (length (take (length second - (at + length piece)) (drop (at + length piece) second))) chunk
    → take (at + length piece) second ++ (back ++ drop (length second - (at + length piece)) (drop (at + length piece) second)) ≡ overwritten chunk at piece)
around size at buffer front put back chunk piece long whole fits front_is put_is back_is =
    let end : ℕ = at + length piece in
    let first : List ℕ = front ++ drop at buffer in
    let rest : List ℕ = drop (end - at) (drop at first) in
    let second : List ℕ = take at first ++ (put ++ rest) in
    let cut : length (take at buffer) ≡ at = length-take at buffer ∙ omega (arith, long, fits) in
    let front_as : front ≡ take at chunk = front_is ∙ ap (λ k. take k chunk) cut in
    let front_long : length front ≡ at = ap length front_as ∙ length-take at chunk ∙ omega (arith, whole, fits) in
    let put_long : length put ≡ length piece = ap length put_is in
    let taken : take at first ≡ front = take_at front (drop at buffer) at front_long in
    let first_long : length first ≡ size = length-append front (drop at buffer) ∙ omega (arith, front_long, length-drop at buffer, long, fits) in
    let rest_long : length rest ≡ size - end = length-drop (end - at) (drop at first) ∙ omega (arith, length-drop at first, first_long, fits) in
    let second_is : second ≡ (front ++ put) ++ rest = ap (λ (l : List ℕ). l ++ (put ++ rest)) taken ∙ sym (append_assoc front put rest) in
    let both_long : length (front ++ put) ≡ end = length-append front put ∙ omega (arith, front_long, put_long) in
    let second_long : length second ≡ size = ap length second_is ∙ length-append (front ++ put) rest ∙ omega (arith, both_long, rest_long, fits) in
    let kept_front : take end second ≡ front ++ put = ap (take end) second_is ∙ take_at (front ++ put) rest end both_long in
    let count : length (take (length second - end) (drop end second)) ≡ size - end =
    length-take (length second - end) (drop end second) ∙ omega (arith, length-drop end second, second_long) in
    let left : length (drop end chunk) ≡ size - end = length-drop end chunk ∙ omega (arith, whole) in
    let back_as : back ≡ drop end chunk = back_is ∙ ap (λ k. take k (drop end chunk)) count ∙ take-past (size - end) (drop end chunk) (omega (arith, left)) in
    let over : drop (length second - end) (drop end second) ≡ [] = drop-past (length second - end) (drop end second) (omega (arith, length-drop end second)) in
    ap (λ (l : List ℕ). l ++ (back ++ drop (length second - end) (drop end second))) kept_front
    ∙ ap (λ (l : List ℕ). (front ++ put) ++ (back ++ l)) over
    ∙ ap (λ (l : List ℕ). (front ++ put) ++ l) (append-nil back ∙ back_as)
    ∙ ap (λ (l : List ℕ). (l ++ put) ++ drop end chunk) front_as
    ∙ ap (λ (l : List ℕ). (take at chunk ++ l) ++ drop end chunk) put_is

-- the same of a content that may be told
pub told_around : (told : Option (List ℕ)) (chunk : List ℕ → List ℕ) (size at : ℕ) (buffer front put back piece : List ℕ) → length buffer ≡ size → ((c : List ℕ) → told ≡ Some c → length (chunk c) ≡ size) → at + length piece ≤ size
    → IfSome told (λ c. front ≡ bytes_at 0 (length (take at buffer)) (chunk c)) → put ≡ piece
    → (let first : List ℕ = front ++ drop at buffer in
    let second : List ℕ = take at first ++ (put ++ drop (at + length piece - at) (drop at first)) in
    IfSome told (λ c. back ≡ bytes_at (at + length piece) (length (take (length second - (at + length piece)) (drop (at + length piece) second))) (chunk c))
    → IfSome told (λ c. take (at + length piece) second ++ (back ++ drop (length second - (at + length piece)) (drop (at + length piece) second)) ≡ overwritten (chunk c) at piece))
told_around None chunk size at buffer front put back piece long whole fits front_is put_is back_is = tt
told_around (Some c) chunk size at buffer front put back piece long whole fits front_is put_is back_is =
    around size at buffer front put back (chunk c) piece long (whole c refl) fits front_is put_is back_is

-- a piece that is the whole chunk
pub whole_piece : (size at : ℕ) (chunk piece : List ℕ) → length chunk ≤ size → length piece ≡ size → at + length piece ≤ size → overwritten chunk at piece ≡ piece
whole_piece size at chunk piece short long fits =
    let none : at ≡ 0 = omega (arith, long, fits) in
    let over : drop (0 + length piece) chunk ≡ [] = drop-past (0 + length piece) chunk (omega (arith, short, long)) in
    ap (λ k. overwritten chunk k piece) none ∙ ap (λ (l : List ℕ). piece ++ l) over ∙ append-nil piece

-- a whole chunk that was read
pub whole_read : (g : Geometry) (told : Option (List ℕ)) (place : Option ℕ) (got : List ℕ) (count : ℕ) → count ≡ chunk_bytes g → IfSome told (λ c. got ≡ bytes_at 0 count (stored g c place)) → IfSome told (λ c. got ≡ stored g c place)
whole_read g None place got count is read = tt
whole_read g (Some c) place got count is read = read ∙ take-past count (stored g c place) (let short = stored_short g c place in omega (arith, short, is))

-- ---- what one call says of a chunk

-- a part of a chunk of a volume was read where the chunk stands
pub piece_told : {T E : Type 0} (r : Result T E) (d : Durable Entry) (g : Geometry) (n i at k : ℕ) (from : Option Place) (told : Option (List ℕ)) (got : List ℕ) → g ≡ d.geometry → i < volume_size d n → place_number from ≡ place_in_volume d n i
    → OnOk r (IfSome told (λ c. got ≡ bytes_at at k (stored g c (place_number from))))
    → OnOk r (IfSome told (λ c. got ≡ bytes_at at k (volume_chunk (filled_tables (bytes_at_place d.geometry c) d) n i)))
piece_told (Err e) d g n i at k from told got sizes lt is read = tt
piece_told (Ok x) d g n i at k from None got sizes lt is read = tt
piece_told (Ok x) d g n i at k from (Some c) got sizes lt is read =
    read ∙ ap (λ (h : Geometry). bytes_at at k (stored h c (place_number from))) sizes ∙ ap (λ (l : List ℕ). bytes_at at k l) (volume_stored d c n i (place_number from) lt is)

-- what was read and then written stands at its place
new_stands : {T E : Type 0} (r : Result T E) (t0 t1 : Option (List ℕ)) (got : List ℕ) (at chunk : List ℕ → List ℕ) → ((c : List ℕ) → t0 ≡ Some c → got ≡ chunk c)
    → OnOk r (IfSome t1 (λ c. at c ≡ got)) → OnOk r ((c c' : List ℕ) → t0 ≡ Some c → t1 ≡ Some c' → at c' ≡ chunk c)
new_stands (Err e) t0 t1 got at chunk read put = tt
new_stands (Ok x) t0 t1 got at chunk read put = λ c c' e f. subst (λ t. IfSome t (λ b. at b ≡ got)) f put ∙ read c e

module _ {T E : Type 0} (r : Result T E) (d : Durable Entry) (g : Geometry) (sizes : g ≡ d.geometry) (n i place : ℕ) (t0 t1 : Option (List ℕ)) where
  -- .. a chunk of an image
  pub copied_new : (from : Option Place) (got : List ℕ) (count : ℕ) → count ≡ chunk_bytes d.geometry → i < image_size d n → place_number from ≡ place_in_image d n i
      → IfSome t0 (λ c. got ≡ bytes_at 0 count (stored g c (place_number from))) → OnOk r (IfSome t1 (λ c. bytes_at_place g c place ≡ got))
      → OnOk r ((c c' : List ℕ) → t0 ≡ Some c → t1 ≡ Some c' → bytes_at_place d.geometry c' place ≡ image_chunk (filled_tables (bytes_at_place d.geometry c) d) n i)
  copied_new from got count counts lt is read put =
      new_stands r t0 t1 got (λ c. bytes_at_place d.geometry c place) (λ c. image_chunk (filled_tables (bytes_at_place d.geometry c) d) n i)
      (λ c e. subst (λ t. IfSome t (λ b. got ≡ stored d.geometry b (place_number from))) e
      (whole_read d.geometry t0 (place_number from) got count counts (subst (λ h. IfSome t0 (λ b. got ≡ bytes_at 0 count (stored h b (place_number from)))) sizes read))
      ∙ image_stored d c n i (place_number from) lt is)
      (subst (λ h. OnOk r (IfSome t1 (λ c. bytes_at_place h c place ≡ got))) sizes put)

  -- .. a chunk of a volume with a piece over it
  pub pieced_new : (from : Option Place) (got : List ℕ) (at : ℕ) (piece : List ℕ) → i < volume_size d n → place_number from ≡ place_in_volume d n i
      → IfSome t0 (λ c. got ≡ overwritten (stored g c (place_number from)) at piece) → OnOk r (IfSome t1 (λ c. bytes_at_place g c place ≡ got))
      → OnOk r ((c c' : List ℕ) → t0 ≡ Some c → t1 ≡ Some c' → bytes_at_place d.geometry c' place ≡ overwritten (volume_chunk (filled_tables (bytes_at_place d.geometry c) d) n i) at piece)
  pieced_new from got at piece lt is read put =
      new_stands r t0 t1 got (λ c. bytes_at_place d.geometry c place) (λ c. overwritten (volume_chunk (filled_tables (bytes_at_place d.geometry c) d) n i) at piece)
      (λ c e. subst (λ t. IfSome t (λ b. got ≡ overwritten (stored d.geometry b (place_number from)) at piece)) e
      (subst (λ h. IfSome t0 (λ b. got ≡ overwritten (stored h b (place_number from)) at piece)) sizes read)
      ∙ ap (λ (l : List ℕ). overwritten l at piece) (volume_stored d c n i (place_number from) lt is))
      (subst (λ h. OnOk r (IfSome t1 (λ c. bytes_at_place h c place ≡ got))) sizes put)

  -- .. or a piece that is the whole chunk
  pub whole_new : (at : ℕ) (piece : List ℕ) → i < volume_size d n → length piece ≡ chunk_bytes d.geometry → at + length piece ≤ chunk_bytes d.geometry
      → OnOk r (IfSome t1 (λ c. bytes_at_place g c place ≡ piece))
      → OnOk r ((c c' : List ℕ) → t0 ≡ Some c → t1 ≡ Some c' → bytes_at_place d.geometry c' place ≡ overwritten (volume_chunk (filled_tables (bytes_at_place d.geometry c) d) n i) at piece)
  whole_new at piece lt long fits put =
      new_stands r t0 t1 piece (λ c. bytes_at_place d.geometry c place) (λ c. overwritten (volume_chunk (filled_tables (bytes_at_place d.geometry c) d) n i) at piece)
      (λ c e. sym (whole_piece (chunk_bytes d.geometry) at (volume_chunk (filled_tables (bytes_at_place d.geometry c) d) n i) piece (volume_chunk_short d c n i lt) long fits))
      (subst (λ h. OnOk r (IfSome t1 (λ c. bytes_at_place h c place ≡ piece))) sizes put)

-- the piece of a write that lies in a chunk
pub piece_value : (g h : Geometry) (at index first : ℕ) (bytes piece old : List ℕ) → g ≡ h → at ≡ first * 512 - index * chunk_bytes g → piece ≡ take (chunk_bytes g - at) (drop (index * chunk_bytes g - first * 512) bytes)
    → overwritten old at piece ≡ part_written (chunk_bytes h) (chunk_start h.chunk_blocks index) (first * 512) bytes old
piece_value g h at index first bytes piece old sizes at_is piece_is =
    ap (λ (l : List ℕ). overwritten old at l) piece_is
    ∙ ap (λ a. overwritten old a (take (chunk_bytes g - a) (drop (index * chunk_bytes g - first * 512) bytes))) at_is
    ∙ ap (λ (x : Geometry). overwritten old (first * 512 - index * chunk_bytes x) (take (chunk_bytes x - (first * 512 - index * chunk_bytes x)) (drop (index * chunk_bytes x - first * 512) bytes))) sizes

-- ---- sizes

pub size_low : (d : Durable Entry) → is_well_formed d ≡ true → (n : ℕ) (v : Volume Entry) → volume_of d n ≡ Some v → length v.chunks ≤ 1048576
size_low d well n v found =
    let same : size_of (shape_of_tables d) n ≡ length v.chunks = ap length (stamps_found (λ (e : Entry). e.stamp) unmapped_entry d n v found) ∙ length-map v.chunks (λ (e : Entry). e.stamp) in
    let few = size_few (shape_of_tables d) (kept (shape_of_tables d) (shape_rules d well)) n in
    omega (arith, same, few)

pub blocks_low : (d : Durable Entry) → is_well_formed d ≡ true → (n : ℕ) (v : Volume Entry) → volume_of d n ≡ Some v → length v.chunks * d.geometry.chunk_blocks ≤ 2147483648
blocks_low d well n v found = blocks_few d.geometry.chunk_blocks (length v.chunks) d.geometry.chunk_size (size_low d well n v found)

pub size_is : (d : Durable Entry) (n : ℕ) (v : Volume Entry) → volume_of d n ≡ Some v → volume_size d n ≡ length v.chunks
size_is d n v found = ap (λ (o : Option (Volume Entry)). if_found o (λ (v : Volume Entry). length v.chunks) 0) found

-- the chunks that a write touches, one after the other
numbers_at : (from count k : ℕ) → k < count → get_or (numbers_from from count) k 0 ≡ from + k
numbers_at from zero k lt = absurd (omega (arith, lt))
numbers_at from (suc count) zero lt = omega arith
numbers_at from (suc count) (suc k) lt = numbers_at (from + 1) count k (omega (arith, lt)) ∙ omega arith

pub touched_long : (B first blocks : ℕ) → 1 ≤ blocks → length (touched_indexes B first blocks) ≡ touched_count B first blocks
touched_long B first blocks some = ap length (touched_are B first blocks some) ∙ length-numbers (touched_first B first) (touched_count B first blocks)

pub touched_at : (B first blocks k index : ℕ) → 1 ≤ blocks → k < touched_count B first blocks → index ≡ touched_first B first + k → get_or (touched_indexes B first blocks) k 0 ≡ index
touched_at B first blocks k index some lt is =
    ap (λ (l : List ℕ). get_or l k 0) (touched_are B first blocks some) ∙ numbers_at (touched_first B first) (touched_count B first blocks) k lt ∙ sym is

pub touched_inside : (d : Durable Entry) (n first blocks k index : ℕ) (v : Volume Entry) → volume_of d n ≡ Some v → first + blocks ≤ volume_blocks d.geometry.chunk_blocks v.chunks → 1 ≤ blocks
    → k < touched_count d.geometry.chunk_blocks first blocks → index ≡ touched_first d.geometry.chunk_blocks first + k → index < volume_size d n
touched_inside d n first blocks k index v found within some lt is =
    let ends = touched_end d.geometry.chunk_blocks (length v.chunks) first blocks (some_blocks d.geometry.chunk_blocks d.geometry.chunk_size) some within in
    let size = size_is d n v found in
    omega (arith, ends, size, lt, is)

-- a touched chunk begins before the write ends
pub touched_low : (B first blocks k index : ℕ) → 1 ≤ blocks → k < touched_count B first blocks → index ≡ touched_first B first + k → index * (B * 512) ≤ first * 512 + blocks * 512
touched_low B first blocks k index some lt is =
    let last : index ≤ (first + blocks - 1) / B = omega (arith, lt, is) in
    let times : index * B ≤ (first + blocks - 1) / B * B = mul-le-mul_right B last in
    let most : (first + blocks - 1) / B * B ≤ first + blocks - 1 = div-mul-le_self (first + blocks - 1) B in
    let regrouped : index * B * 512 ≡ index * (B * 512) = mul_assoc index B 512 in
    omega (arith, times, most, regrouped, some)

-- and ends behind its first block
pub touched_high : (B first k index : ℕ) → 0 < B → index ≡ touched_first B first + k → first * 512 < index * (B * 512) + B * 512
touched_high B first k index some is =
    let next : first < first / B * B + B = lt-div-mul-add some in
    let least : first / B ≤ index = omega (arith, is) in
    let times : first / B * B ≤ index * B = mul-le-mul_right B least in
    let regrouped : index * B * 512 ≡ index * (B * 512) = mul_assoc index B 512 in
    omega (arith, next, times, regrouped)

-- what all pass, the one at an index passes
pub all_at_index : {A : Type 0} (p : A → Bool) (xs : List A) (i : ℕ) (x : A) → list_all p xs ≡ true → i < length xs → p (get_or xs i x) ≡ true
all_at_index p [] i x e lt = absurd (omega (arith, lt))
all_at_index p (y ∷ ys) zero x e lt = and_left (p y) _ e
all_at_index p (y ∷ ys) (suc i) x e lt = all_at_index p ys i x (and_right (p y) _ e) (omega (arith, lt))

-- ---- some blocks more

parts_join : (B : ℕ) (chunks : List ChunkValue) → are_whole B chunks ≡ true → (first done k index w : ℕ) → index * B + w ≡ first + done → w + k ≤ B
    → blocks_read chunks first (done + k) ≡ blocks_read chunks first done ++ bytes_at (w * 512) (k * 512) (bytes_in chunks index)
parts_join B chunks whole first done k index w from within =
    let all : List ℕ = bytes_of chunks in
    let sum : (done + k) * 512 ≡ done * 512 + k * 512 = omega arith in
    let regrouped : index * B * 512 ≡ index * (B * 512) = mul_assoc index B 512 in
    let times : (index * B + w) * 512 ≡ (first + done) * 512 = ap (λ m. m * 512) from in
    let at : first * 512 + done * 512 ≡ index * (B * 512) + w * 512 = omega (arith, regrouped, times) in
    ap (λ m. take m (drop (first * 512) all)) sum ∙ take-add (done * 512) (k * 512) (drop (first * 512) all)
    ∙ ap (λ (l : List ℕ). take (done * 512) (drop (first * 512) all) ++ take (k * 512) l) (drop-drop (done * 512) (first * 512) all ∙ ap (λ j. drop j all) at)
    ∙ ap (λ (l : List ℕ). take (done * 512) (drop (first * 512) all) ++ l)
    (part_of (index * (B * 512)) (w * 512) (k * 512) (B * 512) all (omega (arith, within)) ∙ ap (λ (l : List ℕ). bytes_at (w * 512) (k * 512) l) (chunk_is B index chunks whole))

module _ (d : Durable Entry) (well : is_well_formed d ≡ true) (n : ℕ) (v : Volume Entry) (found : volume_of d n ≡ Some v) where
  read_more : (content : List ℕ) → length content ≡ disk_len d.geometry → (first done k index w : ℕ) → index * d.geometry.chunk_blocks + w ≡ first + done → w + k ≤ d.geometry.chunk_blocks
      → blocks_at (filled_tables (bytes_at_place d.geometry content) d) n first (done + k)
      ≡ blocks_at (filled_tables (bytes_at_place d.geometry content) d) n first done ++ bytes_at (w * 512) (k * 512) (volume_chunk (filled_tables (bytes_at_place d.geometry content) d) n index)
  read_more content size first done k index w from within =
      let fill : Entry → ChunkValue = filled d.geometry.chunk_blocks (bytes_at_place d.geometry content) in
      let x : Volume ChunkValue = map_volume fill v in
      let there : volume_of (filled_tables (bytes_at_place d.geometry content) d) n ≡ Some x = volume_filled d content n ∙ ap (λ (o : Option (Volume Entry)). option_map (map_volume fill) o) found in
      ap (λ (o : Option (Volume ChunkValue)). if_found o (λ (y : Volume ChunkValue). blocks_read y.chunks first (done + k)) []) there
      ∙ parts_join d.geometry.chunk_blocks x.chunks (volume_whole d well content size n x there) first done k index w from within
      ∙ ap (λ (o : Option (Volume ChunkValue)). if_found o (λ (y : Volume ChunkValue). blocks_read y.chunks first done) [] ++ bytes_at (w * 512) (k * 512) (if_found o (λ (y : Volume ChunkValue). bytes_in y.chunks index) [])) (sym there)

  -- a part of a chunk was read behind what was read before
  pub told_read_more : (told : Option (List ℕ)) (into piece : List ℕ) (first done k index w count start end : ℕ) → ((c : List ℕ) → told ≡ Some c → length c ≡ disk_len d.geometry)
      → index * d.geometry.chunk_blocks + w ≡ first + done → w + k ≤ d.geometry.chunk_blocks → start ≡ done * 512 → end ≡ start + k * 512 → end ≤ length into → count ≡ k * 512 → length piece ≡ count
      → IfSome told (λ c. take (done * 512) into ≡ blocks_at (filled_tables (bytes_at_place d.geometry c) d) n first done)
      → IfSome told (λ c. piece ≡ bytes_at (w * 512) count (volume_chunk (filled_tables (bytes_at_place d.geometry c) d) n index))
      → IfSome told (λ c. take ((done + k) * 512) (take start into ++ (piece ++ drop (end - start) (drop start into))) ≡ blocks_at (filled_tables (bytes_at_place d.geometry c) d) n first (done + k))
  told_read_more None into piece first done k index w count start end size from within starts ends fits counts long before got = tt
  told_read_more (Some c) into piece first done k index w count start end size from within starts ends fits counts long before got =
      let rest : List ℕ = drop (end - start) (drop start into) in
      let front_long : length (take start into) ≡ start = length-take start into ∙ omega (arith, starts, ends, fits) in
      let all : length (take start into ++ piece) ≡ (done + k) * 512 = length-append (take start into) piece ∙ omega (arith, front_long, long, counts, starts) in
      ap (take ((done + k) * 512)) (sym (append_assoc (take start into) piece rest)) ∙ take_at (take start into ++ piece) rest ((done + k) * 512) all
      ∙ ap (λ j. take j into ++ piece) starts
      ∙ ap (λ (l : List ℕ). l ++ piece) before
      ∙ ap (λ (l : List ℕ). blocks_at (filled_tables (bytes_at_place d.geometry c) d) n first done ++ l) (got ∙ ap (λ j. bytes_at (w * 512) j (volume_chunk (filled_tables (bytes_at_place d.geometry c) d) n index)) counts)
      ∙ sym (read_more c (size c refl) first done k index w from within)
