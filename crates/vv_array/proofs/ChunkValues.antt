-- The bytes of chunks where they stand, and the new values of a write and of a clone's turn chunk by chunk. It serves reading
-- and writing chunk by chunk.
use Rattle.std.proofs.Common.{◌≡◌, ◌==◌, ◌&&◌, ◌||◌, not, ℕ, zero, suc, ◌+◌, ◌-◌, ◌*◌, ◌/◌, ◌<◌, ◌≤◌, Bool, true, false, cond, List, [], ◌∷◌, map, length, get_or, take, drop, replicate, Option, None, Some, refl, sym, ap, ◌∙◌, subst, arith, length-take, length-drop}
use Rattle.std.specs.Prelude.{unwrap_or, option_map, nat_lt}
use Rattle.std.specs.List.{list_all}
use Rattle.std.proofs.lemmas.Bool.{eqb-true, ltb-true}
use Rattle.std.proofs.lemmas.List.{length-map}
use Rattle.std.proofs.Math.Nat.{mul-div_cancel, mul-le-mul_right, mul_assoc}
use Rattle.vv_units.specs.Sizes.{block_bytes}
use Rattle.vv_units.specs.declared.geometry.Geometry.{Geometry}
use Rattle.vv_data.specs.Layout.{chunk_bytes, disk_len, chunks_at}
use Rattle.vv_data.proofs.Places.{place_fits}
use Rattle.vv_flat.specs.Lists.{if_found, all_different}
use Rattle.vv_flat.specs.State.{Volume, RunningClone, Task, Job, Clone, Copy, Piece, Durable, map_volume, map_clone, all_pieces, volume_of, clone_of, task_of}
use Rattle.vv_flat.specs.Chunks.{ChunkValue, Entry, filled, filled_tables, volume_blocks, placed_entries, touched_indexes, written_values, copied_values}
use Rattle.vv_flat.specs.Parts.{are_whole, bytes_in, chunk_start, part_written}
use Rattle.vv_flat.specs.Bits.{allocated_indexes}
use Rattle.vv_flat.specs.Tasks.{turn_limit, job_indexes, turn_indexes, turned_indexes}
use Rattle.vv_flat.specs.Space.{is_running}
use Rattle.vv_flat.specs.Changes.{Write, Turn, changed_indexes}
use Rattle.vv_flat.specs.Sharing.{is_placed, agrees, names_place, place_count, shares_places}
use Rattle.vv_flat.specs.NamedPlaces.{is_named}
use Rattle.vv_flat.specs.Replay.{is_fresh}
use Rattle.vv_flat.specs.Flat.{new_values}
use Rattle.vv_flat.specs.WellFormed.{is_well_formed}
use Rattle.vv_flat.proofs.Shares.{and_left, and_right, list_all-follows, shares-places}
use Rattle.vv_flat.proofs.MapLists.{map-after}
use Rattle.vv_flat.proofs.MapDurable.{same-changed_indexes}
use Rattle.vv_flat.proofs.NamedPlaces.{named-counted}
use Rattle.vv_flat.proofs.NewEntries.{all-take, all-drop}
use Rattle.vv_flat.proofs.Steps.{find-passes}
use Rattle.vv_laws.proofs.WellFormed.{well_formed_sharing}
use Rattle.vv_laws.proofs.WellFormedArrays.{array_values, whole_volume}
use Rattle.vv_laws.proofs.FilledArrays.{filled_well}
use Rattle.vv_laws.proofs.OtherContents.{same_filled}
use Rattle.vv_laws.proofs.AllocatedVolumes.{indexes_inside}
use Rattle.vv_laws.proofs.ChunkBytes.{write_by_parts}
use Rattle.vv_tables.proofs.Walks.{find_mapped}
use Rattle.vv_image.specs.Standing.{bytes_at_place}
use Rattle.vv_core.specs.Entries.{place_at, place_in_volume, place_in_image}
use Rattle.vv_array.specs.Chunks.{DiffersAt, ToldAt}
use Rattle.vv_array.specs.ChunkBytes.{stored, volume_chunk, image_chunk, volume_size, image_size}
use Rattle.vv_array.proofs.WrittenChunks.{is_among, one_of}

-- ---- where a chunk's bytes are

-- the chunk of an entry that stands at an index
entry_stored : (blocks : ℕ) (at : ℕ → List ℕ) (entries : List Entry) (i : ℕ) → i < length entries
    → unwrap_or (option_map at (place_at entries i)) (replicate (blocks * block_bytes) 0) ≡ bytes_in (map (filled blocks at) entries) i
entry_stored blocks at [] i lt = absurd (omega (arith, lt))
entry_stored blocks at (x ∷ xs) zero lt = refl
entry_stored blocks at (x ∷ xs) (suc i) lt = entry_stored blocks at xs i (omega (arith, lt))

module _ (d : Durable Entry) (content : List ℕ) where
  abbrev at_place : ℕ → List ℕ
  at_place place = bytes_at_place d.geometry content place

  pub volume_filled : (n : ℕ) → volume_of (filled_tables at_place d) n ≡ option_map (map_volume (filled d.geometry.chunk_blocks at_place)) (volume_of d n)
  volume_filled n = find_mapped (map_volume (filled d.geometry.chunk_blocks at_place)) (λ (v : Volume Entry). v.number == n) (λ (v : Volume ChunkValue). v.number == n) (λ v. refl) d.volumes

  clone_filled : (n : ℕ) → clone_of (filled_tables at_place d) n ≡ option_map (map_clone (filled d.geometry.chunk_blocks at_place)) (clone_of d n)
  clone_filled n = find_mapped (map_clone (filled d.geometry.chunk_blocks at_place)) (λ (c : RunningClone Entry). c.number == n) (λ (c : RunningClone ChunkValue). c.number == n) (λ c. refl) d.clones

  -- what stands at the place of a chunk is the chunk
  pub volume_stored : (n i : ℕ) (place : Option ℕ) → i < volume_size d n → place ≡ place_in_volume d n i
      → stored d.geometry content place ≡ volume_chunk (filled_tables at_place d) n i
  unfolding place_in_volume
  volume_stored n i place lt is =
      ap (stored d.geometry content) is ∙ go (volume_of d n) lt
      ∙ ap (λ (o : Option (Volume ChunkValue)). if_found o (λ (v : Volume ChunkValue). bytes_in v.chunks i) []) (sym (volume_filled n))
    where
      go : (o : Option (Volume Entry)) → i < if_found o (λ (v : Volume Entry). length v.chunks) 0
          → stored d.geometry content (if_found o (λ (v : Volume Entry). place_at v.chunks i) None)
          ≡ if_found (option_map (map_volume (filled d.geometry.chunk_blocks at_place)) o) (λ (v : Volume ChunkValue). bytes_in v.chunks i) []
      go None lt = absurd (omega (arith, lt))
      go (Some v) lt = entry_stored d.geometry.chunk_blocks at_place v.chunks i lt

  pub image_stored : (n i : ℕ) (place : Option ℕ) → i < image_size d n → place ≡ place_in_image d n i
      → stored d.geometry content place ≡ image_chunk (filled_tables at_place d) n i
  unfolding place_in_image
  image_stored n i place lt is =
      ap (stored d.geometry content) is ∙ go (clone_of d n) lt
      ∙ ap (λ (o : Option (RunningClone ChunkValue)). if_found o (λ (c : RunningClone ChunkValue). bytes_in c.image i) []) (sym (clone_filled n))
    where
      go : (o : Option (RunningClone Entry)) → i < if_found o (λ (c : RunningClone Entry). length c.image) 0
          → stored d.geometry content (if_found o (λ (c : RunningClone Entry). place_at c.image i) None)
          ≡ if_found (option_map (map_clone (filled d.geometry.chunk_blocks at_place)) o) (λ (c : RunningClone ChunkValue). bytes_in c.image i) []
      go None lt = absurd (omega (arith, lt))
      go (Some c) lt = entry_stored d.geometry.chunk_blocks at_place c.image i lt

-- ---- places that are named, and fresh ones

placed_low : (pool p : ℕ) (ps : List (Piece Entry)) → list_all (λ (a : Piece Entry). is_placed pool a.chunk) ps ≡ true → is_named ps p ≡ true → p < pool
placed_low pool p [] placed named = absurd (cc)
placed_low pool p (a ∷ ps) placed named = go (names_place p a) refl named (λ e. placed_low pool p ps (and_right (is_placed pool a.chunk) _ placed) e)
  where
    here : (o : Option ℕ) (s : ℕ) → if_found o (λ q. not (s == 0) && nat_lt q pool) (s == 0) ≡ true → if_found o (λ q. q == p) false ≡ true → p < pool
    here None s placed is = absurd (cc)
    here (Some q) s placed is =
        let same : q ≡ p = eqb-true q p is in
        ltb-true p pool (ap (λ r. nat_lt r pool) (sym same) ∙ and_right (not (s == 0)) _ placed)

    go : (b : Bool) → names_place p a ≡ b → (b || is_named ps p) ≡ true → (is_named ps p ≡ true → p < pool) → p < pool
    go true is named rest = here a.chunk.place a.chunk.stamp (and_left (is_placed pool a.chunk) _ placed) is
    go false is named rest = rest named

-- a place that tables name is one of the pool
pub named_low : (d : Durable Entry) → is_well_formed d ≡ true → (p : ℕ) → is_named (all_pieces d) p ≡ true → p < d.geometry.pool_chunks
unfolding shares_places
named_low d well p named =
    let pool = d.geometry.pool_chunks in
    placed_low pool p (all_pieces d)
    (list_all-follows (λ (a : Piece Entry). is_placed pool a.chunk && list_all (agrees a) (all_pieces d)) (λ (a : Piece Entry). is_placed pool a.chunk)
    (λ a f. and_left (is_placed pool a.chunk) _ f) (all_pieces d) (shares-places d (well_formed_sharing d well))) named

not-true : (b : Bool) → not b ≡ true → b ≡ false
not-true true e = absurd (cc)
not-true false e = refl

-- one place is another one or not
alone : (p q : ℕ) → is_among (p ∷ []) q ≡ false → (p == q) ≡ false
alone p q e = go (p == q) e
  where
    go : (b : Bool) → (b || false) ≡ false → b ≡ false
    go true e = absurd (cc)
    go false e = refl

none_else : (p q : ℕ) → (p == q) ≡ false → is_among (p ∷ []) q ≡ false
none_else p q e = ap (λ b. b || false) e

either_false : (a b : Bool) → a ≡ false → b ≡ false → (a || b) ≡ false
either_false true b e f = absurd (cc)
either_false false b e f = f

-- and none of the fresh ones
pub named_apart : (d : Durable Entry) (p : ℕ) (places : List ℕ) → is_named (all_pieces d) p ≡ true → list_all (is_fresh d) places ≡ true → is_among places p ≡ false
named_apart d p [] named fresh = refl
named_apart d p (x ∷ xs) named fresh =
    either_false (x == p) (is_among xs p) (one (x == p) refl) (named_apart d p xs named (and_right (is_fresh d x) _ fresh))
  where
    one : (b : Bool) → (x == p) ≡ b → b ≡ false
    one false is = refl
    one true is =
        let same : x ≡ p = eqb-true x p is in
        let none : (place_count (all_pieces d) x == 0) ≡ true = and_right (nat_lt x d.geometry.pool_chunks) _ (and_left (is_fresh d x) _ fresh) in
        let unnamed : is_named (all_pieces d) p ≡ false = named-counted (all_pieces d) p ∙ ap (λ k. not (place_count (all_pieces d) k == 0)) (sym same) ∙ ap not none in
        absurd (cc)

-- what changes at fresh places changes nothing of the array
pub fresh_filled : (d : Durable Entry) → is_well_formed d ≡ true → (places : List ℕ) → list_all (is_fresh d) places ≡ true → (old new : List ℕ) → DiffersAt d.geometry places old new
    → filled_tables (bytes_at_place d.geometry new) d ≡ filled_tables (bytes_at_place d.geometry old) d
fresh_filled d well places fresh old new is =
    same_filled (bytes_at_place d.geometry new) (bytes_at_place d.geometry old) d
    (λ p named. is.others p (named_low d well p named) (named_apart d p places named fresh))

-- ---- chunks have their bytes

pub place_long : (g : Geometry) (content : List ℕ) (p : ℕ) → length content ≡ disk_len g → p < g.pool_chunks → length (bytes_at_place g content p) ≡ chunk_bytes g
place_long g content p size lt =
    let fits : chunks_at g + p * chunk_bytes g + chunk_bytes g ≤ disk_len g = place_fits g (record { 0 = p }) lt in
    let rest : length (drop (chunks_at g + p * chunk_bytes g) content) ≡ length content - (chunks_at g + p * chunk_bytes g) = length-drop (chunks_at g + p * chunk_bytes g) content in
    length-take (chunk_bytes g) (drop (chunks_at g + p * chunk_bytes g) content) ∙ omega (arith, rest, size, fits)

pub volume_whole : (d : Durable Entry) → is_well_formed d ≡ true → (content : List ℕ) → length content ≡ disk_len d.geometry → (n : ℕ) (v : Volume ChunkValue)
    → volume_of (filled_tables (bytes_at_place d.geometry content) d) n ≡ Some v → are_whole d.geometry.chunk_blocks v.chunks ≡ true
volume_whole d well content size n v found =
    whole_volume (filled_tables (bytes_at_place d.geometry content) d) n v
    (array_values (filled_tables (bytes_at_place d.geometry content) d)
    (filled_well (bytes_at_place d.geometry content) d well (λ p named. place_long d.geometry content p size (named_low d well p named)))) found

-- ---- new values, chunk by chunk

-- where the places of a change have these bytes, its new entries have these values
pub new_entries : (blocks stamp : ℕ) (at value : ℕ → List ℕ) (places indexes : List ℕ) → map at places ≡ map value indexes
    → map (filled blocks at) (placed_entries places stamp) ≡ map {A = ℕ} {B = ChunkValue} (λ i. record { stamp = stamp; bytes = value i }) indexes
new_entries blocks stamp at value places indexes same =
    map-after (λ (p : ℕ). (let e : Entry = record { place = Some p; stamp = stamp } in e)) (filled blocks at) (λ (p : ℕ). (let x : ChunkValue = record { stamp = stamp; bytes = at p } in x)) (λ p. refl) places
    ∙ sym (map-after at (λ (b : List ℕ). (let x : ChunkValue = record { stamp = stamp; bytes = b } in x)) (λ (p : ℕ). (let x : ChunkValue = record { stamp = stamp; bytes = at p } in x)) (λ p. refl) places)
    ∙ ap (map (λ (b : List ℕ). (let x : ChunkValue = record { stamp = stamp; bytes = b } in x))) same
    ∙ map-after value (λ (b : List ℕ). (let x : ChunkValue = record { stamp = stamp; bytes = b } in x)) (λ (i : ℕ). (let x : ChunkValue = record { stamp = stamp; bytes = value i } in x)) (λ i. refl) indexes

-- the indexes of a turn: none, or those of a running clone
turn_case : (d : Durable Entry) (n : ℕ) (P : List ℕ → Type 0) → P []
    → ((t : Task) (c : RunningClone Entry) → clone_of d n ≡ Some c → P (turn_indexes (map (λ (e : Entry). e.stamp) c.image) t.done))
    → P (turned_indexes (λ (e : Entry). e.stamp) d n)
unfolding turned_indexes
turn_case d n P none some = of_task (task_of d n) refl
  where
    of_clone : (t : Task) → t.number ≡ n → (o : Option (RunningClone Entry)) → clone_of d t.number ≡ o
        → P (if_found o (λ (c : RunningClone Entry). turn_indexes (map (λ (e : Entry). e.stamp) c.image) t.done) [])
    of_clone t number None e = none
    of_clone t number (Some c) e = some t c (ap (λ m. clone_of d m) (sym number) ∙ e)

    of_job : (t : Task) → t.number ≡ n → (job : Job) → P (job_indexes (λ (e : Entry). e.stamp) d t job)
    of_job t number (Clone source) = of_clone t number (clone_of d t.number) refl
    of_job t number (Copy source base target) = none

    of_run : (t : Task) → t.number ≡ n → (b : Bool) → P (cond b (job_indexes (λ (e : Entry). e.stamp) d t t.job) [])
    of_run t number true = of_job t number t.job
    of_run t number false = none

    of_task : (o : Option Task) → task_of d n ≡ o → P (if_found o (λ t. cond (is_running t) (job_indexes (λ (e : Entry). e.stamp) d t t.job) []) [])
    of_task None e = none
    of_task (Some t) e = of_run t (eqb-true t.number n (find-passes (λ (u : Task). u.number == n) d.tasks t e)) (is_running t)

-- they are indexes of its image
pub turn_within : (d : Durable Entry) (n : ℕ) → list_all (λ i. nat_lt i (image_size d n)) (changed_indexes (λ (e : Entry). e.stamp) d (Turn n)) ≡ true
unfolding changed_indexes
turn_within d n = turn_case d n (λ is. list_all (λ i. nat_lt i (image_size d n)) is ≡ true) refl some
  where
    some : (t : Task) (c : RunningClone Entry) → clone_of d n ≡ Some c → list_all (λ i. nat_lt i (image_size d n)) (turn_indexes (map (λ (e : Entry). e.stamp) c.image) t.done) ≡ true
    some t c found =
        let stamps : List ℕ = map (λ (e : Entry). e.stamp) c.image in
        let here : length c.image ≡ image_size d n = ap (λ (o : Option (RunningClone Entry)). if_found o (λ (r : RunningClone Entry). length r.image) 0) (sym found) in
        let long : length stamps ≡ length c.image = length-map c.image (λ (e : Entry). e.stamp) in
        let size : 0 + length stamps ≡ image_size d n = omega (arith, here, long) in
        all-take (λ i. nat_lt i (image_size d n)) turn_limit (drop t.done (allocated_indexes stamps))
        (all-drop (λ i. nat_lt i (image_size d n)) t.done (allocated_indexes stamps)
        (ap (λ m. list_all (λ i. nat_lt i m) (allocated_indexes stamps)) (sym size) ∙ indexes_inside (λ i s. not (s == 0)) 0 stamps))

no_clone : (d : Durable Entry) (n : ℕ) → clone_of d n ≡ None → changed_indexes (λ (e : Entry). e.stamp) d (Turn n) ≡ []
unfolding changed_indexes
no_clone d n none = turn_case d n (λ is. is ≡ []) refl (λ t c found. absurd (cc))

none_mapped : {A B : Type 0} (f : A → B) (o : Option A) → None ≡ option_map f o → o ≡ None
none_mapped f None e = refl
none_mapped f (Some x) e = absurd (cc)

module _ (d : Durable Entry) (content : List ℕ) where
  abbrev flat : Durable ChunkValue
  flat = filled_tables (bytes_at_place d.geometry content) d

  -- the new values of a turn are the chunks of its image
  pub turn_values : (n : ℕ) → new_values flat (Turn n) []
      ≡ map {A = ℕ} {B = ChunkValue} (λ i. record { stamp = n; bytes = image_chunk flat n i }) (changed_indexes (λ (e : Entry). e.stamp) d (Turn n))
  unfolding new_values copied_values
  turn_values n = go (clone_of flat n) refl
    where
      same : changed_indexes (λ (x : ChunkValue). x.stamp) flat (Turn n) ≡ changed_indexes (λ (e : Entry). e.stamp) d (Turn n)
      same = same-changed_indexes (filled d.geometry.chunk_blocks (bytes_at_place d.geometry content)) (λ (e : Entry). e.stamp) (λ (x : ChunkValue). x.stamp) (λ e. refl) d (Turn n)

      go : (o : Option (RunningClone ChunkValue)) → clone_of flat n ≡ o
          → if_found o (λ (c : RunningClone ChunkValue). copied_values c.image (changed_indexes (λ (x : ChunkValue). x.stamp) flat (Turn n)) n) []
          ≡ map {A = ℕ} {B = ChunkValue} (λ i. record { stamp = n; bytes = if_found o (λ (c : RunningClone ChunkValue). bytes_in c.image i) [] }) (changed_indexes (λ (e : Entry). e.stamp) d (Turn n))
      go None found =
          let none : clone_of d n ≡ None = none_mapped (map_clone (filled d.geometry.chunk_blocks (bytes_at_place d.geometry content))) (clone_of d n) (sym found ∙ clone_filled d content n) in
          sym (ap (map {A = ℕ} {B = ChunkValue} (λ i. record { stamp = n; bytes = [] })) (no_clone d n none))
      go (Some c) found = ap (map {A = ℕ} {B = ChunkValue} (λ i. record { stamp = n; bytes = bytes_in c.image i })) same

  -- the new values of a write are the old chunks with their parts replaced
  pub write_values : is_well_formed d ≡ true → length content ≡ disk_len d.geometry → (n first blocks : ℕ) (bytes : List ℕ) (v : Volume Entry) → volume_of d n ≡ Some v
      → first + blocks ≤ volume_blocks d.geometry.chunk_blocks v.chunks → length bytes ≡ blocks * block_bytes
      → new_values flat (Write n first blocks) bytes
      ≡ map {A = ℕ} {B = ChunkValue} (λ i. record {
        stamp = d.lsn + 1;
        bytes = part_written (chunk_bytes d.geometry) (chunk_start d.geometry.chunk_blocks i) (first * block_bytes) bytes (volume_chunk flat n i);
      }) (touched_indexes d.geometry.chunk_blocks first blocks)
  unfolding new_values
  write_values well size n first blocks bytes v found within long =
      let B : ℕ = d.geometry.chunk_blocks in
      let chunks : List ChunkValue = map (filled B (bytes_at_place d.geometry content)) v.chunks in
      let w : Volume ChunkValue = map_volume (filled B (bytes_at_place d.geometry content)) v in
      let there : volume_of flat n ≡ Some w = volume_filled d content n ∙ ap (option_map (map_volume (filled B (bytes_at_place d.geometry content)))) found in
      let whole : are_whole B chunks ≡ true = volume_whole d well content size n w there in
      let count : length bytes / block_bytes ≡ blocks = ap (λ k. k / block_bytes) long ∙ mul-div_cancel blocks (omega arith) in
      let as_many : length chunks ≡ length v.chunks = length-map v.chunks (filled B (bytes_at_place d.geometry content)) in
      ap (λ (o : Option (Volume ChunkValue)). if_found o (λ (x : Volume ChunkValue). written_values B x.chunks first bytes (d.lsn + 1)) []) there
      ∙ write_by_parts B chunks first bytes (d.lsn + 1) whole (inside B (length v.chunks) first blocks (length chunks) (length bytes) within long as_many)
      ∙ ap (λ k. map {A = ℕ} {B = ChunkValue} (λ i. record { stamp = d.lsn + 1; bytes = part_written (chunk_bytes d.geometry) (chunk_start B i) (first * block_bytes) bytes (bytes_in chunks i) }) (touched_indexes B first k)) count
      ∙ ap (λ (o : Option (Volume ChunkValue)). map {A = ℕ} {B = ChunkValue} (λ i. record {
        stamp = d.lsn + 1;
        bytes = part_written (chunk_bytes d.geometry) (chunk_start B i) (first * block_bytes) bytes (if_found o (λ (x : Volume ChunkValue). bytes_in x.chunks i) []);
      }) (touched_indexes B first blocks)) (sym there)
    where
      inside : (B size first blocks count long : ℕ) → first + blocks ≤ size * B → long ≡ blocks * 512 → count ≡ size → first * 512 + long ≤ count * (B * 512)
      inside B size first blocks count long within is as_many =
          let times : (first + blocks) * 512 ≤ size * B * 512 = mul-le-mul_right 512 within in
          let regrouped : size * B * 512 ≡ size * (B * 512) = mul_assoc size B 512 in
          let all : count * (B * 512) ≡ size * (B * 512) = ap (λ k. k * (B * 512)) as_many in
          omega (arith, times, regrouped, all, is)

-- ---- one chunk more

front_more : (pool : ℕ) (at new value : ℕ → List ℕ) (places indexes : List ℕ) (k place index : ℕ) → k < length places → length indexes ≡ length places → get_or places k 0 ≡ place → get_or indexes k 0 ≡ index
    → all_different places ≡ true → list_all (λ q. nat_lt q pool) places ≡ true → ((q : ℕ) → q < pool → (place == q) ≡ false → new q ≡ at q) → new place ≡ value index
    → map at (take k places) ≡ map value (take k indexes) → map new (take (suc k) places) ≡ map value (take (suc k) indexes)
front_more pool at new value [] indexes k place index lt long here there different low kept is front = absurd (omega (arith, lt))
front_more pool at new value (p ∷ ps) [] k place index lt long here there different low kept is front = absurd (omega (arith, long))
front_more pool at new value (p ∷ ps) (i ∷ rest) zero place index lt long here there different low kept is front =
    let one : new p ≡ value i = ap new here ∙ is ∙ ap value (sym there) in
    ap (λ (b : List ℕ). b ∷ []) one
front_more pool at new value (p ∷ ps) (i ∷ rest) (suc k) place index lt long here there different low kept is front =
    let out : is_among ps p ≡ false = not-true (is_among ps p) (and_left (not (is_among ps p)) (all_different ps) different) in
    let apart : (place == p) ≡ false = alone place p (one_of ps k place (omega (arith, lt)) here p out) in
    let first : at p ≡ value i = cc in
    let others : map at (take k ps) ≡ map value (take k rest) = cc in
    let head : new p ≡ value i = kept p (ltb-true p pool (and_left (nat_lt p pool) _ low)) apart ∙ first in
    let tail : map new (take (suc k) ps) ≡ map value (take (suc k) rest) =
    front_more pool at new value ps rest k place index (omega (arith, lt)) (omega (arith, long)) here there (and_right (not (is_among ps p)) (all_different ps) different) (and_right (nat_lt p pool) _ low) kept is others in
    ap (λ (b : List ℕ). b ∷ map new (take (suc k) ps)) head ∙ ap (λ (bs : List (List ℕ)). value i ∷ bs) tail

-- The places of the first chunks of a change have their bytes, by the content from before the change.
abbrev pub Fronts : Durable Entry → List ℕ → List ℕ → (Durable ChunkValue → ℕ → List ℕ) → Option (List ℕ) → Option (List ℕ) → ℕ → Type 0
Fronts d places indexes value t0 t1 k = (c c' : List ℕ) → t0 ≡ Some c → t1 ≡ Some c'
    → map (bytes_at_place d.geometry c') (take k places) ≡ map (value (filled_tables (bytes_at_place d.geometry c) d)) (take k indexes)

module _ (d : Durable Entry) (well : is_well_formed d ≡ true) (places indexes : List ℕ) (fresh : list_all (is_fresh d) places ≡ true) (different : all_different places ≡ true) (long : length indexes ≡ length places)
    (value : Durable ChunkValue → ℕ → List ℕ) where
  pub fronts_none : (t0 t1 : Option (List ℕ)) → Fronts d places indexes value t0 t1 0
  fronts_none t0 t1 c c' e f = refl

  low : list_all (λ q. nat_lt q d.geometry.pool_chunks) places ≡ true
  low = list_all-follows (is_fresh d) (λ q. nat_lt q d.geometry.pool_chunks) (λ q e. and_left (nat_lt q d.geometry.pool_chunks) _ e) places fresh

  told_front : (k place index : ℕ) → k < length places → get_or places k 0 ≡ place → get_or indexes k 0 ≡ index → (c0 c1 c2 : List ℕ)
      → DiffersAt d.geometry places c0 c1 → DiffersAt d.geometry (place ∷ []) c1 c2
      → bytes_at_place d.geometry c2 place ≡ value (filled_tables (bytes_at_place d.geometry c1) d) index
      → map (bytes_at_place d.geometry c1) (take k places) ≡ map (value (filled_tables (bytes_at_place d.geometry c0) d)) (take k indexes)
      → map (bytes_at_place d.geometry c2) (take (k + 1) places) ≡ map (value (filled_tables (bytes_at_place d.geometry c0) d)) (take (k + 1) indexes)
  told_front k place index lt here there c0 c1 c2 first second is front =
      let next : k + 1 ≡ suc k = omega arith in
      let old : bytes_at_place d.geometry c2 place ≡ value (filled_tables (bytes_at_place d.geometry c0) d) index =
      is ∙ ap (λ (f : Durable ChunkValue). value f index) (fresh_filled d well places fresh c0 c1 first) in
      subst (λ m. map (bytes_at_place d.geometry c2) (take m places) ≡ map (value (filled_tables (bytes_at_place d.geometry c0) d)) (take m indexes)) (sym next)
      (front_more d.geometry.pool_chunks (bytes_at_place d.geometry c1) (bytes_at_place d.geometry c2) (value (filled_tables (bytes_at_place d.geometry c0) d)) places indexes k place index lt long here there different low
      (λ q below apart. second.others q below (none_else place q apart)) old front)

  pub fronts_more : (k place index : ℕ) → k < length places → get_or places k 0 ≡ place → get_or indexes k 0 ≡ index → (t0 t1 t2 : Option (List ℕ))
      → ToldAt d.geometry places t0 t1 → ToldAt d.geometry (place ∷ []) t1 t2
      → ((c c' : List ℕ) → t1 ≡ Some c → t2 ≡ Some c' → bytes_at_place d.geometry c' place ≡ value (filled_tables (bytes_at_place d.geometry c) d) index)
      → Fronts d places indexes value t0 t1 k → Fronts d places indexes value t0 t2 (k + 1)
  fronts_more k place index lt here there None t1 t2 first second is front c c' e f = absurd (cc)
  fronts_more k place index lt here there (Some c0) None t2 first second is front c c' e f = absurd first
  fronts_more k place index lt here there (Some c0) (Some c1) None first second is front c c' e f = absurd second
  fronts_more k place index lt here there (Some c0) (Some c1) (Some c2) first second is front c c' e f =
      let before : c0 ≡ c = cc in
      let after : c2 ≡ c' = cc in
      subst (λ x. map (bytes_at_place d.geometry c') (take (k + 1) places) ≡ map (value (filled_tables (bytes_at_place d.geometry x) d)) (take (k + 1) indexes)) before
      (subst (λ x. map (bytes_at_place d.geometry x) (take (k + 1) places) ≡ map (value (filled_tables (bytes_at_place d.geometry c0) d)) (take (k + 1) indexes)) after
      (told_front k place index lt here there c0 c1 c2 first second (is c1 c2 refl refl) (front c0 c1 refl refl)))
