-- A well-formed flat array stays so.
use Rattle.std.proofs.Common.{◌≡◌, ◌≤◌, ◌<◌, ℕ, zero, suc, ◌+◌, ◌-◌, ◌*◌, ◌/◌, ◌==◌, ◌&&◌, ◌||◌, not, refl, ap, sym, ◌∙◌, Bool, true, false, cond, List, [], ◌∷◌, map, drop, length, replicate, arith, length-take, length-drop}
use Rattle.std.specs.Prelude.{Option, Some, None, nat_lt, nat_le, slice_get, unwrap_or, option_map}
use Rattle.std.specs.List.{list_all}
use Rattle.std.proofs.lemmas.List.{length-map, length-replicate}
use Rattle.std.proofs.lemmas.List.Folds.{list_all-map}
use Rattle.std.proofs.lemmas.Nat.{div_below}
use Rattle.std.proofs.Math.Nat.{suc-mul, mul_assoc, mul-le-mul_right}
use Rattle.std.proofs.lemmas.Bool.{ltb-true, lt-ltb, ltb-false, eqb-true, eqb-false, eq-eqb, ne_eqb, not-true, or_parts}
use Rattle.vv_units.specs.Sizes.{block_bytes}
use Rattle.vv_units.specs.declared.geometry.Geometry.{Geometry}
use Rattle.vv_flat.specs.Lists.{if_found, mapped_from, numbers_from, indexes_from}
use Rattle.vv_flat.specs.State.{Array, Durable, empty_durable, Volume, RunningClone, RunningCopy, Piece, indexed, all_pieces, volume_of, clone_of, map_durable}
use Rattle.vv_flat.specs.Chunks.{ChunkValue, shape, chunk_bytes, unmapped_value, is_chunk_value, bytes_of, overwritten, chunk_in, touched_first, touched_count, touched_indexes, written_values, copied_values, volume_blocks}
use Rattle.vv_flat.specs.Parts.{are_whole}
use Rattle.vv_flat.specs.Tasks.{turn_indexes, turn_limit, turned_indexes}
use Rattle.vv_flat.specs.Bits.{allocated_indexes}
use Rattle.vv_flat.specs.Profiles.{Capability, Misfit}
use Rattle.vv_flat.specs.Refusals.{Accept, OutOfRange}
use Rattle.vv_flat.specs.Sharing.{stamps_tell_bytes}
use Rattle.vv_flat.specs.Rules.{keeps_shape_rules}
use Rattle.vv_flat.specs.FlatForm.{is_given, stamps_are_given, has_chunk_values, is_well_formed_array}
use Rattle.vv_flat.specs.WellFormed.{is_well_formed_shape}
use Rattle.vv_flat.specs.Fields.{change_has_forms}
use Rattle.vv_flat.specs.Changes.{Change, MakeContainer, MakeVolume, DeleteVolume, GrowVolume, SetMetadata, Snapshot, FastClone, Revert, Write, Unmap, SetEndpoints, Bind, Unbind, UnbindAll, StartClone, StartCopy, Turn, Cancel, judge, state_checks, stamps_of, misfit_in, effect, apply, apply_shape, changed_indexes, new_stamp}
use Rattle.vv_flat.specs.Flat.{has_its_bytes, new_values, flat_after, array_after}
use Rattle.vv_flat.specs.Replay.{is_accepted}
use Rattle.vv_flat.specs.Answers.{answer, next}
use Rattle.vv_flat.specs.Runs.{Asked, is_asked_rightly, after_run}
use Rattle.vv_flat.proofs.Filled.{geometry-effect}
use Rattle.vv_flat.proofs.Verdicts.{passed_state, not_refused}
use Rattle.vv_flat.proofs.Steps.{flat_step}
use Rattle.vv_flat.proofs.NothingChanges.{stamps_found}
use Rattle.vv_flat.proofs.Shares.{and_left, and_right, and_both, list_all-follows, list_all-both}
use Rattle.vv_flat.proofs.NewEntries.{all-always, all-take, all-drop, all-swap}
use Rattle.vv_flat.proofs.Known.{all-found}
use Rattle.vv_flat.proofs.Kept.{Kept, kept}
use Rattle.vv_flat.proofs.KeepRules.{accepted_is}
use Rattle.vv_laws.proofs.KeepForms.{well_formed_stays}
use Rattle.vv_laws.proofs.WellFormed.{well_formed_shape, empty_well}
use Rattle.vv_laws.proofs.Answering.{answer_is}
use Rattle.vv_laws.proofs.OtherContents.{map-durable_same}
use Rattle.vv_laws.proofs.Standing.{AllPass, new_home, stays_right}
use Rattle.vv_laws.proofs.NewStamps.{New, Clones, clones_of, pieces_pass, pass_pieces, turned_case}
use Rattle.vv_laws.proofs.FlatKeeps.{each_at, new, stamps_after, told_after}
use Rattle.vv_laws.proofs.Planning.{numbers_below}
use Rattle.vv_laws.proofs.ChunkBytes.{some_blocks, bytes_long}
use Rattle.vv_laws.proofs.WrittenVolumes.{written_long}

-- a test of the chunks of a list, each with its index
on_chunks : {X : Type 0} (f : X → Bool) (i : ℕ) (xs : List X)
    → list_all (λ (p : Piece X). f p.chunk) (mapped_from (λ i x. record { index = i; chunk = x }) i xs) ≡ list_all f xs
on_chunks f i [] = refl
on_chunks f i (x ∷ xs) = ap (λ b. f x && b) (on_chunks f (i + 1) xs)

pub all_alike : {A : Type 0} (p q : A → Bool) → ((x : A) → p x ≡ q x) → (xs : List A) → list_all p xs ≡ list_all q xs
all_alike p q h [] = refl
all_alike p q h (x ∷ xs) = ap (λ b. b && list_all p xs) (h x) ∙ ap (λ b. q x && b) (all_alike p q h xs)

module _ {X : Type 0} (stamp_of : X → ℕ) (lsn : ℕ) (clones : List (RunningClone X)) (d : Durable X) where
  abbrev given : Option ℕ → X → Bool
  given o x = is_given lsn clones o (stamp_of x)

  -- whether all stamps of d were given by this log number and for these clones
  abbrev all_given : Bool
  all_given =
      list_all (λ (v : Volume X). list_all (given None) v.chunks) d.volumes
      && list_all (λ (c : RunningClone X). list_all (given None) c.image && list_all (given (Some c.number)) c.target) d.clones
      && list_all (λ (c : RunningCopy X). list_all (λ (p : Piece X). given None p.chunk) c.pieces) d.copies

  given_pass : all_given ≡ true → AllPass X (λ o p. given o p.chunk) (λ _. true) d
  given_pass e = record {
    volumes = all_alike _ (λ (v : Volume X). list_all (given None) v.chunks) (λ v. on_chunks (given None) 0 v.chunks) d.volumes ∙ and_left _ _ (and_left _ _ e);
    clones = all_alike _ (λ (c : RunningClone X). list_all (given None) c.image && list_all (given (Some c.number)) c.target)
        (λ c. ap (λ b. b && list_all (λ (p : Piece X). given (Some c.number) p.chunk) (indexed c.target)) (on_chunks (given None) 0 c.image)
        ∙ ap (λ b. list_all (given None) c.image && b) (on_chunks (given (Some c.number)) 0 c.target)) d.clones
        ∙ and_right _ _ (and_left _ _ e);
    copies = and_right _ _ e;
    numbers = all-always (λ (c : RunningClone X). true) (λ c. refl) d.clones;
  }

  pub pass_given : AllPass X (λ o p. given o p.chunk) (λ _. true) d → all_given ≡ true
  pass_given k =
      and_both _ _
      (and_both _ _
      (sym (all_alike _ (λ (v : Volume X). list_all (given None) v.chunks) (λ v. on_chunks (given None) 0 v.chunks) d.volumes) ∙ k.volumes)
      (sym (all_alike _ (λ (c : RunningClone X). list_all (given None) c.image && list_all (given (Some c.number)) c.target)
      (λ c. ap (λ b. b && list_all (λ (p : Piece X). given (Some c.number) p.chunk) (indexed c.target)) (on_chunks (given None) 0 c.image)
      ∙ ap (λ b. list_all (given None) c.image && b) (on_chunks (given (Some c.number)) 0 c.target)) d.clones) ∙ k.clones))
      k.copies

pub given_kinds : {X : Type 0} (stamp_of : X → ℕ) (d : Durable X) → stamps_are_given stamp_of d ≡ true
    → AllPass X (λ o p. is_given d.lsn d.clones o (stamp_of p.chunk)) (λ _. true) d
unfolding stamps_are_given
given_kinds stamp_of d e = given_pass stamp_of d.lsn d.clones d e

-- What holds of all values of a list of stamped ones.
all_mapped : {A B : Type 0} (h : B → Bool) (f : A → B) (g : A → Bool) → ((x : A) → g x ≡ true → h (f x) ≡ true) → (xs : List A)
    → list_all g xs ≡ true → list_all h (map f xs) ≡ true
all_mapped h f g e xs a = list_all-map h f xs ∙ list_all-follows g (λ x. h (f x)) e xs a

stamp_is : (n : ℕ) → (n == n) ≡ true
stamp_is n = eq-eqb n n refl

-- the new values have the change's stamp
pub values_stamped : (d : Durable ChunkValue) (change : Change) (bytes : List ℕ)
    → list_all (λ (v : ChunkValue). v.stamp == new_stamp d change) (new_values d change bytes) ≡ true
unfolding new_values written_values copied_values
values_stamped d (MakeContainer quota offers) bytes = refl
values_stamped d (MakeVolume k vtype chunks needs) bytes = refl
values_stamped d (DeleteVolume n) bytes = refl
values_stamped d (GrowVolume n chunks) bytes = refl
values_stamped d (SetMetadata n key text) bytes = refl
values_stamped d (Snapshot n) bytes = refl
values_stamped d (FastClone n) bytes = refl
values_stamped d (Revert n snapshot) bytes = refl
values_stamped d (Write n first blocks) bytes = go (volume_of d n)
  where
    go : (o : Option (Volume ChunkValue))
        → list_all (λ (v : ChunkValue). v.stamp == d.lsn + 1) (if_found o (λ (v : Volume ChunkValue). written_values d.geometry.chunk_blocks v.chunks first bytes (d.lsn + 1)) []) ≡ true
    go None = refl
    go (Some v) =
        all_mapped (λ (v : ChunkValue). v.stamp == d.lsn + 1) _ (λ _. true) (λ i e. stamp_is (d.lsn + 1))
        (touched_indexes d.geometry.chunk_blocks first (length bytes / block_bytes))
        (all-always (λ (i : ℕ). true) (λ i. refl) (touched_indexes d.geometry.chunk_blocks first (length bytes / block_bytes)))
values_stamped d (Unmap n ranges) bytes = refl
values_stamped d (SetEndpoints host endpoints) bytes = refl
values_stamped d (Bind host n) bytes = refl
values_stamped d (Unbind host endpoint secondary) bytes = refl
values_stamped d (UnbindAll host) bytes = refl
values_stamped d (StartClone n) bytes = refl
values_stamped d (StartCopy source base target) bytes = refl
values_stamped d (Turn n) bytes = go (clone_of d n)
  where
    go : (o : Option (RunningClone ChunkValue))
        → list_all (λ (v : ChunkValue). v.stamp == n) (if_found o (λ (c : RunningClone ChunkValue). copied_values c.image (changed_indexes (λ x. x.stamp) d (Turn n)) n) []) ≡ true
    go None = refl
    go (Some c) =
        all_mapped (λ (v : ChunkValue). v.stamp == n) _ (λ _. true) (λ i e. stamp_is n) (changed_indexes (λ x. x.stamp) d (Turn n))
        (all-always (λ (i : ℕ). true) (λ i. refl) (changed_indexes (λ x. x.stamp) d (Turn n)))
values_stamped d (Cancel n) bytes = refl

-- The new values have their bytes.

pub full_value : (B s : ℕ) (bytes : List ℕ) → length bytes ≡ chunk_bytes B → (s == 0) ≡ false → is_chunk_value B (record { stamp = s; bytes = bytes }) ≡ true
full_value B s bytes long some =
    and_both (length bytes == chunk_bytes B) _ (eq-eqb (length bytes) (chunk_bytes B) long) (ap (λ b. not b || list_all (λ b. b == 0) bytes) some)

touched_inside : (B size first blocks : ℕ) → 0 < B → first + blocks ≤ size * B → list_all (λ i. nat_lt i size) (touched_indexes B first blocks) ≡ true
touched_inside B size first blocks some le = go (blocks == 0) refl
  where
    go : (b : Bool) → (blocks == 0) ≡ b → list_all (λ i. nat_lt i size) (cond b [] (numbers_from (touched_first B first) (touched_count B first blocks))) ≡ true
    go true is = refl
    go false is =
        let apart : blocks ≡ 0 → ⊥ = eqb-false blocks 0 is in
        let last : (first + blocks - 1) / B < size = div_below (first + blocks - 1) B size some (omega (arith, apart, le)) in
        let from : first / B < size = div_below first B size some (omega (arith, apart, le)) in
        numbers_below (first / B) ((first + blocks - 1) / B + 1 - first / B) size (omega (arith, last, from))

part_long : (B size i : ℕ) (bytes : List ℕ) → length bytes ≡ size * (B * 512) → nat_lt i size ≡ true → length (chunk_in B bytes i) ≡ B * 512
part_long B size i bytes long lt =
    let below : i < size = ltb-true i size lt in
    let next : suc i ≤ size = omega arith in
    let reaches : suc i * (B * 512) ≤ size * (B * 512) = mul-le-mul_right (B * 512) next in
    let more : suc i * (B * 512) ≡ i * (B * 512) + B * 512 = suc-mul i (B * 512) in
    let dropped : length (drop (i * (B * 512)) bytes) ≡ length bytes - i * (B * 512) = length-drop (i * (B * 512)) bytes in
    length-take (B * 512) (drop (i * (B * 512)) bytes) ∙ omega (arith, long, reaches, more, dropped)

whole_of : (B : ℕ) (chunks : List ChunkValue) → list_all (is_chunk_value B) chunks ≡ true → are_whole B chunks ≡ true
whole_of B chunks e =
    list_all-follows (is_chunk_value B) (λ (x : ChunkValue). length x.bytes == chunk_bytes B) (λ x f. and_left (length x.bytes == chunk_bytes B) _ f) chunks e

-- the chunks of each list have their values
value_kinds : (d : Durable ChunkValue) → has_chunk_values d ≡ true → AllPass ChunkValue (λ o p. is_chunk_value d.geometry.chunk_blocks p.chunk) (λ _. true) d
unfolding has_chunk_values
value_kinds d e = pass_pieces (λ (p : Piece ChunkValue). is_chunk_value d.geometry.chunk_blocks p.chunk) d e

pub volume_values : (d : Durable ChunkValue) (n : ℕ) (v : Volume ChunkValue) → has_chunk_values d ≡ true → volume_of d n ≡ Some v
    → list_all (is_chunk_value d.geometry.chunk_blocks) v.chunks ≡ true
volume_values d n v e found =
    sym (on_chunks (is_chunk_value d.geometry.chunk_blocks) 0 v.chunks)
    ∙ all-found (λ (w : Volume ChunkValue). list_all (λ (p : Piece ChunkValue). is_chunk_value d.geometry.chunk_blocks p.chunk) (indexed w.chunks))
    (λ (w : Volume ChunkValue). w.number == n) v d.volumes (value_kinds d e).volumes found

image_values : (d : Durable ChunkValue) (n : ℕ) (c : RunningClone ChunkValue) → has_chunk_values d ≡ true → clone_of d n ≡ Some c
    → list_all (is_chunk_value d.geometry.chunk_blocks) c.image ≡ true
image_values d n c e found =
    sym (on_chunks (is_chunk_value d.geometry.chunk_blocks) 0 c.image)
    ∙ and_left _ _
    (all-found (λ (c : RunningClone ChunkValue). list_all (λ (p : Piece ChunkValue). is_chunk_value d.geometry.chunk_blocks p.chunk) (indexed c.image)
    && list_all (λ (p : Piece ChunkValue). is_chunk_value d.geometry.chunk_blocks p.chunk) (indexed c.target))
    (λ (c : RunningClone ChunkValue). c.number == n) c d.clones (value_kinds d e).clones found)

pub whole_volume : (d : Durable ChunkValue) (n : ℕ) (v : Volume ChunkValue) → has_chunk_values d ≡ true → volume_of d n ≡ Some v
    → are_whole d.geometry.chunk_blocks v.chunks ≡ true
whole_volume d n v e found = whole_of d.geometry.chunk_blocks v.chunks (volume_values d n v e found)

-- an accepted write is inside its volume
pub write_inside : (misfit : Option Misfit) (d : Durable ChunkValue) (n first blocks : ℕ) (v : Volume ChunkValue) → volume_of d n ≡ Some v
    → judge misfit (shape d) (Write n first blocks) ≡ Accept → first + blocks ≤ length v.chunks * d.geometry.chunk_blocks
unfolding state_checks
write_inside misfit d n first blocks v found accepted =
    let size : ℕ = volume_blocks d.geometry.chunk_blocks (stamps_of (shape d) n) in
    let inside : nat_lt size (first + blocks) ≡ false =
    (or_parts (nat_le size first) (nat_lt size (first + blocks)) (not_refused _ OutOfRange (passed_state misfit (shape d) (Write n first blocks) accepted 1))).1 in
    let le : first + blocks ≤ size = ltb-false size (first + blocks) inside in
    let same : length (stamps_of (shape d) n) ≡ length v.chunks =
    ap length (stamps_found (λ (x : ChunkValue). x.stamp) (unmapped_value 0) d n v found) ∙ length-map v.chunks (λ (x : ChunkValue). x.stamp) in
    let sizes : size ≡ length v.chunks * d.geometry.chunk_blocks = ap (λ k. k * d.geometry.chunk_blocks) same in
    omega (arith, le, sizes)

write_values : (misfit : Option Misfit) (d : Durable ChunkValue) (n first blocks : ℕ) (bytes : List ℕ) → has_chunk_values d ≡ true
    → has_its_bytes (Write n first blocks) bytes ≡ true → judge misfit (shape d) (Write n first blocks) ≡ Accept
    → list_all (is_chunk_value d.geometry.chunk_blocks) (new_values d (Write n first blocks) bytes) ≡ true
unfolding new_values written_values
write_values misfit d n first blocks bytes e has accepted = go (volume_of d n) refl
  where
    B : ℕ
    B = d.geometry.chunk_blocks

    go : (o : Option (Volume ChunkValue)) → volume_of d n ≡ o
        → list_all (is_chunk_value d.geometry.chunk_blocks)
        (if_found o (λ (v : Volume ChunkValue). written_values d.geometry.chunk_blocks v.chunks first bytes (d.lsn + 1)) []) ≡ true
    go None found = refl
    go (Some v) found =
        let blocks_of : ℕ = d.geometry.chunk_blocks in
        let some : 0 < blocks_of = some_blocks blocks_of d.geometry.chunk_size in
        let whole = whole_volume d n v e found in
        let inside : first + blocks ≤ length v.chunks * blocks_of = write_inside misfit d n first blocks v found accepted in
        let long : length bytes ≡ blocks * 512 = eqb-true (length bytes) (blocks * 512) has in
        let count : length bytes / 512 ≡ blocks = omega (arith, long) in
        let all : length (bytes_of v.chunks) ≡ length v.chunks * (blocks_of * 512) = bytes_long (blocks_of * 512) v.chunks whole in
        let times : length v.chunks * (blocks_of * 512) ≡ length v.chunks * blocks_of * 512 = sym (mul_assoc (length v.chunks) blocks_of 512) in
        let after_long : length (overwritten (bytes_of v.chunks) (first * 512) bytes) ≡ length (bytes_of v.chunks) =
        written_long (bytes_of v.chunks) bytes (first * 512) (omega (arith, inside, long, all, times)) in
        let after_is : length (overwritten (bytes_of v.chunks) (first * 512) bytes) ≡ length v.chunks * (blocks_of * 512) = after_long ∙ all in
        all_mapped (is_chunk_value blocks_of) (λ i. record { stamp = d.lsn + 1; bytes = chunk_in blocks_of (overwritten (bytes_of v.chunks) (first * 512) bytes) i })
        (λ i. nat_lt i (length v.chunks))
        (λ i lt. full_value blocks_of (d.lsn + 1) (chunk_in blocks_of (overwritten (bytes_of v.chunks) (first * 512) bytes) i)
        (part_long blocks_of (length v.chunks) i (overwritten (bytes_of v.chunks) (first * 512) bytes) after_is lt) (above_zero d.lsn))
        (touched_indexes blocks_of first (length bytes / 512))
        (ap (λ k. list_all (λ i. nat_lt i (length v.chunks)) (touched_indexes blocks_of first k)) count
        ∙ touched_inside blocks_of (length v.chunks) first blocks some inside)
      where
        above_zero : (n : ℕ) → (n + 1 == 0) ≡ false
        above_zero n = ne_eqb (n + 1) 0 (λ f. omega arith)

indexes_below : (test : ℕ → ℕ → Bool) (k : ℕ) (xs : List ℕ) → list_all (λ i. nat_lt i (k + length xs)) (indexes_from test k xs) ≡ true
indexes_below test k [] = refl
indexes_below test k (x ∷ xs) =
    let more : (k + 1) + length xs ≡ k + length (x ∷ xs) = omega arith in
    go (test k x) (ap (λ m. list_all (λ i. nat_lt i m) (indexes_from test (k + 1) xs)) (sym more) ∙ indexes_below test (k + 1) xs)
  where
    go : (b : Bool) → list_all (λ i. nat_lt i (k + length (x ∷ xs))) (indexes_from test (k + 1) xs) ≡ true
        → list_all (λ i. nat_lt i (k + length (x ∷ xs))) (cond b (k ∷ indexes_from test (k + 1) xs) (indexes_from test (k + 1) xs)) ≡ true
    go true e = and_both (nat_lt k (k + length (x ∷ xs))) _ (lt-ltb k (k + length (x ∷ xs)) (omega arith)) e
    go false e = e

turn_below : (stamps : List ℕ) (done : ℕ) → list_all (λ i. nat_lt i (length stamps)) (turn_indexes stamps done) ≡ true
turn_below stamps done =
    let from : 0 + length stamps ≡ length stamps = omega arith in
    all-take (λ i. nat_lt i (length stamps)) turn_limit (drop done (allocated_indexes stamps))
    (all-drop (λ i. nat_lt i (length stamps)) done (allocated_indexes stamps)
    (ap (λ m. list_all (λ i. nat_lt i m) (allocated_indexes stamps)) (sym from) ∙ indexes_below (λ i s. not (s == 0)) 0 stamps))

-- a turn's indexes are inside the image
turn_inside : (d : Durable ChunkValue) (n : ℕ) (c : RunningClone ChunkValue) → clone_of d n ≡ Some c
    → list_all (λ i. nat_lt i (length c.image)) (turned_indexes (λ (x : ChunkValue). x.stamp) d n) ≡ true
turn_inside d n c found =
    turned_case (λ (x : ChunkValue). x.stamp) d n (λ is. list_all (λ i. nat_lt i (length c.image)) is ≡ true) refl
    (λ t b at number also. let same : ◌≡◌ {A = RunningClone ChunkValue} b c = cc in
    let long : length (map (λ (x : ChunkValue). x.stamp) b.image) ≡ length c.image =
    length-map b.image (λ (x : ChunkValue). x.stamp) ∙ ap (λ (b : RunningClone ChunkValue). length b.image) same in
    ap (λ m. list_all (λ i. nat_lt i m) (turn_indexes (map (λ (x : ChunkValue). x.stamp) b.image) t.done)) (sym long)
    ∙ turn_below (map (λ (x : ChunkValue). x.stamp) b.image) t.done)

copied_long : (size i : ℕ) (xs : List ChunkValue) → list_all (λ (x : ChunkValue). length x.bytes == size) xs ≡ true → i < length xs
    → length (unwrap_or (option_map (λ (x : ChunkValue). x.bytes) (slice_get xs i)) []) ≡ size
copied_long size i [] e lt = absurd (omega arith)
copied_long size zero (x ∷ xs) e lt = eqb-true (length x.bytes) size (and_left (length x.bytes == size) _ e)
copied_long size (suc i) (x ∷ xs) e lt = copied_long size i xs (and_right (length x.bytes == size) _ e) (omega arith)

turn_values : (d : Durable ChunkValue) (n : ℕ) (bytes : List ℕ) → has_chunk_values d ≡ true
    → list_all (λ (i : ℕ). not (n == 0) && nat_le n (d.lsn + 1)) (changed_indexes (λ (x : ChunkValue). x.stamp) d (Turn n)) ≡ true
    → list_all (is_chunk_value d.geometry.chunk_blocks) (new_values d (Turn n) bytes) ≡ true
unfolding new_values copied_values changed_indexes
turn_values d n bytes e given = go (clone_of d n) refl
  where
    go : (o : Option (RunningClone ChunkValue)) → clone_of d n ≡ o
        → list_all (is_chunk_value d.geometry.chunk_blocks)
        (if_found o (λ (c : RunningClone ChunkValue). copied_values c.image (turned_indexes (λ (x : ChunkValue). x.stamp) d n) n) []) ≡ true
    go None found = refl
    go (Some c) found =
        all_mapped (is_chunk_value d.geometry.chunk_blocks)
        (λ i. record { stamp = n; bytes = unwrap_or (option_map (λ (x : ChunkValue). x.bytes) (slice_get c.image i)) [] })
        (λ i. (not (n == 0) && nat_le n (d.lsn + 1)) && nat_lt i (length c.image))
        (λ i h. full_value d.geometry.chunk_blocks n (unwrap_or (option_map (λ (x : ChunkValue). x.bytes) (slice_get c.image i)) [])
        (copied_long (chunk_bytes d.geometry.chunk_blocks) i c.image (whole_of d.geometry.chunk_blocks c.image (image_values d n c e found))
        (ltb-true i (length c.image) (and_right (not (n == 0) && nat_le n (d.lsn + 1)) _ h)))
        (not-true (n == 0) (and_left (not (n == 0)) _ (and_left (not (n == 0) && nat_le n (d.lsn + 1)) _ h))))
        (turned_indexes (λ (x : ChunkValue). x.stamp) d n)
        (list_all-both (λ (i : ℕ). not (n == 0) && nat_le n (d.lsn + 1)) (λ i. nat_lt i (length c.image))
        (λ i. (not (n == 0) && nat_le n (d.lsn + 1)) && nat_lt i (length c.image)) (λ i f g. and_both _ _ f g)
        (turned_indexes (λ (x : ChunkValue). x.stamp) d n) given (turn_inside d n c found))

values_good : (misfit : Option Misfit) (d : Durable ChunkValue) (change : Change) (bytes : List ℕ) → has_chunk_values d ≡ true
    → has_its_bytes change bytes ≡ true → judge misfit (shape d) change ≡ Accept
    → list_all (λ (i : ℕ). not (new_stamp d change == 0) && nat_le (new_stamp d change) (d.lsn + 1)) (changed_indexes (λ (x : ChunkValue). x.stamp) d change) ≡ true
    → list_all (is_chunk_value d.geometry.chunk_blocks) (new_values d change bytes) ≡ true
unfolding new_values
values_good misfit d (MakeContainer quota offers) bytes e has accepted given = refl
values_good misfit d (MakeVolume k vtype chunks needs) bytes e has accepted given = refl
values_good misfit d (DeleteVolume n) bytes e has accepted given = refl
values_good misfit d (GrowVolume n chunks) bytes e has accepted given = refl
values_good misfit d (SetMetadata n key text) bytes e has accepted given = refl
values_good misfit d (Snapshot n) bytes e has accepted given = refl
values_good misfit d (FastClone n) bytes e has accepted given = refl
values_good misfit d (Revert n snapshot) bytes e has accepted given = refl
values_good misfit d (Write n first blocks) bytes e has accepted given = write_values misfit d n first blocks bytes e has accepted
values_good misfit d (Unmap n ranges) bytes e has accepted given = refl
values_good misfit d (SetEndpoints host endpoints) bytes e has accepted given = refl
values_good misfit d (Bind host n) bytes e has accepted given = refl
values_good misfit d (Unbind host endpoint secondary) bytes e has accepted given = refl
values_good misfit d (UnbindAll host) bytes e has accepted given = refl
values_good misfit d (StartClone n) bytes e has accepted given = refl
values_good misfit d (StartCopy source base target) bytes e has accepted given = refl
values_good misfit d (Turn n) bytes e has accepted given = turn_values d n bytes e given
values_good misfit d (Cancel n) bytes e has accepted given = refl

zeros : (n : ℕ) → list_all (λ b. b == 0) (replicate n 0) ≡ true
zeros zero = refl
zeros (suc n) = zeros n

pub unmapped_good : (B : ℕ) → is_chunk_value B (unmapped_value B) ≡ true
unmapped_good B =
    and_both _ _ (eq-eqb (length (replicate (chunk_bytes B) 0)) (chunk_bytes B) (length-replicate (chunk_bytes B) 0)) (zeros (chunk_bytes B))

record Parts (d : Durable ChunkValue) : Type 0 where
  shaped : is_well_formed_shape (shape d) ≡ true
  stamps : stamps_are_given (λ (x : ChunkValue). x.stamp) d ≡ true
  told : stamps_tell_bytes d ≡ true
  values : has_chunk_values d ≡ true

parts : (d : Durable ChunkValue) → is_well_formed_array d ≡ true → Parts d
unfolding is_well_formed_array
parts d e = record {
  shaped = and_left _ _ (and_left _ _ (and_left _ _ e));
  stamps = and_right _ _ (and_left _ _ (and_left _ _ e));
  told = and_right _ _ (and_left _ _ e);
  values = and_right _ _ e;
}

pub whole_array : (d : Durable ChunkValue) → is_well_formed_shape (shape d) ≡ true → stamps_are_given (λ (x : ChunkValue). x.stamp) d ≡ true
    → stamps_tell_bytes d ≡ true → has_chunk_values d ≡ true → is_well_formed_array d ≡ true
unfolding is_well_formed_array
whole_array d shaped stamps told values = and_both _ _ (and_both _ _ (and_both _ _ shaped stamps) told) values

pub array_shape : (d : Durable ChunkValue) → is_well_formed_array d ≡ true → is_well_formed_shape (shape d) ≡ true
array_shape d e = (parts d e).shaped

pub array_values : (d : Durable ChunkValue) → is_well_formed_array d ≡ true → has_chunk_values d ≡ true
array_values d e = (parts d e).values

pub array_told : (d : Durable ChunkValue) → is_well_formed_array d ≡ true → stamps_tell_bytes d ≡ true
array_told d e = (parts d e).told

shape_kept : (d : Durable ChunkValue) → is_well_formed_shape (shape d) ≡ true → Kept (shape d)
unfolding is_well_formed_shape
shape_kept d e = kept (shape d) (and_left _ _ e)

module _ (misfit : Option Misfit) (d : Durable ChunkValue) (change : Change) (bytes : List ℕ) (well : Parts d)
    (forms : change_has_forms change ≡ true) (has : has_its_bytes change bytes ≡ true) (accepted : judge misfit (shape d) change ≡ Accept) where
  abbrev u : ChunkValue
  u = unmapped_value d.geometry.chunk_blocks

  abbrev values : List ChunkValue
  values = new_values d change bytes

  abbrev end : Durable ChunkValue
  end = effect (λ x. x.stamp) values u d change

  clones : Clones ChunkValue (λ x. x.stamp) d
  clones =
      let k = shape_kept d well.shaped in
      clones_of (λ (x : ChunkValue). x.stamp) d k.form k.numbers k.clones

  old : AllPass ChunkValue (λ o p. is_given d.lsn d.clones o p.chunk.stamp) (λ _. true) d
  old = given_kinds (λ (x : ChunkValue). x.stamp) d well.stamps

  stamps_stay : stamps_are_given (λ (x : ChunkValue). x.stamp) (flat_after d change bytes) ≡ true
  unfolding stamps_are_given flat_after apply
  stamps_stay =
      pass_given (λ (x : ChunkValue). x.stamp) (d.lsn + 1) end.clones end
      (stamps_after (λ (x : ChunkValue). x.stamp) u refl d clones old values change (values_stamped d change bytes))

  told_stays : stamps_tell_bytes (flat_after d change bytes) ≡ true
  unfolding stamps_tell_bytes flat_after apply
  told_stays = told_after u refl d clones old values change (values_stamped d change bytes) well.told

  values_stay : has_chunk_values (flat_after d change bytes) ≡ true
  unfolding has_chunk_values flat_after apply
  values_stay =
      let test : ℕ → Piece ChunkValue → Bool = λ B p. is_chunk_value B p.chunk in
      let arrived : New ChunkValue (λ x. x.stamp) d end.clones (new_stamp d change) (new_home change) (changed_indexes (λ (x : ChunkValue). x.stamp) d change) =
      new (λ (x : ChunkValue). x.stamp) u refl d clones old values change (values_stamped d change bytes) in
      ap (λ (g : Geometry). list_all (λ (p : Piece ChunkValue). is_chunk_value g.chunk_blocks p.chunk) (all_pieces end))
      (geometry-effect (λ (x : ChunkValue). x.stamp) values u d change)
      ∙ pieces_pass (test d.geometry.chunk_blocks) (λ _. true) end
      (stays_right (λ (x : ChunkValue). x.stamp) u d values change (λ o p. test d.geometry.chunk_blocks p) (λ _. true) (record {
        free = (λ o i. unmapped_good d.geometry.chunk_blocks);
        stands = value_kinds d well.values;
        ends = (λ n gone p h. h);
        next = refl;
        rise = clones.rise;
      })
      (each_at (test d.geometry.chunk_blocks) (λ _. true) (is_chunk_value d.geometry.chunk_blocks) (λ i v e f. f)
      (changed_indexes (λ (x : ChunkValue). x.stamp) d change) values
      (all-always (λ (i : ℕ). true) (λ i. refl) (changed_indexes (λ (x : ChunkValue). x.stamp) d change))
      (values_good misfit d change bytes well.values has accepted arrived.given)))

  shape_stays : is_well_formed_shape (shape (flat_after d change bytes)) ≡ true
  shape_stays =
      ap is_well_formed_shape (flat_step d change bytes has) ∙ well_formed_stays misfit (shape d) change well.shaped forms accepted

-- So an accepted change keeps a flat array well-formed.
pub array_stays : (misfit : Option Misfit) (d : Durable ChunkValue) (change : Change) (bytes : List ℕ) → is_well_formed_array d ≡ true
    → change_has_forms change ≡ true → has_its_bytes change bytes ≡ true → judge misfit (shape d) change ≡ Accept
    → is_well_formed_array (flat_after d change bytes) ≡ true
array_stays misfit d change bytes e forms has accepted =
    let well = parts d e in
    whole_array (flat_after d change bytes) (shape_stays misfit d change bytes well forms has accepted) (stamps_stay misfit d change bytes well forms has accepted)
    (told_stays misfit d change bytes well forms has accepted) (values_stay misfit d change bytes well forms has accepted)

-- The array after a change that is asked for, accepted or not.
pub next_stays : (capabilities : List Capability) (a : Array ChunkValue) (change : Change) (bytes : List ℕ) → is_well_formed_array a.durable ≡ true
    → change_has_forms change ≡ true → has_its_bytes change bytes ≡ true → is_well_formed_array (next capabilities a change bytes).durable ≡ true
unfolding next
next_stays capabilities a change bytes e forms has = go (is_accepted (answer capabilities a change)) refl
  where
    go : (b : Bool) → is_accepted (answer capabilities a change) ≡ b → is_well_formed_array (cond b (array_after a change bytes) a).durable ≡ true
    go false is = e
    go true is =
        array_stays (misfit_in capabilities a.durable change) a.durable change bytes e forms has
        (sym (answer_is capabilities a change) ∙ accepted_is (answer capabilities a change) is)

-- And so does a run.
pub run_stays : (capabilities : List Capability) (a : Array ChunkValue) (run : List Asked) → is_well_formed_array a.durable ≡ true
    → list_all is_asked_rightly run ≡ true → is_well_formed_array (after_run capabilities a run).durable ≡ true
unfolding after_run
run_stays capabilities a [] e rightly = e
run_stays capabilities a (asked ∷ rest) e rightly =
    run_stays capabilities (next capabilities a asked.change asked.bytes) rest
    (next_stays capabilities a asked.change asked.bytes e (and_left (change_has_forms asked.change) _ (and_left (is_asked_rightly asked) _ rightly))
    (and_right (change_has_forms asked.change) _ (and_left (is_asked_rightly asked) _ rightly)))
    (and_right (is_asked_rightly asked) _ rightly)

-- The empty array is well-formed.
pub empty_array_well : (geometry : Geometry) → is_well_formed_array (empty_durable {X = ChunkValue} geometry) ≡ true
unfolding stamps_are_given stamps_tell_bytes has_chunk_values
empty_array_well geometry =
    whole_array (empty_durable geometry) (well_formed_shape (empty_durable geometry) (empty_well geometry)) refl refl refl

-- A new stamp stands nowhere yet at its index.
pub new_stamp_new : (d : Durable ChunkValue) (change : Change) → is_well_formed_array d ≡ true
    → list_all (λ i. list_all (λ (p : Piece ChunkValue). not ((p.index == i) && (p.chunk.stamp == new_stamp d change))) (all_pieces d))
    (changed_indexes (λ (x : ChunkValue). x.stamp) d change) ≡ true
new_stamp_new d change e =
    let well = parts d e in
    let k = shape_kept d well.shaped in
    all-swap (λ (p : Piece ChunkValue) i. not ((p.index == i) && (p.chunk.stamp == new_stamp d change))) (all_pieces d)
    (changed_indexes (λ (x : ChunkValue). x.stamp) d change)
    (new (λ (x : ChunkValue). x.stamp) (unmapped_value d.geometry.chunk_blocks) refl d
    (clones_of (λ (x : ChunkValue). x.stamp) d k.form k.numbers k.clones) (given_kinds (λ (x : ChunkValue). x.stamp) d well.stamps) [] change refl).misses_old

-- Stamps of a shape that were given are so after each change.
pub shape_stamps_stay : (d : Durable ℕ) (change : Change) → is_well_formed_shape d ≡ true → stamps_are_given (λ s. s) d ≡ true
    → stamps_are_given (λ s. s) (apply_shape d change) ≡ true
unfolding is_well_formed_shape stamps_are_given apply_shape apply
shape_stamps_stay d change e stamps =
    let same : map_durable (λ s. s) d ≡ d = map-durable_same d in
    let k : Kept (map_durable (λ s. s) d) = kept (map_durable (λ s. s) d) (ap keeps_shape_rules same ∙ and_left _ _ e) in
    let is : List ℕ = changed_indexes (λ s. s) d change in
    let values : List ℕ = map (λ _. new_stamp d change) is in
    pass_given (λ s. s) (d.lsn + 1) (effect (λ s. s) values 0 d change).clones (effect (λ s. s) values 0 d change)
    (stamps_after (λ s. s) 0 refl d (clones_of (λ s. s) d k.form k.numbers k.clones) (given_kinds (λ s. s) d stamps) values change
    (all_mapped (λ v. v == new_stamp d change) (λ _. new_stamp d change) (λ _. true) (λ i f. stamp_is (new_stamp d change)) is
    (all-always (λ (i : ℕ). true) (λ i. refl) is)))
