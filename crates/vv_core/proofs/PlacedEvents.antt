-- For the events that are planned: an accepted change is planned by its event at the lowest fresh places.
use Rattle.std.proofs.Common.{ℕ, suc, ◌≡◌, ◌≤◌, ◌<◌, ◌^◌, ◌==◌, true, false, List, [], ◌∷◌, length, map, take, refl, sym, ap, ◌∙◌, arith, length-take}
use Rattle.std.specs.Prelude.{None, nat_lt, slice_index}
use Rattle.std.specs.List.{list_all}
use Rattle.std.proofs.lemmas.List.{length-map}
use Rattle.std.proofs.lemmas.List.Folds.{list_all-map}
use Rattle.std.proofs.lemmas.Bool.{eq-eqb, lt-ltb, ltb-true, le-leb}
use Rattle.vv_units.specs.declared.numbers.VolumeId.{VolumeId}
use Rattle.vv_units.specs.declared.numbers.TaskId.{TaskId}
use Rattle.vv_units.specs.declared.numbers.Place.{Place}
use Rattle.vv_flat.specs.Lists.{numbers_eq}
use Rattle.vv_flat.specs.State.{Durable}
use Rattle.vv_flat.specs.Chunks.{Entry, shape_of_tables, touched_indexes}
use Rattle.vv_flat.specs.Refusals.{Accept}
use Rattle.vv_flat.specs.Changes.{Change, MakeContainer, MakeVolume, DeleteVolume, GrowVolume, SetMetadata, Snapshot, FastClone, Revert, Write, Unmap, SetEndpoints, Bind, Unbind, UnbindAll, StartClone, StartCopy, Turn, Cancel, judge, changed_indexes}
use Rattle.vv_flat.specs.Fields.{change_has_forms}
use Rattle.vv_flat.specs.Replay.{is_fresh, fits}
use Rattle.vv_flat.specs.Logs.{has_turn_indexes, record_fits}
use Rattle.vv_flat.specs.Plans.{fresh_places, planned_places}
use Rattle.vv_flat.specs.WellFormed.{is_well_formed}
use Rattle.vv_flat.proofs.Shares.{and_left, and_right, and_both, list_all-follows}
use Rattle.vv_laws.proofs.Planning.{enough_fresh, planned_fits}
use Rattle.vv_laws.proofs.KeptNumbers.{write_touches}
use Rattle.vv_record.specs.declared.record.ChunkCopy.{ChunkCopy}
use Rattle.vv_record.specs.declared.record.Event.{Event}
use Rattle.vv_record.specs.declared.record.Event.TheVariants as event
use Rattle.vv_record.specs.Spelling.{is_place, is_copy, is_spellable}
use Rattle.vv_event.specs.Events.{change_of, places_of, indexes_of, log_record}
use Rattle.vv_core.specs.Placed.{IsPlacedEvent}

numbers_same : (xs : List ℕ) → numbers_eq xs xs ≡ true
numbers_same [] = refl
numbers_same (x ∷ xs) = and_both (x == x) _ (eq-eqb x x refl) (numbers_same xs)

-- A change with the lowest fresh places.
module _ (d : Durable Entry) (change : Change) (well : is_well_formed d ≡ true) (accepted : judge None (shape_of_tables d) change ≡ Accept) where
  -- one for each chunk that gets a new value
  planned_count : length (planned_places d change) ≡ length (changed_indexes (λ (e : Entry). e.stamp) d change)
  unfolding planned_places
  planned_count =
      let asked : ℕ = length (changed_indexes (λ (e : Entry). e.stamp) d change) in
      let enough : asked ≤ length (fresh_places d) = enough_fresh d None change well accepted in
      length-take asked (fresh_places d) ∙ omega (arith, enough)

  places_fit : (places : List ℕ) → places ≡ planned_places d change → fits d change places ≡ true
  places_fit places is = ap (fits d change) is ∙ planned_fits d None change well accepted

  planned_fresh : list_all (is_fresh d) (planned_places d change) ≡ true
  unfolding fits
  planned_fresh = and_right _ _ (planned_fits d None change well accepted)

  record_of : (e : Event) → change_of e ≡ change → places_of e ≡ planned_places d change → has_turn_indexes d change (indexes_of e) ≡ true
      → record_fits d (log_record (record { first_after_open = false; event = e })) ≡ true
  unfolding record_fits
  record_of e is places turn =
      and_both (fits d (change_of e) (places_of e)) (has_turn_indexes d (change_of e) (indexes_of e))
      (ap (λ (c : Change). fits d c (places_of e)) is ∙ places_fit (places_of e) places)
      (ap (λ (c : Change). has_turn_indexes d c (indexes_of e)) is ∙ turn)

-- the numbers of places that are fresh have four bytes
fresh_spelled : (d : Durable Entry) (p : ℕ) → is_fresh d p ≡ true → nat_lt p (256 ^ 4) ≡ true
fresh_spelled d p e =
    let within : p < d.geometry.pool_chunks = ltb-true p d.geometry.pool_chunks (and_left (nat_lt p d.geometry.pool_chunks) _ e) in
    let few : d.geometry.pool_chunks ≤ 262144 = d.geometry.few_chunks in
    lt-ltb p (256 ^ 4) (omega (arith, within, few))

places_spelled : (d : Durable Entry) (places : List Place) → list_all (is_fresh d) (map (λ (p : Place). p.0) places) ≡ true
    → list_all is_place places ≡ true
places_spelled d places e =
    list_all-follows (λ (p : Place). is_fresh d p.0) is_place (λ p f. fresh_spelled d p.0 f) places
    (sym (list_all-map (is_fresh d) (λ (p : Place). p.0) places) ∙ e)

-- A write.
pub write_placed : (d : Durable Entry) (volume : VolumeId) (first blocks count : ℕ) (places : List Place) → is_well_formed d ≡ true
    → judge None (shape_of_tables d) (Write volume.0 first blocks) ≡ Accept → volume.0 < 2 ^ 64 → first < 2 ^ 64 → 1 ≤ blocks → blocks ≤ 2048
    → count ≡ length (touched_indexes d.geometry.chunk_blocks first blocks) → map (λ (p : Place). p.0) places ≡ take count (fresh_places d)
    → IsPlacedEvent d (Write volume.0 first blocks) (event.Write volume first blocks places)
unfolding change_of places_of indexes_of change_has_forms planned_places changed_indexes
write_placed d volume first blocks count places well accepted numbered placed some few counted taken =
    let change : Change = Write volume.0 first blocks in
    let lowest : map (λ (p : Place). p.0) places ≡ planned_places d change = taken ∙ ap (λ n. take n (fresh_places d)) counted in
    let long : length places ≡ length (touched_indexes d.geometry.chunk_blocks first blocks) =
    sym (length-map places (λ (p : Place). p.0)) ∙ ap length lowest ∙ planned_count d change well accepted in
    let touched = write_touches d.geometry.chunk_blocks first blocks d.geometry.chunk_size some few in
    let fresh : list_all (is_fresh d) (map (λ (p : Place). p.0) places) ≡ true = ap (list_all (is_fresh d)) lowest ∙ planned_fresh d change well accepted in
    record {
      change_is = refl;
      places = lowest;
      fits = record_of d change well accepted (event.Write volume first blocks places) refl lowest refl;
      forms = refl;
      spellable =
          and_both _ _
          (and_both _ _
          (and_both _ _ (lt-ltb volume.0 (256 ^ 8) numbered) (lt-ltb first (256 ^ 8) placed))
          (and_both _ _ (le-leb 1 blocks some) (le-leb blocks 2048 few)))
          (and_both _ _
          (and_both _ _ (le-leb 1 (length places) (omega (arith, long, touched.0))) (le-leb (length places) 257 (omega (arith, long, touched.1))))
          (places_spelled d places fresh));
    }

-- numbers that stand in a vector of numbers with 32 bits
all_spelled : (xs : List ℕ) → ((k : ℕ) → slice_index xs k < 2 ^ 32) → list_all (λ n. nat_lt n (256 ^ 4)) xs ≡ true
all_spelled [] e = refl
all_spelled (x ∷ xs) e = and_both (nat_lt x (256 ^ 4)) _ (lt-ltb x (256 ^ 4) (e 0)) (all_spelled xs (λ k. e (suc k)))

copies_spelled : (copies : List ChunkCopy) → list_all (λ n. nat_lt n (256 ^ 4)) (map (λ (c : ChunkCopy). c.index) copies) ≡ true
    → list_all (λ n. nat_lt n (256 ^ 4)) (map (λ (c : ChunkCopy). c.place.0) copies) ≡ true → list_all is_copy copies ≡ true
copies_spelled [] e f = refl
copies_spelled (c ∷ cs) e f =
    and_both (is_copy c) _
    (and_both (nat_lt c.index (256 ^ 4)) (nat_lt c.place.0 (256 ^ 4)) (and_left (nat_lt c.index (256 ^ 4)) _ e) (and_left (nat_lt c.place.0 (256 ^ 4)) _ f))
    (copies_spelled cs (and_right (nat_lt c.index (256 ^ 4)) _ e) (and_right (nat_lt c.place.0 (256 ^ 4)) _ f))

-- A turn.
pub turn_placed : (d : Durable Entry) (task : TaskId) (indexes : List ℕ) (places : List Place) (copies : List ChunkCopy) → is_well_formed d ≡ true
    → judge None (shape_of_tables d) (Turn task.0) ≡ Accept → task.0 < 2 ^ 64 → indexes ≡ changed_indexes (λ (e : Entry). e.stamp) d (Turn task.0)
    → length indexes ≤ 16 → ((k : ℕ) → slice_index indexes k < 2 ^ 32) → map (λ (p : Place). p.0) places ≡ take (length indexes) (fresh_places d)
    → map (λ (c : ChunkCopy). c.index) copies ≡ indexes
    → map (λ (c : ChunkCopy). c.place.0) copies ≡ map (λ (p : Place). p.0) places
    → IsPlacedEvent d (Turn task.0) (event.Turn task copies)
unfolding change_of places_of indexes_of change_has_forms planned_places
turn_placed d task indexes places copies well accepted numbered turned few wide taken told at =
    let change : Change = Turn task.0 in
    let lowest : map (λ (c : ChunkCopy). c.place.0) copies ≡ planned_places d change =
    at ∙ taken ∙ ap (λ (xs : List ℕ). take (length xs) (fresh_places d)) turned in
    let long : length copies ≡ length indexes = sym (length-map copies (λ (c : ChunkCopy). c.index)) ∙ ap length told in
    let own : has_turn_indexes d change (map (λ (c : ChunkCopy). c.index) copies) ≡ true =
    ap (λ (xs : List ℕ). numbers_eq xs (changed_indexes (λ (e : Entry). e.stamp) d change)) (told ∙ turned)
    ∙ numbers_same (changed_indexes (λ (e : Entry). e.stamp) d change) in
    let fresh : list_all (is_fresh d) (map (λ (c : ChunkCopy). c.place.0) copies) ≡ true = ap (list_all (is_fresh d)) lowest ∙ planned_fresh d change well accepted in
    let spelled : list_all is_copy copies ≡ true =
    copies_spelled copies (ap (list_all (λ n. nat_lt n (256 ^ 4))) told ∙ all_spelled indexes wide)
    (list_all-follows (is_fresh d) (λ n. nat_lt n (256 ^ 4)) (λ p f. fresh_spelled d p f) (map (λ (c : ChunkCopy). c.place.0) copies) fresh) in
    record {
      change_is = refl;
      places = lowest;
      fits = record_of d change well accepted (event.Turn task copies) refl lowest own;
      forms = refl;
      spellable =
          and_both _ _ (lt-ltb task.0 (256 ^ 8) numbered)
          (and_both _ _
          (and_both _ _ (le-leb 0 (length copies) (omega arith)) (le-leb (length copies) 16 (omega (arith, long, few))))
          spelled);
    }

-- there are as many places as a turn has indexes
pub turn_count : (d : Durable Entry) (task : ℕ) (indexes : List ℕ) (places : List Place) → is_well_formed d ≡ true
    → judge None (shape_of_tables d) (Turn task) ≡ Accept → indexes ≡ changed_indexes (λ (e : Entry). e.stamp) d (Turn task)
    → map (λ (p : Place). p.0) places ≡ take (length indexes) (fresh_places d) → length indexes ≡ length places
unfolding planned_places
turn_count d task indexes places well accepted turned taken =
    let lowest : map (λ (p : Place). p.0) places ≡ planned_places d (Turn task) =
    taken ∙ ap (λ (xs : List ℕ). take (length xs) (fresh_places d)) turned in
    ap length turned ∙ sym (planned_count d (Turn task) well accepted) ∙ sym (ap length lowest) ∙ length-map places (λ (p : Place). p.0)

-- An event without places. Where its change is a turn, that copies nothing.

no_turn_indexes : (d : Durable Entry) (change : Change) → changed_indexes (λ (e : Entry). e.stamp) d change ≡ [] → has_turn_indexes d change [] ≡ true
no_turn_indexes d (MakeContainer quota offers) none = refl
no_turn_indexes d (MakeVolume k vtype chunks needs) none = refl
no_turn_indexes d (DeleteVolume n) none = refl
no_turn_indexes d (GrowVolume n chunks) none = refl
no_turn_indexes d (SetMetadata n key text) none = refl
no_turn_indexes d (Snapshot n) none = refl
no_turn_indexes d (FastClone n) none = refl
no_turn_indexes d (Revert n snapshot) none = refl
no_turn_indexes d (Write n first blocks) none = refl
no_turn_indexes d (Unmap n ranges) none = refl
no_turn_indexes d (SetEndpoints host endpoints) none = refl
no_turn_indexes d (Bind host n) none = refl
no_turn_indexes d (Unbind host endpoint secondary) none = refl
no_turn_indexes d (UnbindAll host) none = refl
no_turn_indexes d (StartClone n) none = refl
no_turn_indexes d (StartCopy source base target) none = refl
no_turn_indexes d (Turn n) none = ap (numbers_eq []) none
no_turn_indexes d (Cancel n) none = refl

pub plain_placed : (d : Durable Entry) (e : Event) → is_well_formed d ≡ true → judge None (shape_of_tables d) (change_of e) ≡ Accept
    → changed_indexes (λ (x : Entry). x.stamp) d (change_of e) ≡ [] → places_of e ≡ [] → indexes_of e ≡ [] → change_has_forms (change_of e) ≡ true
    → is_spellable (record { first_after_open = false; event = e }) ≡ true → IsPlacedEvent d (change_of e) e
unfolding planned_places
plain_placed d e well accepted none places indexes forms spellable =
    let lowest : places_of e ≡ planned_places d (change_of e) = places ∙ sym (ap (λ (xs : List ℕ). take (length xs) (fresh_places d)) none) in
    let own : has_turn_indexes d (change_of e) (indexes_of e) ≡ true =
    ap (has_turn_indexes d (change_of e)) indexes ∙ no_turn_indexes d (change_of e) none in
    record {
      change_is = refl;
      places = lowest;
      fits = record_of d (change_of e) well accepted e refl lowest own;
      forms = forms;
      spellable = spellable;
    }
