-- For whether an event fits: by its answer, and by its places and indexes where it is accepted.
use Rattle.std.proofs.Common.{ℕ, ◌≡◌, ◌+◌, ◌*◌, ◌≤◌, ◌==◌, ◌&&◌, Bool, true, false, List, [], ◌∷◌, map, length, None, refl, sym, ap, ◌∙◌, arith}
use Rattle.std.specs.Prelude.{IfOk, Result, Ok, Err}
use Rattle.std.specs.List.{list_all}
use Rattle.std.proofs.lemmas.Bool.{eq-eqb}
use Rattle.vv_units.specs.declared.numbers.Place.{Place}
use Rattle.vv_units.specs.declared.numbers.TaskId.{TaskId}
use Rattle.vv_units.specs.declared.numbers.VolumeId.{VolumeId}
use Rattle.vv_flat.specs.Lists.{all_different, numbers_eq}
use Rattle.vv_flat.specs.State.{Durable}
use Rattle.vv_flat.specs.Chunks.{Entry, shape_of_tables, touched_first, touched_count}
use Rattle.vv_flat.specs.Refusals.{Verdict, Refuse, Nothing, Accept}
use Rattle.vv_flat.specs.Changes.{Write, Turn, judge, changed_indexes, size_of}
use Rattle.vv_flat.specs.Replay.{fits, is_accepted, is_fresh}
use Rattle.vv_flat.specs.Logs.{record_fits, has_turn_indexes}
use Rattle.vv_flat.specs.WellFormed.{is_well_formed}
use Rattle.vv_flat.proofs.Kept.{kept}
use Rattle.vv_laws.proofs.WellFormed.{shape_rules}
use Rattle.vv_record.specs.declared.record.ChunkCopy.{ChunkCopy}
use Rattle.vv_record.specs.declared.record.Event.{Event}
use Rattle.vv_record.specs.declared.record.Event.TheVariants as event
use Rattle.vv_event.specs.Events.{log_record, change_of, places_of, indexes_of}
use Rattle.vv_judge.proofs.Ranges.{length_numbers}
use Rattle.vv_tables.proofs.AcceptedWrites.{some_blocks, blocks_inside, blocks_few, size_few, touched_are}
use Rattle.vv_core.specs.Replays.{are_so_many, are_its_places, has_its_places}

abbrev stamp : Entry → ℕ
stamp e = e.stamp

-- ---- by the answer

pub accepted_fits : (d : Durable Entry) (e : Event) → is_accepted (judge None (shape_of_tables d) (change_of e)) ≡ true
    → has_its_places d e ≡ record_fits d (log_record (record { first_after_open = false; event = e }))
unfolding record_fits fits has_its_places
accepted_fits d e accepted =
    sym (ap (λ b. (b && (length (places_of e) == length (changed_indexes stamp d (change_of e)))) && all_different (places_of e) && list_all (is_fresh d) (places_of e)
    && has_turn_indexes d (change_of e) (indexes_of e)) accepted)

pub refused_fits : (d : Durable Entry) (e : Event) → is_accepted (judge None (shape_of_tables d) (change_of e)) ≡ false
    → false ≡ record_fits d (log_record (record { first_after_open = false; event = e }))
unfolding record_fits fits
refused_fits d e refused =
    sym (ap (λ b. (b && (length (places_of e) == length (changed_indexes stamp d (change_of e)))) && all_different (places_of e) && list_all (is_fresh d) (places_of e)
    && has_turn_indexes d (change_of e) (indexes_of e)) refused)

accept_is : (v : Verdict) → is_accepted v ≡ true → v ≡ Accept
accept_is (Refuse r) e = absurd (cc)
accept_is Nothing e = absurd (cc)
accept_is Accept e = refl

-- ---- a write

module _ (d : Durable Entry) (n first blocks : ℕ) (accepted : is_accepted (judge None (shape_of_tables d) (Write n first blocks)) ≡ true) where
  verdict_is : judge None (shape_of_tables d) (Write n first blocks) ≡ Accept
  verdict_is = accept_is _ accepted

  pub some_written : 1 ≤ blocks
  some_written = some_blocks (shape_of_tables d) n first blocks verdict_is

  -- its blocks have numbers below 2^31
  pub blocks_below : is_well_formed d ≡ true → first + blocks ≤ 2147483648
  blocks_below well =
      let inside : first + blocks ≤ size_of (shape_of_tables d) n * d.geometry.chunk_blocks = blocks_inside (shape_of_tables d) n first blocks verdict_is in
      let few : size_of (shape_of_tables d) n ≤ 1048576 = size_few (shape_of_tables d) (kept (shape_of_tables d) (shape_rules d well)) n in
      let all : size_of (shape_of_tables d) n * d.geometry.chunk_blocks ≤ 2147483648 = blocks_few d.geometry.chunk_blocks (size_of (shape_of_tables d) n) d.geometry.chunk_size few in
      omega (arith, inside, all)

  pub touched_long : touched_count d.geometry.chunk_blocks first blocks ≡ length (changed_indexes stamp d (Write n first blocks))
  unfolding changed_indexes
  touched_long =
      sym (ap length (touched_are d.geometry.chunk_blocks first blocks some_written)
      ∙ length_numbers (touched_first d.geometry.chunk_blocks first) (touched_count d.geometry.chunk_blocks first blocks))

-- ---- so many places

pub other_count : (d : Durable Entry) (count : ℕ) (places : List ℕ) → (length places == count) ≡ false → false ≡ are_so_many d count places
other_count d count places other = sym (ap (λ b. b && all_different places && list_all (is_fresh d) places) other)

pub same_count : (d : Durable Entry) (count : ℕ) (places : List ℕ) → length places ≡ count
    → are_so_many d count places ≡ (all_different places && list_all (is_fresh d) places)
same_count d count places same = ap (λ b. b && all_different places && list_all (is_fresh d) places) (eq-eqb (length places) count same)

-- ---- a turn

false_and : (b : Bool) → false ≡ (b && false)
false_and true = refl
false_and false = refl

pub and_yes : (b : Bool) → b ≡ (b && true)
and_yes true = refl
and_yes false = refl

module _ (d : Durable Entry) (n : ℕ) (copies : List ChunkCopy) (indexes : List ℕ) (is : indexes ≡ changed_indexes stamp d (Turn n)) where
  pub other_indexes : numbers_eq (map (λ (c : ChunkCopy). c.index) copies) indexes ≡ false
      → false ≡ (are_its_places d (Turn n) (map (λ (c : ChunkCopy). c.place.0) copies) && has_turn_indexes d (Turn n) (map (λ (c : ChunkCopy). c.index) copies))
  other_indexes other =
      false_and (are_its_places d (Turn n) (map (λ (c : ChunkCopy). c.place.0) copies))
      ∙ ap (λ b. are_its_places d (Turn n) (map (λ (c : ChunkCopy). c.place.0) copies) && b)
      (sym (ap (numbers_eq (map (λ (c : ChunkCopy). c.index) copies)) (sym is) ∙ other))

  pub same_indexes : numbers_eq (map (λ (c : ChunkCopy). c.index) copies) indexes ≡ true
      → are_so_many d (length indexes) (map (λ (c : ChunkCopy). c.place.0) copies)
      ≡ (are_its_places d (Turn n) (map (λ (c : ChunkCopy). c.place.0) copies) && has_turn_indexes d (Turn n) (map (λ (c : ChunkCopy). c.index) copies))
  same_indexes same =
      ap (λ (xs : List ℕ). are_so_many d (length xs) (map (λ (c : ChunkCopy). c.place.0) copies)) is
      ∙ and_yes (are_its_places d (Turn n) (map (λ (c : ChunkCopy). c.place.0) copies))
      ∙ ap (λ b. are_its_places d (Turn n) (map (λ (c : ChunkCopy). c.place.0) copies) && b)
      (sym (ap (numbers_eq (map (λ (c : ChunkCopy). c.index) copies)) (sym is) ∙ same))

-- the numbers of the places of copies
pub place_numbers_of : (copies : List ChunkCopy) (places : List Place) → places ≡ map (λ (c : ChunkCopy). c.place) copies
    → map (λ (p : Place). p.0) places ≡ map (λ (c : ChunkCopy). c.place.0) copies
place_numbers_of copies places is = ap (map (λ (p : Place). p.0)) is ∙ go copies
  where
    go : (cs : List ChunkCopy) → map (λ (p : Place). p.0) (map (λ (c : ChunkCopy). c.place) cs) ≡ map (λ (c : ChunkCopy). c.place.0) cs
    go [] = refl
    go (c ∷ cs) = ap (λ ns. c.place.0 ∷ ns) (go cs)

-- what is said by an equation of a value, if there is one
pub told_by : {E : Type 0} (r : Result Bool E) (f g : Bool) → f ≡ g → IfOk r (λ b. b ≡ f) → IfOk r (λ b. b ≡ g)
told_by (Ok b) f g same h = h ∙ same
told_by (Err e) f g same h = h

-- ---- what is told of the parts of a write and of a turn is told of the event

pub write_told : {E : Type 0} (d : Durable Entry) (e : Event) (volume : VolumeId) (first blocks : ℕ) (places given : List Place) (r : Result Bool E)
    → e ≡ event.Write volume first blocks given → places ≡ given → IfOk r (λ b. b ≡ are_its_places d (Write volume.0 first blocks) (map (λ (p : Place). p.0) places))
    → IfOk r (λ b. b ≡ has_its_places d e)
unfolding has_its_places change_of places_of indexes_of
write_told d e volume first blocks places given r is same h =
    rw (is, sym same) (told_by r (are_its_places d (Write volume.0 first blocks) (map (λ (p : Place). p.0) places))
    (are_its_places d (Write volume.0 first blocks) (map (λ (p : Place). p.0) places) && true)
    (and_yes (are_its_places d (Write volume.0 first blocks) (map (λ (p : Place). p.0) places))) h)

pub turn_told : {E : Type 0} (d : Durable Entry) (e : Event) (task : TaskId) (copies given : List ChunkCopy) (r : Result Bool E)
    → e ≡ event.Turn task given → copies ≡ given
    → IfOk r (λ b. b ≡ (are_its_places d (Turn task.0) (map (λ (c : ChunkCopy). c.place.0) copies) && has_turn_indexes d (Turn task.0) (map (λ (c : ChunkCopy). c.index) copies)))
    → IfOk r (λ b. b ≡ has_its_places d e)
unfolding has_its_places change_of places_of indexes_of
turn_told d e task copies given r is same h = rw (is, sym same) h
