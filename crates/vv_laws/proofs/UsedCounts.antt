-- How many places of the pool are used after a record that fits: one more for each new place, and one less for each place
-- that only entries name which are gone.
use Rattle.std.proofs.Common.{◌≡◌, ℕ, ◌+◌, ◌-◌, ◌==◌, ◌&&◌, ◌||◌, not, refl, ap, sym, ◌∙◌, Bool, true, false, cond, List, [], ◌∷◌, ◌++◌, map, length, replicate, drop, arith}
use Rattle.std.proofs.lemmas.List.{length-map}
use Rattle.std.specs.Prelude.{Option, Some, None, is_none, nat_lt, count_by}
use Rattle.std.specs.List.{filter, list_all, list_any}
use Rattle.std.proofs.lemmas.List.Folds.{list_all-append}
use Rattle.std.proofs.lemmas.Bool.{eqb-true}
use Rattle.vv_units.specs.Pairs.{after_set}
use Rattle.vv_units.specs.declared.geometry.Geometry.{Geometry}
use Rattle.vv_units.specs.declared.volume.VolumeKind.TheVariants.{Plain, SnapshotOf, FastCloneOf}
use Rattle.vv_units.specs.declared.field.Field.TheVariants.{Vvol as in_vvol}
use Rattle.vv_flat.specs.Lists.{if_found, put_at, numbers_from, all_different, all_rising}
use Rattle.vv_flat.specs.State.{Durable, Volume, RunningClone, RunningCopy, Piece, Task, Job, Clone, Copy, volume_of, task_of, clone_of, copy_of, indexed, all_pieces, map_clone, map_copy, map_piece}
use Rattle.vv_flat.specs.Chunks.{Entry, unmapped_entry, shape_of_tables, placed_entries, touched_indexes, is_in_ranges, unmapped_in}
use Rattle.vv_flat.specs.Space.{used, is_running, job_target}
use Rattle.vv_flat.specs.Bits.{allocated_indexes}
use Rattle.vv_flat.specs.Sharing.{shares, names_place, place_count}
use Rattle.vv_flat.specs.NamedPlaces.{is_named, named_count}
use Rattle.vv_flat.specs.Tasks.{is_last, next_piece, turn_indexes, turned_indexes, job_indexes, cloned_volume, clone_goes_on, clone_ends, clone_turned, pieces_put, copy_goes_on, copy_ends, copy_turned, job_turned, turned, cancelled, clone_of_volume, clone_started, with_clone, difference, copy_started, with_copy}
use Rattle.vv_flat.specs.Rules.{is_clone_kept}
use Rattle.vv_flat.specs.Refusals.{Accept, NotFound}
use Rattle.vv_flat.specs.Changes.{Change, MakeContainer, MakeVolume, DeleteVolume, GrowVolume, SetMetadata, Snapshot, FastClone, Revert, Write, Unmap, SetEndpoints, Bind, Unbind, UnbindAll, StartClone, StartCopy, Turn, Cancel, judge, state_checks, effect, apply, changed_indexes, new_stamp, with_volume, and_volume}
use Rattle.vv_flat.specs.Replay.{fits, replayed, is_fresh}
use Rattle.vv_flat.specs.WellFormed.{is_well_formed}
use Rattle.vv_flat.proofs.MapLists.{map-after}
use Rattle.vv_flat.proofs.MapDurable.{map-volume_of, map-copy_of}
use Rattle.vv_flat.proofs.Filled.{geometry-effect}
use Rattle.vv_flat.proofs.NothingChanges.{stamps_found}
use Rattle.vv_flat.proofs.Shares.{and_left, and_right, and_both, list_all-follows}
use Rattle.vv_flat.proofs.Verdicts.{passed_state, not_refused}
use Rattle.vv_flat.proofs.Steps.{find-passes}
use Rattle.vv_flat.proofs.Known.{all-found, all-filter}
use Rattle.vv_flat.proofs.Kept.{Kept, kept}
use Rattle.vv_flat.proofs.KeepTasks.{none_any, any_none}
use Rattle.vv_flat.proofs.KeepRules.{fits_accepted}
use Rattle.vv_flat.proofs.KeepSharing.{sharing_stays}
use Rattle.vv_flat.proofs.NamedPlaces.{named-counted, used_places}
use Rattle.vv_flat.proofs.NewEntries.{all-take, all-drop, rising-take, rising-drop, touched_rise, indexes_rise}
use Rattle.vv_laws.proofs.WellFormed.{well_formed_sharing, shape_rules}
use Rattle.vv_laws.proofs.Standing.{pieces_at, stays_right}
use Rattle.vv_laws.proofs.NewStamps.{Clones, clones_of, piece_kinds, pieces_pass, pass_pieces}
use Rattle.vv_laws.proofs.AllocatedVolumes.{kept_long, write_within, indexes_inside, copy_kept, target_kept}
use Rattle.vv_laws.proofs.ListedPieces.{covered, from_put, from_removed, from_changed, at_changed, front, put_or, values_stay, unmapped_or, count_moves, news_named, places_counted}
use Rattle.vv_laws.specs.GoneEntries.{listed, those_at, gone_of_clone, gone_of_copy, gone_of_job, entries_gone, freed_count}

-- The indexes of a clone's turn rise, and are inside the image.
pub turn_rises : (image : List ℕ) (done : ℕ) → all_rising (turn_indexes image done) ≡ true
turn_rises image done =
    rising-take 16 (drop done (allocated_indexes image)) (rising-drop done (allocated_indexes image) (indexes_rise (λ i s. not (s == 0)) 0 image))

pub turn_within : (image : List ℕ) (done : ℕ) → list_all (λ i. nat_lt i (length image)) (turn_indexes image done) ≡ true
turn_within image done =
    let z : length image ≡ 0 + length image = omega arith in
    all-take (λ i. nat_lt i (length image)) 16 (drop done (allocated_indexes image))
    (all-drop (λ i. nat_lt i (length image)) done (allocated_indexes image)
    (ap (λ n. list_all (λ i. nat_lt i n) (allocated_indexes image)) z ∙ indexes_inside (λ i s. not (s == 0)) 0 image))

pieces_again : (ps : List (Piece Entry)) → pieces_at (map (λ (p : Piece Entry). p.index) ps) (map (λ (p : Piece Entry). p.chunk) ps) ≡ ps
pieces_again [] = refl
pieces_again (p ∷ ps) = ap (λ qs. p ∷ qs) (pieces_again ps)

same_found : {A : Type 0} (x y : A) (o : Option A) → o ≡ Some x → o ≡ Some y → x ≡ y
same_found {A = A} x y o e f = let g : ◌≡◌ {A = Option A} (Some x) (Some y) = sym e ∙ f in cc

-- What the shape of tables tells of a volume and of a running copy.

none_is : {A : Type 0} (o : Option A) → if_found o (λ _. false) true ≡ is_none o
none_is None = refl
none_is (Some x) = refl

pub stands_too : (d : Durable Entry) (n : ℕ) → is_none (volume_of (shape_of_tables d) n) ≡ false → is_none (volume_of d n) ≡ false
stands_too d n e =
    sym (none_is (volume_of d n))
    ∙ map-volume_of (λ (x : Entry). x.stamp) d n (λ (b : Bool). b) (λ v. false) (λ v. false) true true (λ v. refl) refl
    ∙ none_is (volume_of (shape_of_tables d) n) ∙ e

pub record Aims (d : Durable Entry) (target : ℕ) (c : RunningCopy Entry) : Type 0 where
  pub volume : Volume Entry
  pub stands : volume_of d target ≡ Some volume
  pub rise : all_rising (map (λ (p : Piece Entry). p.index) c.pieces) ≡ true
  pub within : list_all (λ i. nat_lt i (length volume.chunks)) (map (λ (p : Piece Entry). p.index) c.pieces) ≡ true

module _ (d : Durable Entry) where
  some_same : (o : Option (RunningCopy ℕ)) → if_found o (λ c. Some c) None ≡ o
  some_same None = refl
  some_same (Some c) = refl

  copy_told : (n : ℕ) (c : RunningCopy Entry) → copy_of d n ≡ Some c → copy_of (shape_of_tables d) n ≡ Some (map_copy (λ (x : Entry). x.stamp) c)
  copy_told n c e =
      sym (some_same (copy_of (shape_of_tables d) n))
      ∙ sym (map-copy_of (λ (x : Entry). x.stamp) d n (λ (o : Option (RunningCopy ℕ)). o)
      (λ c. Some (map_copy (λ (x : Entry). x.stamp) c)) (λ c. Some c) None None (λ c. refl) refl)
      ∙ ap (λ (o : Option (RunningCopy Entry)). if_found o (λ c. Some (map_copy (λ (x : Entry). x.stamp) c)) None) e

  pub copy_aims : Kept (shape_of_tables d) → (k : Task) (target : ℕ) (c : RunningCopy Entry) → task_of d k.number ≡ Some k → copy_of d k.number ≡ Some c
      → job_target k.job ≡ Some target → Aims d target c
  copy_aims rules k target c found e aims =
      let same : map (λ (p : Piece ℕ). p.index) (map (map_piece (λ (x : Entry). x.stamp)) c.pieces) ≡ map (λ (p : Piece Entry). p.index) c.pieces =
      map-after (map_piece (λ (x : Entry). x.stamp)) (λ (p : Piece ℕ). p.index) (λ (p : Piece Entry). p.index) (λ p. refl) c.pieces in
      let rise : all_rising (map (λ (p : Piece Entry). p.index) c.pieces) ≡ true =
      ap all_rising (sym same)
      ∙ and_right _ _ (and_left _ _ (copy_kept (shape_of_tables d) rules 0 k (map_copy (λ (x : Entry). x.stamp) c) found (copy_told k.number c e))) in
      let inside : if_found (volume_of d target) (λ (v : Volume Entry). list_all (λ i. nat_lt i (length (map (λ (x : Entry). x.stamp) v.chunks)))
      (map (λ (p : Piece ℕ). p.index) (map (map_piece (λ (x : Entry). x.stamp)) c.pieces))) false ≡ true =
      map-volume_of (λ (x : Entry). x.stamp) d target (λ (b : Bool). b)
      (λ (v : Volume Entry). list_all (λ i. nat_lt i (length (map (λ (x : Entry). x.stamp) v.chunks))) (map (λ (p : Piece ℕ). p.index) (map (map_piece (λ (x : Entry). x.stamp)) c.pieces)))
      (λ (v : Volume ℕ). list_all (λ i. nat_lt i (length v.chunks)) (map (λ (p : Piece ℕ). p.index) (map (map_piece (λ (x : Entry). x.stamp)) c.pieces))) false false (λ v. refl) refl
      ∙ target_kept (shape_of_tables d) rules 0 k (map_copy (λ (x : Entry). x.stamp) c) target found (copy_told k.number c e) aims in
      of_volume same rise (volume_of d target) refl inside
    where
      of_volume : map (λ (p : Piece ℕ). p.index) (map (map_piece (λ (x : Entry). x.stamp)) c.pieces) ≡ map (λ (p : Piece Entry). p.index) c.pieces
          → all_rising (map (λ (p : Piece Entry). p.index) c.pieces) ≡ true → (o : Option (Volume Entry)) → volume_of d target ≡ o
          → if_found o (λ (v : Volume Entry). list_all (λ i. nat_lt i (length (map (λ (x : Entry). x.stamp) v.chunks)))
          (map (λ (p : Piece ℕ). p.index) (map (map_piece (λ (x : Entry). x.stamp)) c.pieces))) false ≡ true
          → Aims d target c
      of_volume same rise None at g = cc
      of_volume same rise (Some w) at g = record {
        volume = w;
        stands = at;
        rise = rise;
        within = ap (λ n. list_all (λ i. nat_lt i n) (map (λ (p : Piece Entry). p.index) c.pieces)) (sym (length-map w.chunks (λ (x : Entry). x.stamp)))
            ∙ ap (list_all (λ i. nat_lt i (length (map (λ (x : Entry). x.stamp) w.chunks)))) (sym same) ∙ g;
      }

-- A test of all entries, kind by kind of list.
record Kinds (t : Piece Entry → Bool) (d : Durable Entry) : Type 0 where
  volumes : list_all (λ (v : Volume Entry). list_all t (indexed v.chunks)) d.volumes ≡ true
  clones : list_all (λ (c : RunningClone Entry). list_all t (indexed c.image) && list_all t (indexed c.target)) d.clones ≡ true
  copies : list_all (λ (c : RunningCopy Entry). list_all t c.pieces) d.copies ≡ true

kinds_of : (t : Piece Entry → Bool) (d : Durable Entry) → list_all t (all_pieces d) ≡ true → Kinds t d
kinds_of t d e =
    let k = sym (piece_kinds t d) ∙ e in
    record { volumes = and_left _ _ (and_left _ _ k); clones = and_right _ _ (and_left _ _ k); copies = and_right _ _ k }

of_kinds : (t : Piece Entry → Bool) (d : Durable Entry) → Kinds t d → list_all t (all_pieces d) ≡ true
of_kinds t d k = piece_kinds t d ∙ and_both _ _ (and_both _ _ k.volumes k.clones) k.copies

-- What holds of all entries afterwards and of all that are gone held of all before, and holds of the new ones.
record Held (t : Piece Entry → Bool) (d : Durable Entry) (news : List (Piece Entry)) : Type 0 where
  before : Kinds t d
  new : list_all t news ≡ true

abbrev Back : (Piece Entry → Bool) → Durable Entry → Durable Entry → List (Piece Entry) → List (Piece Entry) → Type 0
Back t d e news gone = Kinds t e → list_all t gone ≡ true → Held t d news

module _ (t : Piece Entry → Bool) (d : Durable Entry) where
  found_back : {A : Type 0} (o : Option A) (h : A → Durable Entry) (gone : List (Piece Entry)) → ((x : A) → o ≡ Some x → Back t d (h x) [] gone)
      → Back t d (if_found o h d) [] gone
  found_back None h gone there = λ k g. record { before = k; new = refl }
  found_back (Some x) h gone there = there x refl

  added_back : (v : Volume Entry) → Back t d (and_volume d v) [] []
  added_back v k g = record {
    before = record {
      volumes = (from_put (λ (w : Volume Entry). list_all t (indexed w.chunks)) (λ (w : Volume Entry). nat_lt v.number w.number) v d.volumes k.volumes).1;
      clones = k.clones;
      copies = k.copies;
    };
    new = refl;
  }

  changed_back : (n : ℕ) (g : Volume Entry → Volume Entry) (gone : List (Piece Entry))
      → ((v : Volume Entry) → volume_of d n ≡ Some v → list_all t (indexed (g v).chunks) ≡ true → list_all t gone ≡ true → list_all t (indexed v.chunks) ≡ true)
      → Back t d (with_volume d n g) [] gone
  changed_back n g gone one k e = record {
    before = record {
      volumes = from_changed (λ (w : Volume Entry). list_all t (indexed w.chunks)) (λ (w : Volume Entry). w.number == n) g d.volumes k.volumes (λ v found h. one v found h e);
      clones = k.clones;
      copies = k.copies;
    };
    new = refl;
  }

  listed_is : (n : ℕ) (v : Volume Entry) → volume_of d n ≡ Some v → listed d n ≡ indexed v.chunks
  listed_is n v found = ap (λ o. if_found o (λ (v : Volume Entry). indexed v.chunks) []) found

  clone_back : (k : Task) (source : ℕ) (values : List Entry) (c : RunningClone Entry) → clone_of d k.number ≡ Some c
      → is_clone_kept (map_clone (λ (e : Entry). e.stamp) c) k ≡ true
      → Back t d (clone_turned (λ (e : Entry). e.stamp) values d k source c) (pieces_at (turn_indexes (map (λ (e : Entry). e.stamp) c.image) k.done) values) (gone_of_clone k c)
  clone_back k source values c found keeps = go (is_last k (length is))
    where
      is : List ℕ
      is = turn_indexes (map (λ (e : Entry). e.stamp) c.image) k.done

      rise : all_rising (turn_indexes (map (λ (e : Entry). e.stamp) c.image) k.done) ≡ true
      rise = turn_rises (map (λ (e : Entry). e.stamp) c.image) k.done

      within : list_all (λ i. nat_lt i (length c.target)) (turn_indexes (map (λ (e : Entry). e.stamp) c.image) k.done) ≡ true
      within =
          let long : length (map (λ (e : Entry). e.stamp) c.target) ≡ length (map (λ (e : Entry). e.stamp) c.image) =
          kept_long (map_clone (λ (e : Entry). e.stamp) c) k keeps in
          ap (λ n. list_all (λ i. nat_lt i n) (turn_indexes (map (λ (e : Entry). e.stamp) c.image) k.done))
          (sym (length-map c.target (λ (e : Entry). e.stamp)) ∙ long)
          ∙ turn_within (map (λ (e : Entry). e.stamp) c.image) k.done

      -- the old target
      old_target : list_all t (indexed (put_at (turn_indexes (map (λ (e : Entry). e.stamp) c.image) k.done) values c.target)) ≡ true
          → list_all t (those_at (turn_indexes (map (λ (e : Entry). e.stamp) c.image) k.done) (indexed c.target)) ≡ true → list_all t (indexed c.target) ≡ true
      old_target h g =
          covered (λ (p : Piece Entry). list_any (λ i. i == p.index) (turn_indexes (map (λ (e : Entry). e.stamp) c.image) k.done)) t (indexed c.target)
          (put_or t (turn_indexes (map (λ (e : Entry). e.stamp) c.image) k.done) values c.target h) g

      new_values : list_all t (indexed (put_at (turn_indexes (map (λ (e : Entry). e.stamp) c.image) k.done) values c.target)) ≡ true
          → list_all t (pieces_at (turn_indexes (map (λ (e : Entry). e.stamp) c.image) k.done) values) ≡ true
      new_values h = values_stay t (turn_indexes (map (λ (e : Entry). e.stamp) c.image) k.done) values c.target rise within h

      go : (b : Bool) → Back t d (cond b
          (clone_ends d k (length (turn_indexes (map (λ (e : Entry). e.stamp) c.image) k.done)) source c (put_at (turn_indexes (map (λ (e : Entry). e.stamp) c.image) k.done) values c.target))
          (clone_goes_on d k (length (turn_indexes (map (λ (e : Entry). e.stamp) c.image) k.done)) (put_at (turn_indexes (map (λ (e : Entry). e.stamp) c.image) k.done) values c.target)))
          (pieces_at (turn_indexes (map (λ (e : Entry). e.stamp) c.image) k.done) values)
          (those_at (turn_indexes (map (λ (e : Entry). e.stamp) c.image) k.done) (indexed c.target) ++ cond b (indexed c.image) [])
      go true kinds gone =
          let parts = sym (list_all-append t (those_at (turn_indexes (map (λ (e : Entry). e.stamp) c.image) k.done) (indexed c.target)) (indexed c.image)) ∙ gone in
          let target : List Entry = put_at (turn_indexes (map (λ (e : Entry). e.stamp) c.image) k.done) values c.target in
          let put = from_put (λ (w : Volume Entry). list_all t (indexed w.chunks)) (λ (w : Volume Entry). nat_lt c.number w.number) (cloned_volume c source target) d.volumes kinds.volumes in
          record {
            before = record {
              volumes = put.1;
              clones = from_removed (λ (b : RunningClone Entry). list_all t (indexed b.image) && list_all t (indexed b.target)) (λ (b : RunningClone Entry). b.number == k.number) d.clones kinds.clones
                  (λ b at. ap (λ (b : RunningClone Entry). list_all t (indexed b.image) && list_all t (indexed b.target)) (same_found b c (clone_of d k.number) at found)
                  ∙ and_both _ _ (and_right _ _ parts) (old_target (put.0) (and_left _ _ parts)));
              copies = kinds.copies;
            };
            new = new_values (put.0);
          }
      go false kinds gone =
          let parts = and_left _ _ (sym (list_all-append t (those_at (turn_indexes (map (λ (e : Entry). e.stamp) c.image) k.done) (indexed c.target)) []) ∙ gone) in
          let target : List Entry = put_at (turn_indexes (map (λ (e : Entry). e.stamp) c.image) k.done) values c.target in
          let there = at_changed (λ (b : RunningClone Entry). list_all t (indexed b.image) && list_all t (indexed b.target)) (λ (b : RunningClone Entry). b.number == k.number)
          (λ b. record b { target = target }) c d.clones kinds.clones found in
          record {
            before = record {
              volumes = kinds.volumes;
              clones = from_changed (λ (b : RunningClone Entry). list_all t (indexed b.image) && list_all t (indexed b.target)) (λ (b : RunningClone Entry). b.number == k.number)
                  (λ b. record b { target = target }) d.clones kinds.clones
                  (λ b at h. ap (λ (b : RunningClone Entry). list_all t (indexed b.image) && list_all t (indexed b.target)) (same_found b c (clone_of d k.number) at found)
                  ∙ and_both _ _ (and_left _ _ there) (old_target (and_right _ _ there) parts));
              copies = kinds.copies;
            };
            new = new_values (and_right _ _ there);
          }

  copy_back : (k : Task) (target : ℕ) (c : RunningCopy Entry) → copy_of d k.number ≡ Some c
      → (w : Volume Entry) → volume_of d target ≡ Some w → all_rising (map (λ (p : Piece Entry). p.index) c.pieces) ≡ true
      → list_all (λ i. nat_lt i (length w.chunks)) (map (λ (p : Piece Entry). p.index) c.pieces) ≡ true
      → Back t d (copy_turned d k target c) [] (gone_of_copy d k target c)
  copy_back k target c found w stands rise within = go (is_last k (next_piece k))
    where
      go : (b : Bool) → Back t d (cond b (copy_ends d k target c) (copy_goes_on d k)) []
          (cond b (those_at (map (λ (p : Piece Entry). p.index) c.pieces) (listed d target)) [])
      go true kinds gone =
          let there = at_changed (λ (v : Volume Entry). list_all t (indexed v.chunks)) (λ (v : Volume Entry). v.number == target)
          (λ v. record v { chunks = pieces_put c.pieces v.chunks }) w d.volumes kinds.volumes stands in
          let moved : list_all t c.pieces ≡ true =
          ap (list_all t) (sym (pieces_again c.pieces))
          ∙ values_stay t (map (λ (p : Piece Entry). p.index) c.pieces) (map (λ (p : Piece Entry). p.chunk) c.pieces) w.chunks rise within there in
          record {
            before = record {
              volumes = from_changed (λ (v : Volume Entry). list_all t (indexed v.chunks)) (λ (v : Volume Entry). v.number == target)
                  (λ v. record v { chunks = pieces_put c.pieces v.chunks }) d.volumes kinds.volumes
                  (λ v at h. covered (λ (p : Piece Entry). list_any (λ i. i == p.index) (map (λ (p : Piece Entry). p.index) c.pieces)) t (indexed v.chunks)
                  (put_or t (map (λ (p : Piece Entry). p.index) c.pieces) (map (λ (p : Piece Entry). p.chunk) c.pieces) v.chunks h)
                  (ap (λ ps. list_all t (those_at (map (λ (p : Piece Entry). p.index) c.pieces) ps)) (sym (listed_is target v at)) ∙ gone));
              clones = kinds.clones;
              copies = from_removed (λ (b : RunningCopy Entry). list_all t b.pieces) (λ (b : RunningCopy Entry). b.number == k.number) d.copies kinds.copies
                  (λ b at. ap (λ (b : RunningCopy Entry). list_all t b.pieces) (same_found b c (copy_of d k.number) at found) ∙ moved);
            };
            new = refl;
          }
      go false kinds gone = record { before = record { volumes = kinds.volumes; clones = kinds.clones; copies = kinds.copies }; new = refl }

  cancelled_back : (n : ℕ) → Back t d (cancelled d n) [] (entries_gone d (Cancel n))
  unfolding cancelled
  cancelled_back n kinds gone =
      let parts = sym (list_all-append t (if_found (clone_of d n) (λ (c : RunningClone Entry). indexed c.image ++ indexed c.target) [])
      (if_found (copy_of d n) (λ (c : RunningCopy Entry). c.pieces) [])) ∙ gone in
      record {
        before = record {
          volumes = kinds.volumes;
          clones = from_removed (λ (b : RunningClone Entry). list_all t (indexed b.image) && list_all t (indexed b.target)) (λ (b : RunningClone Entry). b.number == n) d.clones kinds.clones
              (λ b at. sym (list_all-append t (indexed b.image) (indexed b.target))
              ∙ ap (λ o. list_all t (if_found o (λ (c : RunningClone Entry). indexed c.image ++ indexed c.target) [])) (sym at) ∙ and_left _ _ parts);
          copies = from_removed (λ (b : RunningCopy Entry). list_all t b.pieces) (λ (b : RunningCopy Entry). b.number == n) d.copies kinds.copies
              (λ b at. ap (λ o. list_all t (if_found o (λ (c : RunningCopy Entry). c.pieces) [])) (sym at) ∙ and_right _ _ parts);
        };
        new = refl;
      }

  -- The lists that a change leaves.
  same_back : (e : Durable Entry) → Kinds t d → Held t d []
  same_back e k = record { before = k; new = refl }

  module _ (rules : Kept (shape_of_tables d)) (clones : Clones Entry (λ (e : Entry). e.stamp) d) where
    copy_turn_back : (k : Task) (target : ℕ) → task_of d k.number ≡ Some k → job_target k.job ≡ Some target
        → (o : Option (RunningCopy Entry)) → copy_of d k.number ≡ o → Back t d (if_found o (copy_turned d k target) d) [] (if_found o (gone_of_copy d k target) [])
    copy_turn_back k target found aims None e = λ kinds gone. record { before = kinds; new = refl }
    copy_turn_back k target found aims (Some c) e =
        let a : Aims d target c = copy_aims d rules k target c found e aims in
        copy_back k target c e a.volume a.stands a.rise a.within

    job_back : (k : Task) (values : List Entry) → task_of d k.number ≡ Some k → (job : Job) → k.job ≡ job
        → Back t d (job_turned (λ (e : Entry). e.stamp) values d k job) (pieces_at (job_indexes (λ (e : Entry). e.stamp) d k job) values) (gone_of_job d k job)
    job_back k values found (Clone source) is = of_clone (clone_of d k.number) refl
      where
        of_clone : (o : Option (RunningClone Entry)) → clone_of d k.number ≡ o
            → Back t d (if_found o (clone_turned (λ (e : Entry). e.stamp) values d k source) d)
            (pieces_at (if_found o (λ (c : RunningClone Entry). turn_indexes (map (λ (e : Entry). e.stamp) c.image) k.done) []) values) (if_found o (gone_of_clone k) [])
        of_clone None e = λ kinds gone. record { before = kinds; new = refl }
        of_clone (Some c) e = clone_back k source values c e (clones.kept k c found e)
    job_back k values found (Copy source base target) is = copy_turn_back k target found (ap job_target is) (copy_of d k.number) refl

    turn_back : (n : ℕ) (values : List Entry)
        → Back t d (turned (λ (e : Entry). e.stamp) values d n) (pieces_at (turned_indexes (λ (e : Entry). e.stamp) d n) values) (entries_gone d (Turn n))
    unfolding turned turned_indexes
    turn_back n values = of_task (task_of d n) refl
      where
        run : (k : Task) → task_of d k.number ≡ Some k → (b : Bool)
            → Back t d (cond b (job_turned (λ (e : Entry). e.stamp) values d k k.job) d) (pieces_at (cond b (job_indexes (λ (e : Entry). e.stamp) d k k.job) []) values)
            (cond b (gone_of_job d k k.job) [])
        run k found true = job_back k values found k.job refl
        run k found false = λ kinds gone. record { before = kinds; new = refl }

        of_task : (o : Option Task) → task_of d n ≡ o
            → Back t d (if_found o (λ k. cond (is_running k) (job_turned (λ (e : Entry). e.stamp) values d k k.job) d) d)
            (pieces_at (if_found o (λ k. cond (is_running k) (job_indexes (λ (e : Entry). e.stamp) d k k.job) []) []) values)
            (if_found o (λ k. cond (is_running k) (gone_of_job d k k.job) []) [])
        of_task None e = λ kinds gone. record { before = kinds; new = refl }
        of_task (Some k) e =
            let number : k.number ≡ n = eqb-true k.number n (find-passes (λ (u : Task). u.number == n) d.tasks k e) in
            run k (ap (λ m. task_of d m) number ∙ e) (is_running k)

    write_back : (n first blocks : ℕ) (values : List Entry) → judge None (shape_of_tables d) (Write n first blocks) ≡ Accept
        → Back t d (with_volume d n (λ v. record v { chunks = put_at (touched_indexes d.geometry.chunk_blocks first blocks) values v.chunks }))
        (pieces_at (touched_indexes d.geometry.chunk_blocks first blocks) values) (entries_gone d (Write n first blocks))
    unfolding state_checks
    write_back n first blocks values accepted =
        of_volume (volume_of d n) refl
        (stands_too d n (not_refused (is_none (volume_of (shape_of_tables d) n)) (NotFound in_vvol) (passed_state None (shape_of_tables d) (Write n first blocks) accepted 0)))
      where
        of_volume : (o : Option (Volume Entry)) → volume_of d n ≡ o → is_none o ≡ false
            → Back t d (with_volume d n (λ v. record v { chunks = put_at (touched_indexes d.geometry.chunk_blocks first blocks) values v.chunks }))
            (pieces_at (touched_indexes d.geometry.chunk_blocks first blocks) values)
            (those_at (touched_indexes d.geometry.chunk_blocks first blocks) (listed d n))
        of_volume None at some = cc
        of_volume (Some w) at some = λ kinds gone.
            let is : List ℕ = touched_indexes d.geometry.chunk_blocks first blocks in
            let within : list_all (λ i. nat_lt i (length w.chunks)) is ≡ true =
            ap (λ m. list_all (λ i. nat_lt i m) is) (sym (length-map w.chunks (λ (x : Entry). x.stamp)) ∙ ap length (sym (stamps_found (λ (x : Entry). x.stamp) unmapped_entry d n w at)))
            ∙ write_within (shape_of_tables d) None n first blocks accepted in
            record {
              before = record {
                volumes = from_changed (λ (v : Volume Entry). list_all t (indexed v.chunks)) (λ (v : Volume Entry). v.number == n)
                    (λ v. record v { chunks = put_at (touched_indexes d.geometry.chunk_blocks first blocks) values v.chunks }) d.volumes kinds.volumes
                    (λ v found h. covered (λ (p : Piece Entry). list_any (λ i. i == p.index) is) t (indexed v.chunks) (put_or t is values v.chunks h)
                    (ap (λ ps. list_all t (those_at is ps)) (sym (listed_is n v found)) ∙ gone));
                clones = kinds.clones;
                copies = kinds.copies;
              };
              new = values_stay t is values w.chunks (touched_rise d.geometry.chunk_blocks first blocks) within
                  (at_changed (λ (v : Volume Entry). list_all t (indexed v.chunks)) (λ (v : Volume Entry). v.number == n)
                  (λ v. record v { chunks = put_at (touched_indexes d.geometry.chunk_blocks first blocks) values v.chunks }) w d.volumes kinds.volumes at);
            }

    change_back : (change : Change) (values : List Entry) → judge None (shape_of_tables d) change ≡ Accept
        → Back t d (effect (λ (e : Entry). e.stamp) values unmapped_entry d change) (pieces_at (changed_indexes (λ (e : Entry). e.stamp) d change) values) (entries_gone d change)
    unfolding effect with_clone with_copy changed_indexes
    change_back (MakeContainer quota offers) values e = λ k g. record { before = record { volumes = k.volumes; clones = k.clones; copies = k.copies }; new = refl }
    change_back (MakeVolume h vtype chunks needs) values e =
        added_back (record { number = d.lsn + 1; container = h; vtype = vtype; kind = Plain; reverted = 0; needs = needs; metadata = []; chunks = replicate chunks unmapped_entry })
    change_back (DeleteVolume n) values e = λ k g. record {
      before = record {
        volumes = from_removed (λ (v : Volume Entry). list_all t (indexed v.chunks)) (λ (v : Volume Entry). v.number == n) d.volumes k.volumes
            (λ v at. ap (list_all t) (sym (listed_is n v at)) ∙ g);
        clones = k.clones;
        copies = k.copies;
      };
      new = refl;
    }
    change_back (GrowVolume n chunks) values e =
        changed_back n (λ v. record v { chunks = v.chunks ++ replicate (chunks - length v.chunks) unmapped_entry }) []
        (λ v found h g. front t 0 v.chunks (replicate (chunks - length v.chunks) unmapped_entry) h)
    change_back (SetMetadata n key text) values e = changed_back n (λ v. record v { metadata = after_set v.metadata key text }) [] (λ v found h g. h)
    change_back (Snapshot n) values e =
        found_back (volume_of d n) (λ v. and_volume d (record v { number = d.lsn + 1; kind = SnapshotOf (record { 0 = n }) })) []
        (λ v found. added_back (record v { number = d.lsn + 1; kind = SnapshotOf (record { 0 = n }) }))
    change_back (FastClone n) values e =
        found_back (volume_of d n) (λ v. and_volume d (record v { number = d.lsn + 1; kind = FastCloneOf (record { 0 = n }) })) []
        (λ v found. added_back (record v { number = d.lsn + 1; kind = FastCloneOf (record { 0 = n }) }))
    change_back (Revert n snapshot) values e =
        found_back (volume_of d snapshot) (λ s. with_volume d n (λ v. record v { chunks = s.chunks; reverted = d.lsn + 1 })) (listed d n)
        (λ s at. changed_back n (λ v. record v { chunks = s.chunks; reverted = d.lsn + 1 }) (listed d n)
        (λ v found h g. ap (list_all t) (sym (listed_is n v found)) ∙ g))
    change_back (Write n first blocks) values e = write_back n first blocks values e
    change_back (Unmap n ranges) values e =
        changed_back n (λ v. record v { chunks = unmapped_in (λ (e : Entry). e.stamp) unmapped_entry ranges v.chunks }) (entries_gone d (Unmap n ranges))
        (λ v found h g. covered (λ (p : Piece Entry). is_in_ranges ranges p.index && not (p.chunk.stamp == 0)) t (indexed v.chunks)
        (unmapped_or (λ (e : Entry). e.stamp) unmapped_entry t ranges 0 v.chunks h)
        (ap (λ ps. list_all t (filter (λ (p : Piece Entry). is_in_ranges ranges p.index && not (p.chunk.stamp == 0)) ps)) (sym (listed_is n v found)) ∙ g))
    change_back (SetEndpoints host endpoints) values e = λ k g. record { before = record { volumes = k.volumes; clones = k.clones; copies = k.copies }; new = refl }
    change_back (Bind host n) values e = λ k g. record { before = record { volumes = k.volumes; clones = k.clones; copies = k.copies }; new = refl }
    change_back (Unbind host endpoint secondary) values e = λ k g. record { before = record { volumes = k.volumes; clones = k.clones; copies = k.copies }; new = refl }
    change_back (UnbindAll host) values e = λ k g. record { before = record { volumes = k.volumes; clones = k.clones; copies = k.copies }; new = refl }
    change_back (StartClone n) values e =
        found_back (volume_of d n) (clone_started (λ (e : Entry). e.stamp) unmapped_entry d n) []
        (λ v found k g. record {
          before = record {
            volumes = k.volumes;
            clones = (from_put (λ (b : RunningClone Entry). list_all t (indexed b.image) && list_all t (indexed b.target)) (λ (b : RunningClone Entry). nat_lt (d.lsn + 1) b.number)
                (clone_of_volume unmapped_entry (d.lsn + 1) v) d.clones k.clones).1;
            copies = k.copies;
          };
          new = refl;
        })
    change_back (StartCopy source base target) values e =
        found_back (volume_of d source) (λ v. if_found (volume_of d base)
        (λ w. copy_started d (Copy source base target) (difference (λ (e : Entry). e.stamp) v.chunks w.chunks)) d) []
        (λ v found. found_back (volume_of d base) (λ w. copy_started d (Copy source base target) (difference (λ (e : Entry). e.stamp) v.chunks w.chunks)) []
        (λ w at k g. record {
          before = record {
            volumes = k.volumes;
            clones = k.clones;
            copies = (from_put (λ (b : RunningCopy Entry). list_all t b.pieces) (λ (b : RunningCopy Entry). nat_lt (d.lsn + 1) b.number)
                (record { number = d.lsn + 1; pieces = difference (λ (e : Entry). e.stamp) v.chunks w.chunks }) d.copies k.copies).1;
          };
          new = refl;
        }))
    change_back (Turn n) values e = turn_back n values
    change_back (Cancel n) values e = cancelled_back n

  -- What is gone was there.
  module _ (k : Kinds t d) where
    listed_part : (n : ℕ) → list_all t (listed d n) ≡ true
    listed_part n = of_volume (volume_of d n) refl
      where
        of_volume : (o : Option (Volume Entry)) → volume_of d n ≡ o → list_all t (if_found o (λ (v : Volume Entry). indexed v.chunks) []) ≡ true
        of_volume None at = refl
        of_volume (Some v) at = all-found (λ (w : Volume Entry). list_all t (indexed w.chunks)) (λ (w : Volume Entry). w.number == n) v d.volumes k.volumes at

    clone_part : (n : ℕ) (c : RunningClone Entry) → clone_of d n ≡ Some c → (list_all t (indexed c.image) && list_all t (indexed c.target)) ≡ true
    clone_part n c at =
        all-found (λ (b : RunningClone Entry). list_all t (indexed b.image) && list_all t (indexed b.target)) (λ (b : RunningClone Entry). b.number == n) c d.clones k.clones at

    either_part : (b : Bool) (xs : List (Piece Entry)) → list_all t xs ≡ true → list_all t (cond b xs []) ≡ true
    either_part true xs e = e
    either_part false xs e = refl

    found_part : {A : Type 0} (o : Option A) (h : A → List (Piece Entry)) → ((x : A) → o ≡ Some x → list_all t (h x) ≡ true) → list_all t (if_found o h []) ≡ true
    found_part None h there = refl
    found_part (Some x) h there = there x refl

    job_part : (m : Task) (job : Job) → list_all t (gone_of_job d m job) ≡ true
    job_part m (Clone source) =
        found_part (clone_of d m.number) (gone_of_clone m)
        (λ c at. let is : List ℕ = turn_indexes (map (λ (e : Entry). e.stamp) c.image) m.done in
        list_all-append t (those_at is (indexed c.target)) (cond (is_last m (length is)) (indexed c.image) [])
        ∙ and_both _ _
        (all-filter t (λ (p : Piece Entry). list_any (λ i. i == p.index) is) (indexed c.target) (and_right _ _ (clone_part m.number c at)))
        (either_part (is_last m (length is)) (indexed c.image) (and_left _ _ (clone_part m.number c at))))
    job_part m (Copy source base target) =
        found_part (copy_of d m.number) (gone_of_copy d m target)
        (λ c at. either_part (is_last m (next_piece m)) (those_at (map (λ (p : Piece Entry). p.index) c.pieces) (listed d target))
        (all-filter t (λ (p : Piece Entry). list_any (λ i. i == p.index) (map (λ (p : Piece Entry). p.index) c.pieces)) (listed d target) (listed_part target)))

    gone_part : (change : Change) → list_all t (entries_gone d change) ≡ true
    gone_part (MakeContainer quota offers) = refl
    gone_part (MakeVolume h vtype chunks needs) = refl
    gone_part (DeleteVolume n) = listed_part n
    gone_part (GrowVolume n chunks) = refl
    gone_part (SetMetadata n key text) = refl
    gone_part (Snapshot n) = refl
    gone_part (FastClone n) = refl
    gone_part (Revert n snapshot) = listed_part n
    gone_part (Write n first blocks) =
        all-filter t (λ (p : Piece Entry). list_any (λ i. i == p.index) (touched_indexes d.geometry.chunk_blocks first blocks)) (listed d n) (listed_part n)
    gone_part (Unmap n ranges) = all-filter t (λ (p : Piece Entry). is_in_ranges ranges p.index && not (p.chunk.stamp == 0)) (listed d n) (listed_part n)
    gone_part (SetEndpoints host endpoints) = refl
    gone_part (Bind host n) = refl
    gone_part (Unbind host endpoint secondary) = refl
    gone_part (UnbindAll host) = refl
    gone_part (StartClone n) = refl
    gone_part (StartCopy source base target) = refl
    gone_part (Turn n) =
        found_part (task_of d n) (λ m. cond (is_running m) (gone_of_job d m m.job) [])
        (λ m at. either_part (is_running m) (gone_of_job d m m.job) (job_part m m.job))
    gone_part (Cancel n) =
        list_all-append t (if_found (clone_of d n) (λ (c : RunningClone Entry). indexed c.image ++ indexed c.target) [])
        (if_found (copy_of d n) (λ (c : RunningCopy Entry). c.pieces) [])
        ∙ and_both _ _
        (found_part (clone_of d n) (λ (c : RunningClone Entry). indexed c.image ++ indexed c.target)
        (λ c at. list_all-append t (indexed c.image) (indexed c.target) ∙ clone_part n c at))
        (found_part (copy_of d n) (λ (c : RunningCopy Entry). c.pieces)
        (λ c at. all-found (λ (b : RunningCopy Entry). list_all t b.pieces) (λ (b : RunningCopy Entry). b.number == n) c d.copies k.copies at))

any_all : (r : ℕ → Bool) (n : ℕ) (xs : List ℕ) → list_all r xs ≡ true → list_any (λ p. p == n) xs ≡ true → r n ≡ true
any_all r n [] e f = cc
any_all r n (x ∷ xs) e f = go (x == n) refl f (λ g. any_all r n xs (and_right (r x) (list_all r xs) e) g)
  where
    go : (b : Bool) → (x == n) ≡ b → (b || list_any (λ p. p == n) xs) ≡ true → (list_any (λ p. p == n) xs ≡ true → r n ≡ true) → r n ≡ true
    go true is g there = ap r (sym (eqb-true x n is)) ∙ and_left (r x) (list_all r xs) e
    go false is g there = there g

not_both : (a b : Bool) → b ≡ true → a ≡ not b → a ≡ false
not_both a b e f = f ∙ ap not e

module _ (tables : Durable Entry) (change : Change) (places : List ℕ) (well : is_well_formed tables ≡ true) (fit : fits tables change places ≡ true) where
  abbrev values : List Entry
  values = placed_entries places (new_stamp tables change)

  abbrev indexes : List ℕ
  indexes = changed_indexes (λ (e : Entry). e.stamp) tables change

  abbrev after : Durable Entry
  after = effect (λ (e : Entry). e.stamp) values unmapped_entry tables change

  abbrev is_new : ℕ → Bool
  is_new n = list_any (λ p. p == n) places

  abbrev names : ℕ → Piece Entry → Bool
  names n p = not (names_place n p)

  rules : Kept (shape_of_tables tables)
  rules = kept (shape_of_tables tables) (shape_rules tables well)

  clones : Clones Entry (λ (e : Entry). e.stamp) tables
  clones = let r : Kept (shape_of_tables tables) = rules in clones_of (λ (e : Entry). e.stamp) tables r.form r.numbers r.clones

  many : length indexes ≡ length places
  unfolding fits
  many = sym (eqb-true (length places) (length (changed_indexes (λ (e : Entry). e.stamp) tables change)) (and_right _ _ (and_left _ _ (and_left _ _ fit))))

  different : all_different places ≡ true
  unfolding fits
  different = and_right _ _ (and_left _ _ fit)

  all_fresh : list_all (is_fresh tables) places ≡ true
  unfolding fits
  all_fresh = and_right _ _ fit

  fresh : (n : ℕ) → is_new n ≡ true → is_named (all_pieces tables) n ≡ false
  fresh n e =
      let f : is_fresh tables n ≡ true = any_all (is_fresh tables) n places all_fresh e in
      not_both (is_named (all_pieces tables) n) (place_count (all_pieces tables) n == 0) (and_right _ _ f) (named-counted (all_pieces tables) n)

  unnamed : (n : ℕ) (ps : List (Piece Entry)) → is_named ps n ≡ false → list_all (names n) ps ≡ true
  unnamed n ps e = none_any (names_place n) ps e

  old : (n : ℕ) → is_named (all_pieces tables) n ≡ false → is_new n ≡ false → is_named (all_pieces after) n ≡ false
  old n e f =
      let c : Clones Entry (λ (e : Entry). e.stamp) tables = clones in
      let news : list_all (names n) (pieces_at indexes values) ≡ true =
      unnamed n (pieces_at indexes values) (news_named indexes places (new_stamp tables change) n many ∙ f) in
      any_none (names_place n) (all_pieces after)
      (pieces_pass (names n) (λ _. true) after
      (stays_right (λ (e : Entry). e.stamp) unmapped_entry tables values change (λ o p. names n p) (λ _. true) (record {
        free = (λ o i. refl);
        stands = pass_pieces (names n) tables (unnamed n (all_pieces tables) e);
        ends = (λ m gone p h. h);
        next = refl;
        rise = c.rise;
      }) news))

  part : (n : ℕ) → is_named (all_pieces tables) n ≡ false → is_named (entries_gone tables change) n ≡ false
  part n e =
      any_none (names_place n) (entries_gone tables change)
      (gone_part (names n) tables (kinds_of (names n) tables (unnamed n (all_pieces tables) e)) change)

  back : (n : ℕ) → is_named (entries_gone tables change) n ≡ false → is_named (all_pieces after) n ≡ false → Held (names n) tables (pieces_at indexes values)
  back n g q =
      change_back (names n) tables rules clones change values (fits_accepted tables change places fit)
      (kinds_of (names n) after (unnamed n (all_pieces after) q)) (unnamed n (entries_gone tables change) g)

  gone : (n : ℕ) → is_named (entries_gone tables change) n ≡ false → is_named (all_pieces after) n ≡ false → is_named (all_pieces tables) n ≡ false
  gone n g q =
      let h : Held (names n) tables (pieces_at indexes values) = back n g q in
      any_none (names_place n) (all_pieces tables) (of_kinds (names n) tables h.before)

  new : (n : ℕ) → is_new n ≡ true → is_named (all_pieces after) n ≡ true
  new n e = go (is_named (all_pieces after) n) refl
    where
      go : (b : Bool) → is_named (all_pieces after) n ≡ b → b ≡ true
      go true is = refl
      go false is =
          let h : Held (names n) tables (pieces_at indexes values) = back n (part n (fresh n e)) is in
          let none : is_named (pieces_at indexes values) n ≡ false = any_none (names_place n) (pieces_at indexes values) h.new in
          let some : is_named (pieces_at indexes values) n ≡ true = news_named indexes places (new_stamp tables change) n many ∙ e in cc

  pub used_after : used (shape_of_tables (replayed tables change places))
      + freed_count tables.geometry.pool_chunks (entries_gone tables change) (all_pieces (replayed tables change places))
      ≡ used (shape_of_tables tables) + length places
  unfolding replayed apply named_count freed_count
  used_after =
      let pool : ℕ = tables.geometry.pool_chunks in
      let ns : List ℕ = numbers_from 0 pool in
      let moves = count_moves (is_named (all_pieces tables)) (is_named (all_pieces after)) is_new (is_named (entries_gone tables change)) fresh old new gone part ns in
      let counted : count_by is_new ns ≡ length places =
      places_counted pool places different
      (list_all-follows (is_fresh tables) (λ p. nat_lt p pool) (λ p e. and_left (nat_lt p pool) _ e) places all_fresh) in
      let shared : shares (replayed tables change places) ≡ true = sharing_stays tables change places (shape_rules tables well) (well_formed_sharing tables well) fit in
      let before_used : used (shape_of_tables tables) ≡ count_by (is_named (all_pieces tables)) ns = used_places tables (well_formed_sharing tables well) in
      let after_used : used (shape_of_tables (replayed tables change places)) ≡ count_by (is_named (all_pieces after)) (numbers_from 0 after.geometry.pool_chunks) =
      used_places (replayed tables change places) shared in
      let same : count_by (is_named (all_pieces after)) (numbers_from 0 after.geometry.pool_chunks) ≡ count_by (is_named (all_pieces after)) ns =
      ap (λ (g : Geometry). count_by (is_named (all_pieces after)) (numbers_from 0 g.pool_chunks)) (geometry-effect (λ (e : Entry). e.stamp) values unmapped_entry tables change) in
      omega (arith, moves, counted, before_used, after_used, same)
