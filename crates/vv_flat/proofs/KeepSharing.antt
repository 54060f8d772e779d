-- Tables that share places rightly still do after a record that fits them, where they keep the other rules. The law
-- a_record_keeps_the_sharing is the last lemma here.
use Rattle.std.proofs.Common.{◌≡◌, ◌≤◌, ℕ, ◌+◌, ◌==◌, ◌&&◌, ◌||◌, not, refl, ap, sym, ◌∙◌, subst, Bool, true, false, cond, List, [], map, take, drop, arith}
use Rattle.std.specs.Prelude.{Option, Some, None, nat_lt, nat_le, count_by}
use Rattle.std.specs.List.{filter, list_all}
use Rattle.std.proofs.lemmas.List.Folds.{list_all-map}
use Rattle.std.proofs.lemmas.Bool.{not-true, leb-true, le-leb, eqb-true, eqb-false, ne_eqb}
use Rattle.std.proofs.lemmas.Slice.Eq.{bytes_eq-Decides}
use Rattle.vv_units.specs.declared.geometry.Geometry.{Geometry}
use Rattle.vv_flat.specs.Lists.{if_found, all_different, all_rising}
use Rattle.vv_flat.specs.State.{Durable, Volume, RunningClone, RunningCopy, Piece, Task, Job, Clone, Copy, map_clone, indexed, all_pieces, clone_of, task_of}
use Rattle.vv_flat.specs.Chunks.{Entry, unmapped_entry, placed_entries, shape_of_tables, touched_indexes}
use Rattle.vv_flat.specs.Space.{is_running, is_clone}
use Rattle.vv_flat.specs.Bits.{allocated_indexes}
use Rattle.vv_flat.specs.Tasks.{turned_indexes, job_indexes, turn_indexes, turn_limit}
use Rattle.vv_flat.specs.Sharing.{Standing, standings, is_placed, agrees, names_place, place_count, is_own_stamp, is_shared_rightly, shares}
use Rattle.vv_flat.specs.Form.{is_formed}
use Rattle.vv_flat.specs.Rules.{is_logged, numbers_rule, clones_rule, is_clone_kept, keeps_shape_rules}
use Rattle.vv_flat.specs.Changes.{Change, MakeContainer, MakeVolume, DeleteVolume, GrowVolume, SetMetadata, Snapshot, FastClone, Revert, Write, Unmap, SetEndpoints, Bind, Unbind, UnbindAll, StartClone, StartCopy, Turn, Cancel, effect, apply, changed_indexes, new_stamp}
use Rattle.vv_flat.specs.Replay.{is_fresh, fits, replayed}
use Rattle.vv_flat.proofs.MapLists.{map-after}
use Rattle.vv_flat.proofs.MapDurable.{map-clone_of}
use Rattle.vv_flat.proofs.Filled.{geometry-effect}
use Rattle.vv_flat.proofs.Steps.{find-passes}
use Rattle.vv_flat.proofs.Shares.{and_left, and_right, and_both, list_all-follows, list_all-both, pieces_of_standings}
use Rattle.vv_flat.proofs.Known.{all-found, all-filter}
use Rattle.vv_flat.proofs.Pool.{is_kept}
use Rattle.vv_flat.proofs.Lookups.{each-found}
use Rattle.vv_flat.proofs.Charges.{formed_clones, clones_rise}
use Rattle.vv_flat.proofs.Standings.{passes, AllPass, by_kind, of_kinds, new_home, stays_right}
use Rattle.vv_flat.proofs.NewEntries.{all-always, all-take, all-swap, none_counted, rising-take, rising-drop, touched_rise, indexes_rise, first_apart, eq_turn, agrees_turn, unmapped_agrees, old_agrees, new_pieces, each_new, all_new_agree, misses, other_misses, allocated_pass}

-- What is known of a change's new entries: their indexes rise; no old entry at one of them has their stamp, which is a
-- number up to the next one of the log; and it is no number of a running clone but of the one in whose target they stand.
record New (d : Durable Entry) (left : List (RunningClone Entry)) (s : ℕ) (home : Option ℕ) (is : List ℕ) : Type 0 where
  rises : all_rising is ≡ true
  misses_old : list_all (misses is s) (all_pieces d) ≡ true
  given : list_all (λ _. not (s == 0) && nat_le s (d.lsn + 1)) is ≡ true
  owned : list_all (λ _. list_all (λ (c : RunningClone Entry). not (s == c.number) || if_found home (λ n. n == c.number) false) left) is ≡ true

none_new : (d : Durable Entry) (left : List (RunningClone Entry)) (s : ℕ) (home : Option ℕ) → New d left s home []
none_new d left s home = record {
  rises = refl;
  misses_old = all-always (misses [] s) (λ a. refl) (all_pieces d);
  given = refl;
  owned = refl;
}

-- the indexes of a turn: none, or those of a running clone
turned_case : (d : Durable Entry) (n : ℕ) (P : List ℕ → Type 0) → P []
    → ((t : Task) (c : RunningClone Entry) → task_of d n ≡ Some t → t.number ≡ n → clone_of d n ≡ Some c
    → P (turn_indexes (map (λ (e : Entry). e.stamp) c.image) t.done))
    → P (turned_indexes (λ (e : Entry). e.stamp) d n)
unfolding turned_indexes
turned_case d n P none some = of_task (task_of d n) refl
  where
    of_clone : (t : Task) → task_of d n ≡ Some t → t.number ≡ n → (o : Option (RunningClone Entry)) → clone_of d t.number ≡ o
        → P (if_found o (λ (c : RunningClone Entry). turn_indexes (map (λ (e : Entry). e.stamp) c.image) t.done) [])
    of_clone t found number None e = none
    of_clone t found number (Some c) e = some t c found number (ap (λ m. clone_of d m) (sym number) ∙ e)

    of_job : (t : Task) → task_of d n ≡ Some t → t.number ≡ n → (job : Job) → P (job_indexes (λ (e : Entry). e.stamp) d t job)
    of_job t found number (Clone source) = of_clone t found number (clone_of d t.number) refl
    of_job t found number (Copy source base target) = none

    of_run : (t : Task) → task_of d n ≡ Some t → t.number ≡ n → (b : Bool) → P (cond b (job_indexes (λ (e : Entry). e.stamp) d t t.job) [])
    of_run t found number true = of_job t found number t.job
    of_run t found number false = none

    of_task : (o : Option Task) → task_of d n ≡ o → P (if_found o (λ t. cond (is_running t) (job_indexes (λ (e : Entry). e.stamp) d t t.job) []) [])
    of_task None e = none
    of_task (Some t) e =
        of_run t e (eqb-true t.number n (find-passes (λ (u : Task). u.number == n) d.tasks t e)) (is_running t)

-- What the form and the rules say of the running clones of tables.
record Clones (d : Durable Entry) : Type 0 where
  logged : list_all (λ (c : RunningClone Entry). is_logged d.lsn c.number) d.clones ≡ true
  rise : all_rising (map (λ (c : RunningClone Entry). c.number) d.clones) ≡ true
  kept : (t : Task) (c : RunningClone Entry) → task_of d t.number ≡ Some t → clone_of d t.number ≡ Some c
      → is_clone_kept (map_clone (λ (e : Entry). e.stamp) c) t ≡ true

clones_of : (d : Durable Entry) → is_formed (shape_of_tables d) ≡ true → numbers_rule (shape_of_tables d) ≡ true
    → clones_rule (shape_of_tables d) ≡ true → Clones d
unfolding numbers_rule
clones_of d form numbers rule =
    let same : map (λ (c : RunningClone ℕ). c.number) (shape_of_tables d).clones ≡ map (λ (c : RunningClone Entry). c.number) d.clones =
    map-after (map_clone (λ (e : Entry). e.stamp)) (λ (c : RunningClone ℕ). c.number) (λ (c : RunningClone Entry). c.number) (λ c. refl) d.clones in
    let tasks : list_all (λ (t : Task). is_logged d.lsn t.number) d.tasks ≡ true =
    list_all-follows _ (λ (t : Task). is_logged d.lsn t.number) (λ t e. and_left (is_logged d.lsn t.number) _ e) d.tasks
    (and_right _ _ (and_left _ _ (and_left _ _ numbers))) in
    record {
      logged = sym (list_all-map (is_logged d.lsn) (λ (c : RunningClone Entry). c.number) d.clones)
          ∙ ap (list_all (is_logged d.lsn)) (sym same ∙ formed_clones (shape_of_tables d) form)
          ∙ list_all-map (is_logged d.lsn) (λ (t : Task). t.number) (filter (λ t. is_running t && is_clone t.job) d.tasks)
          ∙ all-filter (λ (t : Task). is_logged d.lsn t.number) (λ t. is_running t && is_clone t.job) d.tasks tasks;
      rise = ap all_rising (sym same) ∙ clones_rise (shape_of_tables d) form;
      kept = (λ t c found e. is_kept (shape_of_tables d) t (map_clone (λ (x : Entry). x.stamp) c) rule found (of_shape t.number c e));
    }
  where
    some_same : (o : Option (RunningClone ℕ)) → if_found o (λ c. Some c) None ≡ o
    some_same None = refl
    some_same (Some c) = refl

    of_shape : (n : ℕ) (c : RunningClone Entry) → clone_of d n ≡ Some c
        → clone_of (shape_of_tables d) n ≡ Some (map_clone (λ (x : Entry). x.stamp) c)
    of_shape n c e =
        sym (some_same (clone_of (shape_of_tables d) n))
        ∙ sym (map-clone_of (λ (x : Entry). x.stamp) d n (λ (o : Option (RunningClone ℕ)). o)
        (λ c. Some (map_clone (λ (x : Entry). x.stamp) c)) (λ c. Some c) None None (λ c. refl) refl)
        ∙ ap (λ (o : Option (RunningClone Entry)). if_found o (λ c. Some (map_clone (λ (x : Entry). x.stamp) c)) None) e

-- what holds of all pieces, and of all standing entries
piece_all : (t : Piece Entry → Bool) (d : Durable Entry) → list_all t (all_pieces d) ≡ list_all (λ (a : Standing). t a.piece) (standings d)
piece_all t d =
    ap (list_all t) (sym (pieces_of_standings d)) ∙ list_all-map t (λ (a : Standing). a.piece) (standings d)

or_false : (a : Bool) → (not a || false) ≡ true → a ≡ false
or_false true e = cc
or_false false e = refl

module _ (d : Durable Entry) (clones : Clones d) (shared : shares d ≡ true) where
  old_shared : list_all (is_shared_rightly d) (standings d) ≡ true
  unfolding shares
  old_shared = shared

  old_stamp : (a : Standing) → is_shared_rightly d a ≡ true → a.piece.chunk.stamp ≤ d.lsn
  old_stamp a e = leb-true a.piece.chunk.stamp d.lsn (and_right _ _ (and_left _ _ (and_left _ _ e)))

  old_owned : AllPass (is_own_stamp d.clones) (λ _. true) d
  old_owned =
      by_kind (is_own_stamp d.clones) (λ _. true) d
      (list_all-follows (is_shared_rightly d) (is_own_stamp d.clones) (λ a e. and_right _ _ (and_left _ _ e)) (standings d) old_shared)
      (all-always (λ (c : RunningClone Entry). true) (λ c. refl) d.clones)

  -- An entry that stands in no target of a running clone doesn't have the clone's number.
  elsewhere : (n : ℕ) (c : RunningClone Entry) → clone_of d n ≡ Some c → (o : Option ℕ) → if_found o (λ m. m == n) false ≡ false
      → (p : Piece Entry) → passes (is_own_stamp d.clones) o p ≡ true → (p.chunk.stamp == n) ≡ false
  elsewhere n c found o apart p e =
      let number : c.number ≡ n = eqb-true c.number n (find-passes (λ (b : RunningClone Entry). b.number == n) d.clones c found) in
      let own : (not (p.chunk.stamp == c.number) || if_found o (λ m. m == c.number) false) ≡ true =
      all-found (λ (b : RunningClone Entry). not (p.chunk.stamp == b.number) || if_found o (λ m. m == b.number) false)
      (λ (b : RunningClone Entry). b.number == n) c d.clones e found in
      or_false (p.chunk.stamp == n)
      (ap (λ b. not (p.chunk.stamp == n) || b) (sym apart)
      ∙ ap (λ m. not (p.chunk.stamp == m) || if_found o (λ k. k == m) false) (sym number) ∙ own)

  -- The target of a running clone has nothing yet at the indexes of the next turn.
  target_misses : (t : Task) (c : RunningClone Entry) → task_of d t.number ≡ Some t → clone_of d t.number ≡ Some c → (t.number == 0) ≡ false
      → list_all (misses (turn_indexes (map (λ (e : Entry). e.stamp) c.image) t.done) t.number) (indexed c.target) ≡ true
  target_misses t c found at some =
      let indexes : List ℕ = allocated_indexes (map (λ (e : Entry). e.stamp) c.image) in
      let next : List ℕ = take turn_limit (drop t.done indexes) in
      let done : allocated_indexes (map (λ (e : Entry). e.stamp) c.target) ≡ take t.done indexes =
      (bytes_eq-Decides (allocated_indexes (map (λ (e : Entry). e.stamp) c.target)) (take t.done indexes)).0
      (and_right _ _ (and_left _ _ (clones.kept t c found at))) in
      let apart : list_all (λ j. list_all (λ i. not (j == i)) next) (take t.done indexes) ≡ true =
      list_all-follows (λ j. list_all (λ i. not (j == i)) (drop t.done indexes)) (λ j. list_all (λ i. not (j == i)) next)
      (λ j e. all-take (λ i. not (j == i)) turn_limit (drop t.done indexes) e) (take t.done indexes)
      (first_apart t.done indexes (indexes_rise (λ i s. not (s == 0)) 0 (map (λ (e : Entry). e.stamp) c.image))) in
      list_all-follows (λ (p : Piece Entry). (p.chunk.stamp == 0) || list_all (λ i. not (p.index == i)) next) (misses next t.number)
      (λ p e. of_stamp next p (p.chunk.stamp == 0) refl e) (indexed c.target)
      (allocated_pass (λ j. list_all (λ i. not (j == i)) next) 0 c.target (ap (list_all (λ j. list_all (λ i. not (j == i)) next)) done ∙ apart))
    where
      of_index : (p : Piece Entry) (i : ℕ) (b : Bool) → not b ≡ true → not (b && (p.chunk.stamp == t.number)) ≡ true
      of_index p i true e = cc
      of_index p i false e = refl

      of_stamp : (is : List ℕ) (p : Piece Entry) (b : Bool) → (p.chunk.stamp == 0) ≡ b → (b || list_all (λ i. not (p.index == i)) is) ≡ true
          → misses is t.number p ≡ true
      of_stamp is p true at e =
          let none : p.chunk.stamp ≡ 0 = eqb-true p.chunk.stamp 0 at in
          other_misses is t.number p
          (ne_eqb p.chunk.stamp t.number (λ f. eqb-false t.number 0 some (sym f ∙ none)))
      of_stamp is p false at e =
          list_all-follows (λ i. not (p.index == i)) (λ i. not ((p.index == i) && (p.chunk.stamp == t.number)))
          (λ i f. of_index p i (p.index == i) f) is e

  -- No old entry has the stamp of a clone's turn at one of its indexes.
  turn_misses : (t : Task) (c : RunningClone Entry) → task_of d t.number ≡ Some t → clone_of d t.number ≡ Some c → (t.number == 0) ≡ false
      → list_all (misses (turn_indexes (map (λ (e : Entry). e.stamp) c.image) t.done) t.number) (all_pieces d) ≡ true
  turn_misses t c found at some =
      let n : ℕ = t.number in
      let test : Piece Entry → Bool = misses (turn_indexes (map (λ (e : Entry). e.stamp) c.image) t.done) n in
      let outside : (ps : List (Piece Entry)) → list_all (passes (is_own_stamp d.clones) None) ps ≡ true → list_all test ps ≡ true =
      (λ ps e. list_all-follows (passes (is_own_stamp d.clones) None) test
      (λ p own. other_misses (turn_indexes (map (λ (e : Entry). e.stamp) c.image) t.done) n p (elsewhere n c at None refl p own)) ps e) in
      piece_all test d
      ∙ of_kinds (λ a. test a.piece) (λ _. true) d (record {
        volumes = list_all-follows (λ (v : Volume Entry). list_all (passes (is_own_stamp d.clones) None) (indexed v.chunks))
            (λ (v : Volume Entry). list_all test (indexed v.chunks)) (λ v e. outside (indexed v.chunks) e) d.volumes old_owned.volumes;
        clones = each-found (λ (b : RunningClone Entry). b.number)
            (λ (b : RunningClone Entry). list_all test (indexed b.image) && list_all test (indexed b.target)) d.clones clones.rise
            (λ b is. let old : (list_all (passes (is_own_stamp d.clones) None) (indexed b.image)
            && list_all (passes (is_own_stamp d.clones) (Some b.number)) (indexed b.target)) ≡ true =
            all-found
            (λ (b : RunningClone Entry). list_all (passes (is_own_stamp d.clones) None) (indexed b.image)
            && list_all (passes (is_own_stamp d.clones) (Some b.number)) (indexed b.target))
            (λ (e : RunningClone Entry). e.number == b.number) b d.clones old_owned.clones is in
            and_both (list_all test (indexed b.image)) (list_all test (indexed b.target))
            (outside (indexed b.image) (and_left (list_all (passes (is_own_stamp d.clones) None) (indexed b.image)) _ old))
            (of_target b is (b.number == n) refl (and_right (list_all (passes (is_own_stamp d.clones) None) (indexed b.image)) _ old)));
        copies = list_all-follows (λ (b : RunningCopy Entry). list_all (passes (is_own_stamp d.clones) None) b.pieces)
            (λ (b : RunningCopy Entry). list_all test b.pieces) (λ b e. outside b.pieces e) d.copies old_owned.copies;
        numbers = old_owned.numbers;
      })
    where
      of_target : (b : RunningClone Entry) → clone_of d b.number ≡ Some b → (same : Bool) → (b.number == t.number) ≡ same
          → list_all (passes (is_own_stamp d.clones) (Some b.number)) (indexed b.target) ≡ true
          → list_all (misses (turn_indexes (map (λ (e : Entry). e.stamp) c.image) t.done) t.number) (indexed b.target) ≡ true
      of_target b is true same old =
          let number : b.number ≡ t.number = eqb-true b.number t.number same in
          let also : clone_of d t.number ≡ Some b = ap (λ m. clone_of d m) (sym number) ∙ is in
          let one : c ≡ b = cc in
          ap (λ (e : RunningClone Entry). list_all (misses (turn_indexes (map (λ (x : Entry). x.stamp) c.image) t.done) t.number) (indexed e.target)) (sym one)
          ∙ target_misses t c found at some
      of_target b is false same old =
          list_all-follows (passes (is_own_stamp d.clones) (Some b.number)) (misses (turn_indexes (map (λ (x : Entry). x.stamp) c.image) t.done) t.number)
          (λ p own. other_misses (turn_indexes (map (λ (x : Entry). x.stamp) c.image) t.done) t.number p
          (elsewhere t.number c at (Some b.number) same p own)) (indexed b.target) old

  own_or_other : (b : Bool) → (not b || b) ≡ true
  own_or_other true = refl
  own_or_other false = refl

  turn_new : (left : List (RunningClone Entry)) (t : Task) (c : RunningClone Entry) → task_of d t.number ≡ Some t → clone_of d t.number ≡ Some c
      → New d left t.number (Some t.number) (turn_indexes (map (λ (e : Entry). e.stamp) c.image) t.done)
  turn_new left t c found at =
      let is : List ℕ = turn_indexes (map (λ (e : Entry). e.stamp) c.image) t.done in
      let number : c.number ≡ t.number = eqb-true c.number t.number (find-passes (λ (b : RunningClone Entry). b.number == t.number) d.clones c at) in
      let logged : is_logged d.lsn c.number ≡ true =
      all-found (λ (b : RunningClone Entry). is_logged d.lsn b.number) (λ (b : RunningClone Entry). b.number == t.number) c d.clones clones.logged at in
      let least : 1 ≤ c.number = leb-true 1 c.number (and_left (nat_le 1 c.number) (nat_le c.number d.lsn) logged) in
      let most : c.number ≤ d.lsn = leb-true c.number d.lsn (and_right (nat_le 1 c.number) (nat_le c.number d.lsn) logged) in
      let some : (t.number == 0) ≡ false = ne_eqb t.number 0 (λ e. omega arith) in
      record {
        rises = rising-take turn_limit (drop t.done (allocated_indexes (map (λ (e : Entry). e.stamp) c.image)))
            (rising-drop t.done (allocated_indexes (map (λ (e : Entry). e.stamp) c.image))
            (indexes_rise (λ i s. not (s == 0)) 0 (map (λ (e : Entry). e.stamp) c.image)));
        misses_old = turn_misses t c found at some;
        given = all-always (λ (i : ℕ). not (t.number == 0) && nat_le t.number (d.lsn + 1))
            (λ i. and_both (not (t.number == 0)) (nat_le t.number (d.lsn + 1)) (ap not some) (le-leb t.number (d.lsn + 1) (omega arith))) is;
        owned = all-always (λ (i : ℕ). list_all (λ (b : RunningClone Entry). not (t.number == b.number) || (t.number == b.number)) left)
            (λ i. all-always (λ (b : RunningClone Entry). not (t.number == b.number) || (t.number == b.number))
            (λ b. own_or_other (t.number == b.number)) left) is;
      }

  write_new : (first blocks : ℕ) → New d d.clones (d.lsn + 1) None (touched_indexes d.geometry.chunk_blocks first blocks)
  write_new first blocks =
      let is : List ℕ = touched_indexes d.geometry.chunk_blocks first blocks in
      record {
        rises = touched_rise d.geometry.chunk_blocks first blocks;
        misses_old = piece_all (misses is (d.lsn + 1)) d
            ∙ list_all-follows (is_shared_rightly d) (λ (a : Standing). misses is (d.lsn + 1) a.piece)
            (λ a e. let le : a.piece.chunk.stamp ≤ d.lsn = old_stamp a e in
            other_misses is (d.lsn + 1) a.piece (ne_eqb a.piece.chunk.stamp (d.lsn + 1) (λ f. omega arith))) (standings d) old_shared;
        given = all-always (λ (i : ℕ). not (d.lsn + 1 == 0) && nat_le (d.lsn + 1) (d.lsn + 1))
            (λ i. and_both (not (d.lsn + 1 == 0)) (nat_le (d.lsn + 1) (d.lsn + 1)) (ap not (ne_eqb (d.lsn + 1) 0 (λ e. omega arith)))
            (le-leb (d.lsn + 1) (d.lsn + 1) (omega arith))) is;
        owned = all-always (λ (i : ℕ). list_all (λ (c : RunningClone Entry). not (d.lsn + 1 == c.number) || false) d.clones)
            (λ i. list_all-follows (λ (c : RunningClone Entry). is_logged d.lsn c.number) (λ (c : RunningClone Entry). not (d.lsn + 1 == c.number) || false)
            (λ c e. let le : c.number ≤ d.lsn = leb-true c.number d.lsn (and_right (nat_le 1 c.number) (nat_le c.number d.lsn) e) in
            ap (λ b. not b || false) (ne_eqb (d.lsn + 1) c.number (λ f. omega arith))) d.clones clones.logged) is;
      }

  new_of : (values : List Entry) (change : Change)
      → New d (effect (λ (e : Entry). e.stamp) values unmapped_entry d change).clones (new_stamp d change) (new_home change)
      (changed_indexes (λ (e : Entry). e.stamp) d change)
  unfolding effect changed_indexes
  new_of values (MakeContainer quota offers) = none_new d _ _ _
  new_of values (MakeVolume k vtype chunks needs) = none_new d _ _ _
  new_of values (DeleteVolume n) = none_new d _ _ _
  new_of values (GrowVolume n chunks) = none_new d _ _ _
  new_of values (SetMetadata n key text) = none_new d _ _ _
  new_of values (Snapshot n) = none_new d _ _ _
  new_of values (FastClone n) = none_new d _ _ _
  new_of values (Revert n snapshot) = none_new d _ _ _
  new_of values (Write n first blocks) = write_new first blocks
  new_of values (Unmap n ranges) = none_new d _ _ _
  new_of values (SetEndpoints host endpoints) = none_new d _ _ _
  new_of values (Bind host n) = none_new d _ _ _
  new_of values (Unbind host endpoint secondary) = none_new d _ _ _
  new_of values (UnbindAll host) = none_new d _ _ _
  new_of values (StartClone n) = none_new d _ _ _
  new_of values (StartCopy source base target) = none_new d _ _ _
  new_of values (Turn n) =
      let left : List (RunningClone Entry) = (effect (λ (e : Entry). e.stamp) values unmapped_entry d (Turn n)).clones in
      turned_case d n (λ is. New d left n (Some n) is) (none_new d left n (Some n))
      (λ t c found number at. of_number left t c n number found at)
    where
      of_number : (left : List (RunningClone Entry)) (t : Task) (c : RunningClone Entry) (m : ℕ) → t.number ≡ m → task_of d m ≡ Some t
          → clone_of d m ≡ Some c → New d left m (Some m) (turn_indexes (map (λ (e : Entry). e.stamp) c.image) t.done)
      of_number left t c m number found at =
          let task : task_of d t.number ≡ Some t = ap (λ k. task_of d k) number ∙ found in
          let clone : clone_of d t.number ≡ Some c = ap (λ k. clone_of d k) number ∙ at in
          subst (λ k. New d left k (Some k) (turn_indexes (map (λ (e : Entry). e.stamp) c.image) t.done)) number (turn_new left t c task clone)
  new_of values (Cancel n) = none_new d _ _ _

  module _ (change : Change) (places : List ℕ) (fresh : list_all (is_fresh d) places ≡ true) (different : all_different places ≡ true) where
    abbrev stamp : ℕ
    stamp = new_stamp d change

    abbrev indexes : List ℕ
    indexes = changed_indexes (λ (e : Entry). e.stamp) d change

    abbrev values : List Entry
    values = placed_entries places stamp

    abbrev news : List (Piece Entry)
    news = new_pieces stamp indexes places

    abbrev after : Durable Entry
    after = effect (λ (e : Entry). e.stamp) values unmapped_entry d change

    new : New d after.clones stamp (new_home change) indexes
    new = new_of values change

    -- no old entry names a new place
    unnamed : list_all (λ (a : Piece Entry). list_all (λ p. not (names_place p a)) places) (all_pieces d) ≡ true
    unfolding place_count
    unnamed =
        all-swap (λ p (a : Piece Entry). not (names_place p a)) places (all_pieces d)
        (list_all-follows (is_fresh d) (λ p. list_all (λ (a : Piece Entry). not (names_place p a)) (all_pieces d))
        (λ p e. none_counted (names_place p) (all_pieces d)
        (eqb-true (count_by (names_place p) (all_pieces d)) 0 (and_right (nat_lt p d.geometry.pool_chunks) _ e))) places fresh)

    old_meet_new : list_all (λ (a : Piece Entry). list_all (agrees a) news) (all_pieces d) ≡ true
    old_meet_new =
        list_all-both (misses indexes stamp) (λ (a : Piece Entry). list_all (λ p. not (names_place p a)) places)
        (λ (a : Piece Entry). list_all (agrees a) news)
        (λ a e f. each_new stamp (agrees a) (λ i. not ((a.index == i) && (a.chunk.stamp == stamp))) (λ p. not (names_place p a))
        (λ i p g h. old_agrees a stamp i p g h) indexes places e f) (all_pieces d) new.misses_old unnamed

    new_meet_old : list_all (λ (b : Piece Entry). list_all (agrees b) (all_pieces d)) news ≡ true
    new_meet_old =
        list_all-follows (λ (b : Piece Entry). list_all (λ a. agrees a b) (all_pieces d)) (λ (b : Piece Entry). list_all (agrees b) (all_pieces d))
        (λ b e. list_all-follows (λ a. agrees a b) (agrees b) (λ a f. agrees_turn b a ∙ f) (all_pieces d) e) news
        (all-swap agrees (all_pieces d) news old_meet_new)

    -- What agrees with the old entries and the new ones agrees with all that stand afterwards.
    meets_all : (a : Piece Entry) → list_all (agrees a) (all_pieces d) ≡ true → list_all (agrees a) news ≡ true
        → list_all (agrees a) (all_pieces after) ≡ true
    meets_all a old e =
        piece_all (agrees a) after
        ∙ of_kinds (λ b. agrees a b.piece) (λ _. true) after
        (stays_right d values change (λ b. agrees a b.piece) (λ _. true) (record {
          free = (λ o i. unmapped_agrees a i);
          stands = sym (piece_all (agrees a) d) ∙ old;
          ends = (λ n gone p h. h);
          numbers = all-always (λ (c : RunningClone Entry). true) (λ c. refl) d.clones;
          next = refl;
          rise = clones.rise;
        }) e)

    -- The clones that run afterwards ran before, or have the next log number.
    numbers_after : (q : ℕ → Bool) → list_all (λ (c : RunningClone Entry). q c.number) d.clones ≡ true → q (d.lsn + 1) ≡ true
        → list_all (λ (c : RunningClone Entry). q c.number) after.clones ≡ true
    numbers_after q old next =
        (stays_right d values change (λ _. true) q (record {
          free = (λ o i. refl);
          stands = all-always (λ (a : Standing). true) (λ a. refl) (standings d);
          ends = (λ n gone p h. refl);
          numbers = old;
          next = next;
          rise = clones.rise;
        }) (all-always (λ (b : Piece Entry). true) (λ b. refl) news)).numbers

    abbrev right : Standing → Bool
    right a = is_shared_rightly (record after { lsn = d.lsn + 1 }) a

    rightly : (a : Standing) → is_placed d.geometry.pool_chunks a.piece.chunk ≡ true → nat_le a.piece.chunk.stamp (d.lsn + 1) ≡ true
        → is_own_stamp after.clones a ≡ true → list_all (agrees a.piece) (all_pieces after) ≡ true → right a ≡ true
    rightly a e f g h =
        and_both _ _
        (and_both _ _
        (and_both _ _
        (ap (λ (m : Geometry). is_placed m.pool_chunks a.piece.chunk) (geometry-effect (λ (x : Entry). x.stamp) values unmapped_entry d change) ∙ e)
        f) g) h

    or_this : (a b : Bool) → a ≡ true → (a || b) ≡ true
    or_this true b e = refl
    or_this false b e = cc

    unmapped_rightly : (o : Option ℕ) (i : ℕ) → right (record { target_of = o; piece = record { index = i; chunk = unmapped_entry } }) ≡ true
    unmapped_rightly o i =
        rightly (record { target_of = o; piece = record { index = i; chunk = unmapped_entry } }) refl (le-leb 0 (d.lsn + 1) (omega arith))
        (list_all-follows (λ (c : RunningClone Entry). not (0 == c.number))
        (λ (c : RunningClone Entry). not (0 == c.number) || if_found o (λ n. n == c.number) false)
        (λ c e. or_this (not (0 == c.number)) _ e) after.clones
        (numbers_after (λ m. not (0 == m))
        (list_all-follows (λ (c : RunningClone Entry). is_logged d.lsn c.number) (λ (c : RunningClone Entry). not (0 == c.number))
        (λ c e. let least : 1 ≤ c.number = leb-true 1 c.number (and_left (nat_le 1 c.number) (nat_le c.number d.lsn) e) in
        ap not (ne_eqb 0 c.number (λ f. omega arith))) d.clones clones.logged)
        (ap not (ne_eqb 0 (d.lsn + 1) (λ f. omega arith)))))
        (all-always (agrees (record { index = i; chunk = unmapped_entry })) (λ b. refl) (all_pieces after))

    old_rightly : (a : Standing) → is_shared_rightly d a ≡ true → list_all (agrees a.piece) news ≡ true → right a ≡ true
    old_rightly a e f =
        let le : a.piece.chunk.stamp ≤ d.lsn = old_stamp a e in
        rightly a (and_left _ _ (and_left _ _ (and_left _ _ e))) (le-leb a.piece.chunk.stamp (d.lsn + 1) (omega arith))
        (numbers_after (λ m. not (a.piece.chunk.stamp == m) || if_found a.target_of (λ n. n == m) false)
        (and_right _ _ (and_left _ _ e))
        (or_this (not (a.piece.chunk.stamp == d.lsn + 1)) _ (ap not (ne_eqb a.piece.chunk.stamp (d.lsn + 1) (λ f. omega arith)))))
        (meets_all a.piece (and_right _ _ e) f)

    -- An entry of a target whose clone is no more may stand elsewhere.
    own_no_more : (n : ℕ) (p : Piece Entry) → list_all (λ (c : RunningClone Entry). not (c.number == n)) after.clones ≡ true
        → passes (is_own_stamp after.clones) (Some n) p ≡ true → passes (is_own_stamp after.clones) None p ≡ true
    own_no_more n p gone e =
        list_all-both (λ (c : RunningClone Entry). not (c.number == n)) (λ (c : RunningClone Entry). not (p.chunk.stamp == c.number) || (n == c.number))
        (λ (c : RunningClone Entry). not (p.chunk.stamp == c.number) || false)
        (λ c f g. ap (λ b. not (p.chunk.stamp == c.number) || b) (sym (eq_turn n c.number ∙ not-true (c.number == n) f)) ∙ g)
        after.clones gone e

    ends_rightly : (n : ℕ) → list_all (λ (c : RunningClone Entry). not (c.number == n)) after.clones ≡ true → (p : Piece Entry)
        → passes right (Some n) p ≡ true → passes right None p ≡ true
    ends_rightly n gone p e =
        and_both _ _ (and_both _ _ (and_left _ _ (and_left _ _ e)) (own_no_more n p gone (and_right _ _ (and_left _ _ e)))) (and_right _ _ e)

    abbrev new_alone : Piece Entry → Bool
    new_alone b =
        (is_placed d.geometry.pool_chunks b.chunk && nat_le b.chunk.stamp (d.lsn + 1)) && passes (is_own_stamp after.clones) (new_home change) b

    all_new_alone : list_all new_alone news ≡ true
    all_new_alone =
        each_new stamp new_alone
        (λ _. (not (stamp == 0) && nat_le stamp (d.lsn + 1))
        && list_all (λ (c : RunningClone Entry). not (stamp == c.number) || if_found (new_home change) (λ n. n == c.number) false) after.clones)
        (is_fresh d)
        (λ i p e f. and_both _ _
        (and_both _ _ (and_both _ _ (and_left (not (stamp == 0)) _ (and_left _ _ e)) (and_left (nat_lt p d.geometry.pool_chunks) _ f))
        (and_right (not (stamp == 0)) _ (and_left _ _ e)))
        (and_right _ _ e)) indexes places
        (list_all-both (λ _. not (stamp == 0) && nat_le stamp (d.lsn + 1))
        (λ _. list_all (λ (c : RunningClone Entry). not (stamp == c.number) || if_found (new_home change) (λ n. n == c.number) false) after.clones)
        (λ _. (not (stamp == 0) && nat_le stamp (d.lsn + 1))
        && list_all (λ (c : RunningClone Entry). not (stamp == c.number) || if_found (new_home change) (λ n. n == c.number) false) after.clones)
        (λ i e f. and_both _ _ e f) indexes new.given new.owned)
        fresh

    all_new_rightly : list_all (passes right (new_home change)) news ≡ true
    all_new_rightly =
        list_all-both new_alone (λ b. list_all (agrees b) (all_pieces d) && list_all (agrees b) news) (passes right (new_home change))
        (λ b e f. rightly (record { target_of = new_home change; piece = b }) (and_left _ _ (and_left _ _ e)) (and_right _ _ (and_left _ _ e))
        (and_right _ _ e) (meets_all b (and_left _ _ f) (and_right _ _ f))) news all_new_alone
        (list_all-both (λ b. list_all (agrees b) (all_pieces d)) (λ b. list_all (agrees b) news)
        (λ b. list_all (agrees b) (all_pieces d) && list_all (agrees b) news) (λ b e f. and_both _ _ e f) news new_meet_old
        (all_new_agree stamp indexes places new.rises different))

    all_rightly : list_all right (standings after) ≡ true
    all_rightly =
        of_kinds right (λ _. true) after
        (stays_right d values change right (λ _. true) (record {
          free = unmapped_rightly;
          stands = list_all-both (is_shared_rightly d) (λ (a : Standing). list_all (agrees a.piece) news) right old_rightly (standings d)
              old_shared (sym (piece_all (λ a. list_all (agrees a) news) d) ∙ old_meet_new);
          ends = ends_rightly;
          numbers = all-always (λ (c : RunningClone Entry). true) (λ c. refl) d.clones;
          next = refl;
          rise = clones.rise;
        }) all_new_rightly)

pub sharing_stays : (tables : Durable Entry) → (change : Change) → (places : List ℕ) → keeps_shape_rules (shape_of_tables tables) ≡ true
    → shares tables ≡ true → fits tables change places ≡ true → shares (replayed tables change places) ≡ true
unfolding keeps_shape_rules shares fits replayed apply standings
sharing_stays tables change places rules shared fit =
    let clones : Clones tables =
    clones_of tables (and_left _ _ (and_left _ _ (and_left _ _ (and_left _ _ (and_left _ _ (and_left _ _ (and_left _ _ (and_left _ _ rules))))))))
    (and_right _ _ (and_left _ _ (and_left _ _ (and_left _ _ (and_left _ _ (and_left _ _ (and_left _ _ (and_left _ _ rules))))))))
    (and_right _ _ (and_left _ _ rules)) in
    all_rightly tables clones shared change places (and_right _ _ fit) (and_right _ _ (and_left _ _ fit))
