-- What is known of the stamps of an array, and of the new ones of a change: they were given by the log, and a new stamp
-- stands nowhere yet at its index. This is said of any kind of chunk.
use Rattle.std.proofs.Common.{◌≡◌, ◌≤◌, ℕ, ◌+◌, ◌==◌, ◌&&◌, ◌||◌, not, refl, ap, sym, ◌∙◌, subst, Bool, true, false, cond, List, [], ◌∷◌, ◌++◌, map, take, drop, arith}
use Rattle.std.specs.Prelude.{Option, Some, None, nat_le}
use Rattle.std.specs.List.{filter, flat_map, list_all}
use Rattle.std.proofs.lemmas.List.Folds.{list_all-map, list_all-append}
use Rattle.std.proofs.lemmas.Bool.{leb-true, le-leb, eqb-true, eqb-false, ne_eqb, and_right as and_false}
use Rattle.std.proofs.lemmas.Slice.Eq.{bytes_eq-Decides}
use Rattle.vv_flat.specs.Lists.{if_found, mapped_from, indexes_from, all_rising}
use Rattle.vv_flat.specs.State.{Durable, Volume, RunningClone, RunningCopy, Piece, Task, Job, Clone, Copy, map_clone, map_durable, indexed, all_pieces, clone_of, task_of}
use Rattle.vv_flat.specs.FlatForm.{is_given}
use Rattle.vv_laws.proofs.Standing.{AllPass, new_home}
use Rattle.vv_flat.specs.Chunks.{touched_indexes}
use Rattle.vv_flat.specs.Space.{is_running, is_clone}
use Rattle.vv_flat.specs.Bits.{allocated_indexes}
use Rattle.vv_flat.specs.Tasks.{turned_indexes, job_indexes, turn_indexes, turn_limit}
use Rattle.vv_flat.specs.Form.{is_formed}
use Rattle.vv_flat.specs.Rules.{is_logged, numbers_rule, clones_rule, is_clone_kept}
use Rattle.vv_flat.specs.Changes.{Change, MakeContainer, MakeVolume, DeleteVolume, GrowVolume, SetMetadata, Snapshot, FastClone, Revert, Write, Unmap, SetEndpoints, Bind, Unbind, UnbindAll, StartClone, StartCopy, Turn, Cancel, effect, changed_indexes, new_stamp}
use Rattle.vv_flat.proofs.MapLists.{map-after}
use Rattle.vv_flat.proofs.MapDurable.{map-clone_of}
use Rattle.vv_flat.proofs.Steps.{find-passes}
use Rattle.vv_flat.proofs.Shares.{and_left, and_right, and_both, list_all-follows}
use Rattle.vv_flat.proofs.Known.{all-found, all-filter}
use Rattle.vv_flat.proofs.Pool.{is_kept}
use Rattle.vv_flat.proofs.Lookups.{each-found}
use Rattle.vv_flat.proofs.Charges.{formed_clones, clones_rise}
use Rattle.vv_flat.proofs.NewEntries.{all-always, all-take, rising-take, rising-drop, touched_rise, indexes_rise, first_apart}

module _ {X : Type 0} (stamp_of : X → ℕ) where
  -- an old entry that isn't one of some indexes with a stamp
  abbrev pub misses : List ℕ → ℕ → Piece X → Bool
  misses is s a = list_all (λ i. not ((a.index == i) && ((stamp_of a.chunk) == s))) is

  pub other_misses : (is : List ℕ) (s : ℕ) (a : Piece X) → ((stamp_of a.chunk) == s) ≡ false → misses is s a ≡ true
  other_misses is s a e =
      all-always (λ i. not ((a.index == i) && ((stamp_of a.chunk) == s))) (λ i. ap not (and_false (a.index == i) ((stamp_of a.chunk) == s) e)) is

  -- the entries of a list whose allocated indexes pass a test
  pub allocated_pass : (g : ℕ → Bool) (k : ℕ) (xs : List X)
      → list_all g (indexes_from (λ i s. not (s == 0)) k (map stamp_of xs)) ≡ true
      → list_all (λ (p : Piece X). ((stamp_of p.chunk) == 0) || g p.index) (mapped_from (λ i x. record { index = i; chunk = x }) k xs) ≡ true
  allocated_pass g k [] e = refl
  allocated_pass g k (x ∷ xs) e =
      allocated_step ((stamp_of x) == 0) (g k) _ (indexes_from (λ i s. not (s == 0)) (k + 1) (map stamp_of xs)) refl e
      (allocated_pass g (k + 1) xs)
    where
      allocated_step : (b c rest : Bool) (ns : List ℕ) → c ≡ g k → list_all g (cond (not b) (k ∷ ns) ns) ≡ true
          → (list_all g ns ≡ true → rest ≡ true) → ((b || c) && rest) ≡ true
      allocated_step true c rest ns is f there = there f
      allocated_step false c rest ns is f there =
          and_both c rest (is ∙ and_left (g k) (list_all g ns) f) (there (and_right (g k) (list_all g ns) f))

-- What is known of a change's new entries: their indexes rise; no old entry at one of them has their stamp, which is a
-- number up to the next one of the log; and it is no number of a running clone but of the one in whose target they stand.
pub record New (X : Type 0) (stamp_of : X → ℕ) (d : Durable X) (left : List (RunningClone X)) (s : ℕ) (home : Option ℕ) (is : List ℕ) : Type 0 where
  pub rises : all_rising is ≡ true
  pub misses_old : list_all (misses stamp_of is s) (all_pieces d) ≡ true
  pub given : list_all (λ _. not (s == 0) && nat_le s (d.lsn + 1)) is ≡ true
  pub owned : list_all (λ _. list_all (λ (c : RunningClone X). not (s == c.number) || if_found home (λ n. n == c.number) false) left) is ≡ true

none_new : {X : Type 0} (stamp_of : X → ℕ) (d : Durable X) (left : List (RunningClone X)) (s : ℕ) (home : Option ℕ) → New X stamp_of d left s home []
none_new stamp_of d left s home = record {
  rises = refl;
  misses_old = all-always (misses stamp_of [] s) (λ a. refl) (all_pieces d);
  given = refl;
  owned = refl;
}

-- the indexes of a turn: none, or those of a running clone
pub turned_case : {X : Type 0} (stamp_of : X → ℕ) (d : Durable X) (n : ℕ) (P : List ℕ → Type 0) → P []
    → ((t : Task) (c : RunningClone X) → task_of d n ≡ Some t → t.number ≡ n → clone_of d n ≡ Some c
    → P (turn_indexes (map stamp_of c.image) t.done))
    → P (turned_indexes stamp_of d n)
unfolding turned_indexes
turned_case {X} stamp_of d n P none some = of_task (task_of d n) refl
  where
    of_clone : (t : Task) → task_of d n ≡ Some t → t.number ≡ n → (o : Option (RunningClone X)) → clone_of d t.number ≡ o
        → P (if_found o (λ (c : RunningClone X). turn_indexes (map stamp_of c.image) t.done) [])
    of_clone t found number None e = none
    of_clone t found number (Some c) e = some t c found number (ap (λ m. clone_of d m) (sym number) ∙ e)

    of_job : (t : Task) → task_of d n ≡ Some t → t.number ≡ n → (job : Job) → P (job_indexes stamp_of d t job)
    of_job t found number (Clone source) = of_clone t found number (clone_of d t.number) refl
    of_job t found number (Copy source base target) = none

    of_run : (t : Task) → task_of d n ≡ Some t → t.number ≡ n → (b : Bool) → P (cond b (job_indexes stamp_of d t t.job) [])
    of_run t found number true = of_job t found number t.job
    of_run t found number false = none

    of_task : (o : Option Task) → task_of d n ≡ o → P (if_found o (λ t. cond (is_running t) (job_indexes stamp_of d t t.job) []) [])
    of_task None e = none
    of_task (Some t) e =
        of_run t e (eqb-true t.number n (find-passes (λ (u : Task). u.number == n) d.tasks t e)) (is_running t)

-- What the form and the rules say of the running clones of an array.
pub record Clones (X : Type 0) (stamp_of : X → ℕ) (d : Durable X) : Type 0 where
  pub logged : list_all (λ (c : RunningClone X). is_logged d.lsn c.number) d.clones ≡ true
  pub rise : all_rising (map (λ (c : RunningClone X). c.number) d.clones) ≡ true
  pub kept : (t : Task) (c : RunningClone X) → task_of d t.number ≡ Some t → clone_of d t.number ≡ Some c
      → is_clone_kept (map_clone stamp_of c) t ≡ true

pub clones_of : {X : Type 0} (stamp_of : X → ℕ) (d : Durable X) → is_formed (map_durable stamp_of d) ≡ true → numbers_rule (map_durable stamp_of d) ≡ true
    → clones_rule (map_durable stamp_of d) ≡ true → Clones X stamp_of d
unfolding numbers_rule
clones_of {X} stamp_of d form numbers rule =
    let same : map (λ (c : RunningClone ℕ). c.number) (map_durable stamp_of d).clones ≡ map (λ (c : RunningClone X). c.number) d.clones =
    map-after (map_clone stamp_of) (λ (c : RunningClone ℕ). c.number) (λ (c : RunningClone X). c.number) (λ c. refl) d.clones in
    let tasks : list_all (λ (t : Task). is_logged d.lsn t.number) d.tasks ≡ true =
    list_all-follows _ (λ (t : Task). is_logged d.lsn t.number) (λ t e. and_left (is_logged d.lsn t.number) _ e) d.tasks
    (and_right _ _ (and_left _ _ (and_left _ _ numbers))) in
    record {
      logged = sym (list_all-map (is_logged d.lsn) (λ (c : RunningClone X). c.number) d.clones)
          ∙ ap (list_all (is_logged d.lsn)) (sym same ∙ formed_clones (map_durable stamp_of d) form)
          ∙ list_all-map (is_logged d.lsn) (λ (t : Task). t.number) (filter (λ t. is_running t && is_clone t.job) d.tasks)
          ∙ all-filter (λ (t : Task). is_logged d.lsn t.number) (λ t. is_running t && is_clone t.job) d.tasks tasks;
      rise = ap all_rising (sym same) ∙ clones_rise (map_durable stamp_of d) form;
      kept = (λ t c found e. is_kept (map_durable stamp_of d) t (map_clone stamp_of c) rule found (of_shape t.number c e));
    }
  where
    some_same : (o : Option (RunningClone ℕ)) → if_found o (λ c. Some c) None ≡ o
    some_same None = refl
    some_same (Some c) = refl

    of_shape : (n : ℕ) (c : RunningClone X) → clone_of d n ≡ Some c
        → clone_of (map_durable stamp_of d) n ≡ Some (map_clone stamp_of c)
    of_shape n c e =
        sym (some_same (clone_of (map_durable stamp_of d) n))
        ∙ sym (map-clone_of stamp_of d n (λ (o : Option (RunningClone ℕ)). o)
        (λ c. Some (map_clone stamp_of c)) (λ c. Some c) None None (λ c. refl) refl)
        ∙ ap (λ (o : Option (RunningClone X)). if_found o (λ c. Some (map_clone stamp_of c)) None) e

-- Tests of what stands.

pub weaker : {X : Type 0} (r s : Option ℕ → Piece X → Bool) (q : ℕ → Bool) (d : Durable X) → ((o : Option ℕ) (p : Piece X) → r o p ≡ true → s o p ≡ true)
    → AllPass X r q d → AllPass X s q d
weaker {X} r s q d h k = record {
  volumes = list_all-follows (λ (v : Volume X). list_all (r None) (indexed v.chunks)) (λ (v : Volume X). list_all (s None) (indexed v.chunks))
      (λ v e. list_all-follows (r None) (s None) (h None) (indexed v.chunks) e) d.volumes k.volumes;
  clones = list_all-follows (λ (c : RunningClone X). list_all (r None) (indexed c.image) && list_all (r (Some c.number)) (indexed c.target))
      (λ (c : RunningClone X). list_all (s None) (indexed c.image) && list_all (s (Some c.number)) (indexed c.target))
      (λ c e. and_both _ _
      (list_all-follows (r None) (s None) (h None) (indexed c.image) (and_left (list_all (r None) (indexed c.image)) _ e))
      (list_all-follows (r (Some c.number)) (s (Some c.number)) (h (Some c.number)) (indexed c.target) (and_right (list_all (r None) (indexed c.image)) _ e)))
      d.clones k.clones;
  copies = list_all-follows (λ (c : RunningCopy X). list_all (r None) c.pieces) (λ (c : RunningCopy X). list_all (s None) c.pieces)
      (λ c e. list_all-follows (r None) (s None) (h None) c.pieces e) d.copies k.copies;
  numbers = k.numbers;
}

all-flat_map_as : {A B : Type 0} (r : B → Bool) (h : A → List B) (k : A → Bool) → ((x : A) → list_all r (h x) ≡ k x) → (xs : List A)
    → list_all r (flat_map h xs) ≡ list_all k xs
all-flat_map_as r h k same [] = refl
all-flat_map_as r h k same (x ∷ xs) =
    list_all-append r (h x) (flat_map h xs) ∙ ap (λ b. b && list_all r (flat_map h xs)) (same x)
    ∙ ap (λ b. k x && b) (all-flat_map_as r h k same xs)

-- a test of all pieces, kind by kind of list
pub piece_kinds : {X : Type 0} (t : Piece X → Bool) (d : Durable X)
    → list_all t (all_pieces d)
    ≡ ((list_all (λ (v : Volume X). list_all t (indexed v.chunks)) d.volumes
    && list_all (λ (c : RunningClone X). list_all t (indexed c.image) && list_all t (indexed c.target)) d.clones)
    && list_all (λ (c : RunningCopy X). list_all t c.pieces) d.copies)
piece_kinds {X} t d =
    list_all-append t
    (flat_map (λ (v : Volume X). indexed v.chunks) d.volumes ++ flat_map (λ (c : RunningClone X). indexed c.image ++ indexed c.target) d.clones)
    (flat_map (λ (c : RunningCopy X). c.pieces) d.copies)
    ∙ ap (λ b. b && list_all t (flat_map (λ (c : RunningCopy X). c.pieces) d.copies))
    (list_all-append t (flat_map (λ (v : Volume X). indexed v.chunks) d.volumes) (flat_map (λ (c : RunningClone X). indexed c.image ++ indexed c.target) d.clones))
    ∙ rw (
      all-flat_map_as t (λ (v : Volume X). indexed v.chunks) (λ v. list_all t (indexed v.chunks)) (λ v. refl) d.volumes,
      all-flat_map_as t (λ (c : RunningClone X). indexed c.image ++ indexed c.target) (λ c. list_all t (indexed c.image) && list_all t (indexed c.target))
          (λ c. list_all-append t (indexed c.image) (indexed c.target)) d.clones,
      all-flat_map_as t (λ (c : RunningCopy X). c.pieces) (λ c. list_all t c.pieces) (λ c. refl) d.copies,
    )

pub pieces_pass : {X : Type 0} (t : Piece X → Bool) (q : ℕ → Bool) (d : Durable X) → AllPass X (λ o p. t p) q d → list_all t (all_pieces d) ≡ true
pieces_pass t q d k = piece_kinds t d ∙ and_both _ _ (and_both _ _ k.volumes k.clones) k.copies

pub pass_pieces : {X : Type 0} (t : Piece X → Bool) (d : Durable X) → list_all t (all_pieces d) ≡ true → AllPass X (λ o p. t p) (λ _. true) d
pass_pieces {X} t d e =
    let k = sym (piece_kinds t d) ∙ e in
    record {
      volumes = and_left _ _ (and_left _ _ k);
      clones = and_right _ _ (and_left _ _ k);
      copies = and_right _ _ k;
      numbers = all-always (λ (c : RunningClone X). true) (λ c. refl) d.clones;
    }

or_false : (a : Bool) → (not a || false) ≡ true → a ≡ false
or_false true e = cc
or_false false e = refl

module _ {X : Type 0} (stamp_of : X → ℕ) (u : X) (d : Durable X) (clones : Clones X stamp_of d)
    (old : AllPass X (λ o p. is_given d.lsn d.clones o (stamp_of p.chunk)) (λ _. true) d) where
  -- the number of a running clone is a stamp in its own target alone
  abbrev pub own : List (RunningClone X) → Option ℕ → Piece X → Bool
  own cs o p = list_all (λ (c : RunningClone X). not (stamp_of p.chunk == c.number) || if_found o (λ n. n == c.number) false) cs

  old_owned : AllPass X (own d.clones) (λ _. true) d
  old_owned =
      weaker (λ o p. is_given d.lsn d.clones o (stamp_of p.chunk)) (own d.clones) (λ _. true) d
      (λ o p e. and_right (nat_le (stamp_of p.chunk) d.lsn) _ e) old

  -- An entry that stands in no target of a running clone doesn't have the clone's number.
  elsewhere : (n : ℕ) (c : RunningClone X) → clone_of d n ≡ Some c → (o : Option ℕ) → if_found o (λ m. m == n) false ≡ false
      → (p : Piece X) → own d.clones o p ≡ true → ((stamp_of p.chunk) == n) ≡ false
  elsewhere n c found o apart p e =
      let number : c.number ≡ n = eqb-true c.number n (find-passes (λ (b : RunningClone X). b.number == n) d.clones c found) in
      let own : (not ((stamp_of p.chunk) == c.number) || if_found o (λ m. m == c.number) false) ≡ true =
      all-found (λ (b : RunningClone X). not ((stamp_of p.chunk) == b.number) || if_found o (λ m. m == b.number) false)
      (λ (b : RunningClone X). b.number == n) c d.clones e found in
      or_false ((stamp_of p.chunk) == n)
      (ap (λ b. not ((stamp_of p.chunk) == n) || b) (sym apart)
      ∙ ap (λ m. not ((stamp_of p.chunk) == m) || if_found o (λ k. k == m) false) (sym number) ∙ own)

  -- The target of a running clone has nothing yet at the indexes of the next turn.
  target_misses : (t : Task) (c : RunningClone X) → task_of d t.number ≡ Some t → clone_of d t.number ≡ Some c → (t.number == 0) ≡ false
      → list_all (misses stamp_of (turn_indexes (map stamp_of c.image) t.done) t.number) (indexed c.target) ≡ true
  target_misses t c found at some =
      let indexes : List ℕ = allocated_indexes (map stamp_of c.image) in
      let next : List ℕ = take turn_limit (drop t.done indexes) in
      let done : allocated_indexes (map stamp_of c.target) ≡ take t.done indexes =
      (bytes_eq-Decides (allocated_indexes (map stamp_of c.target)) (take t.done indexes)).0
      (and_right _ _ (and_left _ _ (clones.kept t c found at))) in
      let apart : list_all (λ j. list_all (λ i. not (j == i)) next) (take t.done indexes) ≡ true =
      list_all-follows (λ j. list_all (λ i. not (j == i)) (drop t.done indexes)) (λ j. list_all (λ i. not (j == i)) next)
      (λ j e. all-take (λ i. not (j == i)) turn_limit (drop t.done indexes) e) (take t.done indexes)
      (first_apart t.done indexes (indexes_rise (λ i s. not (s == 0)) 0 (map stamp_of c.image))) in
      list_all-follows (λ (p : Piece X). ((stamp_of p.chunk) == 0) || list_all (λ i. not (p.index == i)) next) (misses stamp_of next t.number)
      (λ p e. of_stamp next p ((stamp_of p.chunk) == 0) refl e) (indexed c.target)
      (allocated_pass stamp_of (λ j. list_all (λ i. not (j == i)) next) 0 c.target (ap (list_all (λ j. list_all (λ i. not (j == i)) next)) done ∙ apart))
    where
      of_index : (p : Piece X) (i : ℕ) (b : Bool) → not b ≡ true → not (b && ((stamp_of p.chunk) == t.number)) ≡ true
      of_index p i true e = cc
      of_index p i false e = refl

      of_stamp : (is : List ℕ) (p : Piece X) (b : Bool) → ((stamp_of p.chunk) == 0) ≡ b → (b || list_all (λ i. not (p.index == i)) is) ≡ true
          → misses stamp_of is t.number p ≡ true
      of_stamp is p true at e =
          let none : (stamp_of p.chunk) ≡ 0 = eqb-true (stamp_of p.chunk) 0 at in
          other_misses stamp_of is t.number p
          (ne_eqb (stamp_of p.chunk) t.number (λ f. eqb-false t.number 0 some (sym f ∙ none)))
      of_stamp is p false at e =
          list_all-follows (λ i. not (p.index == i)) (λ i. not ((p.index == i) && ((stamp_of p.chunk) == t.number)))
          (λ i f. of_index p i (p.index == i) f) is e

  -- No old entry has the stamp of a clone's turn at one of its indexes.
  turn_misses : (t : Task) (c : RunningClone X) → task_of d t.number ≡ Some t → clone_of d t.number ≡ Some c → (t.number == 0) ≡ false
      → list_all (misses stamp_of (turn_indexes (map stamp_of c.image) t.done) t.number) (all_pieces d) ≡ true
  turn_misses t c found at some =
      let n : ℕ = t.number in
      let test : Piece X → Bool = misses stamp_of (turn_indexes (map stamp_of c.image) t.done) n in
      let outside : (ps : List (Piece X)) → list_all (own d.clones None) ps ≡ true → list_all test ps ≡ true =
      (λ ps e. list_all-follows (own d.clones None) test
      (λ p own. other_misses stamp_of (turn_indexes (map stamp_of c.image) t.done) n p (elsewhere n c at None refl p own)) ps e) in
      pieces_pass test (λ _. true) d (record {
        volumes = list_all-follows (λ (v : Volume X). list_all (own d.clones None) (indexed v.chunks))
            (λ (v : Volume X). list_all test (indexed v.chunks)) (λ v e. outside (indexed v.chunks) e) d.volumes old_owned.volumes;
        clones = each-found (λ (b : RunningClone X). b.number)
            (λ (b : RunningClone X). list_all test (indexed b.image) && list_all test (indexed b.target)) d.clones clones.rise
            (λ b is. let old : (list_all (own d.clones None) (indexed b.image)
            && list_all (own d.clones (Some b.number)) (indexed b.target)) ≡ true =
            all-found
            (λ (b : RunningClone X). list_all (own d.clones None) (indexed b.image)
            && list_all (own d.clones (Some b.number)) (indexed b.target))
            (λ (e : RunningClone X). e.number == b.number) b d.clones old_owned.clones is in
            and_both (list_all test (indexed b.image)) (list_all test (indexed b.target))
            (outside (indexed b.image) (and_left (list_all (own d.clones None) (indexed b.image)) _ old))
            (of_target b is (b.number == n) refl (and_right (list_all (own d.clones None) (indexed b.image)) _ old)));
        copies = list_all-follows (λ (b : RunningCopy X). list_all (own d.clones None) b.pieces)
            (λ (b : RunningCopy X). list_all test b.pieces) (λ b e. outside b.pieces e) d.copies old_owned.copies;
        numbers = old_owned.numbers;
      })
    where
      of_target : (b : RunningClone X) → clone_of d b.number ≡ Some b → (same : Bool) → (b.number == t.number) ≡ same
          → list_all (own d.clones (Some b.number)) (indexed b.target) ≡ true
          → list_all (misses stamp_of (turn_indexes (map stamp_of c.image) t.done) t.number) (indexed b.target) ≡ true
      of_target b is true same old =
          let number : b.number ≡ t.number = eqb-true b.number t.number same in
          let also : clone_of d t.number ≡ Some b = ap (λ m. clone_of d m) (sym number) ∙ is in
          let one : c ≡ b = cc in
          ap (λ (e : RunningClone X). list_all (misses stamp_of (turn_indexes (map stamp_of c.image) t.done) t.number) (indexed e.target)) (sym one)
          ∙ target_misses t c found at some
      of_target b is false same old =
          list_all-follows (own d.clones (Some b.number)) (misses stamp_of (turn_indexes (map stamp_of c.image) t.done) t.number)
          (λ p own. other_misses stamp_of (turn_indexes (map stamp_of c.image) t.done) t.number p
          (elsewhere t.number c at (Some b.number) same p own)) (indexed b.target) old

  own_or_other : (b : Bool) → (not b || b) ≡ true
  own_or_other true = refl
  own_or_other false = refl

  turn_new : (left : List (RunningClone X)) (t : Task) (c : RunningClone X) → task_of d t.number ≡ Some t → clone_of d t.number ≡ Some c
      → New X stamp_of d left t.number (Some t.number) (turn_indexes (map stamp_of c.image) t.done)
  turn_new left t c found at =
      let is : List ℕ = turn_indexes (map stamp_of c.image) t.done in
      let number : c.number ≡ t.number = eqb-true c.number t.number (find-passes (λ (b : RunningClone X). b.number == t.number) d.clones c at) in
      let logged : is_logged d.lsn c.number ≡ true =
      all-found (λ (b : RunningClone X). is_logged d.lsn b.number) (λ (b : RunningClone X). b.number == t.number) c d.clones clones.logged at in
      let least : 1 ≤ c.number = leb-true 1 c.number (and_left (nat_le 1 c.number) (nat_le c.number d.lsn) logged) in
      let most : c.number ≤ d.lsn = leb-true c.number d.lsn (and_right (nat_le 1 c.number) (nat_le c.number d.lsn) logged) in
      let some : (t.number == 0) ≡ false = ne_eqb t.number 0 (λ e. omega arith) in
      record {
        rises = rising-take turn_limit (drop t.done (allocated_indexes (map stamp_of c.image)))
            (rising-drop t.done (allocated_indexes (map stamp_of c.image))
            (indexes_rise (λ i s. not (s == 0)) 0 (map stamp_of c.image)));
        misses_old = turn_misses t c found at some;
        given = all-always (λ (i : ℕ). not (t.number == 0) && nat_le t.number (d.lsn + 1))
            (λ i. and_both (not (t.number == 0)) (nat_le t.number (d.lsn + 1)) (ap not some) (le-leb t.number (d.lsn + 1) (omega arith))) is;
        owned = all-always (λ (i : ℕ). list_all (λ (b : RunningClone X). not (t.number == b.number) || (t.number == b.number)) left)
            (λ i. all-always (λ (b : RunningClone X). not (t.number == b.number) || (t.number == b.number))
            (λ b. own_or_other (t.number == b.number)) left) is;
      }

  write_new : (first blocks : ℕ) → New X stamp_of d d.clones (d.lsn + 1) None (touched_indexes d.geometry.chunk_blocks first blocks)
  write_new first blocks =
      let is : List ℕ = touched_indexes d.geometry.chunk_blocks first blocks in
      record {
        rises = touched_rise d.geometry.chunk_blocks first blocks;
        misses_old = pieces_pass (misses stamp_of is (d.lsn + 1)) (λ _. true) d
            (weaker (λ o p. is_given d.lsn d.clones o (stamp_of p.chunk)) (λ o p. misses stamp_of is (d.lsn + 1) p) (λ _. true) d
            (λ o p e. let le : stamp_of p.chunk ≤ d.lsn = leb-true (stamp_of p.chunk) d.lsn (and_left (nat_le (stamp_of p.chunk) d.lsn) _ e) in
            other_misses stamp_of is (d.lsn + 1) p (ne_eqb (stamp_of p.chunk) (d.lsn + 1) (λ f. omega arith))) old);
        given = all-always (λ (i : ℕ). not (d.lsn + 1 == 0) && nat_le (d.lsn + 1) (d.lsn + 1))
            (λ i. and_both (not (d.lsn + 1 == 0)) (nat_le (d.lsn + 1) (d.lsn + 1)) (ap not (ne_eqb (d.lsn + 1) 0 (λ e. omega arith)))
            (le-leb (d.lsn + 1) (d.lsn + 1) (omega arith))) is;
        owned = all-always (λ (i : ℕ). list_all (λ (c : RunningClone X). not (d.lsn + 1 == c.number) || false) d.clones)
            (λ i. list_all-follows (λ (c : RunningClone X). is_logged d.lsn c.number) (λ (c : RunningClone X). not (d.lsn + 1 == c.number) || false)
            (λ c e. let le : c.number ≤ d.lsn = leb-true c.number d.lsn (and_right (nat_le 1 c.number) (nat_le c.number d.lsn) e) in
            ap (λ b. not b || false) (ne_eqb (d.lsn + 1) c.number (λ f. omega arith))) d.clones clones.logged) is;
      }

  pub new_of : (values : List X) (change : Change)
      → New X stamp_of d (effect stamp_of values u d change).clones (new_stamp d change) (new_home change)
      (changed_indexes stamp_of d change)
  unfolding effect changed_indexes
  new_of values (MakeContainer quota offers) = none_new stamp_of d _ _ _
  new_of values (MakeVolume k vtype chunks needs) = none_new stamp_of d _ _ _
  new_of values (DeleteVolume n) = none_new stamp_of d _ _ _
  new_of values (GrowVolume n chunks) = none_new stamp_of d _ _ _
  new_of values (SetMetadata n key text) = none_new stamp_of d _ _ _
  new_of values (Snapshot n) = none_new stamp_of d _ _ _
  new_of values (FastClone n) = none_new stamp_of d _ _ _
  new_of values (Revert n snapshot) = none_new stamp_of d _ _ _
  new_of values (Write n first blocks) = write_new first blocks
  new_of values (Unmap n ranges) = none_new stamp_of d _ _ _
  new_of values (SetEndpoints host endpoints) = none_new stamp_of d _ _ _
  new_of values (Bind host n) = none_new stamp_of d _ _ _
  new_of values (Unbind host endpoint secondary) = none_new stamp_of d _ _ _
  new_of values (UnbindAll host) = none_new stamp_of d _ _ _
  new_of values (StartClone n) = none_new stamp_of d _ _ _
  new_of values (StartCopy source base target) = none_new stamp_of d _ _ _
  new_of values (Turn n) =
      let left : List (RunningClone X) = (effect stamp_of values u d (Turn n)).clones in
      turned_case stamp_of d n (λ is. New X stamp_of d left n (Some n) is) (none_new stamp_of d left n (Some n))
      (λ t c found number at. of_number left t c n number found at)
    where
      of_number : (left : List (RunningClone X)) (t : Task) (c : RunningClone X) (m : ℕ) → t.number ≡ m → task_of d m ≡ Some t
          → clone_of d m ≡ Some c → New X stamp_of d left m (Some m) (turn_indexes (map stamp_of c.image) t.done)
      of_number left t c m number found at =
          let task : task_of d t.number ≡ Some t = ap (λ k. task_of d k) number ∙ found in
          let clone : clone_of d t.number ≡ Some c = ap (λ k. clone_of d k) number ∙ at in
          subst (λ k. New X stamp_of d left k (Some k) (turn_indexes (map stamp_of c.image) t.done)) number (turn_new left t c task clone)
  new_of values (Cancel n) = none_new stamp_of d _ _ _
