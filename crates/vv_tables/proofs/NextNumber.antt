-- The number of the next change: the log has one for each change that fits, and it is above those of all volumes,
-- containers and tasks that stand. For every change of tables.
use Rattle.std.proofs.Common.{ℕ, ◌≡◌, ◌+◌, ◌<◌, ◌≤◌, ◌==◌, ◌||◌, Bool, true, false, cond, List, [], ◌∷◌, map, Some, None, refl, sym, ap, ◌∙◌, arith}
use Rattle.std.specs.Prelude.{nat_lt, nat_le}
use Rattle.std.specs.List.{find, list_all}
use Rattle.std.proofs.lemmas.Bool.{leb-true, leb-false, lt-ltb, ltb-true, ne_eqb, eqb-true}
use Rattle.std.proofs.lemmas.List.Folds.{list_all-map}
use Rattle.vv_flat.specs.State.{Container, Volume, Task, Durable, map_volume, volume_of, container_of, task_of}
use Rattle.vv_flat.specs.Chunks.{Entry, shape_of_tables}
use Rattle.vv_flat.specs.Refusals.{Exhausted, Accept, last_lsn, exhausted}
use Rattle.vv_flat.specs.Changes.{Change, MakeContainer, MakeVolume, DeleteVolume, GrowVolume, SetMetadata, Snapshot, FastClone, Revert, Write, Unmap, SetEndpoints, Bind, Unbind, UnbindAll, StartClone, StartCopy, Turn, Cancel, judge, room_checks}
use Rattle.vv_flat.specs.Replay.{fits}
use Rattle.vv_flat.specs.Rules.{is_logged, numbers_rule}
use Rattle.vv_flat.specs.WellFormed.{is_well_formed}
use Rattle.vv_flat.proofs.Shares.{and_left, and_right, list_all-follows}
use Rattle.vv_flat.proofs.Kept.{kept}
use Rattle.vv_flat.proofs.KeepRules.{fits_accepted}
use Rattle.vv_flat.proofs.Verdicts.{passed_room, not_refused}
use Rattle.vv_laws.proofs.WellFormed.{shape_rules}

-- ---- the log has not ended
not_exhausted : (d : Durable ℕ) (change : Change) → judge None d change ≡ Accept → exhausted d ≡ None
unfolding room_checks
not_exhausted d (MakeContainer quota offers) e = passed_room None d (MakeContainer quota offers) e 0
not_exhausted d (MakeVolume k vtype chunks needs) e = passed_room None d (MakeVolume k vtype chunks needs) e 0
not_exhausted d (DeleteVolume n) e = passed_room None d (DeleteVolume n) e 0
not_exhausted d (GrowVolume n chunks) e = passed_room None d (GrowVolume n chunks) e 0
not_exhausted d (SetMetadata n key note) e = passed_room None d (SetMetadata n key note) e 0
not_exhausted d (Snapshot n) e = passed_room None d (Snapshot n) e 0
not_exhausted d (FastClone n) e = passed_room None d (FastClone n) e 0
not_exhausted d (Revert n snapshot) e = passed_room None d (Revert n snapshot) e 0
not_exhausted d (Write n first blocks) e = passed_room None d (Write n first blocks) e 0
not_exhausted d (Unmap n ranges) e = passed_room None d (Unmap n ranges) e 0
not_exhausted d (SetEndpoints host endpoints) e = passed_room None d (SetEndpoints host endpoints) e 0
not_exhausted d (Bind host n) e = passed_room None d (Bind host n) e 0
not_exhausted d (Unbind host endpoint secondary) e = passed_room None d (Unbind host endpoint secondary) e 0
not_exhausted d (UnbindAll host) e = passed_room None d (UnbindAll host) e 0
not_exhausted d (StartClone n) e = passed_room None d (StartClone n) e 0
not_exhausted d (StartCopy source base target) e = passed_room None d (StartCopy source base target) e 0
not_exhausted d (Turn n) e = passed_room None d (Turn n) e 0
not_exhausted d (Cancel n) e = passed_room None d (Cancel n) e 0

pub more_to_come : (d : Durable Entry) (change : Change) (places : List ℕ) → fits d change places ≡ true → d.lsn < last_lsn
more_to_come d change places fit =
    leb-false last_lsn d.lsn
    (not_refused (nat_le last_lsn d.lsn) Exhausted (not_exhausted (shape_of_tables d) change (fits_accepted d change places fit)))

-- ---- all numbers are below the next one
pub logged_below : (lsn n : ℕ) → is_logged lsn n ≡ true → nat_lt n (lsn + 1) ≡ true
logged_below lsn n e = let le : n ≤ lsn = leb-true n lsn (and_right (nat_le 1 n) (nat_le n lsn) e) in lt-ltb n (lsn + 1) (omega arith)

zero_below : (lsn n : ℕ) → ((n == 0) || is_logged lsn n) ≡ true → nat_lt n (lsn + 1) ≡ true
zero_below lsn n e = go (n == 0) refl e
  where
    go : (b : Bool) → (n == 0) ≡ b → (b || is_logged lsn n) ≡ true → nat_lt n (lsn + 1) ≡ true
    go true is e = let zero : n ≡ 0 = eqb-true n 0 is in lt-ltb n (lsn + 1) (omega arith)
    go false is e = logged_below lsn n e

abbrev pub is_below : ℕ → ℕ → Bool
is_below lsn n = nat_lt n (lsn + 1)

-- what is below isn't the next one
below_apart : (lsn n : ℕ) → is_below lsn n ≡ true → (n == lsn + 1) ≡ false
below_apart lsn n e = let lt : n < lsn + 1 = ltb-true n (lsn + 1) e in ne_eqb n (lsn + 1) (λ same. absurd (omega arith))

none_of : {A : Type 0} (key : A → ℕ) (lsn : ℕ) (xs : List A) → list_all (λ x. is_below lsn (key x)) xs ≡ true → find (λ x. key x == lsn + 1) xs ≡ None
none_of key lsn [] e = refl
none_of key lsn (x ∷ xs) e =
    ap (λ b. cond b (Some x) (find (λ y. key y == lsn + 1) xs)) (below_apart lsn (key x) (and_left (is_below lsn (key x)) (list_all (λ y. is_below lsn (key y)) xs) e))
    ∙ none_of key lsn xs (and_right (is_below lsn (key x)) (list_all (λ y. is_below lsn (key y)) xs) e)

module _ (d : Durable Entry) (well : is_well_formed d ≡ true) where
  numbered : numbers_rule (shape_of_tables d) ≡ true
  numbered = (kept (shape_of_tables d) (shape_rules d well)).numbers

  pub volumes_below : list_all (λ (v : Volume Entry). is_below d.lsn v.number) d.volumes ≡ true
  unfolding numbers_rule
  volumes_below =
      sym (list_all-map (λ (v : Volume ℕ). is_below d.lsn v.number) (map_volume (λ (e : Entry). e.stamp)) d.volumes)
      ∙ list_all-follows _ (λ (v : Volume ℕ). is_below d.lsn v.number)
      (λ v e. logged_below d.lsn v.number (and_left (is_logged d.lsn v.number) _ (and_left _ _ e))) (map (map_volume (λ (e : Entry). e.stamp)) d.volumes)
      (and_left _ _ (and_left _ _ (and_left _ _ (and_left _ _ numbered))))

  pub containers_below : list_all (λ (k : Container). is_below d.lsn k.number) d.containers ≡ true
  unfolding numbers_rule
  containers_below =
      list_all-follows _ (λ (k : Container). is_below d.lsn k.number) (λ k e. zero_below d.lsn k.number e) d.containers
      (and_right _ _ (and_left _ _ (and_left _ _ (and_left _ _ numbered))))

  pub tasks_below : list_all (λ (t : Task). is_below d.lsn t.number) d.tasks ≡ true
  unfolding numbers_rule
  tasks_below =
      list_all-follows _ (λ (t : Task). is_below d.lsn t.number) (λ t e. logged_below d.lsn t.number (and_left (is_logged d.lsn t.number) _ e)) d.tasks
      (and_right _ _ (and_left _ _ (and_left _ _ numbered)))

  -- none has it
  pub new_volume : volume_of d (d.lsn + 1) ≡ None
  new_volume = none_of (λ (v : Volume Entry). v.number) d.lsn d.volumes volumes_below

  pub new_container : container_of d (d.lsn + 1) ≡ None
  new_container = none_of (λ (k : Container). k.number) d.lsn d.containers containers_below

  pub new_task : task_of d (d.lsn + 1) ≡ None
  new_task = none_of (λ (t : Task). t.number) d.lsn d.tasks tasks_below
