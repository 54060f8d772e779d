-- What a difference copy that may start has passed, and what its start makes of tables.
use Rattle.std.proofs.Common.{ℕ, ◌≡◌, ◌+◌, ◌<◌, ◌≤◌, not, ◌&&◌, Bool, true, false, cond, List, [], ◌∷◌, ◌++◌, map, length, count_by, Option, Some, None, option_map, refl, sym, ap, ◌∙◌, arith}
use Rattle.std.specs.Prelude.{IsSome, nat_le, nat_lt}
use Rattle.std.specs.List.{filter, list_all}
use Rattle.std.proofs.lemmas.Bool.{leb-false}
use Rattle.std.proofs.lemmas.List.{length-map}
use Rattle.std.proofs.lemmas.List.Folds.{list_all-map}
use Rattle.vv_units.specs.declared.field.Field.TheVariants.{Source as in_source, Base as in_base, Target as in_target, Task as in_task}
use Rattle.vv_units.specs.declared.volume.TaskState.TheVariants.{Running}
use Rattle.vv_flat.specs.Lists.{if_found}
use Rattle.vv_flat.specs.State.{Volume, Copy, Task, Piece, RunningCopy, Durable, volume_of, map_copy}
use Rattle.vv_flat.specs.Chunks.{Entry, shape_of_tables}
use Rattle.vv_flat.specs.Space.{entries, is_running, is_clone, running_count}
use Rattle.vv_flat.specs.Tasks.{difference, started, copy_started, with_copy, running_limit}
use Rattle.vv_flat.specs.Refusals.{Accept, TooMany}
use Rattle.vv_flat.specs.Changes.{StartCopy, judge, state_checks, room_checks, apply, effect, stamps_of}
use Rattle.vv_flat.specs.Replay.{fits, replayed}
use Rattle.vv_flat.specs.WellFormed.{is_well_formed}
use Rattle.vv_flat.proofs.Shares.{and_left}
use Rattle.vv_flat.proofs.MapDurable.{map-difference}
use Rattle.vv_flat.proofs.KeepForm.{copies_are}
use Rattle.vv_flat.proofs.KeepRules.{fits_accepted}
use Rattle.vv_flat.proofs.Verdicts.{passed_state, passed_room, not_refused, within_map}
use Rattle.vv_tables.specs.Copies.{differing, shaped_pieces}
use Rattle.vv_tables.proofs.Accepted.{rules, entries_shape}
use Rattle.vv_tables.proofs.NextNumber.{tasks_below}
use Rattle.vv_tables.proofs.SeenChanges.{put_last}
use Rattle.vv_tables.proofs.ShapeVolumes.{shape_found, shaped}
use Rattle.vv_tables.proofs.StandingVolumes.{not_missing}

abbrev stamp : Entry → ℕ
stamp e = e.stamp

-- the chunks of a volume, and their stamps
abbrev pub chunks_of : Durable Entry → ℕ → List Entry
chunks_of d n = if_found (volume_of d n) (λ (v : Volume Entry). v.chunks) []

pub stamps_are : (d : Durable Entry) (n : ℕ) → stamps_of (shape_of_tables d) n ≡ map stamp (chunks_of d n)
stamps_are d n = ap (λ (o : Option (Volume ℕ)). if_found o (λ v. v.chunks) []) (shape_found d n) ∙ go (volume_of d n)
  where
    go : (o : Option (Volume Entry)) → if_found (option_map shaped o) (λ v. v.chunks) [] ≡ map stamp (if_found o (λ v. v.chunks) [])
    go None = refl
    go (Some v) = refl

filtered_all : {A : Type 0} (q p : A → Bool) (xs : List A) → list_all q xs ≡ true → list_all q (filter p xs) ≡ true
filtered_all q p [] e = refl
filtered_all q p (x ∷ xs) e = go (p x) (filtered_all q p xs (second (q x) (list_all q xs) e))
  where
    second : (a b : Bool) → (a && b) ≡ true → b ≡ true
    second true b e = e
    second false b e = absurd (cc)

    go : (b : Bool) → list_all q (filter p xs) ≡ true → list_all q (cond b (x ∷ filter p xs) (filter p xs)) ≡ true
    go true rest = ap (λ b. b && list_all q (filter p xs)) (and_left (q x) (list_all q xs) e) ∙ rest
    go false rest = rest

-- the numbers of running copies are below the next log number
module _ (d : Durable Entry) (well : is_well_formed d ≡ true) where
  runs_copy : Task → Bool
  runs_copy t = is_running t && not (is_clone t.job)

  pub copies_below : list_all (λ (c : RunningCopy Entry). nat_lt c.number (d.lsn + 1)) d.copies ≡ true
  copies_below =
      sym (list_all-map (λ (c : RunningCopy ℕ). nat_lt c.number (d.lsn + 1)) (map_copy stamp) d.copies)
      ∙ sym (list_all-map (λ n. nat_lt n (d.lsn + 1)) (λ (c : RunningCopy ℕ). c.number) (map (map_copy stamp) d.copies))
      ∙ ap (list_all (λ n. nat_lt n (d.lsn + 1))) (copies_are (shape_of_tables d) (rules d well))
      ∙ list_all-map (λ n. nat_lt n (d.lsn + 1)) (λ (t : Task). t.number) (filter (λ (t : Task). is_running t && not (is_clone t.job)) d.tasks)
      ∙ filtered_all (λ (t : Task). nat_lt t.number (d.lsn + 1)) (λ (t : Task). is_running t && not (is_clone t.job)) d.tasks (tasks_below d well)

module _ (d : Durable Entry) (source base target : ℕ) (well : is_well_formed d ≡ true) (fit : fits d (StartCopy source base target) [] ≡ true) where
  accepted : judge None (shape_of_tables d) (StartCopy source base target) ≡ Accept
  accepted = fits_accepted d (StartCopy source base target) [] fit

  -- its three volumes stand
  pub source_stands : IsSome (volume_of d source)
  unfolding state_checks
  source_stands = not_missing d source in_source (passed_state None (shape_of_tables d) (StartCopy source base target) accepted 0)

  pub base_stands : IsSome (volume_of d base)
  unfolding state_checks
  base_stands = not_missing d base in_base (passed_state None (shape_of_tables d) (StartCopy source base target) accepted 1)

  pub target_stands : IsSome (volume_of d target)
  unfolding state_checks
  target_stands = not_missing d target in_target (passed_state None (shape_of_tables d) (StartCopy source base target) accepted 2)

  -- one more task may run
  pub few_run : count_by is_running d.tasks < 16
  unfolding room_checks
  few_run =
      leb-false running_limit (running_count (shape_of_tables d))
      (not_refused (nat_le running_limit (running_count (shape_of_tables d))) (TooMany in_task running_limit) (passed_room None (shape_of_tables d) (StartCopy source base target) accepted 1))

  -- the pieces, as the tables have them and by their stamps
  abbrev pub new_pieces : List (Piece Entry)
  new_pieces = difference stamp (chunks_of d source) (chunks_of d base)

  pub shaped_are : shaped_pieces new_pieces ≡ difference (λ s. s) (stamps_of (shape_of_tables d) source) (stamps_of (shape_of_tables d) base)
  shaped_are =
      map-difference stamp stamp (λ s. s) (λ e. refl) (chunks_of d source) (chunks_of d base)
      ∙ ap (λ ss. difference (λ s. s) ss (map stamp (chunks_of d base))) (sym (stamps_are d source))
      ∙ ap (λ ss. difference (λ s. s) (stamps_of (shape_of_tables d) source) ss) (sym (stamps_are d base))

  pub pieces_long : length new_pieces ≡ differing d source base
  pieces_long = sym (length-map new_pieces _) ∙ ap length shaped_are

  -- the map has room for them
  pub pieces_fit : entries d + length new_pieces ≤ d.geometry.map_chunks
  unfolding room_checks
  pieces_fit =
      let room : entries (shape_of_tables d) + differing d source base ≤ d.geometry.map_chunks =
      within_map (shape_of_tables d) (differing d source base) (passed_room None (shape_of_tables d) (StartCopy source base target) accepted 3) in
      omega (arith, room, entries_shape d, pieces_long)

  abbrev pub new_task : Task
  new_task = record { number = d.lsn + 1; job = Copy source base target; state = Running; done = 0; total = length new_pieces }

  abbrev new_copy : RunningCopy Entry
  new_copy = record { number = d.lsn + 1; pieces = new_pieces }

  -- the tables afterwards
  with_pieces_started : (o p : Option (Volume Entry)) → IsSome o → IsSome p
      → if_found o (λ v. if_found p (λ w. copy_started d (Copy source base target) (difference stamp v.chunks w.chunks)) d) d
      ≡ copy_started d (Copy source base target) (difference stamp (if_found o (λ (v : Volume Entry). v.chunks) []) (if_found p (λ (v : Volume Entry). v.chunks) []))
  with_pieces_started None p so sp = absurd (cc)
  with_pieces_started (Some v) None so sp = absurd (cc)
  with_pieces_started (Some v) (Some w) so sp = refl

  pub copy_replayed : replayed d (StartCopy source base target) []
      ≡ record d { lsn = d.lsn + 1; tasks = started d.tasks new_task; copies = d.copies ++ new_copy ∷ [] }
  unfolding replayed apply effect with_copy
  copy_replayed =
      ap (λ (e : Durable Entry). record e { lsn = d.lsn + 1 }) (with_pieces_started (volume_of d source) (volume_of d base) source_stands base_stands)
      ∙ ap (λ (cs : List (RunningCopy Entry)). record d { lsn = d.lsn + 1; tasks = started d.tasks new_task; copies = cs })
      (put_last (λ (c : RunningCopy Entry). c.number) new_copy d.copies (copies_below d well))
