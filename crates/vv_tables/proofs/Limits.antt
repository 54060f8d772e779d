-- What the rules keep of the counts of tables, and how many rows there are.
use Rattle.std.proofs.Common.{ℕ, ◌≡◌, ◌+◌, ◌≤◌, ◌&&◌, not, Bool, true, false, cond, List, [], ◌∷◌, map, length, sum_by, count_by, refl, sym, ap, ◌∙◌, arith}
use Rattle.std.specs.List.{filter}
use Rattle.std.proofs.lemmas.Bool.{leb-true}
use Rattle.std.proofs.lemmas.List.{length-map}
use Rattle.std.proofs.lemmas.List.Sums.{sum_by-cons, length-filter}
use Rattle.std.proofs.lemmas.Slice.Eq.{bytes_eq-Decides}
use Rattle.vv_flat.specs.Lists.{numbers_eq}
use Rattle.vv_flat.specs.State.{Volume, Task, RunningClone, RunningCopy, Durable, map_volume, map_clone}
use Rattle.vv_flat.specs.Chunks.{Entry, shape_of_tables}
use Rattle.vv_flat.specs.Space.{is_running, is_clone, pair_count, running_count}
use Rattle.vv_flat.specs.Form.{is_formed, running_clones, running_copies}
use Rattle.vv_flat.specs.Rules.{limits_rule}
use Rattle.vv_flat.specs.WellFormed.{is_well_formed}
use Rattle.vv_flat.proofs.Shares.{and_left, and_right}
use Rattle.vv_flat.proofs.Kept.{kept}
use Rattle.vv_laws.proofs.WellFormed.{shape_rules}
use Rattle.vv_container.specs.Table.{ChargedContainer}
use Rattle.vv_bind.specs.Table.{BindState}
use Rattle.vv_vols.specs.Shelf.{ShelfState}
use Rattle.vv_tables.specs.declared.rows.CloneRow.{CloneRow}
use Rattle.vv_tables.specs.declared.rows.CopyRow.{CopyRow}
use Rattle.vv_tables.specs.Counts.{volume_pairs, clone_pairs}
use Rattle.vv_tables.specs.Seen.{seen_clone, seen_copy, seen_durable}
use Rattle.vv_tables.proofs.HeldSums.{sum_mapped}

pub record Limits (d : Durable Entry) : Type 0 where
  pub volumes : length d.volumes + length d.clones ≤ 256
  pub running : count_by is_running d.tasks ≤ 16
  pub pairs : pair_count d ≤ 4352

abbrev stamp : Entry → ℕ
stamp e = e.stamp

shape_volumes : (d : Durable Entry) → length (map (map_volume stamp) d.volumes) + length (map (map_clone stamp) d.clones) ≤ 256
    → length d.volumes + length d.clones ≤ 256
shape_volumes d few = omega (arith, few, length-map d.volumes (map_volume stamp), length-map d.clones (map_clone stamp))

shape_pairs : (d : Durable Entry)
    → sum_by (λ (v : Volume ℕ). length v.metadata) (map (map_volume stamp) d.volumes)
    + sum_by (λ (c : RunningClone ℕ). length c.metadata) (map (map_clone stamp) d.clones) ≤ 4352 → pair_count d ≤ 4352
shape_pairs d few =
    let v : sum_by (λ (v : Volume ℕ). length v.metadata) (map (map_volume stamp) d.volumes) ≡ sum_by (λ (v : Volume Entry). length v.metadata) d.volumes =
    sum_mapped (λ (v : Volume ℕ). length v.metadata) (map_volume stamp) d.volumes in
    let c : sum_by (λ (c : RunningClone ℕ). length c.metadata) (map (map_clone stamp) d.clones) ≡ sum_by (λ (c : RunningClone Entry). length c.metadata) d.clones =
    sum_mapped (λ (c : RunningClone ℕ). length c.metadata) (map_clone stamp) d.clones in
    omega (arith, few, v, c)

shape_limits : (d : Durable Entry) → limits_rule (shape_of_tables d) ≡ true → Limits d
unfolding limits_rule
shape_limits d e =
    let to_pairs = and_left _ _ (and_left _ _ (and_left _ _ (and_left _ _ (and_left _ _ (and_left _ _ e))))) in
    let to_running = and_left _ _ (and_left _ _ to_pairs) in
    record {
      volumes = shape_volumes d (leb-true _ _ (and_left _ _ (and_left _ _ (and_left _ _ to_running))));
      running = leb-true _ _ (and_right _ _ to_running);
      pairs = shape_pairs d (leb-true _ _ (and_right _ _ to_pairs));
    }

pub limits : (d : Durable Entry) → is_well_formed d ≡ true → Limits d
limits d well = shape_limits d (kept (shape_of_tables d) (shape_rules d well)).limits

-- ---- the rows of running tasks
both_kinds : (tasks : List Task)
    → count_by (λ (t : Task). is_running t && is_clone t.job) tasks + count_by (λ (t : Task). is_running t && not (is_clone t.job)) tasks ≡ count_by is_running tasks
both_kinds [] = refl
both_kinds (t ∷ ts) =
    let rest : count_by (λ (t : Task). is_running t && is_clone t.job) ts + count_by (λ (t : Task). is_running t && not (is_clone t.job)) ts ≡ count_by is_running ts = both_kinds ts in
    let a : count_by (λ (t : Task). is_running t && is_clone t.job) (t ∷ ts) ≡ cond (is_running t && is_clone t.job) 1 0 + count_by (λ (t : Task). is_running t && is_clone t.job) ts =
    sum_by-cons (λ (u : Task). cond (is_running u && is_clone u.job) 1 0) t ts in
    let b : count_by (λ (t : Task). is_running t && not (is_clone t.job)) (t ∷ ts)
    ≡ cond (is_running t && not (is_clone t.job)) 1 0 + count_by (λ (t : Task). is_running t && not (is_clone t.job)) ts =
    sum_by-cons (λ (u : Task). cond (is_running u && not (is_clone u.job)) 1 0) t ts in
    let c : count_by is_running (t ∷ ts) ≡ cond (is_running t) 1 0 + count_by is_running ts = sum_by-cons (λ (u : Task). cond (is_running u) 1 0) t ts in
    let here : cond (is_running t && is_clone t.job) 1 0 + cond (is_running t && not (is_clone t.job)) 1 0 ≡ cond (is_running t) 1 0 = either (is_running t) (is_clone t.job) in
    omega (arith, rest, a, b, c, here)
  where
    either : (r k : Bool) → cond (r && k) 1 0 + cond (r && not k) 1 0 ≡ cond r 1 0
    either true true = refl
    either true false = refl
    either false k = refl

pub formed : (d : Durable Entry) → is_well_formed d ≡ true → is_formed d ≡ true
unfolding is_well_formed
formed d e = and_left _ _ (and_left _ _ e)

clones_run : (d : Durable Entry) → numbers_eq (map (λ (c : RunningClone Entry). c.number) d.clones) (running_clones d.tasks) ≡ true
    → length d.clones ≡ count_by (λ (t : Task). is_running t && is_clone t.job) d.tasks
clones_run d e =
    sym (length-map d.clones (λ (c : RunningClone Entry). c.number))
    ∙ ap length ((bytes_eq-Decides (map (λ (c : RunningClone Entry). c.number) d.clones) (running_clones d.tasks)).0 e)
    ∙ length-map (filter (λ (t : Task). is_running t && is_clone t.job) d.tasks) (λ (t : Task). t.number)
    ∙ length-filter (λ (t : Task). is_running t && is_clone t.job) d.tasks

copies_run : (d : Durable Entry) → numbers_eq (map (λ (c : RunningCopy Entry). c.number) d.copies) (running_copies d.tasks) ≡ true
    → length d.copies ≡ count_by (λ (t : Task). is_running t && not (is_clone t.job)) d.tasks
copies_run d e =
    sym (length-map d.copies (λ (c : RunningCopy Entry). c.number))
    ∙ ap length ((bytes_eq-Decides (map (λ (c : RunningCopy Entry). c.number) d.copies) (running_copies d.tasks)).0 e)
    ∙ length-map (filter (λ (t : Task). is_running t && not (is_clone t.job)) d.tasks) (λ (t : Task). t.number)
    ∙ length-filter (λ (t : Task). is_running t && not (is_clone t.job)) d.tasks

-- a clone or a copy runs for each task that runs
pub rows_run : (d : Durable Entry) → is_formed d ≡ true → length d.clones + length d.copies ≡ running_count d
unfolding is_formed
rows_run d e =
    ap (λ n. n + length d.copies) (clones_run d (and_right _ _ (and_left _ _ e)))
    ∙ ap (λ n. count_by (λ (t : Task). is_running t && is_clone t.job) d.tasks + n) (copies_run d (and_right _ _ e))
    ∙ both_kinds d.tasks

module _ (lsn : ℕ) (s : ShelfState) (containers : List ChargedContainer) (bindings : BindState) (tasks : List Task) (clones : List CloneRow) (copies : List CopyRow)
    (well : is_well_formed (seen_durable lsn s containers bindings tasks clones copies) ≡ true) where
  pub seen_rows_run : length clones + length copies ≡ count_by is_running tasks
  seen_rows_run =
      let d : Durable Entry = seen_durable lsn s containers bindings tasks clones copies in
      ap (λ n. n + length copies) (sym (length-map clones (seen_clone s)))
      ∙ ap (λ n. length (map (seen_clone s) clones) + n) (sym (length-map copies (seen_copy s)))
      ∙ rows_run d (formed d well)

  pub seen_volumes_few : length s.volumes + length clones ≤ 256
  seen_volumes_few =
      let l : length s.volumes + length (map (seen_clone s) clones) ≤ 256 = (limits (seen_durable lsn s containers bindings tasks clones copies) well).volumes in
      omega (arith, l, length-map clones (seen_clone s))

  pub seen_running_few : length clones + length copies ≤ 16
  seen_running_few =
      let l : count_by is_running tasks ≤ 16 = (limits (seen_durable lsn s containers bindings tasks clones copies) well).running in
      omega (arith, l, seen_rows_run)

  pub clone_pairs_are : clone_pairs clones ≡ sum_by (λ (c : RunningClone Entry). length c.metadata) (map (seen_clone s) clones)
  clone_pairs_are = sym (sum_mapped (λ (c : RunningClone Entry). length c.metadata) (seen_clone s) clones)

  pub seen_pairs_few : volume_pairs s.volumes + clone_pairs clones ≤ 4352
  seen_pairs_few =
      let l : volume_pairs s.volumes + sum_by (λ (c : RunningClone Entry). length c.metadata) (map (seen_clone s) clones) ≤ 4352 =
      (limits (seen_durable lsn s containers bindings tasks clones copies) well).pairs in
      omega (arith, l, clone_pairs_are)
