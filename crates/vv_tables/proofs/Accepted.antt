-- What well-formed tables leave room for: the entries and charges that an accepted change makes are within the map and
-- within quotas.
use Rattle.std.proofs.Common.{ℕ, ◌≡◌, ◌+◌, ◌-◌, ◌^◌, ◌<◌, ◌≤◌, ◌==◌, ◌&&◌, true, List, map, length, Option, Some, None, refl, sym, ap, ◌∙◌, arith}
use Rattle.std.specs.Prelude.{IsSome, nat_le, nat_lt, sum_by}
use Rattle.std.specs.List.{list_all}
use Rattle.std.proofs.lemmas.Bool.{leb-true, ltb-true, eqb-true}
use Rattle.std.proofs.lemmas.List.{length-map}
use Rattle.std.proofs.lemmas.List.Folds.{list_all-map}
use Rattle.vv_flat.specs.State.{Container, Volume, RunningClone, RunningCopy, Durable, container_of, map_volume, map_clone, map_copy}
use Rattle.vv_flat.specs.Chunks.{Entry, shape_of_tables}
use Rattle.vv_flat.specs.Space.{entries, charge}
use Rattle.vv_flat.specs.Changes.{Change, apply_shape}
use Rattle.vv_flat.specs.Replay.{fits, replayed}
use Rattle.vv_flat.specs.Fields.{change_has_forms, have_forms, is_number, are_offers}
use Rattle.vv_flat.specs.Rules.{is_logged, limits_rule, space_rule, numbers_rule}
use Rattle.vv_flat.specs.WellFormed.{is_well_formed, is_well_formed_shape}
use Rattle.vv_flat.proofs.Shares.{and_left, and_right, list_all-follows}
use Rattle.vv_flat.proofs.Known.{all-found}
use Rattle.vv_flat.proofs.Kept.{Kept, kept}
use Rattle.vv_flat.proofs.KeepForm.{clones_logged}
use Rattle.vv_flat.proofs.KeepRules.{fits_accepted}
use Rattle.vv_flat.proofs.Steps.{find-passes, record_step}
use Rattle.vv_laws.specs.Counts.{entries_added, entries_taken, charge_added, charge_taken}
use Rattle.vv_laws.proofs.WellFormed.{shape_rules, well_formed_shape, record_well}
use Rattle.vv_laws.proofs.KeptNumbers.{entries_after}
use Rattle.vv_laws.proofs.ChargedCounts.{charge_after}
use Rattle.vv_tables.proofs.HeldSums.{sum_same, sum_mapped}
use Rattle.vv_tables.proofs.NextNumber.{logged_below}

abbrev stamp : Entry → ℕ
stamp e = e.stamp

-- the entries of tables are as many as those of their shape
pub entries_shape : (d : Durable Entry) → entries (shape_of_tables d) ≡ entries d
unfolding entries
entries_shape d =
    let v : sum_by (λ (v : Volume ℕ). length v.chunks) (map (map_volume stamp) d.volumes) ≡ sum_by (λ (v : Volume Entry). length v.chunks) d.volumes =
    sum_mapped (λ (v : Volume ℕ). length v.chunks) (map_volume stamp) d.volumes
    ∙ sum_same (λ (v : Volume Entry). length (map stamp v.chunks)) (λ (v : Volume Entry). length v.chunks) d.volumes (λ i v at. length-map v.chunks stamp) in
    let c : sum_by (λ (c : RunningClone ℕ). length c.image + length c.target) (map (map_clone stamp) d.clones)
    ≡ sum_by (λ (c : RunningClone Entry). length c.image + length c.target) d.clones =
    sum_mapped (λ (c : RunningClone ℕ). length c.image + length c.target) (map_clone stamp) d.clones
    ∙ sum_same (λ (c : RunningClone Entry). length (map stamp c.image) + length (map stamp c.target)) (λ (c : RunningClone Entry). length c.image + length c.target) d.clones
    (λ i c at. ap (λ n. n + length (map stamp c.target)) (length-map c.image stamp) ∙ ap (λ n. length c.image + n) (length-map c.target stamp)) in
    let p : sum_by (λ (c : RunningCopy ℕ). length c.pieces) (map (map_copy stamp) d.copies) ≡ sum_by (λ (c : RunningCopy Entry). length c.pieces) d.copies =
    sum_mapped (λ (c : RunningCopy ℕ). length c.pieces) (map_copy stamp) d.copies
    ∙ sum_same (λ (c : RunningCopy Entry). length (map_copy stamp c).pieces) (λ (c : RunningCopy Entry). length c.pieces) d.copies (λ i c at. length-map c.pieces _) in
    omega (arith, v, c, p)

entries_limit : (d : Durable ℕ) → limits_rule d ≡ true → entries d ≤ d.geometry.map_chunks
unfolding limits_rule
entries_limit d e = leb-true _ _ (and_right _ _ (and_left _ _ (and_left _ _ (and_left _ _ (and_left _ _ (and_left _ _ e))))))

last_limit : (d : Durable ℕ) → numbers_rule d ≡ true → d.lsn ≤ 2 ^ 62 - 1
unfolding numbers_rule
last_limit d e = leb-true _ _ (and_right _ _ e)

quotas : (d : Durable ℕ) → space_rule d ≡ true → list_all (λ (k : Container). nat_le (charge d k.number) k.quota) d.containers ≡ true
unfolding space_rule
quotas d e = and_right _ _ e

small_quotas : (d : Durable ℕ) → have_forms d ≡ true → list_all (λ (k : Container). is_number 32 k.quota && are_offers k.offers) d.containers ≡ true
unfolding have_forms
small_quotas d e = and_left _ _ (and_left _ _ (and_left _ _ (and_left _ _ (and_left _ _ e))))

shape_forms : (d : Durable ℕ) → is_well_formed_shape d ≡ true → have_forms d ≡ true
unfolding is_well_formed_shape
shape_forms d e = and_right _ _ e

-- Well-formed tables.
module _ (d : Durable Entry) (well : is_well_formed d ≡ true) where
  pub rules : Kept (shape_of_tables d)
  rules = kept (shape_of_tables d) (shape_rules d well)

  -- the log number after this one is above those of all running clones
  pub clones_below : list_all (λ (c : RunningClone Entry). nat_lt c.number (d.lsn + 1)) d.clones ≡ true
  clones_below =
      list_all-follows (λ (c : RunningClone Entry). is_logged d.lsn c.number) (λ (c : RunningClone Entry). nat_lt c.number (d.lsn + 1))
      (λ c e. logged_below d.lsn c.number e) d.clones
      (sym (list_all-map (λ (c : RunningClone ℕ). is_logged d.lsn c.number) (map_clone stamp) d.clones) ∙ clones_logged (shape_of_tables d) rules)

  -- the entries are within the map, and the log has not ended
  pub entries_within : entries (shape_of_tables d) ≤ d.geometry.map_chunks
  entries_within = entries_limit (shape_of_tables d) rules.limits

  pub log_within : d.lsn ≤ 2 ^ 62 - 1
  log_within = last_limit (shape_of_tables d) rules.numbers

  -- what a container is charged for is within its quota
  pub charge_small : (n : ℕ) → IsSome (container_of d n) → charge (shape_of_tables d) n < 2 ^ 32
  charge_small n stands = go (container_of d n) refl stands
    where
      go : (o : Option Container) → container_of d n ≡ o → IsSome o → charge (shape_of_tables d) n < 2 ^ 32
      go None found stands = absurd (cc)
      go (Some k) found stands =
          let number : k.number ≡ n = eqb-true k.number n (find-passes (λ (c : Container). c.number == n) d.containers k found) in
          let within : charge (shape_of_tables d) k.number ≤ k.quota = leb-true (charge (shape_of_tables d) k.number) k.quota
          (all-found (λ (c : Container). nat_le (charge (shape_of_tables d) c.number) c.quota) (λ (c : Container). c.number == n) k d.containers (quotas (shape_of_tables d) rules.space) found) in
          let small : k.quota < 2 ^ 32 = ltb-true k.quota (2 ^ 32) (and_left (is_number 32 k.quota) (are_offers k.offers)
          (all-found (λ (c : Container). is_number 32 c.quota && are_offers c.offers) (λ (c : Container). c.number == n) k d.containers
          (small_quotas (shape_of_tables d) (shape_forms (shape_of_tables d) (well_formed_shape d well))) found)) in
          let same : charge (shape_of_tables d) n ≡ charge (shape_of_tables d) k.number = ap (charge (shape_of_tables d)) (sym number) in
          omega (arith, within, small, same)

-- And what a record that fits them makes of them.
module _ (d : Durable Entry) (change : Change) (places : List ℕ) (well : is_well_formed d ≡ true) (forms : change_has_forms change ≡ true)
    (fit : fits d change places ≡ true) where
  pub after_well : is_well_formed (replayed d change places) ≡ true
  after_well = record_well d change places well forms fit

  -- the entries after it are within the map
  pub entries_room : (replayed d change places).geometry ≡ d.geometry
      → entries d + entries_added (shape_of_tables d) change ≤ d.geometry.map_chunks + entries_taken (shape_of_tables d) change
  entries_room same =
      let after : entries (shape_of_tables (replayed d change places)) ≤ (replayed d change places).geometry.map_chunks = entries_within (replayed d change places) after_well in
      let go : entries (apply_shape (shape_of_tables d) change) + entries_taken (shape_of_tables d) change ≡ entries (shape_of_tables d) + entries_added (shape_of_tables d) change =
      entries_after None (shape_of_tables d) change (fits_accepted d change places fit) in
      let shape : entries (shape_of_tables (replayed d change places)) ≡ entries (apply_shape (shape_of_tables d) change) = ap (λ (e : Durable ℕ). entries e) (record_step d change places fit) in
      let map_chunks : (replayed d change places).geometry.map_chunks ≡ d.geometry.map_chunks = ap (λ g. g.map_chunks) same in
      let here : entries (shape_of_tables d) ≡ entries d = entries_shape d in
      omega (arith, after, go, shape, map_chunks, here)

  -- and so are the charges within quotas
  pub charge_room : (n : ℕ) → IsSome (container_of (replayed d change places) n)
      → charge (shape_of_tables d) n + charge_added (shape_of_tables d) change n < 2 ^ 32 + charge_taken (shape_of_tables d) change n
  charge_room n stands =
      let after : charge (shape_of_tables (replayed d change places)) n < 2 ^ 32 = charge_small (replayed d change places) after_well n stands in
      let go : charge (apply_shape (shape_of_tables d) change) n + charge_taken (shape_of_tables d) change n ≡ charge (shape_of_tables d) n + charge_added (shape_of_tables d) change n =
      charge_after None (shape_of_tables d) change (well_formed_shape d well) (fits_accepted d change places fit) n in
      let shape : charge (shape_of_tables (replayed d change places)) n ≡ charge (apply_shape (shape_of_tables d) change) n =
      ap (λ (e : Durable ℕ). charge e n) (record_step d change places fit) in
      omega (arith, after, go, shape)
