-- Tables that are well formed have a spelling.
use Rattle.std.proofs.Common.{◌≡◌, ℕ, ◌+◌, ◌-◌, ◌^◌, ◌≤◌, ◌&&◌, ◌||◌, Bool, true, false, cond, eqb, leb, ltb, not, List, [], ◌∷◌, ◌++◌, map, length, take, drop, Option, Some, None, refl, ap, subst, ◌∙◌, arith, ⊎_elim}
use Rattle.std.specs.Prelude.{is_some, filter}
use Rattle.std.specs.List.{list_all, find, flat_map}
use Rattle.std.specs.Str.{bytes_eq}
use Rattle.std.proofs.lemmas.Bool.{and_parts, and_from, or_cases, or_left, or_right, not_from_false, eqb-true, ne_eqb, leb-true, le-leb, ltb-true, lt-ltb}
use Rattle.vv_units.specs.declared.volume.VolumeKind.{VolumeKind}
use Rattle.vv_units.specs.declared.volume.VolumeKind.TheVariants.{Plain, SnapshotOf, FastCloneOf, FullCloneOf}
use Rattle.vv_record.specs.Reading.{is_within}
use Rattle.vv_record.specs.Spelling.{fits, each_behind}
use Rattle.vv_flat.specs.Lists.{if_found, mapped_from, all_above, all_rising}
use Rattle.vv_flat.specs.State.{Container, Volume, Context, Address, Binding, Job, Clone, Copy, Task, RunningClone, Piece, RunningCopy, Durable, indexed, map_volume, map_clone, map_piece, map_copy, container_of, volume_of, task_of}
use Rattle.vv_flat.specs.Chunks.{Entry, shape_of_tables}
use Rattle.vv_flat.specs.Space.{entries as entries_in, volume_count, pair_count, is_running, is_clone, job_target}
use Rattle.vv_flat.specs.Bindings.{is_below}
use Rattle.vv_flat.specs.Changes.{is_snapshot}
use Rattle.vv_flat.specs.Form.{is_formed, all_below, bindings_rise, begins_with_zero, running_clones, running_copies}
use Rattle.vv_flat.specs.Sharing.{Standing, standing, standings, is_placed, is_shared_rightly, shares}
use Rattle.vv_flat.specs.Rules.{is_logged, is_kind_logged, numbers_rule, names_rule, limits_rule, is_copy_kept, copies_rule, meets_rules}
use Rattle.vv_flat.specs.Fields.{is_number, have_forms, is_job as job_has_form, are_offers as offers_have_forms, are_needs as needs_have_forms, are_pairs as pairs_have_forms, are_endpoints as endpoints_have_forms}
use Rattle.vv_flat.proofs.Shares.{list_all-follows}
use Rattle.vv_flat.proofs.KeepRules.{rules_met}
use Rattle.vv_area.specs.Forms.{is_next_container, is_next_host, is_next_endpoint, is_next_address, rises, number_of_volume, number_of_context, number_of_task, no_place}
use Rattle.vv_area.specs.Spelling.{source_number, is_entry, are_entries, is_container_behind, are_containers, is_volume_behind, is_context_behind, is_binding_behind, is_job, is_task_behind, is_clone_row, is_clone_of, is_piece, are_pieces, is_copy_of, are_runs, are_volumes, are_contexts, are_bindings, are_tasks, is_spellable}
use Rattle.vv_area.proofs.Texts.{offers_fine, needs_fine, pairs_fine, endpoints_fine}
use Rattle.vv_area.proofs.Each.{Each, each_of, all_from, each_follows, each_both, each_of_map, each_mapped, each_left, each_flat, found_one, each_within, sum_of_map, length_of_map, last_is, Chain, chain_behind}

-- ---- numbers

fits_8 : (lsn n : ℕ) → lsn ≤ 2 ^ 62 - 1 → n ≤ lsn → fits 8 n ≡ true
fits_8 lsn n h k = lt-ltb n (256 ^ 8) (omega arith)

logged : (lsn n : ℕ) → is_logged lsn n ≡ true → n ≤ lsn
logged lsn n h = leb-true n lsn (and_parts (leb 1 n) (leb n lsn) h).1

kind_fits : (lsn : ℕ) (kind : VolumeKind) → lsn ≤ 2 ^ 62 - 1 → is_kind_logged lsn kind ≡ true → fits 8 (source_number kind) ≡ true
kind_fits lsn Plain h k = refl
kind_fits lsn (SnapshotOf v) h k = fits_8 lsn v.0 h (logged lsn v.0 k)
kind_fits lsn (FastCloneOf v) h k = fits_8 lsn v.0 h (logged lsn v.0 k)
kind_fits lsn (FullCloneOf v) h k = fits_8 lsn v.0 h (logged lsn v.0 k)

-- ---- entries

entry_fits : (pool lsn : ℕ) (place : Option ℕ) (stamp : ℕ) → pool ≤ 262144 → lsn ≤ 2 ^ 62 - 1 → is_placed pool (record { place = place; stamp = stamp }) ≡ true → stamp ≤ lsn → is_entry (record { place = place; stamp = stamp }) ≡ true
entry_fits pool lsn None stamp h k p le = and_from true _ refl (fits_8 lsn stamp k le)
entry_fits pool lsn (Some n) stamp h k p le =
    let lt = ltb-true n pool (and_parts (not (eqb stamp 0)) (ltb n pool) p).1 in
    and_from _ _ (lt-ltb n no_place (omega arith)) (fits_8 lsn stamp k le)

-- what is looked at in an entry that stands
abbrev is_fine : Standing → Bool
is_fine a = is_entry a.piece.chunk

standing_fits : (d : Durable Entry) → d.lsn ≤ 2 ^ 62 - 1 → (a : Standing) → is_shared_rightly d a ≡ true → is_fine a ≡ true
standing_fits d k a h =
    let three = (and_parts _ _ h).0 in
    let two = (and_parts (is_placed d.geometry.pool_chunks a.piece.chunk && leb a.piece.chunk.stamp d.lsn) _ three).0 in
    let both = and_parts (is_placed d.geometry.pool_chunks a.piece.chunk) (leb a.piece.chunk.stamp d.lsn) two in
    entry_fits d.geometry.pool_chunks d.lsn a.piece.chunk.place a.piece.chunk.stamp d.geometry.few_chunks k both.0 (leb-true a.piece.chunk.stamp d.lsn both.1)

chunks_fine : (o : Option ℕ) (i : ℕ) (xs : List Entry) → list_all is_fine (standing o (mapped_from (λ i x. record { index = i; chunk = x }) i xs)) ≡ true → list_all is_entry xs ≡ true
chunks_fine o i [] h = refl
chunks_fine o i (x ∷ xs) h =
    let both = and_parts (is_entry x) (list_all is_fine (standing o (mapped_from (λ i x. record { index = i; chunk = x }) (i + 1) xs))) h in
    and_from _ _ both.0 (chunks_fine o (i + 1) xs both.1)

pieces_fine : (o : Option ℕ) (ps : List (Piece Entry)) → list_all is_fine (standing o ps) ≡ true → Each (λ p. is_entry p.chunk ≡ true) ps
pieces_fine o ps h = each_mapped (λ a. record { target_of = o; piece = a }) is_fine ps h

record EntriesFine (d : Durable Entry) : Type 0 where
  volumes : Each (λ (v : Volume Entry). list_all is_entry v.chunks ≡ true) d.volumes
  clones : Each (λ (c : RunningClone Entry). (list_all is_entry c.image ≡ true) × (list_all is_entry c.target ≡ true)) d.clones
  copies : Each (λ (c : RunningCopy Entry). Each (λ (p : Piece Entry). is_entry p.chunk ≡ true) c.pieces) d.copies

entries_fine : (d : Durable Entry) → d.lsn ≤ 2 ^ 62 - 1 → shares d ≡ true → EntriesFine d
unfolding shares standings
entries_fine d k h =
    let of_volumes = flat_map (λ (v : Volume Entry). standing None (indexed v.chunks)) d.volumes in
    let of_clones = flat_map (λ (c : RunningClone Entry). standing None (indexed c.image) ++ standing (Some c.number) (indexed c.target)) d.clones in
    let of_copies = flat_map (λ (c : RunningCopy Entry). standing None c.pieces) d.copies in
    let all : list_all is_fine (of_volumes ++ of_clones ++ of_copies) ≡ true = list_all-follows (is_shared_rightly d) is_fine (standing_fits d k) (of_volumes ++ of_clones ++ of_copies) h in
    let split = each_left is_fine (of_volumes ++ of_clones) of_copies all in
    let front = each_left is_fine of_volumes of_clones split.0 in
    record {
      volumes = each_follows _ _ (λ v e. chunks_fine None 0 v.chunks e) d.volumes (each_flat is_fine (λ (v : Volume Entry). standing None (indexed v.chunks)) d.volumes front.0);
      clones = each_follows _ _ (λ c e. let both = each_left is_fine (standing None (indexed c.image)) (standing (Some c.number) (indexed c.target)) e in (chunks_fine None 0 c.image both.0, chunks_fine (Some c.number) 0 c.target both.1)) d.clones
          (each_flat is_fine (λ (c : RunningClone Entry). standing None (indexed c.image) ++ standing (Some c.number) (indexed c.target)) d.clones front.1);
      copies = each_follows _ _ (λ c e. pieces_fine None c.pieces e) d.copies (each_flat is_fine (λ (c : RunningCopy Entry). standing None c.pieces) d.copies split.1);
    }

-- ---- the lengths of lists

-- the entries of tables are as many as those of their shape
pub entries_of_shape : (d : Durable Entry) → entries_in (shape_of_tables d) ≡ entries_in d
unfolding entries_in
entries_of_shape d =
    let volumes = sum_of_map (map_volume (λ (e : Entry). e.stamp)) (λ (v : Volume ℕ). length v.chunks) (λ (v : Volume Entry). length v.chunks) (λ v. length_of_map (λ (e : Entry). e.stamp) v.chunks) d.volumes in
    let clones = sum_of_map (map_clone (λ (e : Entry). e.stamp)) (λ (c : RunningClone ℕ). length c.image + length c.target) (λ (c : RunningClone Entry). length c.image + length c.target)
    (λ c. let a = length_of_map (λ (e : Entry). e.stamp) c.image in let b = length_of_map (λ (e : Entry). e.stamp) c.target in omega arith) d.clones in
    let copies = sum_of_map (map_copy (λ (e : Entry). e.stamp)) (λ (c : RunningCopy ℕ). length c.pieces) (λ (c : RunningCopy Entry). length c.pieces) (λ c. length_of_map (map_piece (λ (e : Entry). e.stamp)) c.pieces) d.copies in
    omega arith

pub volumes_of_shape : (d : Durable Entry) → volume_count (shape_of_tables d) ≡ volume_count d
volumes_of_shape d =
    let volumes = length_of_map (map_volume (λ (e : Entry). e.stamp)) d.volumes in
    let clones = length_of_map (map_clone (λ (e : Entry). e.stamp)) d.clones in
    omega arith

pub pairs_of_shape : (d : Durable Entry) → pair_count (shape_of_tables d) ≡ pair_count d
pairs_of_shape d =
    let volumes = sum_of_map (map_volume (λ (e : Entry). e.stamp)) (λ (v : Volume ℕ). length v.metadata) (λ (v : Volume Entry). length v.metadata) (λ v. refl) d.volumes in
    let clones = sum_of_map (map_clone (λ (e : Entry). e.stamp)) (λ (c : RunningClone ℕ). length c.metadata) (λ (c : RunningClone Entry). length c.metadata) (λ c. refl) d.clones in
    omega arith

-- the lists, each of at most so many
record ListsWithin (most : ℕ) (d : Durable Entry) : Type 0 where
  volumes : Each (λ (v : Volume Entry). length v.chunks ≤ most) d.volumes
  clones : Each (λ (c : RunningClone Entry). (length c.image ≤ most) × (length c.target ≤ most)) d.clones
  copies : Each (λ (c : RunningCopy Entry). length c.pieces ≤ most) d.copies

lists_within : (most : ℕ) (d : Durable Entry) → entries_in d ≤ most → ListsWithin most d
unfolding entries_in
lists_within most d h = record {
  volumes = each_follows _ _ (λ v e. omega arith) d.volumes (each_within (λ (v : Volume Entry). length v.chunks) d.volumes);
  clones = each_follows _ _ (λ c e. (omega arith, omega arith)) d.clones (each_within (λ (c : RunningClone Entry). length c.image + length c.target) d.clones);
  copies = each_follows _ _ (λ c e. omega arith) d.copies (each_within (λ (c : RunningCopy Entry). length c.pieces) d.copies);
}

entries_are : (xs : List Entry) → length xs ≤ 1048576 → list_all is_entry xs ≡ true → are_entries xs ≡ true
entries_are xs le h = and_from _ _ (lt-ltb (length xs) (256 ^ 4) (omega arith)) h

-- ---- the rules that are used, part by part

record NumbersKept (d : Durable ℕ) : Type 0 where
  volumes : list_all (λ (v : Volume ℕ). is_logged d.lsn v.number && is_kind_logged d.lsn v.kind && leb v.reverted d.lsn) d.volumes ≡ true
  containers : list_all (λ (k : Container). eqb k.number 0 || is_logged d.lsn k.number) d.containers ≡ true
  tasks : Each (λ (t : Task). is_logged d.lsn t.number ≡ true) d.tasks
  lsn : d.lsn ≤ 2 ^ 62 - 1

numbers_kept : (d : Durable ℕ) → numbers_rule d ≡ true → NumbersKept d
unfolding numbers_rule
numbers_kept d h =
    let e = and_parts _ _ h in
    let k = and_parts _ _ e.0 in
    let c = and_parts _ _ k.0 in
    let b = and_parts _ _ c.0 in
    record {
      volumes = b.0;
      containers = b.1;
      tasks = each_follows _ _ (λ t p. (and_parts _ _ p).0) d.tasks (each_of _ d.tasks c.1);
      lsn = leb-true d.lsn _ e.1;
    }

record NamesKept (d : Durable ℕ) : Type 0 where
  volumes : list_all (λ (v : Volume ℕ). is_some (container_of d v.container)) d.volumes ≡ true
  clones : list_all (λ (c : RunningClone ℕ). is_some (container_of d c.container)) d.clones ≡ true
  bindings : list_all (λ (b : Binding). is_some (volume_of d b.volume)) d.bindings ≡ true

names_kept : (d : Durable ℕ) → names_rule d ≡ true → NamesKept d
unfolding names_rule
names_kept d h =
    let c = and_parts _ _ (and_parts _ _ h).0 in
    let b = and_parts _ _ c.0 in
    record {
      volumes = list_all-follows _ (λ (v : Volume ℕ). is_some (container_of d v.container)) (λ v p. (and_parts _ _ p).0) d.volumes b.0;
      clones = b.1;
      bindings = c.1;
    }

pub record LimitsKept (d : Durable ℕ) : Type 0 where
  pub volumes_few : volume_count d ≤ 256
  pub containers_few : length d.containers ≤ 32
  pub bindings_few : length d.bindings ≤ 1024
  pub tasks_few : length d.tasks ≤ 256
  pub pairs_few : pair_count d ≤ 4352
  pub entries_few : entries_in d ≤ d.geometry.map_chunks
  pub containers : list_all (λ (k : Container). leb (length k.offers) 16) d.containers ≡ true
  pub volumes : list_all (λ (v : Volume ℕ). leb (length v.needs) 8 && leb (length v.metadata) 64) d.volumes ≡ true
  pub clones : list_all (λ (c : RunningClone ℕ). leb (length c.needs) 8 && leb (length c.metadata) 64) d.clones ≡ true
  pub contexts : list_all (λ (c : Context). (leb 1 c.host && leb c.host 64) && leb (length c.endpoints) 8) d.contexts ≡ true
  pub bindings : list_all (λ (b : Binding). (leb 1 b.address.host && leb b.address.host 64) && leb b.count 65535) d.bindings ≡ true

pub limits_kept : (d : Durable ℕ) → limits_rule d ≡ true → LimitsKept d
unfolding limits_rule
limits_kept d h =
    let p12 = and_parts _ _ h in
    let p11 = and_parts _ _ p12.0 in
    let p10 = and_parts _ _ p11.0 in
    let p9 = and_parts _ _ p10.0 in
    let p8 = and_parts _ _ p9.0 in
    let p7 = and_parts _ _ p8.0 in
    let p6 = and_parts _ _ p7.0 in
    let p5 = and_parts _ _ p6.0 in
    let p4 = and_parts _ _ p5.0 in
    let p3 = and_parts _ _ p4.0 in
    let p2 = and_parts _ _ p3.0 in
    record {
      volumes_few = leb-true _ _ p2.0;
      containers_few = leb-true _ _ p2.1;
      bindings_few = leb-true _ _ p3.1;
      tasks_few = leb-true _ _ p5.1;
      pairs_few = leb-true _ _ p6.1;
      entries_few = leb-true _ _ p7.1;
      containers = p8.1;
      volumes = p9.1;
      clones = p10.1;
      contexts = p11.1;
      bindings = p12.1;
    }

record Formed (d : Durable Entry) : Type 0 where
  first : begins_with_zero d.containers ≡ true
  containers : all_rising (map (λ (k : Container). k.number) d.containers) ≡ true
  volumes : all_rising (map (λ (v : Volume Entry). v.number) d.volumes) ≡ true
  contexts : all_rising (map (λ (c : Context). c.host) d.contexts) ≡ true
  bindings : bindings_rise d.bindings ≡ true
  tasks : all_rising (map (λ (t : Task). t.number) d.tasks) ≡ true
  clones : bytes_eq (map (λ (c : RunningClone Entry). c.number) d.clones) (running_clones d.tasks) ≡ true
  copies : bytes_eq (map (λ (c : RunningCopy Entry). c.number) d.copies) (running_copies d.tasks) ≡ true

formed : (d : Durable Entry) → is_formed d ≡ true → Formed d
unfolding is_formed
formed d h =
    let p8 = and_parts _ _ h in
    let p7 = and_parts _ _ p8.0 in
    let p6 = and_parts _ _ p7.0 in
    let p5 = and_parts _ _ p6.0 in
    let p4 = and_parts _ _ p5.0 in
    let p3 = and_parts _ _ p4.0 in
    let p2 = and_parts _ _ p3.0 in
    record { first = p2.0; containers = p2.1; volumes = p3.1; contexts = p4.1; bindings = p5.1; tasks = p6.1; clones = p7.1; copies = p8.1 }

record HaveForms (d : Durable Entry) : Type 0 where
  containers : list_all (λ (k : Container). is_number 32 k.quota && offers_have_forms k.offers) d.containers ≡ true
  volumes : list_all (λ (v : Volume Entry). needs_have_forms v.needs && pairs_have_forms v.metadata) d.volumes ≡ true
  contexts : list_all (λ (c : Context). endpoints_have_forms c.endpoints) d.contexts ≡ true
  bindings : list_all (λ (b : Binding). is_number 16 b.address.endpoint && is_number 16 b.address.secondary) d.bindings ≡ true
  tasks : list_all (λ (t : Task). job_has_form t.job && is_number 32 t.done && is_number 32 t.total) d.tasks ≡ true
  clones : list_all (λ (c : RunningClone Entry). needs_have_forms c.needs && pairs_have_forms c.metadata) d.clones ≡ true

forms_had : (d : Durable Entry) → have_forms d ≡ true → HaveForms d
unfolding have_forms
forms_had d h =
    let p6 = and_parts _ _ h in
    let p5 = and_parts _ _ p6.0 in
    let p4 = and_parts _ _ p5.0 in
    let p3 = and_parts _ _ p4.0 in
    let p2 = and_parts _ _ p3.0 in
    record { containers = p2.0; volumes = p2.1; contexts = p3.1; bindings = p4.1; tasks = p5.1; clones = p6.1 }

-- ---- what is named stands, and so has a number that was given

numbered_within : {A : Type 0} (key : A → ℕ) (lsn n : ℕ) (xs : List A) → Each (λ x. key x ≤ lsn) xs → is_some (find (λ x. eqb (key x) n) xs) ≡ true → n ≤ lsn
numbered_within key lsn n xs h e =
    let f = found_one (λ x. key x ≤ lsn) (λ x. eqb (key x) n) xs h e in
    let same = eqb-true (key f.0) n f.2 in
    let le = f.1 in
    omega arith

container_within : (lsn n : ℕ) → (eqb n 0 || is_logged lsn n) ≡ true → n ≤ lsn
container_within lsn n h = ⊎_elim (λ z. let e = eqb-true n 0 z in omega arith) (λ l. logged lsn n l) (or_cases (eqb n 0) (is_logged lsn n) h)

containers_within : (d : Durable ℕ) → NumbersKept d → Each (λ (k : Container). k.number ≤ d.lsn) d.containers
containers_within d k = each_follows _ _ (λ c p. container_within d.lsn c.number p) d.containers (each_of _ d.containers k.containers)

volumes_within : (d : Durable ℕ) → NumbersKept d → Each (λ (v : Volume ℕ). v.number ≤ d.lsn) d.volumes
volumes_within d k = each_follows _ _ (λ v p. logged d.lsn v.number (and_parts _ _ (and_parts _ _ p).0).0) d.volumes (each_of _ d.volumes k.volumes)

-- ---- lists that rise

chain_of : {A : Type 0} (key : A → ℕ) (x : A) (ys : List A) → all_above (key x) (map key ys) ≡ true → Chain (λ a b. ltb (key a) (key b) ≡ true) x ys
chain_of key x [] h = tt
chain_of key x (y ∷ ys) h = let both = and_parts (ltb (key x) (key y)) (all_above (key y) (map key ys)) h in (both.0, chain_of key y ys both.1)

rises_from : {A : Type 0} (key : A → ℕ) (before : List A) (x : A) (n : ℕ) → ltb (key x) n ≡ true → rises key (before ++ x ∷ []) n ≡ true
rises_from key before x n h = ap (λ o. if_found o (λ y. ltb (key y) n) true) (last_is before x) ∙ h

-- items with a rising number
rising_behind : {A : Type 0} (key : A → ℕ) (is_behind : List A → A → Bool) (P : A → Type 0) → ((before : List A) (x : A) → P x → rises key before (key x) ≡ true → is_behind before x ≡ true)
    → (xs : List A) → all_rising (map key xs) ≡ true → Each P xs → each_behind is_behind [] xs ≡ true
rising_behind key is_behind P one [] r h = refl
rising_behind key is_behind P one (x ∷ xs) r h =
    and_from _ _ (one [] x h.0 refl)
    (chain_behind is_behind (λ a b. ltb (key a) (key b) ≡ true) P (λ before y z lt p. one (before ++ y ∷ []) z p (rises_from key before y (key z) lt)) [] x xs (chain_of key x xs r) h.1)

-- ---- containers

abbrev ContainerFine : ℕ → Container → Type 0
ContainerFine lsn k = (k.number ≤ lsn) × ((is_number 32 k.quota && offers_have_forms k.offers) ≡ true) × (leb (length k.offers) 16 ≡ true)

container_fine : (lsn : ℕ) → lsn ≤ 2 ^ 62 - 1 → (before : List Container) (k : Container) → ContainerFine lsn k → is_next_container before k.number ≡ true → is_container_behind before k ≡ true
container_fine lsn le before k p next =
    let forms = and_parts (is_number 32 k.quota) (offers_have_forms k.offers) p.1 in
    and_from _ _ (and_from _ _ (and_from _ _ next (fits_8 lsn k.number le p.0)) forms.0) (offers_fine k.offers (leb-true _ _ p.2) forms.1)

next_container : (before : List Container) (x y : Container) → ltb x.number y.number ≡ true → is_next_container (before ++ x ∷ []) y.number ≡ true
next_container before x y h = ap (λ o. if_found o (λ (k : Container). ltb k.number y.number) (eqb y.number 0)) (last_is before x) ∙ h

containers_behind : (lsn : ℕ) → lsn ≤ 2 ^ 62 - 1 → (xs : List Container) → begins_with_zero xs ≡ true → all_rising (map (λ (k : Container). k.number) xs) ≡ true → Each (ContainerFine lsn) xs
    → length xs ≤ 32 → are_containers xs ≡ true
containers_behind lsn le [] b r h few = absurd cc
containers_behind lsn le (x ∷ xs) b r h few =
    let count : is_within 1 255 (length (x ∷ xs)) ≡ true = and_from _ _ (le-leb 1 (length (x ∷ xs)) (omega arith)) (le-leb (length (x ∷ xs)) 255 (omega arith)) in
    and_from _ _ count
    (and_from _ _ (container_fine lsn le [] x h.0 b)
    (chain_behind is_container_behind (λ a c. ltb a.number c.number ≡ true) (ContainerFine lsn) (λ before y z lt p. container_fine lsn le (before ++ y ∷ []) z p (next_container before y z lt)) [] x xs
    (chain_of (λ (k : Container). k.number) x xs r) h.1))

-- ---- volumes

abbrev VolumeFine : ℕ → Volume Entry → Type 0
VolumeFine lsn v =
    (v.number ≤ lsn) × (v.container ≤ lsn) × (is_kind_logged lsn v.kind ≡ true) × (v.reverted ≤ lsn)
    × ((needs_have_forms v.needs && pairs_have_forms v.metadata) ≡ true) × ((leb (length v.needs) 8 && leb (length v.metadata) 64) ≡ true)
    × (length v.chunks ≤ 1048576) × (list_all is_entry v.chunks ≡ true)

volume_fine : (lsn : ℕ) → lsn ≤ 2 ^ 62 - 1 → (before : List (Volume Entry)) (v : Volume Entry) → VolumeFine lsn v → rises number_of_volume before v.number ≡ true → is_volume_behind 2 before v ≡ true
volume_fine lsn le before v p next =
    let forms = and_parts (needs_have_forms v.needs) (pairs_have_forms v.metadata) p.4 in
    let few = and_parts (leb (length v.needs) 8) (leb (length v.metadata) 64) p.5 in
    and_from _ _ (and_from _ _ (and_from _ _ (and_from _ _ (and_from _ _ (and_from _ _ (and_from _ _ next
    (fits_8 lsn v.number le p.0)) (fits_8 lsn v.container le p.1)) (kind_fits lsn v.kind le p.2)) (fits_8 lsn v.reverted le p.3))
    (needs_fine v.needs (leb-true _ _ few.0) forms.0)) (pairs_fine v.metadata (leb-true _ _ few.1) forms.1)) (entries_are v.chunks p.6 p.7)

-- ---- contexts

abbrev ContextFine : Context → Type 0
ContextFine c = (((leb 1 c.host && leb c.host 64) && leb (length c.endpoints) 8) ≡ true) × (endpoints_have_forms c.endpoints ≡ true)

context_fine : (before : List Context) (c : Context) → ContextFine c → rises number_of_context before c.host ≡ true → is_context_behind before c ≡ true
context_fine before c p next =
    let both = and_parts (leb 1 c.host && leb c.host 64) (leb (length c.endpoints) 8) p.0 in
    and_from _ _ (and_from _ _ next both.0) (endpoints_fine c.endpoints (leb-true _ _ both.1) p.1)

-- rising numbers up to a last one are few
few_above : (most n : ℕ) (xs : List Context) → n ≤ most → all_above n (map (λ (c : Context). c.host) xs) ≡ true → Each (λ c. c.host ≤ most) xs → n + length xs ≤ most
few_above most n [] le r h = omega arith
few_above most n (x ∷ xs) le r h =
    let both = and_parts (ltb n x.host) (all_above x.host (map (λ (c : Context). c.host) xs)) r in
    let lt = ltb-true n x.host both.0 in
    let rest = few_above most x.host xs h.0 both.1 h.1 in
    omega arith

few_contexts : (xs : List Context) → all_rising (map (λ (c : Context). c.host) xs) ≡ true → Each (λ c. c.host ≤ 64) xs → length xs ≤ 65
few_contexts [] r h = omega arith
few_contexts (x ∷ xs) r h = let rest = few_above 64 x.host xs h.0 r h.1 in omega arith

host_within : (c : Context) → ContextFine c → c.host ≤ 64
host_within c p = leb-true c.host 64 (and_parts (leb 1 c.host) (leb c.host 64) (and_parts (leb 1 c.host && leb c.host 64) (leb (length c.endpoints) 8) p.0).0).1

-- ---- bindings

abbrev BindingFine : ℕ → Binding → Type 0
BindingFine lsn b =
    (((leb 1 b.address.host && leb b.address.host 64) && leb b.count 65535) ≡ true) × ((is_number 16 b.address.endpoint && is_number 16 b.address.secondary) ≡ true) × (b.volume ≤ lsn)

-- the tests of an address one behind the other
record NextAddress (before : List Binding) (a : Address) : Type 0 where
  host : is_next_host before a.host ≡ true
  endpoint : is_next_endpoint before a.host a.endpoint ≡ true
  address : is_next_address before a ≡ true

binding_fine : (lsn : ℕ) → lsn ≤ 2 ^ 62 - 1 → (before : List Binding) (b : Binding) → BindingFine lsn b → NextAddress before b.address → is_binding_behind before b ≡ true
binding_fine lsn le before b p next =
    let both = and_parts (leb 1 b.address.host && leb b.address.host 64) (leb b.count 65535) p.0 in
    let numbers = and_parts (is_number 16 b.address.endpoint) (is_number 16 b.address.secondary) p.1 in
    let count = leb-true b.count 65535 both.1 in
    and_from _ _ (and_from _ _ (and_from _ _ (and_from _ _ (and_from _ _ (and_from _ _ (and_from _ _
    next.host both.0) next.endpoint) numbers.0) next.address) numbers.1) (fits_8 lsn b.volume le p.2)) (lt-ltb b.count (256 ^ 2) (omega arith))

below_host : (a b : Address) → is_below a b ≡ true → (leb a.host b.host ≡ true) × ((not (eqb a.host b.host) || leb a.endpoint b.endpoint) ≡ true)
below_host a b h =
    ⊎_elim
    (λ lt. let l = ltb-true a.host b.host lt in (le-leb a.host b.host (omega arith), or_left _ _ (not_from_false _ (ne_eqb a.host b.host (λ e. absurd (omega arith))))))
    (λ same.
    let s = and_parts (eqb a.host b.host) _ same in
    let e = eqb-true a.host b.host s.0 in (
      le-leb a.host b.host (omega arith),
      or_right _ _ (⊎_elim
          (λ lt. let l = ltb-true a.endpoint b.endpoint lt in le-leb a.endpoint b.endpoint (omega arith))
          (λ also. let k = eqb-true a.endpoint b.endpoint (and_parts (eqb a.endpoint b.endpoint) _ also).0 in le-leb a.endpoint b.endpoint (omega arith))
          (or_cases (ltb a.endpoint b.endpoint) _ s.1)),
    ))
    (or_cases (ltb a.host b.host) _ h)

next_address : (before : List Binding) (x y : Binding) → is_below x.address y.address ≡ true → NextAddress (before ++ x ∷ []) y.address
next_address before x y h =
    let b = below_host x.address y.address h in
    record {
      host = ap (λ o. if_found o (λ (b : Binding). leb b.address.host y.address.host) true) (last_is before x) ∙ b.0;
      endpoint = ap (λ o. if_found o (λ (b : Binding). not (eqb b.address.host y.address.host) || leb b.address.endpoint y.address.endpoint) true) (last_is before x) ∙ b.1;
      address = ap (λ o. if_found o (λ (b : Binding). is_below b.address y.address) true) (last_is before x) ∙ h;
    }

below_chain : (x : Binding) (ys : List Binding) → all_below x.address ys ≡ true → Chain (λ (a b : Binding). is_below a.address b.address ≡ true) x ys
below_chain x [] h = tt
below_chain x (y ∷ ys) h = let both = and_parts (is_below x.address y.address) (all_below y.address ys) h in (both.0, below_chain y ys both.1)

bindings_behind : (lsn : ℕ) → lsn ≤ 2 ^ 62 - 1 → (xs : List Binding) → bindings_rise xs ≡ true → Each (BindingFine lsn) xs → each_behind is_binding_behind [] xs ≡ true
bindings_behind lsn le [] r h = refl
bindings_behind lsn le (x ∷ xs) r h =
    and_from _ _ (binding_fine lsn le [] x h.0 (record { host = refl; endpoint = refl; address = refl }))
    (chain_behind is_binding_behind (λ (a b : Binding). is_below a.address b.address ≡ true) (BindingFine lsn) (λ before y z lt p. binding_fine lsn le (before ++ y ∷ []) z p (next_address before y z lt)) [] x xs (below_chain x xs r) h.1)

-- ---- tasks

job_fits : (job : Job) → job_has_form job ≡ true → is_job job ≡ true
job_fits (Clone volume) h = h
job_fits (Copy source base target) h = h

abbrev TaskFine : ℕ → Task → Type 0
TaskFine lsn t = (is_logged lsn t.number ≡ true) × ((job_has_form t.job && is_number 32 t.done && is_number 32 t.total) ≡ true)

task_fine : (lsn : ℕ) → lsn ≤ 2 ^ 62 - 1 → (before : List Task) (t : Task) → TaskFine lsn t → rises number_of_task before t.number ≡ true → is_task_behind before t ≡ true
task_fine lsn le before t p next =
    let both = and_parts (job_has_form t.job && is_number 32 t.done) (is_number 32 t.total) p.1 in
    let first = and_parts (job_has_form t.job) (is_number 32 t.done) both.0 in
    and_from _ _ (and_from _ _ (and_from _ _ (and_from _ _ next (fits_8 lsn t.number le (logged lsn t.number p.0))) (job_fits t.job first.0)) first.1) both.1

-- ---- what running tasks hold

abbrev CloneFine : RunningClone Entry → Type 0
CloneFine c = is_clone_row 2 c ≡ true

abbrev CopyFine : RunningCopy Entry → Type 0
CopyFine c = are_pieces c.pieces ≡ true

abbrev clone_numbers : List (RunningClone Entry) → List ℕ
clone_numbers clones = map (λ (c : RunningClone Entry). c.number) clones

abbrev copy_numbers : List (RunningCopy Entry) → List ℕ
copy_numbers copies = map (λ (c : RunningCopy Entry). c.number) copies

abbrev task_numbers : List Task → List ℕ
task_numbers ts = map (λ (t : Task). t.number) ts

abbrev AreFine : List Task → Type 0
AreFine ts =
    (clones : List (RunningClone Entry)) (copies : List (RunningCopy Entry)) → bytes_eq (clone_numbers clones) (running_clones ts) ≡ true → bytes_eq (copy_numbers copies) (running_copies ts) ≡ true
    → Each CloneFine clones → Each CopyFine copies → are_runs 2 ts clones copies ≡ true

clone_step : (t : Task) (ts : List Task) → AreFine ts → (clones : List (RunningClone Entry)) (copies : List (RunningCopy Entry)) → bytes_eq (clone_numbers clones) (t.number ∷ running_clones ts) ≡ true
    → bytes_eq (copy_numbers copies) (running_copies ts) ≡ true → Each CloneFine clones → Each CopyFine copies
    → (leb 1 (length clones) && list_all (is_clone_of 2 t.number) (take 1 clones) && are_runs 2 ts (drop 1 clones) copies) ≡ true
clone_step t ts more [] copies e k h g = absurd cc
clone_step t ts more (c ∷ cs) copies e k h g =
    let both = and_parts (eqb c.number t.number) (bytes_eq (clone_numbers cs) (running_clones ts)) e in
    and_from (leb 1 (length (c ∷ cs)) && list_all (is_clone_of 2 t.number) (c ∷ [])) (are_runs 2 ts cs copies)
    (and_from (leb 1 (length (c ∷ cs))) (list_all (is_clone_of 2 t.number) (c ∷ [])) (le-leb 1 (length (c ∷ cs)) (omega arith)) (and_from (is_clone_of 2 t.number c) true (and_from (eqb c.number t.number) (is_clone_row 2 c) both.0 h.0) refl))
    (more cs copies both.1 k h.1 g)

copy_step : (t : Task) (ts : List Task) → AreFine ts → (clones : List (RunningClone Entry)) (copies : List (RunningCopy Entry)) → bytes_eq (clone_numbers clones) (running_clones ts) ≡ true
    → bytes_eq (copy_numbers copies) (t.number ∷ running_copies ts) ≡ true → Each CloneFine clones → Each CopyFine copies
    → (leb 1 (length copies) && list_all (is_copy_of t.number) (take 1 copies) && are_runs 2 ts clones (drop 1 copies)) ≡ true
copy_step t ts more clones [] e k h g = absurd cc
copy_step t ts more clones (c ∷ cs) e k h g =
    let both = and_parts (eqb c.number t.number) (bytes_eq (copy_numbers cs) (running_copies ts)) k in
    and_from (leb 1 (length (c ∷ cs)) && list_all (is_copy_of t.number) (c ∷ [])) (are_runs 2 ts clones cs)
    (and_from (leb 1 (length (c ∷ cs))) (list_all (is_copy_of t.number) (c ∷ [])) (le-leb 1 (length (c ∷ cs)) (omega arith)) (and_from (is_copy_of t.number c) true (and_from (eqb c.number t.number) (are_pieces c.pieces) both.0 g.0) refl))
    (more clones cs e both.1 h g.1)

run_step : (t : Task) (ts : List Task) → AreFine ts → (runs_on of_clone : Bool) (clones : List (RunningClone Entry)) (copies : List (RunningCopy Entry))
    → bytes_eq (clone_numbers clones) (task_numbers (cond (runs_on && of_clone) (t ∷ filter (λ t. is_running t && is_clone t.job) ts) (filter (λ t. is_running t && is_clone t.job) ts))) ≡ true
    → bytes_eq (copy_numbers copies) (task_numbers (cond (runs_on && not of_clone) (t ∷ filter (λ t. is_running t && not (is_clone t.job)) ts) (filter (λ t. is_running t && not (is_clone t.job)) ts))) ≡ true
    → Each CloneFine clones → Each CopyFine copies
    → cond runs_on (cond of_clone (leb 1 (length clones) && list_all (is_clone_of 2 t.number) (take 1 clones) && are_runs 2 ts (drop 1 clones) copies)
    (leb 1 (length copies) && list_all (is_copy_of t.number) (take 1 copies) && are_runs 2 ts clones (drop 1 copies))) (are_runs 2 ts clones copies) ≡ true
run_step t ts more true true clones copies e k h g = clone_step t ts more clones copies e k h g
run_step t ts more true false clones copies e k h g = copy_step t ts more clones copies e k h g
run_step t ts more false of_clone clones copies e k h g = more clones copies e k h g

no_item : {A : Type 0} (key : A → ℕ) (xs : List A) → bytes_eq (map key xs) [] ≡ true → eqb (length xs) 0 ≡ true
no_item key [] h = refl
no_item key (x ∷ xs) h = absurd cc

runs_fine : (ts : List Task) → AreFine ts
unfolding are_runs
runs_fine [] clones copies e k h g = and_from _ _ (no_item (λ (c : RunningClone Entry). c.number) clones e) (no_item (λ (c : RunningCopy Entry). c.number) copies k)
runs_fine (t ∷ ts) clones copies e k h g = run_step t ts (runs_fine ts) (is_running t) (is_clone t.job) clones copies e k h g

if_found_is : {A : Type 0} (o : Option A) (f : A → Bool) → if_found o f false ≡ true → (x : A) × (o ≡ Some x) × (f x ≡ true)
if_found_is None f h = absurd cc
if_found_is (Some x) f h = (x, refl, h)

find_step : {A : Type 0} (P : A → Type 0) (p : A → Bool) (x y : A) (xs : List A) (b : Bool) → P x → cond b (Some x) (find p xs) ≡ Some y → (find p xs ≡ Some y → P y) → P y
find_step P p x y xs true h e rest = let same : x ≡ y = cc in subst P same h
find_step P p x y xs false h e rest = rest e

find_is : {A : Type 0} (P : A → Type 0) (p : A → Bool) (xs : List A) (y : A) → Each P xs → find p xs ≡ Some y → P y
find_is P p [] y h e = absurd cc
find_is P p (x ∷ xs) y h e = find_step P p x y xs (p x) h.0 e (find_is P p xs y h.1)

index_fits : (most i : ℕ) → most ≤ 1048576 → ltb i most ≡ true → fits 4 i ≡ true
index_fits most i le h = let lt = ltb-true i most h in lt-ltb i (256 ^ 4) (omega arith)

-- the pieces of a running copy are inside its target
copy_inside : (d : Durable ℕ) → Each (λ (v : Volume ℕ). length v.chunks ≤ 1048576) d.volumes → (c : RunningCopy ℕ) → if_found (task_of d c.number) (is_copy_kept d c) false ≡ true
    → Each (λ (p : Piece ℕ). fits 4 p.index ≡ true) c.pieces
copy_inside d few c h =
    let t = if_found_is (task_of d c.number) (is_copy_kept d c) h in
    let indexes = map (λ (p : Piece ℕ). p.index) c.pieces in
    let in_volume : Volume ℕ → Bool = λ v. list_all (λ i. ltb i (length v.chunks)) indexes in
    let in_target : ℕ → Bool = λ n. not (is_snapshot d n) && if_found (volume_of d n) in_volume false in
    let inside : if_found (job_target t.0.job) in_target false ≡ true = (and_parts (eqb t.0.total (length c.pieces) && all_rising indexes) (if_found (job_target t.0.job) in_target false) t.2).1 in
    let n = if_found_is (job_target t.0.job) in_target inside in
    let v = if_found_is (volume_of d n.0) in_volume (and_parts (not (is_snapshot d n.0)) (if_found (volume_of d n.0) in_volume false) n.2).1 in
    let le = find_is (λ (w : Volume ℕ). length w.chunks ≤ 1048576) (λ w. eqb w.number n.0) d.volumes v.0 few v.1 in
    let each = each_mapped (λ (p : Piece ℕ). p.index) (λ i. ltb i (length v.0.chunks)) c.pieces v.2 in
    each_follows (λ (p : Piece ℕ). ltb p.index (length v.0.chunks) ≡ true) (λ (p : Piece ℕ). fits 4 p.index ≡ true) (λ p lt. index_fits (length v.0.chunks) p.index le lt) c.pieces each

copies_inside : (d : Durable ℕ) → copies_rule d ≡ true → list_all (λ (c : RunningCopy ℕ). if_found (task_of d c.number) (is_copy_kept d c) false) d.copies ≡ true
unfolding copies_rule
copies_inside d h = (and_parts _ _ (and_parts _ _ h).0).0

-- ---- the whole

lengths_mapped : (vs : List (Volume Entry)) → Each (λ (v : Volume Entry). length v.chunks ≤ 1048576) vs → Each (λ (v : Volume ℕ). length v.chunks ≤ 1048576) (map (map_volume (λ (e : Entry). e.stamp)) vs)
lengths_mapped [] h = tt
lengths_mapped (v ∷ vs) h = let same = length_of_map (λ (e : Entry). e.stamp) v.chunks in let le = h.0 in (omega arith, lengths_mapped vs h.1)

abbrev stamp_of : Entry → ℕ
stamp_of e = e.stamp

volumes_fine : (d : Durable Entry) → NumbersKept (shape_of_tables d) → NamesKept (shape_of_tables d) → LimitsKept (shape_of_tables d) → Formed d → HaveForms d → EntriesFine d → ListsWithin 1048576 d → are_volumes 2 d.volumes ≡ true
volumes_fine d numbers names limits f had entries lists =
    let shape = shape_of_tables d in
    let logs = each_mapped (map_volume stamp_of) (λ (v : Volume ℕ). is_logged d.lsn v.number && is_kind_logged d.lsn v.kind && leb v.reverted d.lsn) d.volumes numbers.volumes in
    let held = each_mapped (map_volume stamp_of) (λ (v : Volume ℕ). is_some (container_of shape v.container)) d.volumes names.volumes in
    let few = each_mapped (map_volume stamp_of) (λ (v : Volume ℕ). leb (length v.needs) 8 && leb (length v.metadata) 64) d.volumes limits.volumes in
    let forms = each_of (λ (v : Volume Entry). needs_have_forms v.needs && pairs_have_forms v.metadata) d.volumes had.volumes in
    let containers = containers_within shape numbers in
    let all = each_both _ _ d.volumes (each_both _ _ d.volumes (each_both _ _ d.volumes logs held) (each_both _ _ d.volumes few forms)) (each_both _ _ d.volumes lists.volumes entries.volumes) in
    let fine : Each (VolumeFine d.lsn) d.volumes = each_follows _ (VolumeFine d.lsn) (λ v p.
    let three = and_parts (is_logged d.lsn v.number && is_kind_logged d.lsn v.kind) (leb v.reverted d.lsn) p.0.0.0 in
    let two = and_parts (is_logged d.lsn v.number) (is_kind_logged d.lsn v.kind) three.0 in
    (logged d.lsn v.number two.0, numbered_within (λ (k : Container). k.number) d.lsn v.container d.containers containers p.0.0.1, two.1, leb-true v.reverted d.lsn three.1, p.0.1.1, p.0.1.0, p.1.0, p.1.1)) d.volumes all
    in
    let count = volumes_of_shape d in
    let limit = limits.volumes_few in
    and_from _ _ (lt-ltb (length d.volumes) (256 ^ 2) (omega arith)) (rising_behind number_of_volume (is_volume_behind 2) (VolumeFine d.lsn) (volume_fine d.lsn numbers.lsn) d.volumes f.volumes fine)

contexts_fine : (d : Durable Entry) → LimitsKept (shape_of_tables d) → Formed d → HaveForms d → are_contexts d.contexts ≡ true
contexts_fine d limits f had =
    let fine : Each ContextFine d.contexts = each_both _ _ d.contexts (each_of (λ (c : Context). (leb 1 c.host && leb c.host 64) && leb (length c.endpoints) 8) d.contexts limits.contexts) (each_of (λ (c : Context). endpoints_have_forms c.endpoints) d.contexts had.contexts) in
    let few = few_contexts d.contexts f.contexts (each_follows ContextFine (λ c. c.host ≤ 64) host_within d.contexts fine) in
    and_from _ _ (lt-ltb (length d.contexts) (256 ^ 1) (omega arith)) (rising_behind number_of_context is_context_behind ContextFine context_fine d.contexts f.contexts fine)

bindings_fine : (d : Durable Entry) → NumbersKept (shape_of_tables d) → NamesKept (shape_of_tables d) → LimitsKept (shape_of_tables d) → Formed d → HaveForms d → are_bindings d.bindings ≡ true
bindings_fine d numbers names limits f had =
    let shape = shape_of_tables d in
    let few = each_of (λ (b : Binding). (leb 1 b.address.host && leb b.address.host 64) && leb b.count 65535) d.bindings limits.bindings in
    let forms = each_of (λ (b : Binding). is_number 16 b.address.endpoint && is_number 16 b.address.secondary) d.bindings had.bindings in
    let bound = each_of (λ (b : Binding). is_some (volume_of shape b.volume)) d.bindings names.bindings in
    let volumes = volumes_within shape numbers in
    let fine : Each (BindingFine d.lsn) d.bindings = each_follows _ (BindingFine d.lsn) (λ b p. (p.0.0, p.0.1, numbered_within (λ (v : Volume ℕ). v.number) d.lsn b.volume shape.volumes volumes p.1)) d.bindings (each_both _ _ d.bindings (each_both _ _ d.bindings few forms) bound) in
    let count = limits.bindings_few in
    and_from _ _ (lt-ltb (length d.bindings) (256 ^ 2) (omega arith)) (bindings_behind d.lsn numbers.lsn d.bindings f.bindings fine)

tasks_fine : (d : Durable Entry) → NumbersKept (shape_of_tables d) → LimitsKept (shape_of_tables d) → Formed d → HaveForms d → are_tasks d.tasks ≡ true
tasks_fine d numbers limits f had =
    let fine : Each (TaskFine d.lsn) d.tasks = each_both _ _ d.tasks numbers.tasks (each_of (λ (t : Task). job_has_form t.job && is_number 32 t.done && is_number 32 t.total) d.tasks had.tasks) in
    let count = limits.tasks_few in
    and_from _ _ (lt-ltb (length d.tasks) (256 ^ 2) (omega arith)) (rising_behind number_of_task is_task_behind (TaskFine d.lsn) (task_fine d.lsn numbers.lsn) d.tasks f.tasks fine)

clones_fine : (d : Durable Entry) → NumbersKept (shape_of_tables d) → NamesKept (shape_of_tables d) → LimitsKept (shape_of_tables d) → HaveForms d → EntriesFine d → ListsWithin 1048576 d → Each CloneFine d.clones
clones_fine d numbers names limits had entries lists =
    let shape = shape_of_tables d in
    let held = each_mapped (map_clone stamp_of) (λ (c : RunningClone ℕ). is_some (container_of shape c.container)) d.clones names.clones in
    let few = each_mapped (map_clone stamp_of) (λ (c : RunningClone ℕ). leb (length c.needs) 8 && leb (length c.metadata) 64) d.clones limits.clones in
    let forms = each_of (λ (c : RunningClone Entry). needs_have_forms c.needs && pairs_have_forms c.metadata) d.clones had.clones in
    let containers = containers_within shape numbers in
    each_follows _ CloneFine (λ c p.
    let f = and_parts (needs_have_forms c.needs) (pairs_have_forms c.metadata) p.0.1.1 in
    let n = and_parts (leb (length c.needs) 8) (leb (length c.metadata) 64) p.0.1.0 in
    and_from _ _ (and_from _ _ (and_from _ _ (and_from _ _ (fits_8 d.lsn c.container numbers.lsn (numbered_within (λ (k : Container). k.number) d.lsn c.container d.containers containers p.0.0))
    (needs_fine c.needs (leb-true _ _ n.0) f.0)) (pairs_fine c.metadata (leb-true _ _ n.1) f.1)) (entries_are c.image p.1.0.0 p.1.1.0)) (entries_are c.target p.1.0.1 p.1.1.1))
    d.clones (each_both _ _ d.clones (each_both _ _ d.clones held (each_both _ _ d.clones few forms)) (each_both _ _ d.clones lists.clones entries.clones))

pieces_are : (ps : List (Piece Entry)) → length ps ≤ 1048576 → Each (λ (p : Piece Entry). (fits 4 p.index ≡ true) × (is_entry p.chunk ≡ true)) ps → are_pieces ps ≡ true
pieces_are ps le h = and_from _ _ (lt-ltb (length ps) (256 ^ 4) (omega arith)) (all_from is_piece ps (each_follows _ (λ p. is_piece p ≡ true) (λ p e. and_from _ _ e.0 e.1) ps h))

copies_fine : (d : Durable Entry) → copies_rule (shape_of_tables d) ≡ true → EntriesFine d → ListsWithin 1048576 d → Each CopyFine d.copies
copies_fine d rule entries lists =
    let shape = shape_of_tables d in
    let inside = each_mapped (map_copy stamp_of) (λ (c : RunningCopy ℕ). if_found (task_of shape c.number) (is_copy_kept shape c) false) d.copies (copies_inside shape rule) in
    let few = lengths_mapped d.volumes lists.volumes in
    each_follows _ CopyFine (λ c p.
    let at = each_of_map (map_piece stamp_of) (λ (q : Piece ℕ). fits 4 q.index ≡ true) c.pieces (copy_inside shape few (map_copy stamp_of c) p.0) in
    pieces_are c.pieces p.1.0 (each_both _ _ c.pieces at p.1.1)) d.copies (each_both _ _ d.copies inside (each_both _ _ d.copies lists.copies entries.copies))

-- every table that is well formed has a spelling
pub has_spelling : (d : Durable Entry) → is_formed d ≡ true → meets_rules d ≡ true → have_forms d ≡ true → is_spellable 2 d ≡ true
unfolding is_spellable
has_spelling d form rules forms =
    let shape = shape_of_tables d in
    let met = rules_met d form rules in
    let numbers = numbers_kept shape met.0.numbers in
    let names = names_kept shape met.0.names in
    let limits = limits_kept shape met.0.limits in
    let f = formed d form in
    let had = forms_had d forms in
    let lsn : d.lsn ≤ 2 ^ 62 - 1 = numbers.lsn in
    let entries = entries_fine d lsn met.1 in
    let map_size = d.geometry.map_to in
    let entries_few : entries_in d ≤ 1048576 = omega (arith, entries_of_shape d, limits.entries_few) in
    let lists = lists_within 1048576 d entries_few in
    let containers_le = containers_within shape numbers in
    let containers = containers_behind d.lsn lsn d.containers f.first f.containers
    (each_follows _ (ContainerFine d.lsn) (λ k p. (p.0, p.1.0, p.1.1)) d.containers
    (each_both (λ k. k.number ≤ d.lsn) _ d.containers containers_le
    (each_both _ _ d.containers (each_of (λ (k : Container). is_number 32 k.quota && offers_have_forms k.offers) d.containers had.containers) (each_of (λ (k : Container). leb (length k.offers) 16) d.containers limits.containers)))) limits.containers_few
    in
    and_from _ _ (and_from _ _ (and_from _ _ (and_from _ _ (and_from _ _ (and_from _ _ (lt-ltb d.lsn (256 ^ 8) (omega arith)) containers) (volumes_fine d numbers names limits f had entries lists))
    (contexts_fine d limits f had)) (bindings_fine d numbers names limits f had)) (tasks_fine d numbers limits f had))
    (runs_fine d.tasks d.clones d.copies f.clones f.copies (clones_fine d numbers names limits had entries lists) (copies_fine d met.0.copies entries lists))
