-- The rules of tables, which are said of their shape, as tests of the tables themselves.
use Rattle.std.proofs.Common.{◌≡◌, ℕ, ◌==◌, ◌&&◌, ◌||◌, ◌++◌, not, Bool, [], ◌∷◌, map, length, refl, sym, ap, ◌∙◌}
use Rattle.std.specs.Prelude.{nat_le}
use Rattle.std.specs.List.{list_all}
use Rattle.std.proofs.lemmas.List.{length-map}
use Rattle.std.proofs.lemmas.List.Folds.{list_all-map}
use Rattle.vv_flat.specs.Lists.{all_different}
use Rattle.vv_flat.specs.State.{Container, Volume, Context, Binding, Task, RunningClone, Durable, map_volume, map_clone}
use Rattle.vv_flat.specs.Chunks.{Entry, shape_of_tables}
use Rattle.vv_flat.specs.Space.{is_running, entries, volume_count, pair_count, running_count, is_volume_size}
use Rattle.vv_flat.specs.Refusals.{last_lsn, pairs_limit}
use Rattle.vv_flat.specs.Rules.{is_logged, is_kind_logged, is_source_logged, is_host, numbers_rule, limits_rule, sizes_rule}
use Rattle.vv_flat.proofs.MapLists.{map-after}
use Rattle.vv_area.proofs.Shapes.{stamp_of, all_mapped, shape_volume_count, shape_pair_count, shape_entries}
use Rattle.vv_area.proofs.Conjunctions.{conj_2, conj_12}
use Rattle.vv_area.specs.Ruled.{all_numbers}

shape_numbers : (d : Durable Entry) → all_different (map (λ (v : Volume ℕ). v.number) (map (map_volume stamp_of) d.volumes) ++ map (λ (k : Container). k.number) d.containers
    ++ map (λ (c : RunningClone ℕ). c.number) (map (map_clone stamp_of) d.clones)) ≡ all_different (all_numbers d)
shape_numbers d =
    ap (λ ns. all_different (ns ++ map (λ (k : Container). k.number) d.containers ++ map (λ (c : RunningClone ℕ). c.number) (map (map_clone stamp_of) d.clones)))
    (map-after (map_volume stamp_of) (λ (v : Volume ℕ). v.number) (λ (v : Volume Entry). v.number) (λ v. refl) d.volumes)
    ∙ ap (λ ns. all_different (map (λ (v : Volume Entry). v.number) d.volumes ++ map (λ (k : Container). k.number) d.containers ++ ns))
    (map-after (map_clone stamp_of) (λ (c : RunningClone ℕ). c.number) (λ (c : RunningClone Entry). c.number) (λ c. refl) d.clones)

pub numbers_parts : (d : Durable Entry) → numbers_rule (shape_of_tables d)
    ≡ (list_all (λ (v : Volume Entry). is_logged d.lsn v.number && is_kind_logged d.lsn v.kind && nat_le v.reverted d.lsn) d.volumes
    && list_all (λ (k : Container). (k.number == 0) || is_logged d.lsn k.number) d.containers
    && list_all (λ (t : Task). is_logged d.lsn t.number && (not (is_running t) || is_source_logged d.lsn t.job)) d.tasks
    && all_different (all_numbers d) && nat_le d.lsn last_lsn)
unfolding numbers_rule
numbers_parts d =
    ap (λ b. b && list_all (λ (k : Container). (k.number == 0) || is_logged d.lsn k.number) d.containers
    && list_all (λ (t : Task). is_logged d.lsn t.number && (not (is_running t) || is_source_logged d.lsn t.job)) d.tasks
    && all_different (map (λ (v : Volume ℕ). v.number) (map (map_volume stamp_of) d.volumes) ++ map (λ (k : Container). k.number) d.containers
    ++ map (λ (c : RunningClone ℕ). c.number) (map (map_clone stamp_of) d.clones)) && nat_le d.lsn last_lsn)
    (list_all-map (λ (v : Volume ℕ). is_logged d.lsn v.number && is_kind_logged d.lsn v.kind && nat_le v.reverted d.lsn) (map_volume stamp_of) d.volumes)
    ∙ ap (λ b. list_all (λ (v : Volume Entry). is_logged d.lsn v.number && is_kind_logged d.lsn v.kind && nat_le v.reverted d.lsn) d.volumes
    && list_all (λ (k : Container). (k.number == 0) || is_logged d.lsn k.number) d.containers
    && list_all (λ (t : Task). is_logged d.lsn t.number && (not (is_running t) || is_source_logged d.lsn t.job)) d.tasks
    && b && nat_le d.lsn last_lsn) (shape_numbers d)

pub sizes_told : (d : Durable Entry) (a b : Bool)
    → a ≡ list_all (λ (v : Volume Entry). is_volume_size d.geometry.chunk_blocks (length v.chunks)) d.volumes
    → b ≡ list_all (λ (c : RunningClone Entry). is_volume_size d.geometry.chunk_blocks (length c.image)) d.clones
    → list_all (λ x. x) (a ∷ b ∷ []) ≡ sizes_rule (shape_of_tables d)
unfolding sizes_rule
sizes_told d a b p q =
    conj_2 a b
    (p ∙ all_mapped (map_volume stamp_of) _ (λ (v : Volume ℕ). is_volume_size d.geometry.chunk_blocks (length v.chunks)) (λ v. ap (is_volume_size d.geometry.chunk_blocks) (sym (length-map v.chunks stamp_of))) d.volumes)
    (q ∙ all_mapped (map_clone stamp_of) _ (λ (c : RunningClone ℕ). is_volume_size d.geometry.chunk_blocks (length c.image)) (λ c. ap (is_volume_size d.geometry.chunk_blocks) (sym (length-map c.image stamp_of))) d.clones)

pub limits_told : (d : Durable Entry) (a b c e f g h i j k l m : Bool)
    → a ≡ nat_le (volume_count d) 256 → b ≡ nat_le (length d.containers) 32 → c ≡ nat_le (length d.bindings) 1024 → e ≡ nat_le (running_count d) 16
    → f ≡ nat_le (length d.tasks) 256 → g ≡ nat_le (pair_count d) pairs_limit → h ≡ nat_le (entries d) d.geometry.map_chunks
    → i ≡ list_all (λ (k : Container). nat_le (length k.offers) 16) d.containers
    → j ≡ list_all (λ (v : Volume Entry). nat_le (length v.needs) 8 && nat_le (length v.metadata) 64) d.volumes
    → k ≡ list_all (λ (c : RunningClone Entry). nat_le (length c.needs) 8 && nat_le (length c.metadata) 64) d.clones
    → l ≡ list_all (λ (c : Context). is_host c.host && nat_le (length c.endpoints) 8) d.contexts
    → m ≡ list_all (λ (b : Binding). is_host b.address.host && nat_le b.count 65535) d.bindings
    → list_all (λ x. x) (a ∷ b ∷ c ∷ e ∷ f ∷ g ∷ h ∷ i ∷ j ∷ k ∷ l ∷ m ∷ []) ≡ limits_rule (shape_of_tables d)
unfolding limits_rule
limits_told d a b c e f g h i j k l m p0 p1 p2 p3 p4 p5 p6 p7 p8 p9 p10 p11 =
    conj_12 a b c e f g h i j k l m
    (p0 ∙ ap (λ n. nat_le n 256) (shape_volume_count d)) p1 p2 p3 p4 (p5 ∙ ap (λ n. nat_le n pairs_limit) (shape_pair_count d))
    (p6 ∙ ap (λ n. nat_le n d.geometry.map_chunks) (shape_entries d)) p7
    (p8 ∙ all_mapped (map_volume stamp_of) _ (λ (v : Volume ℕ). nat_le (length v.needs) 8 && nat_le (length v.metadata) 64) (λ v. refl) d.volumes)
    (p9 ∙ all_mapped (map_clone stamp_of) _ (λ (c : RunningClone ℕ). nat_le (length c.needs) 8 && nat_le (length c.metadata) 64) (λ c. refl) d.clones)
    p10 p11
