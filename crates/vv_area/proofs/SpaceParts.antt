-- Space is counted of the tables as of their shape.
use Rattle.std.proofs.Common.{◌≡◌, ℕ, zero, suc, ◌+◌, ◌==◌, ◌&&◌, ◌++◌, not, Bool, cond, List, [], ◌∷◌, map, length, refl, sym, ap, ◌∙◌, arith}
use Rattle.std.specs.Prelude.{Option, Some, None, sum, filter, nat_le, option_and_then, slice_index}
use Rattle.std.specs.List.{list_all}
use Rattle.std.proofs.lemmas.List.Sums.{sum_by-append, sum_by-cons, sum-map}
use Rattle.vv_flat.specs.Lists.{if_found}
use Rattle.vv_flat.specs.State.{Volume, Task, Piece, RunningClone, RunningCopy, Durable, map_volume, map_clone, map_copy, map_piece, volume_of, task_of, all_pieces}
use Rattle.vv_flat.specs.Chunks.{Entry, shape_of_tables}
use Rattle.vv_flat.specs.Space.{distinct, used, reserved, charge, allocated_count, allocating_pieces, allocating_for, job_target}
use Rattle.vv_flat.specs.Sharing.{Standing, standings}
use Rattle.vv_flat.specs.Rules.{charges_fit, space_rule}
use Rattle.vv_flat.proofs.Shares.{map-all_pieces, pieces_of_standings}
use Rattle.vv_flat.proofs.MapLists.{map-after}
use Rattle.vv_flat.proofs.MapDurable.{map-volume_of}
use Rattle.vv_rules.specs.Pairs.{shape_of_standing, is_allocated}
use Rattle.vv_area.specs.Ruled.{allocated_entries, reserved_of, stamp_at, allocates, allocating_entries, allocating_for_container}
use Rattle.vv_area.proofs.Each.{sum_of_map}
use Rattle.vv_area.proofs.Shapes.{stamp_of}
use Rattle.vv_area.proofs.Conjunctions.{conj_2}

shape_pieces : (d : Durable Entry) → map shape_of_standing (standings d) ≡ all_pieces (shape_of_tables d)
shape_pieces d =
    sym (map-after (λ (s : Standing). s.piece) (map_piece stamp_of) shape_of_standing (λ s. refl) (standings d))
    ∙ ap (map (map_piece stamp_of)) (pieces_of_standings d)
    ∙ map-all_pieces stamp_of d

pub used_counted : (d : Durable Entry) (entries : List Standing) → entries ≡ standings d → length (distinct (filter is_allocated (map shape_of_standing entries))) ≡ used (shape_of_tables d)
unfolding used
used_counted d entries e = ap (λ ps. length (distinct (filter is_allocated ps))) (ap (map shape_of_standing) e ∙ shape_pieces d)

pub pool_counted : (d : Durable Entry) (counts : List ℕ) (n : ℕ) → counts ≡ map reserved_of d.tasks ++ n ∷ [] → n ≡ used (shape_of_tables d)
    → sum counts ≡ used (shape_of_tables d) + reserved (shape_of_tables d)
unfolding reserved
pool_counted d counts n e u =
    let a = sum_by-append (λ x. x) (map reserved_of d.tasks) (n ∷ []) in
    let b = sum-map reserved_of d.tasks in
    let c = sum_by-cons (λ x. x) n [] in
    ap sum e ∙ omega (arith, a, b, c, u)

-- ---- charges

pub allocated_shape : (xs : List Entry) → allocated_count (map stamp_of xs) ≡ allocated_entries xs
allocated_shape xs = sum_of_map stamp_of (λ s. cond (not (s == 0)) 1 0) (λ (e : Entry). cond (not (e.stamp == 0)) 1 0) (λ e. refl) xs

stamp_shape : (xs : List Entry) (i : ℕ) → stamp_at xs i ≡ slice_index (map stamp_of xs) i
stamp_shape [] i = refl
stamp_shape (x ∷ xs) zero = refl
stamp_shape (x ∷ xs) (suc i) = stamp_shape xs i

allocating_shape : (target : List Entry) (pieces : List (Piece Entry)) → allocating_pieces (map stamp_of target) (map (map_piece stamp_of) pieces) ≡ allocating_entries target pieces
allocating_shape target pieces =
    sum_of_map (map_piece stamp_of) (λ (p : Piece ℕ). cond (not (p.chunk == 0) && (slice_index (map stamp_of target) p.index == 0)) 1 0) (λ (p : Piece Entry). cond (allocates target p) 1 0)
    (λ p. ap (λ s. cond (not (p.chunk.stamp == 0) && (s == 0)) 1 0) (sym (stamp_shape target p.index))) pieces

target_charged : (d : Durable Entry) (k : ℕ) (pieces : List (Piece Entry)) (o : Option ℕ)
    → if_found (option_and_then (volume_of d) o) (λ (v : Volume Entry). cond (v.container == k) (allocating_entries v.chunks pieces) 0) 0
    ≡ if_found (option_and_then (volume_of (shape_of_tables d)) o) (λ (v : Volume ℕ). cond (v.container == k) (allocating_pieces v.chunks (map (map_piece stamp_of) pieces)) 0) 0
target_charged d k pieces None = refl
target_charged d k pieces (Some n) =
    map-volume_of stamp_of d n (λ x. x) (λ (v : Volume Entry). cond (v.container == k) (allocating_entries v.chunks pieces) 0)
    (λ (v : Volume ℕ). cond (v.container == k) (allocating_pieces v.chunks (map (map_piece stamp_of) pieces)) 0) 0 0
    (λ v. ap (λ m. cond (v.container == k) m 0) (sym (allocating_shape v.chunks pieces))) refl

copy_charged : (d : Durable Entry) (k : ℕ) (c : RunningCopy Entry) → allocating_for (shape_of_tables d) k (map_copy stamp_of c) ≡ allocating_for_container d k c
copy_charged d k c = sym (target_charged d k c.pieces (option_and_then (λ (t : Task). job_target t.job) (task_of d c.number)))

pub charge_counted : (d : Durable Entry) (k : ℕ) (counts : List ℕ)
    → counts ≡ map (λ (v : Volume Entry). cond (v.container == k) (allocated_entries v.chunks) 0) d.volumes ++ map (λ (c : RunningClone Entry). cond (c.container == k) (allocated_entries c.image) 0) d.clones
    ++ map (allocating_for_container d k) d.copies
    → sum counts ≡ charge (shape_of_tables d) k
unfolding charge
charge_counted d k counts e =
    let vs = map (λ (v : Volume Entry). cond (v.container == k) (allocated_entries v.chunks) 0) d.volumes in
    let cs = map (λ (c : RunningClone Entry). cond (c.container == k) (allocated_entries c.image) 0) d.clones in
    let ps = map (allocating_for_container d k) d.copies in
    let a = sum_by-append (λ x. x) (vs ++ cs) ps in
    let b = sum_by-append (λ x. x) vs cs in
    let e1 = sum-map (λ (v : Volume Entry). cond (v.container == k) (allocated_entries v.chunks) 0) d.volumes in
    let e2 = sum-map (λ (c : RunningClone Entry). cond (c.container == k) (allocated_entries c.image) 0) d.clones in
    let e3 = sum-map (allocating_for_container d k) d.copies in
    let f1 = sum_of_map (map_volume stamp_of) (λ (v : Volume ℕ). cond (v.container == k) (allocated_count v.chunks) 0) (λ (v : Volume Entry). cond (v.container == k) (allocated_entries v.chunks) 0) (λ v. ap (λ m. cond (v.container == k) m 0) (allocated_shape v.chunks)) d.volumes in
    let f2 = sum_of_map (map_clone stamp_of) (λ (c : RunningClone ℕ). cond (c.container == k) (allocated_count c.image) 0) (λ (c : RunningClone Entry). cond (c.container == k) (allocated_entries c.image) 0) (λ c. ap (λ m. cond (c.container == k) m 0) (allocated_shape c.image)) d.clones in
    let f3 = sum_of_map (map_copy stamp_of) (allocating_for (shape_of_tables d) k) (allocating_for_container d k) (λ c. copy_charged d k c) d.copies in
    ap sum e ∙ omega (arith, a, b, e1, e2, e3, f1, f2, f3)

pub space_told : (d : Durable Entry) (a b : Bool) → a ≡ nat_le (used (shape_of_tables d) + reserved (shape_of_tables d)) d.geometry.pool_chunks → b ≡ charges_fit (shape_of_tables d)
    → list_all (λ x. x) (a ∷ b ∷ []) ≡ space_rule (shape_of_tables d)
unfolding space_rule
space_told d a b p q = conj_2 a b p q
