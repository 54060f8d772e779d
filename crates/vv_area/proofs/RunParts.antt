-- The rules on bindings, running clones and running copies, as tests of the tables themselves.
use Rattle.std.proofs.Common.{◌≡◌, ℕ, ◌+◌, ◌==◌, ◌&&◌, ◌||◌, not, Bool, true, false, cond, eqb, List, [], ◌∷◌, map, length, take, refl, sym, ap, ◌∙◌}
use Rattle.std.specs.Prelude.{Option, Some, None, nat_le, nat_lt}
use Rattle.std.specs.List.{list_all, list_any, filter_map, cons_option}
use Rattle.std.proofs.lemmas.List.{length-map}
use Rattle.std.proofs.lemmas.Bool.{eqb-true, eq-eqb, ne_eqb, eqb-false}
use Rattle.vv_flat.specs.Lists.{if_found, numbers_eq, all_different, all_rising, indexes_from}
use Rattle.vv_flat.specs.State.{Volume, Binding, Task, Piece, RunningClone, RunningCopy, Durable, map_clone, map_copy, map_piece, volume_of, task_of}
use Rattle.vv_flat.specs.Chunks.{Entry, shape_of_tables}
use Rattle.vv_flat.specs.Space.{running_target, job_target}
use Rattle.vv_flat.specs.Bits.{allocated_indexes}
use Rattle.vv_flat.specs.Bindings.{is_binding_of, is_bound}
use Rattle.vv_flat.specs.Changes.{is_snapshot_kind, is_snapshot}
use Rattle.vv_flat.specs.Rules.{is_single, is_success, is_clone_kept, is_copy_kept, running_targets, bindings_rule, clones_rule, copies_rule}
use Rattle.vv_flat.proofs.MapLists.{map-after}
use Rattle.vv_flat.proofs.MapDurable.{map-volume_of}
use Rattle.vv_rules.specs.Pairs.{is_pair, are_single}
use Rattle.vv_area.specs.Ruled.{allocated_places, binding_pair, is_binding_placed, is_clone_done, is_target_for, is_copy_done}
use Rattle.vv_area.proofs.Shapes.{stamp_of, all_mapped}
use Rattle.vv_area.proofs.SpaceParts.{allocated_shape}
use Rattle.vv_area.proofs.Conjunctions.{conj_3}

-- ---- bindings

eqb_turned : (x y : ℕ) (b : Bool) → eqb x y ≡ b → b ≡ eqb y x
eqb_turned x y true e = sym (eq-eqb y x (sym (eqb-true x y e)))
eqb_turned x y false e = sym (ne_eqb y x (λ k. eqb-false x y e (sym k)))

pair_same : (b c : Binding) → is_pair (binding_pair b) (binding_pair c) ≡ is_binding_of b.address.host b.volume c
pair_same b c =
    ap (λ x. x && eqb b.volume c.volume) (eqb_turned b.address.host c.address.host (eqb b.address.host c.address.host) refl)
    ∙ ap (λ x. eqb c.address.host b.address.host && x) (eqb_turned b.volume c.volume (eqb b.volume c.volume) refl)

pairs_any : (b : Binding) (bs : List Binding) → list_any (is_pair (binding_pair b)) (map binding_pair bs) ≡ list_any (is_binding_of b.address.host b.volume) bs
pairs_any b [] = refl
pairs_any b (c ∷ bs) = ap (λ x. x || list_any (is_pair (binding_pair b)) (map binding_pair bs)) (pair_same b c) ∙ ap (λ x. is_binding_of b.address.host b.volume c || x) (pairs_any b bs)

pub pairs_single : (bs : List Binding) → are_single (map binding_pair bs) ≡ is_single bs
pairs_single [] = refl
pairs_single (b ∷ bs) = ap (λ x. not x && are_single (map binding_pair bs)) (pairs_any b bs) ∙ ap (λ x. not (list_any (is_binding_of b.address.host b.volume) bs) && x) (pairs_single bs)

pub bindings_told : (d : Durable Entry) (a b c : Bool) → a ≡ list_all (is_binding_placed d.contexts) d.bindings → b ≡ is_single d.bindings
    → c ≡ list_all (λ (t : Task). if_found (running_target t) (λ n. not (is_bound d.bindings n)) true) d.tasks → list_all (λ x. x) (a ∷ b ∷ c ∷ []) ≡ bindings_rule (shape_of_tables d)
unfolding bindings_rule is_binding_placed
bindings_told d a b c p q r = conj_3 a b c p q r

-- ---- clones

places_shape : (k : ℕ) (xs : List Entry) → indexes_from (λ i s. not (s == 0)) k (map stamp_of xs) ≡ indexes_from (λ i (e : Entry). not (e.stamp == 0)) k xs
places_shape k [] = refl
places_shape k (x ∷ xs) = ap (λ l. cond (not (x.stamp == 0)) (k ∷ l) l) (places_shape (k + 1) xs)

and_4 : {a b c d A B C D : Bool} → a ≡ A → b ≡ B → c ≡ C → d ≡ D → (a && b && c && d) ≡ (A && B && C && D)
and_4 {a} {b} {c} {d} {A} {B} {C} {D} p q r s =
    ap (λ x. x && b && c && d) p ∙ ap (λ x. A && x && c && d) q ∙ ap (λ x. A && B && x && d) r ∙ ap (λ x. A && B && C && x) s

clone_same : (c : RunningClone Entry) (t : Task) → is_clone_done c t ≡ is_clone_kept (map_clone stamp_of c) t
clone_same c t =
    and_4 (ap (λ n. t.total == n) (sym (allocated_shape c.image)))
    (ap (λ n. n == length c.image) (sym (length-map c.target stamp_of)) ∙ ap (λ n. length (map stamp_of c.target) == n) (sym (length-map c.image stamp_of)))
    (ap (λ l. numbers_eq l (take t.done (allocated_places c.image))) (sym (places_shape 0 c.target)) ∙ ap (λ l. numbers_eq (allocated_indexes (map stamp_of c.target)) (take t.done l)) (sym (places_shape 0 c.image)))
    (all_mapped stamp_of (λ (e : Entry). (e.stamp == 0) || (e.stamp == c.number)) (λ s. (s == 0) || (s == c.number)) (λ e. refl) c.target)

clone_found : (c : RunningClone Entry) (o : Option Task) → if_found o (is_clone_done c) false ≡ if_found o (is_clone_kept (map_clone stamp_of c)) false
clone_found c None = refl
clone_found c (Some t) = clone_same c t

pub clones_told : (d : Durable Entry) → list_all (λ (c : RunningClone Entry). if_found (task_of d c.number) (is_clone_done c) false) d.clones ≡ clones_rule (shape_of_tables d)
unfolding clones_rule
clones_told d =
    all_mapped (map_clone stamp_of) (λ (c : RunningClone Entry). if_found (task_of d c.number) (is_clone_done c) false)
    (λ (c : RunningClone ℕ). if_found (task_of (shape_of_tables d) c.number) (is_clone_kept c) false) (λ c. clone_found c (task_of d c.number)) d.clones

-- ---- copies

found_step : (o : Option ℕ) (xs ys : List ℕ) → xs ≡ ys → cons_option o xs ≡ if_found o (λ n. n ∷ ys) ys
found_step None xs ys e = e
found_step (Some n) xs ys e = ap (λ l. n ∷ l) e

pub targets_found : (ts : List Task) → filter_map running_target ts ≡ running_targets ts
targets_found [] = refl
targets_found (t ∷ ts) = found_step (running_target t) (filter_map running_target ts) (running_targets ts) (targets_found ts)

both_found : (o : Option (Volume ℕ)) (p q : Volume ℕ → Bool) → if_found o (λ v. not (p v) && q v) false ≡ (not (if_found o p false) && if_found o q false)
both_found None p q = refl
both_found (Some v) p q = refl

target_same : (d : Durable Entry) (indexes : List ℕ) (n : ℕ) → is_target_for d indexes n
    ≡ (not (is_snapshot (shape_of_tables d) n) && if_found (volume_of (shape_of_tables d) n) (λ (v : Volume ℕ). list_all (λ i. nat_lt i (length v.chunks)) indexes) false)
target_same d indexes n =
    map-volume_of stamp_of d n (λ b. b) (λ (v : Volume Entry). not (is_snapshot_kind v.kind) && list_all (λ i. nat_lt i (length v.chunks)) indexes)
    (λ (v : Volume ℕ). not (is_snapshot_kind v.kind) && list_all (λ i. nat_lt i (length v.chunks)) indexes) false false
    (λ v. ap (λ m. not (is_snapshot_kind v.kind) && list_all (λ i. nat_lt i m) indexes) (sym (length-map v.chunks stamp_of))) refl
    ∙ both_found (volume_of (shape_of_tables d) n) (λ (v : Volume ℕ). is_snapshot_kind v.kind) (λ (v : Volume ℕ). list_all (λ i. nat_lt i (length v.chunks)) indexes)

target_found : (d : Durable Entry) (indexes : List ℕ) (o : Option ℕ) → if_found o (is_target_for d indexes) false
    ≡ if_found o (λ n. not (is_snapshot (shape_of_tables d) n) && if_found (volume_of (shape_of_tables d) n) (λ (v : Volume ℕ). list_all (λ i. nat_lt i (length v.chunks)) indexes) false) false
target_found d indexes None = refl
target_found d indexes (Some n) = target_same d indexes n

copy_same : (d : Durable Entry) (c : RunningCopy Entry) (t : Task) → is_copy_done d c t ≡ is_copy_kept (shape_of_tables d) (map_copy stamp_of c) t
copy_same d c t =
    let indexes = map-after (map_piece stamp_of) (λ (p : Piece ℕ). p.index) (λ (p : Piece Entry). p.index) (λ p. refl) c.pieces in
    ap (λ n. (t.total == n) && all_rising (map (λ (p : Piece Entry). p.index) c.pieces) && if_found (job_target t.job) (is_target_for d (map (λ (p : Piece Entry). p.index) c.pieces)) false) (sym (length-map c.pieces (map_piece stamp_of)))
    ∙ ap (λ l. (t.total == length (map (map_piece stamp_of) c.pieces)) && all_rising l && if_found (job_target t.job) (is_target_for d l) false) (sym indexes)
    ∙ ap (λ b. (t.total == length (map (map_piece stamp_of) c.pieces)) && all_rising (map (λ (p : Piece ℕ). p.index) (map (map_piece stamp_of) c.pieces)) && b)
    (target_found d (map (λ (p : Piece ℕ). p.index) (map (map_piece stamp_of) c.pieces)) (job_target t.job))

copy_found : (d : Durable Entry) (c : RunningCopy Entry) (o : Option Task) → if_found o (is_copy_done d c) false ≡ if_found o (is_copy_kept (shape_of_tables d) (map_copy stamp_of c)) false
copy_found d c None = refl
copy_found d c (Some t) = copy_same d c t

pub copies_told : (d : Durable Entry) (a b c : Bool)
    → a ≡ list_all (λ (c : RunningCopy Entry). if_found (task_of d c.number) (is_copy_done d c) false) d.copies
    → b ≡ all_different (running_targets d.tasks)
    → c ≡ list_all (λ (t : Task). nat_le t.done t.total && (not (is_success t.state) || (t.done == t.total))) d.tasks
    → list_all (λ x. x) (a ∷ b ∷ c ∷ []) ≡ copies_rule (shape_of_tables d)
unfolding copies_rule
copies_told d a b c p q r =
    conj_3 a b c
    (p ∙ all_mapped (map_copy stamp_of) (λ (c : RunningCopy Entry). if_found (task_of d c.number) (is_copy_done d c) false)
    (λ (c : RunningCopy ℕ). if_found (task_of (shape_of_tables d) c.number) (is_copy_kept (shape_of_tables d) c) false) (λ c. copy_found d c (task_of d c.number)) d.copies) q r
