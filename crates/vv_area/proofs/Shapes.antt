-- What is said of the shape of tables, as tests and counts of the tables themselves.
use Rattle.std.proofs.Common.{◌≡◌, ℕ, ◌+◌, ◌&&◌, ◌++◌, Bool, List, [], ◌∷◌, map, length, refl, sym, ap, ◌∙◌, arith}
use Rattle.std.specs.Prelude.{sum, sum_by}
use Rattle.std.specs.List.{list_all}
use Rattle.std.proofs.lemmas.List.{length-map}
use Rattle.std.proofs.lemmas.List.Sums.{sum_by-append, sum_by-cons, sum-map}
use Rattle.vv_flat.specs.State.{Volume, RunningClone, RunningCopy, Durable, map_volume, map_clone, map_copy}
use Rattle.vv_flat.specs.Chunks.{Entry, shape_of_tables}
use Rattle.vv_flat.specs.Space.{entries, volume_count, pair_count}
use Rattle.vv_area.proofs.Each.{sum_of_map}

abbrev pub stamp_of : Entry → ℕ
stamp_of e = e.stamp

-- a test of mapped items
pub all_mapped : {A B : Type 0} (f : A → B) (q : A → Bool) (p : B → Bool) → ((x : A) → q x ≡ p (f x)) → (xs : List A) → list_all q xs ≡ list_all p (map f xs)
all_mapped f q p same [] = refl
all_mapped f q p same (x ∷ xs) = ap (λ b. b && list_all q xs) (same x) ∙ ap (λ b. p (f x) && b) (all_mapped f q p same xs)

-- two tests that agree
pub all_same : {A : Type 0} (q p : A → Bool) → ((x : A) → q x ≡ p x) → (xs : List A) → list_all q xs ≡ list_all p xs
all_same q p same [] = refl
all_same q p same (x ∷ xs) = ap (λ b. b && list_all q xs) (same x) ∙ ap (λ b. p x && b) (all_same q p same xs)

pub shape_volume_count : (d : Durable Entry) → volume_count d ≡ volume_count (shape_of_tables d)
shape_volume_count d =
    ap (λ n. n + length d.clones) (sym (length-map d.volumes (map_volume stamp_of))) ∙ ap (λ n. length (map (map_volume stamp_of) d.volumes) + n) (sym (length-map d.clones (map_clone stamp_of)))

pub shape_pair_count : (d : Durable Entry) → pair_count d ≡ pair_count (shape_of_tables d)
shape_pair_count d =
    let v = sum_of_map (map_volume stamp_of) (λ (v : Volume ℕ). length v.metadata) (λ (v : Volume Entry). length v.metadata) (λ v. refl) d.volumes in
    let c = sum_of_map (map_clone stamp_of) (λ (c : RunningClone ℕ). length c.metadata) (λ (c : RunningClone Entry). length c.metadata) (λ c. refl) d.clones in
    omega arith

pub shape_entries : (d : Durable Entry) → entries d ≡ entries (shape_of_tables d)
unfolding entries
shape_entries d =
    let v = sum_of_map (map_volume stamp_of) (λ (v : Volume ℕ). length v.chunks) (λ (v : Volume Entry). length v.chunks) (λ v. length-map v.chunks stamp_of) d.volumes in
    let c = sum_of_map (map_clone stamp_of) (λ (c : RunningClone ℕ). length c.image + length c.target) (λ (c : RunningClone Entry). length c.image + length c.target)
    (λ c. ap (λ n. n + length (map stamp_of c.target)) (length-map c.image stamp_of) ∙ ap (λ n. length c.image + n) (length-map c.target stamp_of)) d.clones in
    let p = sum_of_map (map_copy stamp_of) (λ (c : RunningCopy ℕ). length c.pieces) (λ (c : RunningCopy Entry). length c.pieces) (λ c. length-map c.pieces _) d.copies in
    omega arith

-- counts of two lists behind one another
pub pairs_counted : (d : Durable Entry) (counts : List ℕ) → counts ≡ map (λ (v : Volume Entry). length v.metadata) d.volumes ++ map (λ (c : RunningClone Entry). length c.metadata) d.clones → sum counts ≡ pair_count d
pairs_counted d counts e =
    let a = sum_by-append (λ x. x) (map (λ (v : Volume Entry). length v.metadata) d.volumes) (map (λ (c : RunningClone Entry). length c.metadata) d.clones) in
    let b = sum-map (λ (v : Volume Entry). length v.metadata) d.volumes in
    let c = sum-map (λ (c : RunningClone Entry). length c.metadata) d.clones in
    ap sum e ∙ omega (arith, a, b, c)

sum_of_both : {A : Type 0} (f g : A → ℕ) (xs : List A) → sum_by f xs + sum_by g xs ≡ sum_by (λ x. f x + g x) xs
sum_of_both f g [] = refl
sum_of_both f g (x ∷ xs) =
    let a = sum_by-cons f x xs in
    let b = sum_by-cons g x xs in
    let c = sum_by-cons (λ x. f x + g x) x xs in
    let d = sum_of_both f g xs in
    omega arith

pub entries_counted : (d : Durable Entry) (counts : List ℕ)
    → counts ≡ map (λ (v : Volume Entry). length v.chunks) d.volumes ++ map (λ (c : RunningClone Entry). length c.image) d.clones ++ map (λ (c : RunningClone Entry). length c.target) d.clones ++ map (λ (c : RunningCopy Entry). length c.pieces) d.copies
    → sum counts ≡ entries d
unfolding entries
entries_counted d counts e =
    let vs = map (λ (v : Volume Entry). length v.chunks) d.volumes in
    let is = map (λ (c : RunningClone Entry). length c.image) d.clones in
    let ts = map (λ (c : RunningClone Entry). length c.target) d.clones in
    let ps = map (λ (c : RunningCopy Entry). length c.pieces) d.copies in
    let a = sum_by-append (λ x. x) (vs ++ is ++ ts) ps in
    let b = sum_by-append (λ x. x) (vs ++ is) ts in
    let c = sum_by-append (λ x. x) vs is in
    let e1 = sum-map (λ (v : Volume Entry). length v.chunks) d.volumes in
    let e2 = sum-map (λ (c : RunningClone Entry). length c.image) d.clones in
    let e3 = sum-map (λ (c : RunningClone Entry). length c.target) d.clones in
    let e4 = sum-map (λ (c : RunningCopy Entry). length c.pieces) d.copies in
    let both = sum_of_both (λ (c : RunningClone Entry). length c.image) (λ (c : RunningClone Entry). length c.target) d.clones in
    ap sum e ∙ omega (arith, a, b, c, e1, e2, e3, e4, both)
