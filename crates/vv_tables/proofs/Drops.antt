-- Lists that a shelf holds, dropped one after the other.
use Rattle.std.proofs.Common.{ℕ, ◌≡◌, ◌+◌, ◌≤◌, ◌==◌, Bool, true, false, cond, List, [], ◌∷◌, ◌++◌, map, sum_by, count_by, Option, Some, None, refl, ap, subst, ◌∙◌, arith}
use Rattle.std.specs.Prelude.{IsSome}
use Rattle.std.specs.List.{find, flat_map}
use Rattle.std.proofs.lemmas.Bool.{eq-eqb, eqb-true}
use Rattle.std.proofs.lemmas.List.{map-append, append_assoc}
use Rattle.std.proofs.lemmas.List.Concat.{flat_map-append}
use Rattle.std.proofs.lemmas.List.Sums.{sum_by-cons, sum_by-append}
use Rattle.std.proofs.lemmas.List.Sorted.{sum_by-IsPermutation}
use Rattle.vv_flat.specs.Lists.{first_removed}
use Rattle.vv_flat.proofs.Sums.{sum-removed_found}
use Rattle.vv_flat.proofs.Steps.{find-passes}
use Rattle.vv_vols.specs.Shelf.{HeldList, ShelfState, is_held, held_in}
use Rattle.vv_vols.specs.Calls.{without_held}
use Rattle.vv_tables.specs.declared.rows.CloneRow.{CloneRow}
use Rattle.vv_tables.specs.declared.rows.CopyRow.{CopyRow}
use Rattle.vv_tables.specs.Kept.{numbers_held, clone_lists, lists_of, HoldsEach, AreHeld}
use Rattle.vv_tables.proofs.HeldSums.{sum_mapped}

-- how often a number comes
abbrev pub times : ℕ → List ℕ → ℕ
times n ns = count_by (λ m. m == n) ns

bit : ℕ → ℕ → ℕ
bit n m = cond (m == n) 1 0

times-held : (n : ℕ) (hs : List HeldList) → times n (map (λ (h : HeldList). h.number) hs) ≡ sum_by (λ (h : HeldList). bit n h.number) hs
unfolding bit
times-held n hs = sum_mapped (λ m. cond (m == n) 1 0) (λ (h : HeldList). h.number) hs

same_bit : (n : ℕ) → bit n n ≡ 1
unfolding bit
same_bit n = ap (λ b. cond b 1 0) (eq-eqb n n refl)

-- a number that comes is found
comes : (n : ℕ) (hs : List HeldList) → 1 ≤ sum_by (λ (h : HeldList). bit n h.number) hs → IsSome (find (is_held n) hs)
unfolding bit
comes n [] some = absurd (omega arith)
comes n (h ∷ hs) some = go (h.number == n) (subst (λ k. 1 ≤ k) (sum_by-cons (λ (h : HeldList). cond (h.number == n) 1 0) h hs) some) (comes n hs)
  where
    go : (b : Bool) → 1 ≤ cond b 1 0 + sum_by (λ (h : HeldList). cond (h.number == n) 1 0) hs
        → (1 ≤ sum_by (λ (h : HeldList). cond (h.number == n) 1 0) hs → IsSome (find (is_held n) hs)) → IsSome (cond b (Some h) (find (is_held n) hs))
    go true some later = refl
    go false some later = later (omega arith)

middle : (m n : ℕ) (front back : List ℕ) → times m (front ++ n ∷ back) ≡ times m (front ++ back) + bit m n
unfolding bit
middle m n front back =
    let a : times m (front ++ n ∷ back) ≡ times m front + times m (n ∷ back) = sum_by-append (λ k. cond (k == m) 1 0) front (n ∷ back) in
    let b : times m (n ∷ back) ≡ cond (n == m) 1 0 + times m back = sum_by-cons (λ k. cond (k == m) 1 0) n back in
    let c : times m (front ++ back) ≡ times m front + times m back = sum_by-append (λ k. cond (k == m) 1 0) front back in
    omega (arith, a, b, c)

module _ (s : ShelfState) (n : ℕ) (front back : List ℕ) (holds : HoldsEach s (front ++ n ∷ back)) where
  -- one that is to be dropped stands
  pub stands : IsSome (held_in s n)
  stands =
      let h : times n (front ++ n ∷ back) ≤ times n (numbers_held s) = holds n in
      comes n s.held (omega (arith, h, middle n n front back, same_bit n, times-held n s.held))

  found : (o : Option HeldList) → held_in s n ≡ o → IsSome o → (h : HeldList) × (held_in s n ≡ Some h)
  found None e some = absurd (cc)
  found (Some h) e some = (h, e)

  -- and the others stand afterwards
  pub dropped : HoldsEach (without_held s n) (front ++ back)
  dropped m =
      let f = found (held_in s n) refl stands in
      let number : f.0.number ≡ n = eqb-true f.0.number n (find-passes (is_held n) s.held f.0 f.1) in
      let gone : sum_by (λ (h : HeldList). bit m h.number) (first_removed (is_held n) s.held) + bit m f.0.number ≡ sum_by (λ (h : HeldList). bit m h.number) s.held =
      sum-removed_found (λ (h : HeldList). bit m h.number) (is_held n) f.0 s.held f.1 in
      let h : times m (front ++ n ∷ back) ≤ times m (numbers_held s) = holds m in
      let same : bit m f.0.number ≡ bit m n = ap (bit m) number in
      omega (arith, gone, h, same, middle m n front back, times-held m s.held, times-held m (first_removed (is_held n) s.held))

-- what the rows hold, the last row being taken out
pub last_clone : (rest : List CloneRow) (row : CloneRow) (copies : List CopyRow)
    → lists_of (rest ++ row ∷ []) copies ≡ flat_map clone_lists rest ++ row.image.number ∷ row.target.number ∷ map (λ (c : CopyRow). c.pieces.number) copies
last_clone rest row copies =
    ap (λ ns. ns ++ map (λ (c : CopyRow). c.pieces.number) copies) (flat_map-append clone_lists rest (row ∷ []))
    ∙ append_assoc (flat_map clone_lists rest) (row.image.number ∷ row.target.number ∷ []) (map (λ (c : CopyRow). c.pieces.number) copies)

pub last_copy : (rest : List CopyRow) (row : CopyRow) → lists_of [] (rest ++ row ∷ []) ≡ map (λ (c : CopyRow). c.pieces.number) rest ++ row.pieces.number ∷ []
last_copy rest row = map-append (λ (c : CopyRow). c.pieces.number) rest (row ∷ [])

pub all_held : (s : ShelfState) (clones : List CloneRow) (copies : List CopyRow) → AreHeld s clones copies → HoldsEach s (lists_of clones copies)
all_held s clones copies held n =
    let same : times n (lists_of clones copies) ≡ times n (numbers_held s) =
    sum_by-IsPermutation (λ m. cond (m == n) 1 0) (numbers_held s) (lists_of clones copies) held.each_once in
    omega (arith, same)
