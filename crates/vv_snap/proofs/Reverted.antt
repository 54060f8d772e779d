-- What callers want to know of a revert: the volume that has other chunks, the others, how many entries all lists have, and
-- that the log number noted afterwards makes one change of it.
use Rattle.std.proofs.Common.{ℕ, ◌≡◌, ◌≢◌, ◌+◌, Bool, true, false, cond, List, [], ◌∷◌, length, Option, Some, None, refl, sym, ap, ◌∙◌, arith}
use Rattle.std.specs.Prelude.{IsSome}
use Rattle.std.proofs.lemmas.Bool.{eqb-true}
use Rattle.vv_flat.specs.Lists.{if_found, first_changed}
use Rattle.vv_flat.specs.State.{Volume}
use Rattle.vv_flat.specs.Chunks.{Entry}
use Rattle.vv_flat.proofs.Steps.{find-passes}
use Rattle.vv_flat.proofs.KeepTasks.{find-changed_found}
use Rattle.vv_flat.proofs.Lookups.{find-changed}
use Rattle.vv_flat.proofs.Sums.{sum-changed_found}
use Rattle.vv_vols.specs.Shelf.{ShelfState, is_volume, volume_in, chunks_in, shelf_entries}
use Rattle.vv_vols.specs.Calls.{with_changed, with_chunks}
use Rattle.vv_snap.specs.Copies.{with_reverted}

pub reverted_is : (s : ShelfState) (n snapshot : ℕ) → IsSome (volume_in s snapshot) → with_chunks s n (λ _. chunks_in s snapshot) ≡ with_reverted s n snapshot
reverted_is s n snapshot stands = go (volume_in s snapshot) stands
  where
    go : (o : Option (Volume Entry)) → IsSome o
        → with_chunks s n (λ _. if_found o (λ (v : Volume Entry). v.chunks) []) ≡ if_found o (λ (w : Volume Entry). with_chunks s n (λ _. w.chunks)) s
    go None stands = absurd (cc)
    go (Some w) stands = refl

-- two changes of the first item that passes are one
changed_twice : {A : Type 0} (p : A → Bool) (f g : A → A) (xs : List A) → ((x : A) → p (g x) ≡ p x) → first_changed p f (first_changed p g xs) ≡ first_changed p (λ x. f (g x)) xs
changed_twice p f g [] same = refl
changed_twice p f g (x ∷ xs) same = go (p x) refl (changed_twice p f g xs same)
  where
    go : (b : Bool) → p x ≡ b → first_changed p f (first_changed p g xs) ≡ first_changed p (λ y. f (g y)) xs
        → first_changed p f (cond b (g x ∷ xs) (x ∷ first_changed p g xs)) ≡ cond b (f (g x) ∷ xs) (x ∷ first_changed p (λ y. f (g y)) xs)
    go true is rest = ap (λ c. cond c (f (g x) ∷ xs) (g x ∷ first_changed p f xs)) (same x ∙ is)
    go false is rest = ap (λ c. cond c (f x ∷ first_changed p g xs) (x ∷ first_changed p f (first_changed p g xs))) is ∙ ap (λ ys. x ∷ ys) rest

module _ (s : ShelfState) (n snapshot : ℕ) (w : Volume Entry) (source : volume_in s snapshot ≡ Some w) where
  pub revert_is : with_reverted s n snapshot ≡ with_chunks s n (λ _. w.chunks)
  revert_is = ap (λ (o : Option (Volume Entry)). if_found o (λ (u : Volume Entry). with_chunks s n (λ _. u.chunks)) s) source

  -- with its log number
  pub reverted_noted : (lsn : ℕ) → with_changed (with_reverted s n snapshot) n (λ (v : Volume Entry). record v { reverted = lsn })
      ≡ with_changed s n (λ (v : Volume Entry). record v { chunks = w.chunks; reverted = lsn })
  reverted_noted lsn =
      ap (λ (t : ShelfState). with_changed t n (λ (v : Volume Entry). record v { reverted = lsn })) revert_is
      ∙ ap (λ (vs : List (Volume Entry)). let t : ShelfState = record s { volumes = vs } in t)
      (changed_twice (is_volume n) (λ (v : Volume Entry). record v { reverted = lsn }) (λ (v : Volume Entry). record v { chunks = w.chunks }) s.volumes (λ v. refl))

  module _ (v : Volume Entry) (found : volume_in s n ≡ Some v) where
    -- the volume,
    pub reverted_found : volume_in (with_reverted s n snapshot) n ≡ Some (record v { chunks = w.chunks })
    reverted_found = ap (λ (t : ShelfState). volume_in t n) revert_is
        ∙ find-changed_found (is_volume n) (λ (u : Volume Entry). record u { chunks = w.chunks }) v s.volumes found (find-passes (is_volume n) s.volumes v found)

    -- every other one,
    pub reverted_other : (m : ℕ) → n ≢ m → volume_in (with_reverted s n snapshot) m ≡ volume_in s m
    reverted_other m ne = ap (λ (t : ShelfState). volume_in t m) revert_is
        ∙ find-changed (is_volume n) (is_volume m) (λ (o : Option (Volume Entry)). o) (λ (u : Volume Entry). record u { chunks = w.chunks }) s.volumes (λ u h. refl)
        (λ u h is. absurd (ne (sym (eqb-true u.number n (find-passes (is_volume n) s.volumes u h)) ∙ eqb-true u.number m is)))

    -- and the entries of all lists
    pub reverted_entries : shelf_entries (with_reverted s n snapshot) + length v.chunks ≡ shelf_entries s + length w.chunks
    reverted_entries =
        let changed = sum-changed_found (λ (u : Volume Entry). length u.chunks) (is_volume n) (λ (u : Volume Entry). record u { chunks = w.chunks }) v s.volumes found in
        let is = ap shelf_entries revert_is in
        omega arith
