-- What callers want to know of a chunk that was put: the volume, the others, how many entries all lists have, and their stamps.
use Rattle.std.proofs.Common.{ℕ, ◌≡◌, ◌≢◌, ◌<◌, ◌≤◌, ◌==◌, ◌&&◌, not, Bool, true, false, cond, List, [], ◌∷◌, length, set, Option, Some, refl, sym, ap, ◌∙◌, ⊎_elim, arith, length-set}
use Rattle.std.specs.List.{Contains, list_all, flat_map}
use Rattle.std.proofs.lemmas.Bool.{eqb-true, ne_eqb}
use Rattle.std.proofs.lemmas.List.Elements.{Contains-append_left, Contains-append_right, Contains-append_cases}
use Rattle.vv_flat.specs.Lists.{put_before}
use Rattle.vv_flat.specs.State.{Volume, Piece, indexed}
use Rattle.vv_flat.specs.Chunks.{Entry}
use Rattle.vv_flat.proofs.Shares.{and_both}
use Rattle.vv_flat.proofs.Steps.{find-passes}
use Rattle.vv_flat.proofs.KeepTasks.{find-changed_found}
use Rattle.vv_flat.proofs.Lookups.{find-changed}
use Rattle.vv_flat.proofs.Sums.{sum-changed_found}
use Rattle.vv_vols.specs.Shelf.{HeldList, ShelfState, is_volume, volume_in, shelf_entries, shelf_pieces}
use Rattle.vv_vols.specs.Calls.{placed_at, with_put}
use Rattle.vv_vols.specs.Conditions.{is_new_stamp}
use Rattle.vv_vols.proofs.Members.{here, there, in_changed, in_all, in_set}

-- what is put into a list stands there
pub put_stands : {A : Type 0} (test : A → Bool) (x : A) (xs : List A) → Contains (put_before test x xs) x
put_stands test x [] = here x []
put_stands test x (y ∷ ys) = go (test y) (put_stands test x ys)
  where
    go : (b : Bool) → Contains (put_before test x ys) x → Contains (cond b (x ∷ y ∷ ys) (y ∷ put_before test x ys)) x
    go true rest = here x (y ∷ ys)
    go false rest = there y (put_before test x ys) x rest

not_both : (b c : Bool) → c ≡ false → not (b && c) ≡ true
not_both true false e = refl
not_both false c e = refl
not_both true true e = absurd (cc)

module _ (s : ShelfState) (n index p stamp : ℕ) where
  abbrev changed : Volume Entry → Volume Entry
  changed v = record v { chunks = set v.chunks index (placed_at p stamp) }

  -- a stamp above all others is new
  pub stamp_new : ((a : Piece Entry) → Contains (shelf_pieces s) a → a.chunk.stamp < stamp) → 1 ≤ stamp → is_new_stamp s index stamp ≡ true
  stamp_new above some = and_both (not (stamp == 0)) _ (ap not (ne_eqb stamp 0 (λ e. absurd (omega arith)))) (all_new (shelf_pieces s) above)
    where
      all_new : (pieces : List (Piece Entry)) → ((a : Piece Entry) → Contains pieces a → a.chunk.stamp < stamp)
          → list_all (λ (a : Piece Entry). not ((a.index == index) && (a.chunk.stamp == stamp))) pieces ≡ true
      all_new [] below = refl
      all_new (x ∷ xs) below = and_both (not ((x.index == index) && (x.chunk.stamp == stamp))) _
          (not_both (x.index == index) (x.chunk.stamp == stamp) (ne_eqb x.chunk.stamp stamp (λ e. let lt = below x (here x xs) in absurd (omega arith))))
          (all_new xs (λ a at. below a (there x xs a at)))

  -- and then none is above it
  pub put_stamps : ((a : Piece Entry) → Contains (shelf_pieces s) a → a.chunk.stamp ≤ stamp)
      → (a : Piece Entry) → Contains (shelf_pieces (with_put s n index p stamp)) a → a.chunk.stamp ≤ stamp
  put_stamps old a at = ⊎_elim
      (λ front. ⊎_elim
      (λ stood. old a (Contains-append_left (flat_map (λ (v : Volume Entry). indexed v.chunks) s.volumes) (flat_map (λ (h : HeldList). h.pieces) s.held) a stood))
      (λ (w : (v : Volume Entry) × Contains s.volumes v × Contains (indexed (changed v).chunks) a). ⊎_elim
      (λ stood. old a (Contains-append_left (flat_map (λ (v : Volume Entry). indexed v.chunks) s.volumes) (flat_map (λ (h : HeldList). h.pieces) s.held) a
      (in_all (λ (v : Volume Entry). indexed v.chunks) w.0 s.volumes a w.1 stood)))
      (λ is. let same : stamp ≡ a.chunk.stamp = ap (λ (b : Piece Entry). b.chunk.stamp) is in omega arith)
      (in_set 0 index (placed_at p stamp) w.0.chunks a w.2))
      (in_changed (λ (v : Volume Entry). indexed v.chunks) (is_volume n) changed s.volumes a front))
      (λ back. old a (Contains-append_right (flat_map (λ (v : Volume Entry). indexed v.chunks) s.volumes) (flat_map (λ (h : HeldList). h.pieces) s.held) a back))
      (Contains-append_cases (flat_map (λ (v : Volume Entry). indexed v.chunks) (with_put s n index p stamp).volumes) (flat_map (λ (h : HeldList). h.pieces) s.held) a at)

  pub put_other : (m : ℕ) → n ≢ m → volume_in (with_put s n index p stamp) m ≡ volume_in s m
  put_other m ne = find-changed (is_volume n) (is_volume m) (λ (o : Option (Volume Entry)). o) changed s.volumes (λ u h. refl)
      (λ u h is. absurd (ne (sym (eqb-true u.number n (find-passes (is_volume n) s.volumes u h)) ∙ eqb-true u.number m is)))

  module _ (v : Volume Entry) (found : volume_in s n ≡ Some v) where
    pub put_found : volume_in (with_put s n index p stamp) n ≡ Some (changed v)
    put_found = find-changed_found (is_volume n) changed v s.volumes found (find-passes (is_volume n) s.volumes v found)

    pub put_entries : shelf_entries (with_put s n index p stamp) ≡ shelf_entries s
    put_entries =
        let sums = sum-changed_found (λ (u : Volume Entry). length u.chunks) (is_volume n) changed v s.volumes found in
        let same = length-set v.chunks index (placed_at p stamp) in
        omega arith
