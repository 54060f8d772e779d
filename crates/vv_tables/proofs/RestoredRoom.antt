-- For callers that put tables together again whose whole durable part is well-formed: the map has the entries of each part with
-- those before it.
use Rattle.std.proofs.Common.{ℕ, ◌≡◌, ◌+◌, ◌≤◌, true, List, [], ◌∷◌, ◌++◌, length, sum_by, refl, ap, arith}
use Rattle.std.proofs.lemmas.Bool.{leb-true}
use Rattle.std.proofs.lemmas.List.Sums.{sum_by-cons, sum_by-append}
use Rattle.vv_flat.specs.State.{Volume, RunningClone, RunningCopy, Durable}
use Rattle.vv_flat.specs.Chunks.{Entry, shape_of_tables}
use Rattle.vv_flat.specs.Space.{entries}
use Rattle.vv_flat.specs.Rules.{limits_rule}
use Rattle.vv_flat.specs.WellFormed.{is_well_formed}
use Rattle.vv_flat.proofs.Shares.{and_left, and_right}
use Rattle.vv_flat.proofs.Kept.{kept}
use Rattle.vv_laws.proofs.WellFormed.{shape_rules}
use Rattle.vv_tables.proofs.ShapeEntries.{shape_entries}

-- a part of a sum
sum_around : {A : Type 0} (f : A → ℕ) (front : List A) (x : A) (back : List A) → sum_by f front + f x ≤ sum_by f (front ++ x ∷ back)
sum_around f front x back =
    let all : sum_by f (front ++ x ∷ back) ≡ sum_by f front + sum_by f (x ∷ back) = sum_by-append f front (x ∷ back) in
    let first : sum_by f (x ∷ back) ≡ f x + sum_by f back = sum_by-cons f x back in
    omega (arith, all, first)

abbrev volume_size : Volume Entry → ℕ
volume_size v = length v.chunks

abbrev clone_size : RunningClone Entry → ℕ
clone_size c = length c.image + length c.target

abbrev copy_size : RunningCopy Entry → ℕ
copy_size c = length c.pieces

sizes : (d : Durable Entry) → entries d ≡ sum_by volume_size d.volumes + sum_by clone_size d.clones + sum_by copy_size d.copies
unfolding entries
sizes d = refl

within_limit : (d : Durable Entry) → limits_rule (shape_of_tables d) ≡ true → entries (shape_of_tables d) ≤ d.geometry.map_chunks
unfolding limits_rule
within_limit d e = leb-true _ _ (and_right _ _ (and_left _ _ (and_left _ _ (and_left _ _ (and_left _ _ (and_left _ _ e))))))

module _ (d : Durable Entry) (well : is_well_formed d ≡ true) where
  all_within : sum_by volume_size d.volumes + sum_by clone_size d.clones + sum_by copy_size d.copies ≤ d.geometry.map_chunks
  all_within =
      let within : entries (shape_of_tables d) ≤ d.geometry.map_chunks = within_limit d (kept (shape_of_tables d) (shape_rules d well)).limits in
      let same : entries (shape_of_tables d) ≡ entries d = shape_entries d in
      let parts : entries d ≡ sum_by volume_size d.volumes + sum_by clone_size d.clones + sum_by copy_size d.copies = sizes d in
      omega (arith, within, same, parts)

  pub volume_within : (r : Durable Entry) (v : Volume Entry) (back : List (Volume Entry)) → d.volumes ≡ r.volumes ++ v ∷ back → r.clones ≡ [] → r.copies ≡ []
      → entries r + length v.chunks ≤ d.geometry.map_chunks
  volume_within r v back is clones copies =
      let part : sum_by volume_size r.volumes + length v.chunks ≤ sum_by volume_size (r.volumes ++ v ∷ back) = sum_around volume_size r.volumes v back in
      let same : sum_by volume_size d.volumes ≡ sum_by volume_size (r.volumes ++ v ∷ back) = ap (sum_by volume_size) is in
      let here : entries r ≡ sum_by volume_size r.volumes + sum_by clone_size r.clones + sum_by copy_size r.copies = sizes r in
      let none : sum_by clone_size r.clones ≡ 0 = ap (sum_by clone_size) clones in
      let none_copied : sum_by copy_size r.copies ≡ 0 = ap (sum_by copy_size) copies in
      omega (arith, part, same, here, none, none_copied, all_within)

  pub clone_within : (r : Durable Entry) (c : RunningClone Entry) (back : List (RunningClone Entry)) → r.volumes ≡ d.volumes → d.clones ≡ r.clones ++ c ∷ back → r.copies ≡ []
      → entries r + length c.image + length c.target ≤ d.geometry.map_chunks
  clone_within r c back volumes is copies =
      let part : sum_by clone_size r.clones + (length c.image + length c.target) ≤ sum_by clone_size (r.clones ++ c ∷ back) = sum_around clone_size r.clones c back in
      let same : sum_by clone_size d.clones ≡ sum_by clone_size (r.clones ++ c ∷ back) = ap (sum_by clone_size) is in
      let here : entries r ≡ sum_by volume_size r.volumes + sum_by clone_size r.clones + sum_by copy_size r.copies = sizes r in
      let old : sum_by volume_size r.volumes ≡ sum_by volume_size d.volumes = ap (sum_by volume_size) volumes in
      let none_copied : sum_by copy_size r.copies ≡ 0 = ap (sum_by copy_size) copies in
      omega (arith, part, same, here, old, none_copied, all_within)

  pub copy_within : (r : Durable Entry) (c : RunningCopy Entry) (back : List (RunningCopy Entry)) → r.volumes ≡ d.volumes → r.clones ≡ d.clones → d.copies ≡ r.copies ++ c ∷ back
      → entries r + length c.pieces ≤ d.geometry.map_chunks
  copy_within r c back volumes clones is =
      let part : sum_by copy_size r.copies + length c.pieces ≤ sum_by copy_size (r.copies ++ c ∷ back) = sum_around copy_size r.copies c back in
      let same : sum_by copy_size d.copies ≡ sum_by copy_size (r.copies ++ c ∷ back) = ap (sum_by copy_size) is in
      let here : entries r ≡ sum_by volume_size r.volumes + sum_by clone_size r.clones + sum_by copy_size r.copies = sizes r in
      let old : sum_by volume_size r.volumes ≡ sum_by volume_size d.volumes = ap (sum_by volume_size) volumes in
      let old_clones : sum_by clone_size r.clones ≡ sum_by clone_size d.clones = ap (sum_by clone_size) clones in
      omega (arith, part, same, here, old, old_clones, all_within)
