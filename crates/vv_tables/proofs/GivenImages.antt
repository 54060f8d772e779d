-- An image of given entries is held: for a moment a volume has them, which is deleted once the image is held.
use Rattle.std.proofs.Common.{◌≡◌, ◌+◌, List, [], length, Option, Some, None, sum_by, refl, ap, arith}
use Rattle.std.specs.Prelude.{nat_lt, is_some, IsSome}
use Rattle.std.proofs.lemmas.Bool.{eq-eqb}
use Rattle.vv_flat.specs.Lists.{if_found}
use Rattle.vv_flat.specs.State.{Volume}
use Rattle.vv_flat.specs.Chunks.{Entry}
use Rattle.vv_flat.proofs.Sums.{sum-put}
use Rattle.vv_flat.proofs.Lookups.{find-put_new}
use Rattle.vv_vols.specs.Shelf.{HeldList, ShelfState, is_volume, volume_in, chunks_in, size_in, shelf_entries}
use Rattle.vv_vols.specs.Calls.{with_made, with_deleted, with_held}
use Rattle.vv_tables.proofs.GivenLists.{none_found, removed_new}

module _ (s : ShelfState) (v : Volume Entry) (unused : volume_in s v.number ≡ None) where
  pub made_found : volume_in (with_made s v) v.number ≡ Some v
  made_found = find-put_new (λ (w : Volume Entry). nat_lt v.number w.number) (is_volume v.number) v s.volumes (eq-eqb v.number v.number refl) (none_found (is_volume v.number) s.volumes unused)

  pub made_stands : IsSome (volume_in (with_made s v) v.number)
  made_stands = ap is_some made_found

  pub made_chunks : chunks_in (with_made s v) v.number ≡ v.chunks
  made_chunks = ap (λ (o : Option (Volume Entry)). if_found o (λ (w : Volume Entry). w.chunks) []) made_found

  pub made_size : size_in (with_made s v) v.number ≡ length v.chunks
  made_size = ap (λ (o : Option (Volume Entry)). if_found o (λ (w : Volume Entry). length w.chunks) 0) made_found

  pub made_entries : shelf_entries (with_made s v) ≡ length v.chunks + shelf_entries s
  made_entries =
      let more : sum_by (λ (w : Volume Entry). length w.chunks) (with_made s v).volumes ≡ length v.chunks + sum_by (λ (w : Volume Entry). length w.chunks) s.volumes =
      sum-put (λ (w : Volume Entry). length w.chunks) (λ (w : Volume Entry). nat_lt v.number w.number) v s.volumes in
      omega (arith, more)

  pub made_deleted : (h : HeldList) → with_deleted (with_held (with_made s v) h) v.number ≡ with_held s h
  made_deleted h =
      ap (λ (vs : List (Volume Entry)). record (with_held s h) { volumes = vs })
      (removed_new (is_volume v.number) (λ (w : Volume Entry). nat_lt v.number w.number) v s.volumes (eq-eqb v.number v.number refl) unused)
