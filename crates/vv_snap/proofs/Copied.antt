-- What callers want to know of a copy: the volume that came, the others, and how many entries all lists have.
use Rattle.std.proofs.Common.{ℕ, ◌≡◌, ◌≢◌, ◌+◌, length, Option, Some, None, refl, sym, ap, ◌∙◌, arith}
use Rattle.std.specs.Prelude.{nat_lt, IfSome}
use Rattle.std.proofs.lemmas.Bool.{eq-eqb, ne_eqb}
use Rattle.vv_units.specs.declared.volume.VolumeKind.{VolumeKind}
use Rattle.vv_flat.specs.Lists.{if_found}
use Rattle.vv_flat.specs.State.{Volume}
use Rattle.vv_flat.specs.Chunks.{Entry}
use Rattle.vv_flat.proofs.Lookups.{find-put_other, find-put_new}
use Rattle.vv_flat.proofs.KeepLists.{all-where_none}
use Rattle.vv_flat.proofs.Sums.{sum-put}
use Rattle.vv_vols.specs.declared.head.Head.{Head}
use Rattle.vv_vols.specs.Shelf.{ShelfState, is_volume, volume_in, shelf_entries}
use Rattle.vv_vols.specs.Calls.{with_made}
use Rattle.vv_vols.specs.Rows.{volume_with}
use Rattle.vv_snap.specs.Copies.{IsHeadOf, IsHeadButKind, with_copy}

-- a whole head is one but for its kind
pub whole_head : (s : ShelfState) (n : ℕ) (head : Head) → IsHeadOf s n head → IsHeadButKind s n head
whole_head s n head is = go (volume_in s n) is
  where
    go : (o : Option (Volume Entry)) → IfSome o (λ (v : Volume Entry). volume_with n head v.chunks ≡ v)
        → IfSome o (λ (v : Volume Entry). volume_with n (record head { kind = v.kind }) v.chunks ≡ v)
    go None is = is
    go (Some v) is = ap (λ (k : VolumeKind). volume_with n (record head { kind = k }) v.chunks) (sym (ap (λ (w : Volume Entry). w.kind) is)) ∙ is

module _ (s : ShelfState) (n id : ℕ) (kind : VolumeKind) (v : Volume Entry) (found : volume_in s n ≡ Some v) where
  abbrev copy : Volume Entry
  copy = record v { number = id; kind = kind }

  pub copy_is : with_copy s n id kind ≡ with_made s copy
  copy_is = ap (λ (o : Option (Volume Entry)). if_found o (λ (w : Volume Entry). with_made s (record w { number = id; kind = kind })) s) found

  -- the volume that came,
  pub copied_found : volume_in s id ≡ None → volume_in (with_copy s n id kind) id ≡ Some copy
  copied_found unused = ap (λ (t : ShelfState). volume_in t id) copy_is
      ∙ find-put_new (λ (w : Volume Entry). nat_lt id w.number) (is_volume id) copy s.volumes (eq-eqb id id refl) (all-where_none (is_volume id) s.volumes unused)

  -- every other one,
  pub copied_other : (m : ℕ) → id ≢ m → volume_in (with_copy s n id kind) m ≡ volume_in s m
  copied_other m ne = ap (λ (t : ShelfState). volume_in t m) copy_is
      ∙ find-put_other (λ (w : Volume Entry). nat_lt id w.number) (is_volume m) copy s.volumes (ne_eqb id m ne)

  -- and the entries of all lists
  pub copied_entries : shelf_entries (with_copy s n id kind) ≡ length v.chunks + shelf_entries s
  copied_entries =
      let made = sum-put (λ (w : Volume Entry). length w.chunks) (λ (w : Volume Entry). nat_lt id w.number) copy s.volumes in
      let is = ap shelf_entries copy_is in
      omega arith
