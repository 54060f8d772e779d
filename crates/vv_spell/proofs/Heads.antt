-- A row with its lists is the one that stands at a place. This serves volumes and running clones.
use Rattle.std.proofs.Common.{ℕ, ◌≡◌, [], ap, sym}
use Rattle.std.specs.Prelude.{Option, Some, None, option_map, slice_get}
use Rattle.vv_flat.specs.Lists.{if_found}
use Rattle.vv_flat.specs.State.{Volume, Durable}
use Rattle.vv_flat.specs.Chunks.{Entry}
use Rattle.vv_vols.specs.declared.head.Head.{Head}
use Rattle.vv_vols.specs.Rows.{volume_with}
use Rattle.vv_tables.specs.Places.{chunks_at}

pub volume_is : (d : Durable Entry) (i n : ℕ) (head : Head)
    → Some (volume_with n head []) ≡ option_map (λ (v : Volume Entry). record v { chunks = [] }) (slice_get d.volumes i)
    → slice_get d.volumes i ≡ Some (volume_with n head (chunks_at d i))
volume_is d i n head e = go (slice_get d.volumes i) e
  where
    go : (o : Option (Volume Entry)) → Some (volume_with n head []) ≡ option_map (λ (v : Volume Entry). record v { chunks = [] }) o
        → o ≡ Some (volume_with n head (if_found o (λ (v : Volume Entry). v.chunks) []))
    go None e = absurd (cc)
    go (Some v) e =
        let same : volume_with n head [] ≡ record v { chunks = [] } = cc in
        ap (λ (w : Volume Entry). Some (record w { chunks = v.chunks })) (sym same)
