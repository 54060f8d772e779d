-- What whole copies make of a shelf.
use Rattle.std.specs.Prelude.{ℕ, ◌≡◌, IfSome}
use Rattle.vv_units.specs.declared.volume.VolumeKind.{VolumeKind}
use Rattle.vv_flat.specs.Lists.{if_found}
use Rattle.vv_flat.specs.State.{Volume}
use Rattle.vv_flat.specs.Chunks.{Entry}
use Rattle.vv_vols.specs.declared.head.Head.{Head}
use Rattle.vv_vols.specs.Shelf.{ShelfState, volume_in}
use Rattle.vv_vols.specs.Calls.{with_made, with_chunks}
use Rattle.vv_vols.specs.Rows.{volume_with}

-- a head is that of a volume as it stands
abbrev pub IsHeadOf : ShelfState → ℕ → Head → Type 0
IsHeadOf s n head = IfSome (volume_in s n) (λ (v : Volume Entry). volume_with n head v.chunks ≡ v)

-- .. or is so but for its kind
abbrev pub IsHeadButKind : ShelfState → ℕ → Head → Type 0
IsHeadButKind s n head = IfSome (volume_in s n) (λ (v : Volume Entry). volume_with n (record head { kind = v.kind }) v.chunks ≡ v)

-- One more volume: all of one that stands, but under a number and of a kind of its own.
abbrev pub with_copy : ShelfState → ℕ → ℕ → VolumeKind → ShelfState
with_copy s n id kind =
    if_found (volume_in s n) (λ (v : Volume Entry). with_made s (record v { number = id; kind = kind })) s

-- a volume has the chunks of another one
abbrev pub with_reverted : ShelfState → ℕ → ℕ → ShelfState
with_reverted s n snapshot =
    if_found (volume_in s snapshot) (λ (w : Volume Entry). with_chunks s n (λ _. w.chunks)) s
