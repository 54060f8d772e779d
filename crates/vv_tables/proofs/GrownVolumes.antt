-- A volume grows by unmapped chunks: what the change has passed, and the tables afterwards.
use Rattle.std.proofs.Common.{ℕ, ◌≡◌, ◌+◌, ◌-◌, ◌≤◌, ◌||◌, not, Bool, true, false, List, [], None, refl, arith}
use Rattle.std.specs.Prelude.{IsSome, nat_lt}
use Rattle.std.proofs.lemmas.Bool.{ltb-false}
use Rattle.vv_units.specs.declared.field.Field.TheVariants.{Vvol as in_vvol, SizeInMb as in_size}
use Rattle.vv_flat.specs.State.{Task, Durable, volume_of}
use Rattle.vv_flat.specs.Chunks.{Entry, shape_of_tables}
use Rattle.vv_flat.specs.Space.{is_volume_size}
use Rattle.vv_flat.specs.Fields.{change_has_forms}
use Rattle.vv_flat.specs.Refusals.{InvalidArgument}
use Rattle.vv_flat.specs.Changes.{GrowVolume, effect, apply, state_checks, room_checks, size_of}
use Rattle.vv_flat.specs.Replay.{fits, replayed}
use Rattle.vv_flat.proofs.KeepRules.{fits_accepted}
use Rattle.vv_flat.proofs.Verdicts.{passed_state, passed_room, not_refused}
use Rattle.vv_container.specs.Table.{ChargedContainer}
use Rattle.vv_bind.specs.Table.{BindState}
use Rattle.vv_vols.specs.Shelf.{ShelfState, shelf_entries, size_in}
use Rattle.vv_vols.specs.Calls.{with_size}
use Rattle.vv_tables.specs.declared.rows.CloneRow.{CloneRow}
use Rattle.vv_tables.specs.declared.rows.CopyRow.{CopyRow}
use Rattle.vv_tables.specs.Seen.{seen_durable}
use Rattle.vv_tables.specs.Kept.{AreHeld}
use Rattle.vv_tables.proofs.ShapeVolumes.{size_is}
use Rattle.vv_tables.proofs.StandingVolumes.{not_missing}
use Rattle.vv_tables.proofs.ShapeEntries.{shelf_has_room}

second_of : (a b : Bool) → (a || b) ≡ false → b ≡ false
second_of true b e = absurd (cc)
second_of false b e = e

module _ (d : Durable Entry) (n chunks : ℕ) (fit : fits d (GrowVolume n chunks) [] ≡ true) where
  pub grown_stands : IsSome (volume_of d n)
  unfolding state_checks
  grown_stands = not_missing d n in_vvol (passed_state None (shape_of_tables d) (GrowVolume n chunks) (fits_accepted d (GrowVolume n chunks) [] fit) 0)

  not_less : size_of (shape_of_tables d) n ≤ chunks
  unfolding state_checks
  not_less =
      ltb-false chunks (size_of (shape_of_tables d) n)
      (second_of (not (is_volume_size d.geometry.chunk_blocks chunks)) (nat_lt chunks (size_of (shape_of_tables d) n))
      (not_refused (not (is_volume_size d.geometry.chunk_blocks chunks) || nat_lt chunks (size_of (shape_of_tables d) n)) (InvalidArgument in_size)
      (passed_state None (shape_of_tables d) (GrowVolume n chunks) (fits_accepted d (GrowVolume n chunks) [] fit) 1)))

module _ (lsn : ℕ) (s : ShelfState) (rows : List ChargedContainer) (bindings : BindState) (tasks : List Task) (clones : List CloneRow) (copies : List CopyRow) (n chunks : ℕ) where
  module _ (fit : fits (seen_durable lsn s rows bindings tasks clones copies) (GrowVolume n chunks) [] ≡ true) where
    pub grown_more : size_in s n ≤ chunks
    grown_more =
        let d : Durable Entry = seen_durable lsn s rows bindings tasks clones copies in
        let same : size_in s n ≡ size_of (shape_of_tables d) n = size_is d n in
        omega (arith, same, not_less d n chunks fit)

    pub grown_few : AreHeld s clones copies → shelf_entries s + chunks ≤ s.geometry.map_chunks + size_in s n
    unfolding room_checks
    grown_few held =
        let d : Durable Entry = seen_durable lsn s rows bindings tasks clones copies in
        let same : size_in s n ≡ size_of (shape_of_tables d) n = size_is d n in
        let room : shelf_entries s + (chunks - size_of (shape_of_tables d) n) ≤ s.geometry.map_chunks =
        shelf_has_room lsn s rows bindings tasks clones copies held (chunks - size_of (shape_of_tables d) n)
        (passed_room None (shape_of_tables d) (GrowVolume n chunks) (fits_accepted d (GrowVolume n chunks) [] fit) 1) in
        omega (arith, same, room, not_less d n chunks fit)

  pub grown_seen : seen_durable (lsn + 1) (with_size s n chunks) rows bindings tasks clones copies
      ≡ replayed (seen_durable lsn s rows bindings tasks clones copies) (GrowVolume n chunks) []
  unfolding replayed apply effect
  grown_seen = refl

pub forms : (n chunks : ℕ) → change_has_forms (GrowVolume n chunks) ≡ true
unfolding change_has_forms
forms n chunks = refl
