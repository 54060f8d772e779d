use Rattle.std.proofs.Common.{◌≡◌, None, replicate, refl, ap, subst, ◌∙◌, arith}
use Rattle.vv_units.specs.declared.volume.VolumeKind.TheVariants.{SnapshotOf}
use Rattle.vv_flat.specs.Chunks.{unmapped_entry}
use Rattle.std.specs.List.{Contains}
use Rattle.vv_vols.specs.Shelf.{ShelfState, volume_in, size_in, shelf_pieces}
use Rattle.vv_vols.specs.Calls.{with_made}
use Rattle.vv_vols.specs.Rows.{ShelfView, volume_with, empty_view}
use Rattle.vv_snap.proofs.Behind.{made_stamps, one_stands, one_size, one_stamp, written_stands, written_size, snapshot_stands, snapshot_size}
use Rattle.vv_snap.proofs.tests.write_behind_a_snapshot.Goals as goal

pub fill-requires-clause-unmapped : goal.fill-requires-clause-unmapped
fill-requires-clause-unmapped g c =
    let begun : c.reserve_list-3.new.self.shelf ≡ with_made (empty_view c.args.shelf.now.shelf.geometry).shelf (volume_with 1 c.plain_head.result (replicate 256 unmapped_entry)) =
    ap (λ (v : ShelfView). v.shelf) c.in_ok-spare.ensures.ok
    ∙ ap (λ (v : ShelfView). v.shelf) c.in_ok-room-2.ensures.ok
    ∙ c.make.ensures.shelf
    ∙ ap (λ (v : ShelfView). with_made v.shelf (volume_with 1 c.plain_head.result (replicate 256 unmapped_entry))) (c.in_ok-room.ensures.ok)
    ∙ ap (λ (v : ShelfView). with_made v.shelf (volume_with 1 c.plain_head.result (replicate 256 unmapped_entry))) c.requires.empty in
    λ a at. made_stamps (empty_view c.args.shelf.now.shelf.geometry).shelf c.plain_head.result 1 256 refl refl a (subst (λ (s : ShelfState). Contains (shelf_pieces s) a) begun at)

pub snapshot_in_four_steps-requires-clause-unused : goal.snapshot_in_four_steps-requires-clause-unused
snapshot_in_four_steps-requires-clause-unused g c =
    let begun : c.reserve_list-3.new.self.shelf ≡ with_made (empty_view c.args.shelf.now.shelf.geometry).shelf (volume_with 1 c.plain_head.result (replicate 256 unmapped_entry)) =
    ap (λ (v : ShelfView). v.shelf) c.in_ok-spare.ensures.ok
    ∙ ap (λ (v : ShelfView). v.shelf) c.in_ok-room-2.ensures.ok
    ∙ c.make.ensures.shelf
    ∙ ap (λ (v : ShelfView). with_made v.shelf (volume_with 1 c.plain_head.result (replicate 256 unmapped_entry))) (c.in_ok-room.ensures.ok)
    ∙ ap (λ (v : ShelfView). with_made v.shelf (volume_with 1 c.plain_head.result (replicate 256 unmapped_entry))) c.requires.empty in
    let unused : volume_in c.fill.new.shelf.shelf 2 ≡ None = c.fill.ensures.others 2 (λ e. absurd (omega arith)) ∙ ap (λ (s : ShelfState). volume_in s 2) begun in
    unused

pub put_fresh-requires-clause-standing : goal.put_fresh-requires-clause-standing
put_fresh-requires-clause-standing g c =
    let begun : c.reserve_list-3.new.self.shelf ≡ with_made (empty_view c.args.shelf.now.shelf.geometry).shelf (volume_with 1 c.plain_head.result (replicate 256 unmapped_entry)) =
    ap (λ (v : ShelfView). v.shelf) c.in_ok-spare.ensures.ok
    ∙ ap (λ (v : ShelfView). v.shelf) c.in_ok-room-2.ensures.ok
    ∙ c.make.ensures.shelf
    ∙ ap (λ (v : ShelfView). with_made v.shelf (volume_with 1 c.plain_head.result (replicate 256 unmapped_entry))) (c.in_ok-room.ensures.ok)
    ∙ ap (λ (v : ShelfView). with_made v.shelf (volume_with 1 c.plain_head.result (replicate 256 unmapped_entry))) c.requires.empty in
    let unused : volume_in c.fill.new.shelf.shelf 2 ≡ None = c.fill.ensures.others 2 (λ e. absurd (omega arith)) ∙ ap (λ (s : ShelfState). volume_in s 2) begun in
    let size : size_in c.fill.new.shelf.shelf 1 ≡ 256 = c.fill.ensures.size ∙ ap (λ (s : ShelfState). size_in s 1) begun in
    let taken = ap (λ (v : ShelfView). v.shelf) c.take_place.ensures.shelf in
    one_stands c.fill.new.shelf.shelf c.snapshot_in_four_steps.new.shelf.shelf c.take_place.new.shelf.shelf (SnapshotOf (record { 0 = 1 })) c.fill.ensures.standing size unused c.fill.ensures.stamps c.snapshot_in_four_steps.ensures.shelf taken

pub put_fresh-requires-clause-within : goal.put_fresh-requires-clause-within
put_fresh-requires-clause-within g c =
    let begun : c.reserve_list-3.new.self.shelf ≡ with_made (empty_view c.args.shelf.now.shelf.geometry).shelf (volume_with 1 c.plain_head.result (replicate 256 unmapped_entry)) =
    ap (λ (v : ShelfView). v.shelf) c.in_ok-spare.ensures.ok
    ∙ ap (λ (v : ShelfView). v.shelf) c.in_ok-room-2.ensures.ok
    ∙ c.make.ensures.shelf
    ∙ ap (λ (v : ShelfView). with_made v.shelf (volume_with 1 c.plain_head.result (replicate 256 unmapped_entry))) (c.in_ok-room.ensures.ok)
    ∙ ap (λ (v : ShelfView). with_made v.shelf (volume_with 1 c.plain_head.result (replicate 256 unmapped_entry))) c.requires.empty in
    let unused : volume_in c.fill.new.shelf.shelf 2 ≡ None = c.fill.ensures.others 2 (λ e. absurd (omega arith)) ∙ ap (λ (s : ShelfState). volume_in s 2) begun in
    let size : size_in c.fill.new.shelf.shelf 1 ≡ 256 = c.fill.ensures.size ∙ ap (λ (s : ShelfState). size_in s 1) begun in
    let taken = ap (λ (v : ShelfView). v.shelf) c.take_place.ensures.shelf in
    let is = one_size c.fill.new.shelf.shelf c.snapshot_in_four_steps.new.shelf.shelf c.take_place.new.shelf.shelf (SnapshotOf (record { 0 = 1 })) c.fill.ensures.standing size unused c.fill.ensures.stamps c.snapshot_in_four_steps.ensures.shelf taken in omega arith

pub put_fresh-requires-clause-stamp : goal.put_fresh-requires-clause-stamp
put_fresh-requires-clause-stamp g c =
    let begun : c.reserve_list-3.new.self.shelf ≡ with_made (empty_view c.args.shelf.now.shelf.geometry).shelf (volume_with 1 c.plain_head.result (replicate 256 unmapped_entry)) =
    ap (λ (v : ShelfView). v.shelf) c.in_ok-spare.ensures.ok
    ∙ ap (λ (v : ShelfView). v.shelf) c.in_ok-room-2.ensures.ok
    ∙ c.make.ensures.shelf
    ∙ ap (λ (v : ShelfView). with_made v.shelf (volume_with 1 c.plain_head.result (replicate 256 unmapped_entry))) (c.in_ok-room.ensures.ok)
    ∙ ap (λ (v : ShelfView). with_made v.shelf (volume_with 1 c.plain_head.result (replicate 256 unmapped_entry))) c.requires.empty in
    let unused : volume_in c.fill.new.shelf.shelf 2 ≡ None = c.fill.ensures.others 2 (λ e. absurd (omega arith)) ∙ ap (λ (s : ShelfState). volume_in s 2) begun in
    let size : size_in c.fill.new.shelf.shelf 1 ≡ 256 = c.fill.ensures.size ∙ ap (λ (s : ShelfState). size_in s 1) begun in
    let taken = ap (λ (v : ShelfView). v.shelf) c.take_place.ensures.shelf in
    one_stamp c.fill.new.shelf.shelf c.snapshot_in_four_steps.new.shelf.shelf c.take_place.new.shelf.shelf (SnapshotOf (record { 0 = 1 })) c.fill.ensures.standing size unused c.fill.ensures.stamps c.snapshot_in_four_steps.ensures.shelf taken

pub allocated_count-requires : goal.allocated_count-requires
allocated_count-requires g c =
    let begun : c.reserve_list-3.new.self.shelf ≡ with_made (empty_view c.args.shelf.now.shelf.geometry).shelf (volume_with 1 c.plain_head.result (replicate 256 unmapped_entry)) =
    ap (λ (v : ShelfView). v.shelf) c.in_ok-spare.ensures.ok
    ∙ ap (λ (v : ShelfView). v.shelf) c.in_ok-room-2.ensures.ok
    ∙ c.make.ensures.shelf
    ∙ ap (λ (v : ShelfView). with_made v.shelf (volume_with 1 c.plain_head.result (replicate 256 unmapped_entry))) (c.in_ok-room.ensures.ok)
    ∙ ap (λ (v : ShelfView). with_made v.shelf (volume_with 1 c.plain_head.result (replicate 256 unmapped_entry))) c.requires.empty in
    let unused : volume_in c.fill.new.shelf.shelf 2 ≡ None = c.fill.ensures.others 2 (λ e. absurd (omega arith)) ∙ ap (λ (s : ShelfState). volume_in s 2) begun in
    let size : size_in c.fill.new.shelf.shelf 1 ≡ 256 = c.fill.ensures.size ∙ ap (λ (s : ShelfState). size_in s 1) begun in
    let taken = ap (λ (v : ShelfView). v.shelf) c.take_place.ensures.shelf in
    written_stands c.fill.new.shelf.shelf c.snapshot_in_four_steps.new.shelf.shelf c.take_place.new.shelf.shelf (SnapshotOf (record { 0 = 1 })) c.fill.ensures.standing size unused c.fill.ensures.stamps c.snapshot_in_four_steps.ensures.shelf taken c.put_fresh.new.self.shelf c.in-Some.fresh c.put_fresh.ensures.shelf

pub entry-requires-clause-standing : goal.entry-requires-clause-standing
entry-requires-clause-standing g c =
    let begun : c.reserve_list-3.new.self.shelf ≡ with_made (empty_view c.args.shelf.now.shelf.geometry).shelf (volume_with 1 c.plain_head.result (replicate 256 unmapped_entry)) =
    ap (λ (v : ShelfView). v.shelf) c.in_ok-spare.ensures.ok
    ∙ ap (λ (v : ShelfView). v.shelf) c.in_ok-room-2.ensures.ok
    ∙ c.make.ensures.shelf
    ∙ ap (λ (v : ShelfView). with_made v.shelf (volume_with 1 c.plain_head.result (replicate 256 unmapped_entry))) (c.in_ok-room.ensures.ok)
    ∙ ap (λ (v : ShelfView). with_made v.shelf (volume_with 1 c.plain_head.result (replicate 256 unmapped_entry))) c.requires.empty in
    let unused : volume_in c.fill.new.shelf.shelf 2 ≡ None = c.fill.ensures.others 2 (λ e. absurd (omega arith)) ∙ ap (λ (s : ShelfState). volume_in s 2) begun in
    let size : size_in c.fill.new.shelf.shelf 1 ≡ 256 = c.fill.ensures.size ∙ ap (λ (s : ShelfState). size_in s 1) begun in
    let taken = ap (λ (v : ShelfView). v.shelf) c.take_place.ensures.shelf in
    snapshot_stands c.fill.new.shelf.shelf c.snapshot_in_four_steps.new.shelf.shelf c.take_place.new.shelf.shelf (SnapshotOf (record { 0 = 1 })) c.fill.ensures.standing size unused c.fill.ensures.stamps c.snapshot_in_four_steps.ensures.shelf taken c.put_fresh.new.self.shelf c.in-Some.fresh c.put_fresh.ensures.shelf

pub entry-requires-clause-within : goal.entry-requires-clause-within
entry-requires-clause-within g c =
    let begun : c.reserve_list-3.new.self.shelf ≡ with_made (empty_view c.args.shelf.now.shelf.geometry).shelf (volume_with 1 c.plain_head.result (replicate 256 unmapped_entry)) =
    ap (λ (v : ShelfView). v.shelf) c.in_ok-spare.ensures.ok
    ∙ ap (λ (v : ShelfView). v.shelf) c.in_ok-room-2.ensures.ok
    ∙ c.make.ensures.shelf
    ∙ ap (λ (v : ShelfView). with_made v.shelf (volume_with 1 c.plain_head.result (replicate 256 unmapped_entry))) (c.in_ok-room.ensures.ok)
    ∙ ap (λ (v : ShelfView). with_made v.shelf (volume_with 1 c.plain_head.result (replicate 256 unmapped_entry))) c.requires.empty in
    let unused : volume_in c.fill.new.shelf.shelf 2 ≡ None = c.fill.ensures.others 2 (λ e. absurd (omega arith)) ∙ ap (λ (s : ShelfState). volume_in s 2) begun in
    let size : size_in c.fill.new.shelf.shelf 1 ≡ 256 = c.fill.ensures.size ∙ ap (λ (s : ShelfState). size_in s 1) begun in
    let taken = ap (λ (v : ShelfView). v.shelf) c.take_place.ensures.shelf in
    let is = snapshot_size c.fill.new.shelf.shelf c.snapshot_in_four_steps.new.shelf.shelf c.take_place.new.shelf.shelf (SnapshotOf (record { 0 = 1 })) c.fill.ensures.standing size unused c.fill.ensures.stamps c.snapshot_in_four_steps.ensures.shelf taken c.put_fresh.new.self.shelf c.in-Some.fresh c.put_fresh.ensures.shelf in omega arith

pub entry-requires-2-clause-standing : goal.entry-requires-2-clause-standing
entry-requires-2-clause-standing g c =
    let begun : c.reserve_list-3.new.self.shelf ≡ with_made (empty_view c.args.shelf.now.shelf.geometry).shelf (volume_with 1 c.plain_head.result (replicate 256 unmapped_entry)) =
    ap (λ (v : ShelfView). v.shelf) c.in_ok-spare.ensures.ok
    ∙ ap (λ (v : ShelfView). v.shelf) c.in_ok-room-2.ensures.ok
    ∙ c.make.ensures.shelf
    ∙ ap (λ (v : ShelfView). with_made v.shelf (volume_with 1 c.plain_head.result (replicate 256 unmapped_entry))) (c.in_ok-room.ensures.ok)
    ∙ ap (λ (v : ShelfView). with_made v.shelf (volume_with 1 c.plain_head.result (replicate 256 unmapped_entry))) c.requires.empty in
    let unused : volume_in c.fill.new.shelf.shelf 2 ≡ None = c.fill.ensures.others 2 (λ e. absurd (omega arith)) ∙ ap (λ (s : ShelfState). volume_in s 2) begun in
    let size : size_in c.fill.new.shelf.shelf 1 ≡ 256 = c.fill.ensures.size ∙ ap (λ (s : ShelfState). size_in s 1) begun in
    let taken = ap (λ (v : ShelfView). v.shelf) c.take_place.ensures.shelf in
    written_stands c.fill.new.shelf.shelf c.snapshot_in_four_steps.new.shelf.shelf c.take_place.new.shelf.shelf (SnapshotOf (record { 0 = 1 })) c.fill.ensures.standing size unused c.fill.ensures.stamps c.snapshot_in_four_steps.ensures.shelf taken c.put_fresh.new.self.shelf c.in-Some.fresh c.put_fresh.ensures.shelf

pub entry-requires-2-clause-within : goal.entry-requires-2-clause-within
entry-requires-2-clause-within g c =
    let begun : c.reserve_list-3.new.self.shelf ≡ with_made (empty_view c.args.shelf.now.shelf.geometry).shelf (volume_with 1 c.plain_head.result (replicate 256 unmapped_entry)) =
    ap (λ (v : ShelfView). v.shelf) c.in_ok-spare.ensures.ok
    ∙ ap (λ (v : ShelfView). v.shelf) c.in_ok-room-2.ensures.ok
    ∙ c.make.ensures.shelf
    ∙ ap (λ (v : ShelfView). with_made v.shelf (volume_with 1 c.plain_head.result (replicate 256 unmapped_entry))) (c.in_ok-room.ensures.ok)
    ∙ ap (λ (v : ShelfView). with_made v.shelf (volume_with 1 c.plain_head.result (replicate 256 unmapped_entry))) c.requires.empty in
    let unused : volume_in c.fill.new.shelf.shelf 2 ≡ None = c.fill.ensures.others 2 (λ e. absurd (omega arith)) ∙ ap (λ (s : ShelfState). volume_in s 2) begun in
    let size : size_in c.fill.new.shelf.shelf 1 ≡ 256 = c.fill.ensures.size ∙ ap (λ (s : ShelfState). size_in s 1) begun in
    let taken = ap (λ (v : ShelfView). v.shelf) c.take_place.ensures.shelf in
    let is = written_size c.fill.new.shelf.shelf c.snapshot_in_four_steps.new.shelf.shelf c.take_place.new.shelf.shelf (SnapshotOf (record { 0 = 1 })) c.fill.ensures.standing size unused c.fill.ensures.stamps c.snapshot_in_four_steps.ensures.shelf taken c.put_fresh.new.self.shelf c.in-Some.fresh c.put_fresh.ensures.shelf in omega arith
