use Rattle.std.proofs.Common.{◌≡◌, ◌+◌, [], true, refl, ap, ◌∙◌, arith}
use Rattle.vv_flat.specs.State.{Durable}
use Rattle.vv_flat.specs.Chunks.{Entry}
use Rattle.vv_flat.specs.Changes.{Change, GrowVolume}
use Rattle.vv_flat.specs.Replay.{fits, replayed}
use Rattle.vv_vols.specs.Shelf.{ShelfState}
use Rattle.vv_vols.specs.Calls.{with_size}
use Rattle.vv_tables.specs.Seen.{TablesView, seen_durable}
use Rattle.vv_tables.proofs.NextNumber.{more_to_come}
use Rattle.vv_tables.proofs.Stepped.{uncharged}
use Rattle.vv_tables.proofs.VolumesStepped.{volumes_stepped}
use Rattle.vv_tables.proofs.GrownVolumes.{grown_stands, grown_more, grown_few, grown_seen, forms}
use Rattle.vv_tables.proofs.tables.Tables.grow_volume.Goals as goal

pub overflow_add-self : goal.overflow_add-self
overflow_add-self g c =
    let i = c.self.inside in
    let change : Change = GrowVolume c.args.volume.0 c.args.chunks in
    let d : Durable Entry = seen_durable i.lsn i.shelf.shelf i.containers i.bindings i.tasks i.clones.items i.copies.items in
    let fit : fits d change [] ≡ true = ap (λ (t : TablesView). fits t.durable change []) c.self.view_is ∙ c.requires.fits in
    omega (arith, more_to_come d change [] fit)

pub grow-requires-clause-standing : goal.grow-requires-clause-standing
grow-requires-clause-standing g c =
    let i = c.self.inside in
    let change : Change = GrowVolume c.args.volume.0 c.args.chunks in
    grown_stands (seen_durable i.lsn i.shelf.shelf i.containers i.bindings i.tasks i.clones.items i.copies.items) c.args.volume.0 c.args.chunks
    (ap (λ (t : TablesView). fits t.durable change []) c.self.view_is ∙ c.requires.fits)

pub grow-requires-clause-more : goal.grow-requires-clause-more
grow-requires-clause-more g c =
    let i = c.self.inside in
    let change : Change = GrowVolume c.args.volume.0 c.args.chunks in
    grown_more i.lsn i.shelf.shelf i.containers i.bindings i.tasks i.clones.items i.copies.items c.args.volume.0 c.args.chunks
    (ap (λ (t : TablesView). fits t.durable change []) c.self.view_is ∙ c.requires.fits)

pub grow-requires-clause-few : goal.grow-requires-clause-few
grow-requires-clause-few g c =
    let i = c.self.inside in
    let change : Change = GrowVolume c.args.volume.0 c.args.chunks in
    grown_few i.lsn i.shelf.shelf i.containers i.bindings i.tasks i.clones.items i.copies.items c.args.volume.0 c.args.chunks
    (ap (λ (t : TablesView). fits t.durable change []) c.self.view_is ∙ c.requires.fits) c.self.invariant.held

pub invariant_of-self : goal.invariant_of-self
invariant_of-self g c =
    let i = c.self.inside in
    let n = c.args.volume.0 in
    let change : Change = GrowVolume n c.args.chunks in
    let d : Durable Entry = seen_durable i.lsn i.shelf.shelf i.containers i.bindings i.tasks i.clones.items i.copies.items in
    let d' : Durable Entry = seen_durable (i.lsn + 1) c.grow.new.self.shelf i.containers i.bindings i.tasks i.clones.items i.copies.items in
    let fit : fits d change [] ≡ true = ap (λ (t : TablesView). fits t.durable change []) c.self.view_is ∙ c.requires.fits in
    let is : d' ≡ replayed d change [] =
    ap (λ (s : ShelfState). seen_durable (i.lsn + 1) s i.containers i.bindings i.tasks i.clones.items i.copies.items) c.grow.ensures.shelf
    ∙ grown_seen i.lsn i.shelf.shelf i.containers i.bindings i.tasks i.clones.items i.copies.items n c.args.chunks in
    volumes_stepped i.geometry i.lsn i.shelf i.containers i.bindings i.tasks i.clones.items i.copies.items _ _ c.self.invariant change [] c.grow.new.self i.containers
    (with_size i.shelf.shelf n c.args.chunks).volumes fit (forms n c.args.chunks) refl c.grow.ensures.shelf is
    (uncharged d d' change [] c.self.invariant.kept.well fit is i.containers (λ k. refl) c.self.invariant.kept.charges)

pub returns-clause-durable : goal.returns-clause-durable
returns-clause-durable g c =
    let i = c.self.inside in
    let n = c.args.volume.0 in
    let change : Change = GrowVolume n c.args.chunks in
    ap (λ (s : ShelfState). seen_durable (i.lsn + 1) s i.containers i.bindings i.tasks i.clones.items i.copies.items) c.grow.ensures.shelf
    ∙ grown_seen i.lsn i.shelf.shelf i.containers i.bindings i.tasks i.clones.items i.copies.items n c.args.chunks
    ∙ ap (λ (t : TablesView). replayed t.durable change []) c.self.view_is
