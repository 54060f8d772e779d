use Rattle.std.proofs.Common.{◌≡◌, ◌+◌, [], true, replicate, refl, ap, ◌∙◌, arith}
use Rattle.std.specs.Prelude.{nat_lt}
use Rattle.vv_flat.specs.Lists.{put_before}
use Rattle.vv_flat.specs.State.{Volume, Durable}
use Rattle.vv_flat.specs.Chunks.{Entry, unmapped_entry}
use Rattle.vv_flat.specs.Changes.{Change, MakeVolume}
use Rattle.vv_flat.specs.Replay.{fits, replayed}
use Rattle.vv_vols.specs.Shelf.{ShelfState}
use Rattle.vv_vols.specs.Rows.{volume_with}
use Rattle.vv_tables.specs.Seen.{TablesView, seen_durable}
use Rattle.vv_tables.proofs.NextNumber.{more_to_come, new_volume}
use Rattle.vv_tables.proofs.Stepped.{uncharged}
use Rattle.vv_tables.proofs.VolumesStepped.{volumes_stepped}
use Rattle.vv_tables.proofs.MadeVolumes.{made_has_room, made_seen}
use Rattle.vv_tables.proofs.tables.Tables.make_volume.Goals as goal

pub overflow_add-self : goal.overflow_add-self
overflow_add-self c =
    let i = c.self.inside in
    let change : Change = MakeVolume c.args.head.container.0 c.args.head.vtype c.args.chunks c.args.head.needs in
    let d : Durable Entry = seen_durable i.lsn i.shelf.shelf i.containers i.bindings i.tasks i.clones.items i.copies.items in
    let fit : fits d change [] ≡ true = ap (λ (t : TablesView). fits t.durable change []) c.self.view_is ∙ c.requires.fits in
    omega (arith, more_to_come d change [] fit)

pub make-requires-clause-unused : goal.make-requires-clause-unused
make-requires-clause-unused c =
    let i = c.self.inside in
    new_volume (seen_durable i.lsn i.shelf.shelf i.containers i.bindings i.tasks i.clones.items i.copies.items) c.self.invariant.kept.well

pub make-requires-clause-few : goal.make-requires-clause-few
make-requires-clause-few c =
    let i = c.self.inside in
    let change : Change = MakeVolume c.args.head.container.0 c.args.head.vtype c.args.chunks c.args.head.needs in
    made_has_room i.lsn i.shelf.shelf i.containers i.bindings i.tasks i.clones.items i.copies.items c.args.chunks c.args.head.container.0 c.args.head.vtype c.args.head.needs
    (ap (λ (t : TablesView). fits t.durable change []) c.self.view_is ∙ c.requires.fits) c.self.invariant.held

pub invariant_of-self : goal.invariant_of-self
invariant_of-self c =
    let i = c.self.inside in
    let change : Change = MakeVolume c.args.head.container.0 c.args.head.vtype c.args.chunks c.args.head.needs in
    let v : Volume Entry = volume_with (i.lsn + 1) c.args.head (replicate c.args.chunks unmapped_entry) in
    let d : Durable Entry = seen_durable i.lsn i.shelf.shelf i.containers i.bindings i.tasks i.clones.items i.copies.items in
    let d' : Durable Entry = seen_durable (i.lsn + 1) c.make.new.self.shelf i.containers i.bindings i.tasks i.clones.items i.copies.items in
    let fit : fits d change [] ≡ true = ap (λ (t : TablesView). fits t.durable change []) c.self.view_is ∙ c.requires.fits in
    let is : d' ≡ replayed d change [] =
    ap (λ (s : ShelfState). seen_durable (i.lsn + 1) s i.containers i.bindings i.tasks i.clones.items i.copies.items) c.make.ensures.shelf
    ∙ made_seen i.lsn i.shelf.shelf i.containers i.bindings i.tasks i.clones.items i.copies.items c.args.chunks c.args.head c.requires.plain c.requires.never c.requires.bare in
    volumes_stepped i.geometry i.lsn i.shelf i.containers i.bindings i.tasks i.clones.items i.copies.items _ _ c.self.invariant change [] c.make.new.self i.containers
    (put_before (λ (w : Volume Entry). nat_lt v.number w.number) v i.shelf.shelf.volumes) fit c.requires.forms refl c.make.ensures.shelf is
    (uncharged d d' change [] c.self.invariant.kept.well fit is i.containers (λ k. refl) c.self.invariant.kept.charges)

pub returns-clause-durable : goal.returns-clause-durable
returns-clause-durable c =
    let i = c.self.inside in
    let change : Change = MakeVolume c.args.head.container.0 c.args.head.vtype c.args.chunks c.args.head.needs in
    ap (λ (s : ShelfState). seen_durable (i.lsn + 1) s i.containers i.bindings i.tasks i.clones.items i.copies.items) c.make.ensures.shelf
    ∙ made_seen i.lsn i.shelf.shelf i.containers i.bindings i.tasks i.clones.items i.copies.items c.args.chunks c.args.head c.requires.plain c.requires.never c.requires.bare
    ∙ ap (λ (t : TablesView). replayed t.durable change []) c.self.view_is
