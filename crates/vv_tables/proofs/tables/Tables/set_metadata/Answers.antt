use Rattle.std.proofs.Common.{◌≡◌, ◌+◌, [], refl, sym, ap, subst, ◌∙◌, arith}
use Rattle.vv_flat.specs.State.{Volume, Durable}
use Rattle.vv_flat.specs.Chunks.{Entry}
use Rattle.vv_flat.specs.Changes.{Change, SetMetadata}
use Rattle.vv_flat.specs.Replay.{replayed}
use Rattle.vv_vols.specs.Shelf.{ShelfState}
use Rattle.vv_vols.specs.Calls.{with_changed}
use Rattle.vv_vols.specs.Rows.{ShelfView}
use Rattle.vv_tables.specs.Seen.{TablesView, seen_durable, seen_tables}
use Rattle.vv_tables.specs.Metadata.{ArePairsAfter}
use Rattle.vv_tables.proofs.NextNumber.{more_to_come}
use Rattle.vv_tables.proofs.Stepped.{uncharged}
use Rattle.vv_tables.proofs.VolumesStepped.{volumes_stepped}
use Rattle.vv_tables.proofs.SetPairs.{set_stands, set_seen}
use Rattle.vv_tables.proofs.tables.Tables.set_metadata.Goals as goal

pub overflow_add-self : goal.overflow_add-self
overflow_add-self c =
    let i = c.self.inside in
    let d : Durable Entry = seen_durable i.lsn i.shelf.shelf i.containers i.bindings i.tasks i.clones.items i.copies.items in
    let t : TablesView = seen_tables i.lsn i.shelf i.containers i.bindings i.tasks i.clones.items i.copies.items in
    let key = c.requires.set.0 in
    let note = c.requires.set.1.0 in
    let after : ArePairsAfter t c.args.volume.0 c.args.pairs key note = subst (λ (u : TablesView). ArePairsAfter u c.args.volume.0 c.args.pairs key note) (sym c.self.view_is) c.requires.set.1.1 in
    omega (arith, more_to_come d (SetMetadata c.args.volume.0 key note) [] after.fits)

pub set_pairs-requires : goal.set_pairs-requires
set_pairs-requires c =
    let i = c.self.inside in
    let d : Durable Entry = seen_durable i.lsn i.shelf.shelf i.containers i.bindings i.tasks i.clones.items i.copies.items in
    let t : TablesView = seen_tables i.lsn i.shelf i.containers i.bindings i.tasks i.clones.items i.copies.items in
    let key = c.requires.set.0 in
    let note = c.requires.set.1.0 in
    let after : ArePairsAfter t c.args.volume.0 c.args.pairs key note = subst (λ (u : TablesView). ArePairsAfter u c.args.volume.0 c.args.pairs key note) (sym c.self.view_is) c.requires.set.1.1 in
    set_stands d c.args.volume.0 key note after.fits

pub invariant_of-self : goal.invariant_of-self
invariant_of-self c =
    let i = c.self.inside in
    let n = c.args.volume.0 in
    let key = c.requires.set.0 in
    let note = c.requires.set.1.0 in
    let change : Change = SetMetadata n key note in
    let d : Durable Entry = seen_durable i.lsn i.shelf.shelf i.containers i.bindings i.tasks i.clones.items i.copies.items in
    let t : TablesView = seen_tables i.lsn i.shelf i.containers i.bindings i.tasks i.clones.items i.copies.items in
    let d' : Durable Entry = seen_durable (i.lsn + 1) c.set_pairs.new.self.shelf i.containers i.bindings i.tasks i.clones.items i.copies.items in
    let after : ArePairsAfter t n c.args.pairs key note = subst (λ (u : TablesView). ArePairsAfter u n c.args.pairs key note) (sym c.self.view_is) c.requires.set.1.1 in
    let shelf : c.set_pairs.new.self.shelf ≡ with_changed i.shelf.shelf n (λ (v : Volume Entry). record v { metadata = c.args.pairs }) =
    ap (λ (w : ShelfView). w.shelf) c.set_pairs.ensures in
    let is : d' ≡ replayed d change [] =
    ap (λ (s : ShelfState). seen_durable (i.lsn + 1) s i.containers i.bindings i.tasks i.clones.items i.copies.items) shelf
    ∙ set_seen i.lsn i.shelf.shelf i.containers i.bindings i.tasks i.clones.items i.copies.items n c.args.pairs key note after.after in
    volumes_stepped i.geometry i.lsn i.shelf i.containers i.bindings i.tasks i.clones.items i.copies.items _ _ c.self.invariant change [] c.set_pairs.new.self i.containers
    (with_changed i.shelf.shelf n (λ (v : Volume Entry). record v { metadata = c.args.pairs })).volumes after.fits after.forms refl shelf is
    (uncharged d d' change [] c.self.invariant.kept.well after.fits is i.containers (λ k. refl) c.self.invariant.kept.charges)

pub returns-clause-durable : goal.returns-clause-durable
returns-clause-durable c key note of =
    let i = c.self.inside in
    let n = c.args.volume.0 in
    let change : Change = SetMetadata n key note in
    let t : TablesView = seen_tables i.lsn i.shelf i.containers i.bindings i.tasks i.clones.items i.copies.items in
    let after : ArePairsAfter t n c.args.pairs key note = subst (λ (u : TablesView). ArePairsAfter u n c.args.pairs key note) (sym c.self.view_is) of in
    ap (λ (w : ShelfView). seen_durable (i.lsn + 1) w.shelf i.containers i.bindings i.tasks i.clones.items i.copies.items) c.set_pairs.ensures
    ∙ set_seen i.lsn i.shelf.shelf i.containers i.bindings i.tasks i.clones.items i.copies.items n c.args.pairs key note after.after
    ∙ ap (λ (u : TablesView). replayed u.durable change []) c.self.view_is
