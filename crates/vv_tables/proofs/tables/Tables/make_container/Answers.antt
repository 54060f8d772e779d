use Rattle.std.proofs.Common.{◌≡◌, ◌+◌, [], List, true, refl, sym, ap, subst, ◌∙◌, arith}
use Rattle.vv_flat.specs.State.{Durable}
use Rattle.vv_flat.specs.Chunks.{Entry}
use Rattle.vv_flat.specs.Changes.{MakeContainer}
use Rattle.vv_flat.specs.Replay.{fits, replayed}
use Rattle.vv_container.specs.Table.{ChargedContainer}
use Rattle.vv_tables.specs.Seen.{TablesView, seen_durable}
use Rattle.vv_tables.specs.Kept.{AreCharged}
use Rattle.vv_tables.proofs.NextNumber.{more_to_come}
use Rattle.vv_tables.proofs.NewContainers.{above_rows, few_rows, made_charged, made_last, forms}
use Rattle.vv_tables.proofs.Stepped.{stepped_well, same_reserved}
use Rattle.vv_tables.proofs.tables.Tables.make_container.Goals as goal

pub overflow_add-self : goal.overflow_add-self
overflow_add-self c =
    let i = c.self.inside in
    let k = c.args.container in
    let d : Durable Entry = seen_durable i.lsn i.shelf.shelf i.containers i.bindings i.tasks i.clones.items i.copies.items in
    let fit : fits d (MakeContainer k.quota k.offered) [] ≡ true = ap (λ (t : TablesView). fits t.durable (MakeContainer k.quota k.offered) []) c.self.view_is ∙ c.requires.fits in
    omega (arith, more_to_come d (MakeContainer k.quota k.offered) [] fit)

pub add-requires-clause-room : goal.add-requires-clause-room
add-requires-clause-room c =
    let i = c.self.inside in
    let k = c.args.container in
    let d : Durable Entry = seen_durable i.lsn i.shelf.shelf i.containers i.bindings i.tasks i.clones.items i.copies.items in
    let fit : fits d (MakeContainer k.quota k.offered) [] ≡ true = ap (λ (t : TablesView). fits t.durable (MakeContainer k.quota k.offered) []) c.self.view_is ∙ c.requires.fits in
    few_rows d i.containers k.quota k.offered refl c.self.invariant.kept.well fit

pub add-requires-clause-above : goal.add-requires-clause-above
add-requires-clause-above c =
    let i = c.self.inside in
    let k = c.args.container in
    let d : Durable Entry = seen_durable i.lsn i.shelf.shelf i.containers i.bindings i.tasks i.clones.items i.copies.items in
    let fit : fits d (MakeContainer k.quota k.offered) [] ≡ true = ap (λ (t : TablesView). fits t.durable (MakeContainer k.quota k.offered) []) c.self.view_is ∙ c.requires.fits in
    above_rows d i.containers k.quota k.offered refl c.self.invariant.kept.well fit

pub invariant_of-self : goal.invariant_of-self
invariant_of-self c =
    let i = c.self.inside in
    let k = c.args.container in
    let d : Durable Entry = seen_durable i.lsn i.shelf.shelf i.containers i.bindings i.tasks i.clones.items i.copies.items in
    let fit : fits d (MakeContainer k.quota k.offered) [] ≡ true = ap (λ (t : TablesView). fits t.durable (MakeContainer k.quota k.offered) []) c.self.view_is ∙ c.requires.fits in
    let d' : Durable Entry = seen_durable (i.lsn + 1) i.shelf.shelf c.add.new.self i.bindings i.tasks i.clones.items i.copies.items in
    let is : d' ≡ replayed d (MakeContainer k.quota k.offered) [] =
    ap (λ (rows : List ChargedContainer). seen_durable (i.lsn + 1) i.shelf.shelf rows i.bindings i.tasks i.clones.items i.copies.items) c.add.ensures
    ∙ made_last d i.containers k.quota 0 k.offered refl c.self.invariant.kept.well in
    record {
      geometry_is = c.self.invariant.geometry_is;
      kept = stepped_well d d' (MakeContainer k.quota k.offered) [] c.self.invariant.kept.well fit is i.shelf.shelf c.add.new.self (forms k.quota k.offered k.forms)
          (subst (λ (rows : List ChargedContainer). AreCharged d' rows) (sym c.add.ensures)
          (made_charged d i.containers k.quota k.offered refl c.self.invariant.kept.well fit d' is c.self.invariant.kept.charges))
          (same_reserved d d' (MakeContainer k.quota k.offered) [] c.self.invariant.kept.well fit is i.shelf.shelf refl c.self.invariant.kept.reserved)
          c.self.invariant.kept.fresh;
      held = c.self.invariant.held;
      clone_rows = c.self.invariant.clone_rows;
      copy_rows = c.self.invariant.copy_rows;
    }

pub returns-clause-durable : goal.returns-clause-durable
returns-clause-durable c =
    let i = c.self.inside in
    let k = c.args.container in
    let d : Durable Entry = seen_durable i.lsn i.shelf.shelf i.containers i.bindings i.tasks i.clones.items i.copies.items in
    ap (λ (rows : List ChargedContainer). seen_durable (i.lsn + 1) i.shelf.shelf rows i.bindings i.tasks i.clones.items i.copies.items) c.add.ensures
    ∙ made_last d i.containers k.quota 0 k.offered refl c.self.invariant.kept.well
    ∙ ap (λ (t : TablesView). replayed t.durable (MakeContainer k.quota k.offered) []) c.self.view_is
