use Rattle.std.proofs.Common.{◌≡◌, ◌+◌, ap, ◌∙◌, arith}
use Rattle.vv_flat.specs.Space.{pair_count}
use Rattle.vv_tables.specs.Counts.{volume_pairs, clone_pairs}
use Rattle.vv_tables.specs.Seen.{TablesView}
use Rattle.vv_tables.proofs.Limits.{seen_volumes_few, seen_pairs_few, clone_pairs_are}
use Rattle.vv_tables.proofs.tables.Tables.pair_count.Goals as goal

pub pairs_of_volumes-requires-clause-few : goal.pairs_of_volumes-requires-clause-few
pairs_of_volumes-requires-clause-few c =
    let i = c.self.inside in
    omega (arith, seen_volumes_few i.lsn i.shelf.shelf i.containers i.bindings i.tasks i.clones.items i.copies.items c.self.invariant.kept.well)

pub pairs_of_volumes-requires-clause-fits : goal.pairs_of_volumes-requires-clause-fits
pairs_of_volumes-requires-clause-fits c =
    let i = c.self.inside in
    omega (arith, seen_pairs_few i.lsn i.shelf.shelf i.containers i.bindings i.tasks i.clones.items i.copies.items c.self.invariant.kept.well)

pub pairs_of_clones-requires : goal.pairs_of_clones-requires
pairs_of_clones-requires c =
    let i = c.self.inside in
    let same : clone_pairs c.deref.result.now ≡ clone_pairs i.clones.items = ap clone_pairs c.deref.ensures.value in
    omega (arith, same, seen_pairs_few i.lsn i.shelf.shelf i.containers i.bindings i.tasks i.clones.items i.copies.items c.self.invariant.kept.well)

pub overflow_add-result : goal.overflow_add-result
overflow_add-result c =
    let i = c.self.inside in
    let same : clone_pairs c.deref.result.now ≡ clone_pairs i.clones.items = ap clone_pairs c.deref.ensures.value in
    omega (arith, same, c.pairs_of_volumes.ensures, c.pairs_of_clones.ensures, seen_pairs_few i.lsn i.shelf.shelf i.containers i.bindings i.tasks i.clones.items i.copies.items c.self.invariant.kept.well)

pub returns : goal.returns
returns c =
    let i = c.self.inside in
    ap (λ n. n + c.pairs_of_clones.result) c.pairs_of_volumes.ensures
    ∙ ap (λ n. volume_pairs i.shelf.shelf.volumes + n) (c.pairs_of_clones.ensures ∙ ap clone_pairs c.deref.ensures.value ∙ clone_pairs_are i.lsn i.shelf.shelf i.containers i.bindings i.tasks i.clones.items i.copies.items c.self.invariant.kept.well)
    ∙ ap (λ (t : TablesView). pair_count t.durable) c.self.view_is
