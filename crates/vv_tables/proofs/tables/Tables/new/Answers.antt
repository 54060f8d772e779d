use Rattle.std.proofs.Common.{vec_capacity}
use Rattle.vv_tables.proofs.EmptyTables.{made_kept}
use Rattle.vv_tables.proofs.tables.Tables.new.Goals as goal

pub invariant_of-result : goal.invariant_of-result
invariant_of-result c =
    let clones = c.in-Ok-with_capacity.clones in
    let copies = c.in-Ok-with_capacity-2.copies in
    made_kept c.args.geometry c.in_ok-shelf.shelf c.in_ok-containers.containers c.in-Ok.bindings c.in_ok-tasks.tasks clones.items copies.items
    (vec_capacity clones) (vec_capacity copies) c.in-Ok-with_capacity.ensures.capacity c.in-Ok-with_capacity-2.ensures.capacity
    c.in_ok-shelf.ensures c.in_ok-containers.ensures c.in-Ok.ensures c.in_ok-tasks.ensures c.in-Ok-with_capacity.ensures.items c.in-Ok-with_capacity-2.ensures.items
