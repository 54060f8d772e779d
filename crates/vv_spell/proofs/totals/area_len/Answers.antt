use Rattle.std.proofs.Common.{arith}
use Rattle.vv_spell.proofs.Fits.{sections_length}
use Rattle.vv_spell.proofs.totals.area_len.Goals as goal

pub overflow_add-heads : goal.overflow_add-heads
overflow_add-heads c = omega (arith, sections_length c.args.tables.now.durable, c.has_length.ensures.fits, c.containers_len.ensures)

pub overflow_add-heads-2 : goal.overflow_add-heads-2
overflow_add-heads-2 c = omega (arith, sections_length c.args.tables.now.durable, c.has_length.ensures.fits, c.containers_len.ensures, c.volumes_len.ensures)

pub overflow_add-hosts : goal.overflow_add-hosts
overflow_add-hosts c = omega (arith, sections_length c.args.tables.now.durable, c.has_length.ensures.fits, c.contexts_len.ensures, c.bindings_len.ensures)

pub overflow_add-tasks : goal.overflow_add-tasks
overflow_add-tasks c = omega (arith, sections_length c.args.tables.now.durable, c.has_length.ensures.fits, c.tasks_len.ensures, c.clones_len.ensures)

pub overflow_add-tasks-2 : goal.overflow_add-tasks-2
overflow_add-tasks-2 c = omega (arith, sections_length c.args.tables.now.durable, c.has_length.ensures.fits, c.tasks_len.ensures, c.clones_len.ensures, c.copies_len.ensures)

pub overflow_add-result : goal.overflow_add-result
overflow_add-result c = omega (arith, sections_length c.args.tables.now.durable, c.has_length.ensures.fits, c.containers_len.ensures, c.volumes_len.ensures, c.contexts_len.ensures, c.bindings_len.ensures)

pub overflow_add-result-2 : goal.overflow_add-result-2
overflow_add-result-2 c = omega (arith, sections_length c.args.tables.now.durable, c.has_length.ensures.fits, c.containers_len.ensures, c.volumes_len.ensures, c.contexts_len.ensures, c.bindings_len.ensures, c.tasks_len.ensures, c.clones_len.ensures, c.copies_len.ensures)

pub returns : goal.returns
returns c = omega (arith, sections_length c.args.tables.now.durable, c.containers_len.ensures, c.volumes_len.ensures, c.contexts_len.ensures, c.bindings_len.ensures, c.tasks_len.ensures, c.clones_len.ensures, c.copies_len.ensures)
