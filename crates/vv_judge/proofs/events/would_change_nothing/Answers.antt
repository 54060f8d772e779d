use Rattle.std.proofs.Common.{List, ap, ◌∙◌}
use Rattle.vv_record.specs.declared.record.ChunkRange.{ChunkRange}
use Rattle.vv_flat.specs.Chunks.{shape_of_tables}
use Rattle.vv_flat.specs.Changes.{Unmap, changes_nothing}
use Rattle.vv_event.specs.Events.{change_of}
use Rattle.vv_judge.specs.Blocks.{range_pairs}
use Rattle.vv_judge.proofs.events.would_change_nothing.Goals as goal

pub returns-in-Write : goal.returns-in-Write
unfolding change_of
returns-in-Write c =
    rw c.in-Write.is (c.write_nothing.ensures (shape_of_tables c.args.tables.now.durable) c.in-Write.volume.0 c.in-Write.first_block)

pub returns-in-Unmap : goal.returns-in-Unmap
unfolding change_of
returns-in-Unmap c =
    rw c.in-Unmap.is (c.unmap_nothing.ensures
    ∙ ap (λ (rs : List ChunkRange). changes_nothing (shape_of_tables c.args.tables.now.durable) (Unmap c.in-Unmap.volume.0 (range_pairs rs))) c.items.ensures)
