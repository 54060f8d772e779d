use Rattle.std.proofs.Common.{◌≡◌, ◌↔◌, ◌+◌, ◌*◌, ℕ, List, map}
use Rattle.vv_units.specs.Sizes.{block_bytes}
use Rattle.vv_units.specs.declared.numbers.Place.{Place}
use Rattle.vv_disk.specs.Images.{EachImage, LeavesOnly}
use Rattle.vv_data.specs.Layout.{chunk_bytes}
use Rattle.vv_flat.specs.Chunks.{touched_first, touched_indexes}
use Rattle.vv_flat.specs.Parts.{chunk_start, part_written}
use Rattle.vv_array.specs.Chunks.{ToldAt}
use Rattle.vv_array.specs.ChunkBytes.{volume_chunk, ChangedAt}
use Rattle.vv_array.proofs.ChunkValues.{Fronts}
use Rattle.vv_array.proofs.writing.write_blocks.Given as goal

abbrev pub invariant-loop-place : goal.invariant-loop-place
invariant-loop-place g l =
    let disk = g.D.Disk in
    let d = l.core.array.durable in
    let places : List ℕ = map (λ (p : Place). p.0) l.places in
    record {
      index : l.index ≡ touched_first d.geometry.chunk_blocks l.first + l.place-index;
      len : disk.size l.disk ≡ disk.size l.fn.disk;
      honesty : disk.is_honest l.disk ↔ disk.is_honest l.fn.disk;
      reads : disk.read_faults l.disk ≡ disk.read_faults l.fn.disk;
      writes : disk.write_faults l.disk ≡ disk.write_faults l.fn.disk;
      told : ToldAt d.geometry places (disk.content l.fn.disk) (disk.content l.disk);
      each : disk.is_honest l.fn.disk → EachImage (ChangedAt d.geometry places (disk.is_image l.fn.disk)) (disk.is_image l.disk);
      any_moment : disk.is_honest l.fn.disk → LeavesOnly disk.moment disk.left_since l.fn.disk l.disk (ChangedAt d.geometry places (disk.is_image l.fn.disk));
      new : Fronts d places (touched_indexes d.geometry.chunk_blocks l.first l.fn.blocks)
          (λ flat i. part_written (chunk_bytes d.geometry) (chunk_start d.geometry.chunk_blocks i) (l.first * block_bytes) l.bytes (volume_chunk flat l.volume.0 i))
          (disk.content l.fn.disk) (disk.content l.disk) l.place-index;
    }
