use Rattle.std.proofs.Common.{◌≡◌, length, arith}
use Rattle.vv_data.specs.Layout.{chunk_bytes}
use Rattle.vv_array.proofs.ReadChunks.{pieced_new, whole_new}
use Rattle.vv_array.proofs.writing.write_piece.Goals as goal

pub returns-then-piece-buffer-clause-new : goal.returns-then-piece-buffer-clause-new
returns-then-piece-buffer-clause-new g c =
    let d = c.args.core.now.array.durable in
    let long : length c.args.piece.now ≡ chunk_bytes d.geometry = omega (arith, c.requires.buffer) in
    whole_new c.write_place.result d c.geometry-geometry.result c.geometry-geometry.ensures c.args.chunk.volume.0 c.args.chunk.index c.args.chunk.place.0 (g.D.Disk.content c.args.disk.now) (g.D.Disk.content c.write_place.new.disk)
    c.args.at c.args.piece.now c.requires.index long c.requires.piece c.write_place.ensures.new

pub returns-clause-new : goal.returns-clause-new
returns-clause-new g c =
    let d = c.args.core.now.array.durable in
    pieced_new c.write_place-2.result d c.geometry-geometry.result c.geometry-geometry.ensures c.args.chunk.volume.0 c.args.chunk.index c.args.chunk.place.0 (g.D.Disk.content c.args.disk.now) (g.D.Disk.content c.write_place-2.new.disk)
    c.place_in_volume-from.result c.read_around.new.buffer c.args.at c.args.piece.now c.requires.index c.place_in_volume-from.ensures.place c.in_ok-read_around.ensures.bytes c.write_place-2.ensures.new
