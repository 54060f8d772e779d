use Rattle.std.proofs.Common.{◌∷◌, [], ◌∙◌}
use Rattle.vv_disk.proofs.Moments.{goes_on}
use Rattle.vv_array.specs.ChunkBytes.{ChangedAt}
use Rattle.vv_array.proofs.WrittenChunks.{told_put, new_put, changed_within, begun_at}
use Rattle.vv_array.proofs.chunks.write_place.Goals as goal

pub returns-clause-new : goal.returns-clause-new
returns-clause-new g c =
    new_put c.args.geometry c.write_chunk.result c.args.place c.args.bytes.now (g.D.Disk.content c.args.disk.now) (g.D.Disk.content c.write_chunk.new.disk) c.requires.chunk c.requires.place
    (λ content told. g.met.D.Disk.content_fits c.args.disk.now content told ∙ c.requires.disk) c.write_chunk.ensures.ok

pub returns-clause-told : goal.returns-clause-told
returns-clause-told g c =
    told_put c.args.geometry c.write_chunk.result c.args.place c.args.bytes.now (g.D.Disk.content c.args.disk.now) (g.D.Disk.content c.write_chunk.new.disk) c.requires.chunk c.write_chunk.ensures.ok c.write_chunk.ensures.err

pub returns-clause-each : goal.returns-clause-each
returns-clause-each g c = λ honest image left.
    changed_within c.args.geometry c.args.place (g.D.Disk.is_image c.args.disk.now) image (c.write_chunk.ensures.images honest image left)

pub returns-clause-any_moment : goal.returns-clause-any_moment
returns-clause-any_moment g c = λ honest.
    let images = g.D.Disk.is_image c.args.disk.now in
    let at_start = begun_at c.args.geometry g.D.Disk.moment g.D.Disk.left_since c.args.disk.now (c.args.place.0 ∷ []) images (λ image left. g.met.D.Disk.only_now c.args.disk.now image left) in
    goes_on g.D.Disk.moment g.D.Disk.left_since c.args.disk.now c.args.disk.now c.write_chunk.new.disk (ChangedAt c.args.geometry (c.args.place.0 ∷ []) images) _ at_start c.write_chunk.ensures.time
    (λ image left. changed_within c.args.geometry c.args.place images image (c.write_chunk.ensures.images honest image left))
