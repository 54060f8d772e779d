use Rattle.std.proofs.Common.{◌≡◌, List, ℕ, length, subst, IfSome, ◌∙◌, take, drop, ◌++◌, ◌+◌, ◌-◌}
use Rattle.vv_disk.specs.Images.{bytes_at}
use Rattle.vv_data.specs.Layout.{chunk_bytes}
use Rattle.vv_array.specs.ChunkBytes.{place_number, stored}
use Rattle.vv_array.proofs.ReadChunks.{told_around, stored_long}
use Rattle.vv_array.proofs.chunks.read_around.Goals as goal

pub returns-clause-bytes : goal.returns-clause-bytes
returns-clause-bytes g c =
    let told = g.D.Disk.content c.args.disk.now in
    let chunk : List ℕ → List ℕ = λ content. stored c.args.geometry content (place_number c.args.place) in
    let back : List ℕ = c.read_stored-2.new.into in
    let end : ℕ = c.args.at + length c.args.piece.now in
    let first : List ℕ = c.read_stored.new.into ++ drop c.args.at c.args.buffer.now in
    let second : List ℕ = take c.args.at first ++ (c.copy_from_slice.new.self ++ drop (end - c.args.at) (drop c.args.at first)) in
    let later : IfSome (g.D.Disk.content c.read_stored.new.disk) (λ content. back ≡ bytes_at end (length (take (length second - end) (drop end second))) (chunk content)) = c.in_ok-read_stored-2.ensures.bytes in
    told_around told chunk (chunk_bytes c.args.geometry) c.args.at c.args.buffer.now c.read_stored.new.into c.copy_from_slice.new.self back c.args.piece.now
    c.requires.buffer (λ content is. stored_long c.args.geometry content c.args.place (g.met.D.Disk.content_fits c.args.disk.now content is ∙ c.requires.disk) c.requires.place)
    c.requires.piece c.in_ok-read_stored.ensures.bytes c.copy_from_slice.ensures.after
    (subst (λ t. IfSome t (λ content. back ≡ bytes_at end (length (take (length second - end) (drop end second))) (chunk content))) c.read_stored.ensures.content later)
