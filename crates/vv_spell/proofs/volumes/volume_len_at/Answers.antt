use Rattle.std.proofs.Common.{◌≡◌, ap, arith}
use Rattle.vv_flat.specs.State.{Volume}
use Rattle.vv_flat.specs.Chunks.{Entry}
use Rattle.vv_vols.specs.Rows.{volume_with}
use Rattle.vv_tables.specs.Places.{chunks_at}
use Rattle.vv_area.specs.Lengths.{needs_length}
use Rattle.vv_spell.proofs.Fits.{volume_within}
use Rattle.vv_spell.proofs.Heads.{volume_is}
use Rattle.vv_spell.proofs.volumes.volume_len_at.Goals as goal

pub needs_len-requires : goal.needs_len-requires
needs_len-requires c =
    let d = c.args.tables.now.durable in
    let v : Volume Entry = volume_with c.in-Some.field-0-0.0 c.in-Some.head.now (chunks_at d c.args.i) in
    let within = volume_within d c.args.i v (volume_is d c.args.i c.in-Some.field-0-0.0 c.in-Some.head.now c.in-Some.ensures) in
    let same : needs_length c.items.result.now ≡ needs_length c.in-Some.head.now.needs = ap needs_length c.items.ensures in
    omega (arith, c.requires.fits, same, within)

pub overflow_add-result : goal.overflow_add-result
overflow_add-result c =
    let d = c.args.tables.now.durable in
    let v : Volume Entry = volume_with c.in-Some.field-0-0.0 c.in-Some.head.now (chunks_at d c.args.i) in
    let within = volume_within d c.args.i v (volume_is d c.args.i c.in-Some.field-0-0.0 c.in-Some.head.now c.in-Some.ensures) in
    let same : needs_length c.items.result.now ≡ needs_length c.in-Some.head.now.needs = ap needs_length c.items.ensures in
    omega (arith, c.requires.fits, same, within, c.needs_len.ensures)

pub pairs_len-requires : goal.pairs_len-requires
pairs_len-requires c =
    let d = c.args.tables.now.durable in
    let v : Volume Entry = volume_with c.in-Some.field-0-0.0 c.in-Some.head.now (chunks_at d c.args.i) in
    let within = volume_within d c.args.i v (volume_is d c.args.i c.in-Some.field-0-0.0 c.in-Some.head.now c.in-Some.ensures) in
    let same : needs_length c.items.result.now ≡ needs_length c.in-Some.head.now.needs = ap needs_length c.items.ensures in
    omega (arith, c.requires.fits, same, within)

pub overflow_add-result-in-Some : goal.overflow_add-result-in-Some
overflow_add-result-in-Some c =
    let d = c.args.tables.now.durable in
    let v : Volume Entry = volume_with c.in-Some.field-0-0.0 c.in-Some.head.now (chunks_at d c.args.i) in
    let within = volume_within d c.args.i v (volume_is d c.args.i c.in-Some.field-0-0.0 c.in-Some.head.now c.in-Some.ensures) in
    let same : needs_length c.items.result.now ≡ needs_length c.in-Some.head.now.needs = ap needs_length c.items.ensures in
    omega (arith, c.requires.fits, same, within, c.needs_len.ensures, c.pairs_len.ensures)

pub overflow_add-result-in-Some-2 : goal.overflow_add-result-in-Some-2
overflow_add-result-in-Some-2 c =
    let d = c.args.tables.now.durable in
    let v : Volume Entry = volume_with c.in-Some.field-0-0.0 c.in-Some.head.now (chunks_at d c.args.i) in
    let within = volume_within d c.args.i v (volume_is d c.args.i c.in-Some.field-0-0.0 c.in-Some.head.now c.in-Some.ensures) in
    let same : needs_length c.items.result.now ≡ needs_length c.in-Some.head.now.needs = ap needs_length c.items.ensures in
    omega (arith, c.requires.fits, same, within, c.needs_len.ensures, c.pairs_len.ensures, c.chunk_count_at-chunks.ensures)
