use Rattle.std.proofs.Common.{◌≡◌, ap, arith}
use Rattle.std.specs.Prelude.{slice_get}
use Rattle.vv_flat.specs.State.{RunningClone}
use Rattle.vv_flat.specs.Chunks.{Entry}
use Rattle.vv_area.specs.Lengths.{needs_length}
use Rattle.vv_spell.specs.Runs.{full_clone}
use Rattle.vv_spell.proofs.Fits.{clone_within}
use Rattle.vv_spell.proofs.Found.{found_length}
use Rattle.vv_spell.proofs.Running.{clone_is}
use Rattle.vv_spell.proofs.runs.clone_len_at.Goals as goal

pub needs_len-requires : goal.needs_len-requires
needs_len-requires c =
    let d = c.args.tables.now.durable in
    let k : RunningClone Entry = full_clone d c.args.i c.in-Some.field-0-0.0 c.in-Some.head.now in
    let within = clone_within d c.args.i k (clone_is d c.args.i c.in-Some.field-0-0.0 c.in-Some.head.now c.in-Some.ensures) in
    let same : needs_length c.items.result.now ≡ needs_length c.in-Some.head.now.needs = ap needs_length c.items.ensures in
    let image = found_length (λ (k : RunningClone Entry). k.image) (slice_get d.clones c.args.i) in
    let target = found_length (λ (k : RunningClone Entry). k.target) (slice_get d.clones c.args.i) in
    omega (arith, c.requires.fits, same, within)

pub overflow_add-result : goal.overflow_add-result
overflow_add-result c =
    let d = c.args.tables.now.durable in
    let k : RunningClone Entry = full_clone d c.args.i c.in-Some.field-0-0.0 c.in-Some.head.now in
    let within = clone_within d c.args.i k (clone_is d c.args.i c.in-Some.field-0-0.0 c.in-Some.head.now c.in-Some.ensures) in
    let same : needs_length c.items.result.now ≡ needs_length c.in-Some.head.now.needs = ap needs_length c.items.ensures in
    let image = found_length (λ (k : RunningClone Entry). k.image) (slice_get d.clones c.args.i) in
    let target = found_length (λ (k : RunningClone Entry). k.target) (slice_get d.clones c.args.i) in
    omega (arith, c.requires.fits, same, within, c.needs_len.ensures)

pub pairs_len-requires : goal.pairs_len-requires
pairs_len-requires c =
    let d = c.args.tables.now.durable in
    let k : RunningClone Entry = full_clone d c.args.i c.in-Some.field-0-0.0 c.in-Some.head.now in
    let within = clone_within d c.args.i k (clone_is d c.args.i c.in-Some.field-0-0.0 c.in-Some.head.now c.in-Some.ensures) in
    let same : needs_length c.items.result.now ≡ needs_length c.in-Some.head.now.needs = ap needs_length c.items.ensures in
    let image = found_length (λ (k : RunningClone Entry). k.image) (slice_get d.clones c.args.i) in
    let target = found_length (λ (k : RunningClone Entry). k.target) (slice_get d.clones c.args.i) in
    omega (arith, c.requires.fits, same, within)

pub overflow_add-result-in-Some : goal.overflow_add-result-in-Some
overflow_add-result-in-Some c =
    let d = c.args.tables.now.durable in
    let k : RunningClone Entry = full_clone d c.args.i c.in-Some.field-0-0.0 c.in-Some.head.now in
    let within = clone_within d c.args.i k (clone_is d c.args.i c.in-Some.field-0-0.0 c.in-Some.head.now c.in-Some.ensures) in
    let same : needs_length c.items.result.now ≡ needs_length c.in-Some.head.now.needs = ap needs_length c.items.ensures in
    let image = found_length (λ (k : RunningClone Entry). k.image) (slice_get d.clones c.args.i) in
    let target = found_length (λ (k : RunningClone Entry). k.target) (slice_get d.clones c.args.i) in
    omega (arith, c.requires.fits, same, within, c.needs_len.ensures, c.pairs_len.ensures)

pub overflow_add-result-in-Some-2 : goal.overflow_add-result-in-Some-2
overflow_add-result-in-Some-2 c =
    let d = c.args.tables.now.durable in
    let k : RunningClone Entry = full_clone d c.args.i c.in-Some.field-0-0.0 c.in-Some.head.now in
    let within = clone_within d c.args.i k (clone_is d c.args.i c.in-Some.field-0-0.0 c.in-Some.head.now c.in-Some.ensures) in
    let same : needs_length c.items.result.now ≡ needs_length c.in-Some.head.now.needs = ap needs_length c.items.ensures in
    let image = found_length (λ (k : RunningClone Entry). k.image) (slice_get d.clones c.args.i) in
    let target = found_length (λ (k : RunningClone Entry). k.target) (slice_get d.clones c.args.i) in
    omega (arith, c.requires.fits, same, within, c.needs_len.ensures, c.pairs_len.ensures, image, c.image_len_at-image.ensures)

pub overflow_add-result-in-Some-3 : goal.overflow_add-result-in-Some-3
overflow_add-result-in-Some-3 c =
    let d = c.args.tables.now.durable in
    let k : RunningClone Entry = full_clone d c.args.i c.in-Some.field-0-0.0 c.in-Some.head.now in
    let within = clone_within d c.args.i k (clone_is d c.args.i c.in-Some.field-0-0.0 c.in-Some.head.now c.in-Some.ensures) in
    let same : needs_length c.items.result.now ≡ needs_length c.in-Some.head.now.needs = ap needs_length c.items.ensures in
    let image = found_length (λ (k : RunningClone Entry). k.image) (slice_get d.clones c.args.i) in
    let target = found_length (λ (k : RunningClone Entry). k.target) (slice_get d.clones c.args.i) in
    omega (arith, c.requires.fits, same, within, c.needs_len.ensures, c.pairs_len.ensures, image, c.image_len_at-image.ensures, target, c.target_len_at-target.ensures)
