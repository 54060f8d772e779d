use Rattle.std.proofs.Common.{rules, ◌≤◌, length, arith}
use Rattle.vv_area.specs.Lengths.{container_length}
use Rattle.vv_spell.proofs.Sums.{sum_more, sum_within, sum_all}
use Rattle.vv_spell.proofs.Fits.{sections_within}
use Rattle.vv_spell.proofs.totals.containers_len.Goals as goal

pub overflow_add-bytes : goal.overflow_add-bytes
overflow_add-bytes c =
    let d = c.args.tables.now.durable in
    let within = sum_within (container_length) d.containers c.loop-i.i in
    let section = (sections_within d).containers in
    omega (arith, within, section, c.loop-i.invariant, c.container_len_at-bytes.ensures, c.requires.fits)

pub loop-i-preserved : goal.loop-i-preserved
loop-i-preserved c =
    let more = sum_more (container_length) c.args.tables.now.durable.containers c.loop-i.i in
    omega (arith, more, c.loop-i.invariant, c.container_len_at-bytes.ensures)

pub returns : goal.returns
returns c =
    let d = c.args.tables.now.durable in
    let past : length d.containers ≤ c.loop-i.i = search rules in
    let all = sum_all (container_length) d.containers c.loop-i.i past in
    omega (arith, all, c.loop-i.invariant)
