use Rattle.std.proofs.Common.{rules, ◌≤◌, length, arith}
use Rattle.vv_area.specs.Lengths.{clone_length}
use Rattle.vv_tables.proofs.Limits.{formed, rows_run}
use Rattle.vv_spell.proofs.Sums.{sum_more, sum_within, sum_all}
use Rattle.vv_spell.proofs.Fits.{sections_within}
use Rattle.vv_spell.proofs.totals.clones_len.Goals as goal

pub overflow_add-bytes : goal.overflow_add-bytes
overflow_add-bytes c =
    let d = c.args.tables.now.durable in
    let within = sum_within (clone_length) d.clones c.loop-i.i in
    let section = (sections_within d).runs in
    omega (arith, within, section, c.loop-i.invariant, c.clone_len_at-bytes.ensures, c.requires.fits)

pub loop-i-preserved : goal.loop-i-preserved
loop-i-preserved c =
    let more = sum_more (clone_length) c.args.tables.now.durable.clones c.loop-i.i in
    omega (arith, more, c.loop-i.invariant, c.clone_len_at-bytes.ensures)

pub returns : goal.returns
returns c =
    let d = c.args.tables.now.durable in
    let rows = rows_run d (formed d c.lsn-well_formed.ensures.well) in
    let past : length d.clones ≤ c.loop-i.i = search (rules, rows, c.running_count-i-end.ensures) in
    let all = sum_all (clone_length) d.clones c.loop-i.i past in
    omega (arith, all, c.loop-i.invariant)
