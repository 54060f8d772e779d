use Rattle.std.proofs.Common.{◌≡◌, ◌≤◌}
use Rattle.vv_area.specs.Lengths.{contexts_length}
use Rattle.vv_spell.specs.Hosts.{contexts_below}
use Rattle.vv_spell.proofs.totals.contexts_len.Given as goal

abbrev pub invariant-loop-host : goal.invariant-loop-host
invariant-loop-host l = record {
  counted : l.bytes ≡ contexts_length (contexts_below l.host l.tables.durable.contexts);
  from_one : 1 ≤ l.host;
}
