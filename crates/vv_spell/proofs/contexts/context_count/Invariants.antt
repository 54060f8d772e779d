use Rattle.std.proofs.Common.{◌≡◌, ◌≤◌, length}
use Rattle.vv_spell.specs.Hosts.{contexts_below}
use Rattle.vv_spell.proofs.contexts.context_count.Given as goal

abbrev pub invariant-loop-host : goal.invariant-loop-host
invariant-loop-host l = record {
  counted : l.count ≡ length (contexts_below l.host l.tables.durable.contexts);
  few : l.count ≤ l.host;
  from_one : 1 ≤ l.host;
}
