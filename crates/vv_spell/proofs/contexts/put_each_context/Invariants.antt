use Rattle.std.proofs.Common.{◌≡◌, ◌≤◌}
use Rattle.std.specs.List.{flat_map}
use Rattle.vv_area.specs.Spelling.{context_spelling}
use Rattle.vv_spell.specs.Window.{seen, behind}
use Rattle.vv_spell.specs.Hosts.{contexts_below}
use Rattle.vv_spell.proofs.contexts.put_each_context.Given as goal

abbrev pub invariant-loop-host : goal.invariant-loop-host
invariant-loop-host l = record {
  text : seen l.window l.into ≡ behind (seen l.fn.window l.fn.into) (flat_map context_spelling (contexts_below l.host l.tables.durable.contexts));
  from_one : 1 ≤ l.host;
}
