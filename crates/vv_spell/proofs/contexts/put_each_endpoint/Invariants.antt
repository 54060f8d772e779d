use Rattle.std.proofs.Common.{◌≡◌, take}
use Rattle.std.specs.List.{flat_map}
use Rattle.vv_record.specs.Spelling.{endpoint_spelling}
use Rattle.vv_spell.specs.Window.{seen, behind}
use Rattle.vv_spell.proofs.contexts.put_each_endpoint.Given as goal

abbrev pub invariant-loop-endpoint : goal.invariant-loop-endpoint
invariant-loop-endpoint l = seen l.window l.into ≡ behind (seen l.fn.window l.fn.into) (flat_map endpoint_spelling (take l.endpoint-index l.endpoints))
