use Rattle.std.proofs.Common.{◌≡◌, ◌+◌, vec_len, vec_capacity}
use Rattle.vv_flat.specs.Bindings.{without_host, host_bindings}
use Rattle.vv_bind.proofs.rows.take_out.Given as goal

abbrev pub invariant-loop-at : goal.invariant-loop-at
invariant-loop-at l = record {
  rest : without_host l.bindings.items l.host.0 ≡ without_host l.initial.bindings.items l.host.0;
  count : l.removed + host_bindings l.bindings.items l.host.0 ≡ host_bindings l.initial.bindings.items l.host.0;
  capacity : vec_capacity l.bindings ≡ vec_capacity l.initial.bindings;
}

abbrev pub decreases-loop-at : goal.decreases-loop-at
decreases-loop-at l = vec_len l.bindings
