use Rattle.std.proofs.Common.{arith, refl}
use Rattle.vv_flat.specs.State.{Binding}
use Rattle.vv_area.specs.Spelling.{container_spelling, volume_spelling, context_spelling, binding_spelling, task_spelling}
use Rattle.vv_area.specs.Lengths.{container_length, volume_length, context_length, binding_length, task_length}
use Rattle.vv_area.proofs.AreaLengths.{length-counted, length-container, length-volume, length-context, length-binding, length-task, sum-same, runs_long}
use Rattle.vv_area.proofs.laws.sections_have_their_lengths.Goals as goal

pub returns-clause-containers : goal.returns-clause-containers
returns-clause-containers c xs = length-counted 1 container_spelling container_length length-container xs

pub returns-clause-volumes : goal.returns-clause-volumes
returns-clause-volumes c spelling xs = length-counted 2 (volume_spelling spelling) (volume_length spelling) (length-volume spelling) xs

pub returns-clause-contexts : goal.returns-clause-contexts
returns-clause-contexts c xs = length-counted 1 context_spelling context_length length-context xs

pub returns-clause-bindings : goal.returns-clause-bindings
returns-clause-bindings c xs =
    omega (arith, length-counted 2 binding_spelling (λ b. binding_length) length-binding xs, sum-same binding_length (λ (b : Binding). binding_length) (λ b. refl) xs)

pub returns-clause-tasks : goal.returns-clause-tasks
returns-clause-tasks c xs = length-counted 2 task_spelling task_length length-task xs

pub returns-clause-runs : goal.returns-clause-runs
returns-clause-runs c spelling ts clones copies h = (runs_long ts spelling clones copies h).0
