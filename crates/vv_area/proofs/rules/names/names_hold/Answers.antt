use Rattle.std.proofs.Common.{◌∙◌, subst}
use Rattle.std.specs.List.Sorted.{IsPermutation}
use Rattle.vv_area.specs.Area.{tables_of}
use Rattle.vv_area.proofs.NamesParts.{names_told}
use Rattle.vv_area.proofs.rules.names.names_hold.Goals as goal

pub returns : goal.returns
returns c =
    c.all_hold.ensures
    ∙ names_told (tables_of c.args.tables.now) c.in_ok-containers.containers c.in_ok-volumes.volumes c.in_ok-snapshots.snapshots
    (subst (λ ns. IsPermutation ns c.in_ok-containers.containers) c.in_ok-container_numbers.ensures c.in_ok-containers.ensures)
    (subst (λ ns. IsPermutation ns c.in_ok-volumes.volumes) c.in_ok-volume_numbers.ensures c.in_ok-volumes.ensures)
    (subst (λ ns. IsPermutation ns c.in_ok-snapshots.snapshots) c.in_ok-snapshot_numbers.ensures c.in_ok-snapshots.ensures)
    c.requires _ _ _ _ c.volumes_are_named.ensures c.clones_are_named.ensures c.bindings_are_named.ensures c.targets_are_named.ensures
