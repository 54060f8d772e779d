use Rattle.std.proofs.Common.{◌≡◌, ◌+◌, ◌<◌, true, List, ◌∷◌, ◌++◌, length, take, drop, sym, ap, subst}
use Rattle.std.specs.Prelude.{nat_lt}
use Rattle.std.specs.List.{list_all}
use Rattle.vv_flat.specs.State.{Container, Durable}
use Rattle.vv_flat.specs.Chunks.{Entry}
use Rattle.vv_area.specs.Area.{tables_of}
use Rattle.vv_tables.proofs.RestoredOrder.{container_above}
use Rattle.vv_restore.proofs.ListedItems.{listed_row}
use Rattle.vv_restore.proofs.ListedContainers.{container_room, container_forms}
use Rattle.vv_restore.proofs.containers.add_containers.Goals as goal

pub add_container-requires : goal.add_container-requires
add_container-requires c =
    let d : Durable Entry = tables_of c.args.raw.now in
    let well = c.requires.well in
    let i = c.loop-row.row-index in
    let k : Container = c.row-item.result in
    let front : List Container = take i d.containers in
    let back : List Container = drop (i + 1) d.containers in
    let is : d.containers ≡ front ++ k ∷ back =
    listed_row d.containers c.items-row-items.result.now i k c.items-row-items.ensures c.loop-row-test.true c.row-item.is in
    let ahead : front ≡ c.loop-row.restored.containers = sym (ap (λ (r : Durable Entry). r.containers) c.loop-row.invariant) in
    record {
      room = subst (λ (ks : List Container). length ks < 32) ahead (container_room d well front k back is);
      above = subst (λ (ks : List Container). list_all (λ (l : Container). nat_lt l.number k.number) ks ≡ true) ahead (container_above d well front k back is);
      forms = container_forms d well front k back is;
    }
