use Rattle.std.proofs.Common.{◌≡◌, ◌+◌, ◌<◌, ◌==◌, true, List, ◌∷◌, ◌++◌, length, take, drop, None, sym, ap, subst}
use Rattle.std.specs.List.{list_all, list_any}
use Rattle.vv_flat.specs.State.{Context, Binding, Durable}
use Rattle.vv_flat.specs.Chunks.{Entry}
use Rattle.vv_flat.specs.Bindings.{endpoints_of, binding_of, is_below}
use Rattle.vv_area.specs.Area.{tables_of}
use Rattle.vv_restore.proofs.ListedItems.{listed_row}
use Rattle.vv_restore.proofs.ListedHosts.{binding_host, binding_room, binding_above, binding_listed, binding_secondary, binding_count, binding_alone}
use Rattle.vv_restore.proofs.hosts.add_bindings.Goals as goal

pub add_binding-requires : goal.add_binding-requires
add_binding-requires c =
    let d : Durable Entry = tables_of c.args.raw.now in
    let well = c.requires.well in
    let i = c.loop-row.row-index in
    let b : Binding = c.row-item.result in
    let front : List Binding = take i d.bindings in
    let back : List Binding = drop (i + 1) d.bindings in
    let is : d.bindings ≡ front ++ b ∷ back =
    listed_row d.bindings c.items-row-items.result.now i b c.items-row-items.ensures c.loop-row-test.true c.row-item.is in
    let ahead : front ≡ c.loop-row.restored.bindings = sym (ap (λ (r : Durable Entry). r.bindings) c.loop-row.invariant) in
    let contexts : d.contexts ≡ c.loop-row.restored.contexts = sym (ap (λ (r : Durable Entry). r.contexts) c.loop-row.invariant) in
    record {
      host = binding_host d well front b back is;
      room = subst (λ (bs : List Binding). length bs < 1024) ahead (binding_room d well front b back is);
      above = subst (λ (bs : List Binding). list_all (λ (a : Binding). is_below a.address b.address) bs ≡ true) ahead (binding_above d well front b back is);
      listed = subst (λ (cs : List Context). list_any (λ e. e == b.address.endpoint) (endpoints_of cs b.address.host) ≡ true) contexts (binding_listed d well front b back is);
      secondary = binding_secondary d well front b back is;
      count = binding_count d well front b back is;
      unbound = subst (λ (bs : List Binding). binding_of bs b.address.host b.volume ≡ None) ahead (binding_alone d well front b back is);
    }
