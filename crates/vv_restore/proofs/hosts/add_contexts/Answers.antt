use Rattle.std.proofs.Common.{◌≡◌, ◌+◌, true, List, ◌∷◌, ◌++◌, take, drop, sym, ap, subst}
use Rattle.std.specs.Prelude.{nat_lt}
use Rattle.std.specs.List.{list_all}
use Rattle.vv_flat.specs.State.{Context, Durable}
use Rattle.vv_flat.specs.Chunks.{Entry}
use Rattle.vv_area.specs.Area.{tables_of}
use Rattle.vv_tables.proofs.RestoredOrder.{context_above}
use Rattle.vv_restore.proofs.ListedItems.{listed_row}
use Rattle.vv_restore.proofs.ListedHosts.{context_host, context_few, context_different, context_not_zero}
use Rattle.vv_restore.proofs.hosts.add_contexts.Goals as goal

pub add_context-requires : goal.add_context-requires
add_context-requires c =
    let d : Durable Entry = tables_of c.args.raw.now in
    let well = c.requires.well in
    let i = c.loop-row.row-index in
    let k : Context = c.row-item.result in
    let front : List Context = take i d.contexts in
    let back : List Context = drop (i + 1) d.contexts in
    let is : d.contexts ≡ front ++ k ∷ back =
    listed_row d.contexts c.items-row-items.result.now i k c.items-row-items.ensures c.loop-row-test.true c.row-item.is in
    let ahead : front ≡ c.loop-row.restored.contexts = sym (ap (λ (r : Durable Entry). r.contexts) c.loop-row.invariant) in
    record {
      host = context_host d well front k back is;
      above = subst (λ (ks : List Context). list_all (λ (l : Context). nat_lt l.host k.host) ks ≡ true) ahead (context_above d well front k back is);
      few = context_few d well front k back is;
      different = context_different d well front k back is;
      not_zero = context_not_zero d well front k back is;
      unbound = ap (λ (r : Durable Entry). r.bindings) c.loop-row.invariant;
    }
