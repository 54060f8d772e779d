use Rattle.std.proofs.Common.{◌∙◌, ◌≡◌, ◌+◌, sym, ap, arith}
use Rattle.vv_flat.specs.Bindings.{without_host, host_bindings}
use Rattle.vv_bind.proofs.RowLemmas.{out_rest, out_count, out_none}
use Rattle.vv_bind.proofs.rows.take_out.Goals as goal

pub loop-at-preserved : goal.loop-at-preserved
loop-at-preserved c =
    let bs = c.loop-at.bindings.items in
    let host = c.args.host.0 in
    let less = out_count bs c.deref.result.now host c.in-Some.at c.deref.ensures.value c.in-Some.ensures in
    let count : host_bindings c.remove.new.self.items host + 1 ≡ host_bindings bs host =
    ap (λ xs. host_bindings xs host + 1) c.remove.ensures.items ∙ less
    in
    record {
      rest = ap (λ xs. without_host xs host) c.remove.ensures.items
          ∙ out_rest bs c.deref.result.now host c.in-Some.at c.deref.ensures.value c.in-Some.ensures
          ∙ c.loop-at.invariant.rest;
      count = omega arith;
      capacity = c.remove.ensures.capacity ∙ c.loop-at.invariant.capacity;
    }

pub returns-clause-count : goal.returns-clause-count
returns-clause-count c =
    let out = out_none c.loop-at.bindings.items c.deref.result.now c.args.host.0 c.place_of_host.result c.deref.ensures.value c.place_of_host.ensures c.in_default.is in
    let none : host_bindings c.loop-at.bindings.items c.args.host.0 ≡ 0 = out.1 in
    let count = c.loop-at.invariant.count in
    omega arith

pub returns-clause-items : goal.returns-clause-items
returns-clause-items c =
    let out = out_none c.loop-at.bindings.items c.deref.result.now c.args.host.0 c.place_of_host.result c.deref.ensures.value c.place_of_host.ensures c.in_default.is in
    sym (out.0) ∙ c.loop-at.invariant.rest
