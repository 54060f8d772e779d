use Rattle.std.proofs.Common.{◌≡◌, ◌<◌, length, sym, ◌∙◌, arith}
use Rattle.std.proofs.lemmas.List.{length-map}
use Rattle.vv_units.specs.declared.numbers.EndpointId.{EndpointId}
use Rattle.vv_bind.specs.Table.{numbers}
use Rattle.vv_tables.proofs.HostLists.{goes_on, stops, number_at}
use Rattle.vv_tables.proofs.questions_for_judge.are_same.Goals as goal

pub returns-then-endpoint-others : goal.returns-then-endpoint-others
returns-then-endpoint-others c =
    let le : length (numbers c.args.endpoints.now) ≡ length c.args.endpoints.now = length-map c.args.endpoints.now (λ (x : EndpointId). x.0) in
    let lo : length (numbers c.args.others.now) ≡ length c.args.others.now = length-map c.args.others.now (λ (x : EndpointId). x.0) in
    let inside : c.loop-i.i < length c.args.endpoints.now = c.loop-i-test.true in
    let inside_too : c.loop-i.i < length c.args.others.now = omega (arith, c.loop-i-test.true, c.if-endpoints-others.false) in
    let zero_ : EndpointId = record { 0 = 0 } in
    let h : c.loop-i.i < length (numbers c.args.endpoints.now) = omega (arith, le, inside) in
    let k : c.loop-i.i < length (numbers c.args.others.now) = omega (arith, lo, inside_too) in
    sym (stops (numbers c.args.endpoints.now) (numbers c.args.others.now) c.loop-i.i h k
    (λ e. c.if-endpoint-others.true (sym (number_at c.args.endpoints.now c.loop-i.i zero_ inside) ∙ e ∙ number_at c.args.others.now c.loop-i.i zero_ inside_too))) ∙ c.loop-i.invariant

pub loop-i-preserved : goal.loop-i-preserved
loop-i-preserved c =
    let le : length (numbers c.args.endpoints.now) ≡ length c.args.endpoints.now = length-map c.args.endpoints.now (λ (x : EndpointId). x.0) in
    let lo : length (numbers c.args.others.now) ≡ length c.args.others.now = length-map c.args.others.now (λ (x : EndpointId). x.0) in
    let inside : c.loop-i.i < length c.args.endpoints.now = c.loop-i-test.true in
    let inside_too : c.loop-i.i < length c.args.others.now = omega (arith, c.loop-i-test.true, c.if-endpoints-others.false) in
    let zero_ : EndpointId = record { 0 = 0 } in
    let h : c.loop-i.i < length (numbers c.args.endpoints.now) = omega (arith, le, inside) in
    let k : c.loop-i.i < length (numbers c.args.others.now) = omega (arith, lo, inside_too) in
    sym (goes_on (numbers c.args.endpoints.now) (numbers c.args.others.now) c.loop-i.i h k
    (number_at c.args.endpoints.now c.loop-i.i zero_ inside ∙ c.if-endpoint-others.false ∙ sym (number_at c.args.others.now c.loop-i.i zero_ inside_too))) ∙ c.loop-i.invariant
