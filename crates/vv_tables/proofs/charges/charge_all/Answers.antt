use Rattle.std.proofs.Common.{◌≡◌, ◌+◌, ◌<◌, ◌≤◌, List, suc, length, take, refl, sym, ap, subst, ◌∙◌, arith}
use Rattle.std.proofs.lemmas.List.{take_all, length-map}
use Rattle.std.proofs.lemmas.List.Elements.{All-nil}
use Rattle.vv_container.specs.Table.{ChargedContainer, with_charge, numbers}
use Rattle.vv_tables.specs.Charges.{charge_in}
use Rattle.vv_tables.specs.Seen.{plain_containers}
use Rattle.vv_tables.proofs.Walks.{past_end}
use Rattle.vv_tables.proofs.Containers.{plain_charged}
use Rattle.vv_tables.proofs.ChargeWalks.{AreAt, row_there, charged_next, length-charged, numbers_within}
use Rattle.vv_tables.proofs.charges.charge_all.Goals as goal

pub loop-id-init : goal.loop-id-init
loop-id-init c = record { plain = refl; charged = All-nil (λ (r : ChargedContainer). r.charged ≡ charge_in c.args.shelf.now.shelf c.args.tasks.now c.args.clones.now c.args.copies.now r.container.number) }

pub set_charge-requires : goal.set_charge-requires
set_charge-requires c = row_there c.loop-id.containers c.loop-id.i c.in-Some.id.0 c.in-Some.ensures.rising c.in-Some.ensures.item

pub overflow_add-i : goal.overflow_add-i
overflow_add-i c =
    let within : c.loop-id.i < length c.loop-id.containers = numbers_within c.loop-id.containers c.loop-id.i c.in-Some.id.0 c.in-Some.ensures.item in
    omega (arith, within, c.in-Some.ensures.few)

pub loop-id-smaller : goal.loop-id-smaller
loop-id-smaller c =
    let within : c.loop-id.i < length c.loop-id.containers = numbers_within c.loop-id.containers c.loop-id.i c.in-Some.id.0 c.in-Some.ensures.item in
    let same : length c.set_charge.new.self ≡ length c.loop-id.containers = ap length c.set_charge.ensures ∙ length-charged c.loop-id.containers c.in-Some.id.0 c.charge.result in
    omega (arith, within, same)

pub loop-id-preserved : goal.loop-id-preserved
loop-id-preserved c =
    let f = charge_in c.args.shelf.now.shelf c.args.tasks.now c.args.clones.now c.args.copies.now in
    let next : c.loop-id.i + 1 ≡ suc c.loop-id.i = omega arith in
    let set : c.set_charge.new.self ≡ with_charge c.loop-id.containers c.in-Some.id.0 (f c.in-Some.id.0) =
    c.set_charge.ensures ∙ ap (with_charge c.loop-id.containers c.in-Some.id.0) c.charge.ensures in
    record {
      plain = ap plain_containers c.set_charge.ensures ∙ plain_charged c.loop-id.containers c.in-Some.id.0 c.charge.result ∙ c.loop-id.invariant.plain;
      charged = subst (λ k. AreAt f (take k c.set_charge.new.self)) (sym next)
          (subst (λ (rows : List ChargedContainer). AreAt f (take (suc c.loop-id.i) rows)) (sym set)
          (charged_next f c.loop-id.containers c.loop-id.i c.in-Some.id.0 c.in-Some.ensures.rising c.in-Some.ensures.item c.loop-id.invariant.charged));
    }

pub returns-clause-plain : goal.returns-clause-plain
returns-clause-plain c = c.loop-id.invariant.plain

pub returns-clause-charged : goal.returns-clause-charged
returns-clause-charged c =
    let f = charge_in c.args.shelf.now.shelf c.args.tasks.now c.args.clones.now c.args.copies.now in
    let past : length (numbers c.loop-id.containers) ≤ c.loop-id.i = past_end (numbers c.loop-id.containers) c.loop-id.i (sym c.in_default.ensures.item) in
    let whole : length c.loop-id.containers ≤ c.loop-id.i = omega (arith, past, length-map c.loop-id.containers (λ (r : ChargedContainer). r.container.number)) in
    subst (λ (rows : List ChargedContainer). AreAt f rows) (take_all c.loop-id.i c.loop-id.containers whole) c.loop-id.invariant.charged
