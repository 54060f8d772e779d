use Rattle.std.proofs.Common.{[], map, sym, ap, subst, ◌∙◌}
use Rattle.vv_flat.specs.Chunks.{shape_of_tables}
use Rattle.vv_profile.specs.Known.{all_known}
use Rattle.vv_plan.specs.declared.asks.CommandAsk.{CommandAsk}
use Rattle.vv_plan.specs.CommandAsks.{deed_asked, unmaps_ranges, pair_of}
use Rattle.vv_plan.specs.FitDeeds.{is_fit}
use Rattle.vv_core.specs.Plans.{settled_reply}
use Rattle.vv_core.specs.PlannedDeeds.{IsDeedRead}
use Rattle.vv_core.proofs.CommandPlans.{read_fits, planned_alike, refused_alike}
use Rattle.vv_core.proofs.DeedPlans.{settled_deed, settled_deed_fault}
use Rattle.vv_core.proofs.UnmapPlans.{write_deed}
use Rattle.vv_core.proofs.planning_commands.plan_ask.Goals as goal

pub returns-in-Answer-clause-planned : goal.returns-in-Answer-clause-planned
returns-in-Answer-clause-planned g c payload =
    settled_deed (all_known c.args.capabilities.now) c.args.tables.now.durable (deed_asked payload c.args.ask) payload c.in-Answer.reply
    (ap (λ (k : CommandAsk). settled_reply (all_known c.args.capabilities.now) (shape_of_tables c.args.tables.now.durable) (deed_asked payload k)) c.in-Answer.is)
    c.settle.result c.settle.ensures.planned

pub returns-in-Answer-clause-refused : goal.returns-in-Answer-clause-refused
returns-in-Answer-clause-refused g c payload =
    settled_deed_fault (all_known c.args.capabilities.now) c.args.tables.now.durable (deed_asked payload c.args.ask) payload c.in-Answer.reply
    (ap (λ (k : CommandAsk). settled_reply (all_known c.args.capabilities.now) (shape_of_tables c.args.tables.now.durable) (deed_asked payload k)) c.in-Answer.is)
    c.settle.result c.settle.ensures.refused

pub returns-in-Read-clause-planned : goal.returns-in-Read-clause-planned
returns-in-Read-clause-planned g c payload =
    let d = c.args.tables.now.durable in
    subst (λ (k : CommandAsk). IsDeedRead d (deed_asked payload k) c.in-Read.volume.0 c.in-Read.first c.in-Read.blocks) (sym c.in-Read.is)
    (read_fits d c.in-Read.volume.0 c.in-Read.first c.in-Read.blocks (ap (λ (k : CommandAsk). is_fit (shape_of_tables d) (deed_asked [] k)) (sym c.in-Read.is) ∙ c.requires))

pub returns-in-Write-clause-planned : goal.returns-in-Write-clause-planned
returns-in-Write-clause-planned g c payload =
    planned_alike (all_known c.args.capabilities.now) c.args.tables.now.durable (write_deed payload c.of-write.result) (deed_asked payload c.args.ask) payload
    (ap (write_deed payload) c.of-write.ensures ∙ ap (deed_asked payload) (sym c.in-Write.is)) c.plan_write.result (c.plan_write.ensures.planned payload)

pub returns-in-Write-clause-refused : goal.returns-in-Write-clause-refused
returns-in-Write-clause-refused g c payload =
    refused_alike (all_known c.args.capabilities.now) c.args.tables.now.durable (write_deed payload c.of-write.result) (deed_asked payload c.args.ask)
    (ap (write_deed payload) c.of-write.ensures ∙ ap (deed_asked payload) (sym c.in-Write.is)) c.plan_write.result (c.plan_write.ensures.refused payload)

pub returns-in-Same-clause-planned : goal.returns-in-Same-clause-planned
returns-in-Same-clause-planned g c payload =
    planned_alike (all_known c.args.capabilities.now) c.args.tables.now.durable (write_deed payload c.of-write-in-Same.result) (deed_asked payload c.args.ask) payload
    (ap (write_deed payload) c.of-write-in-Same.ensures ∙ ap (deed_asked payload) (sym c.in-Same.is)) c.plan_write-in-Same.result (c.plan_write-in-Same.ensures.planned payload)

pub returns-in-Same-clause-refused : goal.returns-in-Same-clause-refused
returns-in-Same-clause-refused g c payload =
    refused_alike (all_known c.args.capabilities.now) c.args.tables.now.durable (write_deed payload c.of-write-in-Same.result) (deed_asked payload c.args.ask)
    (ap (write_deed payload) c.of-write-in-Same.ensures ∙ ap (deed_asked payload) (sym c.in-Same.is)) c.plan_write-in-Same.result (c.plan_write-in-Same.ensures.refused payload)

pub returns-in-Compare-clause-planned : goal.returns-in-Compare-clause-planned
returns-in-Compare-clause-planned g c payload =
    planned_alike (all_known c.args.capabilities.now) c.args.tables.now.durable (write_deed payload c.of-write-in-Compare.result) (deed_asked payload c.args.ask) payload
    (ap (write_deed payload) c.of-write-in-Compare.ensures ∙ ap (deed_asked payload) (sym c.in-Compare.is)) c.plan_write-in-Compare.result (c.plan_write-in-Compare.ensures.planned payload)

pub returns-in-Compare-clause-refused : goal.returns-in-Compare-clause-refused
returns-in-Compare-clause-refused g c payload =
    refused_alike (all_known c.args.capabilities.now) c.args.tables.now.durable (write_deed payload c.of-write-in-Compare.result) (deed_asked payload c.args.ask)
    (ap (write_deed payload) c.of-write-in-Compare.ensures ∙ ap (deed_asked payload) (sym c.in-Compare.is)) c.plan_write-in-Compare.result (c.plan_write-in-Compare.ensures.refused payload)

pub returns-in-Unmap-clause-planned : goal.returns-in-Unmap-clause-planned
returns-in-Unmap-clause-planned g c payload =
    planned_alike (all_known c.args.capabilities.now) c.args.tables.now.durable (unmaps_ranges c.in-Unmap.volume.0 (map pair_of c.in-Unmap.ranges)) (deed_asked payload c.args.ask) payload
    (ap (deed_asked payload) (sym c.in-Unmap.is)) c.plan_unmap.result (c.plan_unmap.ensures.planned payload)
