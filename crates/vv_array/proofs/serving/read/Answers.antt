use Rattle.std.proofs.Common.{rules, ◌≡◌, ℕ, List, IfSome, ap, ◌∙◌, subst}
use Rattle.std.proofs.lemmas.List.{with_items_is, places}
use Rattle.vv_flat.specs.State.{Array}
use Rattle.vv_flat.specs.Chunks.{Entry, filled_tables}
use Rattle.vv_image.specs.Standing.{bytes_at_place}
use Rattle.vv_meaning.specs.Told.{good}
use Rattle.vv_meaning.specs.Meaning.{blocks_at}
use Rattle.vv_core.specs.Core.{passed}
use Rattle.vv_array.proofs.ServedCalls.{read_served, unread_served, passed_durable}
use Rattle.vv_array.proofs.serving.read.Goals as goal

pub returns-in-Ok-read_some-clause-served : goal.returns-in-Ok-read_some-clause-served
returns-in-Ok-read_some-clause-served g c = λ capabilities journal honest m up.
    let told = g.D.Disk.content c.args.disk.now in
    let a : Array Entry = c.args.core.now.array in
    let same = c.in-Ok-prepare.ensures.same in
    let read = subst (λ (x : Array Entry). IfSome told (λ content. c.read_some.new.into ≡ blocks_at (filled_tables (bytes_at_place x.durable.geometry content) x.durable) c.args.volume.0 c.args.first c.args.blocks)) same c.in-Ok-read_some.ensures.read in
    read_served capabilities journal a c.pass.new.self.array told (g.D.Disk.content c.read_some.new.disk) (g.D.Disk.is_image c.args.disk.now) (g.D.Disk.is_image c.read_some.new.disk) m c.args.call.now
    c.args.volume.0 c.args.first c.args.blocks up c.requires.plan.asks c.read_some.ensures.content c.read_some.ensures.images
    c.read_some.new.into c.good.result read (c.good.ensures ∙ ap good (with_items_is c.in-Ok.bytes c.read_some.new.into (search (rules, places)))) (c.pass.ensures.array ∙ ap (λ (x : Array Entry). passed x c.args.call.now) same)

pub returns-in-Ok-read_some-clause-tables : goal.returns-in-Ok-read_some-clause-tables
returns-in-Ok-read_some-clause-tables g c =
    ap (λ (x : Array Entry). x.durable) c.pass.ensures.array
    ∙ passed_durable c.prepare.new.self.array c.args.call.now
    ∙ ap (λ (x : Array Entry). x.durable) c.in-Ok-prepare.ensures.same

pub returns-in-Err-clause-served : goal.returns-in-Err-clause-served
returns-in-Err-clause-served g c = λ capabilities journal honest m up.
    unread_served capabilities journal c.args.core.now.array c.give_up.new.self.array (g.D.Disk.content c.args.disk.now) (g.D.Disk.content c.read_some.new.disk) (g.D.Disk.is_image c.args.disk.now) (g.D.Disk.is_image c.read_some.new.disk) m c.args.call.now
    c.args.volume.0 c.args.first c.args.blocks up c.requires.plan.asks c.read_some.ensures.content c.read_some.ensures.images
    c.read_failed.result c.in-Err.ensures.some c.read_failed.ensures (c.give_up.ensures.array ∙ c.in-Ok-prepare.ensures.same)
