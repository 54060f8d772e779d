use Rattle.std.proofs.Common.{ℕ, ◌≡◌, List, [], IfOk, refl, ap, subst, ◌∙◌}
use Rattle.vv_flat.specs.State.{Volume, Durable}
use Rattle.vv_flat.specs.Chunks.{Entry, shape_of_tables}
use Rattle.vv_flat.specs.Changes.{metadata_of}
use Rattle.vv_vols.specs.Rows.{volume_with}
use Rattle.vv_tables.specs.Seen.{TablesView, seen_durable}
use Rattle.vv_tables.proofs.ShapeVolumes.{of_some, of_none}
use Rattle.vv_tables.proofs.tables.Tables.pairs_of.Goals as goal

pub returns-in-Some : goal.returns-in-Some
returns-in-Some c =
    let i = c.self.inside in
    let d : Durable Entry = seen_durable i.lsn i.shelf.shelf i.containers i.bindings i.tasks i.clones.items i.copies.items in
    let is : c.in-Some.head.now.metadata ≡ metadata_of (shape_of_tables c.args.self.now.durable) c.args.volume.0 =
    of_some d c.args.volume.0 (volume_with c.args.volume.0 c.in-Some.head.now []) (λ (v : Volume ℕ). v.metadata) [] c.in-Some.ensures (λ v. refl)
    ∙ ap (λ (t : TablesView). metadata_of (shape_of_tables t.durable) c.args.volume.0) c.self.view_is in
    subst (λ (ps : List (List ℕ × List ℕ)). IfOk c.copy.result (λ pairs. pairs ≡ ps)) is c.copy.ensures

pub returns-in-None : goal.returns-in-None
returns-in-None c =
    let i = c.self.inside in
    let d : Durable Entry = seen_durable i.lsn i.shelf.shelf i.containers i.bindings i.tasks i.clones.items i.copies.items in
    c.new.ensures
    ∙ of_none d c.args.volume.0 (λ (v : Volume ℕ). v.metadata) [] c.in-None.ensures
    ∙ ap (λ (t : TablesView). metadata_of (shape_of_tables t.durable) c.args.volume.0) c.self.view_is
