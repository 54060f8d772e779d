use Rattle.std.proofs.Common.{◌≡◌, ◌+◌, [], ap, ◌∙◌, arith}
use Rattle.std.proofs.lemmas.Bool.{eq-eqb, ne_eqb}
use Rattle.vv_vols.specs.Shelf.{ShelfState, chunks_in, allocated_of}
use Rattle.vv_vols.specs.Rows.{seen_entry}
use Rattle.vv_tables.proofs.UnmappedChunks.{unmap_one, unmap_no, one_fewer}
use Rattle.vv_tables.proofs.unmapping.unmap_chunk.Goals as goal

pub returns-then-entry-ne0-clause-shelf : goal.returns-then-entry-ne0-clause-shelf
returns-then-entry-ne0-clause-shelf g c =
    c.unmap.ensures.shelf
    ∙ unmap_one c.args.shelf.now.shelf c.args.volume.0 c.args.index (seen_entry c.entry.result) c.entry.ensures (ne_eqb c.entry.result.stamp 0 c.if-entry-ne0.true)

pub returns-then-entry-ne0-clause-good : goal.returns-then-entry-ne0-clause-good
returns-then-entry-ne0-clause-good g c first count low high good = c.unmap.ensures.good first count [] low high good

pub returns-then-entry-ne0-clause-steps : goal.returns-then-entry-ne0-clause-steps
returns-then-entry-ne0-clause-steps g c =
    let s : ShelfState = c.args.shelf.now.shelf in
    let fewer = one_fewer s c.args.volume.0 c.args.index (seen_entry c.entry.result) c.entry.ensures (ne_eqb c.entry.result.stamp 0 c.if-entry-ne0.true) in
    let is : allocated_of (chunks_in c.unmap.new.self.shelf c.args.volume.0) + 1 ≡ allocated_of (chunks_in s c.args.volume.0) =
    ap (λ (t : ShelfState). allocated_of (chunks_in t c.args.volume.0) + 1) c.unmap.ensures.shelf ∙ fewer in
    let most = c.unmap.ensures.steps in
    omega (arith, is, most)

pub returns-else-entry-ne0-clause-shelf : goal.returns-else-entry-ne0-clause-shelf
returns-else-entry-ne0-clause-shelf g c =
    unmap_no c.args.shelf.now.shelf c.args.volume.0 c.args.index (seen_entry c.entry.result) c.entry.ensures (eq-eqb c.entry.result.stamp 0 c.if-entry-ne0.false)
