use Rattle.std.proofs.Common.{◌≡◌, ◌<◌, ◌≤◌, arith}
use Rattle.vv_flat.specs.Chunks.{shape_of_tables}
use Rattle.vv_flat.specs.Changes.{size_of}
use Rattle.vv_vols.specs.Rows.{seen_entry}
use Rattle.vv_core.proofs.Placed.{volume_stands, index_within, entry_there, no_entry}
use Rattle.vv_core.proofs.entries.volume_entry.Goals as goal

pub entry-requires-clause-standing : goal.entry-requires-clause-standing
entry-requires-clause-standing c =
    let size : c.size.result ≡ size_of (shape_of_tables c.args.tables.now.durable) c.args.volume.0 = c.size.ensures in
    let lt : c.args.index < c.size.result = c.«if-index-size».true in
    volume_stands c.args.tables.now.durable c.args.volume.0 c.args.index c.shelf.result.now.shelf c.shelf.ensures.volumes (omega (arith, size, lt))

pub entry-requires-clause-within : goal.entry-requires-clause-within
entry-requires-clause-within c =
    let size : c.size.result ≡ size_of (shape_of_tables c.args.tables.now.durable) c.args.volume.0 = c.size.ensures in
    let lt : c.args.index < c.size.result = c.«if-index-size».true in
    index_within c.args.tables.now.durable c.args.volume.0 c.args.index c.shelf.result.now.shelf c.shelf.ensures.volumes (omega (arith, size, lt))

pub returns-then-index-size : goal.returns-then-index-size
returns-then-index-size c =
    let size : c.size.result ≡ size_of (shape_of_tables c.args.tables.now.durable) c.args.volume.0 = c.size.ensures in
    let lt : c.args.index < c.size.result = c.«if-index-size».true in
    entry_there c.args.tables.now.durable c.args.volume.0 c.args.index c.shelf.result.now.shelf c.shelf.ensures.volumes (seen_entry c.entry.result) (omega (arith, size, lt)) c.entry.ensures

pub returns-else-index-size : goal.returns-else-index-size
returns-else-index-size c =
    let size : c.size.result ≡ size_of (shape_of_tables c.args.tables.now.durable) c.args.volume.0 = c.size.ensures in
    let le : c.size.result ≤ c.args.index = c.«if-index-size».false in
    no_entry c.args.tables.now.durable c.args.volume.0 c.args.index (omega (arith, size, le))
