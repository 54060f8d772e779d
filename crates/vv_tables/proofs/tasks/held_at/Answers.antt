use Rattle.std.proofs.Common.{◌≡◌, ◌≤◌, map, length, sym, ◌∙◌, arith}
use Rattle.std.proofs.lemmas.List.{length-map}
use Rattle.std.proofs.lemmas.Option.{slice_get-map, slice_get_past}
use Rattle.vv_flat.specs.State.{Piece}
use Rattle.vv_flat.specs.Chunks.{Entry}
use Rattle.vv_vols.specs.Shelf.{pieces_in}
use Rattle.vv_tables.proofs.tasks.held_at.Goals as goal

abbrev chunk : Piece Entry → Entry
chunk a = a.chunk

pub returns-then-at-held_len : goal.returns-then-at-held_len
returns-then-at-held_len c =
    let ps = pieces_in c.args.shelf.now.shelf c.args.held.now.number in
    sym (slice_get-map chunk ps c.args.at ∙ c.held_entry.ensures)

pub returns-else-at-held_len : goal.returns-else-at-held_len
returns-else-at-held_len c =
    let ps = pieces_in c.args.shelf.now.shelf c.args.held.now.number in
    let size : length (map chunk ps) ≡ length ps = length-map ps chunk in
    let past : length (map chunk ps) ≤ c.args.at = omega (arith, size, c.held_len.ensures, c.if-at-held_len.false) in
    sym (slice_get_past (map chunk ps) c.args.at past)
