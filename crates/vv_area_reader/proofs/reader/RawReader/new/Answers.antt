use Rattle.std.proofs.Common.{◌≡◌, [], rules}
use Rattle.vv_area_reader.proofs.Going.{told_at_start}
use Rattle.vv_area_reader.proofs.reader.RawReader.new.Goals as goal

pub returns-clause-tables : goal.returns-clause-tables
returns-clause-tables c = λ area.
    let none : c.in_ok-buffer.buffer.items ≡ [] = search rules in
    rw (c.new.ensures, none) (told_at_start c.args.geometry c.args.spelling area)
