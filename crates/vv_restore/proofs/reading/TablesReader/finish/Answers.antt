use Rattle.std.proofs.Common.{◌≡◌, [], Ok, sym, ap, ◌∙◌}
use Rattle.vv_area.specs.Area.{tables_of, tables_in}
use Rattle.vv_area_reader.specs.Told.{AreaReading, told}
use Rattle.vv_restore.proofs.ReadTables.{reading_ends, tables_told}
use Rattle.vv_restore.proofs.reading.TablesReader.finish.Goals as goal

pub restore_read-requires : goal.restore_read-requires
restore_read-requires c =
    let set = c.requires.set in
    let told_is : told c.args.self [] ≡ Ok (tables_of c.in_ok-raw.raw) = sym (ap (λ (r : AreaReading). told r []) c.self.view_is) ∙ c.in_ok-raw.ensures in
    record {
      read = (set.0, set.1, set.2, set.3.are_bytes, sym (reading_ends set.0 set.1 set.2 c.args.self set.3) ∙ told_is);
    }

pub returns : goal.returns
returns c geometry spelling area reading =
    let told_is : told c.args.self [] ≡ Ok (tables_of c.in_ok-raw.raw) = sym (ap (λ (r : AreaReading). told r []) c.self.view_is) ∙ c.in_ok-raw.ensures in
    tables_told c.restore_read.result (tables_of c.in_ok-raw.raw) (tables_in geometry spelling area)
    (sym (reading_ends geometry spelling area c.args.self reading) ∙ told_is) c.restore_read.ensures
