-- For areas that are read: the tables that bytes spell have their form, and so have their fields, and
-- what is told of them is told of the area.
use Rattle.std.proofs.Common.{ℕ, ◌≡◌, true, List, [], Result, Ok, sym, ap, ◌∙◌, subst}
use Rattle.std.proofs.lemmas.List.{append-nil}
use Rattle.vv_units.specs.declared.geometry.Geometry.{Geometry}
use Rattle.vv_fields.specs.Fields.{AreBytes}
use Rattle.vv_flat.specs.State.{Durable}
use Rattle.vv_flat.specs.Chunks.{Entry}
use Rattle.vv_flat.specs.Form.{is_formed}
use Rattle.vv_flat.specs.Fields.{have_forms}
use Rattle.vv_area.specs.Area.{tables_in}
use Rattle.vv_area.specs.Spelling.{is_spellable}
use Rattle.vv_area.specs.declared.fault.AreaFault.{AreaFault}
use Rattle.vv_area.proofs.AreaLaws.{read_is_spelled}
use Rattle.vv_area.proofs.ReadForms.{has_form, has_forms}
use Rattle.vv_area_reader.specs.Told.{AreaReading, told}
use Rattle.vv_tables.specs.Seen.{TablesView}
use Rattle.vv_restore.specs.Restoring.{TellsTables}
use Rattle.vv_restore.specs.Reading.{IsReading, TellsArea}

spelled : (geometry : Geometry) (spelling : ℕ) (area : List ℕ) (d : Durable Entry) → AreBytes area → tables_in geometry spelling area ≡ Ok d → is_spellable spelling d ≡ true
spelled geometry spelling area d bytes e = (read_is_spelled geometry spelling area d bytes e).1

pub read_formed : (geometry : Geometry) (spelling : ℕ) (area : List ℕ) (d : Durable Entry) → AreBytes area → tables_in geometry spelling area ≡ Ok d → is_formed d ≡ true
read_formed geometry spelling area d bytes e = has_form spelling d (spelled geometry spelling area d bytes e)

pub read_forms : (geometry : Geometry) (spelling : ℕ) (area : List ℕ) (d : Durable Entry) → AreBytes area → tables_in geometry spelling area ≡ Ok d → have_forms d ≡ true
read_forms geometry spelling area d bytes e = has_forms spelling d (spelled geometry spelling area d bytes e)

-- what is told of the tables of an area is told of the area
pub tables_told : (result : Result TablesView AreaFault) (d : Durable Entry) (spelled : Result (Durable Entry) ℕ) → spelled ≡ Ok d → TellsTables result d → TellsArea result spelled
tables_told result d spelled is told_of = subst (λ (s : Result (Durable Entry) ℕ). TellsArea result s) (sym is) told_of

-- a reader that was fed an area whole tells what the area spells
pub reading_ends : (geometry : Geometry) (spelling : ℕ) (area : List ℕ) (reader : AreaReading) → IsReading reader geometry spelling area
    → told reader [] ≡ tables_in geometry spelling area
reading_ends geometry spelling area reader reading = reading.tells [] ∙ ap (λ (bs : List ℕ). tables_in geometry spelling bs) (append-nil area)
