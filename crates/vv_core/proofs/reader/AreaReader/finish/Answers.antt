use Rattle.std.proofs.Common.{sym, subst}
use Rattle.vv_area.specs.Area.{tables_in}
use Rattle.vv_area_reader.specs.Told.{AreaReading}
use Rattle.vv_core.specs.Areas.{IsReading}
use Rattle.vv_core.proofs.ToldCores.{either_told, fault_told}
use Rattle.vv_core.proofs.reader.AreaReader.finish.Goals as goal

pub finish-requires : goal.finish-requires
finish-requires c =
    let g = c.requires.set.0 in
    let s = c.requires.set.1 in
    let a = c.requires.set.2 in
    record { set = (g, s, a, subst (λ (x : AreaReading). IsReading x g s a) (sym c.self.view_is) c.requires.set.3) }

pub returns-in-Ok : goal.returns-in-Ok
returns-in-Ok c = λ g s a is.
    either_told c.in-Ok.tables c.core_of.result (tables_in g s a) c.core_of.ensures.ok c.core_of.ensures.err
    (c.in-Ok.ensures g s a (subst (λ (x : AreaReading). IsReading x g s a) (sym c.self.view_is) is))

pub returns-in-Err : goal.returns-in-Err
returns-in-Err c = λ g s a is.
    fault_told c.in-Err.fault (tables_in g s a)
    (c.in-Err.ensures g s a (subst (λ (x : AreaReading). IsReading x g s a) (sym c.self.view_is) is))
