use Rattle.vv_array.specs.OpeningSteps.{area_found, fault_of_area}
use Rattle.vv_array.proofs.OpenedArea.{core_finished, end_fails, fault_told_as}
use Rattle.vv_array.proofs.area.finish.Goals as goal

pub finish-requires : goal.finish-requires
finish-requires c =
    let fed = c.requires.set.1 in
    record { set = (c.args.head.now.geometry, c.args.head.now.spelling, fed.fed, fed.reads) }

pub returns-in-Ok-clause-tables : goal.returns-in-Ok-clause-tables
returns-in-Ok-clause-tables c = λ told fed. (core_finished c.args.reader c.args.head.now told c.in-Ok.core fed c.in-Ok.ensures).tables

pub returns-in-Ok-clause-waiting : goal.returns-in-Ok-clause-waiting
returns-in-Ok-clause-waiting c = (core_finished c.args.reader c.args.head.now c.requires.set.0 c.in-Ok.core c.requires.set.1 c.in-Ok.ensures).waiting

pub returns-in-Ok-clause-sizes : goal.returns-in-Ok-clause-sizes
returns-in-Ok-clause-sizes c = (core_finished c.args.reader c.args.head.now c.requires.set.0 c.in-Ok.core c.requires.set.1 c.in-Ok.ensures).sizes

pub returns-in-Err-clause-fault : goal.returns-in-Err-clause-fault
returns-in-Err-clause-fault c = λ told fed.
    fault_told_as told (area_found c.args.head.now) (fault_of_area c.args.head.now.half c.in-Err.fault) _ c.area_fault.ensures.fault
    (end_fails c.args.reader c.args.head.now told c.in-Err.fault fed c.in-Err.ensures)
