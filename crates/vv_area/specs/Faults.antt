-- The fault of an area for the fault of one of its fields.
use Rattle.vv_record.specs.declared.record.RecordFault.{RecordFault}
use Rattle.vv_record.specs.declared.record.RecordFault.TheVariants as field
use Rattle.vv_area.specs.declared.fault.AreaFault.{AreaFault}
use Rattle.vv_area.specs.declared.fault.AreaFault.TheVariants as area

abbrev pub fault_of : RecordFault → AreaFault
fault_of (field.Bad at) = area.Bad at
fault_of field.NoMemory = area.NoMemory
