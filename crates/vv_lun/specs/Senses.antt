-- Senses that answer a command to a logical unit. Which sense answers which case is this project's own choice.
use Rattle.vv_cdb.specs.declared.sense.Sense.{Sense}
use Rattle.vv_cdb.specs.Senses.{illegal_request}

-- nothing is to be told
abbrev pub no_sense : Sense
no_sense = record { key = 0; asc = 0; ascq = 0 }

abbrev pub lba_out_of_range : Sense
lba_out_of_range = illegal_request 0x21

abbrev pub logical_unit_not_supported : Sense
logical_unit_not_supported = illegal_request 0x25

abbrev pub capacity_data_has_changed : Sense
capacity_data_has_changed = record { key = 6; asc = 0x2a; ascq = 9 }

abbrev pub write_protected : Sense
write_protected = record { key = 7; asc = 0x27; ascq = 0 }
