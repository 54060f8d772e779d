-- How a disk over a file is kept in its fields.
use Rattle.std.specs.Prelude.{is_none}
use Rattle.vv_disk.specs.declared.file_disk.FileDisk.TheInside.{Inside}
use Rattle.vv_disk.specs.FileDisk.{FileState}

abbrev pub shown : Inside → FileState
shown inside = record {
  size = inside.len;
  is_broken = is_none inside.file;
  read_faults = inside.read_faults;
  write_faults = inside.write_faults;
}
