-- How a disk in memory is kept in its fields.
use Rattle.std.specs.Prelude.{◌+◌, ◌*◌, ◌≤◌, vec_capacity}
use Rattle.vv_disk.specs.declared.mem_disk.MemDisk.TheInside.{Inside}
use Rattle.vv_disk.specs.MemDisk.{MemState, IsKept}

abbrev pub seen : Inside → MemState
seen inside = record {
  first = inside.first.items;
  done = inside.past.0;
  room = inside.past.1;
  fail = inside.plan.fail.items;
  fuse = inside.plan.fuse;
  calls = inside.plan.calls;
  read_faults = inside.read_faults;
  write_faults = inside.write_faults;
}

pub record IsWhole (inside : Inside) : Type 0 where
  pub kept : IsKept inside.first.items inside.content.items inside.pending.items inside.synced inside.past.0
  pub room : inside.past.1 ≤ 64 * vec_capacity inside.pending + 63
