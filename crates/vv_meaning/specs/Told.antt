-- How refusals and the ends of commands are told. Statuses are those of SAM-5, senses those of SPC-5 and SBC-4; which
-- sense tells which refusal is this project's own choice.
use Rattle.std.specs.Prelude.{ℕ, List, [], Option, Some, None}
use Rattle.vv_flat.specs.Lists.{if_found}
use Rattle.vv_flat.specs.Refusals as flat
use Rattle.vv_cdb.specs.declared.sense.Sense.{Sense}
use Rattle.vv_lun.specs.Senses.{lba_out_of_range, write_protected}
use Rattle.vv_reply.specs.declared.reply.Answer.TheVariants.{Empty}
use Rattle.vv_reply.specs.declared.reply.Reply.{Reply}
use Rattle.vv_reply.specs.declared.reply.Reply.TheVariants.{Done, Refused, Scsi}
use Rattle.vv_reply.specs.declared.reply.Refusal.{Refusal}
use Rattle.vv_reply.specs.declared.reply.Refusal.TheVariants as fault
use Rattle.vv_meaning.specs.Asks.{Form, AsFault, AsSense}

abbrev pub done : Reply
done = Done Empty

-- Senses that tell what became of blocks.

abbrev pub space_allocation_failed : Sense
space_allocation_failed = record { key = 7; asc = 0x27; ascq = 7 }

abbrev pub write_error : Sense
write_error = record { key = 3; asc = 0x0c; ascq = 0 }

abbrev pub unrecovered_read_error : Sense
unrecovered_read_error = record { key = 3; asc = 0x11; ascq = 0 }

abbrev pub miscompare_during_verify : Sense
miscompare_during_verify = record { key = 14; asc = 0x1d; ascq = 0 }

-- How a command ends: GOOD with its data, CHECK CONDITION with a sense and what it stands for, or TASK SET FULL.

abbrev pub good : List ℕ → Reply
good payload = Scsi (record { status = 0x00; sense = None; cause = None; payload = payload })

abbrev pub check_condition : Sense → Option Refusal → Reply
check_condition sense cause = Scsi (record { status = 0x02; sense = Some sense; cause = cause; payload = [] })

abbrev pub task_set_full : Reply
task_set_full = Scsi (record { status = 0x28; sense = None; cause = None; payload = [] })

-- the blocks that stand aren't those that are asked for
abbrev pub miscompared : Reply
miscompared = check_condition miscompare_during_verify None

-- The fault that tells a refusal. Two refusals, which come of block commands alone, have a sense and no fault.
abbrev pub fault_of : flat.Refusal → Option Refusal
fault_of (flat.NotFound name) = Some (fault.NotFound name)
fault_of (flat.InvalidArgument name) = Some (fault.InvalidArgument name)
fault_of (flat.IncompatibleVolume name) = Some (fault.IncompatibleVolume name)
fault_of (flat.NoEndpoint name) = Some (fault.NoEndpoint name)
fault_of (flat.ResourceInUse name) = Some (fault.ResourceInUse name)
fault_of (flat.NotCancellable name) = Some (fault.NotCancellable name)
fault_of flat.OutOfRange = None
fault_of flat.WriteProtected = None
fault_of flat.Exhausted = Some fault.Exhausted
fault_of (flat.TooMany name limit) = Some (fault.TooMany (record { name = name; limit = limit }))
fault_of (flat.InvalidProfile at why) = Some (fault.InvalidProfile at why)
fault_of (flat.OverQuota charged asked quota) = Some (fault.OverQuota charged asked quota)
fault_of (flat.PoolFull free asked) = Some (fault.PoolFull free asked)
fault_of (flat.MapFull entries asked limit) = Some (fault.MapFull entries asked limit)

-- The sense that tells a refusal: 5/21/00 past the end of the volume, 7/27/07 where there is no room, and else 7/27/00.
abbrev pub sense_of : flat.Refusal → Sense
sense_of flat.OutOfRange = lba_out_of_range
sense_of (flat.OverQuota charged asked quota) = space_allocation_failed
sense_of (flat.PoolFull free asked) = space_allocation_failed
sense_of _ = write_protected

abbrev pub refused_as : Form → flat.Refusal → Reply
refused_as AsFault refusal = if_found (fault_of refusal) Refused (check_condition (sense_of refusal) None)
refused_as AsSense refusal = check_condition (sense_of refusal) (fault_of refusal)

-- The disk failed at a read, or at a write.

abbrev pub read_failed_as : Form → Reply
read_failed_as AsFault = Refused fault.ReadFault
read_failed_as AsSense = check_condition unrecovered_read_error (Some fault.ReadFault)

abbrev pub write_failed_as : Form → Reply
write_failed_as AsFault = Refused fault.WriteFault
write_failed_as AsSense = check_condition write_error (Some fault.WriteFault)
