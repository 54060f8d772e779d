use Rattle.vv_disk.proofs.Calls.{write_images}
use Rattle.vv_disk.proofs.mem_disk.MemDiskDisk.write.Goals as goal

pub returns-clause-images : goal.returns-clause-images
returns-clause-images c honest = write_images c.args.self.now c.write_bytes.new.self c.args.at c.args.bytes.now c.write_bytes.ensures.after
