use Rattle.vv_disk.proofs.Calls.{sync_images}
use Rattle.vv_disk.proofs.mem_disk.MemDiskDisk.sync.Goals as goal

pub returns-clause-images : goal.returns-clause-images
returns-clause-images c honest = sync_images c.args.self.now c.sync_bytes.new.self c.sync_bytes.ensures.after
