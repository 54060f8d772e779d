-- The job that a raw one stands for.
use Rattle.vv_flat.specs.State.{Job, Clone, Copy}
use Rattle.vv_area.specs.declared.rows.RawJob.{RawJob}
use Rattle.vv_area.specs.declared.rows.RawJob.TheVariants as raw

abbrev pub job_of : RawJob → Job
job_of (raw.Clone volume) = Clone volume.0
job_of (raw.Copy source base target) = Copy source.0 base.0 target.0
