-- The running clones and copies that were read so far, as contracts see them.
use Rattle.vv_area.specs.Forms.{Runs}
use Rattle.vv_area.specs.declared.runs.Running.{Running}

abbrev pub runs_of : Running → Runs
runs_of runs = record { clones = runs.clones.items; copies = runs.copies.items }
