use Rattle.vv_flat.proofs.KeepInterrupted.{interruption_keeps}
use Rattle.vv_flat.proofs.laws.an_interruption_keeps_all_rules.Goals as goal

pub returns : goal.returns
returns c tables form rules = interruption_keeps tables form rules
