use Rattle.vv_flat.proofs.KeepRules.{record_keeps}
use Rattle.vv_flat.proofs.laws.a_record_keeps_all_rules.Goals as goal

pub returns : goal.returns
returns c tables change places form rules fields fit = record_keeps tables change places form rules fields fit
