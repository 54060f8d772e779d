-- For raw tables that keep all rules: with their form and the forms of their fields they are well-formed.
use Rattle.std.proofs.Common.{◌≡◌, true, Option, None, ap}
use Rattle.std.specs.Prelude.{is_none}
use Rattle.vv_flat.specs.State.{Durable}
use Rattle.vv_flat.specs.Chunks.{Entry}
use Rattle.vv_flat.specs.Form.{is_formed}
use Rattle.vv_flat.specs.Rules.{RuleFault, first_fault}
use Rattle.vv_flat.specs.Fields.{have_forms}
use Rattle.vv_flat.specs.WellFormed.{is_well_formed}
use Rattle.vv_flat.proofs.Shares.{and_both}

pub ruled_well : (d : Durable Entry) → is_formed d ≡ true → have_forms d ≡ true → first_fault d ≡ None → is_well_formed d ≡ true
unfolding is_well_formed
ruled_well d form forms none = and_both _ _ (and_both _ _ form (ap (λ (o : Option RuleFault). is_none o) none)) forms
