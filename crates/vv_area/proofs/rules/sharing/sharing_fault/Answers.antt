use Rattle.std.proofs.Common.{◌∙◌, ap}
use Rattle.vv_flat.specs.Sharing.{standings}
use Rattle.vv_rules.specs.Least.{sooner, least_failing, place_of, least_apart}
use Rattle.vv_area.specs.Area.{tables_of}
use Rattle.vv_area.specs.Ruled.{is_right_alone}
use Rattle.vv_area.proofs.SharingParts.{fault_joined}
use Rattle.vv_area.proofs.rules.sharing.sharing_fault.Goals as goal

pub returns : goal.returns
returns c =
    c.sooner.ensures
    ∙ ap (λ o. sooner o c.in_ok-apart.apart) (c.least_alone-alone.ensures ∙ ap (least_failing (is_right_alone (tables_of c.args.tables.now)) place_of) c.requires)
    ∙ ap (λ o. sooner (least_failing (is_right_alone (tables_of c.args.tables.now)) place_of (standings (tables_of c.args.tables.now))) o) (c.in_ok-apart.ensures ∙ ap least_apart c.requires)
    ∙ fault_joined (tables_of c.args.tables.now)
