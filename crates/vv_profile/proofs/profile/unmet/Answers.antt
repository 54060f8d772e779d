use Rattle.std.specs.Str.{bytes_eq}
use Rattle.vv_profile.specs.Known.{known}
use Rattle.vv_profile.proofs.ProfileLemmas.{find-map}
use Rattle.vv_profile.proofs.profile.unmet.Goals as goal

pub returns-in-Some : goal.returns-in-Some
returns-in-Some g c =
    rw (find-map known (λ k. bytes_eq k.name c.args.need.now.name) c.args.capabilities.now, ← c.in-Some.ensures) c.unmet_by.ensures

pub returns-in-None : goal.returns-in-None
returns-in-None g c =
    rw (find-map known (λ k. bytes_eq k.name c.args.need.now.name) c.args.capabilities.now, ← c.in-None.ensures)
