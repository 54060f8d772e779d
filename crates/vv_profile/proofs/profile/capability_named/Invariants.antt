use Rattle.std.proofs.Common.{◌≡◌, find, drop}
use Rattle.std.specs.Str.{bytes_eq}
use Rattle.vv_profile.proofs.profile.capability_named.Given as goal

abbrev pub invariant-loop-capability : goal.invariant-loop-capability
invariant-loop-capability g l =
    find (λ c. bytes_eq c.name l.name) (drop l.capability-index l.capabilities)
    ≡ find (λ c. bytes_eq c.name l.name) l.capabilities
