use Rattle.std.proofs.Common.{refl}
use Rattle.vv_flat.proofs.MapDurable.{map-apply}
use Rattle.vv_flat.proofs.laws.the_shape_goes_its_own_way.Goals as goal

pub returns : goal.returns
returns c values unmapped d change = map-apply (λ x. x.stamp) (λ x. x.stamp) (λ s. s) (λ x. refl) values unmapped d change
