use Rattle.std.proofs.Common.{refl, sym, subst}
use Rattle.std.specs.Prelude.{IsSome}
use Rattle.vv_vols.specs.Shelf.{ShelfState, volume_in}
use Rattle.vv_vols.proofs.TakenPlaces.{changed_stands}
use Rattle.vv_diff.proofs.tests.copy_two.Goals as goal

pub returns : goal.returns
returns g c =
    subst (λ (s : ShelfState). IsSome (volume_in s 3)) (sym c.apply.ensures.shelf)
    (changed_stands 3 _ c.difference-pieces.new.shelf.shelf.volumes (λ v. refl)
    (subst (λ (s : ShelfState). IsSome (volume_in s 3)) (sym c.difference-pieces.ensures.shelf) c.requires.target))
