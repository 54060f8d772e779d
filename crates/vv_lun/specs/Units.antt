-- What is at the address of a command.
use Rattle.std.specs.Prelude.{ℕ, ◌≤◌, ◌^◌, ⊤, Bool}
use Rattle.vv_lun.specs.declared.unit.Unit.{Unit as SeenUnit}
use Rattle.vv_lun.specs.declared.unit.Unit.TheVariants.{Unbound as SeenUnbound, Endpoint as SeenEndpoint, Bound as SeenBound}

-- Nothing, a protocol endpoint by its number, or a volume by its number: it has so many blocks, and is a snapshot or
-- not, and a unit attention of SAM-5 waits there or not.
pub data UnitState : Type 0 where
  Unbound : UnitState
  Endpoint : (number : ℕ) → UnitState
  Bound : (volume blocks : ℕ) (snapshot attention : Bool) → UnitState

-- the unit that a program names
abbrev pub state_of : SeenUnit → UnitState
state_of SeenUnbound = Unbound
state_of (SeenEndpoint endpoint) = Endpoint endpoint.0
state_of (SeenBound binding blocks snapshot attention) = Bound binding.now.volume blocks snapshot attention

-- a volume has from 1 to 2^31 blocks
abbrev pub IsUnit : UnitState → Type 0
IsUnit Unbound = ⊤
IsUnit (Endpoint number) = ⊤
IsUnit (Bound volume blocks snapshot attention) = (1 ≤ blocks) × (blocks ≤ 2 ^ 31)
