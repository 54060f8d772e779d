-- What a change is answered: it is refused, it would change nothing durable, or it is accepted. The names of most
-- refusals are this project's own, after the faults of VASA 2.0; a write out of range and one to a snapshot are the
-- refusals of SBC.
use Rattle.std.specs.Prelude.{ℕ, ◌+◌, ◌-◌, ◌^◌, Bool, List, [], ◌∷◌, Option, Some, None, nat_le, nat_lt, is_none, if◌then◌else◌}
use Rattle.vv_units.specs.declared.field.Field.{Field}
use Rattle.vv_units.specs.declared.volume.Why.{Why}
use Rattle.vv_flat.specs.Lists.{if_found}
use Rattle.vv_flat.specs.State.{Durable, container_of, volume_of}
use Rattle.vv_flat.specs.Space.{free, entries, charge, pair_count}
use Rattle.vv_flat.specs.Profiles.{Misfit}
use Rattle.vv_units.specs.declared.field.Field.TheVariants.{Pairs}

pub data Refusal : Type 0 where
  NotFound : (name : Field) → Refusal
  InvalidArgument : (name : Field) → Refusal
  IncompatibleVolume : (name : Field) → Refusal
  NoEndpoint : (name : Field) → Refusal
  ResourceInUse : (name : Field) → Refusal
  NotCancellable : (name : Field) → Refusal
  OutOfRange : Refusal
  WriteProtected : Refusal
  Exhausted : Refusal
  TooMany : (name : Field) (limit : ℕ) → Refusal
  InvalidProfile : (at : ℕ) (why : Why) → Refusal
  OverQuota : (charged asked quota : ℕ) → Refusal
  PoolFull : (free asked : ℕ) → Refusal
  MapFull : (entries asked limit : ℕ) → Refusal

pub data Verdict : Type 0 where
  Refuse : Refusal → Verdict
  Nothing : Verdict
  Accept : Verdict

-- the first refusal of some checks in their order
abbrev pub first_refusal : List (Option Refusal) → Option Refusal
first_refusal [] = None
first_refusal (Some r ∷ rest) = Some r
first_refusal (None ∷ rest) = first_refusal rest

-- The order of every answer: the checks of names and of state, then whether nothing would change, then the checks of
-- limits, profile, quota, pool and map.
abbrev pub verdict : List (Option Refusal) → Bool → List (Option Refusal) → Verdict
verdict state changes_nothing room =
    if_found (first_refusal state) Refuse
    (if changes_nothing then Nothing else if_found (first_refusal room) Refuse Accept)

abbrev pub refuse_if : Bool → Refusal → Option Refusal
refuse_if b r = if b then Some r else None

-- The checks that several kinds of change share.

-- the last log number
abbrev pub last_lsn : ℕ
last_lsn = 2 ^ 62 - 1

-- the most metadata pairs of all volumes and running clones
abbrev pub pairs_limit : ℕ
pairs_limit = 4352

abbrev pub missing_volume : Durable ℕ → ℕ → Field → Option Refusal
missing_volume d n name = refuse_if (is_none (volume_of d n)) (NotFound name)

abbrev pub exhausted : Durable ℕ → Option Refusal
exhausted d = refuse_if (nat_le last_lsn d.lsn) Exhausted

-- there are as many as the limit allows
abbrev pub too_many : ℕ → ℕ → Field → Option Refusal
too_many count limit name = refuse_if (nat_le limit count) (TooMany name limit)

abbrev pub too_many_pairs : Durable ℕ → ℕ → Option Refusal
too_many_pairs d added = refuse_if (nat_lt pairs_limit (pair_count d + added)) (TooMany Pairs pairs_limit)

abbrev pub misfits : Option Misfit → Option Refusal
misfits misfit = if_found misfit (λ m. Some (InvalidProfile m.at m.why)) None

abbrev pub over_quota : Durable ℕ → ℕ → ℕ → Option Refusal
over_quota d k asked =
    if_found (container_of d k)
    (λ c. refuse_if (nat_lt c.quota (charge d k + asked)) (OverQuota (charge d k) asked c.quota)) None

abbrev pub pool_full : Durable ℕ → ℕ → Option Refusal
pool_full d asked = refuse_if (nat_lt (free d) asked) (PoolFull (free d) asked)

abbrev pub map_full : Durable ℕ → ℕ → Option Refusal
map_full d asked =
    refuse_if (nat_lt d.geometry.map_chunks (entries d + asked)) (MapFull (entries d) asked d.geometry.map_chunks)
