-- How an answer to a change is seen as that of the whole array's definitions.
use Rattle.std.specs.Prelude.{List, Option, Some, None}
use Rattle.vv_flat.specs.Refusals as flat
use Rattle.vv_flat.specs.Refusals.{first_refusal}
use Rattle.vv_judge.specs.declared.answer.Refusal.{Refusal}
use Rattle.vv_judge.specs.declared.answer.Refusal.TheVariants.{NotFound, InvalidArgument, IncompatibleVolume, NoEndpoint, ResourceInUse, NotCancellable, OutOfRange, WriteProtected, Exhausted, TooMany, InvalidProfile, OverQuota, PoolFull, MapFull}
use Rattle.vv_judge.specs.declared.answer.Verdict.{Verdict}
use Rattle.vv_judge.specs.declared.answer.Verdict.TheVariants.{Refuse, Nothing, Accept}

abbrev pub seen_refusal : Refusal → flat.Refusal
seen_refusal (NotFound name) = flat.NotFound name
seen_refusal (InvalidArgument name) = flat.InvalidArgument name
seen_refusal (IncompatibleVolume name) = flat.IncompatibleVolume name
seen_refusal (NoEndpoint name) = flat.NoEndpoint name
seen_refusal (ResourceInUse name) = flat.ResourceInUse name
seen_refusal (NotCancellable name) = flat.NotCancellable name
seen_refusal OutOfRange = flat.OutOfRange
seen_refusal WriteProtected = flat.WriteProtected
seen_refusal Exhausted = flat.Exhausted
seen_refusal (TooMany limit) = flat.TooMany limit.name limit.limit
seen_refusal (InvalidProfile at why) = flat.InvalidProfile at why
seen_refusal (OverQuota charged asked quota) = flat.OverQuota charged asked quota
seen_refusal (PoolFull free asked) = flat.PoolFull free asked
seen_refusal (MapFull entries asked limit) = flat.MapFull entries asked limit

abbrev pub seen_verdict : Verdict → flat.Verdict
seen_verdict (Refuse refusal) = flat.Refuse (seen_refusal refusal)
seen_verdict Nothing = flat.Nothing
seen_verdict Accept = flat.Accept

-- the refusal of a check, if it refuses
abbrev pub seen_check : Option Refusal → Option flat.Refusal
seen_check None = None
seen_check (Some refusal) = Some (seen_refusal refusal)

-- the first refusal of some checks in their order
unfoldable pub refused_by : List (Option flat.Refusal) → Option flat.Refusal
refused_by checks = first_refusal checks
