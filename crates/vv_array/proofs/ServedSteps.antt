-- How a call that an array which is up serves is a step of its state, by how the call ended. This serves calls of an array.
use Rattle.std.proofs.Common.{inl, inr, ⊎_elim, ℕ, List, Option, refl}
use Rattle.vv_units.specs.declared.geometry.Geometry.{Geometry}
use Rattle.vv_disk.specs.Images.{EachImage, LeavesOnly}
use Rattle.vv_disk.proofs.Moments.{leaves_weaker}
use Rattle.vv_flat.specs.State.{Array}
use Rattle.vv_flat.specs.Chunks.{ChunkValue}
use Rattle.vv_flat.specs.Profiles.{Capability}
use Rattle.vv_calls.specs.declared.call.Call.{Call}
use Rattle.vv_reply.specs.declared.reply.Reply.{Reply}
use Rattle.vv_meaning.specs.Meaning.{next}
use Rattle.vv_meaning.specs.Steps.{State, Up, Down, CallStep, Served, ReadFailed, WriteFailed, WithoutMemory, no_memory}
use Rattle.vv_array.specs.Seen.{ArrayView, IsUp, IsDown}
use Rattle.vv_array.specs.Standing.{StandsFor, StandsKept}
use Rattle.vv_array.specs.Moments.{LeftBy, StandsBetween}
use Rattle.vv_array.specs.Served.{LeftIn}
use Rattle.vv_array.specs.Reopening.{IsServedUp}
use Rattle.vv_array.specs.declared.ended.Ended.TheVariants as ended

-- what a call leaves is left between the states from before it and after it
served_between : (capabilities : List Capability) (m : Array ChunkValue) (c : Call) → EachImage (StandsBetween (Up m) (Up (next capabilities m c))) (LeftBy capabilities m c)
served_between capabilities m c image left = ⊎_elim (λ was. inl was) (λ both. inr both.1) left

failed_between : (capabilities : List Capability) (m : Array ChunkValue) (c : Call) → EachImage (StandsBetween (Up m) (Down m (next capabilities m c))) (LeftBy capabilities m c)
failed_between capabilities m c image left = ⊎_elim (λ was. inl was) (λ both. inr (inr both.1)) left

stayed_between : (m : Array ChunkValue) → EachImage (StandsBetween (Up m) (Up m)) (StandsKept m)
stayed_between m image was = inl was

module _ {D : Type 0} (moment : D → ℕ) (left_since : D → ℕ → List ℕ → Type 0) (old new : D) (capabilities : List Capability) (m : Array ChunkValue) (c : Call) (told : Option (List ℕ)) (images : List ℕ → Type 0) where
  pub replied_step : (view : ArrayView) (answer : Reply) → IsServedUp capabilities m c view told images (ended.Replied answer)
      → LeavesOnly moment left_since old new (LeftIn capabilities m c (ended.Replied answer))
      → (after : State) × StandsFor view told images after × CallStep capabilities m c answer after × LeavesOnly moment left_since old new (StandsBetween (Up m) after)
  replied_step (IsUp journal core) answer served left = (
    Up (next capabilities m c),
    served.1,
    Served served.0 refl,
    leaves_weaker moment left_since old new (LeftBy capabilities m c) (StandsBetween (Up m) (Up (next capabilities m c))) (served_between capabilities m c) left,
  )
  replied_step (IsDown geometry) answer served left = absurd served

  pub read_failed_step : (view : ArrayView) (answer : Reply) → IsServedUp capabilities m c view told images (ended.ReadFailed answer)
      → LeavesOnly moment left_since old new (LeftIn capabilities m c (ended.ReadFailed answer))
      → (after : State) × StandsFor view told images after × CallStep capabilities m c answer after × LeavesOnly moment left_since old new (StandsBetween (Up m) after)
  read_failed_step (IsUp journal core) answer served left = (
    Up m,
    served.2,
    ReadFailed served.0 served.1 refl,
    leaves_weaker moment left_since old new (StandsKept m) (StandsBetween (Up m) (Up m)) (stayed_between m) left,
  )
  read_failed_step (IsDown geometry) answer served left = absurd served

  -- the array goes down then
  pub write_failed_step : (view : ArrayView) (answer : Reply) (geometry : Geometry) → IsServedUp capabilities m c view told images (ended.WriteFailed answer)
      → LeavesOnly moment left_since old new (LeftIn capabilities m c (ended.WriteFailed answer))
      → (after : State) × StandsFor (IsDown geometry) told images after × CallStep capabilities m c answer after × LeavesOnly moment left_since old new (StandsBetween (Up m) after)
  write_failed_step (IsUp journal core) answer geometry served left = (
    Down m (next capabilities m c),
    served.2,
    WriteFailed served.0 served.1 refl,
    leaves_weaker moment left_since old new (LeftBy capabilities m c) (StandsBetween (Up m) (Down m (next capabilities m c))) (failed_between capabilities m c) left,
  )
  write_failed_step (IsDown other) answer geometry served left = absurd served

  pub memory_step : (view : ArrayView) → IsServedUp capabilities m c view told images ended.NoMemory
      → LeavesOnly moment left_since old new (LeftIn capabilities m c ended.NoMemory)
      → (after : State) × StandsFor view told images after × CallStep capabilities m c no_memory after × LeavesOnly moment left_since old new (StandsBetween (Up m) after)
  memory_step (IsUp journal core) served left = (
    Up m,
    served,
    WithoutMemory refl refl,
    leaves_weaker moment left_since old new (StandsKept m) (StandsBetween (Up m) (Up m)) (stayed_between m) left,
  )
  memory_step (IsDown geometry) served left = absurd served
