-- What a call does to an array as it is seen: served while it is up, or told why its image couldn't be opened again.
use Rattle.std.specs.Prelude.{◌≡◌, ℕ, List, Option}
use Rattle.vv_units.specs.declared.damage.DiskFault.TheVariants as disk
use Rattle.vv_units.specs.declared.damage.Part.TheVariants.{Gate}
use Rattle.vv_flat.specs.State.{Array}
use Rattle.vv_flat.specs.Chunks.{ChunkValue}
use Rattle.vv_flat.specs.Profiles.{Capability}
use Rattle.vv_calls.specs.declared.call.Call.{Call}
use Rattle.vv_reply.specs.declared.reply.Refusal.{Refusal}
use Rattle.vv_reply.specs.declared.reply.Refusal.TheVariants as refusal
use Rattle.vv_array.specs.Seen.{ArrayView, IsUp, IsDown}
use Rattle.vv_array.specs.Served.{IsServed, HasStayed}
use Rattle.vv_array.specs.declared.ended.Ended.{Ended}
use Rattle.vv_array.specs.declared.fault.ArrayFault.{ArrayFault}
use Rattle.vv_array.specs.declared.fault.ArrayFault.TheVariants as fault

-- how a call is told that the image couldn't be opened again: that it isn't formatted is a damage of its gate
abbrev pub refusal_for : ArrayFault → Refusal
refusal_for (fault.NotFormatted found) = refusal.Damaged (record { part = Gate; place = 0; found = found })
refusal_for (fault.Damaged damage) = refusal.Damaged damage
refusal_for (fault.Disk disk.Read) = refusal.ReadFault
refusal_for (fault.Disk disk.Write) = refusal.WriteFault
refusal_for fault.NoMemory = refusal.NoMemory

-- A call was served by an array that is up, and stays up up to its end.
abbrev pub IsServedUp : List Capability → Array ChunkValue → Call → ArrayView → Option (List ℕ) → (List ℕ → Type 0) → Ended → Type 0
IsServedUp capabilities m c (IsUp journal core) told images end = IsServed capabilities m c journal core.array told images end
IsServedUp capabilities m c (IsDown geometry) told images end = ⊥

-- .. and where there was no memory, it and what is read of its disk stayed.
abbrev pub HasStayedUp : Ended → ArrayView → ArrayView → Option (List ℕ) → Option (List ℕ) → Type 0
HasStayedUp end (IsUp journal core) (IsUp later after) told now = HasStayed end journal later core after told now
HasStayedUp end (IsUp journal core) (IsDown geometry) told now = ⊥
HasStayedUp end (IsDown geometry) after told now = ⊥

-- An array that is up is as it was: its journal, its tables, queues and attentions, and the memory that it has for lists.
abbrev pub IsAsBefore : ArrayView → ArrayView → Type 0
IsAsBefore (IsUp journal core) (IsUp later after) = (later ≡ journal) × (after ≡ core)
IsAsBefore (IsUp journal core) (IsDown geometry) = ⊥
IsAsBefore (IsDown geometry) after = ⊥
