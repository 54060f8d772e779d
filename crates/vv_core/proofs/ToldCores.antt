-- What is told of an area as tables is told of it as a core. This serves cores that are read from areas.
use Rattle.std.proofs.Common.{◌≡◌, refl, ap, ◌∙◌}
use Rattle.std.specs.Prelude.{ℕ, Result, Ok, Err, IfOk, IfErr}
use Rattle.vv_flat.specs.State.{Durable, Array, empty_volatile}
use Rattle.vv_flat.specs.Chunks.{Entry}
use Rattle.vv_area.specs.declared.fault.AreaFault.{AreaFault}
use Rattle.vv_area.specs.declared.fault.AreaFault.TheVariants as fault
use Rattle.vv_tables.specs.Seen.{TablesView}
use Rattle.vv_restore.specs.Reading.{TellsArea}
use Rattle.vv_core.specs.Core.{CoreState}
use Rattle.vv_core.specs.Areas.{TellsCore}

err_is : (r : Result (Durable Entry) ℕ) (found at : ℕ) → r ≡ Err at → r ≡ Err found → found ≡ at
err_is r found at e f = cc

abbrev waits_for_none : Durable Entry → Array Entry
waits_for_none d = record { durable = d; volatile = empty_volatile }

pub core_told : (t : TablesView) (core : CoreState) (told : Result (Durable Entry) ℕ) → core.array ≡ waits_for_none t.durable → TellsArea (Ok t) told → TellsCore (Ok core) told
core_told t core (Ok d) is tells = (tells.0, is ∙ ap (λ (x : Durable Entry). waits_for_none x) tells.1)
core_told t core (Err at) is tells = tells

pub fault_told : (f : AreaFault) (told : Result (Durable Entry) ℕ) → TellsArea (Err f) told → TellsCore (Err f) told
fault_told (fault.Bad found) (Ok d) tells = tells
fault_told (fault.Rule rule found) (Ok d) tells = tells
fault_told fault.NoMemory (Ok d) tells = tt
fault_told (fault.Bad found) (Err at) tells = err_is (Err at) found at refl tells
fault_told (fault.Rule rule found) (Err at) tells = tells
fault_told fault.NoMemory (Err at) tells = tt

pub memory_told : (f : AreaFault) (told : Result (Durable Entry) ℕ) → f ≡ fault.NoMemory → TellsCore (Err f) told
memory_told f told is = rw is (none told)
  where
    none : (told : Result (Durable Entry) ℕ) → TellsCore (Err fault.NoMemory) told
    none (Ok d) = tt
    none (Err at) = tt

-- a result that is a core of these tables, or want of memory
pub either_told : (t : TablesView) (result : Result CoreState AreaFault) (told : Result (Durable Entry) ℕ) → IfOk result (λ core. core.array ≡ waits_for_none t.durable)
    → IfErr result (λ f. f ≡ fault.NoMemory) → TellsArea (Ok t) told → TellsCore result told
either_told t (Ok core) told ok err tells = core_told t core told ok tells
either_told t (Err f) told ok err tells = memory_told f told err
