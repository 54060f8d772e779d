-- When an event is planned for a change: at the lowest places that no entry names. Its record fits, and can be spelled.
use Rattle.std.specs.Prelude.{◌≡◌, false, IsTrue}
use Rattle.vv_flat.specs.State.{Durable}
use Rattle.vv_flat.specs.Chunks.{Entry}
use Rattle.vv_flat.specs.Changes.{Change}
use Rattle.vv_flat.specs.Fields.{change_has_forms}
use Rattle.vv_flat.specs.Logs.{record_fits}
use Rattle.vv_flat.specs.Plans.{planned_places}
use Rattle.vv_record.specs.declared.record.Event.{Event}
use Rattle.vv_record.specs.Spelling.{is_spellable}
use Rattle.vv_event.specs.Events.{change_of, places_of, log_record}

pub record IsPlacedEvent (d : Durable Entry) (change : Change) (e : Event) : Type 0 where
  pub change_is : change_of e ≡ change
  pub places : places_of e ≡ planned_places d change
  pub fits : IsTrue (record_fits d (log_record (record { first_after_open = false; event = e })))
  pub forms : IsTrue (change_has_forms change)
  pub spellable : IsTrue (is_spellable (record { first_after_open = false; event = e }))
