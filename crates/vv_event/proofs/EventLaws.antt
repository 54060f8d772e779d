-- The event of its own change, places and indexes is the same event. It serves the law.
use Rattle.std.proofs.Common.{◌≡◌, List, [], ◌∷◌, map, refl, ap, ◌∙◌}
use Rattle.vv_units.specs.declared.numbers.Place.{Place}
use Rattle.vv_units.specs.declared.numbers.EndpointId.{EndpointId}
use Rattle.vv_record.specs.declared.record.ChunkCopy.{ChunkCopy}
use Rattle.vv_record.specs.declared.record.ChunkRange.{ChunkRange}
use Rattle.vv_record.specs.declared.record.Event.{Event}
use Rattle.vv_record.specs.declared.record.Event.TheVariants.{MakeContainer, MakeVolume, DeleteVolume, GrowVolume, SetMetadata, Snapshot, FastClone, Revert, Write, Unmap, SetEndpoints, Bind, Unbind, UnbindAll, StartClone, StartCopy, Turn, Cancel}
use Rattle.vv_event.specs.Events.{change_of, places_of, indexes_of, event_of, copies_of}

-- what is taken apart item by item and put together again is the same
again : {A B : Type 0} (there : A → B) (back : B → A) → ((x : A) → back (there x) ≡ x) → (xs : List A) → map back (map there xs) ≡ xs
again there back same [] = refl
again {A} there back same (x ∷ xs) = ap (λ (y : A). y ∷ map back (map there xs)) (same x) ∙ ap (λ (ys : List A). x ∷ ys) (again there back same xs)

copies_again : (copies : List ChunkCopy) → copies_of (map (λ (c : ChunkCopy). c.index) copies) (map (λ (c : ChunkCopy). c.place.0) copies) ≡ copies
copies_again [] = refl
copies_again (c ∷ copies) = ap (λ (cs : List ChunkCopy). c ∷ cs) (copies_again copies)

pub event_again : (e : Event) → event_of (change_of e) (indexes_of e) (places_of e) ≡ e
unfolding event_of change_of indexes_of places_of
event_again (MakeContainer quota offers) = refl
event_again (MakeVolume container vtype chunks needs) = refl
event_again (DeleteVolume volume) = refl
event_again (GrowVolume volume chunks) = refl
event_again (SetMetadata volume key note) = refl
event_again (Snapshot volume) = refl
event_again (FastClone volume) = refl
event_again (Revert volume snapshot) = refl
event_again (Write volume first blocks places) =
    ap (Write volume first blocks) (again (λ (p : Place). p.0) (λ p. record { 0 = p }) (λ p. refl) places)
event_again (Unmap volume ranges) =
    ap (Unmap volume) (again (λ (r : ChunkRange). (r.first_chunk, r.chunks)) (λ r. record { first_chunk = r.0; chunks = r.1 }) (λ r. refl) ranges)
event_again (SetEndpoints host endpoints) =
    ap (SetEndpoints host) (again (λ (e : EndpointId). e.0) (λ e. record { 0 = e }) (λ e. refl) endpoints)
event_again (Bind host volume) = refl
event_again (Unbind host endpoint secondary) = refl
event_again (UnbindAll host) = refl
event_again (StartClone volume) = refl
event_again (StartCopy source base target) = refl
event_again (Turn task copies) = ap (Turn task) (copies_again copies)
event_again (Cancel task) = refl
