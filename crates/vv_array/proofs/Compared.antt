-- What an event that writes blocks says of those that it compares, and that no other event compares any. It serves
-- `is_miscompare`.
use Rattle.std.proofs.Common.{◌≡◌, ◌≢◌, ℕ, ◌==◌, Bool, true, false, not, List, Option, None, Some, IfSome, Result, Ok, Err, OnErr, refl, sym, ap, ◌∙◌, subst}
use Rattle.std.specs.Str.{bytes_eq}
use Rattle.std.proofs.lemmas.Bool.{eqb-true}
use Rattle.vv_units.specs.declared.numbers.Place.{Place}
use Rattle.vv_units.specs.declared.numbers.VolumeId.{VolumeId}
use Rattle.vv_record.specs.declared.record.Event.{Event}
use Rattle.vv_record.specs.declared.record.Event.TheVariants.{Write}
use Rattle.vv_record.specs.declared.record.Record.{Record}
use Rattle.vv_flat.specs.State.{Durable}
use Rattle.vv_flat.specs.Chunks.{Entry, compared_half}
use Rattle.vv_flat.specs.Changes as change
use Rattle.vv_flat.specs.Logs.{record_fits}
use Rattle.vv_event.specs.Events.{change_of, log_record}
use Rattle.vv_meaning.specs.Meaning.{BlocksAt, differs}
use Rattle.vv_meaning.specs.Steps.{is_write}
use Rattle.vv_core.specs.Plans.{blocks_compared, blocks_written}

-- an event that is no write compares nothing
pub plain_compares : (e : Event) → ((volume : VolumeId) (first blocks : ℕ) (places : List Place) → e ≢ Write volume first blocks places) → (at : BlocksAt) (expected : Option (List ℕ)) → false ≡ differs at (change_of e) expected
unfolding change_of
plain_compares (Write volume first blocks places) n at expected = absurd (n volume first blocks places refl)
plain_compares _ n at expected = refl

-- .. whatever is told
pub plain_told : (e : Event) → ((volume : VolumeId) (first blocks : ℕ) (places : List Place) → e ≢ Write volume first blocks places)
    → (told : Option (List ℕ)) (at : List ℕ → BlocksAt) (expected : Option (List ℕ)) → IfSome told (λ c. false ≡ differs (at c) (change_of e) expected)
plain_told e n None at expected = tt
plain_told e n (Some c) at expected = plain_compares e n (at c) expected

-- a write that compares finds others where the bytes that were read are others than its first half
pub compare_found : (e : Event) (volume : VolumeId) (first blocks : ℕ) (places : List Place) → e ≡ Write volume first blocks places → (compare : Bool) → compare ≡ true
    → (found half payload want : List ℕ) (same : Bool) → same ≡ bytes_eq found half → half ≡ compared_half blocks payload → payload ≡ want
    → (told : Option (List ℕ)) (at : List ℕ → BlocksAt) → IfSome told (λ c. found ≡ at c volume.0 first blocks)
    → IfSome told (λ c. not same ≡ differs (at c) (change_of e) (blocks_compared compare (blocks_written e) want))
unfolding change_of
compare_found e volume first blocks places is compare on found half payload want same eq half_is want_is None at read = tt
compare_found e volume first blocks places is compare on found half payload want same eq half_is want_is (Some c) at read =
    ap not (eq ∙ ap (λ (l : List ℕ). bytes_eq l half) read ∙ ap (bytes_eq (at c volume.0 first blocks)) (half_is ∙ ap (compared_half blocks) want_is))
    ∙ sym (ap (λ (x : Event). differs (at c) (change_of x) (blocks_compared compare (blocks_written x) want)) is
    ∙ ap (λ (b : Bool). differs (at c) (change.Write volume.0 first blocks) (blocks_compared b blocks want)) on)

-- a record that isn't marked fits as its event does
pub fits_unmarked : (d : Durable Entry) (r : Record) → r.first_after_open ≡ false → record_fits d (log_record r) ≡ true
    → record_fits d (log_record (record { first_after_open = false; event = r.event })) ≡ true
fits_unmarked d r unmarked fit = subst (λ (b : Bool). record_fits d (log_record (record { first_after_open = b; event = r.event })) ≡ true) unmarked fit

-- a write of some blocks moves them
some_blocks : (n : ℕ) (b : Bool) → (n == 0) ≡ b → n ≢ 0 → not b ≡ true
some_blocks n true e some = absurd (some (eqb-true n 0 e))
some_blocks n false e some = refl

pub write_moves : (e : Event) (volume : VolumeId) (first blocks : ℕ) (places : List Place) → e ≡ Write volume first blocks places → blocks ≢ 0 → is_write (change_of e) ≡ true
unfolding change_of
write_moves e volume first blocks places is some = ap (λ (x : Event). is_write (change_of x)) is ∙ some_blocks blocks (blocks == 0) refl some

pub on_err : {T E : Type 0} (r : Result T E) (P : Type 0) → P → OnErr r P
on_err (Ok x) P p = tt
on_err (Err x) P p = p
