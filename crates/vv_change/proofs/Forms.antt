-- What the forms of an event say of what it names.
use Rattle.std.proofs.Common.{ℕ, ◌≡◌, ◌==◌, ◌∷◌, List, [], IsTrue, true, refl, subst, ap, ◌∙◌}
use Rattle.std.proofs.lemmas.Bool.{eqb-true}
use Rattle.vv_flat.proofs.Shares.{and_left, and_right}
use Rattle.vv_units.specs.declared.numbers.TaskId.{TaskId}
use Rattle.vv_units.specs.declared.volume.Offer.{Offer}
use Rattle.vv_flat.specs.Lists.{numbers_eq}
use Rattle.vv_flat.specs.State.{Durable}
use Rattle.vv_flat.specs.Chunks.{Entry}
use Rattle.vv_flat.specs.Changes.{MakeContainer, Turn, changed_indexes}
use Rattle.vv_flat.specs.Fields.{change_has_forms}
use Rattle.vv_flat.specs.Logs.{has_turn_indexes}
use Rattle.vv_container.specs.Forms.{have_forms}
use Rattle.vv_record.specs.declared.record.ChunkCopy.{ChunkCopy}
use Rattle.vv_record.specs.declared.record.Event.{Event}
use Rattle.vv_record.specs.declared.record.Event.TheVariants as event
use Rattle.vv_event.specs.Events.{change_of, indexes_of}
use Rattle.vv_tables.specs.Filling.{copy_indexes}

pub container_forms : (quota : ℕ) (offers : List Offer) → IsTrue (change_has_forms (MakeContainer quota offers)) → IsTrue (have_forms quota offers)
unfolding change_has_forms
container_forms quota offers forms = forms

numbers_are : (xs ys : List ℕ) → numbers_eq xs ys ≡ true → xs ≡ ys
numbers_are [] [] e = refl
numbers_are [] (y ∷ ys) e = absurd (cc)
numbers_are (x ∷ xs) [] e = absurd (cc)
numbers_are (x ∷ xs) (y ∷ ys) e =
    let head : x ≡ y = eqb-true x y (and_left (x == y) (numbers_eq xs ys) e) in
    ap (λ z. z ∷ xs) head ∙ ap (λ zs. y ∷ zs) (numbers_are xs ys (and_right (x == y) (numbers_eq xs ys) e))

-- the indexes that a turn says are those that it changes
pub turn_indexes : (d : Durable Entry) (e : Event) (task : TaskId) (copies : List ChunkCopy) → e ≡ event.Turn task copies
    → IsTrue (has_turn_indexes d (change_of e) (indexes_of e)) → copy_indexes copies ≡ changed_indexes (λ (x : Entry). x.stamp) d (Turn task.0)
unfolding change_of indexes_of
turn_indexes d e task copies is says =
    numbers_are (copy_indexes copies) (changed_indexes (λ (x : Entry). x.stamp) d (Turn task.0)) (subst (λ e. has_turn_indexes d (change_of e) (indexes_of e) ≡ true) is says)
